-- Each way out has its law in proofs/Strings.antt.
use Rattle.texts.specs.Answers.{PassedMet}
use Rattle.texts.proofs.Strings.{raised, joining_more, pass_none, pass_fault, pass_last}
use Rattle.texts.proofs.pass_string.Goals as goal

pub returns-then-len-at : goal.returns-then-len-at
returns-then-len-at c = pass_none _ _ _ c.if-len-at.true

pub returns-in_err-c : goal.returns-in_err-c
returns-in_err-c c =
    raised (PassedMet _ _ _) _ _ c.from_residual.ensures.1 (pass_fault c.loop-c.invariant _ c.in_err-c.ensures)

pub returns-then-c : goal.returns-then-c
returns-then-c c = pass_last c.loop-c.invariant _ c.in_ok-c.ensures c.if-c.true

pub loop-c-preserved : goal.loop-c-preserved
loop-c-preserved c = joining_more c.loop-c.invariant _ c.in_ok-c.ensures c.if-c.false

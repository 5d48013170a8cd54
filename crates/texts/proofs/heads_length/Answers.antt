-- Each way out has its law in proofs/Strings.antt.
use Rattle.std.proofs.Common.{rules}
use Rattle.texts.specs.Answers.{HeadsMet}
use Rattle.texts.proofs.Strings.{raised, parting_filled, cutting_start, on_none, on_fault, on_open, on_never}
use Rattle.texts.proofs.Strings.{on_heads, on_both, on_heads_met, on_more}
use Rattle.texts.proofs.heads_length.Goals as goal

pub returns-then-len-at : goal.returns-then-len-at
returns-then-len-at c = on_none _ _ _ c.if-len-at.true

pub loop-c-init : goal.loop-c-init
loop-c-init c = cutting_start _ _ _ c.if-len-at.false

pub returns-in_err-c : goal.returns-in_err-c
returns-in_err-c c =
    raised (HeadsMet _ _ _) _ _ c.from_residual.ensures.1
    (on_fault c.loop-c.invariant.parting c.type_inv.message _ c.in_err-c.ensures)

pub parts_after-requires-clause-open : goal.parts_after-requires-clause-open
parts_after-requires-clause-open c =
    let R = c.loop-c.invariant.parting in
    (parting_filled R, on_open R c.type_inv.message _ c.in_ok-c.ensures)

pub returns-in_err-parts : goal.returns-in_err-parts
returns-in_err-parts c =
    raised (HeadsMet _ _ _) _ _ c.from_residual-in_err-parts.ensures.1
    (on_never c.loop-c.invariant.parting c.type_inv.message _ c.in_ok-c.ensures _ c.in_err-parts.ensures)

pub overflow_mul-result : goal.overflow_mul-result
overflow_mul-result c =
    on_heads c.loop-c.invariant.parting c.type_inv.message _ c.in_ok-c.ensures _ c.in_ok-parts.ensures c.if-c.true
    (search rules)

pub overflow_add-result : goal.overflow_add-result
overflow_add-result c =
    on_both c.loop-c.invariant.parting c.type_inv.message _ c.in_ok-c.ensures _ c.in_ok-parts.ensures c.if-c.true _
    c.last_head_size.ensures (search rules)

pub returns-then-c : goal.returns-then-c
returns-then-c c =
    on_heads_met c.loop-c.invariant.parting c.type_inv.message _ c.in_ok-c.ensures _ c.in_ok-parts.ensures c.if-c.true _
    c.last_head_size.ensures

pub loop-c-preserved : goal.loop-c-preserved
loop-c-preserved c =
    on_more c.loop-c.invariant.parting c.type_inv.message _ c.in_ok-c.ensures _ c.in_ok-parts.ensures c.if-c.false

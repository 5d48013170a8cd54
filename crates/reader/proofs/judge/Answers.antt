-- Each way out has its law in proofs/Message.antt.
use Rattle.reader.proofs.Message.{judge_empty, judge_long, judge_over, judge_record, judge_refused}
use Rattle.reader.proofs.judge.Goals.{then-len-eq0-via-else-len-eq0+then-len-gt-LONGEST, then-len-eq0-via-then-len-eq0}
use Rattle.std.proofs.lemmas.Result.{err_from_is_err_and}
use Rattle.reader.proofs.judge.Goals as goal

pub returns-then-len-eq0 : goal.returns-then-len-eq0
returns-then-len-eq0 g c = elim c.then-len-eq0.branch [
  | then-len-eq0-via-then-len-eq0 w ↦ judge_empty w.if-len-eq0.true
  | then-len-eq0-via-else-len-eq0+then-len-gt-LONGEST w ↦ judge_long w.if-len-eq0.false w.if-len-gt-LONGEST.true
]

pub returns-in_err-end : goal.returns-in_err-end
returns-in_err-end g c = let p = err_from_is_err_and c.from_residual.result c.from_residual.ensures.1 in
    rw (p.1, p.2) (judge_refused c.if-len-eq0.false c.if-len-gt-LONGEST.false _ c.in_err-end.ensures)

pub returns-then-end-len : goal.returns-then-end-len
returns-then-end-len g c = judge_over c.if-len-eq0.false c.if-len-gt-LONGEST.false c.in_ok-end.ensures c.if-end-len.true

pub returns : goal.returns
returns g c = judge_record c.if-len-eq0.false c.if-len-gt-LONGEST.false c.in_ok-end.ensures c.if-end-len.false

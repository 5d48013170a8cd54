-- The law of each way out is in proofs/ValueLaws.antt.
use Rattle.std.proofs.lemmas.Result.{err_from_is_err_and}
use Rattle.writer.proofs.ValueLaws.{running_start, values_stop, values_none, running_past, values_inner_none}
use Rattle.writer.proofs.ValueLaws.{running_within}
use Rattle.writer.proofs.values.+write_values.Goals as goal
use Rattle.writer.proofs.values.+write_values.Goals.{in-Past, in-Within+in_ok-end-in-Within+else-end-entered}

pub loop-values-init : goal.loop-values-init
loop-values-init g t c = running_start c.requires c.args.allowed c.args.values.contents c.args.values.at.size c.args.out.now

pub returns-in_err-entered : goal.returns-in_err-entered
returns-in_err-entered g t c = let p = err_from_is_err_and c.from_residual.result c.from_residual.ensures.1 in
    rw p.1
    (values_none c.loop-values.at c.loop-values.invariant c.finished.ensures c.loop-values-test.true
    c.in_err-entered.ensures)

pub returns-in_err-end-in-Within : goal.returns-in_err-end-in-Within
returns-in_err-end-in-Within g t c =
    let r = c.from_residual-in_err-end-in-Within in
    let p = err_from_is_err_and r.result r.ensures.1 in
    rw p.1
    (values_inner_none c.loop-values.at c.loop-values.invariant c.finished.ensures c.loop-values-test.true
    c.in_ok-entered.entered c.in_ok-entered.ensures _ _ c.in-Within.is c.in_err-end-in-Within.ensures)

pub loop-values-preserved : goal.loop-values-preserved
loop-values-preserved g t c =
    let m = c.in_ok-entered.ensures in
    elim c.match-entered.branch [
      | in-Past w ↦
          rw (w.known-is, w.out-is, w.at-is)
          (running_past c.loop-values.at c.loop-values.invariant c.finished.ensures c.loop-values-test.true _ m _ w.in-Past.is)
      | in-Within+in_ok-end-in-Within+else-end-entered w ↦
          rw (w.known-is, w.out-is, w.at-is)
          (running_within c.loop-values.at c.loop-values.invariant c.finished.ensures c.loop-values-test.true _ m
          _ _ w.in-Within.is _ w.in_ok-end-in-Within.ensures w.if-end-entered.false _ _ w.close.ensures)
    ]

pub returns : goal.returns
returns g t c = values_stop c.loop-values.at c.loop-values.invariant c.finished.ensures c.loop-values-test.false

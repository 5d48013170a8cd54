use Rattle.reader.proofs.ReadValues.{values_inner, values_inner_refused, values_leaf, values_refused, values_start, values_stop}
use Rattle.reader.proofs.values.+read_values.Goals.{in-None, in-Some+in_ok-inside-in-Some}
use Rattle.std.proofs.Common.{ap, ◌∙◌}
use Rattle.std.proofs.lemmas.Result.{err_from_is_err_and}
use Rattle.reader.proofs.values.+read_values.Goals as goal

pub loop-slots-init : goal.loop-slots-init
loop-slots-init g t c = values_start _ _ _ _ _ _ _ c.requires

pub returns-in_err-begun : goal.returns-in_err-begun
returns-in_err-begun g t c = let p = err_from_is_err_and c.from_residual.result c.from_residual.ensures.1 in
    rw (p.1, p.2) (values_refused c.loop-slots.invariant c.stop.ensures c.loop-slots-test.true _ c.in_err-begun.ensures)

pub returns-in_err-inside-in-Some : goal.returns-in_err-inside-in-Some
returns-in_err-inside-in-Some g t c = let p = err_from_is_err_and c.from_residual-in_err-inside-in-Some.result c.from_residual-in_err-inside-in-Some.ensures.1 in
    rw (p.1, p.2) (values_inner_refused c.loop-slots.invariant c.stop.ensures c.loop-slots-test.true
    c.in_ok-begun.ensures c.in-Some.is _ c.in_err-inside-in-Some.ensures)

pub loop-slots-preserved : goal.loop-slots-preserved
loop-slots-preserved g t c = elim c.match-begun.branch [
  | in-None w ↦ rw (w.slots-is, w.known-is, w.here-is)
      (values_leaf c.loop-slots.invariant c.stop.ensures c.loop-slots-test.true c.in_ok-begun.ensures w.in-None.is)
  | in-Some+in_ok-inside-in-Some w ↦ rw (w.slots-is, w.known-is, w.here-is)
      (values_inner c.loop-slots.invariant c.stop.ensures c.loop-slots-test.true c.in_ok-begun.ensures w.in-Some.is
      w.in_ok-inside-in-Some.ensures g.met.S.Slot.swaps
      (w.keep.ensures ∙ ap (g.S.Slot.kept _ _ _) w.holder_row-row.ensures))
]

pub returns : goal.returns
returns g t c = values_stop c.loop-slots.invariant c.stop.ensures c.loop-slots-test.false _ c.passed.ensures

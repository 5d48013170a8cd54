use Rattle.reader.proofs.ThousandthLaws.{retelling_end, retelling_next, retelling_off, retelling_start}
use Rattle.reader.proofs.thousandths.retell.Goals.{in-Some, in_default}
use Rattle.reader.proofs.thousandths.retell.Goals as goal

pub loop-index-init : goal.loop-index-init
loop-index-init g c = retelling_start _ _ _ _ _

pub loop-index-preserved : goal.loop-index-preserved
loop-index-preserved g c = elim c.match-row_at.branch [
  | in-Some w ↦ rw w.table-is (retelling_next _ _ _ _ _ c.loop-index.invariant c.loop-index-test.true _ _
      w.in-Some.ensures.1 w.in_thousandths.ensures _ w.store_row.ensures)
  | in_default w ↦ rw w.table-is
      (retelling_off _ _ _ _ _ c.loop-index.invariant c.loop-index-test.true w.in_default.ensures)
]

pub returns : goal.returns
returns g c = retelling_end _ _ _ _ _ c.loop-index.invariant c.loop-index-test.false

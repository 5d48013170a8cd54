use Rattle.std.proofs.Common.{arith}
use Rattle.record.proofs.Laws.Cells.{bytes_in, bytes_out}
use Rattle.record.proofs.tables.U8Cell.store_row.Goals as goal

pub returns-then-index-rows : goal.returns-then-index-rows
returns-then-index-rows c = bytes_in _ _ _ _ _ _ _ (omega arith) c.store_eight.ensures
    c.store_eight-then-index-rows.ensures c.store_eight-then-index-rows-2.ensures
    c.store_eight-then-index-rows-3.ensures c.store_eight-then-index-rows-4.ensures

pub returns-else-index-rows : goal.returns-else-index-rows
returns-else-index-rows c = bytes_out _ _ _ (omega arith)

use Rattle.std.proofs.Common.{arith}
use Rattle.record.proofs.Laws.Cells.{numbers_in, numbers_out}
use Rattle.record.proofs.tables.U64Cell.store_row.Goals as goal

pub returns-then-index-rows : goal.returns-then-index-rows
returns-then-index-rows c = numbers_in _ _ _ _ _ _ _ (omega arith)

pub returns-else-index-rows : goal.returns-else-index-rows
returns-else-index-rows c = numbers_out _ _ _ (omega arith)

use Rattle.std.proofs.Common.{rules}
use Rattle.record.proofs.Laws.Cells.{eight_stored}
use Rattle.record.proofs.tables.store_eight.Goals as goal

pub returns : goal.returns
returns c = search (eight_stored, rules)

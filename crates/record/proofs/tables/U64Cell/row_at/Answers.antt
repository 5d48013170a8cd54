use Rattle.std.proofs.Common.{ap}
use Rattle.record.specs.Model.Answers.{as_numbers}
use Rattle.record.proofs.Laws.Cells.{chunk_there}
use Rattle.record.proofs.tables.U64Cell.row_at.Goals as goal

pub returns : goal.returns
returns c =
    let chunks = c.as_chunks.ensures in
    let there = chunk_there 5 c.args.table.now c.args.index _ _ chunks.front chunks.front_len c.in_ok-kind.ensures.lookup.3 in
    (there.0, ap as_numbers.decode there.1)

use Rattle.std.proofs.Common.{ap, ◌∙◌}
use Rattle.record.specs.Model.Rows.{row}
use Rattle.record.specs.Model.Answers.{as_bytes}
use Rattle.record.proofs.Laws.Cells.{chunk_there}
use Rattle.record.proofs.tables.U8Cell.row_at.Goals as goal

pub returns : goal.returns
returns c =
    let chunks = c.as_chunks.ensures in
    let there = chunk_there 40 c.args.table.now c.args.index _ _ chunks.front chunks.front_len c.in_ok-row.ensures.lookup.3 in (
      there.0,
      (λ i. row (c.eight_at.ensures i) (c.eight_at-2.ensures i) (c.eight_at-3.ensures i) (c.eight_at-4.ensures i)
          (c.eight_at-5.ensures i))
          ∙ ap as_bytes.decode there.1,
    )

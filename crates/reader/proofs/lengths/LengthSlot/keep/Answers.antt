-- In thousandths a row names what it named.
use Rattle.reader.proofs.LengthLaws.{told_read}
use Rattle.reader.proofs.lengths.LengthSlot.keep.Goals.{else-this-ne0, then-this-ne0}
use Rattle.reader.specs.Slots.{RowRead}
use Rattle.record.specs.Laws.RowLaws.{row_of}
use Rattle.std.proofs.Common.{subst, sym}
use Rattle.reader.proofs.lengths.LengthSlot.keep.Goals as goal

pub row_length-requires : goal.row_length-requires
row_length-requires g c = elim c.if-this-ne0.branch [
  | then-this-ne0 w ↦ rw w.row-is
      (subst (RowRead _) (sym w.in_thousandths-row.ensures) (told_read _ (row_of c.args.row) c.requires))
  | else-this-ne0 w ↦ rw w.row-is c.requires
]

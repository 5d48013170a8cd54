-- Each way out has its law in proofs/LengthLaws.antt.
use Rattle.reader.proofs.LengthLaws.{bytes_length_is, int_fits, text_length_is}
use Rattle.record.specs.Laws.RowLaws.{row_of}
use Rattle.std.proofs.Common.{rules}
use Rattle.reader.proofs.lengths.row_length.Goals as goal

pub overflow_add-result : goal.overflow_add-result
overflow_add-result c = search (int_fits, rules)

pub returns-in-Text : goal.returns-in-Text
returns-in-Text c = text_length_is _ (row_of c.args.row) c.requires c.in-Ok.kind c.in-Ok.ensures c.in-Text.is _ c.passed_length.ensures

pub returns-in-Bytes : goal.returns-in-Bytes
returns-in-Bytes c = bytes_length_is _ (row_of c.args.row) c.requires (rw c.in-Bytes.is at c.in-Ok.ensures) _ c.passed_length-in-Bytes.ensures

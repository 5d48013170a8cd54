-- Each way out has its law in proofs/ValueHeads.antt.
use Rattle.reader.proofs.Sizes.{string_fits}
use Rattle.reader.proofs.ValueHeads.{bytes_are_usual}
use Rattle.std.proofs.Common.{rules}
use Rattle.reader.proofs.heads.whole_bytes.Goals as goal

pub overflow_add-result : goal.overflow_add-result
overflow_add-result c = search (string_fits, rules)

pub returns-in-Ok : goal.returns-in-Ok
returns-in-Ok c = search (bytes_are_usual, rules)

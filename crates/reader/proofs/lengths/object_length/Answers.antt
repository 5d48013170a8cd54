use Rattle.reader.proofs.LengthLaws.{int_fits}
use Rattle.std.proofs.Common.{rules}
use Rattle.reader.proofs.lengths.object_length.Goals as goal

pub overflow_add-result : goal.overflow_add-result
overflow_add-result c = search (int_fits, rules)

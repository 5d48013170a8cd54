-- Each way out has its law in proofs/LengthLaws.antt.
use Rattle.std.proofs.Common.{rules}
use Rattle.numbers.proofs.LengthLaws.{length_single, length_no_single}
use Rattle.numbers.proofs.lengths.single_length.Goals as goal

pub returns-then-value-eq0 : goal.returns-then-value-eq0
returns-then-value-eq0 c = search (length_single, rules)

pub returns-else-value-eq0 : goal.returns-else-value-eq0
returns-else-value-eq0 c = search (length_no_single, rules)

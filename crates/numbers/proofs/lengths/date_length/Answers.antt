-- Each way out has its law in proofs/LengthLaws.antt.
use Rattle.std.proofs.Common.{rules}
use Rattle.numbers.proofs.LengthLaws.{length_minutes, length_no_minutes}
use Rattle.numbers.proofs.lengths.date_length.Goals as goal

pub returns-then-milliseconds-value : goal.returns-then-milliseconds-value
returns-then-milliseconds-value c = search (length_minutes, rules)

pub returns-else-milliseconds-value : goal.returns-else-milliseconds-value
returns-else-milliseconds-value c = search (length_no_minutes, rules)

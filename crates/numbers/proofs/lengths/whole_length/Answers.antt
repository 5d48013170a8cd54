-- Each way out has its law in proofs/LengthLaws.antt.
use Rattle.std.proofs.Common.{rules}
use Rattle.numbers.proofs.LengthLaws.{in_range_law, length_one, length_two, length_three, length_five}
use Rattle.numbers.proofs.lengths.whole_length.Goals as goal

pub returns-then-not-within : goal.returns-then-not-within
returns-then-not-within c = search (length_five, rules)

pub returns-then-not-within-2 : goal.returns-then-not-within-2
returns-then-not-within-2 c = search (length_three, in_range_law, rules)

pub returns-then-value-codes : goal.returns-then-value-codes
returns-then-value-codes c = search (length_one, rules)

pub returns-else-value-codes : goal.returns-else-value-codes
returns-else-value-codes c = search (length_two, in_range_law, rules)

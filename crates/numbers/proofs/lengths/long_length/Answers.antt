-- Each way out has its law in proofs/LengthLaws.antt.
use Rattle.std.proofs.Common.{rules}
use Rattle.numbers.proofs.Shortest.{long_codes}
use Rattle.numbers.proofs.LengthLaws.{in_range_law, length_nine}
use Rattle.numbers.proofs.lengths.long_length.Goals as goal

pub whole_length-requires : goal.whole_length-requires
whole_length-requires c = search (long_codes, in_range_law, rules)

pub returns-else-within : goal.returns-else-within
returns-else-within c = search (length_nine, rules)

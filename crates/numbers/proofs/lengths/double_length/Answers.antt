-- Each way out has its law in proofs/LengthLaws.antt.
use Rattle.std.proofs.Common.{arith, rules}
use Rattle.numbers.proofs.LengthLaws.{length_double}
use Rattle.numbers.proofs.lengths.double_length.Goals as goal

pub returns-else-value-eq0 : goal.returns-else-value-eq0
returns-else-value-eq0 c = length_double _ (search rules) (λ low. c.if-value-eq0.false (omega arith))

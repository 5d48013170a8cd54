-- Each way out has its law in proofs/LengthLaws.antt.
use Rattle.std.proofs.Common.{arith}
use Rattle.numbers.proofs.LengthLaws.{length_exact, length_byte, length_pair}
use Rattle.numbers.proofs.lengths.pair_length.Goals as goal

pub returns-in-0-to-1 : goal.returns-in-0-to-1
returns-in-0-to-1 c = length_exact c.args.u (omega arith) (omega arith)

pub returns-in-128-to-65407 : goal.returns-in-128-to-65407
returns-in-128-to-65407 c = length_pair c.args.u (omega arith) (omega arith) (omega arith) (omega arith)

pub returns-in_default : goal.returns-in_default
returns-in_default c = length_byte c.args.u (omega arith) (omega arith) (λ h k. omega arith)

pub returns-in_default-2 : goal.returns-in_default-2
returns-in_default-2 c = length_byte c.args.u (omega arith) (omega arith) (λ h k. omega arith)

-- `doubles::scaled` meets its contract.
use Rattle.std.proofs.Common.{arith}
use Rattle.scalar.proofs.DoubleLaws.{moved, shifted, scaled_is}
use Rattle.numbers.proofs.doubles.scaled.Goals as goal

pub overflow_add-result-2 : goal.overflow_add-result-2
overflow_add-result-2 c = omega (arith, (moved c.args.m c.requires.0 (omega arith)).1, shifted c.args.m c.requires.0 (omega arith))

pub returns : goal.returns
returns c = scaled_is c.args.c c.args.m c.requires.0 (omega arith)

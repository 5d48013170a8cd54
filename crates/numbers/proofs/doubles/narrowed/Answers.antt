-- `doubles::narrowed` meets its contract.
use Rattle.std.proofs.Common.{arith}
use Rattle.scalar.proofs.RuleLaws.{narrowed_is}
use Rattle.numbers.proofs.doubles.narrowed.Goals as goal

pub returns : goal.returns
returns c = (omega (arith, narrowed_is c.args.v, c.narrow_magnitude-m.ensures.0), omega arith)

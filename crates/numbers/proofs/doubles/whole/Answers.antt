-- `doubles::whole` meets its contract.
use Rattle.std.proofs.Common.{sym, arith, w16}
use mir.ValLaws.{to_z-of_z}
use Rattle.scalar.proofs.Ieee.{of_int_no_nan, whole_agrees}
use Rattle.numbers.proofs.doubles.whole.Goals as goal

pub float_to_bits-result : goal.float_to_bits-result
float_to_bits-result c = rw c.from.ensures (of_int_no_nan _ _)

pub returns : goal.returns
returns c =
    let n = c.args.n in
    let f = c.ranges.n in
    rw (c.from.ensures, to_z-of_z w16 n f) (sym (whole_agrees n (omega (arith, f.sfits))))

-- `doubles::thousandths` meets its contract.
use Rattle.std.proofs.Common.{◌∙◌, ap, sym, w32}
use borrow.Author.Rules.{sfits_of}
use mir.ValLaws.{to_z-of_z}
use Rattle.scalar.specs.Scalars.{thousandths}
use Rattle.scalar.proofs.Thousandths.{product_no_nan, thousandths_is}
use Rattle.numbers.proofs.doubles.thousandths.Goals as goal

pub float_to_bits-result : goal.float_to_bits-result
float_to_bits-result c =
    let m = c.cast_signed-m in
    let f = sfits_of m.type_inv in
    rw (c.from.ensures, to_z-of_z w32 m.result f) (product_no_nan m.result f.sfits)

pub returns : goal.returns
returns c =
    let m = c.cast_signed-m in
    let f = sfits_of m.type_inv in
    rw (c.from.ensures, to_z-of_z w32 m.result f) (sym (thousandths_is m.result) ∙ ap thousandths m.ensures)

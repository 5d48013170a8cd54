-- An arm's bytes are those of one form; others are read as any number.
use Rattle.std.proofs.Common.{arith}
use Rattle.scalar.specs.declared.Sort.TheVariants.{Long}
use Rattle.scalar.proofs.FormLaws.{forms_long}
use Rattle.numbers.proofs.Reading.{begins, passed_end}
use Rattle.numbers.proofs.Loads.{formed}
use Rattle.numbers.proofs.direct.pass_long.Goals as goal

pub returns-in_err-b : goal.returns-in_err-b
returns-in_err-b c = passed_end _ _ _ _ _ c.from_residual.ensures.1 c.in_err-b.ensures

pub returns-in-216-to-239 : goal.returns-in-216-to-239
returns-in-216-to-239 c =
    let b = c.in_ok-b.ensures in
    formed _ _ _ _ _ Long _ c.compact.ensures b.0 _ b.1
    (begins Long forms_long 0 (omega arith) (omega arith))

pub returns-in-240-to-255 : goal.returns-in-240-to-255
returns-in-240-to-255 c =
    let b = c.in_ok-b.ensures in
    formed _ _ _ _ _ Long _ c.compact-in-240-to-255.ensures b.0 _ b.1
    (begins Long forms_long 1 (omega arith) (omega arith))

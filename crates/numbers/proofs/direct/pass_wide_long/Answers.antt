-- An arm's bytes are those of one form; others are read as any number.
use Rattle.std.proofs.Common.{arith}
use Rattle.scalar.specs.declared.Sort.TheVariants.{Long}
use Rattle.scalar.proofs.FormLaws.{forms_long}
use Rattle.numbers.proofs.Reading.{begins, passed_end}
use Rattle.numbers.proofs.Loads.{formed}
use Rattle.numbers.proofs.direct.pass_wide_long.Goals as goal

pub returns-in_err-b : goal.returns-in_err-b
returns-in_err-b c = passed_end _ _ _ _ _ c.from_residual.ensures.1 c.in_err-b.ensures

pub returns-in-56-to-63 : goal.returns-in-56-to-63
returns-in-56-to-63 c =
    let b = c.in_ok-b.ensures in
    formed _ _ _ _ _ Long _ c.compact.ensures b.0 _ b.1 (begins Long forms_long 2 (omega arith) (omega arith))

pub returns-in-89 : goal.returns-in-89
returns-in-89 c =
    let b = c.in_ok-b.ensures in
    formed _ _ _ _ _ Long _ c.five_bytes.ensures b.0 _ b.1 (begins Long forms_long 3 (omega arith) (omega arith))

pub returns-in-76 : goal.returns-in-76
returns-in-76 c =
    let b = c.in_ok-b.ensures in
    formed _ _ _ _ _ Long _ c.nine_bytes.ensures b.0 _ b.1 (begins Long forms_long 4 (omega arith) (omega arith))

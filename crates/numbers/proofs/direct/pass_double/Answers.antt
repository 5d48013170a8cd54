-- An arm's bytes are those of one form; others are read as any number.
use Rattle.std.proofs.Common.{arith}
use Rattle.scalar.specs.declared.Sort.TheVariants.{Double}
use Rattle.scalar.proofs.FormLaws.{forms_double}
use Rattle.numbers.proofs.Reading.{begins, passed_end}
use Rattle.numbers.proofs.Loads.{formed}
use Rattle.numbers.proofs.direct.pass_double.Goals as goal

pub returns-in_err-b : goal.returns-in_err-b
returns-in_err-b c = passed_end _ _ _ _ _ c.from_residual.ensures.1 c.in_err-b.ensures

pub returns-in-68 : goal.returns-in-68
returns-in-68 c =
    let b = c.in_ok-b.ensures in
    formed _ _ _ _ _ Double _ c.nine_bytes.ensures b.0 _ b.1 (begins Double forms_double 5 (omega arith) (omega arith))

pub returns-in-95 : goal.returns-in-95
returns-in-95 c =
    let b = c.in_ok-b.ensures in
    formed _ _ _ _ _ Double _ c.five_bytes.ensures b.0 _ b.1 (begins Double forms_double 4 (omega arith) (omega arith))

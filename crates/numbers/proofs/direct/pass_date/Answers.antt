-- An arm's bytes are those of one form; others are read as any number.
use Rattle.std.proofs.Common.{arith}
use Rattle.scalar.specs.declared.Sort.TheVariants.{Date}
use Rattle.scalar.proofs.FormLaws.{forms_date}
use Rattle.numbers.proofs.Reading.{begins, passed_end}
use Rattle.numbers.proofs.Loads.{formed}
use Rattle.numbers.proofs.direct.pass_date.Goals as goal

pub returns-in_err-b : goal.returns-in_err-b
returns-in_err-b c = passed_end _ _ _ _ _ c.from_residual.ensures.1 c.in_err-b.ensures

pub returns-in-74 : goal.returns-in-74
returns-in-74 c =
    let b = c.in_ok-b.ensures in
    formed _ _ _ _ _ Date _ c.nine_bytes.ensures b.0 _ b.1 (begins Date forms_date 1 (omega arith) (omega arith))

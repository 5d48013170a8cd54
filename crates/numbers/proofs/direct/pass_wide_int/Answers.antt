-- An arm's bytes are those of one form; others are read as any number.
use Rattle.std.proofs.Common.{arith}
use Rattle.scalar.specs.declared.Sort.TheVariants.{Int}
use Rattle.scalar.proofs.FormLaws.{forms_int}
use Rattle.numbers.proofs.Reading.{begins, passed_end}
use Rattle.numbers.proofs.Loads.{formed}
use Rattle.numbers.proofs.direct.pass_wide_int.Goals as goal

pub returns-in_err-b : goal.returns-in_err-b
returns-in_err-b c = passed_end _ _ _ _ _ c.from_residual.ensures.1 c.in_err-b.ensures

pub returns-in-73 : goal.returns-in-73
returns-in-73 c =
    let b = c.in_ok-b.ensures in
    formed _ _ _ _ _ Int _ c.five_bytes.ensures b.0 _ b.1 (begins Int forms_int 3 (omega arith) (omega arith))

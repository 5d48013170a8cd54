-- An arm's bytes are those of one form; others are read as any number.
use Rattle.std.proofs.Common.{arith}
use Rattle.scalar.specs.declared.Sort.TheVariants.{Int}
use Rattle.scalar.proofs.FormLaws.{forms_int}
use Rattle.numbers.proofs.Reading.{begins, passed_end}
use Rattle.numbers.proofs.Loads.{formed}
use Rattle.numbers.proofs.direct.pass_int.Goals as goal

pub returns-in_err-b : goal.returns-in_err-b
returns-in_err-b c = passed_end _ _ _ _ _ c.from_residual.ensures.1 c.in_err-b.ensures

pub returns-in-128-to-191 : goal.returns-in-128-to-191
returns-in-128-to-191 c =
    let b = c.in_ok-b.ensures in
    formed _ _ _ _ _ Int _ c.compact.ensures b.0 _ b.1
    (begins Int forms_int 0 (omega arith) (omega arith))

pub returns-in-192-to-207 : goal.returns-in-192-to-207
returns-in-192-to-207 c =
    let b = c.in_ok-b.ensures in
    formed _ _ _ _ _ Int _ c.compact-in-192-to-207.ensures b.0 _ b.1
    (begins Int forms_int 1 (omega arith) (omega arith))

pub returns-in-208-to-215 : goal.returns-in-208-to-215
returns-in-208-to-215 c =
    let b = c.in_ok-b.ensures in
    formed _ _ _ _ _ Int _ c.compact-in-208-to-215.ensures b.0 _ b.1
    (begins Int forms_int 2 (omega arith) (omega arith))

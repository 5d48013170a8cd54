-- Single values: a term of the promises of the code that looks for the shortest form. The laws are in
-- proofs/NumberLaws.antt.
use Rattle.std.specs.Prelude.{cond, ℕ}
use mathlib.Core.List.{List}
use Rattle.std.proofs.Math.Option.{Option, some}
use Rattle.scalar.specs.Scalars.{Form}
use Rattle.scalar.specs.Scalars.{spelling, fits}
use Rattle.scalar.specs.Guesses.{guess}

-- a form tried, before the others
abbrev pub tried : Form → ℕ → Option (List ℕ) → Option (List ℕ)
tried w v other = cond (fits w v) (some (spelling w (guess w.rule v))) other

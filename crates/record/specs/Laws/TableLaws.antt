-- Tables: their rows, and what it is for rows to be read again. That both layouts do so is proved in
-- proofs/Laws/TableLaws.antt.
use Rattle.std.specs.Prelude.{◌≡◌, ℕ, ◌*◌, ◌≤◌, ◌<◌, List, [], ◌∷◌, length, take, drop, MatchOption}
use Rattle.std.specs.declared.option.Option as option
use Rattle.record.specs.Model.Rows.{Row}
use Rattle.record.specs.Model.Answers.{Layout, lent_rows}
use Rattle.record.specs.Laws.RowLaws.{row_of}
use Rattle.record.specs.declared.Row as code

-- the row k of a table
abbrev pub row_in_table : Layout → List ℕ → ℕ → Row
row_in_table L t k = L.decode (take L.width (drop (k * L.width) t))

-- what the code has of it: nothing, where the table has no such row
abbrev pub RowAt : Layout → List ℕ → ℕ → option.Option code.Row → Type 0
RowAt L t k r =
    MatchOption r (lent_rows L t ≤ k) (λ x. (k < lent_rows L t) × (row_of x ≡ row_in_table L t k))

-- each row has the layout's width, and is its numbers again
pub record Sound (L : Layout) (r : Row) : Type 0 where
  pub sized : length (L.encode r) ≡ L.width
  pub back : L.decode (L.encode r) ≡ r

abbrev pub All : (Row → Type 0) → List Row → Type 0
All P [] = Unit {0}
All P (r ∷ rs) = P r × All P rs

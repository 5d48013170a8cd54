-- For those who use a table: the fifth number of a row lies past the row and within the rows, and what a list, map,
-- object or definition holds is found by hopping from the row after its own, with no look at the rows between.
use Rattle.std.specs.Prelude.{◌≡◌, List, ◌∷◌, ℕ, suc, ◌≤◌, ◌<◌, length, drop, get_or}
use Rattle.record.specs.Model.Kinds.{class_kind}
use Rattle.record.specs.Model.Items.{Item}
use Rattle.record.specs.Model.Rows.{Row, row, holds}

abbrev pub row_number : List Row → ℕ → Row  -- the row number i
row_number r i = get_or r i (row 0 0 0 0 0)

-- n hops lead from the row i to the row j: one hop leads to the fifth number of a value's, name's or type's row; before
-- a value, a definition is hopped over by its own fifth number
pub data Hops (r : List Row) : ℕ → ℕ → ℕ → Type 0 where
  arrived : {i : ℕ} → Hops r 0 i i
  over_definition : {n i j : ℕ} → i < length r → (row_number r i).kind ≡ class_kind
      → Hops r (suc n) (row_number r i).after j → Hops r (suc n) i j
  over_one : {n i j : ℕ} → i < length r → ((row_number r i).kind ≡ class_kind → ⊥)
      → Hops r n (row_number r i).after j → Hops r (suc n) i j

-- the fifth number of the row i, which is the row of the item x
pub record Skips (r : List Row) (i : ℕ) (x : Item) : Type 0 where
  pub past : i < (row_number r i).after
  pub inside : (row_number r i).after ≤ length r
  pub held : Hops r (holds x) (suc i) (row_number r i).after

-- the rows of the items of a record: every row skips what it opens, and one hop leads from the first past the last
pub record Skippable (r : List Row) (is : List Item) : Type 0 where
  pub each : (i : ℕ) (x : Item) (rest : List Item) → drop i is ≡ x ∷ rest → Skips r i x
  pub whole : Hops r 1 0 (length r)

-- What is written of a whole message: whether the fifth numbers of lists, maps and objects are right. The laws are in
-- proofs/ForWriter/WrittenMessages.antt.
use Rattle.std.specs.Prelude.{◌≡◌, ℕ, suc, ◌+◌, ◌≤◌, ◌<◌, true, drop}
use mathlib.Core.List.{List}
use Rattle.record.specs.Model.Items.{Value, Item, Val}
use Rattle.record.specs.Model.Rows.{Row, span}
use Rattle.record.specs.ForWriter.WritingAt.{holding, At, row_at}

-- the fifth numbers of lists, maps and objects: those from `from` up to p are right; one is not
abbrev pub Rights : List Row → List Item → ℕ → ℕ → Type 0
Rights r is from p = (j : ℕ) → from ≤ j → j < p → (v : Value) → At is j (Val v) → holding v ≡ true
    → (row_at r j).after ≡ j + span (Val v) (drop (suc j) is)

pub record Wrong (r : List Row) (is : List Item) : Type 0 where
  pub row : ℕ
  pub value : Value
  pub stands : At is row (Val value)
  pub other : (row_at r row).after ≡ row + span (Val value) (drop (suc row) is) → ⊥

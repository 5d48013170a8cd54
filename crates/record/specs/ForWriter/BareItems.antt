-- No value stands among items: a term. The laws, of a type and a definition, are in proofs/ForWriter/BareItems.antt.
use Rattle.std.specs.Prelude.{List, ℕ, ◌≤◌, ◌<◌}
use Rattle.record.specs.Model.Items.{Value, Item, Val}
use Rattle.record.specs.ForWriter.WritingAt.{At}

-- from k up to p
abbrev pub NoneIn : List Item → ℕ → ℕ → Type 0
NoneIn is k p = (j : ℕ) → k ≤ j → j < p → (v : Value) → At is j (Val v) → ⊥

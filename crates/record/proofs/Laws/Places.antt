-- The place of an item lies in the message, and that of one with content opens that content: a complete scalar, or a
-- complete name, stands there.
use Rattle.std.specs.Prelude.{◌≡◌, List, [], ◌∷◌, ◌++◌, ℕ, ◌<◌, length, drop}
use Rattle.flow.specs.Flow.{Bytes, Entry, Done}
use Rattle.scalar.specs.Scalars.{DoubleRule}
use Rattle.record.specs.Model.Items.{Item, Known, start, Limits}
use Rattle.record.specs.Model.Reading.{message}
use Rattle.record.proofs.Laws.Forest.{Opens, EntryForest, no_entries, entries_beside, entry_over, entries_behind}
use Rattle.record.proofs.Laws.Nesting.{message_forest}

-- in the message m
module _ (m : List ℕ) where
  abbrev pub EntriesOpen : List (Entry Item) → Type 0
  EntriesOpen [] = Unit {0}
  EntriesOpen (e ∷ es) = (e.place < length m) × Opens (drop e.place m) e.item × EntriesOpen es

  append_open : (es fs : List (Entry Item)) → EntriesOpen es → EntriesOpen fs → EntriesOpen (es ++ fs)
  append_open [] fs p q = q
  append_open (e ∷ es) fs p q = (p.0, p.1, append_open es fs p.2 q)

  forest_open : {k : ℕ} {es : List (Entry Item)} → EntryForest m k es → EntriesOpen es
  forest_open no_entries = tt
  forest_open (entries_beside {es = es} {fs = fs} x y) = append_open es fs (forest_open x) (forest_open y)
  forest_open (entry_over l o b x) = (l, o, forest_open x)
  forest_open (entries_behind {es = es} {fs = fs} l x e y) = (l, tt, append_open es fs (forest_open x) (forest_open y))

-- every item's place lies in the message and opens its content
pub places : (ρ : DoubleRule) (ℓ : Limits) (m : List ℕ) → Bytes m → (n : ℕ) (es : List (Entry Item)) (c : Known)
    → message ρ ℓ start 0 m ≡ Done n tt es c → EntriesOpen m es
places ρ ℓ m bytes n es c e = forest_open m (message_forest ρ ℓ m bytes n es c e)

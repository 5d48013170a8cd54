-- What a part of a spelling takes of the items: the first of them, and those left are the last. The laws are in
-- proofs/Laws/Takes.antt.
use Rattle.std.specs.Prelude.{◌≡◌}
use mathlib.Core.List.{List, [], ◌++◌}
use Prim.Native.Nat.{ℕ, ◌+◌}
use Rattle.record.specs.Model.Items.{Item, Known}
use Rattle.record.specs.Model.Shortest.{Spelling, Spelled, NoRecord, Put}

-- ---- what is taken of the items s, where this is written of them
pub data Taken (P : List Item → Type 0) (s : List Item) : Spelling → Type 0 where
  none_taken : Taken P s NoRecord
  taken : {w : List ℕ} {r : List Item} {c : Known} {t : List Item} → s ≡ t ++ r → P t → Taken P s (Spelled w r c)

-- ---- items that are so many things of one sort, one after the other
pub record Series : Type 1 where
  pub Of : ℕ → List Item → Type 0
  pub none_of : Of 0 []
  pub join : {a b : ℕ} {s t : List Item} → Of a s → Of b t → Of (a + b) (s ++ t)

-- f takes k of them
pub record Takes (F : Series) (k : ℕ) (f : Put) : Type 0 where
  pub takes : (c : Known) (s : List Item) → Taken (F.Of k) s (f c s)

-- ---- anything at all: so the items left are the last ones
abbrev pub anything : Series
anything = record { Of = λ k t. Unit {0}; none_of = tt; join = λ x y. tt }

abbrev pub Drops : Put → Type 0
Drops f = Takes anything 0 f

-- Two tables hold the same record when their rows agree in all but place and their texts and bytes have the same
-- content.
use mathlib.Core.{Path.◌≡◌, List.List, List.[], List.◌∷◌}
use Rattle.std.specs.Prelude.{ℕ}
use Rattle.record.specs.Model.Rows.{Row}
use Rattle.record.specs.Model.Claims.{content_at}

-- two rows agree in all but place, and their places open the same content, each in its own source
pub record SameRow (s t : List ℕ) (x y : Row) : Type 0 where
  pub kind : x.kind ≡ y.kind
  pub first : x.first ≡ y.first
  pub second : x.second ≡ y.second
  pub after : x.after ≡ y.after
  pub content : content_at s x.kind x.place ≡ content_at t y.kind y.place

pub data SameRecord (s t : List ℕ) : List Row → List Row → Type 0 where
  no_more : SameRecord s t [] []
  row_same : {x y : Row} {r q : List Row} → SameRow s t x y → SameRecord s t r q → SameRecord s t (x ∷ r) (y ∷ q)

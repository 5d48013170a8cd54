-- Tables that hold the same record, and what they claim.
use Rattle.std.specs.Prelude.{◌≡◌, refl, ◌↔◌, List, ◌∷◌, ℕ}
use Rattle.std.proofs.Common.{sym, ◌∙◌, ap, ap₂}
use Rattle.record.specs.Model.Items.{Item, Limits}
use Rattle.record.specs.Model.Rows.{Row, row}
use Rattle.record.specs.Model.Claims.{content_at, Claims, ClaimItems, no_rows, a_row, afters, ClaimAll}
use Rattle.record.proofs.Laws.RowLaws.{moved, item_moved}
use Rattle.record.specs.Model.Shortest.{spell}
use Rattle.record.specs.Model.Answers.{shortest_of}
use Rattle.flow.specs.Flow.{on_some}
use Rattle.record.proofs.Laws.Claimed.{all_claimed}
use Rattle.record.specs.Model.Same.{SameRow, SameRecord, no_more, row_same}

-- ---- a table that holds a record holds the same as another exactly when both claim the same items
same_claims : (s t : List ℕ) (x y : Row) (i : Item) → SameRow s t x y → Claims (content_at s) x i
    → Claims (content_at t) y i
same_claims s t x y i h c = record {
  agrees = item_moved x.place x.after y.place y.after i ∙ ap (λ (z : Row). moved z y.place y.after)
      c.agrees ∙ (λ j. row (h.kind j) y.place (h.first j) (h.second j) y.after);
  content = sym h.content ∙ c.content;
}

claims_same : (s t : List ℕ) (x y : Row) (i : Item) → x.after ≡ y.after → Claims (content_at s) x i
    → Claims (content_at t) y i → SameRow s t x y
claims_same s t x y i f c d =
    let e : moved x y.place y.after ≡ y = ap (λ (z : Row). moved z y.place y.after) (sym c.agrees)
    ∙ sym (item_moved x.place x.after y.place y.after i) ∙ d.agrees in
    record {
      kind = ap (λ (z : Row). z.kind) e;
      first = ap (λ (z : Row). z.first) e;
      second =
          ap (λ (z : Row). z.second) e;
      after = f;
      content = c.content ∙ sym d.content;
    }

pub same_exactly : (s t : List ℕ) {r : List Row} {is : List Item} → ClaimAll (content_at s) r is → (q : List Row)
    → SameRecord s t r q ↔ ClaimAll (content_at t) q is
same_exactly s t {r} {is} c q = (
  λ h. record { each = forward c.each h; fifths = sym (same_fifths h) ∙ c.fifths },
  λ d. backward c.each d.each (c.fifths ∙ sym d.fifths),
)
  where
    forward : {r : List Row} {is : List Item} {q : List Row} → ClaimItems (content_at s) r is → SameRecord s t r q
        → ClaimItems (content_at t) q is
    forward no_rows no_more = no_rows
    forward (a_row {x = x} {i = i} c cs) (row_same {y = y} h hs) = a_row (same_claims s t x y i h c) (forward cs hs)

    same_fifths : {r q : List Row} → SameRecord s t r q → afters r ≡ afters q
    same_fifths no_more = refl
    same_fifths (row_same h hs) = ap₂ (λ (n : ℕ) (l : List ℕ). n ∷ l) h.after (same_fifths hs)

    backward : {r : List Row} {is : List Item} {q : List Row} → ClaimItems (content_at s) r is
        → ClaimItems (content_at t) q is → afters r ≡ afters q → SameRecord s t r q
    backward no_rows no_rows e = no_more
    backward (a_row {x = x} {i = i} c cs) (a_row {x = y} d ds) e =
        row_same (claims_same s t x y i (cc) c d) (backward cs ds (cc))

-- so two tables of the same record have one shortest message: true copies are equal byte for byte
pub one_message : (ℓ : Limits) (open_from : ℕ) (s t : List ℕ) {r : List Row} {is : List Item}
    → ClaimAll (content_at s) r is → (q : List Row) → SameRecord s t r q
    → shortest_of ℓ open_from (content_at s) r ≡ shortest_of ℓ open_from (content_at t) q
unfolding shortest_of
one_message ℓ open_from s t c q h = ap (on_some (spell ℓ open_from)) (all_claimed (content_at s) c
    ∙ sym (all_claimed (content_at t) ((same_exactly s t c q).0 h)))

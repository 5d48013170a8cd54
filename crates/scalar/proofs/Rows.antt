-- A choice by ranges of a byte: the range that the byte lies in, or none.
use Rattle.std.specs.Prelude.{◌≡◌, refl, Bool, true, ◌&&◌, ◌||◌, List, [], ◌∷◌, ℕ, zero, suc, ◌≤◌, ◌<◌, T, leb, get_or}
use Rattle.std.proofs.Common.{⊎_elim, arith, leb→le}
use Rattle.std.proofs.Math.Facts.{or_yes}
use Rattle.flow.specs.Flow.{pick, within}
use Rattle.flow.specs.Tests.{pick_either, within_is, and_left, and_right, took_in, left_below, left_above}

-- the bytes from `from` to below `below`, and what each of them says
pub record Row (A : Type 0) : Type 0 where
  pub from : ℕ
  pub below : ℕ
  pub says : ℕ → A

abbrev pub row : {A : Type 0} → ℕ → ℕ → (ℕ → A) → Row A
row lo hi f = record { from = lo; below = hi; says = f }

module _ {A : Type 0} (none : A) where
  -- the first row that the byte lies in
  abbrev pub chosen : List (Row A) → ℕ → A
  chosen [] b = none
  chosen (r ∷ rs) b = pick (within r.from r.below b) (r.says b) (chosen rs b)

  abbrev pub nth : List (Row A) → ℕ → Row A
  nth rs i = get_or rs i (row 0 0 (λ b. none))

  -- the row with the index i has no byte of a row before it
  abbrev pub apart : List (Row A) → ℕ → Bool
  apart [] i = true
  apart (r ∷ rs) zero = true
  apart (r ∷ rs) (suc i) = (leb r.below (nth rs i).from || leb (nth rs i).below r.from) && apart rs i

  pub chosen_at : (rs : List (Row A)) (i : ℕ) → T (apart rs i) → {b : ℕ} → (nth rs i).from ≤ b → b < (nth rs i).below
      → (nth rs i).says b ≡ chosen rs b
  chosen_at [] i t h k = absurd (omega arith)
  chosen_at (r ∷ rs) zero t h k = took_in (chosen rs _) h k refl
  chosen_at (r ∷ rs) (suc i) t {b} h k =
      let e = chosen_at rs i (and_right (over || under) (apart rs i) t) h k in
      ⊎_elim
      (λ x. let l : r.below ≤ b = omega (arith, leb→le r.below (nth rs i).from x) in
      left_above r.from (r.says b) l e)
      (λ x. let l : b < r.from = omega (arith, leb→le (nth rs i).below r.from x) in
      left_below r.below (r.says b) l e)
      (or_yes over under (and_left (over || under) (apart rs i) t))
    where
      over : Bool
      over = leb r.below (nth rs i).from

      under : Bool
      under = leb (nth rs i).below r.from

  -- the byte lies in none of the rows
  abbrev pub Outside : List (Row A) → ℕ → Type 0
  Outside [] b = Unit {0}
  Outside (r ∷ rs) b = (r.from ≤ b → b < r.below → ⊥) × Outside rs b

  pub chosen_none : (rs : List (Row A)) (b : ℕ) → Outside rs b → none ≡ chosen rs b
  chosen_none [] b h = refl
  chosen_none (r ∷ rs) b h = pick_either (λ (x : A). none ≡ x) (within r.from r.below b)
      (λ t. let z = within_is r.from r.below b (rw t tt) in absurd (h.0 z.0 z.1))
      (λ t. chosen_none rs b h.1)

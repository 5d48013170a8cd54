-- What is lent for rows, and what keeping a row makes of it: m is the message, t the numbers that are lent, k the row's
-- number. None of it has to be believed.
use Rattle.std.specs.Prelude.{◌≡◌, ℕ, suc, ◌+◌, ◌%◌, ◌^◌, ◌<◌, Bool, true, false, List, [], ◌∷◌, slice_index, slice_set, refl}
use Rattle.std.proofs.Common.{ap, arith}
use Rattle.flow.specs.Flow.{put}
use Rattle.flow.specs.OverlayLaws.{put_put}
use Rattle.scalar.specs.declared.Encoding.TheVariants.{Utf8, Binary}
use Rattle.scalar.specs.Scalars.{DoubleRule, Floats, Thousandths}
use Rattle.texts.specs.Answers.{StringHas}
use Rattle.record.specs.Model.Kinds.{bytes_kind}
use Rattle.record.specs.Model.Rows.{Row}
use Rattle.record.specs.Model.Claims.{is_text_kind}
use Rattle.record.specs.Model.Answers.{Layout}
use Rattle.record.specs.Model.Calls.{Keeps}
use Rattle.record.specs.Laws.RowLengths.{length_under}

-- a row whose length can be told: the text or byte string that it names was read
pub record RowRead (m : List ℕ) (r : Row) : Type 0 where
  pub text : is_text_kind r.kind ≡ true → StringHas Utf8 m r.place r.first r.second
  pub binary : r.kind ≡ bytes_kind → StringHas Binary m r.place r.first r.first

-- what keeping a row makes of the numbers
abbrev pub Keeping : Type 0
Keeping = (m t : List ℕ) (k : ℕ) → Row → List ℕ

-- rows may be kept in any order
pub record Swaps (K : Keeping) : Type 0 where
  pub swap : (m t : List ℕ) (i j : ℕ) (x y : Row) → i < j → K m (K m t i x) j y ≡ K m (K m t j y) i x

-- rows from the row k on
abbrev pub keep_all : Keeping → List ℕ → List ℕ → ℕ → List Row → List ℕ
keep_all K m t k [] = t
keep_all K m t k (r ∷ rs) = keep_all K m (K m t k r) (suc k) rs

-- ---- a table of this layout has the row, where it fits
abbrev pub laid : Layout → Keeping
laid L m t k r = put L.width L.encode t k r

pub laid_swaps : (L : Layout) → Keeps L → Swaps (laid L)
laid_swaps L keeps = record { swap = λ m t i j x y l. put_put L.width L.encode keeps.sized t i j x y l }

-- ---- a sum has the row's own bytes by a rule of 5f, in 64 bits
abbrev pub rule_of : (in_thousandths : Bool) → DoubleRule
rule_of false = Floats
rule_of true = Thousandths

abbrev pub add_to : List ℕ → ℕ → List ℕ
add_to t n = slice_set t 0 ((slice_index t 0 + n) % 2 ^ 64)

abbrev pub added : DoubleRule → Keeping
added ρ m t k r = add_to t (length_under ρ m r)

add_swap : (t : List ℕ) (a b : ℕ) → add_to (add_to t a) b ≡ add_to (add_to t b) a
add_swap [] a b = refl
add_swap (x ∷ t) a b = ap (λ (z : ℕ). z ∷ t) (swapped x a b)
  where
    swapped : (x a b : ℕ) → ((x + a) % 2 ^ 64 + b) % 2 ^ 64 ≡ ((x + b) % 2 ^ 64 + a) % 2 ^ 64
    swapped x a b = omega arith

pub added_swaps : (ρ : DoubleRule) → Swaps (added ρ)
added_swaps ρ = record { swap = λ m t i j x y l. add_swap t (length_under ρ m x) (length_under ρ m y) }

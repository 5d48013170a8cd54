-- How long the shortest form of a value is, by the ranges of ints and longs, and by what divides doubles and dates.
use Rattle.std.proofs.Common.{◌≡◌, ℕ, suc, ◌+◌, ◌*◌, ◌%◌, ◌^◌, ◌<◌, ◌≤◌, Bool, true, false, ltb, List, ◌∷◌, length, pos, ◌*ℤ◌, sym, refl, ap, ◌∙◌, arith, w16, w32, w64, Fits, to_z, of_z, ltb-false, ltb-true}
use mathlib.Core.Option.{Option, some}
use lib.Signed.{quot_z}
use Rattle.flow.specs.Tests.{split}
use Rattle.wire.specs.BigEndian.{be}
use Rattle.wire.specs.Laws.{be_length}
use Rattle.scalar.specs.declared.Sort.{Sort}
use Rattle.scalar.specs.declared.Sort.TheVariants.{Int, Long, Double, Date}
use Rattle.scalar.specs.declared.Rule.TheVariants.{Minutes, WholePair}
use Rattle.scalar.specs.Scalars.{whole, widened, value, Form, forms_of, shortest}
use Rattle.scalar.specs.Guesses.{whole_guess, narrowed, guess}
use Rattle.scalar.proofs.RuleLaws.{value_minutes, value_pair, value_float, guess_minutes, guess_pair, guess_float}
use Rattle.scalar.proofs.FormLaws.{shortest_none}
use Rattle.scalar.specs.Answers.{length_of}
use Rattle.scalar.proofs.AnswerLaws.{length_none, length_some}
use Rattle.scalar.proofs.NumberLengths.{float_guessed}
use Rattle.numbers.specs.declared.stores.Codes.{Codes}
use Rattle.numbers.specs.Answers.{single_form, HasCodes, Within}
use Rattle.numbers.proofs.Shortest.{single_held, single_other, int_codes, long_codes, plain_held}
use Rattle.numbers.proofs.Shortest.{whole_one, whole_two, whole_three, whole_five, not_five}
use Rattle.numbers.proofs.Shortest.{pair_zero, pair_one, pair_byte, pair_only, double_float, double_plain}
use Rattle.numbers.proofs.Shortest.{double_wide, date_minutes, date_plain}

-- by the shortest form itself
pub length_as : {o : Option (List ℕ)} {b : List ℕ} → o ≡ some b → length b ≡ length_of o
length_as {o} {b} e = sym (ap length_of e ∙ length_some b)

length_by_law : {o : Option (List ℕ)} (code k u : ℕ) → o ≡ some (code ∷ be k u) → suc k ≡ length_of o
length_by_law code k u e = ap suc (sym (be_length k u)) ∙ length_as e

-- ---- ranges: a test of one, passed or failed
pub in_range_law : (v d : ℕ) {b : Bool} → b ≡ ltb ((v + d) % 2 ^ 64) (2 * d) → b ≡ true → Within d v
in_range_law v d e h = ltb-true ((v + d) % 2 ^ 64) (2 * d) (sym e ∙ h)

past_range : (v d : ℕ) {b : Bool} → b ≡ ltb ((v + d) % 2 ^ 64) (2 * d) → b ≡ false → 2 * d ≤ (v + d) % 2 ^ 64
past_range v d e h = ltb-false ((v + d) % 2 ^ 64) (2 * d) (sym e ∙ h)

-- ---- ints and longs: the range of a form lies in that of each longer one
module _ {c : Codes} (k : HasCodes c) (v : ℕ) (l : Fits w64 v) where
  pub length_one : {x : ℕ} → x ≡ (v + c.zero) % 2 ^ 64 → x < c.count → 1 ≡ length_of (shortest (forms_of c.sort) v)
  length_one e h = length_as (whole_one k v l e h)

  pub length_two : {x : ℕ} → x ≡ (v + c.zero) % 2 ^ 64 → c.count ≤ x → Within 0x800 v
      → 2 ≡ length_of (shortest (forms_of c.sort) v)
  length_two e h i = length_as (whole_two k v l e h refl i)

  past_one : 0x1000 ≤ (v + 0x800) % 2 ^ 64 → c.count ≤ (v + c.zero) % 2 ^ 64
  past_one h = let few = k.one_fits in let low = k.zero_fits in let f = l.fits in omega arith

  pub length_three : {b : Bool} → b ≡ ltb ((v + 0x800) % 2 ^ 64) 0x1000 → b ≡ false → Within 0x4_0000 v
      → 3 ≡ length_of (shortest (forms_of c.sort) v)
  length_three e f i = let h = past_range v 0x800 e f in length_as (whole_three k v l refl (past_one h) refl h refl i)

  past_two : 0x8_0000 ≤ (v + 0x4_0000) % 2 ^ 64 → 0x1000 ≤ (v + 0x800) % 2 ^ 64
  past_two h = let f = l.fits in omega arith

  pub length_five : {b : Bool} → b ≡ ltb ((v + 0x4_0000) % 2 ^ 64) 0x8_0000 → b ≡ false → Within 0x8000_0000 v
      → 5 ≡ length_of (shortest (forms_of c.sort) v)
  length_five e f i =
      let h = past_range v 0x4_0000 e f in
      let g = past_two h in length_by_law c.five 4 (v % 2 ^ 32) (whole_five k v l refl (past_one g) refl g refl h i)

-- no form of 32 bits holds the number, so none shorter: ints have no other, longs one of nine bytes
module _ (v : ℕ) (l : Fits w64 v) {b : Bool} (e : b ≡ ltb ((v + 2 ^ 31) % 2 ^ 64) (2 ^ 32)) (f : b ≡ false) where
  past_five : {c : Codes} (k : HasCodes c) → shortest (forms_of c.sort) v ≡ shortest k.others v
  past_five k =
      let room = l.fits in
      let h = past_range v 0x8000_0000 e f in
      let g : 0x8_0000 ≤ (v + 0x4_0000) % 2 ^ 64 = omega arith in
      let i = past_two k v l g in
      not_five k v l refl (past_one k v l i) refl i refl g h

  pub length_no_int : 0 ≡ length_of (shortest (forms_of Int) v)
  length_no_int = sym (ap length_of (past_five int_codes ∙ shortest_none v) ∙ length_none)

  pub length_nine : 9 ≡ length_of (shortest (forms_of Long) v)
  length_nine = length_by_law 0x4c 8 v (past_five long_codes ∙ plain_held 0x4c v l.fits)

-- ---- doubles: the whole number of 16 bits u
module _ (u : ℕ) (l : u < 2 ^ 16) where
  pub length_exact : u < 2 → 1 ≡ length_of (shortest (forms_of Double) (whole (to_z w16 u)))
  length_exact h = split u 1 (λ k. length_as (pair_zero u _ l refl (omega arith)))
      (λ k. length_as (pair_one u _ l refl (omega arith)))

  module _ (h : 2 ≤ u) where
    pub length_byte : (0x80 ≤ u → u < 0xff80 → ⊥) → 2 ≡ length_of (shortest (forms_of Double) (whole (to_z w16 u)))
    length_byte o = length_by_law 0x5d 1 (u % 256) (pair_byte u _ l refl h o)

    pub length_pair : 0x80 ≤ u → u < 0xff80 → 3 ≡ length_of (shortest (forms_of Double) (whole (to_z w16 u)))
    length_pair i k = length_by_law 0x5e 2 u (pair_only u _ l refl h i k)

-- of which n is the double, if it is v
module _ (v : ℕ) {u n : ℕ} (g : u ≡ whole_guess (2 ^ 16) v) (e : n ≡ whole (to_z w16 u)) where
  pub length_whole : {r : ℕ} → r ≡ length_of (shortest (forms_of Double) (whole (to_z w16 u))) → n ≡ v
      → r ≡ length_of (shortest (forms_of Double) v)
  length_whole h q = h ∙ ap (λ (x : ℕ). length_of (shortest (forms_of Double) x)) (sym e ∙ q)

  pub not_whole : (n ≡ v → ⊥) → value WholePair (guess WholePair v) ≡ v → ⊥
  not_whole h q = h (e ∙ ap (λ (x : ℕ). whole (to_z w16 x)) (g ∙ sym (guess_pair v)) ∙ sym (value_pair _) ∙ q)

-- and it is none
module _ (v : ℕ) (h : value WholePair (guess WholePair v) ≡ v → ⊥) where
  pub length_float : (u : ℕ) → u < 2 ^ 32 → v ≡ widened u → 5 ≡ length_of (shortest (forms_of Double) v)
  length_float u l e = length_by_law 0x5f 4 u (double_float v h u (float_guessed u v l e) l e)

  pub length_plain : Fits w64 v → {u n : ℕ} → u ≡ narrowed v → n ≡ widened u → (n ≡ v → ⊥)
      → 9 ≡ length_of (shortest (forms_of Double) v)
  length_plain l g e i = length_by_law 0x44 8 v
      (double_plain v h l (λ q. i (e ∙ ap widened (g ∙ sym (guess_float v)) ∙ sym (value_float _) ∙ q)))

pub length_double : (v : ℕ) → Fits w64 v → (v % 2 ^ 29 ≡ 0 → ⊥) → 9 ≡ length_of (shortest (forms_of Double) v)
length_double v l h = length_by_law 0x44 8 v (double_wide v l h)

-- ---- dates, of whose minutes n is the milliseconds
module _ (v : ℕ) where
  pub length_minutes : {u n : ℕ} → u ≡ of_z w64 (quot_z (to_z w64 v) (pos 60_000)) % 2 ^ 32
      → n ≡ of_z w64 (to_z w32 u *ℤ pos 60_000) → n ≡ v → 5 ≡ length_of (shortest (forms_of Date) v)
  length_minutes {u} g e q = length_by_law 0x4b 4 u
      (date_minutes v u (guess_minutes v ∙ sym g) (omega arith) (value_minutes u ∙ sym e ∙ q))

  pub length_no_minutes : Fits w64 v → {u n : ℕ} → u ≡ of_z w64 (quot_z (to_z w64 v) (pos 60_000)) % 2 ^ 32
      → n ≡ of_z w64 (to_z w32 u *ℤ pos 60_000) → (n ≡ v → ⊥) → 9 ≡ length_of (shortest (forms_of Date) v)
  length_no_minutes l {u} g e i = length_by_law 0x4a 8 v
      (date_plain v l (λ q.
      i (e ∙ sym (value_minutes u) ∙ ap (value Minutes) (g ∙ sym (guess_minutes v)) ∙ q)))

-- ---- null, false and true
module _ (code v : ℕ) where
  pub length_single : v ≡ 0 → 1 ≡ length_of (shortest (single_form code) v)
  length_single h = length_as (single_held code v h)

  pub length_no_single : (v ≡ 0 → ⊥) → 0 ≡ length_of (shortest (single_form code) v)
  length_no_single h = sym (ap length_of (single_other code v h) ∙ length_none)

-- ---- a value of the kind x; of one whose forms are ws
pub length_kind : {s x : Sort} {n : ℕ} (v : ℕ) → s ≡ x → n ≡ length_of (shortest (forms_of x) v)
    → n ≡ length_of (shortest (forms_of s) v)
length_kind v e h = rw e h

pub length_forms : {s x : Sort} {n : ℕ} (v : ℕ) {ws : List Form} → s ≡ x → forms_of x ≡ ws
    → n ≡ length_of (shortest ws v) → n ≡ length_of (shortest (forms_of s) v)
length_forms v e f h = rw (e, f) h

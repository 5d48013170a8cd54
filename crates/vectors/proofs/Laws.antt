-- Laws for the proofs of the functions: what holds of each index up to a place, one law for each way out.
use mathlib.Core.Path.{◌≡◌, refl, sym, ◌∙◌}
use mathlib.Core.Bool.{Bool, true, false, ◌&&◌}
use mathlib.Core.List.{List, [], ◌∷◌}
use Rattle.std.specs.List.{fold}
use mathlib.Core.Logic.{inl, inr}
use Prim.Native.Nat.{ℕ, suc, ◌+◌, ◌-◌, ◌*◌, ◌^◌, ◌≤◌, ◌<◌}
use native.Mathlib.Numerals.{add-one}
use native.Mathlib.Omega.{arith}
use lib.Dec.{ltb, eqb}
use lib.ListN.{length, get_or, get_or-eq_default}
use borrow.Author.Count.{below_more}
use borrow.Author.Tests.{lt-ltb, eq-eqb}
use Rattle.flow.specs.Flow.{pick}
use Rattle.flow.specs.Tests.{split}
use Rattle.vectors.specs.declared.Scanned.{Scanned}
use Rattle.std.specs.Prelude.{Option, Some, None, is_some, HoldsAt}
use Rattle.vectors.specs.CaseLaws.{true_false, both_true}
use Rattle.vectors.specs.Cases.{DigitMet, digit_of, digit_at, worth, Digits, DecimalMet, TimesMet, number, sum_from}

pub digit_past : (line : List ℕ) (at : ℕ) → length line ≤ at → 16 ≡ digit_at line at
unfolding digit_of pick
digit_past line at h = rw (get_or-eq_default line 0 h) refl

-- whether a digit was found
pub digit_found : {worth : ℕ} (r : Option ℕ) {t : Bool} → DigitMet worth r → t ≡ is_some r → t ≡ true → worth < 16
digit_found (Some d) m e f = omega (arith, m.0, m.1)
digit_found None m e f = absurd (true_false (sym f ∙ e))

pub digit_missed : {worth : ℕ} (r : Option ℕ) {t : Bool} → DigitMet worth r → t ≡ is_some r → t ≡ false → worth ≡ 16
digit_missed (Some d) m e f = absurd (true_false (sym e ∙ f))
digit_missed None m e f = m

-- what is known of a number while its digits are read
pub record Reads (line : List ℕ) (at here value : ℕ) : Type 0 where
  pub onward : at ≤ here
  pub inside : at < here → here ≤ length line
  pub digits : Digits line at (here - at)
  pub so_far : value ≡ worth line at (here - at)

pub reads_none : (line : List ℕ) (at : ℕ) → Reads line at at 0
unfolding worth
reads_none line at =
    let e : at - at ≡ 0 = omega arith in
    record { onward = omega arith; inside = λ h. absurd (omega arith); digits = λ k h. absurd (omega arith); so_far = rw e refl }

-- the digits with one more
digits_more : (line : List ℕ) {at here value d : ℕ} → Reads line at here value → d ≡ digit_at line here → d ≤ 9 → Digits line at (suc (here - at))
digits_more line {at} {here} w e h =
    let q : at + (here - at) ≡ here = omega (arith, w.onward) in
    λ k l. below_more (λ (j : ℕ). digit_at line (at + j) ≤ 9) (here - at) w.digits (rw (q, sym e) h) k (rw add-one l)

-- their worth
worth_more : (line : List ℕ) {at here value d : ℕ} → Reads line at here value → d ≡ digit_at line here → value * 10 + d ≡ worth line at (suc (here - at))
unfolding worth
worth_more line {at} {here} w e =
    let q : at + (here - at) ≡ here = omega (arith, w.onward) in
    rw (q, e, w.so_far) refl

pub reads_more : (line : List ℕ) {at here value d v : ℕ} → Reads line at here value → d ≡ digit_at line here → d ≤ 9 → here < length line → v ≡ value * 10 + d → Reads line at (here + 1) v
reads_more line {at} {here} w e h l f =
    let q : here + 1 - at ≡ suc (here - at) = omega (arith, w.onward) in
    record {
      onward = omega (arith, w.onward);
      inside = λ k. omega arith;
      digits = rw q (digits_more line w e h);
      so_far = rw q (f ∙ worth_more line w e);
    }

pub too_large : (line : List ℕ) {at here value d : ℕ} {r : Option Scanned} → Reads line at here value → d ≡ digit_at line here → d ≤ 9 → 2 ^ 64 ≤ value * 10 + d → r ≡ None → DecimalMet line at r
unfolding DecimalMet
too_large line {at} {here} w e h l n = rw n (inr (suc (here - at), digits_more line w e h, omega (arith, worth_more line w e)))

pub no_digit : (line : List ℕ) {at here : ℕ} → 9 < digit_at line here → here ≡ at → DecimalMet line at None
unfolding DecimalMet
no_digit line h q = inl (rw (sym q) h)

pub number_read : (line : List ℕ) {at here value : ℕ} → Reads line at here value → 9 < digit_at line here → (here ≡ at → ⊥) → DecimalMet line at (Some (number value here))
unfolding DecimalMet
number_read line {at} {here} w h q =
    let p : at + (here - at) ≡ here = omega (arith, w.onward) in
    let n : at < here = omega (arith, w.onward, q) in
    (w.onward, w.inside n, record { some = omega arith; digits = w.digits; ends = rw p h; worth_is = w.so_far })

pub ruleset decimals = (reads_none, reads_more, too_large, no_digit, number_read)

-- ---- how often
pub times_told : (line : List ℕ) (at : ℕ) {t : Bool} (r : Option Scanned) → t ≡ ltb at (length line) && eqb (get_or line at 0) 0x2a → t ≡ true → DecimalMet line (at + 1) r → TimesMet line at r
unfolding TimesMet
times_told line at r h e m = (λ q. m, λ q. absurd (q (both_true (ltb at (length line)) (get_or line at 0) 0x2a (sym h ∙ e)).1))

pub times_once : (line : List ℕ) (at : ℕ) {t : Bool} → t ≡ ltb at (length line) && eqb (get_or line at 0) 0x2a → t ≡ false → TimesMet line at (Some (number 1 at))
unfolding TimesMet
times_once line at h e = (λ q. absurd (not_both q), λ q. refl)
  where
    not_both : get_or line at 0 ≡ 0x2a → ⊥
    not_both q =
        let l : at < length line = split at (length line) (λ l. l) (λ l. absurd (omega (arith, q, get_or-eq_default line 0 l))) in
        true_false (sym (rw (lt-ltb at (length line) l, eq-eqb (get_or line at 0) 0x2a q) refl) ∙ sym h ∙ e)

pub ruleset how_often = (times_told, times_once)

-- ---- lent bytes
-- what is below i is filled
abbrev pub FilledBelow : {A : Type 0} → (ℕ → A) → List A → ℕ → Type 0
FilledBelow filling lent i = (k : ℕ) → k < i → HoldsAt (λ x. x ≡ filling k) lent k

-- ---- checksums
pub sum_is : {A : Type 0} (counted : ℕ → A → ℕ) (l : List A) (s : ℕ) → sum_from counted s l ≡ fold counted s l
unfolding sum_from
sum_is counted [] s = refl
sum_is counted (x ∷ t) s = sum_is counted t (counted s x)

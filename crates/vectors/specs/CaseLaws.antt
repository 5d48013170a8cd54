-- What follows for a caller: the line goes on within it.
use Rattle.std.specs.Prelude.{◌≡◌, refl, Bool, true, false, ◌&&◌, List, ℕ, ◌+◌, ◌≤◌, ◌<◌, T, ltb, eqb, length, get_or, Option, Some}
use Rattle.std.proofs.Common.{sym, ◌∙◌, ap, subst, arith, ltb-true, eqb-true}
use Rattle.std.proofs.lemmas.Bool.{eqb-false}
use Rattle.flow.specs.Tests.{by_cases}
use Rattle.vectors.specs.declared.Scanned.{Scanned}
use Rattle.vectors.specs.Cases.{DecimalMet, TimesMet, number}

pub true_false : true ≡ false → ⊥
true_false e = subst T e tt

pub both_true : (t : Bool) (a b : ℕ) → t && eqb a b ≡ true → (t ≡ true) × (a ≡ b)
both_true true a b e = (refl, eqb-true a b e)
both_true false a b e = absurd (true_false (sym e))

-- where a byte stands, the line has not ended
pub stands_says : (line : List ℕ) (at b : ℕ) {t : Bool} → t ≡ ltb at (length line) && eqb (get_or line at 0) b → t ≡ true
    → at < length line
stands_says line at b h e =
    ltb-true at (length line) (both_true (ltb at (length line)) (get_or line at 0) b (sym h ∙ e)).0

pub decimal_says : (line : List ℕ) (at : ℕ) {r : Option Scanned} {value next : ℕ} → DecimalMet line at r
    → r ≡ Some (number value next) → (at < next) × (next ≤ length line)
unfolding DecimalMet
decimal_says line at m e = let w = subst (DecimalMet line at) e m in (omega (arith, w.0, w.2.some), w.1)

pub times_says : (line : List ℕ) (at : ℕ) {r : Option Scanned} {value next : ℕ} → TimesMet line at r
    → r ≡ Some (number value next) → at ≤ next
unfolding TimesMet
times_says line at {r} {value} {next} m e = by_cases (eqb (get_or line at 0) 0x2a)
    (λ t. omega (arith, (decimal_says line (at + 1) (m.0 (eqb-true (get_or line at 0) 0x2a t)) e).0))
    (λ t. let q : Some (number 1 at) ≡ Some (number value next) = sym (m.1 (eqb-false (get_or line at 0) 0x2a t)) ∙ e in
    let n : number 1 at ≡ number value next = cc in
    omega (arith, ap (λ (s : Scanned). s.next) n))

-- Readers that neither ask what is known nor give items read the same whatever is known and whatever the items are: one
-- law a combinator.
use Rattle.std.specs.Prelude.{◌≡◌, refl, Bool, true, false, cond, List, [], ◌∷◌, ℕ, ◌+◌, drop}
use Rattle.std.proofs.Common.{ap, ◌∙◌}
use Rattle.flow.specs.Flow.{Entry, Outcome, Done, Fault, Read, From, One, then, give, fail, byte_at, mapped, bind}
use Rattle.flow.specs.Steps.{before, stepped, renamed}

-- the outcome of a reader by itself, where c is known
abbrev pub lifted : {C I A : Type 0} → C → Outcome One One A → Outcome C I A
lifted c (Done n a es u) = Done n a [] c
lifted c (Fault x o) = Fault x o

-- where c is known, f reads what g reads by itself
pub record Lifts {C I A : Type 0} (c : C) (f : Read C I A) (g : Read One One A) : Type 0 where
  pub lifts : (at : ℕ) (s : List ℕ) → f c at s ≡ lifted c (g tt at s)

module _ {C I : Type 0} (c : C) where
  pub give_lifts : {A : Type 0} (a : A) → Lifts {I = I} c (give a) (give a)
  give_lifts a = record { lifts = λ at s. refl }

  pub fail_lifts : {A : Type 0} (x o : ℕ) → Lifts {I = I} {A = A} c (fail x o) (fail x o)
  fail_lifts x o = record { lifts = λ at s. refl }

  pub byte_lifts : {A : Type 0} {f : From C I A} {g : From One One A} → ((p b : ℕ) → Lifts c (f p b) (g p b))
      → Lifts c (byte_at f) (byte_at g)
  byte_lifts {A} {f} {g} h = record { lifts = go }
    where
      step : (o : Outcome One One A) → stepped {I = I} (lifted c o) ≡ lifted c (stepped o)
      step (Done n v es z) = refl
      step (Fault x o) = refl

      go : (at : ℕ) (s : List ℕ) → byte_at f c at s ≡ lifted c (byte_at g tt at s)
      go at [] = refl
      go at (b ∷ s) = ap stepped ((h at b).lifts (at + 1) s) ∙ step (g at b tt (at + 1) s)

  pub map_lifts : {A B : Type 0} (φ : A → B) {f : Read C I A} {g : Read One One A} → Lifts c f g
      → Lifts c (mapped φ f) (mapped φ g)
  map_lifts {A} φ {f} {g} h = record { lifts = λ at s. ap (renamed φ) (h.lifts at s) ∙ step (g tt at s) }
    where
      step : (o : Outcome One One A) → renamed {I = I} φ (lifted c o) ≡ lifted c (renamed φ o)
      step (Done n v es z) = refl
      step (Fault x o) = refl

  pub bind_lifts : {A B : Type 0} {f : Read C I A} {g : Read One One A} {φ : A → Read C I B} {ψ : A → Read One One B}
      → Lifts c f g → ((a : A) → Lifts c (φ a) (ψ a)) → Lifts c (bind f φ) (bind g ψ)
  bind_lifts {A} {B} {f} {g} {φ} {ψ} h k =
      record {
        lifts = λ at s. ap (λ (o : Outcome C I A). then o (λ n a es c'. before n es
            (φ a c' (at + n) (drop n s)))) (h.lifts at s) ∙ step at s (g tt at s);
      }
    where
      behind : (n : ℕ) (es : List (Entry One)) (o : Outcome One One B)
          → before {I = I} n [] (lifted c o) ≡ lifted c (before n es o)
      behind n es (Done m v fs z) = refl
      behind n es (Fault x o) = refl

      step : (at : ℕ) (s : List ℕ) (o : Outcome One One A)
          → then {I = I} (lifted c o) (λ n a es c'. before n es (φ a c' (at + n) (drop n s)))
          ≡ lifted c (then o (λ n a es c'. before n es (ψ a c' (at + n) (drop n s))))
      step at s (Done n a es z) =
          ap (before n []) ((k a).lifts (at + n) (drop n s)) ∙ behind n es (ψ a tt (at + n) (drop n s))
      step at s (Fault x o) = refl

  pub test_lifts : {A : Type 0} (t : Bool) {f f' : Read C I A} {g g' : Read One One A} → Lifts c f g → Lifts c f' g'
      → Lifts c (cond t f f') (cond t g g')
  test_lifts true h k = h
  test_lifts false h k = k

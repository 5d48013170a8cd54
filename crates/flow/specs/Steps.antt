-- What the combinators do to an outcome, by name: for proofs. A reader by itself, at a place of a whole message.
use Rattle.std.specs.Prelude.{List, ◌∷◌, ◌++◌, ℕ, suc, ◌+◌, min, length, drop}
use Rattle.flow.specs.Flow.{Entry, Outcome, Done, Read, One, then}

module _ {C I A : Type 0} where
  abbrev pub before : ℕ → List (Entry I) → Outcome C I A → Outcome C I A
  before k front o = then o (λ n a es c. Done (k + n) a (front ++ es) c)

  abbrev pub stepped : Outcome C I A → Outcome C I A
  stepped o = then o (λ n a es c. Done (suc n) a es c)

  abbrev pub renamed : {B : Type 0} → (A → B) → Outcome C I A → Outcome C I B
  renamed φ o = then o (λ n a es c. Done n (φ a) es c)

  abbrev pub top : ℕ → (A → I) → Outcome C I A → Outcome C I One
  top p x o = then o (λ n a es c. Done n tt (record { place = p; span = suc (length es); item = x a } ∷ es) c)

-- nothing is known, and there are no items
abbrev pub Answer : Type 0 → Type 0
Answer A = Outcome One One A

-- a place past the end is the end
abbrev pub alone : {A : Type 0} → Read One One A → List ℕ → ℕ → Answer A
alone f m p = f tt (min p (length m)) (drop p m)

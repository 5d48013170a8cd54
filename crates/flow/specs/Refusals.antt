-- Which refusals a reader gives, and where: P holds of the number and the place of each. The message ends at `end`, and
-- where a reader begins, at most `bound` bytes of it are left: a number that only bounds a recursion (`until`,
-- `preceded`) is no less than the bytes left, and so runs out only at the end. One law a combinator.
use Rattle.std.specs.Prelude.{◌≡◌, Bool, true, false, cond, List, [], ◌∷◌, ℕ, zero, suc, ◌+◌, ◌≤◌, ◌<◌, eqb, length, drop}
use Rattle.std.proofs.Common.{subst, arith, length-drop}
use Rattle.flow.specs.RefusalNumbers.{cut}
use Rattle.flow.specs.Flow.{Entry, Outcome, Done, Fault, Read, From, One, then, give, fail, byte_at, changing}
use Rattle.flow.specs.Flow.{asking, mapped, headed, bind, many, until, until_end, preceded, preceded_by}
use Rattle.flow.specs.Steps.{before, stepped, renamed, top}

-- of an outcome from the bytes s: no more than s is consumed, or P holds of the refusal
abbrev pub Told : {C I A : Type 0} → (ℕ → ℕ → Type 0) → List ℕ → Outcome C I A → Type 0
Told P s (Done n a es c) = n ≤ length s
Told P s (Fault x o) = P x o

pub record Tells {C I A : Type 0} (P : ℕ → ℕ → Type 0) (end bound : ℕ) (f : Read C I A) : Type 0 where
  pub tells : (c : C) (at : ℕ) (s : List ℕ) → at + length s ≡ end → length s ≤ bound → Told P s (f c at s)

abbrev pub TellsFrom : {C I A : Type 0} → (ℕ → ℕ → Type 0) → ℕ → ℕ → From C I A → Type 0
TellsFrom P end bound f = (p b : ℕ) → p < end → Tells P end bound (f p b)

module _ {C I : Type 0} {P : ℕ → ℕ → Type 0} {end : ℕ} where
  module _ {A : Type 0} {bound : ℕ} where
    fewer : {k : ℕ} {f : Read C I A} → k ≤ bound → Tells P end bound f → Tells P end k f
    fewer l h = record { tells = λ c at s e i. h.tells c at s e (omega arith) }

    pub give_tells : (a : A) → Tells {C = C} {I = I} P end bound (give a)
    give_tells a = record { tells = λ c at s e i. omega arith }

    pub fail_tells : {x o : ℕ} → P x o → Tells {C = C} {I = I} {A = A} P end bound (fail x o)
    fail_tells h = record { tells = λ c at s e i. h }

    pub asking_tells : {g : C → Read C I A} → ((c : C) → Tells P end bound (g c)) → Tells P end bound (asking g)
    asking_tells h = record { tells = λ c. (h c).tells c }

    pub changing_tells : (φ : C → C) {f : Read C I A} → Tells P end bound f → Tells P end bound (changing φ f)
    changing_tells φ h = record { tells = λ c. h.tells (φ c) }

    pub cond_tells : (t : Bool) {f g : Read C I A} → Tells P end bound f → Tells P end bound g
        → Tells P end bound (cond t f g)
    cond_tells true h k = h
    cond_tells false h k = k

    pub mapped_tells : {B : Type 0} (φ : A → B) {f : Read C I A} → Tells P end bound f → Tells P end bound (mapped φ f)
    mapped_tells φ {f} h = record { tells = λ c at s e i. go s (f c at s) (h.tells c at s e i) }
      where
        go : (s : List ℕ) (o : Outcome C I A) → Told P s o → Told P s (renamed φ o)
        go s (Done n a es c) t = t
        go s (Fault x o) t = t

    pub headed_tells : (p : ℕ) (x : A → I) {f : Read C I A} → Tells P end bound f → Tells P end bound (headed p x f)
    headed_tells p x {f} h = record { tells = λ c at s e i. go s (f c at s) (h.tells c at s e i) }
      where
        go : (s : List ℕ) (o : Outcome C I A) → Told P s o → Told P s (top p x o)
        go s (Done n a es c) t = t
        go s (Fault y o) t = t

    pub bind_tells : {B : Type 0} {f : Read C I A} {g : A → Read C I B} → Tells P end bound f
        → ((a : A) → Tells P end bound (g a)) → Tells P end bound (bind f g)
    bind_tells {B} {f} {g} h k =
        record { tells = λ c at s e i. go at s e i (f c at s) (h.tells c at s e i) }
      where
        behind : (n : ℕ) (es : List (Entry I)) (s : List ℕ) → n ≤ length s → (o : Outcome C I B)
            → Told P (drop n s) o → Told P s (before n es o)
        behind n es s l (Done m b fs c) t = omega (arith, length-drop n s)
        behind n es s l (Fault x o) t = t

        go : (at : ℕ) (s : List ℕ) → at + length s ≡ end → length s ≤ bound → (o : Outcome C I A) → Told P s o
            → Told P s (then o (λ n a es c. before n es (g a c (at + n) (drop n s))))
        go at s e i (Done n a es c) t =
            let r = length-drop n s in
            behind n es s t (g a c (at + n) (drop n s))
            ((k a).tells c (at + n) (drop n s) (omega (arith, r)) (omega (arith, r)))
        go at s e i (Fault x o) t = t

  module _ (ends : P cut end) where
    pub cut_tells : {A : Type 0} → Tells {C = C} {I = I} {A = A} P end 0 (λ c at s. Fault cut at)
    cut_tells = record { tells = λ c at s e i. subst (P cut) (omega arith) ends }

    module _ {bound : ℕ} where
      -- by the byte that is taken, fewer are left
      pub next_tells : {A : Type 0} {f : From C I A} → TellsFrom P end bound f → Tells P end (suc bound) (byte_at f)
      next_tells {A} {f} h = record { tells = go }
        where
          stepped_told : (b : ℕ) (s : List ℕ) (o : Outcome C I A) → Told P s o → Told P (b ∷ s) (stepped o)
          stepped_told b s (Done n a es c) t = omega arith
          stepped_told b s (Fault x o) t = t

          go : (c : C) (at : ℕ) (s : List ℕ) → at + length s ≡ end → length s ≤ suc bound → Told P s (byte_at f c at s)
          go c at [] e i = (cut_tells {A = A}).tells c at [] e (omega arith)
          go c at (b ∷ s) e i = stepped_told b s (f at b c (at + 1) s)
              ((h at b (omega arith)).tells c (at + 1) s (omega arith) (omega arith))

      pub byte_tells : {A : Type 0} {f : From C I A} → TellsFrom P end bound f → Tells P end bound (byte_at f)
      byte_tells h = fewer {bound = suc bound} (omega arith) (next_tells h)

      pub many_tells : {f : From C I One} → TellsFrom P end bound f → (n : ℕ) → Tells P end bound (many f n)
      many_tells h zero = give_tells tt
      many_tells h (suc n) = bind_tells (byte_tells h) (λ u. many_tells h n)

    until_tells : (e : ℕ) {f : From C I One} (k : ℕ) → TellsFrom P end k f → Tells P end k (until e f k)
    until_tells e zero h = cut_tells
    until_tells e (suc k) h =
        let h' : TellsFrom P end k _ = λ p b m. fewer (omega arith) (h p b m) in
        next_tells (λ p b m. cond_tells (eqb b e) (give_tells 0)
        (bind_tells (h' p b m) (λ u. mapped_tells suc (until_tells e k h'))))

    preceded_tells : (e : ℕ) {d : ℕ → Read C I One} {f : From C I One} (k : ℕ)
        → ((p : ℕ) → p < end → Tells P end k (d p)) → TellsFrom P end k f → TellsFrom P end k (preceded e d f k)
    preceded_tells e zero g h p b m = cond_tells (eqb b e) (bind_tells (g p m) (λ u. cut_tells)) (h p b m)
    preceded_tells e (suc k) g h p b m = cond_tells (eqb b e) (bind_tells (g p m) (λ u. next_tells
        (preceded_tells e k (λ p m. fewer (omega arith) (g p m)) (λ p b m. fewer (omega arith) (h p b m))))) (h p b m)

    -- these begin with the bytes left as the bound of their recursion
    module _ {bound : ℕ} where
      pub end_tells : (e : ℕ) {f : From C I One} → TellsFrom P end bound f → Tells P end bound (until_end e f)
      end_tells e h = record {
        tells = λ c at s l i. (until_tells e (length s) (λ p b m. fewer i (h p b m))).tells c at s l (omega arith);
      }

      pub preceded_by_tells : (e : ℕ) {d : ℕ → Read C I One} {f : From C I One}
          → ((p : ℕ) → p < end → Tells P end bound (d p)) → TellsFrom P end bound f
          → TellsFrom P end bound (preceded_by e d f)
      preceded_by_tells e g h p b m = record {
        tells = λ c at s l i. (preceded_tells e (length s) (λ p m. fewer i (g p m)) (λ p b m. fewer i (h p b m)) p b m
            ).tells c at s l (omega arith);
      }

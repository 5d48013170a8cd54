-- Bool tests: a choice by a test, what a passed test says, tests of all numbers below a bound, lists of bytes.
use Rattle.std.specs.Prelude.{◌≡◌, refl, Bool, true, false, cond, not, ◌&&◌, List, [], ◌∷◌, ◌++◌, ℕ, zero, suc, ◌+◌, ◌≤◌, ◌<◌, T, ltb, eqb, leb, take, drop, get_or}
use Rattle.std.proofs.Common.{sym, ap, ◌∙◌, arith, ltb→lt, nltb→le, eqb→eq, lt→ltb, lt-ltb, le-ltb, le-leb, eq-eqb, ne_eqb, ltb-true, ltb-false, leb-true}
use Rattle.std.proofs.Math.Decide.{ℕ_discrete}
use Rattle.std.proofs.Math.Dec.{eqb_refl, not_T}
use Rattle.std.proofs.Math.Arith.{le→nltb}
use Rattle.flow.specs.Flow.{pick, within, Bytes, same_list}
use Rattle.std.proofs.lemmas.Bool.{lt-leb}

-- ---- a choice by a test, over `cond`
pub by_test : {A : Type 0} (P : A → Type 0) (t : Bool) {x y : A} → (T t → P x) → (T (not t) → P y) → P (cond t x y)
by_test P true f g = f tt
by_test P false f g = g tt

pub pass : {A : Type 0} (t : Bool) (x y : A) {l : A} → T t → x ≡ l → cond t x y ≡ l
pass true x y h e = e
pass false x y h e = absurd h

pub skip : {A : Type 0} (t : Bool) (x y : A) {l : A} → T (not t) → y ≡ l → cond t x y ≡ l
skip true x y h e = absurd h
skip false x y h e = e

-- both answers of a test, each with its equation
pub by_cases : (t : Bool) {P : Type 0} → (t ≡ true → P) → (t ≡ false → P) → P
by_cases true f g = f refl
by_cases false f g = g refl

-- two numbers in order, or not
pub split : (a b : ℕ) {P : Type 0} → (a < b → P) → (b ≤ a → P) → P
split a b f g = by_cases (ltb a b) (λ t. f (ltb-true a b t)) (λ t. g (ltb-false a b t))

-- what a test says, for `omega (arith, tests)`
pub ruleset tests = (ltb→lt, nltb→le, eqb→eq, lt→ltb, le→nltb)

pub and_left : (a b : Bool) → T (a && b) → T a
and_left true b h = tt
and_left false b h = h

pub and_right : (a b : Bool) → T (a && b) → T b
and_right true b h = h
and_right false b h = absurd h

pub and_both : (a b : Bool) → T a → T b → T (a && b)
and_both true b p q = q
and_both false b p q = absurd p

pub neqb : (a b : ℕ) → (a ≡ b → ⊥) → T (not (eqb a b))
neqb a b h = not_T (eqb a b) (λ t. h (eqb→eq a b t))

abbrev pub implies : Bool → Bool → Bool
implies true b = b
implies false b = true

pub implied : (a b : Bool) → T (implies a b) → T a → T b
implied true b h t = h
implied false b h t = absurd t

-- ---- the same choice, shut, so that a search finds its arguments: `pick`
pub within_yes : (lo hi b : ℕ) → lo ≤ b → b < hi → within lo hi b ≡ true
within_yes lo hi b h k = rw (le-leb lo b h, lt-ltb b hi k)

pub within_below : (lo hi b : ℕ) → b < lo → within lo hi b ≡ false
within_below lo hi b h = rw (lt-leb lo b h)

pub within_above : (lo hi b : ℕ) → hi ≤ b → within lo hi b ≡ false
within_above lo hi b h = go (leb lo b)
  where
    go : (t : Bool) → t && ltb b hi ≡ false
    go true = le-ltb b hi h
    go false = refl

pub within_is : (lo hi b : ℕ) → T (within lo hi b) → (lo ≤ b) × (b < hi)
within_is lo hi b h =
    (le_of (leb lo b) refl (and_left (leb lo b) (ltb b hi) h), ltb→lt b hi (and_right (leb lo b) (ltb b hi) h))
  where
    le_of : (t : Bool) → leb lo b ≡ t → T t → lo ≤ b
    le_of true e h = leb-true lo b e
    le_of false e h = absurd h

pub pick_true : {A : Type 0} {b : Bool} (x y : A) → b ≡ true → pick b x y ≡ x
unfolding pick
pick_true {b} x y h = ap (λ (t : Bool). pick t x y) h

-- a function of either
pub pick_through : {A B : Type 0} (φ : A → B) (b : Bool) (x y : A) → φ (pick b x y) ≡ pick b (φ x) (φ y)
unfolding pick
pick_through φ true x y = refl
pick_through φ false x y = refl

pub pick_false : {A : Type 0} {b : Bool} (x y : A) → b ≡ false → pick b x y ≡ y
unfolding pick
pick_false {b} x y h = ap (λ (t : Bool). pick t x y) h

-- what holds of both ways out of a test holds of the choice
pub pick_either : {A : Type 0} (P : A → Type 0) (t : Bool) {x y : A} → (t ≡ true → P x) → (t ≡ false → P y)
    → P (pick t x y)
unfolding pick
pick_either P true f g = f refl
pick_either P false f g = g refl

module _ {A : Type 0} {r x : A} where
  pub took : {b : Bool} (y : A) → b ≡ true → r ≡ x → r ≡ pick b x y
  took {b} y h e = e ∙ sym (pick_true x y h)

  pub took_lt : {a b : ℕ} (y : A) → a < b → r ≡ x → r ≡ pick (ltb a b) x y
  took_lt {a} {b} y h e = took y (lt-ltb a b h) e

  pub took_le : {a b : ℕ} (y : A) → a ≤ b → r ≡ x → r ≡ pick (leb a b) x y
  took_le {a} {b} y h e = took y (le-leb a b h) e

  pub took_eq : {a b : ℕ} (y : A) → a ≡ b → r ≡ x → r ≡ pick (eqb a b) x y
  took_eq {a} {b} y h e = took y (eq-eqb a b h) e

  pub took_in : {lo hi b : ℕ} (y : A) → lo ≤ b → b < hi → r ≡ x → r ≡ pick (within lo hi b) x y
  took_in {lo} {hi} {b} y h k e = took y (within_yes lo hi b h k) e

module _ {A : Type 0} {r y : A} where
  pub left : {b : Bool} (x : A) → b ≡ false → r ≡ y → r ≡ pick b x y
  left {b} x h e = e ∙ sym (pick_false x y h)

  pub left_lt : {a b : ℕ} (x : A) → b ≤ a → r ≡ y → r ≡ pick (ltb a b) x y
  left_lt {a} {b} x h e = left x (le-ltb a b h) e

  pub left_le : {a b : ℕ} (x : A) → b < a → r ≡ y → r ≡ pick (leb a b) x y
  left_le {a} {b} x h e = left x (lt-leb a b h) e

  pub left_eq : {a b : ℕ} (x : A) → (a ≡ b → ⊥) → r ≡ y → r ≡ pick (eqb a b) x y
  left_eq {a} {b} x h e = left x (ne_eqb a b h) e

  pub left_below : {lo b : ℕ} (hi : ℕ) (x : A) → b < lo → r ≡ y → r ≡ pick (within lo hi b) x y
  left_below {lo} {b} hi x h e = left x (within_below lo hi b h) e

  pub left_above : {hi b : ℕ} (lo : ℕ) (x : A) → hi ≤ b → r ≡ y → r ≡ pick (within lo hi b) x y
  left_above {hi} {b} lo x h e = left x (within_above lo hi b h) e

-- the way through a row of choices, for `search (picks, needs)`
pub ruleset picks = (took_in, left_below, left_above, took_lt, left_lt, took_eq, left_eq, took_le, left_le, refl)

-- ---- a test of all numbers below n, by computation
abbrev pub every : ℕ → (ℕ → Bool) → Bool
every zero P = true
every (suc n) P = P n && every n P

pub every_at : (n : ℕ) (P : ℕ → Bool) → T (every n P) → (b : ℕ) → b < n → T (P b)
every_at zero P h b l = absurd (omega arith)
every_at (suc n) P h b l = go (ℕ_discrete b n) (every_at n P (and_right (P n) (every n P) h) b)
  where
    go : Dec (b ≡ n) → (b < n → T (P b)) → T (P b)
    go (yes e) ih = rw e (and_left (P n) (every n P) h)
    go (no e) ih = ih (omega arith)

-- ---- lists of bytes
pub bytes_append : (s t : List ℕ) → Bytes s → Bytes t → Bytes (s ++ t)
bytes_append [] t p q = q
bytes_append (b ∷ s) t p q = (p.0, bytes_append s t p.1 q)

pub bytes_left_law : (s t : List ℕ) → Bytes (s ++ t) → Bytes s
bytes_left_law [] t h = tt
bytes_left_law (b ∷ s) t h = (h.0, bytes_left_law s t h.1)

pub bytes_right : (s t : List ℕ) → Bytes (s ++ t) → Bytes t
bytes_right [] t h = h
bytes_right (b ∷ s) t h = bytes_right s t h.1

pub bytes_drop : (n : ℕ) (s : List ℕ) → Bytes s → Bytes (drop n s)
bytes_drop zero s h = h
bytes_drop (suc n) [] h = tt
bytes_drop (suc n) (b ∷ s) h = bytes_drop n s h.1

pub bytes_take : (n : ℕ) (s : List ℕ) → Bytes s → Bytes (take n s)
bytes_take zero s h = tt
bytes_take (suc n) [] h = tt
bytes_take (suc n) (b ∷ s) h = (h.0, bytes_take n s h.1)

-- a list whose elements are all below 256 is bytes
pub bytes_all : (s : List ℕ) → ((i : ℕ) → get_or s i 0 < 256) → Bytes s
bytes_all [] f = tt
bytes_all (b ∷ s) f = (f 0, bytes_all s (λ i. f (suc i)))

-- two lists are the same
pub same_refl : (s : List ℕ) → T (same_list s s)
same_refl [] = tt
same_refl (a ∷ s) = and_both (eqb a a) (same_list s s) (eqb_refl a) (same_refl s)

pub same_eq : (s t : List ℕ) → T (same_list s t) → s ≡ t
same_eq [] [] h = refl
same_eq [] (b ∷ t) h = absurd h
same_eq (a ∷ s) [] h = absurd h
same_eq (a ∷ s) (b ∷ t) h =
    let e = eqb→eq a b (and_left (eqb a b) (same_list s t) h) in
    let d = same_eq s t (and_right (eqb a b) (same_list s t) h) in
    cc

-- a fact of the first byte
abbrev pub First : (ℕ → Type 0) → List ℕ → Type 0
First P [] = ⊥
First P (b ∷ t) = P b

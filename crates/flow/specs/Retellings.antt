-- Two readers of the message m that read alike but for what their entries are: those of the second are those of the
-- first through φ. At a place of the whole message; one law a combinator.
use Rattle.std.specs.Prelude.{◌≡◌, refl, Bool, true, false, cond, List, [], ◌∷◌, ◌++◌, map, ℕ, zero, suc, ◌+◌, ◌<◌, eqb, length, drop, get_or}
use Rattle.std.proofs.Common.{sym, ap, subst, ◌∙◌, arith, add-one, drop-cons, drop-drop, get_or-drop}
use Rattle.std.proofs.lemmas.List.{length-map}
use Rattle.flow.specs.RefusalNumbers.{cut}
use Rattle.flow.specs.Flow.{Entry, Outcome, Done, Fault, Read, From, One, then, give, fail, byte_at, changing}
use Rattle.flow.specs.Flow.{asking, mapped, headed, bind, many, until, until_end, preceded, preceded_by}
use Rattle.flow.specs.Steps.{before, stepped, renamed, top}
use Rattle.flow.specs.Lifts.{Lifts, lifted}

-- an outcome with its entries through φ
abbrev pub retold : {C I A : Type 0} → (Entry I → Entry I) → Outcome C I A → Outcome C I A
retold φ (Done n a es c) = Done n a (map φ es) c
retold φ (Fault x o) = Fault x o

-- from the place `at` of m on
pub record Retells {C I A : Type 0} (φ : Entry I → Entry I) (m : List ℕ) (at : ℕ) (f g : Read C I A) : Type 0 where
  pub retells : (c : C) → g c at (drop at m) ≡ retold φ (f c at (drop at m))

-- after the byte b at p
abbrev pub RetellsFrom : {C I A : Type 0} → (Entry I → Entry I) → List ℕ → From C I A → From C I A → Type 0
RetellsFrom φ m f g = (p b : ℕ) → get_or m p 0 ≡ b → Retells φ m (p + 1) (f p b) (g p b)

pub map_append : {A B : Type 0} (φ : A → B) (u v : List A) → map φ (u ++ v) ≡ map φ u ++ map φ v
map_append φ [] v = refl
map_append φ (x ∷ u) v = ap (λ (l : List _). φ x ∷ l) (map_append φ u v)

module _ {C I : Type 0} (φ : Entry I → Entry I) (m : List ℕ) where
  module _ {A : Type 0} (at : ℕ) where
    pub give_retells : (a : A) → Retells {C = C} φ m at (give a) (give a)
    give_retells a = record { retells = λ c. refl }

    pub fail_retells : (x o : ℕ) → Retells {C = C} {A = A} φ m at (fail x o) (fail x o)
    fail_retells x o = record { retells = λ c. refl }

    pub asking_retells : {f g : C → Read C I A} → ((c : C) → Retells φ m at (f c) (g c))
        → Retells φ m at (asking f) (asking g)
    asking_retells h = record { retells = λ c. (h c).retells c }

    pub changing_retells : (ψ : C → C) {f g : Read C I A} → Retells φ m at f g
        → Retells φ m at (changing ψ f) (changing ψ g)
    changing_retells ψ h = record { retells = λ c. h.retells (ψ c) }

    pub cond_retells : (t : Bool) {f g f' g' : Read C I A} → Retells φ m at f g → Retells φ m at f' g'
        → Retells φ m at (cond t f f') (cond t g g')
    cond_retells true h k = h
    cond_retells false h k = k

    -- a reader that gives no entries
    pub lifts_retells : {f : Read C I A} {g : Read One One A} → ((c : C) → Lifts c f g) → Retells φ m at f f
    lifts_retells {f} {g} h = record {
      retells = λ c.
          let e = (h c).lifts at (drop at m) in
          e ∙ go c (g tt at (drop at m)) ∙ ap (retold φ) (sym e);
    }
      where
        go : (c : C) (o : Outcome One One A) → lifted {I = I} c o ≡ retold φ (lifted c o)
        go c (Done n a es u) = refl
        go c (Fault x o) = refl

    pub mapped_retells : {B : Type 0} (ψ : A → B) {f g : Read C I A} → Retells φ m at f g
        → Retells φ m at (mapped ψ f) (mapped ψ g)
    mapped_retells ψ {f} {g} h = record {
      retells = λ c. ap (renamed ψ) (h.retells c) ∙ go (f c at (drop at m));
    }
      where
        go : (o : Outcome C I A) → renamed ψ (retold φ o) ≡ retold φ (renamed ψ o)
        go (Done n a es c) = refl
        go (Fault x o) = refl

    -- an entry at p, which φ leaves as it is
    pub headed_retells : (p : ℕ) (x : A → I)
        → ((a : A) (k : ℕ) → φ (record { place = p; span = k; item = x a }) ≡ record
        { place = p; span = k; item = x a })
        → {f g : Read C I A} → Retells φ m at f g → Retells φ m at (headed p x f) (headed p x g)
    headed_retells p x fixed {f} {g} h = record {
      retells = λ c. ap (top p x) (h.retells c) ∙ go (f c at (drop at m));
    }
      where
        go : (o : Outcome C I A) → top p x (retold φ o) ≡ retold φ (top p x o)
        go (Done n a es c) =
            ap (λ (z : List (Entry I)). Done n tt z c)
            (ap (λ (k : ℕ). record { place = p; span = suc k; item = x a } ∷ map φ es) (length-map es φ)
            ∙ ap (λ (e : Entry I). e ∷ map φ es) (sym (fixed a (suc (length es)))))
        go (Fault y o) = refl

    pub bind_retells : {B : Type 0} {f g : Read C I A} {h k : A → Read C I B} → Retells φ m at f g
        → ((a : A) (q : ℕ) → Retells φ m q (h a) (k a)) → Retells φ m at (bind f h) (bind g k)
    bind_retells {B} {f} {g} {h} {k} x y = record {
      retells = λ c. ap
          (λ (o : Outcome C I A). then o (λ n a es c'. before n es (k a c' (at + n) (drop n (drop at m)))))
          (x.retells c) ∙ go (f c at (drop at m));
    }
      where
        joined : (n : ℕ) (es : List (Entry I)) (o : Outcome C I B)
            → before n (map φ es) (retold φ o) ≡ retold φ (before n es o)
        joined n es (Done j b fs c) = ap (λ (z : List (Entry I)). Done (n + j) b z c) (sym (map_append φ es fs))
        joined n es (Fault z o) = refl

        behind : (n : ℕ) (a : A) (c : C) → k a c (at + n) (drop n (drop at m))
            ≡ retold φ (h a c (at + n) (drop n (drop at m)))
        behind n a c = rw (drop-drop n at m) ((y a (at + n)).retells c)

        go : (o : Outcome C I A)
            → then (retold φ o) (λ n a es c'. before n es (k a c' (at + n) (drop n (drop at m))))
            ≡ retold φ (then o (λ n a es c'. before n es (h a c' (at + n) (drop n (drop at m)))))
        go (Done n a es c) =
            ap (before n (map φ es)) (behind n a c) ∙ joined n es (h a c (at + n) (drop n (drop at m)))
        go (Fault z o) = refl

    pub byte_retells : {f g : From C I A} → RetellsFrom φ m f g → Retells φ m at (byte_at f) (byte_at g)
    byte_retells {f} {g} h = record { retells = λ c. go c (drop at m) refl }
      where
        step : (o : Outcome C I A) → stepped (retold φ o) ≡ retold φ (stepped o)
        step (Done n a es c) = refl
        step (Fault x o) = refl

        go : (c : C) (s : List ℕ) → drop at m ≡ s → byte_at g c at s ≡ retold φ (byte_at f c at s)
        go c [] e = refl
        go c (b ∷ s) e =
            let d : get_or m at 0 ≡ b = nth at ∙ sym (get_or-drop at m 0 0) ∙ ap (λ (l : List ℕ). get_or l 0 0) e in
            let r : drop (at + 1) m ≡ s = sym (drop-drop 1 at m) ∙ ap (drop 1) e in
            ap stepped (subst (λ (l : List ℕ). g at b c (at + 1) l ≡ retold φ (f at b c (at + 1) l)) r
            ((h at b d).retells c))
            ∙ step (f at b c (at + 1) s)
          where
            nth : (i : ℕ) → get_or m i 0 ≡ get_or m (i + 0) 0
            nth i = ap (λ (j : ℕ). get_or m j 0) (omega arith)

  -- the end of the recursion
  cut_retells : {A : Type 0} (at : ℕ) → Retells {C = C} {A = A} φ m at (λ c q s. Fault cut q) (λ c q s. Fault cut q)
  cut_retells at = record { retells = λ c. refl }

  pub many_retells : {f g : From C I One} → RetellsFrom φ m f g → (n at : ℕ) → Retells φ m at (many f n) (many g n)
  many_retells h zero at = give_retells at tt
  many_retells h (suc n) at = bind_retells at (byte_retells at h) (λ u q. many_retells h n q)

  until_retells : (e : ℕ) {f g : From C I One} → RetellsFrom φ m f g → (k at : ℕ)
      → Retells φ m at (until e f k) (until e g k)
  until_retells e h zero at = cut_retells at
  until_retells e h (suc k) at = byte_retells at (λ p b d. cond_retells (p + 1) (eqb b e) (give_retells (p + 1) 0)
      (bind_retells (p + 1) (h p b d) (λ u q. mapped_retells q suc (until_retells e h k q))))

  pub end_retells : (e : ℕ) {f g : From C I One} → RetellsFrom φ m f g → (at : ℕ)
      → Retells φ m at (until_end e f) (until_end e g)
  end_retells e h at = record { retells = (until_retells e h (length (drop at m)) at).retells }

  preceded_retells : (e : ℕ) {d : ℕ → Read C I One} {f g : From C I One} → ((p at : ℕ) → Retells φ m at (d p) (d p))
      → RetellsFrom φ m f g → (k : ℕ) → RetellsFrom φ m (preceded e d f k) (preceded e d g k)
  preceded_retells e x h zero p b i = cond_retells (p + 1) (eqb b e)
      (bind_retells (p + 1) (x p (p + 1)) (λ u q. cut_retells q)) (h p b i)
  preceded_retells e x h (suc k) p b i = cond_retells (p + 1) (eqb b e)
      (bind_retells (p + 1) (x p (p + 1)) (λ u q. byte_retells q (preceded_retells e x h k))) (h p b i)

  pub preceded_by_retells : (e : ℕ) {d : ℕ → Read C I One} {f g : From C I One}
      → ((p at : ℕ) → Retells φ m at (d p) (d p)) → RetellsFrom φ m f g
      → RetellsFrom φ m (preceded_by e d f) (preceded_by e d g)
  preceded_by_retells e x h p b i = record {
    retells = (preceded_retells e x h (length (drop (p + 1) m)) p b i).retells;
  }

-- What a reader reads, by parts. `Parsed`: what is done is what the goal says of the bytes consumed, the result, the
-- items and what is known then. `Makes`: of exactly these bytes, whatever follows, the reader makes this result, these
-- items, and knows that.
use Rattle.std.specs.Prelude.{◌≡◌, refl, Bool, true, false, cond, not, List, [], ◌∷◌, ◌++◌, map, ℕ, zero, suc, ◌+◌, ◌≤◌, ◌<◌, T, eqb, length, take, drop}
use Rattle.std.proofs.Common.{sym, ◌∙◌, ap, subst, append_assoc, arith, eqb→eq, length-append, length-drop, take-add}
use Rattle.std.proofs.Math.Dec.{eqb_refl}
use Rattle.std.proofs.Math.Seq.{drop-append_seam}
use Rattle.flow.specs.Tests.{by_test, neqb, bytes_drop}
use Rattle.flow.specs.Flow.{Bytes, Entry, Outcome, Done, Fault, Read, From, One, items, then, give, byte_at}
use Rattle.flow.specs.Flow.{changing, asking, mapped, headed, bind, after, many, until, until_end, preceded}
use Rattle.flow.specs.Flow.{preceded_by}
use Rattle.flow.specs.Grammar.{Phrase, Many, finished, another, Ended, ended, Preceded, alone, first}
use Rattle.flow.specs.Steps.{before, stepped, renamed, top}

abbrev pub Goal : Type 0 → Type 0 → Type 0 → Type 1
Goal C I A = List ℕ → A → List I → C → Type 0

pub items_append : {I : Type 0} (es fs : List (Entry I)) → items (es ++ fs) ≡ items es ++ items fs
items_append [] fs = refl
items_append {I} (e ∷ es) fs = ap {B = List I} (λ l. e.item ∷ l) (items_append es fs)

-- ---- reading: from what is done to the goal
module _ {C I : Type 0} where
  abbrev pub Parsed : {A : Type 0} → Goal C I A → List ℕ → Outcome C I A → Type 0
  Parsed H s (Done n a es c) = (n ≤ length s) × H (take n s) a (items es) c
  Parsed H s (Fault x o) = Unit {0}

  pub gives : {A : Type 0} (H : Goal C I A) (a : A) (c : C) (at : ℕ) (s : List ℕ) → H [] a [] c
      → Parsed H s (give a c at s)
  gives H a c at s h = (omega arith, h)

  pub weaker : {A : Type 0} (F H : Goal C I A) (s : List ℕ) → ((u : List ℕ) (a : A) (is : List I) (c : C) → F u a is c
      → H u a is c) → (o : Outcome C I A) → Parsed F s o → Parsed H s o
  weaker F H s k (Done n a es c) p = (p.0, k (take n s) a (items es) c p.1)
  weaker F H s k (Fault x o) p = tt

  pub takes : {A : Type 0} (H : Goal C I A) (g : From C I A) (c : C) (at : ℕ) (s : List ℕ) → Bytes s
      → ((b : ℕ) (t : List ℕ) → b < 256 → Bytes t → Parsed (λ w a is c'. H (b ∷ w) a is c') t (g at b c (at + 1) t))
      → Parsed H s (byte_at g c at s)
  takes H g c at [] l k = tt
  takes {A} H g c at (b ∷ s) l k = go (g at b c (at + 1) s) (k b s l.0 l.1)
    where
      go : (o : Outcome C I A) → Parsed (λ w a is c'. H (b ∷ w) a is c') s o → Parsed H (b ∷ s) (stepped o)
      go (Done n a es c) p = (omega arith, p.1)
      go (Fault x o) p = tt

  -- what is read next: the goal, after the bytes u and the items is
  abbrev pub Behind : {A : Type 0} → Goal C I A → List ℕ → List I → Goal C I A
  Behind H u is w b js c = H (u ++ w) b (is ++ js) c

  binds_2 : {A : Type 0} (H : Goal C I A) (n : ℕ) (s : List ℕ) (es : List (Entry I)) → n ≤ length s
      → (o : Outcome C I A) → Parsed (Behind H (take n s) (items es)) (drop n s) o → Parsed H s (before n es o)
  binds_2 H n s es l (Done m b fs c) p =
      (omega (arith, length-drop n s), rw (take-add n m s, items_append es fs) p.1)
  binds_2 H n s es l (Fault x o) p = tt

  pub binds : {A B : Type 0} (F : Goal C I A) (H : Goal C I B) (f : Read C I A) (g : A → Read C I B) (c : C) (at : ℕ)
      (s : List ℕ) → Bytes s → Parsed F s (f c at s)
      → ((u : List ℕ) (a : A) (is : List I) (c₁ : C) (at₁ : ℕ) (t : List ℕ) → Bytes t → F u a is c₁
      → Parsed (Behind H u is) t (g a c₁ at₁ t)) → Parsed H s (bind f g c at s)
  binds {A} {B} F H f g c at s l p k = go (f c at s) p
    where
      go : (o : Outcome C I A) → Parsed F s o
          → Parsed H s (then o (λ n a es c'. before n es (g a c' (at + n) (drop n s))))
      go (Done n a es c₁) p = binds_2 H n s es p.0 (g a c₁ (at + n) (drop n s))
          (k (take n s) a (items es) c₁ (at + n) (drop n s) (bytes_drop n s l) p.1)
      go (Fault x o) p = tt

  pub maps : {A B : Type 0} (H : Goal C I B) (φ : A → B) (s : List ℕ) (o : Outcome C I A)
      → Parsed (λ w a is c. H w (φ a) is c) s o → Parsed H s (renamed φ o)
  maps H φ s (Done n a es c) p = p
  maps H φ s (Fault x o) p = tt

  pub heads : {A : Type 0} (H : Goal C I One) (p : ℕ) (x : A → I) (s : List ℕ) (o : Outcome C I A)
      → Parsed (λ w a is c. H w tt (x a ∷ is) c) s o → Parsed H s (top p x o)
  heads H p x s (Done n a es c) q = q
  heads H p x s (Fault y o) q = tt

-- ---- making: from the bytes to what is done
pub record Makes {C I A : Type 0} (f : Read C I A) (c : C) (w : List ℕ) (a : A) (is : List I) (c' : C) : Type 0 where
  pub makes : (at : ℕ) (tail : List ℕ) → (es : List (Entry I)) × (f c at (w ++ tail) ≡ Done (length w) a es c')
      × (items es ≡ is)

module _ {C I : Type 0} where
  pub give_makes : {A : Type 0} (a : A) (c : C) → Makes {I = I} (give a) c [] a [] c
  give_makes a c = record { makes = λ at tail. ([], refl, refl) }

  pub byte_makes : {A : Type 0} (g : From C I A) (b : ℕ) {c c' : C} {w : List ℕ} {a : A} {is : List I}
      → ((p : ℕ) → Makes (g p b) c w a is c') → Makes (byte_at g) c (b ∷ w) a is c'
  byte_makes g b h = record { makes = λ at tail. let p = (h at).makes (at + 1) tail in (p.0, rw p.1 refl, p.2) }

  pub bind_makes : {A B : Type 0} (f : Read C I A) (g : A → Read C I B) {c c₁ c₂ : C} {u v : List ℕ} {a : A} {b : B}
      {is js : List I}
      → Makes f c u a is c₁ → Makes (g a) c₁ v b js c₂ → Makes (bind f g) c (u ++ v) b (is ++ js) c₂
  bind_makes f g {c} {c₁} {c₂} {u} {v} {a} {b} {is} {js} h k = record {
    makes = λ at tail.
        let p = h.makes at (v ++ tail) in
        let q = k.makes (at + length u) tail in (
          p.0 ++ q.0,
          rw (append_assoc, p.1, drop-append_seam, q.1, length-append) refl,
          items_append p.0 q.0
              ∙ ap (λ (z : List I). z ++ items q.0) p.2 ∙ ap (λ (z : List I). is ++ z) q.2,
        );
  }

  pub map_makes : {A B : Type 0} (φ : A → B) (f : Read C I A) {c c' : C} {w : List ℕ} {a : A} {is : List I}
      → Makes f c w a is c' → Makes (mapped φ f) c w (φ a) is c'
  map_makes φ f h = record { makes = λ at tail. let p = h.makes at tail in (p.0, rw p.1 refl, p.2) }

  pub head_makes : {A : Type 0} (p : ℕ) (x : A → I) (f : Read C I A) {c c' : C} {w : List ℕ} {a : A} {is : List I}
      → Makes f c w a is c' → Makes (headed p x f) c w tt (x a ∷ is) c'
  head_makes p x f {a = a} h = record {
    makes = λ at tail. let q = h.makes at tail in (
      record { place = p; span = suc (length q.0); item = x a } ∷ q.0,
      rw q.1 refl,
      ap {B = List I} (λ l. x a ∷ l) q.2,
    );
  }

  pub change_makes : {A : Type 0} (φ : C → C) (f : Read C I A) {c c' : C} {w : List ℕ} {a : A} {is : List I}
      → Makes f (φ c) w a is c' → Makes (changing φ f) c w a is c'
  change_makes φ f h = record { makes = h.makes }

  pub ask_makes : {A : Type 0} (g : C → Read C I A) {c c' : C} {w : List ℕ} {a : A} {is : List I}
      → Makes (g c) c w a is c' → Makes (asking g) c w a is c'
  ask_makes g h = record { makes = h.makes }

  pub pass_makes : {A : Type 0} (t : Bool) (f g : Read C I A) {c c' : C} {w : List ℕ} {a : A} {is : List I} → T t
      → Makes f c w a is c' → Makes (cond t f g) c w a is c'
  pass_makes true f g x h = h
  pass_makes false f g x h = absurd x

  pub skip_makes : {A : Type 0} (t : Bool) (f g : Read C I A) {c c' : C} {w : List ℕ} {a : A} {is : List I} → T (not t)
      → Makes g c w a is c' → Makes (cond t f g) c w a is c'
  skip_makes true f g x h = absurd x
  skip_makes false f g x h = h

  -- a bound of the recursion that is what is left of the message
  pub bound_makes : {A : Type 0} (f : ℕ → Read C I A) {c c' : C} {w : List ℕ} {a : A} {is : List I}
      → ((k : ℕ) → length w ≤ k → Makes (f k) c w a is c') → Makes (λ c at s. f (length s) c at s) c w a is c'
  bound_makes f {w = w} h =
      record { makes = λ at tail. (h (length (w ++ tail)) (rw length-append (omega arith))).makes at tail }

-- ---- several, and several up to the end byte e
module _ {C I : Type 0} where
  -- f reads what G is
  abbrev pub Reads : From C I One → Phrase C I → Type 0
  Reads f G = (p b : ℕ) → b < 256 → (c : C) (at : ℕ) (s : List ℕ) → Bytes s
      → Parsed (λ w u is c'. G c (b ∷ w) is c') s (f p b c at s)

  -- f makes this, of a first byte and the rest
  abbrev pub Leads : {A : Type 0} → From C I A → C → List ℕ → A → List I → C → Type 0
  Leads f c [] a is c' = ⊥
  Leads f c (b ∷ w) a is c' = (p : ℕ) → Makes (f p b) c w a is c'

  pub leads_byte : {A : Type 0} (f : From C I A) {c c' : C} (w : List ℕ) {a : A} {is : List I} → Leads f c w a is c'
      → Makes (byte_at f) c w a is c'
  leads_byte f [] h = absurd h
  leads_byte f (b ∷ w) h = byte_makes f b h

  abbrev pub Led : From C I One → C → List ℕ → List I → C → Type 0
  Led f c w is c' = Leads f c w (tt {0}) is c'

  abbrev pub Makers : From C I One → Phrase C I → Type 0
  Makers f G = (c : C) (w : List ℕ) (is : List I) (c' : C) → G c w is c' → Led f c w is c'

  -- nothing that f reads begins with the byte e
  abbrev pub Shut : From C I One → ℕ → Type 0
  Shut f e = (p : ℕ) (c : C) (at : ℕ) (s : List ℕ) → f p e c at s ≡ Fault 3 p

  pub apart : (f : From C I One) (e : ℕ) → Shut f e → {c c' : C} {b : ℕ} {w : List ℕ} {is : List I}
      → Led f c (b ∷ w) is c' → T (not (eqb b e))
  apart f e x {c} {c'} {b} {w} {is} h = neqb b e (λ q. let z = x 0 c 0 (w ++ []) in let y = ((h 0).makes 0 []).1 in
      let v : f 0 e c 0 (w ++ []) ≡ Done (length w) tt ((h 0).makes 0 []).0 c' = rw q at y in
      let no_way : ◌≡◌ {A = ℕ} 0 1 = cc in omega arith)

  pub led_byte : (f : From C I One) {c c' : C} (w : List ℕ) {is : List I} → Led f c w is c'
      → Makes (byte_at f) c w tt is c'
  led_byte f [] h = absurd h
  led_byte f (b ∷ w) h = byte_makes f b h

module _ {C I : Type 0} (f : From C I One) (G : Phrase C I) where
  pub byte_reads : Reads f G → (c : C) (at : ℕ) (s : List ℕ) → Bytes s
      → Parsed (λ w u is c'. G c w is c') s (byte_at f c at s)
  byte_reads h c at s l = takes (λ w u is c'. G c w is c') f c at s l (λ b t m n. h at b m c (at + 1) t n)

  pub many_reads : Reads f G → (n : ℕ) (c : C) (at : ℕ) (s : List ℕ) → Bytes s
      → Parsed (λ w u is c'. Many G n c w is c') s (many f n c at s)
  many_reads h zero c at s l = gives (λ w u is c'. Many G 0 c w is c') (tt {0}) c at s finished
  many_reads h (suc n) c at s l = binds (λ w u is c'. G c w is c') (λ w u is c'. Many G (suc n) c w is c') (byte_at f)
      (λ u. many f n) c at s l (byte_reads h c at s l)
      (λ u a is c₁ at₁ t m g. weaker (λ w u is c'. Many G n c₁ w is c')
      (Behind (λ w u is c'. Many G (suc n) c w is c') u is) t (λ v a js c₂ r. another g r) (many f n c₁ at₁ t)
      (many_reads h n c₁ at₁ t m))

  pub many_makes : Makers f G → {n : ℕ} {c c' : C} {w : List ℕ} {is : List I} → Many G n c w is c'
      → Makes (many f n) c w tt is c'
  many_makes h finished = record { makes = λ at tail. ([], refl, refl) }
  many_makes h (another {n = n} {c = c} {c₁ = c₁} {u = u} {is = is} g r) =
      bind_makes (byte_at f) (λ u. many f n) (led_byte f u (h c u is c₁ g)) (many_makes h r)

  module _ (e : ℕ) where
    one_more : {n : ℕ} {c c₁ c₂ : C} {u v : List ℕ} {is js : List I} → G c u is c₁ → Ended e G n c₁ v js c₂
        → Ended e G (suc n) c (u ++ v) (is ++ js) c₂
    one_more {n} {c} {c₂ = c₂} {u = u} {is = is} g (ended {v = v} {is = js} r) =
        subst (λ (z : List ℕ). Ended e G (suc n) c z (is ++ js) c₂) (append_assoc u v (e ∷ [])) (ended (another g r))

    pub until_reads : Reads f G → (k : ℕ) (c : C) (at : ℕ) (s : List ℕ) → Bytes s
        → Parsed (λ w n is c'. Ended e G n c w is c') s (until e f k c at s)
    until_reads h zero c at s l = tt
    until_reads h (suc k) c at s l = takes (λ w n is c'. Ended e G n c w is c')
        (λ p b. cond (eqb b e) (give 0) (after (f p b) (mapped suc (until e f k)))) c at s l (λ b t m i.
        by_test (λ (g : Read C I ℕ). Parsed (λ w n is c'. Ended e G n c (b ∷ w) is c') t (g c (at + 1) t)) (eqb b e)
        (λ x. gives (λ w n is c'. Ended e G n c (b ∷ w) is c') 0 c (at + 1) t (rw (eqb→eq b e x) (ended finished)))
        (λ x. binds (λ w u is c'. G c (b ∷ w) is c') (λ w n is c'. Ended e G n c (b ∷ w) is c') (f at b)
        (λ u. mapped suc (until e f k)) c (at + 1) t i (h at b m c (at + 1) t i)
        (λ u a is c₁ at₁ t₁ j g. maps (Behind (λ w n is c'. Ended e G n c (b ∷ w) is c') u is) suc t₁
        (until e f k c₁ at₁ t₁)
        (weaker (λ w n is c'. Ended e G n c₁ w is c') (λ w n is' c'. Ended e G (suc n) c (b ∷ (u ++ w)) (is ++ is') c')
        t₁ (λ v n js c₂ r. one_more g r) (until e f k c₁ at₁ t₁) (until_reads h k c₁ at₁ t₁ j)))))

    module _ (h : Makers f G) (x : Shut f e) where
      until_step : (k n : ℕ) (c c₁ c₂ : C) (u v : List ℕ) (is js : List I) → Led f c u is c₁ → (length (u ++ v) ≤ suc k)
          → (length v ≤ k → Makes (until e f k) c₁ v n js c₂) → Makes (until e f (suc k)) c (u ++ v) (suc n)
          (is ++ js) c₂
      until_step k n c c₁ c₂ [] v is js g l r = absurd g
      until_step k n c c₁ c₂ (b ∷ u) v is js g l r =
          byte_makes (λ p b. cond (eqb b e) (give 0) (after (f p b) (mapped suc (until e f k)))) b
          (λ p. skip_makes (eqb b e) (give 0) (after (f p b) (mapped suc (until e f k))) (apart f e x {is = is} g)
          (bind_makes (f p b) (λ z. mapped suc (until e f k)) (g p)
          (map_makes suc (until e f k) (r (omega (arith, length-append u v))))))

      pub until_makes : {n : ℕ} {c c' : C} {v : List ℕ} {is : List I} → Many G n c v is c' → (k : ℕ)
          → length (v ++ (e ∷ [])) ≤ k → Makes (until e f k) c (v ++ (e ∷ [])) n is c'
      until_makes finished zero l = absurd (omega arith)
      until_makes finished (suc k) l =
          byte_makes (λ p b. cond (eqb b e) (give 0) (after (f p b) (mapped suc (until e f k)))) e
          (λ p. pass_makes (eqb e e) (give 0) (after (f p e) (mapped suc (until e f k))) (eqb_refl e) (give_makes 0 _))
      until_makes (another {u = u} {v = v} g r) zero l = absurd (omega (arith, length-append (u ++ v) (e ∷ [])))
      until_makes (another {n = n} {c = c} {c₁ = c₁} {c₂ = c₂} {u = u} {v = v} {is = is} {js = js} g r) (suc k) l =
          subst (λ (z : List ℕ). Makes (until e f (suc k)) c z (suc n) (is ++ js) c₂) (sym (append_assoc u v (e ∷ [])))
          (until_step k n c c₁ c₂ u (v ++ (e ∷ [])) is js (h c u is c₁ g)
          (omega (arith, ap length (append_assoc u v (e ∷ [])))) (λ m. until_makes r k m))

      pub end_makes : {n : ℕ} {c c' : C} {v : List ℕ} {is : List I} → Ended e G n c v is c'
          → Makes (until_end e f) c v n is c'
      end_makes (ended r) = bound_makes (until e f) (until_makes r)

-- ---- things before another, each with its first byte e
module _ {C I : Type 0} (e : ℕ) (d : ℕ → Read C I One) (f : From C I One) (D G : Phrase C I) where
  module _ (hd : (p : ℕ) (c : C) (at : ℕ) (s : List ℕ) → Bytes s → Parsed (λ w u is c'. D c w is c') s (d p c at s))
      (hf : Reads f G) where
    abbrev The : C → ℕ → Goal C I One
    The c b w u is c' = Preceded e D G c (b ∷ w) is c'

    def_reads : (next : Read C I One) → ((c : C) (at : ℕ) (s : List ℕ) → Bytes s
        → Parsed (λ w u is c'. Preceded e D G c w is c') s (next c at s))
        → (p b : ℕ) → b < 256 → (c : C) (at : ℕ) (s : List ℕ) → Bytes s
        → Parsed (The c b) s (cond (eqb b e) (after (d p) next) (f p b) c at s)
    def_reads next h p b m c at s l = by_test (λ (g : Read C I One). Parsed (The c b) s (g c at s)) (eqb b e)
        (λ x. rw (eqb→eq b e x) (binds (λ w u is c'. D c w is c') (The c e) (d p) (λ u. next) c at s l (hd p c at s l)
        (λ u a is c₁ at₁ t n g. weaker (λ w u is c'. Preceded e D G c₁ w is c') (Behind (The c e) u is) t
        (λ v a js c₂ r. first g r) (next c₁ at₁ t) (h c₁ at₁ t n))))
        (λ x. weaker (λ w u is c'. G c (b ∷ w) is c') (The c b) s (λ v a js c₂ r. alone r) (f p b c at s)
        (hf p b m c at s l))

    pub preceded_reads : (k : ℕ) → Reads (preceded e d f k) (Preceded e D G)
    preceded_reads zero p b m c at s l = def_reads (λ c at s. Fault 2 at) (λ c at s l. tt) p b m c at s l
    preceded_reads (suc k) p b m c at s l = def_reads (byte_at (preceded e d f k))
        (byte_reads (preceded e d f k) (Preceded e D G) (preceded_reads k)) p b m c at s l

    pub preceded_by_reads : Reads (preceded_by e d f) (Preceded e D G)
    preceded_by_reads p b m c at s l = preceded_reads (length s) p b m c at s l

  module _ (hd : (c : C) (w : List ℕ) (is : List I) (c' : C) → D c w is c' → (p : ℕ) → Makes (d p) c w (tt {0}) is c')
      (hf : Makers f G) (x : Shut f e) where
    abbrev LedBy : C → List ℕ → List I → C → Type 0
    LedBy c [] is c' = ⊥
    LedBy c (b ∷ w) is c' = (k : ℕ) → length w ≤ k → (p : ℕ) → Makes (preceded e d f k p b) c w (tt {0}) is c'

    alone_makes : (c : C) (w : List ℕ) (is : List I) (c' : C) → Led f c w is c' → LedBy c w is c'
    alone_makes c [] is c' h = h
    alone_makes c (b ∷ w) is c' h = go
      where
        go : (k : ℕ) → length w ≤ k → (p : ℕ) → Makes (preceded e d f k p b) c w (tt {0}) is c'
        go zero l p = skip_makes (eqb b e) _ (f p b) (apart f e x {is = is} h) (h p)
        go (suc k) l p = skip_makes (eqb b e) _ (f p b) (apart f e x {is = is} h) (h p)

    first_makes : (c c₁ c₂ : C) (u v : List ℕ) (is js : List I) → D c u is c₁ → LedBy c₁ v js c₂
        → LedBy c (e ∷ (u ++ v)) (is ++ js) c₂
    first_makes c c₁ c₂ u [] is js g h = absurd h
    first_makes c c₁ c₂ u (b ∷ v) is js g h = go
      where
        go : (k : ℕ) → length (u ++ (b ∷ v)) ≤ k → (p : ℕ) → Makes (preceded e d f k p e) c (u ++ (b ∷ v)) (tt {0})
            (is ++ js) c₂
        go zero l p = absurd (omega (arith, length-append u (b ∷ v)))
        go (suc k) l p = pass_makes (eqb e e) (after (d p) (byte_at (preceded e d f k))) (f p e) (eqb_refl e)
            (bind_makes (d p) (λ z. byte_at (preceded e d f k)) (hd c u is c₁ g p)
            (byte_makes (preceded e d f k) b (h k (omega (arith, length-append u (b ∷ v))))))

    preceded_makes : {c c' : C} {w : List ℕ} {is : List I} → Preceded e D G c w is c' → LedBy c w is c'
    preceded_makes (alone {c = c} {c' = c'} {w = w} {is = is} g) = alone_makes c w is c' (hf c w is c' g)
    preceded_makes (first {c = c} {c₁ = c₁} {c₂ = c₂} {u = u} {v = v} {is = is} {js = js} g r) =
        first_makes c c₁ c₂ u v is js g (preceded_makes r)

    by_makes : (c : C) (w : List ℕ) (is : List I) (c' : C) → LedBy c w is c' → Led (preceded_by e d f) c w is c'
    by_makes c [] is c' h = h
    by_makes c (b ∷ w) is c' h = λ p. bound_makes (λ k. preceded e d f k p b) (λ k l. h k l p)

    pub preceded_by_makes : Makers (preceded_by e d f) (Preceded e D G)
    preceded_by_makes c w is c' g = by_makes c w is c' (preceded_makes g)

-- ---- readers that give no item and change nothing that is known: numbers and texts
pub data Quiet {C I A : Type 0} (S : List ℕ → A → Type 0) (c : C) : List ℕ → A → List I → C → Type 0 where
  quiet : {u : List ℕ} {a : A} → S u a → Quiet S c u a [] c

module _ {C I A : Type 0} (S : List ℕ → A → Type 0) where
  pub quietly : (H : Goal C I A) (c : C) (s : List ℕ) → ((u : List ℕ) (a : A) → S u a → H u a [] c)
      → (o : Outcome C I A) → Parsed (Quiet S c) s o → Parsed H s o
  quietly H c s k o p = weaker (Quiet S c) H s (λ u a is c₁ q. go u a is c₁ q) o p
    where
      go : (u : List ℕ) (a : A) (is : List I) (c₁ : C) → Quiet S c u a is c₁ → H u a is c₁
      go u a is c₁ (quiet x) = k u a x

  pub binds_quiet : {B : Type 0} (H : Goal C I B) (f : Read C I A) (g : A → Read C I B) (c : C) (at : ℕ) (s : List ℕ)
      → Bytes s → Parsed (Quiet S c) s (f c at s)
      → ((u : List ℕ) (a : A) (at₁ : ℕ) (t : List ℕ) → Bytes t → S u a
      → Parsed (λ w b js c₂. H (u ++ w) b js c₂) t (g a c at₁ t)) → Parsed H s (bind f g c at s)
  binds_quiet H f g c at s l p k = binds (Quiet S c) H f g c at s l p (λ u a is c₁ at₁ t m q. go u a is c₁ at₁ t m q)
    where
      go : (u : List ℕ) (a : A) (is : List I) (c₁ : C) (at₁ : ℕ) (t : List ℕ) → Bytes t → Quiet S c u a is c₁
          → Parsed (Behind H u is) t (g a c₁ at₁ t)
      go u a is c₁ at₁ t m (quiet x) = k u a at₁ t m x

pub quiet_is : {C I A : Type 0} (S : List ℕ → A → Type 0) (c : C) {u : List ℕ} {a : A} {is : List I} {c' : C}
    → Quiet S c u a is c' → S u a × (is ≡ []) × (c' ≡ c)
quiet_is S c (quiet x) = (x, refl, refl)

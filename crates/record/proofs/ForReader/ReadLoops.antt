-- The loops of the reading, at a place of the whole message: how each goes on, with no bound of the recursion. What is
-- left of a list, a map, an object's fields or a definition's names after i of them.
use Rattle.std.specs.Prelude.{◌≡◌, eqb, leb, length, get_or}
use Rattle.std.proofs.Math.Path.{refl, sym, ap}
use Rattle.std.proofs.Common.{ap₂, ◌∙◌, add-zero, eqb-true, eq-eqb, ne_eqb, leb-false}
use mathlib.Core.Bool.{Bool, true, false, cond}
use mathlib.Core.List.{List, []}
use Prim.Native.Nat.{ℕ, zero, suc, ◌+◌, ◌-◌, ◌/◌, ◌%◌, ◌≤◌, ◌<◌}
use native.Mathlib.Omega.{arith}
use Rattle.std.proofs.lemmas.Bool.{eqb-false, lt-leb}
use Rattle.flow.specs.Flow.{pick, One, give, byte_at, mapped, after, many, until, until_end}
use Rattle.flow.specs.Tests.{pick_true, pick_false, by_cases, split}
use Rattle.record.specs.declared.Group.{Group}
use Rattle.record.specs.declared.Group.TheVariants.{Counted, Fields, Open, Pairs}
use Rattle.record.specs.Model.Items.{Known}
use Rattle.record.specs.Model.Reading.{Reader, Opening}
use Rattle.record.specs.Model.Containers.{pair}
use Rattle.record.specs.ForReader.ReadingAt.{ReadingAt, ReadTo, RefusedAt, run, on, through}
use Rattle.record.proofs.ForReader.ReadingAt.{on_same, on_on}
use Rattle.record.proofs.ForReader.ReadingAt.{through_on, through_through, run_give, run_byte, run_end, run_test}
use Rattle.record.proofs.ForReader.ReadingAt.{run_bounded, run_mapped, run_bind, run_same}
use Rattle.record.specs.ForReader.ReadLoops.{rest, closes, stops, past, parts}

-- ---- n of them
module _ (f : Opening One) (c : Known) (m : List ℕ) (p : ℕ) where
  pub many_none : run (many f 0) c m p ≡ ReadTo p tt [] c
  many_none = run_give tt c m p

  pub many_more : (n : ℕ) → run (many f (suc n)) c m p ≡ on (run (byte_at f) c m p) (λ e u c'. run (many f n) c' m e)
  many_more n = run_bind (byte_at f) (λ u. many f n) c m p

-- ---- up to the end byte z
module _ (z : ℕ) (f : Opening One) (m : List ℕ) where
  -- the end byte, or one more of them and the others
  abbrev pub turn : Reader ℕ → Known → ℕ → ReadingAt ℕ
  turn others c p = pick (eqb (get_or m p 0) z) (ReadTo (p + 1) 0 [] c) (on (run (f p (get_or m p 0)) c m (p + 1))
      (λ e u c'. through suc (run others c' m e)))

  until_turn : (k : ℕ) (c : Known) (p : ℕ) → p < length m → run (until z f (suc k)) c m p ≡ turn (until z f k) c p
  until_turn k c p l =
      run_byte (λ p b. cond (eqb b z) (give 0) (after (f p b) (mapped suc (until z f k)))) c m p l
      ∙ run_test (eqb (get_or m p 0) z) (give 0) (after (f p (get_or m p 0)) (mapped suc (until z f k))) c m (p + 1)
      ∙ ap₂ (λ (x y : ReadingAt ℕ). pick (eqb (get_or m p 0) z) x y) (run_give 0 c m (p + 1))
      (run_bind (f p (get_or m p 0)) (λ u. mapped suc (until z f k)) c m (p + 1)
      ∙ on_same (run (f p (get_or m p 0)) c m (p + 1)) _ _ (λ e u c'. run_mapped suc (until z f k) c' m e))

  until_out : (k : ℕ) (c : Known) (p : ℕ) → length m ≤ p → run (until z f k) c m p ≡ RefusedAt 2 p
  unfolding run
  until_out zero c p l = refl
  until_out (suc k) c p l = run_end (λ p b. cond (eqb b z) (give 0) (after (f p b) (mapped suc (until z f k)))) c m p l

  turn_same : (x y : Reader ℕ) (c : Known) (p : ℕ) → ((e : ℕ) (c' : Known) → p + 1 ≤ e → run x c' m e ≡ run y c' m e)
      → turn x c p ≡ turn y c p
  turn_same x y c p h =
      ap (λ (o : ReadingAt ℕ). pick (eqb (get_or m p 0) z) (ReadTo (p + 1) 0 [] c) o)
      (run_same (f p (get_or m p 0)) c m (p + 1) _ _ (λ e u c' l. ap (through suc) (h e c' l)))

  -- with enough to bound the recursion, by how much does not matter
  until_fuel : (k j : ℕ) (c : Known) (p : ℕ) → length m ≤ k + p → length m ≤ j + p
      → run (until z f k) c m p ≡ run (until z f j) c m p
  until_fuel zero j c p l n = until_out zero c p (omega arith) ∙ sym (until_out j c p (omega arith))
  until_fuel (suc k) zero c p l n = until_out (suc k) c p (omega arith) ∙ sym (until_out zero c p (omega arith))
  until_fuel (suc k) (suc j) c p l n = split p (length m)
      (λ i. until_turn k c p i ∙ turn_same (until z f k) (until z f j) c p
      (λ e c' h. until_fuel k j c' e (omega arith) (omega arith)) ∙ sym (until_turn j c p i))
      (λ o. until_out (suc k) c p o ∙ sym (until_out (suc j) c p o))

  pub until_end_turn : (c : Known) (p : ℕ) → p < length m → run (until_end z f) c m p ≡ turn (until_end z f) c p
  until_end_turn c p l =
      let q : length m - p ≡ suc (length m - p - 1) = omega arith in
      run_bounded (until z f) c m p
      ∙ ap (λ (k : ℕ). run (until z f k) c m p) q
      ∙ until_turn (length m - p - 1) c p l
      ∙ turn_same (until z f (length m - p - 1)) (until_end z f) c p
      (λ e c' h. until_fuel (length m - p - 1) (length m - e) c' e (omega arith) (omega arith)
      ∙ sym (run_bounded (until z f) c' m e))

  pub until_end_out : (c : Known) (p : ℕ) → length m ≤ p → run (until_end z f) c m p ≡ RefusedAt 2 p
  until_end_out c p l = run_bounded (until z f) c m p ∙ until_out (length m - p) c p l

-- ---- what holds values
-- i is not too many
abbrev pub Room : Group → ℕ → Type 0
Room (Counted n) i = i ≤ n
Room (Fields k n) i = i ≤ n
Room Open i = Unit {0}
Room Pairs i = Unit {0}

pub room_first : (g : Group) → Room g 0
room_first (Counted n) = omega arith
room_first (Fields k n) = omega arith
room_first Open = tt
room_first Pairs = tt

pub room_next : (m : List ℕ) (g : Group) (i p : ℕ) → stops m g i p ≡ false → Room g i → Room g (i + 1)
room_next m (Counted n) i p t r = omega (arith, eqb-false i n t)
room_next m (Fields k n) i p t r = omega (arith, eqb-false i n t)
room_next m Open i p t r = tt
room_next m Pairs i p t r = tt

-- ---- the tests
both : (a b : Bool) → pick a b false ≡ true → (a ≡ true) × (b ≡ true)
unfolding pick
both true b t = (refl, t)
both false b t = absurd (mathlib.Core.Bool.true≢false (sym t))

closes_within : (m : List ℕ) (p : ℕ) → closes m p ≡ true → (p < length m) × (eqb (get_or m p 0) 0x5a ≡ true)
unfolding pick
closes_within m p t = go (leb (length m) p) refl t
  where
    go : (b : Bool) → leb (length m) p ≡ b → pick b false (eqb (get_or m p 0) 0x5a) ≡ true → (p < length m)
        × (eqb (get_or m p 0) 0x5a ≡ true)
    go true e t = absurd (mathlib.Core.Bool.true≢false (sym t))
    go false e t = (leb-false (length m) p e, t)

closes_no : (m : List ℕ) (p : ℕ) → p < length m → closes m p ≡ false → eqb (get_or m p 0) 0x5a ≡ false
closes_no m p l t = sym (pick_false _ _ (lt-leb _ _ l)) ∙ t

-- the place after is within the message
pub past_within : (m : List ℕ) (g : Group) (i p : ℕ) → stops m g i p ≡ true → p ≤ length m → (p ≤ past g p)
    × (past g p ≤ length m)
past_within m (Counted n) i p t l = (omega arith, l)
past_within m (Fields k n) i p t l = (omega arith, l)
past_within m Open i p t l = let w = closes_within m p t in (omega arith, omega (arith, w.0))
past_within m Pairs i p t l = let w = closes_within m p (both _ _ t).1 in (omega arith, omega (arith, w.0))

-- ---- up to 5a, with the number through a function
module _ (f : Opening One) (h : ℕ → ℕ) (m : List ℕ) (c : Known) (p : ℕ) where
  abbrev ended : (ℕ → ℕ) → Reader ℕ
  ended h = mapped h (until_end 0x5a f)

  ends_here : p < length m → eqb (get_or m p 0) 0x5a ≡ true → run (ended h) c m p ≡ ReadTo (p + 1) (h 0) [] c
  ends_here l t = run_mapped h (until_end 0x5a f) c m p ∙ ap (through h) (until_end_turn 0x5a f m c p l ∙ pick_true _ _ t)

  ends_later : p < length m → eqb (get_or m p 0) 0x5a ≡ false → run (ended h) c m p
      ≡ on (run (f p (get_or m p 0)) c m (p + 1)) (λ e u c'. run (ended (λ k. h (suc k))) c' m e)
  ends_later l t =
      run_mapped h (until_end 0x5a f) c m p
      ∙ ap (through h) (until_end_turn 0x5a f m c p l ∙ pick_false _ _ t)
      ∙ through_on h (run (f p (get_or m p 0)) c m (p + 1)) (λ e u c'. through suc (run (until_end 0x5a f) c' m e))
      ∙ on_same (run (f p (get_or m p 0)) c m (p + 1)) _ _ (λ e u c'. through_through suc h (run (until_end 0x5a f) c' m e)
      ∙ sym (run_mapped (λ k. h (suc k)) (until_end 0x5a f) c' m e))

  ends_never : length m ≤ p → run (ended h) c m p ≡ RefusedAt 2 p
  ends_never l = run_mapped h (until_end 0x5a f) c m p ∙ ap (through h) (until_end_out 0x5a f m c p l)

-- ---- the values left: none, or one more and the rest
module _ (f : Opening One) (m : List ℕ) where
  -- so many
  counted_stop : (n i : ℕ) (c : Known) (p : ℕ) → eqb i n ≡ true → run (mapped (λ u. n) (many f (n - i))) c m p
      ≡ ReadTo p i [] c
  counted_stop n i c p t =
      let q : n - i ≡ 0 = omega (arith, eqb-true i n t) in
      ap (λ (k : ℕ). run (mapped (λ u. n) (many f k)) c m p) q
      ∙ run_mapped (λ u. n) (many f 0) c m p
      ∙ ap (through (λ u. n)) (many_none f c m p)
      ∙ ap (λ (k : ℕ). ReadTo p k [] c) (sym (eqb-true i n t))

  counted_step : (n i : ℕ) (c : Known) (p : ℕ) → eqb i n ≡ false → i ≤ n
      → run (mapped (λ u. n) (many f (n - i))) c m p ≡ on (run (byte_at f) c m p)
      (λ e u c'. run (mapped (λ u. n) (many f (n - (i + 1)))) c' m e)
  counted_step n i c p t r =
      let q : n - i ≡ suc (n - (i + 1)) = omega (arith, eqb-false i n t) in
      ap (λ (k : ℕ). run (mapped (λ u. n) (many f k)) c m p) q
      ∙ run_mapped (λ u. n) (many f (suc (n - (i + 1)))) c m p
      ∙ ap (through (λ u. n)) (many_more f c m p (n - (i + 1)))
      ∙ through_on (λ u. n) (run (byte_at f) c m p) (λ e u c'. run (many f (n - (i + 1))) c' m e)
      ∙ on_same (run (byte_at f) c m p) _ _ (λ e u c'. sym (run_mapped (λ u. n) (many f (n - (i + 1))) c' m e))

  -- keys and values: where a key is due, and where a value is
  abbrev pairs : (ℕ → ℕ) → Reader ℕ
  pairs h = mapped h (until_end 0x5a (pair f))

  even_rest : (i : ℕ) → eqb (i % 2) 0 ≡ true → (c : Known) (p : ℕ) → run (rest f Pairs i) c m p
      ≡ run (pairs (λ k. i / 2 + k)) c m p
  unfolding rest
  even_rest i t c p = run_test (eqb (i % 2) 0) (pairs (λ k. i / 2 + k))
      (after (byte_at f) (pairs (λ k. i / 2 + 1 + k))) c m p ∙ pick_true _ _ t

  odd_rest : (i : ℕ) → eqb (i % 2) 0 ≡ false → (c : Known) (p : ℕ) → run (rest f Pairs i) c m p
      ≡ on (run (byte_at f) c m p) (λ e u c'. run (pairs (λ k. i / 2 + 1 + k)) c' m e)
  unfolding rest
  odd_rest i t c p =
      run_test (eqb (i % 2) 0) (pairs (λ k. i / 2 + k)) (after (byte_at f) (pairs (λ k. i / 2 + 1 + k))) c m p
      ∙ pick_false _ _ t
      ∙ run_bind (byte_at f) (λ u. pairs (λ k. i / 2 + 1 + k)) c m p

  -- the same number, whatever is added
  pairs_as : {h g : ℕ → ℕ} → ((k : ℕ) → h k ≡ g k) → (c : Known) (p : ℕ) → run (pairs h) c m p ≡ run (pairs g) c m p
  pairs_as e c p = ap (λ (h : ℕ → ℕ). run (pairs h) c m p) (λ j k. e k j)

  pairs_step : (i : ℕ) (c : Known) (p : ℕ) → stops m Pairs i p ≡ false
      → run (rest f Pairs i) c m p ≡ on (run (byte_at f) c m p) (λ e u c'. run (rest f Pairs (i + 1)) c' m e)
  pairs_step i c p t = by_cases (eqb (i % 2) 0) (λ h. split p (length m) (key h) (out h)) value
    where
      key : eqb (i % 2) 0 ≡ true → p < length m → run (rest f Pairs i) c m p
          ≡ on (run (byte_at f) c m p) (λ e u c'. run (rest f Pairs (i + 1)) c' m e)
      key h l =
          let h' : eqb ((i + 1) % 2) 0 ≡ false = ne_eqb ((i + 1) % 2) 0 (λ z. omega (arith, eqb-true (i % 2) 0 h)) in
          let q : i / 2 ≡ (i + 1) / 2 = omega (arith, eqb-true (i % 2) 0 h) in
          even_rest i h c p
          ∙ ends_later (pair f) (λ k. i / 2 + k) m c p l (closes_no m p l (sym (pick_true _ _ h) ∙ t))
          ∙ ap (λ (o : ReadingAt One). on o (λ e u c'. run (pairs (λ k. i / 2 + suc k)) c' m e))
          (run_bind (f p (get_or m p 0)) (λ u. byte_at f) c m (p + 1))
          ∙ on_on (run (f p (get_or m p 0)) c m (p + 1)) (λ e u c'. run (byte_at f) c' m e)
          (λ e u c'. run (pairs (λ k. i / 2 + suc k)) c' m e)
          ∙ on_same (run (f p (get_or m p 0)) c m (p + 1)) _ _ (λ e u c'.
          on_same (run (byte_at f) c' m e) _ _ (λ e' u c''. pairs_as (λ k. omega arith) c'' e')
          ∙ sym (odd_rest (i + 1) h' c' e))
          ∙ ap (λ (o : ReadingAt One). on o (λ e u c'. run (rest f Pairs (i + 1)) c' m e)) (sym (run_byte f c m p l))

      out : eqb (i % 2) 0 ≡ true → length m ≤ p → run (rest f Pairs i) c m p
          ≡ on (run (byte_at f) c m p) (λ e u c'. run (rest f Pairs (i + 1)) c' m e)
      out h l =
          even_rest i h c p
          ∙ ends_never (pair f) (λ k. i / 2 + k) m c p l
          ∙ ap (λ (o : ReadingAt One). on o (λ e u c'. run (rest f Pairs (i + 1)) c' m e)) (sym (run_end f c m p l))

      value : eqb (i % 2) 0 ≡ false → run (rest f Pairs i) c m p ≡ on (run (byte_at f) c m p)
          (λ e u c'. run (rest f Pairs (i + 1)) c' m e)
      value h =
          let n : i % 2 ≡ 0 → ⊥ = eqb-false (i % 2) 0 h in
          let h' : eqb ((i + 1) % 2) 0 ≡ true = eq-eqb ((i + 1) % 2) 0 (omega arith) in
          let q : (i + 1) / 2 ≡ i / 2 + 1 = omega arith in
          odd_rest i h c p
          ∙ on_same (run (byte_at f) c m p) _ _ (λ e u c'. pairs_as (λ k. omega arith) c' e
          ∙ sym (even_rest (i + 1) h' c' e))

  -- up to 5a
  open_step : (i : ℕ) (c : Known) (p : ℕ) → closes m p ≡ false → run (rest f Open i) c m p
      ≡ on (run (byte_at f) c m p) (λ e u c'. run (rest f Open (i + 1)) c' m e)
  unfolding rest
  open_step i c p t = split p (length m)
      (λ l.
      ends_later f (λ k. i + k) m c p l (closes_no m p l t)
      ∙ on_same (run (f p (get_or m p 0)) c m (p + 1)) _ _ (λ e u c'. ap
      (λ (h : ℕ → ℕ). run (mapped h (until_end 0x5a f)) c' m e) (λ j k. (let q : i + suc k ≡ i + 1 + k =
      omega arith in q) j))
      ∙ ap (λ (o : ReadingAt One). on o (λ e u c'. run (rest f Open (i + 1)) c' m e)) (sym (run_byte f c m p l)))
      (λ l. ends_never f (λ k. i + k) m c p l
      ∙ ap (λ (o : ReadingAt One). on o (λ e u c'. run (rest f Open (i + 1)) c' m e)) (sym (run_end f c m p l)))

  pub rest_stop : (c : Known) (g : Group) (i p : ℕ) → stops m g i p ≡ true
      → run (rest f g i) c m p ≡ ReadTo (past g p) (parts g i) [] c
  unfolding rest
  rest_stop c (Counted n) i p t = counted_stop n i c p t
  rest_stop c (Fields k n) i p t = counted_stop n i c p t
  rest_stop c Open i p t =
      let w = closes_within m p t in
      ends_here f (λ k. i + k) m c p w.0 w.1 ∙ ap (λ (k : ℕ). ReadTo (p + 1) k [] c) (add-zero i)
  rest_stop c Pairs i p t =
      let v = both _ _ t in
      let w = closes_within m p v.1 in
      even_rest i v.0 c p ∙ ends_here (pair f) (λ k. i / 2 + k) m c p w.0 w.1
      ∙ ap (λ (k : ℕ). ReadTo (p + 1) k [] c) (add-zero (i / 2))

  pub rest_step : (c : Known) (g : Group) (i p : ℕ) → stops m g i p ≡ false → Room g i
      → run (rest f g i) c m p ≡ on (run (byte_at f) c m p) (λ e u c'. run (rest f g (i + 1)) c' m e)
  unfolding rest
  rest_step c (Counted n) i p t r = counted_step n i c p t r
  rest_step c (Fields k n) i p t r = counted_step n i c p t r
  rest_step c Open i p t r = open_step i c p t
  rest_step c Pairs i p t r = pairs_step i c p t

  -- ---- from the first one on
  through_all : (o : ReadingAt ℕ) → o ≡ through (λ k. 0 + k) o
  through_all (ReadTo e k rs c) = let q : k ≡ 0 + k = omega arith in ap (λ (n : ℕ). ReadTo e n rs c) q
  through_all (RefusedAt x o) = refl

  pub rest_open : (c : Known) (p : ℕ) → run (until_end 0x5a f) c m p ≡ run (rest f Open 0) c m p
  unfolding rest
  rest_open c p = through_all (run (until_end 0x5a f) c m p) ∙ sym (run_mapped (λ k. 0 + k) (until_end 0x5a f) c m p)

  pub rest_pairs : (c : Known) (p : ℕ) → run (until_end 0x5a (pair f)) c m p ≡ run (rest f Pairs 0) c m p
  rest_pairs c p = through_all (run (until_end 0x5a (pair f)) c m p) ∙ sym
      (run_mapped (λ k. 0 + k) (until_end 0x5a (pair f)) c m p) ∙ sym (even_rest 0 refl c p)

  -- so many, whether elements or the fields of the class k
  pub rest_many : (n : ℕ) (c : Known) (p : ℕ) → run (mapped (λ u. n) (many f n)) c m p
      ≡ run (rest f (Counted n) 0) c m p
  unfolding rest
  rest_many n c p = let q : n ≡ n - 0 = omega arith in ap (λ (j : ℕ). run (mapped (λ u. n) (many f j)) c m p) q

  pub rest_fields : (k n : ℕ) (c : Known) (p : ℕ) → run (mapped (λ u. n) (many f n)) c m p
      ≡ run (rest f (Fields k n) 0) c m p
  unfolding rest
  rest_fields k n c p = rest_many n c p

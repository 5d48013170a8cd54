-- Laws for the proofs of the functions on groups: stores one by one, the digits of a line, the bytes of a group and their repeats.
use mathlib.Core.{Path.{◌≡◌, refl, sym, ◌∙◌, ap, subst}, Bool.{Bool, true, false, ◌&&◌}, List.{List, [], ◌∷◌, ◌++◌}, Logic.{inl, inr}}
use Prim.Native.Nat.{ℕ, zero, suc, ◌+◌, ◌-◌, ◌*◌, ◌/◌, ◌%◌, ◌^◌, ◌≤◌, ◌<◌, max, min}
use native.Mathlib.{Numerals.add-one, Nat.{zero-mul, suc-mul}, Omega.arith}
use lib.{Dec.{ltb, leb, eqb}, ListN.{length, take, drop, get_or, set, length-set, length-append, length-take, length-drop, drop_of_length-le}}
use lib.Seq.{sets, slice, paste, sets-eq, length-sets, set_out, take-set-le, length-slice, drop-cons, take_at, drop_at, length-take-le}
use borrow.Author.Tests.{lt-ltb, le-ltb, le-leb, lt-leb, eq-eqb, leb-true, leb-false, eqb-true, eqb-false}
use Rattle.std.specs.List.{copy_within}
use borrow.Rule.Slice.PartMut.{put_mid}
use Rattle.std.proofs.lemmas.List.{drop-take, take_all, take_more, length-replicate, replicate-append-replicate}
use Rattle.std.proofs.lemmas.Slice.{put_mid-paste}
use Rattle.std.proofs.Math.Seq.{take-add}
use Rattle.flow.specs.{Flow.pick, Tests.{pick_true, pick_false, split, by_cases}}
use Rattle.std.specs.Prelude.{Option, Some, None, replicate}
use Rattle.vectors.specs.declared.{Scanned.{Scanned}, Step.{Step}}
use Rattle.vectors.specs.{Cases.{digit_at, worth, Digits, DecimalMet, TimesMet, number}, CaseLaws.{true_false, both_true, stands_says}, GroupLaws.{stands_within, group_on}}
use Rattle.vectors.specs.Groups.{digits, decimal_of, times_of, hex_bytes, copies, store_times, group_at, group_stands, onward, groups_from, groups_of, took_bytes, repeated, step}
use Rattle.vectors.proofs.Laws.{digit_past}

-- ---- stores one by one
-- past the end nothing is stored
sets_out : (l : List ℕ) (i : ℕ) (vs : List ℕ) → length l ≤ i → sets l i vs ≡ l
sets_out l i [] h = refl
sets_out l i (x ∷ vs) h = ap (λ (m : List ℕ). sets m (suc i) vs) (set_out l i x h) ∙ sets_out l (suc i) vs (omega arith)

sets_seam : (l : List ℕ) (i : ℕ) (a b : List ℕ) → sets (sets l i a) (i + length a) b ≡ sets l i (a ++ b)
sets_seam l i [] b = let e : i + 0 ≡ i = omega arith in rw e
sets_seam l i (x ∷ a) b = let e : i + suc (length a) ≡ suc i + length a = omega arith in rw e (sets_seam (set l i x) (suc i) a b)

-- what has no room makes no difference
sets_full : (l : List ℕ) (i : ℕ) (a b : List ℕ) → length l ≤ i + length a → sets l i (a ++ b) ≡ sets l i a
sets_full l i a b h = sym (sets_seam l i a b) ∙ sets_out (sets l i a) (i + length a) b (omega (arith, length-sets l i a))

sets_before : (l : List ℕ) (i n : ℕ) (a : List ℕ) → n ≤ i → take n (sets l i a) ≡ take n l
sets_before l i n [] h = refl
sets_before l i n (x ∷ a) h = sets_before (set l i x) (suc i) n a (omega arith) ∙ take-set-le n l i x h

-- what was stored stands there
sets_slice : (l : List ℕ) (i : ℕ) (a : List ℕ) → i + length a ≤ length l → slice i (i + length a) (sets l i a) ≡ a
sets_slice l i a h =
    let k : length (take i l) ≡ i = length-take-le i l (omega arith) in
    let e : take (i + length a) (sets l i a) ≡ take i l ++ a = rw (sets-eq a l i h) (take_at (take i l ++ a) (drop (i + length a) l) (i + length a) (omega (arith, length-append (take i l) a))) in
    ap (drop i) e ∙ drop_at (take i l) a i k

-- ---- bytes once more
-- the first of a slice, and the others
two_parts : (from size room : ℕ) (l : List ℕ) → from ≤ size → room ≤ size - from → slice from size l ≡ take room (drop from l) ++ take (size - from - room) (drop room (drop from l))
two_parts from size room l h k =
    let v : room + (size - from - room) ≡ size - from = omega arith in
    let q : from + (size - from) ≡ size = omega arith in
    let t : drop from (take size l) ≡ take (size - from) (drop from l) = rw q at (drop-take from (size - from) l) in
    t ∙ (rw v at (take-add room (size - from - room) (drop from l)))

-- the bytes from `from` to below `size`, as many as there is room for from `here` on
pub copied : (l : List ℕ) (from size here room : ℕ) → from < size → size ≤ here → here ≤ length l → room ≡ min (length l - here) (size - from) → copy_within l from (from + room) here ≡ sets l here (slice from size l)
copied l from size here room h k r e =
    let x = drop from l in
    let a = take room x in
    let b = take (size - from - room) (drop room x) in
    let n : length a ≡ room = omega (arith, length-take room x, length-drop from l) in
    let o : from + room - from ≡ room = omega arith in
    let s : sets l here a ≡ paste l here x room = rw n at (sets-eq a l here (omega (arith, n, e))) in
    let whole : sets l here (a ++ b) ≡ sets l here a =
    split room (size - from) (λ u. sets_full l here a b (omega (arith, n, e)))
    (λ u. let z : size - from - room ≡ 0 = omega arith in rw z (sym (sets_seam l here a []))) in
    rw o (sym s ∙ sym whole ∙ ap (sets l here) (sym (two_parts from size room l (omega arith) (omega (arith, e)))))

-- a fill of the part that has room
pub filled_up : (l ys : List ℕ) (size n room k b : ℕ) → ys ≡ replicate k b → size ≤ length l
    → room ≡ min (length l - size) n → k ≡ room → put_mid size (size + room - size) l ys ≡ sets l size (replicate n b)
filled_up l ys size n room k b e h r q =
    let a = replicate room b in
    let c = replicate (n - room) b in
    let w : length a ≡ room = length-replicate room b in
    let z : ys ≡ a = e ∙ ap (λ (j : ℕ). replicate j b) q in
    let o : room ≡ size + room - size = omega arith in
    let v : room + (n - room) ≡ n = omega (arith, r) in
    let p : put_mid size (size + room - size) l ys ≡ paste l size a room =
    put_mid-paste size (size + room - size) l ys a room z o (sym w) in
    let t : take room a ≡ a = take_all room a (omega (arith, w)) in
    let s : sets l size a ≡ paste l size a room = (rw w at (sets-eq a l size (omega (arith, w, r))))
    ∙ ap (λ (x : List ℕ). take size l ++ x ++ drop (size + room) l) (sym t) in
    let whole : sets l size (a ++ c) ≡ sets l size a =
    split room n (λ u. sets_full l size a c (omega (arith, w, r)))
    (λ u. let y : n - room ≡ 0 = omega arith in rw y (sym (sets_seam l size a []))) in
    p ∙ sym s ∙ sym whole
    ∙ ap (sets l size) (replicate-append-replicate room (n - room) b ∙ ap (λ (j : ℕ). replicate j b) v)

-- ---- repeats
-- what is known while the bytes from `from` to below `size` are repeated, `left` times more
pub record Repeats (l₀ : List ℕ) (from size t : ℕ) (l : List ℕ) (left here : ℕ) : Type 0 where
  pub some : 0 < t
  pub wide : from < size
  pub same : length l ≡ length l₀
  pub level : here + left * (size - from) ≡ size + (t - 1) * (size - from)
  pub past : size ≤ here
  pub room : here ≤ length l₀
  pub source : slice from size l ≡ slice from size l₀
  pub rest : sets l here (copies left (slice from size l₀)) ≡ sets l₀ size (copies (t - 1) (slice from size l₀))

pub repeats_none : (l : List ℕ) (from size t : ℕ) → 0 < t → from < size → size ≤ length l → Repeats l from size t l (t - 1) size
repeats_none l from size t z h k = record { some = z; wide = h; same = refl; level = refl; past = omega arith; room = k; source = refl; rest = refl }

module _ {l₀ : List ℕ} {from size t : ℕ} {l : List ℕ} {left here : ℕ} (w : Repeats l₀ from size t l left here) where
  -- one of them taken from those that are left
  one_less : 0 < left → (left ≡ suc (left - 1)) × (left * (size - from) ≡ (left - 1) * (size - from) + (size - from))
  one_less h = let e : left ≡ suc (left - 1) = omega arith in (e, ap (λ (n : ℕ). n * (size - from)) e ∙ suc-mul (left - 1) (size - from))

  width : length (slice from size l₀) ≡ size - from
  width = length-slice from size l₀ (omega (arith, w.past, w.room))

  once_more : {m : List ℕ} → 0 < left → m ≡ sets l here (slice from size l) → (m ≡ sets l here (slice from size l₀)) × (sets l here (copies left (slice from size l₀)) ≡ sets m (here + (size - from)) (copies (left - 1) (slice from size l₀)))
  unfolding copies
  once_more {m} h e =
      let q : m ≡ sets l here (slice from size l₀) = e ∙ ap (sets l here) w.source in
      let o = slice from size l₀ in
      (q, ap (λ (n : ℕ). sets l here (copies n o)) (one_less h).0 ∙ sym (sets_seam l here o (copies (left - 1) o)) ∙ ap (λ (n : ℕ). sets (sets l here o) (here + n) (copies (left - 1) o)) width ∙ ap (λ (b : List ℕ). sets b (here + (size - from)) (copies (left - 1) o)) (sym q))

  repeats_one : {m : List ℕ} → 0 < left → here + (size - from) ≤ length l → m ≡ sets l here (slice from size l) → Repeats l₀ from size t m (left - 1) (here + (size - from))
  repeats_one {m} h r e =
      let s : length m ≡ length l = ap length e ∙ length-sets l here (slice from size l) in
      record {
        some = w.some;
        wide = w.wide;
        same = s ∙ w.same;
        level = omega (arith, w.level, (one_less h).1);
        past = omega (arith, w.past);
        room = omega (arith, w.same);
        source = ap (slice from size) e ∙ ap (drop from) (sets_before l here size (slice from size l) w.past) ∙ w.source;
        rest = sym (once_more h e).1 ∙ w.rest;
      }

  pub repeats_more : {m : List ℕ} {n e : ℕ} → 0 < left → e ≡ here + (size - from) → e ≤ length l → m ≡ sets l here (slice from size l) → n ≡ left - 1 → Repeats l₀ from size t m n e
  repeats_more {m} h q r e f = rw (q, f) (repeats_one h (omega arith) e)

  pub repeats_full : {m : List ℕ} {q : Option Step} (next : ℕ) → 0 < left → length l < here + (size - from) → m ≡ sets l here (slice from size l) → q ≡ None → repeated l₀ from size t next ≡ (q, m)
  unfolding repeated
  repeats_full {m} next h r e g =
      let x = once_more h e in
      let f : sets m (here + (size - from)) (copies (left - 1) (slice from size l₀)) ≡ m = sets_out m (here + (size - from)) (copies (left - 1) (slice from size l₀)) (omega (arith, ap length e, length-sets l here (slice from size l))) in
      let p : pick (leb (size + (t - 1) * (size - from)) (length l₀)) (Some (step next (from + t * (size - from)))) None ≡ None = pick_false _ None (lt-leb (size + (t - 1) * (size - from)) (length l₀) (omega (arith, w.level, w.same, (one_less h).1))) in
      λ i. ((p ∙ sym g) i, (sym w.rest ∙ x.1 ∙ f) i)

  pub repeats_all : (next : ℕ) → left ≤ 0 → repeated l₀ from size t next ≡ (Some (step next here), l)
  unfolding repeated copies
  repeats_all next h =
      let z : left ≡ 0 = omega arith in
      let v : here ≡ size + (t - 1) * (size - from) = omega (arith, w.level, ap (λ (n : ℕ). n * (size - from)) z, zero-mul (size - from)) in
      let e : t ≡ suc (t - 1) = omega (arith, w.some) in
      let u : from + t * (size - from) ≡ here = omega (arith, w.wide, ap (λ (n : ℕ). n * (size - from)) e, suc-mul (t - 1) (size - from)) in
      let p : pick (leb (size + (t - 1) * (size - from)) (length l₀)) (Some (step next (from + t * (size - from)))) None ≡ Some (step next here) = pick_true (Some (step next (from + t * (size - from)))) None (le-leb (size + (t - 1) * (size - from)) (length l₀) (omega (arith, w.room))) ∙ ap (λ (k : ℕ). Some (step next k)) u in
      λ i. (p i, (sym w.rest ∙ ap (λ (n : ℕ). sets l here (copies n (slice from size l₀))) z) i)

pub repeats_never : (l : List ℕ) (from size t next : ℕ) → size ≤ length l → t ≡ 0 → repeated l from size t next ≡ (Some (step next from), l)
unfolding repeated copies
repeats_never l from size t next h e =
    let z : t - 1 ≡ 0 = omega arith in
    let v : (t - 1) * (size - from) ≡ 0 = ap (λ (n : ℕ). n * (size - from)) z ∙ zero-mul (size - from) in
    let u : from + t * (size - from) ≡ from = omega (arith, ap (λ (n : ℕ). n * (size - from)) e, zero-mul (size - from)) in
    let p : pick (leb (size + (t - 1) * (size - from)) (length l)) (Some (step next (from + t * (size - from)))) None ≡ Some (step next from) = pick_true (Some (step next (from + t * (size - from)))) None (le-leb (size + (t - 1) * (size - from)) (length l) (omega arith)) ∙ ap (λ (k : ℕ). Some (step next k)) u in
    λ i. (p i, sets l size (copies (z i) (slice from size l)))

-- a group of one byte
slice_one : (l : List ℕ) (from size : ℕ) → size ≤ length l → size - from ≡ 1
    → slice from size l ≡ get_or l (size - 1) 0 ∷ []
slice_one l from size h e =
    let s : size ≡ from + 1 = omega arith in
    let p : size - 1 ≡ from = omega arith in
    let n : length (take from l) ≡ from = length-take-le from l (omega arith) in
    let x = get_or l from 0 ∷ [] in
    rw (p, s) (ap (drop from) (take_more l from 0 (omega arith)) ∙ drop_at (take from l) x from n)

copies_one : (n b : ℕ) → copies n (b ∷ []) ≡ replicate n b
unfolding copies
copies_one zero b = refl
copies_one (suc n) b = ap (λ (l : List ℕ). b ∷ l) (copies_one n b)

-- n times more, where it is there t times in all
module _ (l : List ℕ) (from size t next n : ℕ) (h : size ≤ length l) (z : 0 < t) (q : n ≡ t - 1)
    (o : size - from ≡ 1) where
  abbrev byte : ℕ
  byte = get_or l (size - 1) 0

  abbrev end_of : ℕ
  end_of = size + (t - 1) * (size - from)

  end_is : end_of ≡ size + n
  end_is = omega (arith, ap (λ (k : ℕ). (t - 1) * k) o)

  one_all : {m : List ℕ} → m ≡ sets l size (replicate n byte) → sets l size (copies (t - 1) (slice from size l)) ≡ m
  one_all e = ap (λ (x : List ℕ). sets l size (copies (t - 1) x)) (slice_one l from size h o)
      ∙ ap (sets l size) (copies_one (t - 1) byte ∙ ap (λ (k : ℕ). replicate k byte) (sym q)) ∙ sym e

  pub repeats_byte_full : {m : List ℕ} {r : Option Step} → length l < size + n → m ≡ sets l size (replicate n byte)
      → r ≡ None → repeated l from size t next ≡ (r, m)
  unfolding repeated
  repeats_byte_full u e g =
      let k = Some (step next (from + t * (size - from))) in
      let p : pick (leb end_of (length l)) k None ≡ None =
      pick_false k None (lt-leb end_of (length l) (omega (arith, end_is))) in
      λ i. ((p ∙ sym g) i, one_all e i)

  pub repeats_byte : {m : List ℕ} {end : ℕ} → end ≡ size + n → end ≤ length l → m ≡ sets l size (replicate n byte)
      → repeated l from size t next ≡ (Some (step next end), m)
  unfolding repeated
  repeats_byte {m} {end} s u e =
      let k = Some (step next (from + t * (size - from))) in
      let v : from + t * (size - from) ≡ end = omega (arith, ap (λ (j : ℕ). t * j) o) in
      let p : pick (leb end_of (length l)) k None ≡ Some (step next end) =
      pick_true k None (le-leb end_of (length l) (omega (arith, end_is))) ∙ ap (λ (j : ℕ). Some (step next j)) v in
      λ i. (p i, one_all e i)

pub ruleset repeats = (repeats_none, repeats_more, repeats_full, repeats_all, repeats_never)

-- ---- the digits of a line
-- the digits from `here` on, one more
digits_more : (base : ℕ) (line : List ℕ) (here : ℕ) → here < length line → digit_at line here < base → digits base (drop here line) ≡ suc (digits base (drop (here + 1) line))
unfolding digits
digits_more base line here h d = rw (drop-cons line here 0 h, add-one) (pick_true _ 0 (lt-ltb (digit_at line here) base d))

digits_none : (base : ℕ) (line : List ℕ) (here : ℕ) → base ≤ digit_at line here → digits base (drop here line) ≡ 0
unfolding digits
digits_none base line here d =
    split here (length line)
    (λ h. rw (drop-cons line here 0 h) (pick_false _ 0 (le-ltb (digit_at line here) base d)))
    (λ h. rw (drop_of_length-le line h) refl)

-- ---- the bytes of a group
and_no : (a : Bool) {b : Bool} → b ≡ false → a && b ≡ false
and_no true h = h
and_no false h = refl

and_yes : {a b : Bool} → a ≡ true → b ≡ true → a && b ≡ true
and_yes {a} {b} e h = ap (λ (t : Bool). t && b) e ∙ h

and_parts : (a b : Bool) → a && b ≡ true → (a ≡ true) × (b ≡ true)
and_parts true b e = (refl, e)
and_parts false b e = absurd (true_false (sym e))

-- what is known while they are stored
pub record Takes (line : List ℕ) (at : ℕ) (l₀ : List ℕ) (from : ℕ) (l : List ℕ) (here size : ℕ) : Type 0 where
  pub same : length l ≡ length l₀
  pub room : size ≤ length l₀
  pub rest : took_bytes line here l size ≡ took_bytes line at l₀ from

module _ {line : List ℕ} {at : ℕ} {l₀ : List ℕ} {from : ℕ} {l : List ℕ} {here size : ℕ} (w : Takes line at l₀ from l here size) where
  pub takes_end : digit_at line here ≡ 16 → took_bytes line at l₀ from ≡ (Some (step here size), l)
  unfolding took_bytes hex_bytes pick
  takes_end e = sym w.rest ∙ go (digits 16 (drop here line)) (digits_none 16 line here (omega arith))
    where
      go : (n : ℕ) → n ≡ 0 → ◌≡◌ {A = Option Step × List ℕ} (pick (eqb (n % 2) 0 && leb (size + n / 2) (length l)) (Some (step (here + n) (size + n / 2))) None, sets l size (hex_bytes line here (n / 2))) (Some (step here size), l)
      go n z =
          let p : eqb (0 % 2) 0 && leb (size + 0 / 2) (length l) ≡ true = le-leb (size + 0) (length l) (omega (arith, w.same, w.room)) in
          let u : here + 0 ≡ here = omega arith in
          let v : size + 0 ≡ size = omega arith in
          rw (z, p, u, v) refl

  pub takes_odd : {d : ℕ} {r : Option Step} → d ≡ digit_at line here → d < 16 → here < length line → digit_at line (here + 1) ≡ 16 → r ≡ None → took_bytes line at l₀ from ≡ (r, l)
  unfolding took_bytes hex_bytes pick
  takes_odd q h k f g = rw g (sym w.rest ∙ go (digits 16 (drop here line)) (digits_more 16 line here k (omega arith) ∙ ap suc (digits_none 16 line (here + 1) (omega arith))))
    where
      go : (n : ℕ) → n ≡ 1 → ◌≡◌ {A = Option Step × List ℕ} (pick (eqb (n % 2) 0 && leb (size + n / 2) (length l)) (Some (step (here + n) (size + n / 2))) None, sets l size (hex_bytes line here (n / 2))) (None, l)
      go n z = rw z refl

  -- two digits more
  two_more : here < length line → digit_at line here ≤ 15 → here + 1 < length line → digit_at line (here + 1) ≤ 15 → digits 16 (drop here line) ≡ digits 16 (drop (here + 2) line) + 2
  two_more k h m g =
      let e : here + 1 + 1 ≡ here + 2 = omega arith in
      digits_more 16 line here k (omega arith) ∙ ap suc (digits_more 16 line (here + 1) m (omega arith)) ∙ ap (λ (x : ℕ). suc (suc (digits 16 (drop x line)))) e ∙ omega arith

  -- the second of them stands in the line too
  module _ {d e : ℕ} (q : d ≡ digit_at line here) (h : d < 16) (k : here < length line) (f : e ≡ digit_at line (here + 1)) (g : e < 16) (m : here + 1 < length line) where
    abbrev rest_of : ℕ
    rest_of = digits 16 (drop (here + 2) line)

    two_taken : took_bytes line here l size ≡ (pick (eqb (rest_of % 2) 0 && leb (size + (rest_of / 2 + 1)) (length l)) (Some (step (here + (rest_of + 2)) (size + (rest_of / 2 + 1)))) None, sets l size ((d * 16 + e) ∷ hex_bytes line (here + 2) (rest_of / 2)))
    unfolding took_bytes hex_bytes
    two_taken = go (digits 16 (drop here line)) (two_more k (omega arith) m (omega arith))
      where
        go : (n : ℕ) → n ≡ rest_of + 2 → ◌≡◌ {A = Option Step × List ℕ} (pick (eqb (n % 2) 0 && leb (size + n / 2) (length l)) (Some (step (here + n) (size + n / 2))) None, sets l size (hex_bytes line here (n / 2))) (pick (eqb (rest_of % 2) 0 && leb (size + (rest_of / 2 + 1)) (length l)) (Some (step (here + (rest_of + 2)) (size + (rest_of / 2 + 1)))) None, sets l size ((d * 16 + e) ∷ hex_bytes line (here + 2) (rest_of / 2)))
        go n z =
            let a : n % 2 ≡ rest_of % 2 = omega arith in
            let b : n / 2 ≡ rest_of / 2 + 1 = omega arith in
            rw (a, b, z, add-one (rest_of / 2), q, f) refl

    pub takes_full : length l ≤ size → took_bytes line at l₀ from ≡ (None, l)
    takes_full r =
        let p : leb (size + (rest_of / 2 + 1)) (length l) ≡ false = lt-leb (size + (rest_of / 2 + 1)) (length l) (omega arith) in
        sym w.rest ∙ two_taken ∙ (λ i. (pick_false (Some (step (here + (rest_of + 2)) (size + (rest_of / 2 + 1)))) None (and_no (eqb (rest_of % 2) 0) p) i, sets_out l size ((d * 16 + e) ∷ hex_bytes line (here + 2) (rest_of / 2)) r i))

    takes_one : size < length l → Takes line at l₀ from (set l size (d * 16 + e)) (here + 2) (size + 1)
    unfolding took_bytes
    takes_one r = record { same = length-set l size (d * 16 + e) ∙ w.same; room = omega (arith, w.same); rest = go rest_of ∙ sym two_taken ∙ w.rest }
      where
        go : (n : ℕ) → ◌≡◌ {A = Option Step × List ℕ} (pick (eqb (n % 2) 0 && leb (size + 1 + n / 2) (length (set l size (d * 16 + e)))) (Some (step (here + 2 + n) (size + 1 + n / 2))) None, sets (set l size (d * 16 + e)) (size + 1) (hex_bytes line (here + 2) (n / 2))) (pick (eqb (n % 2) 0 && leb (size + (n / 2 + 1)) (length l)) (Some (step (here + (n + 2)) (size + (n / 2 + 1)))) None, sets l size ((d * 16 + e) ∷ hex_bytes line (here + 2) (n / 2)))
        go n =
            let a : size + 1 + n / 2 ≡ size + (n / 2 + 1) = omega arith in
            let b : here + 2 + n ≡ here + (n + 2) = omega arith in
            rw (length-set l size (d * 16 + e), a, b, add-one size) refl

    pub takes_more : {v : ℕ} → size < length l → v ≡ d * 16 + e → Takes line at l₀ from (set l size v) (here + 2) (size + 1)
    takes_more r f = rw f (takes_one r)

-- ---- how often
-- as many digits as there are, and at least as many
digits_least : (line : List ℕ) (at n : ℕ) → Digits line at n → n ≤ digits 10 (drop at line)
digits_least line at zero f = omega arith
digits_least line at (suc n) f =
    let z : at + 0 ≡ at = omega arith in
    let d : digit_at line at ≤ 9 = rw z at (f 0 (omega arith)) in
    let i : at < length line = split at (length line) (λ h. h) (λ h. absurd (omega (arith, digit_past line at h))) in
    let t = digits_least line (at + 1) n (λ k h. let e : at + suc k ≡ at + 1 + k = omega arith in rw e at (f (suc k) (omega arith))) in
    omega (arith, digits_more 10 line at i (omega arith))

digits_are : (line : List ℕ) (at n : ℕ) → Digits line at n → 9 < digit_at line (at + n) → digits 10 (drop at line) ≡ n
digits_are line at zero f g = let z : at + 0 ≡ at = omega arith in digits_none 10 line at (rw z at g)
digits_are line at (suc n) f g =
    let z : at + 0 ≡ at = omega arith in
    let d : digit_at line at ≤ 9 = rw z at (f 0 (omega arith)) in
    let i : at < length line = split at (length line) (λ h. h) (λ h. absurd (omega (arith, digit_past line at h))) in
    let y : at + suc n ≡ at + 1 + n = omega arith in
    let t = digits_are line (at + 1) n (λ k h. let e : at + suc k ≡ at + 1 + k = omega arith in rw e at (f (suc k) (omega arith))) (rw y at g) in
    omega (arith, digits_more 10 line at i (omega arith))

worth_grows : (line : List ℕ) (at n k : ℕ) → n ≤ k → worth line at n ≤ worth line at k
unfolding worth
worth_grows line at n zero h = let e : n ≡ 0 = omega arith in rw e (omega arith)
worth_grows line at n (suc k) h = split n (suc k) (λ l. omega (arith, worth_grows line at n k (omega arith))) (λ l. let e : n ≡ suc k = omega arith in omega (arith, ap (worth line at) e))

decimal_number : (line : List ℕ) (at v next : ℕ) → DecimalMet line at (Some (number v next)) → v < 2 ^ 64 → decimal_of line at ≡ Some (number v next)
unfolding DecimalMet decimal_of
decimal_number line at v next m h = go (digits 10 (drop at line)) (digits_are line at (next - at) m.2.digits m.2.ends)
  where
    go : (n : ℕ) → n ≡ next - at → pick (ltb 0 n && ltb (worth line at n) (2 ^ 64)) (Some (number (worth line at n) (at + n))) None ≡ Some (number v next)
    go n e =
        let a : ltb 0 n ≡ true = lt-ltb 0 n (omega (arith, m.2.some)) in
        let w : worth line at n ≡ v = ap (worth line at) e ∙ sym m.2.worth_is in
        let b : ltb v (2 ^ 64) ≡ true = lt-ltb v (2 ^ 64) h in
        let q : at + n ≡ next = omega (arith, m.0) in
        rw (a, w, b, q) (pick_true _ None refl)

decimal_none : (line : List ℕ) (at : ℕ) → DecimalMet line at None → decimal_of line at ≡ None
unfolding DecimalMet decimal_of
decimal_none line at (inl h) = let e = digits_none 10 line at h in rw e (pick_false _ None refl)
decimal_none line at (inr x) =
    let n = digits 10 (drop at line) in
    let b : ltb (worth line at n) (2 ^ 64) ≡ false = le-ltb (worth line at n) (2 ^ 64) (omega (arith, x.2, worth_grows line at x.0 n (digits_least line at x.0 x.1))) in
    pick_false (Some (number (worth line at n) (at + n))) None (and_no (ltb 0 n) b)

module _ (line : List ℕ) (at : ℕ) {q : Option Scanned} (m : TimesMet line at q) where
  pub times_number : {v next : ℕ} → q ≡ Some (number v next) → v < 2 ^ 64 → times_of line at ≡ Some (number v next)
  unfolding TimesMet times_of
  times_number {v} {next} e h =
      let w = subst (TimesMet line at) e m in
      by_cases (eqb (get_or line at 0) 0x2a)
      (λ t. pick_true _ (Some (number 1 at)) t ∙ decimal_number line (at + 1) v next (w.0 (eqb-true (get_or line at 0) 0x2a t)) h)
      (λ t. pick_false (decimal_of line (at + 1)) _ t ∙ sym (w.1 (eqb-false (get_or line at 0) 0x2a t)))

  pub times_none : q ≡ None → times_of line at ≡ None
  unfolding TimesMet times_of
  times_none e =
      let w = subst (TimesMet line at) e m in
      by_cases (eqb (get_or line at 0) 0x2a)
      (λ t. pick_true _ (Some (number 1 at)) t ∙ decimal_none line (at + 1) (w.0 (eqb-true (get_or line at 0) 0x2a t)))
      (λ t. pick_false (decimal_of line (at + 1)) _ t ∙ sym (w.1 (eqb-false (get_or line at 0) 0x2a t)))

-- ---- a group
length_hex : (line : List ℕ) (at n : ℕ) → length (hex_bytes line at n) ≡ n
unfolding hex_bytes
length_hex line at zero = refl
length_hex line at (suc n) = ap suc (length_hex line (at + 2) n)

-- stored at least once: once, and the others
copies_first : (t : ℕ) (bs : List ℕ) → copies (max t 1) bs ≡ bs ++ copies (t - 1) bs
unfolding copies
copies_first t bs = let e : max t 1 ≡ suc (t - 1) = omega arith in rw e refl

width_first : (t k : ℕ) → max t 1 * k ≡ k + (t - 1) * k
width_first t k = let e : max t 1 ≡ suc (t - 1) = omega arith in ap (λ (n : ℕ). n * k) e ∙ omega (arith, suc-mul (t - 1) k)

-- without room for the bytes once
store_full : (l : List ℕ) (from : ℕ) (once : List ℕ) (q : Option Scanned) → length l < from + length once → store_times l from once q ≡ (None, sets l from once)
unfolding store_times
store_full l from once None h = refl
store_full l from once (Some s) h =
    let t = s.value in
    let p : leb (from + max t 1 * length once) (length l) ≡ false = lt-leb (from + max t 1 * length once) (length l) (omega (arith, width_first t (length once))) in
    let e : sets l from (copies (max t 1) once) ≡ sets l from once = ap (sets l from) (copies_first t once) ∙ sets_full l from once (copies (t - 1) once) (omega arith) in
    λ i. (pick_false (Some (step s.next (from + t * length once))) None p i, e i)

-- the bytes once, and then the repeats
store_repeats : (l : List ℕ) (from : ℕ) (once : List ℕ) (t end : ℕ) {size : ℕ} {m : List ℕ} → size ≡ from + length once → size ≤ length l → m ≡ sets l from once → store_times l from once (Some (number t end)) ≡ repeated m from size t end
unfolding store_times repeated
store_repeats l from once t end {size} {m} z h e =
    let k : length once ≡ size - from = omega arith in
    let a : from + max t 1 * length once ≡ size + (t - 1) * (size - from) = omega (arith, width_first t (length once), ap (λ (x : ℕ). (t - 1) * x) k) in
    let b : length l ≡ length m = sym (ap length e ∙ length-sets l from once) in
    let o : once ≡ slice from size m = sym (sets_slice l from once (omega arith)) ∙ (λ i. slice from (sym z i) (sym e i)) in
    let s : sets l from (copies (max t 1) once) ≡ sets m size (copies (t - 1) (slice from size m)) = ap (sets l from) (copies_first t once) ∙ sym (sets_seam l from once (copies (t - 1) once)) ∙ (λ i. sets (sym e i) (sym z i) (copies (t - 1) (o i))) in
    λ i. (pick (leb (a i) (b i)) (Some (step end (from + t * k i))) None, s i)

module _ (line : List ℕ) (at : ℕ) (l : List ℕ) (from : ℕ) where
  abbrev n : ℕ
  n = digits 16 (drop at line)

  abbrev once : List ℕ
  once = hex_bytes line at (n / 2)

  -- the bytes once, whole
  record Took (next size : ℕ) : Type 0 where
    even : eqb (n % 2) 0 ≡ true
    next_is : next ≡ at + n
    size_is : size ≡ from + n / 2
    room : size ≤ length l

  module _ {p : Option Step} {m : List ℕ} (e : took_bytes line at l from ≡ (p, m)) where
    took_answer : pick (eqb (n % 2) 0 && leb (from + n / 2) (length l)) (Some (step (at + n) (from + n / 2))) None ≡ p
    unfolding took_bytes
    took_answer = ap (λ (x : Option Step × List ℕ). x.0) e

    took_bytes_law : sets l from once ≡ m
    unfolding took_bytes
    took_bytes_law = ap (λ (x : Option Step × List ℕ). x.1) e

    pub group_stuck : {r : Option Step} → p ≡ None → r ≡ None → group_at line at l from ≡ (r, m)
    unfolding group_at store_times
    group_stuck f g = rw g (
        by_cases (eqb (n % 2) 0)
        (λ t. by_cases (leb (from + n / 2) (length l)) (λ u. let x : Some (step (at + n) (from + n / 2)) ≡ None = sym (pick_true (Some (step (at + n) (from + n / 2))) None (and_yes t u)) ∙ took_answer ∙ f in cc) (λ u. store_full l from once (pick (eqb (n % 2) 0) (times_of line (at + n)) None) (omega (arith, leb-false (from + n / 2) (length l) u, length_hex line at (n / 2))) ∙ (λ i. (None, took_bytes_law i))))
        (λ t. ap (store_times l from once) (pick_false (times_of line (at + n)) None t) ∙ (λ i. (None, took_bytes_law i))))

    module _ {next size : ℕ} (f : p ≡ Some (step next size)) where
      took_on : Took next size
      took_on =
          by_cases (eqb (n % 2) 0 && leb (from + n / 2) (length l))
          (λ t. let x : Some (step (at + n) (from + n / 2)) ≡ Some (step next size) = sym (pick_true (Some (step (at + n) (from + n / 2))) None t) ∙ took_answer ∙ f in let b = and_parts (eqb (n % 2) 0) (leb (from + n / 2) (length l)) t in let q : step (at + n) (from + n / 2) ≡ step next size = cc in let y : from + n / 2 ≡ size = ap (λ (s : Step). s.size) q in record { even = b.0; next_is = sym (ap (λ (s : Step). s.next) q); size_is = sym y; room = omega (arith, leb-true (from + n / 2) (length l) b.1) })
          (λ t. let x : None ≡ Some (step next size) = sym (pick_false (Some (step (at + n) (from + n / 2))) None t) ∙ took_answer ∙ f in cc)

      -- where a digit stands, some bytes are taken
      pub took_some : digit_at line at < 16 → (from < size) × (size ≤ length m)
      took_some d =
          let w = took_on in
          let i : at < length line = split at (length line) (λ h. h) (λ h. absurd (omega (arith, digit_past line at h))) in
          (omega (arith, w.size_is, eqb-true (n % 2) 0 w.even, digits_more 16 line at i d), omega (arith, w.room, ap length took_bytes_law, length-sets l from once))

      scanned : group_at line at l from ≡ store_times l from once (times_of line next)
      unfolding group_at
      scanned = ap (store_times l from once) (pick_true (times_of line (at + n)) None took_on.even ∙ ap (times_of line) (sym took_on.next_is))

      pub group_unread : {r : Option Step} → times_of line next ≡ None → r ≡ None → group_at line at l from ≡ (r, m)
      unfolding store_times
      group_unread q g = scanned ∙ ap (store_times l from once) q ∙ (λ i. (sym g i, took_bytes_law i))

      pub group_repeats : {t end : ℕ} → times_of line next ≡ Some (number t end) → group_at line at l from ≡ repeated m from size t end
      group_repeats {t} {end} q = scanned ∙ ap (store_times l from once) q ∙ store_repeats l from once t end (took_on.size_is ∙ ap (λ (k : ℕ). from + k) (sym (length_hex line at (n / 2)))) took_on.room (sym took_bytes_law)

-- ---- the groups
-- what is known while they are read
pub record Gathers (line : List ℕ) (at : ℕ) (l₀ l : List ℕ) (here held : ℕ) : Type 0 where
  pub bound : ℕ
  pub enough : length line ≤ here + bound
  pub room : held ≤ length l
  pub same : length l ≡ length l₀
  pub rest : groups_from bound line here held l ≡ groups_of line at l₀

pub gathers_none : (line : List ℕ) (at : ℕ) (l : List ℕ) → Gathers line at l l at 0
gathers_none line at l = record { bound = length line; enough = omega arith; room = omega arith; same = refl; rest = refl }

module _ {line : List ℕ} {at : ℕ} {l₀ l : List ℕ} {here held : ℕ} (w : Gathers line at l₀ l here held) where
  stop : group_stands line here ≡ false → groups_of line at l₀ ≡ (Some (step here held), l)
  unfolding groups_from
  stop e = sym w.rest ∙ go w.bound
    where
      go : (b : ℕ) → groups_from b line here held l ≡ (Some (step here held), l)
      go zero = refl
      go (suc b) = pick_false (onward (group_at line (here + 1) l held) (groups_from b line)) (Some (step here held), l) e

  pub gathers_end : {t : Bool} → t ≡ ltb here (length line) && eqb (get_or line here 0) 0x20 → t ≡ false → groups_of line at l₀ ≡ (Some (step here held), l)
  gathers_end e f =
      stop
      (by_cases (eqb (get_or line here 0) 0x20)
      (λ u. let i = stands_within line here 0x20 (omega arith) (eqb-true (get_or line here 0) 0x20 u) in absurd (true_false (sym (and_yes (lt-ltb here (length line) i) u) ∙ sym e ∙ f)))
      (λ u. ap (λ (b : Bool). b && ltb (digit_at line (here + 1)) 16) u))

  pub gathers_break : digit_at line (here + 1) ≡ 16 → groups_of line at l₀ ≡ (Some (step here held), l)
  gathers_break e = stop (and_no (eqb (get_or line here 0) 0x20) (le-ltb (digit_at line (here + 1)) 16 (omega arith)))

  module _ {t : Bool} (e : t ≡ ltb here (length line) && eqb (get_or line here 0) 0x20) (f : t ≡ true) (h : digit_at line (here + 1) < 16) {p : Option Step} {m : List ℕ} (g : group_at line (here + 1) l held ≡ (p, m)) where
    in_line : here < length line
    in_line = stands_says line here 0x20 e f

    go_on : (b : ℕ) × (length line ≤ here + 1 + b) × (groups_from w.bound line here held l ≡ onward (p, m) (groups_from b line))
    unfolding groups_from
    go_on = go w.bound w.enough
      where
        both : group_stands line here ≡ true
        both = and_yes (eq-eqb (get_or line here 0) 0x20 (both_true (ltb here (length line)) (get_or line here 0) 0x20 (sym e ∙ f)).1) (lt-ltb (digit_at line (here + 1)) 16 (omega arith))

        go : (k : ℕ) → length line ≤ here + k → (b : ℕ) × (length line ≤ here + 1 + b) × (groups_from k line here held l ≡ onward (p, m) (groups_from b line))
        go zero i = absurd (omega (arith, in_line))
        go (suc k) i = (k, omega arith, pick_true (onward (group_at line (here + 1) l held) (groups_from k line)) (Some (step here held), l) both ∙ ap (λ (x : Option Step × List ℕ). onward x (groups_from k line)) g)

    pub gathers_stuck : {r : Option Step} → p ≡ None → r ≡ None → groups_of line at l₀ ≡ (r, m)
    gathers_stuck s g = rw g (sym w.rest ∙ go_on.2 ∙ ap (λ (x : Option Step). onward (x, m) (groups_from go_on.0 line)) s)

    pub gathers_more : {next size : ℕ} → p ≡ Some (step next size) → (here < length line) × (here < next) × Gathers line at l₀ m next size
    gathers_more s =
        let b = group_on line (here + 1) l held g s in (
          in_line,
          omega (arith, b.0),
          record {
            bound = go_on.0;
            enough = omega (arith, go_on.1, b.0);
            room = omega (arith, b.1, b.2);
            same = b.2 ∙ w.same;
            rest = sym (ap (λ (x : Option Step). onward (x, m) (groups_from go_on.0 line)) s) ∙ sym go_on.2 ∙ w.rest;
          },
        )

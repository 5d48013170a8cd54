-- The writer at an index of the rows: the items that rows claim, up to the first row that claims none, and what is
-- written from an item on. One law for each combinator of the spelling.
use Rattle.std.proofs.Math.Path.{◌≡◌, refl, ap, ap₂}
use Rattle.std.proofs.Common.{sym, subst, ◌∙◌, take-append-drop, drop_of_length-le, drop-cons, drop_at, zero-add}
use Rattle.std.specs.Prelude.{Bool, ◌&&◌, take, get_or}
use Rattle.std.proofs.Math.Bool.{true, false}
use mathlib.Core.List.{List, [], ◌∷◌, ◌++◌, append_assoc}
use Rattle.std.proofs.Math.Option.{Option, none, some}
use Prim.Native.Nat.{ℕ, zero, suc, ◌+◌, ◌-◌, ◌≤◌, ◌<◌}
use native.Mathlib.Omega.{arith}
use Rattle.std.proofs.Math.ListN.{length, drop, length-append, length-drop}
use Rattle.std.proofs.Math.Seq.{drop-nil}
use borrow.Author.Tests.{eq-eqb, eqb-true}
use Rattle.flow.specs.Flow.{pick}
use Rattle.scalar.specs.declared.Sort.TheVariants as sort
use Rattle.scalar.specs.declared.Encoding.TheVariants.{Utf8, Binary}
use Rattle.scalar.specs.Scalars.{Num, Str}
use Rattle.flow.specs.Tests.{split, pick_true, pick_false, pick_either}
use Rattle.record.specs.Model.Items.{Value, Leaf, UntypedList, TypedList, UntypedMap, TypedMap, Object, Reference}
use Rattle.record.specs.Model.Items.{Item, Val, Definition, ClassName, FieldName, TypeName, TypeNumber, Known}
use Rattle.record.specs.Model.Rows.{Row, item_row, span, ends}
use Rattle.record.specs.Model.Claims.{afters}
use Rattle.record.specs.Model.Shortest.{Spelling, Spelled, NoRecord, Put, put_then, put_many, put_bytes, put_if}
use Rattle.record.specs.Model.Shortest.{put_item}
use Rattle.record.specs.Model.Shortest.{prefixed, on_spelled}
use Rattle.flow.specs.Flow.{on_some}
use Rattle.record.specs.Laws.Claimed.{item_at, items_of}
use Rattle.record.proofs.Laws.Claimed.{claims_back}
use Rattle.record.specs.Laws.Takes.{Taken, none_taken, taken, Drops}
use Rattle.record.proofs.Laws.Takes.{bytes_takes}
use Rattle.record.specs.Model.Claims.{ContentMap}
use Rattle.record.specs.ForWriter.WritingAt.{holding, claimed_by, plainly, row_at, claim_at, claimed_from, claimed, At, End, WritingAt, WrittenTo, NoMessage, writing_of, walk, behind, on_written}

-- ---- the items that rows claim, up to the first row that claims none
module _ (contents : ContentMap) where
  few_from : (b : ℕ) (r : List Row) → length (claimed_from contents b r) ≤ length r
  unfolding claimed_from
  few_from b [] = omega arith
  few_from b (x ∷ r) = go (claim_at contents b x) (few_from (suc b) r)
    where
      go : (o : Option Item) → length (claimed_from contents (suc b) r) ≤ length r
          → length (claimed_by o (claimed_from contents (suc b) r)) ≤ suc (length r)
      go none h = omega arith
      go (some i) h = omega arith

  pub claimed_few : (r : List Row) → length (claimed contents r) ≤ length r
  unfolding claimed
  claimed_few r = few_from 0 r

  -- what the row k claims, where those before it claim something
  at_from : (b : ℕ) (r : List Row) (k : ℕ) → k < length r → k ≤ length (claimed_from contents b r)
      → drop k (claimed_from contents b r) ≡ claimed_by (claim_at contents (b + k) (row_at r k)) (drop (suc k) (claimed_from contents b r))
  unfolding claimed_from
  at_from b [] k l h = absurd (omega arith)
  at_from b (x ∷ r) zero l h = let e : b ≡ b + 0 = omega arith in go (claim_at contents b x)
      ∙ ap (λ (j : ℕ). claimed_by (claim_at contents j x) (drop 1 (claimed_by (claim_at contents b x) (claimed_from contents (suc b) r)))) e
    where
      go : (o : Option Item) → claimed_by o (claimed_from contents (suc b) r) ≡ claimed_by o
          (drop 1 (claimed_by o (claimed_from contents (suc b) r)))
      go none = refl
      go (some i) = refl
  at_from b (x ∷ r) (suc k) l h = let e : suc b + k ≡ b + suc k = omega arith in
      go (claim_at contents b x) (λ i. at_from (suc b) r k (omega arith) i
      ∙ ap (λ (j : ℕ). claimed_by (claim_at contents j (row_at r k)) (drop (suc k) (claimed_from contents (suc b) r))) e) h
    where
      go : (o : Option Item) → (k ≤ length (claimed_from contents (suc b) r) → drop k (claimed_from contents (suc b) r)
          ≡ claimed_by (claim_at contents (b + suc k) (row_at r k)) (drop (suc k) (claimed_from contents (suc b) r)))
          → suc k ≤ length (claimed_by o (claimed_from contents (suc b) r))
          → drop (suc k) (claimed_by o (claimed_from contents (suc b) r)) ≡ claimed_by (claim_at contents (b + suc k) (row_at r k))
          (drop (suc (suc k)) (claimed_by o (claimed_from contents (suc b) r)))
      go none f h = absurd (omega arith)
      go (some i) f h = f (omega arith)

  pub claimed_at : (r : List Row) (k : ℕ) → k < length r → k ≤ length (claimed contents r)
      → drop k (claimed contents r) ≡ claimed_by (claim_at contents k (row_at r k)) (drop (suc k) (claimed contents r))
  unfolding claimed
  claimed_at r k l h =
      at_from 0 r k l h ∙ ap (λ (j : ℕ). claimed_by (claim_at contents j (row_at r k)) (drop (suc k) (claimed contents r))) (zero-add k)

  pub claimed_end : (r : List Row) (k : ℕ) → length r ≤ k → drop k (claimed contents r) ≡ []
  claimed_end r k l = let q : length (claimed contents r) ≤ k = omega (arith, claimed_few r) in drop_of_length-le (claimed contents r) q

  -- ---- all of them, or fewer
  -- where the fifth number is right, it is so plainly
  item_plainly : (k p e : ℕ) (i : Item) (is : List Item) → e ≡ k + span i is → plainly k (item_row p e i) ≡ true
  unfolding pick span
  item_plainly k p e (Val (Leaf (Num sort.Null v))) is h = eq-eqb e (k + 1) h
  item_plainly k p e (Val (Leaf (Num sort.False v))) is h = eq-eqb e (k + 1) h
  item_plainly k p e (Val (Leaf (Num sort.True v))) is h = eq-eqb e (k + 1) h
  item_plainly k p e (Val (Leaf (Num sort.Int v))) is h = eq-eqb e (k + 1) h
  item_plainly k p e (Val (Leaf (Num sort.Long v))) is h = eq-eqb e (k + 1) h
  item_plainly k p e (Val (Leaf (Num sort.Double v))) is h = eq-eqb e (k + 1) h
  item_plainly k p e (Val (Leaf (Num sort.Date v))) is h = eq-eqb e (k + 1) h
  item_plainly k p e (Val (Leaf (Str Utf8 cs))) is h = eq-eqb e (k + 1) h
  item_plainly k p e (Val (Leaf (Str Binary cs))) is h = eq-eqb e (k + 1) h
  item_plainly k p e (Val (UntypedList n)) is h = refl
  item_plainly k p e (Val (TypedList n t)) is h = refl
  item_plainly k p e (Val (UntypedMap n)) is h = refl
  item_plainly k p e (Val (TypedMap n t)) is h = refl
  item_plainly k p e (Val (Object j n)) is h = refl
  item_plainly k p e (Val (Reference j)) is h = eq-eqb e (k + 1) h
  item_plainly k p e (Definition n) is h = eq-eqb e (k + 2 + n) (omega arith)
  item_plainly k p e (ClassName cs) is h = eq-eqb e (k + 1) h
  item_plainly k p e (FieldName cs) is h = eq-eqb e (k + 1) h
  item_plainly k p e (TypeName cs) is h = eq-eqb e (k + 1) h
  item_plainly k p e (TypeNumber j) is h = eq-eqb e (k + 1) h

  -- and the other way round, but for lists, maps and objects
  plainly_item : (k p e : ℕ) (i : Item) (is : List Item) → plainly k (item_row p e i) ≡ true
      → ((v : Value) → i ≡ Val v → holding v ≡ true → e ≡ k + span i is) → e ≡ k + span i is
  unfolding pick span
  plainly_item k p e (Val (Leaf (Num sort.Null v))) is h f = eqb-true e (k + 1) h
  plainly_item k p e (Val (Leaf (Num sort.False v))) is h f = eqb-true e (k + 1) h
  plainly_item k p e (Val (Leaf (Num sort.True v))) is h f = eqb-true e (k + 1) h
  plainly_item k p e (Val (Leaf (Num sort.Int v))) is h f = eqb-true e (k + 1) h
  plainly_item k p e (Val (Leaf (Num sort.Long v))) is h f = eqb-true e (k + 1) h
  plainly_item k p e (Val (Leaf (Num sort.Double v))) is h f = eqb-true e (k + 1) h
  plainly_item k p e (Val (Leaf (Num sort.Date v))) is h f = eqb-true e (k + 1) h
  plainly_item k p e (Val (Leaf (Str Utf8 cs))) is h f = eqb-true e (k + 1) h
  plainly_item k p e (Val (Leaf (Str Binary cs))) is h f = eqb-true e (k + 1) h
  plainly_item k p e (Val (UntypedList n)) is h f = f (UntypedList n) refl refl
  plainly_item k p e (Val (TypedList n t)) is h f = f (TypedList n t) refl refl
  plainly_item k p e (Val (UntypedMap n)) is h f = f (UntypedMap n) refl refl
  plainly_item k p e (Val (TypedMap n t)) is h f = f (TypedMap n t) refl refl
  plainly_item k p e (Val (Object j n)) is h f = f (Object j n) refl refl
  plainly_item k p e (Val (Reference j)) is h f = eqb-true e (k + 1) h
  plainly_item k p e (Definition n) is h f = omega (arith, eqb-true e (k + 2 + n) h)
  plainly_item k p e (ClassName cs) is h f = eqb-true e (k + 1) h
  plainly_item k p e (FieldName cs) is h f = eqb-true e (k + 1) h
  plainly_item k p e (TypeName cs) is h f = eqb-true e (k + 1) h
  plainly_item k p e (TypeNumber j) is h f = eqb-true e (k + 1) h

  module _ (k : ℕ) (x : Row) (i : Item) (h : item_at contents x ≡ some i) (is : List Item) where
    right_plainly : x.after ≡ k + span i is → plainly k x ≡ true
    right_plainly e = subst (λ (y : Row). plainly k y ≡ true) (claims_back contents x i h).agrees
        (item_plainly k x.place x.after i is e)

    plainly_right : plainly k x ≡ true → ((v : Value) → i ≡ Val v → holding v ≡ true → x.after ≡ k + span i is)
        → x.after ≡ k + span i is
    plainly_right e f = plainly_item k x.place x.after i is (subst (λ (y : Row). plainly k y ≡ true)
        (sym (claims_back contents x i h).agrees) e) f

  all_from : (b : ℕ) (r : List Row) (is : List Item) → items_of contents r ≡ some is → afters r ≡ ends b is
      → claimed_from contents b r ≡ is
  unfolding claimed_from
  all_from b [] is e f = cc
  all_from b (x ∷ r) is e f =
      go (λ js d v. all_from (suc b) r js d v) (item_at contents x) refl (items_of contents r) refl e
    where
      go : ((js : List Item) → items_of contents r ≡ some js → afters r ≡ ends (suc b) js → claimed_from contents (suc b) r ≡ js)
          → (o : Option Item) → item_at contents x ≡ o → (q : Option (List Item)) → items_of contents r ≡ q
          → on_some (λ i. on_some (λ is. some (i ∷ is)) q) o ≡ some is → claimed_by
          (pick (plainly b x) (item_at contents x) none) (claimed_from contents (suc b) r) ≡ is
      go m none a q d e = let z : ◌≡◌ {A = ℕ} 0 1 = cc in absurd (omega arith)
      go m (some i) a none d e = let z : ◌≡◌ {A = ℕ} 0 1 = cc in absurd (omega arith)
      go m (some i) a (some js) d e =
          let g : i ∷ js ≡ is = cc in
          let t : x.after ∷ afters r ≡ ends b (i ∷ js) = f ∙ ap (ends b) (sym g) in
          let u : x.after ≡ b + span i js = cc in
          let v : afters r ≡ ends (suc b) js = cc in
          ap (λ (o : Option Item). claimed_by o (claimed_from contents (suc b) r)) (pick_true _ _ (right_plainly b x i a js u) ∙ a)
          ∙ ap {B = List Item} (λ l. i ∷ l) (m js d v) ∙ g

  pub claimed_all : (r : List Row) (is : List Item) → items_of contents r ≡ some is → afters r ≡ ends 0 is
      → claimed contents r ≡ is
  unfolding claimed
  claimed_all r is e f = all_from 0 r is e f

  short_from : (b : ℕ) (r : List Row) → items_of contents r ≡ none → length (claimed_from contents b r) < length r
  unfolding claimed_from
  short_from b [] e = let z : ◌≡◌ {A = ℕ} 0 1 = cc in absurd (omega arith)
  short_from b (x ∷ r) e = go (item_at contents x) (items_of contents r) (short_from (suc b) r) e (plainly b x)
    where
      go : (o : Option Item) (q : Option (List Item)) → (q ≡ none → length (claimed_from contents (suc b) r) < length r)
          → on_some (λ i. on_some (λ is. some (i ∷ is)) q) o ≡ none → (t : Bool)
          → length (claimed_by (pick t o none) (claimed_from contents (suc b) r)) < suc (length r)
      go none q h e t = pick_either (λ (o : Option Item). length (claimed_by o (claimed_from contents (suc b) r)) < suc (length r))
          t (λ z. omega arith) (λ z. omega arith)
      go (some i) none h e t = pick_either (λ (o : Option Item). length (claimed_by o (claimed_from contents (suc b) r)) < suc
          (length r)) t (λ z. omega (arith, h refl)) (λ z. omega arith)
      go (some i) (some js) h e t = let z : ◌≡◌ {A = ℕ} 0 1 = cc in absurd (omega arith)

  pub claimed_short : (r : List Row) → items_of contents r ≡ none → length (claimed contents r) < length r
  unfolding claimed
  claimed_short r e = short_from 0 r e

  -- where each row claims an item; and all fifth numbers are right, where those of lists, maps and objects are
  abbrev Held : ℕ → List Row → List Item → Type 0
  Held b r is = (j : ℕ) (v : Value) (js : List Item) → drop j is ≡ Val v ∷ js → holding v ≡ true
      → (row_at r j).after ≡ b + j + span (Val v) js

  abbrev Full : ℕ → List Row → List Item → Type 0
  Full b r is = (claimed_from contents b r ≡ is) × (Held b r is → afters r ≡ ends b is)

  full_from : (b : ℕ) (r : List Row) (is : List Item) → items_of contents r ≡ some is
      → length r ≤ length (claimed_from contents b r) → Full b r is
  unfolding claimed_from
  full_from b [] is e l = let q : [] ≡ is = cc in (q, λ f. ap (ends b) q)
  full_from b (x ∷ r) is e l = go (λ js d k. full_from (suc b) r js d k) (item_at contents x) refl
      (items_of contents r) refl e (plainly b x) refl l
    where
      go : ((js : List Item) → items_of contents r ≡ some js → length r ≤ length (claimed_from contents (suc b) r)
          → Full (suc b) r js) → (o : Option Item) → item_at contents x ≡ o → (q : Option (List Item))
          → items_of contents r ≡ q
          → on_some (λ i. on_some (λ is. some (i ∷ is)) q) o ≡ some is → (t : Bool) → plainly b x ≡ t
          → suc (length r) ≤ length (claimed_by (pick t (item_at contents x) none) (claimed_from contents (suc b) r))
          → (claimed_by (pick t (item_at contents x) none) (claimed_from contents (suc b) r) ≡ is)
          × (Held b (x ∷ r) is → x.after ∷ afters r ≡ ends b is)
      go m none a q d e t p l = let z : ◌≡◌ {A = ℕ} 0 1 = cc in absurd (omega arith)
      go m (some i) a none d e t p l = let z : ◌≡◌ {A = ℕ} 0 1 = cc in absurd (omega arith)
      go m (some i) a (some js) d e false p l =
          let y : length (claimed_by (pick false (item_at contents x) none) (claimed_from contents (suc b) r)) ≡ 0 =
          ap (λ (o : Option Item). length (claimed_by o (claimed_from contents (suc b) r)))
          (pick_false (item_at contents x) none refl) in
          absurd (omega arith)
      go m (some i) a (some js) d e true p l =
          let g : i ∷ js ≡ is = cc in
          let c = ap (λ (o : Option Item). claimed_by o (claimed_from contents (suc b) r)) (pick_true (item_at contents x) none refl
          ∙ a) in
          let h = m js d (omega (arith, ap length c)) in (
            c ∙ ap {B = List Item} (λ l. i ∷ l) h.0 ∙ g,
            λ f.
                let u = plainly_right b x i a js p (λ v q w. let s : b + 0 ≡ b = omega arith in
                f 0 v js (sym g ∙ ap {B = List Item} (λ z. z ∷ js) q) w ∙ ap (λ (m : ℕ). m + span (Val v) js) s
                ∙ ap (λ (z : Item). b + span z js) (sym q)) in
                let y = h.1 (λ j v ks u w. let s : suc b + j ≡ b + suc j = omega arith in
                f (suc j) v ks (ap (drop (suc j)) (sym g) ∙ u) w ∙ ap (λ (m : ℕ). m + span (Val v) ks) (sym s)) in
                ap₂ (λ (m : ℕ) (l : List ℕ). m ∷ l) u y ∙ ap (ends b) g,
          )

  pub claimed_full : (r : List Row) (is : List Item) → items_of contents r ≡ some is → length r ≤ length (claimed contents r)
      → (claimed contents r ≡ is) × (((j : ℕ) (v : Value) (js : List Item) → drop j is ≡ Val v ∷ js → holding v ≡ true
      → (row_at r j).after ≡ j + span (Val v) js) → afters r ≡ ends 0 is)
  unfolding claimed
  claimed_full r is e l = let h = full_from 0 r is e l in
      (h.0, λ f. h.1 (λ j v js a w. f j v js a w ∙ ap (λ (m : ℕ). m + span (Val v) js) (sym (zero-add j))))

-- the fifth number of the row j, where the fifth numbers are those of the items
pub ends_at : (b : ℕ) (r : List Row) (is : List Item) → afters r ≡ ends b is → (j : ℕ) (i : Item) (js : List Item)
    → drop j is ≡ i ∷ js → (row_at r j).after ≡ b + j + span i js
ends_at b [] [] e j i js a = let n = ap length (sym (drop-nil j) ∙ a) in absurd (omega (arith, n))
ends_at b [] (y ∷ ys) e j i js a = let z : ◌≡◌ {A = ℕ} 0 1 = cc in absurd (omega arith)
ends_at b (x ∷ r) [] e j i js a = let z : ◌≡◌ {A = ℕ} 0 1 = cc in absurd (omega arith)
ends_at b (x ∷ r) (y ∷ ys) e zero i js a =
    let p : y ≡ i = cc in
    let q : ys ≡ js = cc in
    let u : x.after ≡ b + span y ys = cc in
    let s : b + span i js ≡ b + 0 + span i js = omega arith in
    u ∙ ap₂ (λ (z : Item) (l : List Item). b + span z l) p q ∙ s
ends_at b (x ∷ r) (y ∷ ys) e (suc j) i js a =
    let v : afters r ≡ ends (suc b) ys = cc in
    let s : suc b + j + span i js ≡ b + suc j + span i js = omega arith in
    ends_at (suc b) r ys v j i js a ∙ s

pub at_within : (is : List Item) (k : ℕ) (i : Item) → At is k i → suc k ≤ length is
at_within is k i e = omega (arith, ap length e, length-drop k is)

pub at_or_end : (is : List Item) (k : ℕ) {P : Type 0} → ((i : Item) → At is k i → P) → (End is k → P) → P
at_or_end is k f g = split k (length is) (λ l. f (get_or is k (Definition 0)) (drop-cons is k (Definition 0) l))
    (λ l. g (drop_of_length-le is l))

-- by what the row k claims
module _ (contents : ContentMap) (r : List Row) (k : ℕ) where
  pub row_at_law : k < length r → k ≤ length (claimed contents r) → (i : Item) → claim_at contents k (row_at r k) ≡ some i
      → At (claimed contents r) k i
  row_at_law l h i e =
      claimed_at contents r k l h ∙ ap (λ (o : Option Item). claimed_by o (drop (suc k) (claimed contents r))) e

  pub row_none : k < length r → k ≤ length (claimed contents r) → claim_at contents k (row_at r k) ≡ none
      → End (claimed contents r) k
  row_none l h e =
      claimed_at contents r k l h ∙ ap (λ (o : Option Item). claimed_by o (drop (suc k) (claimed contents r))) e

  pub row_end : length r ≤ k → End (claimed contents r) k
  row_end l = claimed_end contents r k l

pub behind_none : (o : WritingAt) → behind [] o ≡ o
behind_none (WrittenTo w e c) = refl
behind_none NoMessage = refl

pub behind_behind : (u v : List ℕ) (o : WritingAt) → behind u (behind v o) ≡ behind (u ++ v) o
behind_behind u v (WrittenTo w e c) = ap (λ (l : List ℕ). WrittenTo l e c) (sym (append_assoc u v w))
behind_behind u v NoMessage = refl

pub behind_on : (w : List ℕ) (o : WritingAt) (g : ℕ → Known → WritingAt)
    → behind w (on_written o g) ≡ on_written (behind w o) g
behind_on w (WrittenTo v e c) g = behind_behind w v (g e c)
behind_on w NoMessage g = refl

-- ---- the items that are left are those from an index on
last_from : (is r : List Item) (k : ℕ) (t : List Item) → drop k is ≡ t ++ r → r ≡ drop (length is - length r) is
last_from is r k t e =
    let f = take k is ++ t in
    let q = sym (take-append-drop k is) ∙ ap (λ (l : List Item). take k is ++ l) e
    ∙ sym (append_assoc (take k is) t r) in
    sym (ap (drop (length is - length r)) q ∙ drop_at f r (length is - length r)
    (omega (arith, ap length q, length-append f r)))

walked_prefixed : (is : List Item) (w : List ℕ) (o : Spelling) → writing_of is (prefixed w o) ≡ behind w (writing_of is o)
walked_prefixed is w (Spelled v r c) = refl
walked_prefixed is w NoRecord = refl

-- ---- one law for each combinator
module _ (c : Known) (is : List Item) (k : ℕ) where
  pub walk_then : (f g : Put) → Drops f → walk (put_then f g) c is k ≡ on_written (walk f c is k) (λ e c'. walk g c' is e)
  unfolding walk
  walk_then f g h = go (h.takes c (drop k is))
    where
      go : {P : List Item → Type 0} {o : Spelling} → Taken P (drop k is) o
          → writing_of is (on_spelled o (λ w r' c'. prefixed w (g c' r')))
          ≡ on_written (writing_of is o) (λ e c'. writing_of is (g c' (drop e is)))
      go (taken {w = w} {r = r} {c = c'} {t = t} e x) =
          walked_prefixed is w (g c' r) ∙ ap (λ (s : List Item). behind w (writing_of is (g c' s)))
          (last_from is r k t e)
      go none_taken = refl

  -- what takes no item of its own
  pub walk_bytes : (w : List ℕ) → k ≤ length is → walk (put_bytes (some w)) c is k ≡ WrittenTo w k c
  unfolding walk
  walk_bytes w l =
      let q : length is - length (drop k is) ≡ k = omega (arith, length-drop k is) in ap (λ (e : ℕ). WrittenTo w e c) q

  pub walk_none : walk (put_bytes none) c is k ≡ NoMessage
  unfolding walk
  walk_none = refl

  pub walk_if : (g : Put) (t : Bool) → t ≡ true → walk (put_if t g) c is k ≡ walk g c is k
  walk_if g t e = ap (λ (x : Bool). walk (put_if x g) c is k) e

  pub walk_unless : (g : Put) (t : Bool) → t ≡ false → walk (put_if t g) c is k ≡ NoMessage
  unfolding walk
  walk_unless g t e = ap (λ (x : Bool). walk (put_if x g) c is k) e

  -- where both tests hold
  pub walk_both : (g : Put) (a b : Bool) → a ≡ true → b ≡ true → walk (put_if (a && b) g) c is k ≡ walk g c is k
  walk_both g a b x y = walk_if g (a && b) (ap (λ (t : Bool). t && b) x ∙ y)

  pub walk_unless_one : (g : Put) (a b : Bool) → a ≡ false → walk (put_if (a && b) g) c is k ≡ NoMessage
  walk_unless_one g a b x = walk_unless g (a && b) (ap (λ (t : Bool). t && b) x)

  pub walk_unless_other : (g : Put) (a b : Bool) → b ≡ false → walk (put_if (a && b) g) c is k ≡ NoMessage
  walk_unless_other g a b y = walk_unless g (a && b) (go a)
    where
      go : (a : Bool) → a && b ≡ false
      go true = y
      go false = refl

  pub walk_if_none : (t : Bool) → walk (put_if t (put_bytes none)) c is k ≡ NoMessage
  unfolding walk
  walk_if_none true = refl
  walk_if_none false = refl

  -- so many
  pub walk_many_none : (f : Put) → k ≤ length is → walk (put_many f 0) c is k ≡ WrittenTo [] k c
  unfolding walk
  walk_many_none f l =
      let q : length is - length (drop k is) ≡ k = omega (arith, length-drop k is) in ap (λ (e : ℕ). WrittenTo [] e c) q

  pub walk_many_more : (f : Put) (n : ℕ) → Drops f → walk (put_many f (suc n)) c is k
      ≡ on_written (walk f c is k) (λ e c'. walk (put_many f n) c' is e)
  walk_many_more f n h = walk_then f (put_many f n) h

  -- by the item k
  module _ {A : Type 0} (part : Item → Option A) (g : A → Put) where
    pub walk_item : (i : Item) (a : A) → At is k i → part i ≡ some a → walk (put_item part g) c is k
        ≡ walk (g a) c is (suc k)
    unfolding walk
    walk_item i a e p =
        ap (λ (s : List Item). writing_of is (put_item part g c s)) e
        ∙ ap (λ (o : Option A). writing_of is (elim o [ none ↦ NoRecord | some a ↦ g a c (drop (suc k) is) ])) p

    pub walk_other : (i : Item) → At is k i → part i ≡ none → walk (put_item part g) c is k ≡ NoMessage
    unfolding walk
    walk_other i e p =
        ap (λ (s : List Item). writing_of is (put_item part g c s)) e
        ∙ ap (λ (o : Option A). writing_of is (elim o [ none ↦ NoRecord | some a ↦ g a c (drop (suc k) is) ])) p

    pub walk_over : End is k → walk (put_item part g) c is k ≡ NoMessage
    unfolding walk
    walk_over e = ap (λ (s : List Item). writing_of is (put_item part g c s)) e

  -- what follows starts within the items
  pub walk_same : (f : Put) (g h : ℕ → Known → WritingAt) → ((e : ℕ) (c' : Known) → e ≤ length is → g e c' ≡ h e c')
      → on_written (walk f c is k) g ≡ on_written (walk f c is k) h
  unfolding walk
  walk_same f g h s = go (f c (drop k is))
    where
      go : (o : Spelling) → on_written (writing_of is o) g ≡ on_written (writing_of is o) h
      go (Spelled w r c') = ap (behind w) (s (length is - length r) c' (omega arith))
      go NoRecord = refl

  -- what is over ends within the items
  pub walk_within : (f : Put) (w : List ℕ) (e : ℕ) (c' : Known) → walk f c is k ≡ WrittenTo w e c' → e ≤ length is
  unfolding walk
  walk_within f w e c' h = go (f c (drop k is)) h
    where
      go : (o : Spelling) → writing_of is o ≡ WrittenTo w e c' → e ≤ length is
      go (Spelled v r d) q = let z : length is - length r ≡ e = cc in omega arith
      go NoRecord q = let z : ◌≡◌ {A = ℕ} 0 1 = cc in absurd (omega arith)

  -- what is over has taken the items from k up to e
  pub walk_taken : {P : List Item → Type 0} (f : Put) → ((c : Known) (s : List Item) → Taken P s (f c s))
      → k ≤ length is
      → (w : List ℕ) (e : ℕ) (c' : Known) → walk f c is k ≡ WrittenTo w e c'
      → (t : List Item) × (drop k is ≡ t ++ drop e is) × (k + length t ≡ e) × P t
  unfolding walk
  walk_taken {P} f h l w e c' d = go (h c (drop k is)) d
    where
      go : {o : Spelling} → Taken P (drop k is) o → writing_of is o ≡ WrittenTo w e c'
          → (t : List Item) × (drop k is ≡ t ++ drop e is) × (k + length t ≡ e) × P t
      go (taken {r = r} {t = t} p x) q =
          let z : length is - length r ≡ e = cc in
          let m = p ∙ ap (λ (l : List Item). t ++ l) (last_from is r k t p ∙ ap (λ (j : ℕ). drop j is) z) in
          (t, m, omega (arith, ap length p, length-append t r, length-drop k is), x)
      go none_taken q = let z : ◌≡◌ {A = ℕ} 0 1 = cc in absurd (omega arith)

  -- and so ends no earlier
  pub walk_forward : (f : Put) → Drops f → k ≤ length is → (w : List ℕ) (e : ℕ) (c' : Known)
      → walk f c is k ≡ WrittenTo w e c' → k ≤ e
  walk_forward f d l w e c' h = let (t, p, n, x) = walk_taken f d.takes l w e c' h in omega arith

  -- bytes first
  pub walk_first : (w : List ℕ) (f : Put) → k ≤ length is → walk (put_then (put_bytes (some w)) f) c is k
      ≡ behind w (walk f c is k)
  walk_first w f l = walk_then (put_bytes (some w)) f (bytes_takes (some w))
      ∙ ap (λ (o : WritingAt). on_written o (λ e c'. walk f c' is e)) (walk_bytes w l)

  pub walk_first_none : (f : Put) → walk (put_then (put_bytes none) f) c is k ≡ NoMessage
  unfolding walk
  walk_first_none f = refl

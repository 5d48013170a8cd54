-- The shortest message of the record that rows claim, by what is written of a value at the first item.
use Rattle.std.specs.Prelude.{◌≡◌, ℕ, suc, ◌+◌, ◌-◌, ◌≤◌, ◌<◌, drop}
use Rattle.std.proofs.Math.Path.{refl}
use Rattle.std.proofs.Common.{sym, ap, subst, ◌∙◌, zero-add, arith, length-append, length-drop, drop-drop}
use mathlib.Core.List.{List, [], ◌∷◌}
use Rattle.std.proofs.Math.Option.{Option, none, some}
use Rattle.std.proofs.Math.ListN.{length}
use Rattle.flow.specs.Tests.{by_test}
use Rattle.record.specs.Model.Items.{Value, Item, Val, Known, start, Limits}
use Rattle.record.specs.Model.Rows.{Row, span, ends}
use Rattle.record.specs.Model.Claims.{afters}
use Rattle.record.specs.Model.Shortest.{Spelling, Spelled, NoRecord, put_value, spell}
use Rattle.record.specs.Model.Answers.{shortest_of}
use Rattle.record.specs.Model.Shortest.{complete}
use Rattle.flow.specs.Flow.{on_some}
use Rattle.record.specs.Laws.Claimed.{item_at, items_of, ended}
use Rattle.record.proofs.Laws.Claimed.{ended_right}
use Rattle.flow.specs.Tests.{same_eq}
use Rattle.flow.specs.Flow.{same_list}
use Rattle.record.specs.ForWriter.WritingAt.{claimed}
use Rattle.record.proofs.ForWriter.WritingAt.{claimed_all, claimed_short}
use Rattle.record.specs.ForWriter.WritingAt.{WritingAt, WrittenTo, NoMessage, writing_of}
use Rattle.record.proofs.ForWriter.WritingAt.{claimed_full, ends_at}
use Rattle.record.specs.ForWriter.WritingAt.{walk}
use Rattle.record.proofs.ForWriter.WritingAt.{walk_within}
use Rattle.record.specs.Laws.Takes.{Taken, taken}
use Rattle.record.proofs.Laws.Takes.{value_takes}
use Rattle.record.specs.Model.Claims.{ContentMap}
use Rattle.record.specs.ForWriter.WrittenMessages.{Rights, Wrong}

-- as many items as rows
record_length_law : (contents : ContentMap) (r : List Row) (is : List Item) → items_of contents r ≡ some is
    → length is ≡ length r
record_length_law contents [] is e = let q : [] ≡ is = cc in ap length (sym q)
record_length_law contents (x ∷ r) is e =
    go (item_at contents x) (items_of contents r) (λ js h. record_length_law contents r js h) e
  where
    go : (o : Option Item) (q : Option (List Item)) → ((js : List Item) → q ≡ some js → length js ≡ length r)
        → on_some (λ i. on_some (λ is. some (i ∷ is)) q) o ≡ some is → length is ≡ suc (length r)
    go none q h e = let z : ◌≡◌ {A = ℕ} 0 1 = cc in absurd (omega arith)
    go (some i) none h e = let z : ◌≡◌ {A = ℕ} 0 1 = cc in absurd (omega arith)
    go (some i) (some js) h e = let f : i ∷ js ≡ is = cc in ap length (sym f) ∙ ap suc (h js refl)

-- ---- the message of all the items
module _ (is : List Item) where
  complete_all : {P : List Item → Type 0} (o : Spelling) → Taken P is o → (w : List ℕ) (e : ℕ) (c : Known)
      → writing_of is o ≡ WrittenTo w e c → e ≡ length is → complete o ≡ some w
  complete_all (Spelled v [] x) d w e c h l = let q : v ≡ w = cc in ap (λ (v : List ℕ). some v) q
  complete_all (Spelled v (i ∷ r) x) (taken {t = t} y z) w e c h l =
      let q : length is - length (i ∷ r) ≡ e = cc in absurd (omega (arith, ap length y, length-append t (i ∷ r)))
  complete_all NoRecord d w e c h l = let z : ◌≡◌ {A = ℕ} 0 1 = cc in absurd (omega arith)

  complete_short : (o : Spelling) (w : List ℕ) (e : ℕ) (c : Known) → writing_of is o ≡ WrittenTo w e c → e < length is
      → complete o ≡ none
  complete_short (Spelled v [] x) w e c h l = let q : length is - 0 ≡ e = cc in absurd (omega arith)
  complete_short (Spelled v (i ∷ r) x) w e c h l = refl
  complete_short NoRecord w e c h l = refl

  complete_none : (o : Spelling) → writing_of is o ≡ NoMessage → complete o ≡ none
  complete_none (Spelled v r x) h = let z : ◌≡◌ {A = ℕ} 0 1 = cc in absurd (omega arith)
  complete_none NoRecord h = refl

-- ---- the fifth numbers of lists, maps and objects
-- what stands after the item j
rest_of : (is : List Item) (j : ℕ) (v : Value) (js : List Item) → drop j is ≡ Val v ∷ js → js ≡ drop (suc j) is
rest_of is j v js a = let e : j + 1 ≡ suc j = omega arith in sym (sym (ap (λ (m : ℕ). drop m is) e)
    ∙ sym (drop-drop 1 j is) ∙ ap (drop 1) a)

-- ---- the message of the rows
module _ (ℓ : Limits) (open_from : ℕ) (contents : ContentMap) (r : List Row) where
  -- what is written of the value at the first row
  abbrev Whole : WritingAt
  Whole = walk (put_value ℓ open_from ℓ.containers) start (claimed contents r) 0

  -- by the items that the rows claim
  by_items : (P : Option (List ℕ) → Type 0) → P none → ((is : List Item) → items_of contents r ≡ some is
      → afters r ≡ ends 0 is → P (spell ℓ open_from is)) → P (shortest_of ℓ open_from contents r)
  unfolding shortest_of ended
  by_items P n f = go (items_of contents r) refl
    where
      go : (o : Option (List Item)) → items_of contents r ≡ o → P (on_some (spell ℓ open_from) (on_some (ended r) o))
      go none q = n
      go (some is) q = by_test (λ (o : Option (List Item)). P (on_some (spell ℓ open_from) o))
          (same_list (afters r) (ends 0 is)) (λ t. f is q (same_eq (afters r) (ends 0 is) t)) (λ t. n)

  -- up to the last row, the fifth numbers of lists, maps and objects being right
  pub whole_written : (w : List ℕ) (e : ℕ) (c : Known) → Whole ≡ WrittenTo w e c → e ≡ length r
      → Rights r (claimed contents r) 0 e → shortest_of ℓ open_from contents r ≡ some w
  unfolding shortest_of spell walk
  whole_written w e c h l f = go (items_of contents r) refl
    where
      inside : e ≤ length (claimed contents r)
      inside = walk_within start (claimed contents r) 0 (put_value ℓ open_from ℓ.containers) w e c h

      go : (o : Option (List Item)) → items_of contents r ≡ o → on_some (spell ℓ open_from) (on_some (ended r) o) ≡ some w
      go none q = absurd (omega (arith, claimed_short contents r q, inside))
      go (some is) q =
          let full = claimed_full contents r is q (omega (arith, inside)) in
          let same : claimed contents r ≡ is = full.0 in
          let n = record_length_law contents r is q in
          let fifths = full.1 (λ j v js a t. subst (λ (is : List Item). Rights r is 0 e) same f j (omega arith)
          (omega (arith, ap length a, length-drop j is)) v
          (a ∙ ap {B = List Item} (λ l. Val v ∷ l) (rest_of is j v js a)) t
          ∙ ap (λ (l : List Item). j + span (Val v) l) (sym (rest_of is j v js a))) in
          ap (on_some (spell ℓ open_from)) (ended_right contents r is fifths)
          ∙ complete_all is (put_value ℓ open_from ℓ.containers start is)
          ((value_takes ℓ open_from ℓ.containers).takes start is) w e c
          (subst (λ (is : List Item). walk (put_value ℓ open_from ℓ.containers) start is 0 ≡ WrittenTo w e c) same h)
          (omega (arith, n))

  -- rows are left
  pub whole_short : (w : List ℕ) (e : ℕ) (c : Known) → Whole ≡ WrittenTo w e c → e < length r
      → shortest_of ℓ open_from contents r ≡ none
  unfolding spell walk
  whole_short w e c h l = by_items (λ o. o ≡ none) refl
      (λ is q f. complete_short is (put_value ℓ open_from ℓ.containers start is) w e c
      (subst (λ (is : List Item). walk (put_value ℓ open_from ℓ.containers) start is 0 ≡ WrittenTo w e c)
      (claimed_all contents r is q f) h)
      (omega (arith, record_length_law contents r is q)))

  pub whole_stuck : Whole ≡ NoMessage → shortest_of ℓ open_from contents r ≡ none
  unfolding spell walk
  whole_stuck h = by_items (λ o. o ≡ none) refl
      (λ is q f. complete_none is (put_value ℓ open_from ℓ.containers start is)
      (subst (λ (is : List Item). walk (put_value ℓ open_from ℓ.containers) start is 0 ≡ NoMessage)
      (claimed_all contents r is q f) h))

  -- the fifth number of a list, map or object is another than the items say
  pub whole_wrong : Wrong r (claimed contents r) → shortest_of ℓ open_from contents r ≡ none
  whole_wrong x = by_items (λ o. o ≡ none) refl (λ is q f. absurd (x.other
      (ends_at 0 r (claimed contents r) (f ∙ ap (ends 0) (sym (claimed_all contents r is q f))) x.row
      (Val x.value) (drop (suc x.row) (claimed contents r)) x.stands
      ∙ ap (λ (m : ℕ). m + span (Val x.value) (drop (suc x.row) (claimed contents r))) (zero-add x.row))))

-- What is written of a value at an index of the items: any number of class definitions, and then the value, with no
-- bound of the recursion.
use Rattle.std.specs.Prelude.{◌≡◌, length}
use Rattle.std.proofs.Math.Path.{refl, sym, ap}
use Rattle.std.proofs.Common.{◌∙◌, length-drop, drop_of_length-le}
use mathlib.Core.List.{List, ◌∷◌}
use Rattle.std.proofs.Math.Option.{Option, none, some}
use Prim.Native.Nat.{ℕ, zero, suc, ◌+◌, ◌-◌, ◌≤◌, ◌<◌}
use native.Mathlib.Omega.{arith}
use Rattle.std.proofs.Math.ListN.{drop}
use Rattle.record.specs.Model.Items.{Value, Item, Val, Definition, Known, Limits}
use Rattle.record.specs.Model.Rows.{span}
use Rattle.record.specs.Model.Shortest.{Put, put_then, value?, definition?, put_definition, put_preceded}
use Rattle.record.specs.Model.Shortest.{put_plain_by, put_value}
use Rattle.record.specs.Model.Shortest.{put_preceded_by, put_plain}
use Rattle.record.specs.ForWriter.WritingAt.{At, End, WritingAt, WrittenTo, NoMessage}
use Rattle.record.proofs.ForWriter.WritingAt.{at_within, at_or_end}
use Rattle.record.specs.ForWriter.WritingAt.{writing_of, walk, behind, on_written}
use Rattle.record.proofs.ForWriter.WritingAt.{walk_then, walk_item, walk_same}
use Rattle.record.proofs.ForWriter.WritingAt.{walk_taken, walk_forward}
use Rattle.record.proofs.Laws.Forest.{forest_span}
use Rattle.record.proofs.Laws.Takes.{takes_drops, definition_by, defining_takes, definition_drops}
use Rattle.record.proofs.Laws.Takes.{BelowTakes, by_takes, value_takes}
use Rattle.record.proofs.ForWriter.WrittenItems.{plain_end}
use Rattle.record.specs.ForWriter.WrittenValues.{below}

-- ---- class definitions before another
module _ (ℓ : Limits) (g : Put) (is : List Item) where
  abbrev after : ℕ → Known → ℕ → WritingAt
  after m c k = walk (put_preceded ℓ m g) c is k

  after_end : (m : ℕ) (c : Known) (k : ℕ) → End is k → after m c k ≡ walk g c is k
  unfolding walk
  after_end zero c k e = refl
  after_end (suc m) c k e = ap (λ (s : List Item). writing_of is (put_preceded ℓ (suc m) g c s)) e
      ∙ sym (ap (λ (s : List Item). writing_of is (g c s)) e)

  module _ (c : Known) (k : ℕ) (i : Item) (e : At is k i) where
    after_none : definition? i ≡ none → (m : ℕ) → after m c k ≡ walk g c is k
    unfolding walk
    after_none h zero = refl
    after_none h (suc m) =
        ap (λ (s : List Item). writing_of is (put_preceded ℓ (suc m) g c s)) e
        ∙ ap (λ (o : Option ℕ). writing_of is (elim o [
          | none ↦ g c (i ∷ drop (suc k) is)
          | some n ↦ put_then (put_definition ℓ) (put_preceded ℓ m g) c (i ∷ drop (suc k) is)
        ])) h
        ∙ sym (ap (λ (s : List Item). writing_of is (g c s)) e)

    module _ (n : ℕ) (h : definition? i ≡ some n) where
      after_one : (m : ℕ) → after (suc m) c k ≡ on_written (walk (put_definition ℓ) c is k) (λ p c'. after m c' p)
      unfolding walk
      after_one m =
          ap (λ (s : List Item). writing_of is (put_preceded ℓ (suc m) g c s)) e
          ∙ ap (λ (o : Option ℕ). writing_of is (elim o [
            | none ↦ g c (i ∷ drop (suc k) is)
            | some n ↦ put_then (put_definition ℓ) (put_preceded ℓ m g) c (i ∷ drop (suc k) is)
          ])) h
          ∙ sym (ap (λ (s : List Item). writing_of is (put_then (put_definition ℓ) (put_preceded ℓ m g) c s)) e)
          ∙ walk_then c is k (put_definition ℓ) (put_preceded ℓ m g) (definition_drops ℓ)

      -- a definition is at least an item
      forward : (w : List ℕ) (p : ℕ) (c' : Known) → walk (put_definition ℓ) c is k ≡ WrittenTo w p c' → suc k ≤ p
      unfolding put_definition
      forward w p c' x =
          walk_forward c is (suc k) (definition_by ℓ n) (takes_drops (defining_takes ℓ n)) (at_within is k i e) w p c'
          (sym (walk_item c is k definition? (definition_by ℓ) i n e h) ∙ x)

  -- with enough to bound the recursion, by how much does not matter
  module _ (m : ℕ) (c : Known) (k : ℕ) (i : Item) (e : At is k i) where
    -- the next one, if those after it are the same
    after_next : (j : ℕ) → length is ≤ j + k → ((j : ℕ) (c' : Known) (p : ℕ) → suc k ≤ p → length is ≤ j + p
        → after m c' p ≡ after j c' p) → (o : Option ℕ) → definition? i ≡ o → after (suc m) c k ≡ after j c k
    after_next j l f none h = after_none c k i e h (suc m) ∙ sym (after_none c k i e h j)
    after_next zero l f (some n) h = absurd (omega (arith, at_within is k i e))
    after_next (suc j) l f (some n) h =
        after_one c k i e n h m ∙ go (walk (put_definition ℓ) c is k) refl ∙ sym (after_one c k i e n h j)
      where
        go : (o : WritingAt) → walk (put_definition ℓ) c is k ≡ o → on_written o (λ p c'. after m c' p)
            ≡ on_written o (λ p c'. after j c' p)
        go (WrittenTo w p c') x = let q = forward c k i e n h w p c' x in ap (behind w) (f j c' p q (omega arith))
        go NoMessage x = refl

  after_fuel : (m j : ℕ) (c : Known) (k : ℕ) → length is ≤ m + k → length is ≤ j + k → after m c k ≡ after j c k
  after_fuel zero j c k l r = let q : length is ≤ k = omega arith in sym (after_end j c k (drop_of_length-le is q))
  after_fuel (suc m) j c k l r = at_or_end is k
      (λ i e. after_next m c k i e j r (λ j c' p q b. after_fuel m j c' p (omega arith) b) (definition? i) refl)
      (λ e. after_end (suc m) c k e ∙ sym (after_end j c k e))

  -- the bound is what is left of the items
  after_all : (m : ℕ) (c : Known) (k : ℕ) → length is ≤ m + k → after m c k ≡ walk (put_preceded_by ℓ g) c is k
  unfolding walk
  after_all m c k l =
      after_fuel m (length is - k) c k l (omega arith) ∙ ap (λ (j : ℕ). writing_of is (put_preceded ℓ j g c (drop k is)))
      (sym (length-drop k is))

  module _ (c : Known) (k : ℕ) where
    abbrev PrecededHere : WritingAt
    PrecededHere = walk (put_preceded_by ℓ g) c is k

    preceded_is : PrecededHere ≡ after (suc (length is)) c k
    preceded_is = sym (after_all (suc (length is)) c k (omega arith))

    pub preceded_end : End is k → PrecededHere ≡ walk g c is k
    preceded_end e = preceded_is ∙ after_end (suc (length is)) c k e

    module _ (i : Item) (e : At is k i) where
      pub preceded_none : definition? i ≡ none → PrecededHere ≡ walk g c is k
      preceded_none h = preceded_is ∙ after_none c k i e h (suc (length is))

      -- one, and then the same again
      pub preceded_one : (n : ℕ) → definition? i ≡ some n → (o : WritingAt) → walk (put_definition ℓ) c is k ≡ o
          → PrecededHere ≡ on_written o (λ p c'. walk (put_preceded_by ℓ g) c' is p)
      preceded_one n h o x =
          preceded_is
          ∙ after_one c k i e n h (length is)
          ∙ walk_same c is k (put_definition ℓ) _ _ (λ p c' l. after_all (length is) c' p (omega arith))
          ∙ ap (λ (o : WritingAt). on_written o (λ p c'. walk (put_preceded_by ℓ g) c' is p)) x

-- ---- a value, where d more containers may open
module _ (ℓ : Limits) (open_from : ℕ) where
  pub below_none : (d : ℕ) → d ≡ 0 → below ℓ open_from d ≡ none
  unfolding below
  below_none d e = ap (below ℓ open_from) e

  pub below_some : (d : ℕ) → 0 < d → below ℓ open_from d ≡ some (put_value ℓ open_from (d - 1))
  unfolding below
  below_some zero h = absurd (omega arith)
  below_some (suc d) h = let e : d ≡ suc d - 1 = omega arith in ap (λ (k : ℕ). some (put_value ℓ open_from k)) e

  pub value_is : (d : ℕ) → put_value ℓ open_from d ≡ put_preceded_by ℓ (put_plain ℓ open_from (below ℓ open_from d))
  unfolding put_value below
  value_is zero = refl
  value_is (suc d) = refl

  module _ (d : ℕ) (c : Known) (is : List Item) (k : ℕ) where
    -- what is written of the value at k
    abbrev ValueHere : WritingAt
    ValueHere = walk (put_value ℓ open_from d) c is k

    value_by : ValueHere ≡ walk (put_preceded_by ℓ (put_plain ℓ open_from (below ℓ open_from d))) c is k
    value_by = ap (λ (f : Put). walk f c is k) (value_is d)

    pub value_end : End is k → ValueHere ≡ NoMessage
    value_end e =
        value_by ∙ preceded_end ℓ (put_plain ℓ open_from (below ℓ open_from d)) is c k e ∙ plain_end ℓ open_from (below ℓ open_from d) c is k e

    -- no definition before it
    pub value_plain : (i : Item) → At is k i → definition? i ≡ none → ValueHere
        ≡ walk (put_plain ℓ open_from (below ℓ open_from d)) c is k
    value_plain i e h = value_by ∙ preceded_none ℓ (put_plain ℓ open_from (below ℓ open_from d)) is c k i e h

    -- a definition, and then the same again
    module _ (n : ℕ) (e : At is k (Definition n)) where
      pub value_defined : (w : List ℕ) (p : ℕ) (c' : Known) → walk (put_definition ℓ) c is k ≡ WrittenTo w p c'
          → ValueHere ≡ behind w (walk (put_value ℓ open_from d) c' is p)
      value_defined w p c' x =
          value_by
          ∙ preceded_one ℓ (put_plain ℓ open_from (below ℓ open_from d)) is c k (Definition n) e n refl (WrittenTo w p c') x
          ∙ ap (λ (f : Put). behind w (walk f c' is p)) (sym (value_is d))

      pub value_undefined : walk (put_definition ℓ) c is k ≡ NoMessage → ValueHere ≡ NoMessage
      value_undefined x =
          value_by ∙ preceded_one ℓ (put_plain ℓ open_from (below ℓ open_from d)) is c k (Definition n) e n refl NoMessage x

  -- ---- a value that is written up to e has the span up to there
  below_takes : (d : ℕ) → BelowTakes (below ℓ open_from d)
  unfolding below
  below_takes zero = tt
  below_takes (suc d) = value_takes ℓ open_from d

  pub written_span : (d : ℕ) (c : Known) (is : List Item) (k : ℕ) (v : Value) → At is k (Val v)
      → (w : List ℕ) (e : ℕ) (c' : Known) → walk (put_plain ℓ open_from (below ℓ open_from d)) c is k ≡ WrittenTo w e c'
      → k + span (Val v) (drop (suc k) is) ≡ e
  written_span d c is k v a w e c' h =
      let f = put_plain_by ℓ open_from (below ℓ open_from d) in
      let i = sym (walk_item c is k value? f (Val v) v a refl) ∙ h in
      let y = by_takes ℓ open_from (below ℓ open_from d) (below_takes d) v in
      let (t, p, n, x) = walk_taken c is (suc k) (f v) y.takes (at_within is k (Val v) a) w e c' i in
      omega (arith, ap (span (Val v)) p ∙ forest_span (Val v) refl x (drop e is))

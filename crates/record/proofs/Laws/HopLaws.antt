-- The hops from row to row, by induction over the forest that the claimed items are.
use Rattle.std.specs.Prelude.{◌≡◌, List, [], ◌∷◌, ◌++◌, drop, get_or}
use Rattle.std.proofs.Math.Path.{refl, ap, subst}
use Rattle.std.proofs.Common.{sym, ◌∙◌, append_assoc, append-nil, arith, length-drop, drop-drop, get_or-drop}
use Prim.Native.Nat.{ℕ, zero, suc, ◌+◌, ◌≤◌, ◌<◌}
use Rattle.std.proofs.Math.ListN.{length, length-append}
use Rattle.scalar.specs.declared.Sort.{Sort}
use Rattle.scalar.specs.declared.Sort.TheVariants as sort
use Rattle.scalar.specs.declared.Encoding.TheVariants.{Utf8, Binary}
use Rattle.scalar.specs.Scalars.{sort_kind, Num, Str}
use Rattle.record.specs.Model.Items.{Leaf, UntypedList, TypedList, UntypedMap, TypedMap, Object, Reference, Item}
use Rattle.record.specs.Model.Items.{Val}
use Rattle.record.specs.Model.Items.{Definition, ClassName, FieldName, TypeName, TypeNumber}
use Rattle.record.specs.Model.Rows.{Row, row, item_row, holds}
use Rattle.record.specs.Model.Rows.{begins, span, ends}
use Rattle.record.specs.Model.Claims.{afters, ClaimItems, no_rows, a_row, ClaimAll}
use Rattle.record.proofs.Laws.RowLaws.{item_moved}
use Rattle.record.proofs.Laws.Forest.{Forest, empty, beside, over, behind, forest_span}
use Rattle.record.specs.Model.Hops.{row_number, Hops, arrived, over_definition, over_one, Skips}
use Rattle.record.specs.Model.Claims.{ContentMap}

-- ---- the kind of a row is 15 for a definition only
number_kind : (s : Sort) → sort_kind s < 9
number_kind sort.Null = omega arith
number_kind sort.False = omega arith
number_kind sort.True = omega arith
number_kind sort.Int = omega arith
number_kind sort.Long = omega arith
number_kind sort.Double = omega arith
number_kind sort.Date = omega arith

other_kind : (x : Item) → begins x ≡ 0 → (item_row 0 0 x).kind ≡ 15 → ⊥
other_kind (Val (Leaf (Num s v))) b e = omega (arith, number_kind s)
other_kind (Val (Leaf (Str Utf8 cs))) b e = omega arith
other_kind (Val (Leaf (Str Binary cs))) b e = omega arith
other_kind (Val (UntypedList n)) b e = omega arith
other_kind (Val (TypedList n t)) b e = omega arith
other_kind (Val (UntypedMap n)) b e = omega arith
other_kind (Val (TypedMap n t)) b e = omega arith
other_kind (Val (Object k n)) b e = omega arith
other_kind (Val (Reference k)) b e = omega arith
other_kind (Definition n) b e = omega arith
other_kind (ClassName cs) b e = omega arith
other_kind (FieldName cs) b e = omega arith
other_kind (TypeName cs) b e = omega arith
other_kind (TypeNumber k) b e = omega arith

-- ---- the rows of items
claims_length : {contents : ContentMap} {r : List Row} {is : List Item} → ClaimItems contents r is
    → length r ≡ length is
claims_length no_rows = refl
claims_length (a_row c cs) = ap suc (claims_length cs)

module _ (r : List Row) where
  -- the row i is that of the item x, which the items `rest` stand behind
  record RowHere (i : ℕ) (x : Item) (rest : List Item) : Type 0 where
    left : i + suc (length rest) ≡ length r
    after_is : (row_number r i).after ≡ i + span x rest
    kind_is : (row_number r i).kind ≡ (item_row 0 0 x).kind

  -- the rows from i on are those of the items
  abbrev RowsHere : ℕ → List Item → Type 0
  RowsHere i [] = Unit {0}
  RowsHere i (x ∷ is) = RowHere i x is × RowsHere (suc i) is

  claimed_here : {contents : ContentMap} (i : ℕ) {s : List Row} {is : List Item} → drop i r ≡ s
      → ClaimItems contents s is
      → afters s ≡ ends i is → RowsHere i is
  claimed_here i e no_rows f = tt
  claimed_here i e (a_row {x = y} {i = x} {r = s} {is = is} c cs) f = (
    record {
      left = omega (arith, claims_length cs, length-drop i r, ap length e);
      after_is = ap (λ (z : Row). z.after) here ∙ ap (λ (l : List ℕ). get_or l 0 0) f;
      kind_is = ap (λ (z : Row). z.kind) (here ∙ sym c.agrees ∙ item_moved 0 0 y.place y.after x);
    },
    claimed_here (suc i) next cs (ap (drop 1) f),
  )
    where
      here : row_number r i ≡ y
      here = ap (row_number r) at ∙ sym (get_or-drop i r 0 (row 0 0 0 0 0)) ∙ ap (λ (l : List Row). row_number l 0) e
        where
          at : i ≡ i + 0
          at = omega arith

      next : drop (suc i) r ≡ s
      next = ap (λ (j : ℕ). drop j r) at ∙ sym (drop-drop 1 i r) ∙ ap (drop 1) e
        where
          at : suc i ≡ i + 1
          at = omega arith

  here_behind : (i j : ℕ) (s is : List Item) → i + length s ≡ j → RowsHere i (s ++ is) → RowsHere j is
  here_behind i j [] is e h = subst (λ (j : ℕ). RowsHere j is) (omega arith) h
  here_behind i j (x ∷ s) is e h = here_behind (suc i) j s is (omega arith) h.1

  -- ---- hops
  no_hop : (i j : ℕ) → i ≡ j → Hops r 0 i j
  no_hop i j e = subst (Hops r 0 i) e arrived

  as_hops : {a b i j : ℕ} → a ≡ b → Hops r a i j → Hops r b i j
  as_hops {i = i} {j = j} e x = subst (λ (n : ℕ). Hops r n i j) e x

  hops_join : {a b i j k : ℕ} → Hops r a i j → Hops r b j k → Hops r (a + b) i k
  hops_join arrived y = as_hops (omega arith) y
  hops_join {b = b} (over_definition {n = n} l e x) y =
      as_hops {a = suc (n + b)} (omega arith) (over_definition l e (as_hops (omega arith) (hops_join x y)))
  hops_join (over_one l e x) y = as_hops (omega arith) (over_one l e (hops_join x y))

  -- ---- what a row opens
  row_skips : {i l : ℕ} {x : Item} {is : List Item} → RowHere i x is → (row_number r i).after ≡ i + suc l → l ≤ length is
      → Hops r (holds x) (suc i) (row_number r i).after → Skips r i x
  row_skips h e l x = record { past = omega arith; inside = omega (arith, h.left); held = x }

  abbrev AllSkip : ℕ → List Item → Type 0
  AllSkip i [] = Unit {0}
  AllSkip i (x ∷ is) = Skips r i x × AllSkip (suc i) is

  skip_append : (i j : ℕ) (s t : List Item) → i + length s ≡ j → AllSkip i s → AllSkip j t → AllSkip i (s ++ t)
  skip_append i j [] t e h k = subst (λ (i : ℕ). AllSkip i t) (omega arith) k
  skip_append i j (x ∷ s) t e h k = (h.0, skip_append (suc i) j s t (omega arith) h.1 k)

  -- the rows of a forest t, from i on to before j
  record Hopped (n i j : ℕ) (t : List Item) : Type 0 where
    hops : Hops r n i j
    skips : AllSkip i t

  forest_hopped : {n : ℕ} {t : List Item} → Forest n t → (i j : ℕ) (rest : List Item) → i + length t ≡ j
      → RowsHere i (t ++ rest) → Hopped n i j t
  unfolding span
  forest_hopped empty i j rest e h = record { hops = no_hop i j (omega arith); skips = tt }
  forest_hopped (beside {s = s} {t = t} x y) i j rest e h =
      let k = i + length s in
      let q = subst (RowsHere i) (append_assoc s t rest) h in
      let a = forest_hopped x i k (t ++ rest) refl q in
      let b = forest_hopped y k j rest (omega (arith, length-append s t)) (here_behind i k s (t ++ rest) refl q) in
      record { hops = hops_join a.hops b.hops; skips = skip_append i k s t refl a.skips b.skips }
  forest_hopped (over {i = x} {s = s} b f) i j rest e h =
      let k = (row_number r i).after in
      let at : k ≡ i + suc (length s) = h.0.after_is ∙ ap (λ (n : ℕ). i + n) (forest_span x b f rest) in
      let other : (row_number r i).kind ≡ 15 → ⊥ = λ z. other_kind x b (sym h.0.kind_is ∙ z) in
      let a = forest_hopped f (suc i) k rest (omega arith) h.1 in
      record {
        hops = over_one {i = i} (omega (arith, h.0.left)) other (no_hop k j (omega arith));
        skips = (row_skips h.0 at (omega (arith, length-append s rest)) a.hops, a.skips);
      }
  forest_hopped (behind {n = n} {s = s} {t = t} f l g) i j rest e h =
      let k = (row_number r i).after in
      let at : k ≡ i + suc (length s) = h.0.after_is ∙ ap (λ (n : ℕ). i + suc n) (sym l) in
      let both = length-append s t in
      let q = subst (RowsHere (suc i)) (append_assoc s t rest) h.1 in
      let a = forest_hopped f (suc i) k (t ++ rest) (omega arith) q in
      let b = forest_hopped g k j rest (omega arith) (here_behind (suc i) k s (t ++ rest) (omega arith) q) in
      record {
        hops = over_definition {i = i} (omega (arith, h.0.left)) h.0.kind_is b.hops;
        skips = (
          row_skips h.0 at (omega (arith, length-append (s ++ t) rest)) a.hops,
          skip_append (suc i) k s t (omega arith) a.skips b.skips,
        );
      }

  skip_at : (i j k : ℕ) (is : List Item) (x : Item) {rest : List Item} → i + j ≡ k → AllSkip i is
      → drop j is ≡ x ∷ rest → Skips r k x
  skip_at i zero k [] x q h e = absurd (omega (arith, ap length e))
  skip_at i (suc j) k [] x q h e = absurd (omega (arith, ap length e))
  skip_at i zero k (y ∷ is) x q h e =
      let same : y ≡ x = cc in
      subst (λ (k : ℕ). Skips r k x) (omega arith) (subst (Skips r i) same h.0)
  skip_at i (suc j) k (y ∷ is) x q h e = skip_at (suc i) j k is x (omega arith) h.1 e

-- ---- the rows that claim a record
module _ (contents : ContentMap) {r : List Row} {is : List Item} (c : ClaimAll contents r is) (f : Forest 1 is) where
  claimed_hopped : Hopped r 1 0 (length r) is
  claimed_hopped =
      let h = subst (RowsHere r 0) (sym (append-nil is)) (claimed_here r 0 refl c.each c.fifths) in
      forest_hopped r f 0 (length r) [] (omega (arith, claims_length c.each)) h

  pub claimed_skips : (i : ℕ) (x : Item) (rest : List Item) → drop i is ≡ x ∷ rest → Skips r i x
  claimed_skips i x rest e = skip_at r 0 i i is x (omega arith) claimed_hopped.skips e

  pub claimed_whole : Hops r 1 0 (length r)
  claimed_whole = claimed_hopped.hops

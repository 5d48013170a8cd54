-- How the items of a record nest: one inductive family for items, and one for the entries that a message reads as. What
-- holds of every record by its nesting is shown by induction over a forest, not over the readers or over what is
-- written.
use Rattle.std.specs.Prelude.{◌≡◌, refl, List, [], ◌∷◌, ◌++◌, ℕ, suc, ◌+◌, ◌<◌, length, take, drop}
use Rattle.std.proofs.Common.{sym, ◌∙◌, ap, subst, append_assoc, arith, length-append, take_at, drop_at}
use Rattle.std.proofs.lemmas.List.{length-map}
use Rattle.flow.specs.Flow.{Entry, items}
use Rattle.flow.specs.Laws.{items_append}
use Rattle.scalar.specs.Grammar.{SpeltUnder, Text}
use Rattle.scalar.specs.Scalars.{DoubleRule, Scalar, total}
use Rattle.record.specs.Model.Items.{Leaf, UntypedList, TypedList, UntypedMap, TypedMap, Object, Reference, Item}
use Rattle.record.specs.Model.Items.{Val}
use Rattle.record.specs.Model.Items.{Definition, ClassName, FieldName, TypeName, TypeNumber}
use Rattle.record.specs.Model.Rows.{holds, begins, spans, span}

-- items that are k values, names or types one after the other, a value with the definitions before it
pub data Forest : ℕ → List Item → Type 0 where
  empty : Forest 0 []
  beside : {a b : ℕ} {s t : List Item} → Forest a s → Forest b t → Forest (a + b) (s ++ t)
  over : {i : Item} {s : List Item} → begins i ≡ 0 → Forest (holds i) s → Forest 1 (i ∷ s)
  behind : {n : ℕ} {s t : List Item} → Forest (suc n) s → length s ≡ suc n → Forest 1 t
      → Forest 1 (Definition n ∷ (s ++ t))

-- ---- entries of the message m
-- such bytes stand at the head of s
abbrev pub Stands : (List ℕ → Type 0) → List ℕ → Type 0
Stands P s = (w : List ℕ) × (tail : List ℕ) × (s ≡ w ++ tail) × P w

-- the bytes w spell a scalar, under one of the rules of 5f
abbrev pub SpeltByEither : List ℕ → Scalar → Type 0
SpeltByEither w x = (ρ : DoubleRule) × SpeltUnder ρ w x

-- the bytes s begin with a spelling of the item's content, if it has any
abbrev pub Opens : List ℕ → Item → Type 0
Opens s (Val (Leaf x)) = Stands (λ w. SpeltByEither w x) s
Opens s (Val (UntypedList n)) = Unit {0}
Opens s (Val (TypedList n t)) = Unit {0}
Opens s (Val (UntypedMap n)) = Unit {0}
Opens s (Val (TypedMap n t)) = Unit {0}
Opens s (Val (Object k n)) = Unit {0}
Opens s (Val (Reference k)) = Unit {0}
Opens s (Definition n) = Unit {0}
Opens s (ClassName cs) = Stands (λ w. Text w cs) s
Opens s (FieldName cs) = Stands (λ w. Text w cs) s
Opens s (TypeName cs) = Stands (λ w. Text w cs) s
Opens s (TypeNumber k) = Unit {0}

-- an entry at p that opens those in es
abbrev pub opening : ℕ → Item → List (Entry Item) → Entry Item
opening p i es = record { place = p; span = suc (length es); item = i }

-- entries that are k values, names or types one after the other: each stands in the message and opens its content there
pub data EntryForest (m : List ℕ) : ℕ → List (Entry Item) → Type 0 where
  no_entries : EntryForest m 0 []
  entries_beside : {a b : ℕ} {es fs : List (Entry Item)} → EntryForest m a es → EntryForest m b fs
      → EntryForest m (a + b) (es ++ fs)
  entry_over : {p : ℕ} {i : Item} {es : List (Entry Item)} → p < length m → Opens (drop p m) i → begins i ≡ 0
      → EntryForest m (holds i) es → EntryForest m 1 (opening p i es ∷ es)
  entries_behind : {p n : ℕ} {es fs : List (Entry Item)} → p < length m → EntryForest m (suc n) es → length es ≡ suc n
      → EntryForest m 1 fs → EntryForest m 1 (opening p (Definition n) es ∷ (es ++ fs))

-- the items of entries
pub items_forest : {m : List ℕ} {k : ℕ} {es : List (Entry Item)} → EntryForest m k es → Forest k (items es)
items_forest no_entries = empty
items_forest (entries_beside {a = a} {b = b} {es = es} {fs = fs} x y) =
    subst (Forest (a + b)) (sym (items_append es fs)) (beside (items_forest x) (items_forest y))
items_forest (entry_over l o b x) = over b (items_forest x)
items_forest (entries_behind {n = n} {es = es} {fs = fs} l x e y) =
    subst (λ (is : List Item). Forest 1 (Definition n ∷ is)) (sym (items_append es fs))
    (behind (items_forest x) (length-map es (λ (e : Entry Item). e.item) ∙ e) (items_forest y))

-- ---- the spans of a forest t, whatever items stand after it
total_append : (l r : List ℕ) → total (l ++ r) ≡ total l + total r
total_append [] r = omega arith
total_append (n ∷ l) r = omega (arith, total_append l r)

-- k of them, which count the items of t
record Spanned (k : ℕ) (t rest : List Item) : Type 0 where
  sizes : List ℕ
  splits : spans (t ++ rest) ≡ sizes ++ spans rest
  many_of : length sizes ≡ k
  sum : total sizes ≡ length t

module _ {k : ℕ} {t rest : List Item} (x : Spanned k t rest) where
  spanned_taken : total (take k (spans (t ++ rest))) ≡ length t
  spanned_taken =
      ap (λ (l : List ℕ). total (take k l)) x.splits ∙ ap total (take_at x.sizes (spans rest) k x.many_of)
      ∙ x.sum

  spanned_left : drop k (spans (t ++ rest)) ≡ spans rest
  spanned_left = ap (drop k) x.splits ∙ drop_at x.sizes (spans rest) k x.many_of

spanned_beside : {a b : ℕ} {s t rest : List Item} → Spanned a s (t ++ rest) → Spanned b t rest
    → Spanned (a + b) (s ++ t) rest
spanned_beside {s = s} {t = t} {rest = rest} x y = record {
  sizes = x.sizes ++ y.sizes;
  splits =
      ap spans (append_assoc s t rest) ∙ x.splits ∙ ap (λ (l : List ℕ). x.sizes ++ l) y.splits
      ∙ sym (append_assoc x.sizes y.sizes (spans rest));
  many_of = omega (arith, length-append x.sizes y.sizes, x.many_of, y.many_of);
  sum = omega (arith, total_append x.sizes y.sizes, length-append s t, x.sum, y.sum);
}

-- an item, with what it holds and, if it is a definition, the value that it stands before
spanned_over : (i : Item) {k : ℕ} {t rest : List Item} → holds i + begins i ≡ k → Spanned k t rest
    → Spanned 1 (i ∷ t) rest
unfolding spans
spanned_over i {k} {t} {rest} e x = record {
  sizes = suc (length t) ∷ [];
  splits =
      ap (λ (n : ℕ). suc (total (take n (spans (t ++ rest)))) ∷ drop n (spans (t ++ rest))) e
      ∙ (λ j. suc (spanned_taken x j) ∷ spanned_left x j);
  many_of = refl;
  sum = omega arith;
}

forest_spanned : {k : ℕ} {t : List Item} → Forest k t → (rest : List Item) → Spanned k t rest
forest_spanned empty rest = record { sizes = []; splits = refl; many_of = refl; sum = refl }
forest_spanned (beside {t = t} x y) rest = spanned_beside (forest_spanned x (t ++ rest)) (forest_spanned y rest)
forest_spanned (over {i = i} e x) rest = spanned_over i (omega arith) (forest_spanned x rest)
forest_spanned (behind {n = n} {t = t} x e y) rest =
    spanned_over (Definition n) (omega arith) (spanned_beside (forest_spanned x (t ++ rest)) (forest_spanned y rest))

-- so the span of an item, other than a definition, is that of the forest that it holds
pub forest_span : (i : Item) → begins i ≡ 0 → {t : List Item} → Forest (holds i) t → (rest : List Item)
    → span i (t ++ rest) ≡ suc (length t)
unfolding span
forest_span (Val v) e x rest = ap suc (spanned_taken (forest_spanned x rest))
forest_span (Definition n) e x rest = absurd (omega arith)
forest_span (ClassName cs) e x rest = ap suc (spanned_taken (forest_spanned x rest))
forest_span (FieldName cs) e x rest = ap suc (spanned_taken (forest_spanned x rest))
forest_span (TypeName cs) e x rest = ap suc (spanned_taken (forest_spanned x rest))
forest_span (TypeNumber k) e x rest = ap suc (spanned_taken (forest_spanned x rest))

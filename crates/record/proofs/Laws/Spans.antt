-- How many items each entry of a message opens is what its items say: the fifth numbers that the reader stores are
-- those that the writer asks for.
use Rattle.std.specs.Prelude.{◌≡◌, refl, List, [], ◌∷◌, ◌++◌, ℕ, suc, ◌+◌, ◌≤◌, length}
use Rattle.std.proofs.Common.{sym, ◌∙◌, ap, ap₂, append_assoc, append-nil, arith, length-append}
use Rattle.std.proofs.lemmas.List.{length-map}
use Rattle.flow.specs.Flow.{Bytes, Entry, Done, items}
use Rattle.flow.specs.Laws.{items_append}
use Rattle.scalar.specs.Scalars.{DoubleRule}
use Rattle.record.specs.Model.Items.{Item, Known, start, Limits}
use Rattle.record.specs.Model.Reading.{message}
use Rattle.record.specs.Model.Rows.{Row, rows_from, rows, span, ends}
use Rattle.record.specs.Model.Claims.{afters}
use Rattle.record.proofs.Laws.RowLaws.{item_moved}
use Rattle.record.proofs.Laws.Forest.{EntryForest, no_entries, entries_beside, entry_over, entries_behind}
use Rattle.record.proofs.Laws.Forest.{items_forest, forest_span}
use Rattle.record.proofs.Laws.Nesting.{message_forest}

-- no entry opens more than are left
abbrev pub Nested : List (Entry Item) → Type 0
Nested [] = Unit {0}
Nested (e ∷ es) = (e.span ≤ suc (length es)) × Nested es

nested_append : (es fs : List (Entry Item)) → Nested es → Nested fs → Nested (es ++ fs)
nested_append [] fs h k = k
nested_append (e ∷ es) fs h k = (omega (arith, h.0, length-append es fs), nested_append es fs h.1 k)

forest_nested : {m : List ℕ} {k : ℕ} {es : List (Entry Item)} → EntryForest m k es → Nested es
forest_nested no_entries = tt
forest_nested (entries_beside {es = es} {fs = fs} x y) = nested_append es fs (forest_nested x) (forest_nested y)
forest_nested (entry_over l o b x) = (omega arith, forest_nested x)
forest_nested (entries_behind {es = es} {fs = fs} l x e y) =
    (omega (arith, length-append es fs), nested_append es fs (forest_nested x) (forest_nested y))

-- the spans of entries are those of their items, where the items js stand after them
abbrev Right : List (Entry Item) → List Item → Type 0
Right [] js = Unit {0}
Right (e ∷ es) js = (e.span ≡ span e.item (items es ++ js)) × Right es js

right_append : (es fs : List (Entry Item)) (js : List Item) → Right es (items fs ++ js) → Right fs js
    → Right (es ++ fs) js
right_append [] fs js h k = k
right_append (e ∷ es) fs js h k =
    let q = ap (λ (l : List Item). l ++ js) (items_append es fs) ∙ append_assoc (items es) (items fs) js in
    (h.0 ∙ ap (span e.item) (sym q), right_append es fs js h.1 k)

forest_right : {m : List ℕ} {k : ℕ} {es : List (Entry Item)} → EntryForest m k es → (js : List Item) → Right es js
unfolding span
forest_right no_entries js = tt
forest_right (entries_beside {es = es} {fs = fs} x y) js =
    right_append es fs js (forest_right x (items fs ++ js)) (forest_right y js)
forest_right (entry_over {i = i} {es = es} l o b x) js =
    let q = forest_span i b (items_forest x) js in
    (omega (arith, q, length-map es (λ (e : Entry Item). e.item)), forest_right x js)
forest_right (entries_behind {es = es} {fs = fs} l x e y) js =
    (ap suc e, right_append es fs js (forest_right x (items fs ++ js)) (forest_right y js))

fifths_from : (k : ℕ) (es : List (Entry Item)) → Right es [] → afters (rows_from k es) ≡ ends k (items es)
fifths_from k [] h = refl
fifths_from k (e ∷ es) h =
    let s = ap (λ (x : Row). x.after) (item_moved e.place (k + e.span) e.place (k + e.span) e.item) in
    let r = h.0 ∙ ap (span e.item) (append-nil (items es)) in
    ap₂ (λ (n : ℕ) (l : List ℕ). n ∷ l) (s ∙ ap (λ (n : ℕ). k + n) r) (fifths_from (suc k) es h.1)

-- ---- the entries of a message
module _ (ρ : DoubleRule) (ℓ : Limits) (m : List ℕ) (bytes : Bytes m) (n : ℕ) (es : List (Entry Item)) (c : Known)
    (e : message ρ ℓ start 0 m ≡ Done n tt es c) where
  -- no fifth number is past the last row
  pub own_nested : Nested es
  own_nested = forest_nested (message_forest ρ ℓ m bytes n es c e)

  -- the fifth numbers of a message's own rows are those of its items
  pub own_fifths : afters (rows es) ≡ ends 0 (items es)
  own_fifths = fifths_from 0 es (forest_right (message_forest ρ ℓ m bytes n es c e) [])

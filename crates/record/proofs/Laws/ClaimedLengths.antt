-- 2026-06: a row that claims an item has the item's length; so rows that claim a record have its length in all.
use Rattle.std.specs.Prelude.{◌≡◌, refl, List, map, ℕ}
use Rattle.std.proofs.Common.{sym, ap, ◌∙◌, arith}
use Rattle.std.proofs.Math.Option.{some}
use Rattle.flow.specs.Flow.{pick, Done, Fault}
use Rattle.flow.specs.Steps.{Answer}
use Rattle.scalar.specs.declared.Encoding.{Encoding}
use Rattle.scalar.specs.declared.Encoding.TheVariants.{Utf8, Binary}
use Rattle.scalar.specs.Scalars.{total, string_at, shortest_string, shortest_scalar, Num, Str}
use Rattle.scalar.specs.Answers.{length_of, content_read, item_form}
use Rattle.scalar.proofs.AnswerLaws.{item_done}
use Rattle.record.specs.Model.Items.{Leaf, UntypedList, TypedList, UntypedMap, TypedMap, Object, Reference, Item}
use Rattle.record.specs.Model.Items.{Val, Definition, ClassName, FieldName, TypeName, TypeNumber}
use Rattle.record.specs.Model.Rows.{Row, item_row}
use Rattle.record.specs.Model.Claims.{content_of, content_at, Claims, ClaimItems, no_rows, a_row}
use Rattle.record.specs.Laws.RowLengths.{row_length}
use Rattle.record.proofs.Laws.RowLengths.{number_row_length, text_row_length, class_name_row_length}
use Rattle.record.proofs.Laws.RowLengths.{field_name_row_length, type_name_row_length, bytes_row_length}
use Rattle.record.proofs.Laws.RowLengths.{list_row_length, typed_list_row_length, map_row_length}
use Rattle.record.proofs.Laws.RowLengths.{typed_map_row_length, object_row_length, reference_row_length}
use Rattle.record.proofs.Laws.RowLengths.{class_row_length, type_number_row_length}
use Rattle.record.proofs.Laws.ItemLengths.{item_length, record_length}

module _ (m : List ℕ) (p : ℕ) where
  -- the form of the content that stands at a place
  form_there : (k : Encoding) (cs : List ℕ) → content_read (string_at k m p) ≡ some cs
      → length_of (item_form k m p) ≡ length_of (shortest_string k cs)
  form_there k cs h = go (string_at k m p) refl h
    where
      go : (o : Answer (List ℕ)) → string_at k m p ≡ o → content_read o ≡ some cs
          → length_of (item_form k m p) ≡ length_of (shortest_string k cs)
      go (Done n ds es c) q h =
          let e : ds ≡ cs = cc in
          ap length_of (item_done k m p n ds es c q ∙ ap (shortest_string k) e)
      go (Fault x o) q h = let z : ◌≡◌ {A = ℕ} 0 1 = cc in absurd (omega arith)

  item_row_length : (e : ℕ) (i : Item) → content_at m (item_row p e i).kind p ≡ some (content_of i)
      → row_length m (item_row p e i) ≡ item_length i
  unfolding content_at pick shortest_scalar
  item_row_length e (Val (Leaf (Num s v))) h = number_row_length m p v 0 e s
  item_row_length e (Val (Leaf (Str Utf8 cs))) h = text_row_length m p _ _ e ∙ form_there Utf8 cs h
  item_row_length e (Val (Leaf (Str Binary cs))) h = bytes_row_length m p _ _ e ∙ form_there Binary cs h
  item_row_length e (Val (UntypedList n)) h = list_row_length m p n 0 e
  item_row_length e (Val (TypedList n t)) h = typed_list_row_length m p n t e
  item_row_length e (Val (UntypedMap n)) h = map_row_length m p n 0 e
  item_row_length e (Val (TypedMap n t)) h = typed_map_row_length m p n t e
  item_row_length e (Val (Object k n)) h = object_row_length m p k n e
  item_row_length e (Val (Reference k)) h = reference_row_length m p k 0 e
  item_row_length e (Definition n) h = class_row_length m p n 0 e
  item_row_length e (ClassName cs) h = class_name_row_length m p _ _ e ∙ form_there Utf8 cs h
  item_row_length e (FieldName cs) h = field_name_row_length m p _ _ e ∙ form_there Utf8 cs h
  item_row_length e (TypeName cs) h = type_name_row_length m p _ _ e ∙ form_there Utf8 cs h
  item_row_length e (TypeNumber k) h = type_number_row_length m p k 0 e

pub claimed_length : (m : List ℕ) (x : Row) (i : Item) → Claims (content_at m) x i → row_length m x ≡ item_length i
claimed_length m x i h =
    ap (row_length m) (sym h.agrees)
    ∙ item_row_length m x.place x.after i
    (ap (λ (y : Row). content_at m y.kind x.place) h.agrees ∙ h.content)

pub claimed_lengths : (m : List ℕ) {rs : List Row} {r : List Item} → ClaimItems (content_at m) rs r
    → total (map (row_length m) rs) ≡ record_length r
claimed_lengths m no_rows = refl
claimed_lengths m (a_row {x = x} {i = i} h k) = omega (arith, claimed_length m x i h, claimed_lengths m k)

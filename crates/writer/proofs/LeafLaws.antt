-- Values that hold no others: what the contracts ask at each way out, one law for each.
use mathlib.Core.Path.{◌≡◌, refl, sym, ap, ◌∙◌}
use mathlib.Core.List.{List, [], ◌∷◌}
use mathlib.Core.Logic.{⊎_elim}
use Rattle.record.specs.declared.kinds.Kind.{Kind}
use Rattle.record.specs.declared.kinds.Kind.TheVariants as kind
use Rattle.record.specs.Model.KindNumbers.{kind_number}
use mathlib.Core.Option.{Option, none, some}
use Prim.Native.Nat.{ℕ, ◌≤◌, ◌<◌}
use native.Mathlib.Omega.{arith}
use lib.Dec.{eqb}
use lib.ListN.{length}
use borrow.Author.Tests.{eqb-true, eqb-false}
use Rattle.flow.specs.Tests.{by_cases}
use Rattle.scalar.specs.declared.Sort.{Sort}
use Rattle.scalar.specs.declared.Sort.TheVariants as sort
use Rattle.scalar.specs.declared.Encoding.TheVariants.{Utf8, Binary}
use Rattle.scalar.specs.Scalars.{shortest, forms_of, units, string_at, Scalar, Num, Str, shortest_scalar, shortest_int}
use Rattle.scalar.specs.Scalars.{sort_kind}
use Rattle.scalar.proofs.ScalarLaws.{number_shortest, string_shortest}
use Rattle.record.specs.Model.Items.{Value, Leaf, UntypedList, TypedList, UntypedMap, TypedMap, Object, Reference, Item}
use Rattle.record.specs.Model.Items.{Val, Definition, ClassName, FieldName, TypeName, TypeNumber}
use Rattle.record.specs.Model.Rows.{Row, item_row}
use Rattle.scalar.specs.Answers.{content_read}
use Rattle.record.specs.Model.Shortest.{value?}
use Rattle.record.specs.Model.Answers.{base}
use Rattle.record.specs.Laws.Claimed.{item_at}
use Rattle.record.proofs.Laws.Claimed.{claims_back}
use Rattle.record.proofs.ForWriter.RowItems.{a_number, a_reference, a_text, first_item, first_none, string_lost}
use Rattle.record.proofs.ForWriter.RowItems.{string_item}
use Rattle.record.proofs.ForWriter.RowItems.{string_other_length, string_other_second}
use Rattle.record.proofs.ForWriter.WrittenItems.{plain_end, plain_other, plain_leaf, plain_no_leaf, plain_reference}
use Rattle.record.proofs.ForWriter.WrittenItems.{plain_far}
use Rattle.record.proofs.ForWriter.WrittenItems.{plain_ungiven}
use Rattle.record.specs.declared.Row as code
use Rattle.std.specs.Prelude.{Result, Ok, Err}
use Rattle.writer.specs.declared.size.Size.{Size}
use Rattle.writer.specs.declared.progress.NoRecord.{NoRecord}
use Rattle.record.specs.Laws.RowLaws.{row_of}
use Rattle.record.specs.Model.Claims.{content_at}
use Rattle.writer.specs.Promises.{Puts, PutMet, StringMet, NoHolderKind, LeafMet, NumberMet, ContentMet}
use Rattle.writer.specs.Promises.{ReferenceMet}
use Rattle.writer.proofs.PutLaws.{puts_on}
use Rattle.writer.proofs.Texts.{text_put, text_not}

-- ---- by what the row claims
module _ (source : List ℕ) (r : code.Row) (references : ℕ) (out : List ℕ) (s : ℕ) where
  -- nothing
  leaf_lost : {n : NoRecord} (out' : List ℕ) → item_at (content_at source) (row_of r) ≡ none
      → LeafMet source r references out s (Err n) out'
  leaf_lost out' e = record { says = λ f b c is k z q. record { says = plain_end base f b c is k (z.lost e) } }

  -- no value
  leaf_other : {n : NoRecord} (out' : List ℕ) (i : Item) → item_at (content_at source) (row_of r) ≡ some i → value? i ≡ none
      → LeafMet source r references out s (Err n) out'
  leaf_other out' i e h =
      record { says = λ f b c is k z q. record { says = plain_other base f b c is k i (z.item i e) h } }

  -- a scalar
  leaf_put : (x : Scalar) → item_at (content_at source) (row_of r) ≡ some (Val (Leaf x))
      → (p : Result Size NoRecord) (out' : List ℕ) → PutMet (shortest_scalar x) out s p out' → LeafMet source r references out s p out'
  leaf_put x e (Ok n) out' h = record {
    says = λ f b c is k z q. record {
      says = (
        h.says.0,
        plain_leaf base f b c is k (Val (Leaf x)) (z.item (Val (Leaf x)) e) (Leaf x) refl x refl
            h.says.0 h.says.1,
        h.says.2,
      );
    };
  }
  leaf_put x e (Err e') out' h = record {
    says = λ f b c is k z q.
        record {
          says = plain_no_leaf base f b c is k (Val (Leaf x)) (z.item (Val (Leaf x)) e) (Leaf x) refl x refl
              h.says;
        };
  }

  -- a kind of no value
  pub leaf_none : {n : NoRecord} → 14 < r.kind → (out' : List ℕ) → LeafMet source r references out s (Err n) out'
  leaf_none {n} above out' = go (item_at (content_at source) (row_of r)) refl
    where
      value_kind : (p e : ℕ) (v : Value) → (item_row p e (Val v)).kind ≤ 14
      value_kind p e (Leaf (Num sort.Null v)) = omega arith
      value_kind p e (Leaf (Num sort.False v)) = omega arith
      value_kind p e (Leaf (Num sort.True v)) = omega arith
      value_kind p e (Leaf (Num sort.Int v)) = omega arith
      value_kind p e (Leaf (Num sort.Long v)) = omega arith
      value_kind p e (Leaf (Num sort.Double v)) = omega arith
      value_kind p e (Leaf (Num sort.Date v)) = omega arith
      value_kind p e (Leaf (Str Utf8 cs)) = omega arith
      value_kind p e (Leaf (Str Binary cs)) = omega arith
      value_kind p e (UntypedList n) = omega arith
      value_kind p e (TypedList n t) = omega arith
      value_kind p e (UntypedMap n) = omega arith
      value_kind p e (TypedMap n t) = omega arith
      value_kind p e (Object j n) = omega arith
      value_kind p e (Reference j) = omega arith

      by_item : (i : Item) → item_row r.place r.after i ≡ row_of r → value? i ≡ none
      by_item (Val v) e = absurd (omega (arith, above, value_kind r.place r.after v, ap (λ (y : Row). y.kind) e))
      by_item (Definition n) e = refl
      by_item (ClassName cs) e = refl
      by_item (FieldName cs) e = refl
      by_item (TypeName cs) e = refl
      by_item (TypeNumber j) e = refl

      go : (o : Option Item) → item_at (content_at source) (row_of r) ≡ o
          → LeafMet source r references out s (Err n) out'
      go none e = leaf_lost out' e
      go (some i) e = leaf_other out' i e (by_item i (claims_back (content_at source) (row_of r) i e).agrees)

-- ---- a number
module _ (x : Sort) (r : code.Row) (out : List ℕ) (s : ℕ) (p : Result Size NoRecord) (out' : List ℕ) where
  pub number_put : r.second ≡ 0 → PutMet (shortest (forms_of x) r.first) out s p out' → NumberMet x r out s p out'
  number_put z h = record {
    says = λ source references e.
        let item = first_item source (a_number x) (row_of r) e z in
        leaf_put source r references out s (Num x r.first) item p out' (rw (number_shortest x r.first) h);
  }

pub number_lost : {n : NoRecord} (x : Sort) (r : code.Row) (out : List ℕ) (s : ℕ) (out' : List ℕ) → (r.second ≡ 0 → ⊥)
    → NumberMet x r out s (Err n) out'
number_lost x r out s out' z =
    record {
      says = λ source references e. leaf_lost source r references out s out'
          (first_none source (a_number x) (row_of r) e z);
    }

-- ---- a reference
module _ (r : code.Row) (references : ℕ) (out : List ℕ) (s : ℕ) where
  pub reference_lost : {n : NoRecord} (out' : List ℕ) → (r.second ≡ 0 → ⊥) → ReferenceMet r references out s (Err n) out'
  reference_lost out' z =
      record {
        says = λ source e. leaf_lost source r references out s out' (first_none source a_reference (row_of r) e z);
      }

  module _ (z : r.second ≡ 0) where
    -- the item, where the row stands at k
    abbrev refers : Item
    refers = Val (Reference r.first)

    pub reference_ungiven : {n : NoRecord} (out' : List ℕ) → references ≤ r.first → ReferenceMet r references out s (Err n) out'
    reference_ungiven out' l = record {
      says = λ source e. record {
        says = λ f b c is k h q. record {
          says = plain_ungiven base f b c is k refers (h.item refers (first_item source a_reference (row_of r) e z))
              (Reference r.first) refl r.first refl (omega arith);
        };
      };
    }

    pub reference_put : r.first < references → (o₁ : List ℕ) (s₁ : ℕ) → Puts out s (0x51 ∷ []) o₁ s₁
        → (p : Result Size NoRecord) (out' : List ℕ) → PutMet (shortest_int r.first) o₁ s₁ p out'
        → ReferenceMet r references out s p out'
    reference_put l o₁ s₁ y (Ok n) out' m = record {
      says = λ source e. record {
        says = λ f b c is k h q. record {
          says = (
            0x51 ∷ m.says.0,
            plain_reference base f b c is k refers (h.item refers (first_item source a_reference (row_of r) e z))
                (Reference r.first) refl r.first refl (omega arith) m.says.0 m.says.1,
            puts_on y m.says.2,
          );
        };
      };
    }
    reference_put l o₁ s₁ y (Err e') out' m = record {
      says = λ source e. record {
        says = λ f b c is k h q. record {
          says = plain_far base f b c is k refers (h.item refers (first_item source a_reference (row_of r) e z))
              (Reference r.first) refl r.first refl m.says;
        };
      };
    }

-- ---- a text
pub leaf_text : (source : List ℕ) (r : code.Row) (references : ℕ) (out : List ℕ) (s : ℕ) → r.kind ≡ 7
    → (p : Result Size NoRecord) (out' : List ℕ) → StringMet Utf8 source r.place r.first r.second out s p out'
    → LeafMet source r references out s p out'
leaf_text source r references out s e (Ok n) out' y =
    let z = text_put a_text source r e y in
    leaf_put source r references out s (Str Utf8 z.content) z.item (Ok n) out'
    (record { says = (z.written, string_shortest Utf8 z.content ∙ z.form, z.puts) })
leaf_text source r references out s e (Err e') out' y = text_not a_text source r e y
    (λ l. leaf_lost source r references out s out' l)
    (λ cs i l. leaf_put source r references out s (Str Utf8 cs) i (Err e') out'
    (record { says = string_shortest Utf8 cs ∙ l }))

-- ---- a byte string
-- its units are its bytes
bytes_units : (cs : List ℕ) → units Binary cs ≡ length cs
bytes_units [] = refl
bytes_units (b ∷ cs) = omega (arith, bytes_units cs)

module _ (source : List ℕ) (r : code.Row) (out : List ℕ) (s : ℕ) where
  pub content_lost : {n : NoRecord} → (r.second ≡ 0 → ⊥) → (out' : List ℕ) → ContentMet source r out s (Err n) out'
  content_lost d out' =
      record {
        says =
            λ references e. leaf_lost source r references out s out'
            (go e (content_read (string_at Binary source r.place)) refl);
      }
    where
      go : r.kind ≡ 8 → (o : Option (List ℕ)) → content_read (string_at Binary source r.place) ≡ o
          → item_at (content_at source) (row_of r) ≡ none
      go e none h = string_lost source (row_of r) e h
      go e (some cs) h = string_other_second source (row_of r) e cs h d

  pub content_put : r.second ≡ 0 → (p : Result Size NoRecord) (out' : List ℕ)
      → StringMet Binary source r.place r.first r.first out s p out' → ContentMet source r out s p out'
  content_put z (Ok n) out' y = record {
    says = λ references e. leaf_put source r references out s (Str Binary y.says.0)
        (string_item source (row_of r) e y.says.0 y.says.2.opens y.says.2.bytes_are z) (Ok n) out'
        (record { says = (y.says.1, string_shortest Binary y.says.0 ∙ y.says.3, y.says.4) });
  }
  content_put z (Err e') out' y =
      record { says = λ references e. go references e (content_read (string_at Binary source r.place)) refl }
    where
      go : (references : ℕ) → r.kind ≡ 8 → (o : Option (List ℕ)) → content_read (string_at Binary source r.place) ≡ o
          → LeafMet source r references out s (Err e') out'
      go references e none h = leaf_lost source r references out s out' (string_lost source (row_of r) e h)
      go references e (some cs) h = by_cases (eqb r.first (length cs))
          (λ t. let l = eqb-true r.first (length cs) t in
          let is = y.says cs (record { opens = h; units_are = l ∙ sym (bytes_units cs); bytes_are = l }) in
          leaf_put source r references out s (Str Binary cs) (string_item source (row_of r) e cs h l z) (Err e') out'
          (record { says = string_shortest Binary cs ∙ is }))
          (λ t. leaf_lost source r references out s out'
          (string_other_length source (row_of r) e cs h (eqb-false r.first (length cs) t)))

-- ---- by the row's kind
module _ (source : List ℕ) (r : code.Row) (references : ℕ) (out : List ℕ) (s : ℕ) (p : Result Size NoRecord)
    (out' : List ℕ) where
  pub leaf_number : (x : Sort) → r.kind ≡ sort_kind x → NumberMet x r out s p out'
      → LeafMet source r references out s p out'
  leaf_number x e h = h.says source references e

  pub leaf_content : r.kind ≡ 8 → ContentMet source r out s p out' → LeafMet source r references out s p out'
  leaf_content e h = h.says references e

  pub leaf_reference : r.kind ≡ 14 → ReferenceMet r references out s p out' → LeafMet source r references out s p out'
  leaf_reference e h = h.says source e

-- a kind of no leaf, and of no list, map or object, is above those of values
pub kind_above : (k : Kind) {n : ℕ} → kind_number k ≡ n → 7 ≤ kind_number k → (k ≡ kind.Text → ⊥)
    → (k ≡ kind.Bytes → ⊥) → (k ≡ kind.Reference → ⊥) → NoHolderKind n → 14 < n
kind_above kind.Text e h a b d x = absurd (a refl)
kind_above kind.Bytes e h a b d x = absurd (b refl)
kind_above kind.Reference e h a b d x = absurd (d refl)
kind_above kind.Class e h a b d x = omega arith
kind_above kind.ClassName e h a b d x = omega arith
kind_above kind.FieldName e h a b d x = omega arith
kind_above kind.TypeName e h a b d x = omega arith
kind_above kind.TypeNumber e h a b d x = omega arith
kind_above _ e h a b d x = ⊎_elim (λ l. absurd (omega arith)) (λ l. omega arith) x.other

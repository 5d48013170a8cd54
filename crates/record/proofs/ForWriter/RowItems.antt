-- What a row claims, by its kind, in terms of its numbers and of the text or byte string that its place opens in the
-- source.
use Rattle.std.proofs.Math.Path.{◌≡◌, refl, ap}
use Rattle.std.proofs.Common.{sym, ◌∙◌, arith, eq-eqb, ne_eqb}
use Rattle.std.specs.Prelude.{Bool, true, false, cond, ◌&&◌, ℕ, ◌≤◌, ◌<◌, T, eqb, length}
use mathlib.Core.List.{List, []}
use Rattle.std.proofs.Math.Option.{Option, none, some}
use Rattle.flow.specs.Tests.{same_refl}
use Rattle.flow.specs.Flow.{pick, same_list, Done, Fault}
use Rattle.flow.specs.Steps.{Answer, renamed}
use Rattle.scalar.specs.declared.Sort.{Sort}
use Rattle.scalar.specs.declared.Sort.TheVariants as sort
use Rattle.scalar.specs.declared.Encoding.{Encoding}
use Rattle.scalar.specs.declared.Encoding.TheVariants.{Utf8, Binary}
use Rattle.scalar.specs.Scalars.{units, string_at, shortest_string, Num, Str, sort_kind}
use Rattle.scalar.specs.Answers.{Sizes, sized, sizes, measured_at}
use Rattle.scalar.specs.Answers.{content_read, item_form, form_of}
use Rattle.record.specs.Model.Items.{Leaf, UntypedList, TypedList, UntypedMap, TypedMap, Object, Reference, Item}
use Rattle.record.specs.Model.Items.{Val, Definition, ClassName, FieldName, TypeName, TypeNumber}
use Rattle.record.specs.Model.Rows.{Row, row, item_row}
use Rattle.record.specs.Model.Claims.{content_at}
use Rattle.record.specs.Laws.Claimed.{of_kind, item_at}
use Rattle.record.proofs.Laws.Claimed.{claims_back}
use Rattle.flow.specs.Flow.{on_some}

-- ---- kinds, each with the item of a row's numbers or content
-- 0 to 6, 9, 11, 14, 15, 19: by the first number
pub data OfFirst : ℕ → (ℕ → Item) → Type 0 where
  a_number : (s : Sort) → OfFirst (sort_kind s) (λ v. Val (Leaf (Num s v)))
  untyped_list : OfFirst 9 (λ n. Val (UntypedList n))
  untyped_map_law : OfFirst 11 (λ n. Val (UntypedMap n))
  a_reference : OfFirst 14 (λ k. Val (Reference k))
  a_definition : OfFirst 15 (λ n. Definition n)
  type_numbered : OfFirst 19 (λ k. TypeNumber k)

-- 10, 12, 13: by both numbers
pub data OfBoth : ℕ → (ℕ → ℕ → Item) → Type 0 where
  typed_list_law : OfBoth 10 (λ n t. Val (TypedList n t))
  typed_map_head : OfBoth 12 (λ n t. Val (TypedMap n t))
  an_object : OfBoth 13 (λ k n. Val (Object k n))

-- 7, 16, 17, 18: by the text at the place
pub data OfText : ℕ → (List ℕ → Item) → Type 0 where
  a_text : OfText 7 (λ cs. Val (Leaf (Str Utf8 cs)))
  class_name : OfText 16 (λ cs. ClassName cs)
  field_name : OfText 17 (λ cs. FieldName cs)
  type_spelled : OfText 18 (λ cs. TypeName cs)

module _ (source : List ℕ) where
  by_kind : (x : Row) (k : ℕ) → x.kind ≡ k → item_at (content_at source) x
      ≡ item_at (content_at source) (row k x.place x.first x.second x.after)
  by_kind x k e = ap (λ (k : ℕ). item_at (content_at source) (row k x.place x.first x.second x.after)) e

  -- ---- by the first number: the second is 0
  first_is : {k : ℕ} {f : ℕ → Item} → OfFirst k f → (p a b z : ℕ) → item_at (content_at source) (row k p a b z)
      ≡ cond ((eqb p p && (eqb a a && eqb 0 b)) && true) (some (f a)) none
  unfolding item_at of_kind pick content_at
  first_is (a_number sort.Null) p a b z = refl
  first_is (a_number sort.False) p a b z = refl
  first_is (a_number sort.True) p a b z = refl
  first_is (a_number sort.Int) p a b z = refl
  first_is (a_number sort.Long) p a b z = refl
  first_is (a_number sort.Double) p a b z = refl
  first_is (a_number sort.Date) p a b z = refl
  first_is untyped_list p a b z = refl
  first_is untyped_map_law p a b z = refl
  first_is a_reference p a b z = refl
  first_is a_definition p a b z = refl
  first_is type_numbered p a b z = refl

  module _ {k : ℕ} {f : ℕ → Item} (t : OfFirst k f) (x : Row) (h : x.kind ≡ k) where
    pub first_item : x.second ≡ 0 → item_at (content_at source) x ≡ some (f x.first)
    first_item e = by_kind x k h ∙ first_is t x.place x.first x.second x.after
        ∙ rw (eq-eqb x.place x.place refl, eq-eqb x.first x.first refl, eq-eqb 0 x.second (sym e))

    pub first_none : (x.second ≡ 0 → ⊥) → item_at (content_at source) x ≡ none
    first_none e = by_kind x k h ∙ first_is t x.place x.first x.second x.after
        ∙ rw (
          eq-eqb x.place x.place refl,
          eq-eqb x.first x.first refl,
          ne_eqb 0 x.second (λ z. e (sym z)),
        )

  -- ---- by both numbers
  both_is : {k : ℕ} {f : ℕ → ℕ → Item} → OfBoth k f → (p a b z : ℕ) → item_at (content_at source) (row k p a b z)
      ≡ cond ((eqb p p && (eqb a a && eqb b b)) && true) (some (f a b)) none
  unfolding item_at of_kind pick content_at
  both_is typed_list_law p a b z = refl
  both_is typed_map_head p a b z = refl
  both_is an_object p a b z = refl

  pub both_item : {k : ℕ} {f : ℕ → ℕ → Item} → OfBoth k f → (x : Row) → x.kind ≡ k
      → item_at (content_at source) x ≡ some (f x.first x.second)
  both_item {k} t x h =
      by_kind x k h ∙ both_is t x.place x.first x.second x.after
      ∙ rw (
        eq-eqb x.place x.place refl,
        eq-eqb x.first x.first refl,
        eq-eqb x.second x.second refl,
      )

  -- ---- by the text at the place: the numbers are its UTF-16 units and UTF-8 bytes
  abbrev texted : (List ℕ → Item) → (a b : ℕ) → List ℕ → (p : ℕ) → Option Item
  texted f a b cs p =
      cond ((eqb p p && (eqb (units Utf8 cs) a && eqb (length cs) b)) && same_list cs cs) (some (f cs)) none

  text_is : {k : ℕ} {f : List ℕ → Item} → OfText k f → (p a b z : ℕ) → item_at (content_at source) (row k p a b z)
      ≡ on_some (λ cs. texted f a b cs p) (content_read (string_at Utf8 source p))
  unfolding item_at of_kind pick content_at
  text_is a_text p a b z = refl
  text_is class_name p a b z = refl
  text_is field_name p a b z = refl
  text_is type_spelled p a b z = refl

  same_true : (cs : List ℕ) → same_list cs cs ≡ true
  same_true cs = go (same_list cs cs) (same_refl cs)
    where
      go : (b : Bool) → T b → b ≡ true
      go true h = refl
      go false h = absurd h

  module _ {k : ℕ} {f : List ℕ → Item} (t : OfText k f) (x : Row) (h : x.kind ≡ k) where
    text_at_law : (o : Option (List ℕ)) → content_read (string_at Utf8 source x.place) ≡ o
        → item_at (content_at source) x ≡ on_some (λ cs. texted f x.first x.second cs x.place) o
    text_at_law o e = by_kind x k h ∙ text_is t x.place x.first x.second x.after
        ∙ ap (λ (o : Option (List ℕ)). on_some (λ cs. texted f x.first x.second cs x.place) o) e

    pub text_lost : content_read (string_at Utf8 source x.place) ≡ none → item_at (content_at source) x ≡ none
    text_lost e = text_at_law none e

    module _ (cs : List ℕ) (e : content_read (string_at Utf8 source x.place) ≡ some cs) where
      pub text_item : x.first ≡ units Utf8 cs → x.second ≡ length cs → item_at (content_at source) x ≡ some (f cs)
      text_item u b =
          text_at_law (some cs) e ∙ rw (
            eq-eqb x.place x.place refl,
            eq-eqb (units Utf8 cs) x.first (sym u),
            eq-eqb (length cs) x.second (sym b),
            same_true cs,
          )

      pub text_other_units : (x.first ≡ units Utf8 cs → ⊥) → item_at (content_at source) x ≡ none
      text_other_units u = text_at_law (some cs) e ∙ rw (
        eq-eqb x.place x.place refl,
        ne_eqb (units Utf8 cs) x.first (λ z. u (sym z)),
      )

      pub text_other_length : (x.second ≡ length cs → ⊥) → item_at (content_at source) x ≡ none
      text_other_length b = text_at_law (some cs) e ∙ rw (
        eq-eqb x.place x.place refl,
        ne_eqb (length cs) x.second (λ z. b (sym z)),
      ) (go (eqb (units Utf8 cs) x.first))
        where
          go : (a : Bool) → cond ((a && false) && same_list cs cs) (some (f cs)) none ≡ none
          go true = refl
          go false = refl

  -- ---- 8, by the byte string at the place: the first number is its length, the second 0
  module _ (x : Row) (h : x.kind ≡ 8) where
    abbrev stringed : List ℕ → Option Item
    stringed cs = cond ((eqb x.place x.place && (eqb (length cs) x.first && eqb 0 x.second))
        && same_list cs cs) (some (Val (Leaf (Str Binary cs)))) none

    string_at_law : (o : Option (List ℕ)) → content_read (string_at Binary source x.place) ≡ o
        → item_at (content_at source) x ≡ on_some stringed o
    unfolding item_at of_kind pick content_at
    string_at_law o e = by_kind x 8 h ∙ ap (λ (o : Option (List ℕ)). on_some stringed o) e

    pub string_lost : content_read (string_at Binary source x.place) ≡ none → item_at (content_at source) x ≡ none
    string_lost e = string_at_law none e

    module _ (cs : List ℕ) (e : content_read (string_at Binary source x.place) ≡ some cs) where
      pub string_item : x.first ≡ length cs → x.second ≡ 0 → item_at (content_at source) x
          ≡ some (Val (Leaf (Str Binary cs)))
      string_item u b =
          string_at_law (some cs) e ∙ rw (
            eq-eqb x.place x.place refl,
            eq-eqb (length cs) x.first (sym u),
            eq-eqb 0 x.second (sym b),
            same_true cs,
          )

      pub string_other_length : (x.first ≡ length cs → ⊥) → item_at (content_at source) x ≡ none
      string_other_length u =
          string_at_law (some cs) e ∙ rw (eq-eqb x.place x.place refl, ne_eqb (length cs) x.first (λ z. u (sym z)))

      pub string_other_second : (x.second ≡ 0 → ⊥) → item_at (content_at source) x ≡ none
      string_other_second b = string_at_law (some cs) e ∙ rw (
        eq-eqb x.place x.place refl,
        ne_eqb 0 x.second (λ z. b (sym z)),
      ) (go (eqb (length cs) x.first))
        where
          go : (a : Bool) → cond ((a && false) && same_list cs cs) (some (Val (Leaf (Str Binary cs)))) none ≡ none
          go true = refl
          go false = refl

  -- ---- from 20 on
  pub kind_none : (x : Row) → 20 ≤ x.kind → item_at (content_at source) x ≡ none
  kind_none x h = go (item_at (content_at source) x) refl
    where
      kind_of_law : (p e : ℕ) (i : Item) → (item_row p e i).kind < 20
      kind_of_law p e (Val (Leaf (Num sort.Null v))) = omega arith
      kind_of_law p e (Val (Leaf (Num sort.False v))) = omega arith
      kind_of_law p e (Val (Leaf (Num sort.True v))) = omega arith
      kind_of_law p e (Val (Leaf (Num sort.Int v))) = omega arith
      kind_of_law p e (Val (Leaf (Num sort.Long v))) = omega arith
      kind_of_law p e (Val (Leaf (Num sort.Double v))) = omega arith
      kind_of_law p e (Val (Leaf (Num sort.Date v))) = omega arith
      kind_of_law p e (Val (Leaf (Str Utf8 cs))) = omega arith
      kind_of_law p e (Val (Leaf (Str Binary cs))) = omega arith
      kind_of_law p e (Val (UntypedList n)) = omega arith
      kind_of_law p e (Val (TypedList n t)) = omega arith
      kind_of_law p e (Val (UntypedMap n)) = omega arith
      kind_of_law p e (Val (TypedMap n t)) = omega arith
      kind_of_law p e (Val (Object k n)) = omega arith
      kind_of_law p e (Val (Reference k)) = omega arith
      kind_of_law p e (Definition n) = omega arith
      kind_of_law p e (ClassName cs) = omega arith
      kind_of_law p e (FieldName cs) = omega arith
      kind_of_law p e (TypeName cs) = omega arith
      kind_of_law p e (TypeNumber k) = omega arith

      go : (o : Option Item) → item_at (content_at source) x ≡ o → item_at (content_at source) x ≡ none
      go none e = e
      go (some i) e = absurd (omega (
        arith,
        kind_of_law x.place x.after i,
        ap (λ (y : Row). y.kind) (claims_back (content_at source) x i e).agrees,
      ))

-- ---- the text or byte string at a place, by what measuring it answers
-- it takes n bytes; its content is of u units and b bytes
pub record Measures (k : Encoding) (m : List ℕ) (p n u b : ℕ) : Type 0 where
  pub content : List ℕ
  pub reads : string_at k m p ≡ Done n content [] tt
  pub units_are : u ≡ units k content
  pub bytes_are : b ≡ length content
  pub form : item_form k m p ≡ shortest_string k content

module _ (k : Encoding) (m : List ℕ) (p : ℕ) where
  pub measures : (n u b w : ℕ) → measured_at k m p ≡ Done n (sized u b w) [] tt → Measures k m p n u b
  unfolding measured_at item_form
  measures n u b w e = go (string_at k m p) refl e
    where
      go : (o : Answer (List ℕ)) → string_at k m p ≡ o → renamed (sizes k) o ≡ Done n (sized u b w) [] tt
          → Measures k m p n u b
      go (Done j cs es y) q e =
          let s : sizes k cs ≡ sized u b w = cc in
          let z : Done j cs es y ≡ Done n cs [] tt = cc in
          record {
            content = cs;
            reads = q ∙ z;
            units_are = ap (λ (s : Sizes). s.units) (sym s);
            bytes_are = ap (λ (s : Sizes). s.bytes) (sym s);
            form = ap (form_of k) q;
          }
      go (Fault x o) q e = let z : ◌≡◌ {A = ℕ} 0 1 = cc in absurd (omega arith)

  pub measures_none : (x o : ℕ) → measured_at k m p ≡ Fault x o → string_at k m p ≡ Fault x o
  unfolding measured_at
  measures_none x o e = go (string_at k m p) refl e
    where
      go : (r : Answer (List ℕ)) → string_at k m p ≡ r → renamed (sizes k) r ≡ Fault x o → string_at k m p ≡ Fault x o
      go (Done j cs es y) q e = let z : ◌≡◌ {A = ℕ} 0 1 = cc in absurd (omega arith)
      go (Fault y z) q e = let s : ◌≡◌ {A = Answer (List ℕ)} (Fault y z) (Fault x o) = cc in q ∙ s

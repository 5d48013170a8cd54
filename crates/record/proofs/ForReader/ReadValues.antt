-- What is read of a value by its first byte, at a place of the whole message: one law for each form, and one for each
-- refusal.
use Rattle.std.specs.Prelude.{◌≡◌, Bool, true, false, cond, List, [], ◌∷◌, ltb, length, drop, get_or}
use Rattle.std.proofs.Math.Path.{refl, sym, ap}
use Rattle.std.proofs.Common.{◌∙◌, ap₂, arith, lt-ltb, le-ltb}
use Rattle.std.proofs.Math.Option.{Option, none, some}
use Prim.Native.Nat.{ℕ, ◌+◌, ◌^◌, ◌≤◌, ◌<◌}
use Rattle.std.proofs.Math.Dec.{T}
use Rattle.flow.specs.Flow.{pick, Outcome, Done, Fault, One, give, fail, byte_at, changing, mapped, headed, many}
use Rattle.flow.specs.Flow.{until_end}
use Rattle.flow.specs.Steps.{Answer, top}
use Rattle.flow.specs.Tests.{pick_true, pick_false}
use Rattle.scalar.specs.declared.Sort.{Sort}
use Rattle.scalar.specs.declared.Sort.TheVariants.{Int}
use Rattle.scalar.specs.declared.Encoding.{Encoding}
use Rattle.scalar.specs.declared.Encoding.TheVariants.{Utf8, Binary}
use Rattle.scalar.specs.declared.Lead.{Lead}
use Rattle.scalar.specs.declared.Lead.TheVariants as lead
use Rattle.scalar.specs.Scalars.{forms_of, number_from, sort_kind, string_from, string_at, Scalar, Num, Str, scalar_from}
use Rattle.scalar.specs.Chart.{lead_of}
use Rattle.scalar.proofs.ByChart.{scalar_by, scalar_by_law}
use Rattle.scalar.specs.Answers.{number_at}
use Rattle.scalar.specs.Answers.{Sizes, sized, sizes, measured_at}
use Rattle.scalar.proofs.ScalarLaws.{is_scalar, scalar_shut}
use Rattle.scalar.specs.Scalars.{Floats}
use Rattle.record.specs.declared.Group.TheVariants.{Counted, Fields, Open, Pairs}
use Rattle.record.specs.Model.Items.{Leaf, UntypedList, TypedList, TypedMap, Object, Reference, Item}
use Rattle.record.specs.Model.Items.{Val, Known, opened, Limits}
use Rattle.record.specs.Model.Reading.{Reader, Opening, int, count, field_values, type_from, with_type, plain_from}
use Rattle.record.specs.Model.Containers.{pair}
use Rattle.record.specs.Model.Rows.{Row, row, item_row}
use Rattle.record.specs.Model.Reading.{ValueHead, leaf, few, few_of_type, few_fields, counted, counted_typed_head}
use Rattle.record.specs.Model.Reading.{open_list_head, open_typed_head, open_map, typed_map_head, object, reference, head_of}
use Rattle.record.specs.Model.Reading.{plain_by}
use Rattle.record.proofs.Laws.ValueHeads.{plain_is}
use Rattle.record.specs.Model.Reading.{Two, with_two, reference_to}
use Rattle.record.specs.ForReader.ReadingAt.{ReadingAt, ReadTo, RefusedAt, reading_of, run, front, on, through}
use Rattle.record.specs.ForReader.ReadingAt.{topped}
use Rattle.record.proofs.ForReader.ReadingAt.{topped_through, run_give, run_fail, run_changing, run_asking}
use Rattle.record.proofs.ForReader.ReadingAt.{run_test, run_headed, run_mapped, run_bind}
use Rattle.record.specs.ForReader.ReadLoops.{rest}
use Rattle.record.proofs.ForReader.ReadLoops.{rest_many, rest_fields, rest_open, rest_pairs}
use Rattle.record.proofs.ForReader.ReadParts.{lone, laid, number_behind, string_behind, string_laid, int_got}
use Rattle.record.proofs.ForReader.ReadParts.{int_lost, count_got, count_negative, count_lost}
use Rattle.record.specs.ForReader.ReadValues.{heading}

-- ---- leaves
-- the lead, and the row by the sizes, of a text or a byte string
abbrev pub string_lead : Encoding → Lead
string_lead Utf8 = lead.Text
string_lead Binary = lead.Bytes

abbrev string_row : Encoding → ℕ → Sizes → Row
string_row Utf8 p s = row 7 p s.units s.bytes 1
string_row Binary p s = row 8 p s.bytes 0 1

-- the reading by the form of the first byte
run_plain : (ℓ : Limits) (below : Option (Opening One)) (c : Known) (m : List ℕ) (p : ℕ) (x : ValueHead)
    → head_of (get_or m p 0) ≡ x → run (plain_from Floats ℓ below p (get_or m p 0)) c m (p + 1)
    ≡ run (plain_by Floats ℓ below x p (get_or m p 0)) c m (p + 1)
run_plain ℓ below c m p x h = ap (λ (r : Reader One). run r c m (p + 1)) (plain_is Floats ℓ below p (get_or m p 0)
    ∙ ap (λ (y : ValueHead). plain_by Floats ℓ below y p (get_or m p 0)) h)

module _ (ℓ : Limits) (below : Option (Opening One)) (c : Known) (m : List ℕ) (p : ℕ) (l : p < length m)
    (h : head_of (get_or m p 0) ≡ leaf) where
  leaf_by : (x : Lead) → lead_of (get_or m p 0) ≡ x → run (plain_from Floats ℓ below p (get_or m p 0)) c m (p + 1)
      ≡ topped p (λ x. Val (Leaf x)) (run (scalar_by Floats x p (get_or m p 0)) c m (p + 1))
  unfolding plain_by run
  leaf_by x e =
      run_plain ℓ below c m p leaf h
      ∙ run_headed p (λ x. Val (Leaf x)) (scalar_from Floats p (get_or m p 0)) c m (p + 1)
      ∙ ap (λ (o : Outcome Known Item Scalar). topped p (λ x. Val (Leaf x)) (reading_of (p + 1) o))
      (scalar_by_law Floats p (get_or m p 0) c (p + 1) (drop (p + 1) m)
      ∙ ap (λ (y : Lead). scalar_by Floats y p (get_or m p 0) c (p + 1) (drop (p + 1) m)) e)

  module _ (s : Sort) (x : lead_of (get_or m p 0) ≡ lead.Number s) where
    number_laid : (o : Answer ℕ) → number_at s m p ≡ o → run (plain_from Floats ℓ below p (get_or m p 0)) c m (p + 1)
        ≡ laid p (λ v. row (sort_kind s) p v 0 1) c o
    number_laid o e =
        leaf_by (lead.Number s) x
        ∙ ap (topped p (λ x. Val (Leaf x))) (run_mapped (Num s) (number_from (forms_of s) p (get_or m p 0)) c m (p + 1)
        ∙ ap (through (Num s)) (number_behind c m p l s ∙ ap (lone p c) e))
        ∙ go o
      where
        go : (o : Answer ℕ) → topped p (λ x. Val (Leaf x)) (through (Num s) (lone p c o))
            ≡ laid p (λ v. row (sort_kind s) p v 0 1) c o
        go (Done n v es u) = refl
        go (Fault x o) = refl

    pub leaf_number : (n v : ℕ) → number_at s m p ≡ Done n v [] tt
        → run (plain_from Floats ℓ below p (get_or m p 0)) c m (p + 1)
        ≡ ReadTo (p + n) tt (row (sort_kind s) p v 0 1 ∷ []) c
    leaf_number n v e = number_laid (Done n v [] tt) e

    pub leaf_number_lost : (y o : ℕ) → number_at s m p ≡ Fault y o
        → run (plain_from Floats ℓ below p (get_or m p 0)) c m (p + 1)
        ≡ RefusedAt y o
    leaf_number_lost y o e = number_laid (Fault y o) e

  module _ (k : Encoding) (x : lead_of (get_or m p 0) ≡ string_lead k) where
    string_is : (o : Answer Sizes) → measured_at k m p ≡ o → run (plain_from Floats ℓ below p (get_or m p 0)) c m (p + 1)
        ≡ laid p (string_row k p) c o
    string_is o e =
        leaf_by (string_lead k) x
        ∙ ap (topped p (λ x. Val (Leaf x))) (scalar_is k ∙ run_mapped (Str k) (string_from k p (get_or m p 0)) c m (p + 1)
        ∙ ap (through (Str k)) (string_behind c m p l k))
        ∙ topped_through p (λ x. Val (Leaf x)) (Str k) (lone p c (string_at k m p))
        ∙ string_laid c m p k (λ cs. Val (Leaf (Str k cs))) (string_row k p) (row_is k)
        ∙ ap (laid p (string_row k p) c) e
      where
        scalar_is : (k : Encoding) → run (scalar_by Floats (string_lead k) p (get_or m p 0)) c m (p + 1)
            ≡ run (mapped (Str k) (string_from k p (get_or m p 0))) c m (p + 1)
        scalar_is Utf8 = refl
        scalar_is Binary = refl

        row_is : (k : Encoding) (cs : List ℕ) → item_row p 1 (Val (Leaf (Str k cs))) ≡ string_row k p (sizes k cs)
        row_is Utf8 cs = refl
        row_is Binary cs = refl

    pub leaf_string_lost : (y o : ℕ) → measured_at k m p ≡ Fault y o
        → run (plain_from Floats ℓ below p (get_or m p 0)) c m (p + 1)
        ≡ RefusedAt y o
    leaf_string_lost y o e = string_is (Fault y o) e

  pub leaf_text : lead_of (get_or m p 0) ≡ lead.Text → (n u b w : ℕ) → measured_at Utf8 m p ≡ Done n (sized u b w) [] tt
      → run (plain_from Floats ℓ below p (get_or m p 0)) c m (p + 1) ≡ ReadTo (p + n) tt (row 7 p u b 1 ∷ []) c
  leaf_text x n u b w e = string_is Utf8 x (Done n (sized u b w) [] tt) e

  pub leaf_bytes : lead_of (get_or m p 0) ≡ lead.Bytes → (n u b w : ℕ) → measured_at Binary m p ≡ Done n (sized u b w) [] tt
      → run (plain_from Floats ℓ below p (get_or m p 0)) c m (p + 1) ≡ ReadTo (p + n) tt (row 8 p b 0 1 ∷ []) c
  leaf_bytes x n u b w e = string_is Binary x (Done n (sized u b w) [] tt) e

  pub leaf_none : is_scalar (get_or m p 0) ≡ false
      → run (plain_from Floats ℓ below p (get_or m p 0)) c m (p + 1) ≡ RefusedAt 3 p
  unfolding plain_by run
  leaf_none t =
      run_plain ℓ below c m p leaf h
      ∙ ap (λ (o : Outcome Known Item Scalar). reading_of (p + 1) (top p (λ x. Val (Leaf x)) o))
      (scalar_shut Item Floats (get_or m p 0) (rw t tt) p c (p + 1) (drop (p + 1) m))

-- ---- a reference
module _ (ℓ : Limits) (below : Option (Opening One)) (c : Known) (m : List ℕ) (p : ℕ) (l : p < length m)
    (h : head_of (get_or m p 0) ≡ reference) where
  reference_by : run (plain_from Floats ℓ below p (get_or m p 0)) c m (p + 1) ≡ topped p (λ k. Val (Reference k))
      (run (int (λ o. reference_to p)) c m (p + 1))
  unfolding plain_by
  reference_by =
      run_plain ℓ below c m p reference h ∙ run_headed p (λ k. Val (Reference k)) (int (λ o. reference_to p)) c m (p + 1)

  reference_test : (n k : ℕ) → number_at Int m (p + 1) ≡ Done n k [] tt
      → run (int (λ o. reference_to p)) c m (p + 1) ≡ pick (ltb k c.references) (ReadTo (p + 1 + n) k [] c)
      (RefusedAt 6 p)
  reference_test n k e =
      int_got (λ o. reference_to p) c m (p + 1) (omega arith) n k e
      ∙ run_asking (λ c. cond (ltb k c.references) (give k) (fail 6 p)) c m (p + 1 + n)
      ∙ run_test (ltb k c.references) (give k) (fail 6 p) c m (p + 1 + n)
      ∙ ap₂ (λ (x y : ReadingAt ℕ). pick (ltb k c.references) x y) (run_give k c m (p + 1 + n))
      (run_fail 6 p c m (p + 1 + n))

  pub reference_got : (n k : ℕ) → number_at Int m (p + 1) ≡ Done n k [] tt → k < c.references
      → run (plain_from Floats ℓ below p (get_or m p 0)) c m (p + 1) ≡ ReadTo (p + 1 + n) tt (row 14 p k 0 1 ∷ []) c
  reference_got n k e s = reference_by ∙ ap (topped p (λ k. Val (Reference k))) (reference_test n k e
      ∙ pick_true _ _ (lt-ltb k c.references s))

  pub reference_ungiven : (n k : ℕ) → number_at Int m (p + 1) ≡ Done n k [] tt → c.references ≤ k
      → run (plain_from Floats ℓ below p (get_or m p 0)) c m (p + 1) ≡ RefusedAt 6 p
  reference_ungiven n k e s = reference_by ∙ ap (topped p (λ k. Val (Reference k))) (reference_test n k e
      ∙ pick_false _ _ (le-ltb k c.references s))

  pub reference_lost : (x o : ℕ) → number_at Int m (p + 1) ≡ Fault x o
      → run (plain_from Floats ℓ below p (get_or m p 0)) c m
      (p + 1) ≡ RefusedAt x o
  reference_lost x o e = reference_by ∙ ap (topped p (λ k. Val (Reference k)))
      (int_lost (λ o. reference_to p) c m (p + 1) (omega arith) x o e)

-- ---- lists, maps and objects
-- the forms that hold values; those of them with a type
abbrev pub holds : ValueHead → Bool
holds leaf = false
holds (few n) = true
holds (few_of_type n) = true
holds (few_fields k) = true
holds counted = true
holds counted_typed_head = true
holds open_list_head = true
holds open_typed_head = true
holds open_map = true
holds typed_map_head = true
holds object = true
holds reference = false

abbrev pub has_type : ValueHead → Bool
has_type leaf = false
has_type (few n) = false
has_type (few_of_type n) = true
has_type (few_fields k) = false
has_type counted = false
has_type counted_typed_head = true
has_type open_list_head = false
has_type open_typed_head = true
has_type open_map = false
has_type typed_map_head = true
has_type object = false
has_type reference = false

-- the fields of an object of the class k, whose code stands at p
module _ (f : Opening One) (p k : ℕ) (c : Known) (m : List ℕ) (q : ℕ) where
  fields_test : run (field_values f p k) c m q ≡ pick (ltb k (length c.classes))
      (run (rest f (Fields k (get_or c.classes k 0)) 0) c m q) (RefusedAt 6 p)
  fields_test =
      run_asking (λ c. cond (ltb k (length c.classes)) (mapped (λ u. get_or c.classes k 0)
      (many f (get_or c.classes k 0))) (fail 6 p)) c m q
      ∙ run_test (ltb k (length c.classes)) (mapped (λ u. get_or c.classes k 0) (many f (get_or c.classes k 0)))
      (fail 6 p) c m q
      ∙ ap₂ (λ (x y : ReadingAt ℕ). pick (ltb k (length c.classes)) x y)
      (rest_fields f m k (get_or c.classes k 0) c q) (run_fail 6 p c m q)

  pub fields_got : (n : ℕ) → n ≡ get_or c.classes k 0 → k < length c.classes
      → run (field_values f p k) c m q ≡ run (rest f (Fields k n) 0) c m q
  fields_got n e s = fields_test ∙ pick_true _ _ (lt-ltb k (length c.classes) s)
      ∙ ap (λ (n : ℕ). run (rest f (Fields k n) 0) c m q) (sym e)

  pub fields_ungiven : length c.classes ≤ k → run (field_values f p k) c m q ≡ RefusedAt 6 p
  fields_ungiven s = fields_test ∙ pick_false _ _ (le-ltb k (length c.classes) s)

module _ (ℓ : Limits) (below : Option (Opening One)) (c : Known) (m : List ℕ) (p : ℕ) (l : p < length m) where
  -- where no more may open
  pub form_full : (x : ValueHead) → head_of (get_or m p 0) ≡ x → T (holds x) → below ≡ none
      → run (plain_from Floats ℓ below p (get_or m p 0)) c m (p + 1) ≡ RefusedAt 7 p
  unfolding plain_by run
  form_full x h t w = run_plain ℓ below c m p x h
      ∙ ap (λ (u : Option (Opening One)). run (plain_by Floats ℓ u x p (get_or m p 0)) c m (p + 1)) w ∙ go x t
    where
      go : (x : ValueHead) → T (holds x) → run (plain_by Floats ℓ none x p (get_or m p 0)) c m (p + 1) ≡ RefusedAt 7 p
      go leaf t = absurd t
      go (few n) t = refl
      go (few_of_type n) t = refl
      go (few_fields k) t = refl
      go counted t = refl
      go counted_typed_head t = refl
      go open_list_head t = refl
      go open_typed_head t = refl
      go open_map t = refl
      go typed_map_head t = refl
      go object t = refl
      go reference t = absurd t

  -- where f reads the values in it
  module _ (f : Opening One) (w : below ≡ some f) where
    -- what is read of the value at p
    abbrev Here : ReadingAt One
    Here = run (plain_from Floats ℓ below p (get_or m p 0)) c m (p + 1)

    held : {A : Type 0} (X : A → Item) (g : Reader A) (x : ValueHead) → plain_by Floats ℓ (some f) x p (get_or m p 0)
        ≡ changing opened (headed p X g) → head_of (get_or m p 0) ≡ x → Here ≡ topped p X (run g (opened c) m (p + 1))
    held X g x e h =
        run_plain ℓ below c m p x h
        ∙ ap (λ (u : Option (Opening One)). run (plain_by Floats ℓ u x p (get_or m p 0)) c m (p + 1)) w
        ∙ ap (λ (r : Reader One). run r c m (p + 1)) e
        ∙ run_changing opened (headed p X g) c m (p + 1)
        ∙ run_headed p X g (opened c) m (p + 1)

    -- no type
    pub form_few : (n : ℕ) → head_of (get_or m p 0) ≡ few n → Here ≡ topped p (heading (Counted n) none)
        (run (rest f (Counted n) 0) (opened c) m (p + 1))
    unfolding plain_by
    form_few n h =
        held (λ u. Val (UntypedList n)) (many f n) (few n) refl h
        ∙ sym (topped_through p (heading (Counted n) none) (λ u. n) (run (many f n) (opened c) m (p + 1)))
        ∙ ap (topped p (heading (Counted n) none)) (sym (run_mapped (λ u. n) (many f n) (opened c) m (p + 1))
        ∙ rest_many f m n (opened c) (p + 1))

    pub form_open : head_of (get_or m p 0) ≡ open_list_head → Here ≡ topped p (heading Open none)
        (run (rest f Open 0) (opened c) m (p + 1))
    unfolding plain_by
    form_open h = held (heading Open none) (until_end 0x5a f) open_list_head refl h
        ∙ ap (topped p (heading Open none)) (rest_open f m (opened c) (p + 1))

    pub form_map : head_of (get_or m p 0) ≡ open_map → Here ≡ topped p (heading Pairs none)
        (run (rest f Pairs 0) (opened c) m (p + 1))
    unfolding plain_by
    form_map h = held (heading Pairs none) (until_end 0x5a (pair f)) open_map refl h
        ∙ ap (topped p (heading Pairs none)) (rest_pairs f m (opened c) (p + 1))

    module _ (h : head_of (get_or m p 0) ≡ counted) where
      counted_by : Here ≡ topped p (λ n. Val (UntypedList n)) (run (count (λ o n. mapped (λ u. n) (many f n)))
          (opened c) m (p + 1))
      unfolding plain_by
      counted_by = held (λ n. Val (UntypedList n)) (count (λ o n. mapped (λ u. n) (many f n))) counted refl h

      pub form_counted : (n v : ℕ) → number_at Int m (p + 1) ≡ Done n v [] tt → v < 2 ^ 63
          → Here ≡ topped p (heading (Counted v) none) (run (rest f (Counted v) 0) (opened c) m (p + 1 + n))
      form_counted n v e s =
          counted_by
          ∙ ap (topped p (λ n. Val (UntypedList n))) (count_got (λ o n. mapped (λ u. n) (many f n)) (opened c) m (p + 1)
          (omega arith) n v e s ∙ rest_many f m v (opened c) (p + 1 + n))

      pub form_counted_negative : (n v : ℕ) → number_at Int m (p + 1) ≡ Done n v [] tt → 2 ^ 63 ≤ v
          → Here ≡ RefusedAt 5 (p + 1)
      form_counted_negative n v e s = counted_by ∙ ap (topped p (λ n. Val (UntypedList n)))
          (count_negative (λ o n. mapped (λ u. n) (many f n)) (opened c) m (p + 1) (omega arith) n v e s)

      pub form_counted_lost : (x o : ℕ) → number_at Int m (p + 1) ≡ Fault x o → Here ≡ RefusedAt x o
      form_counted_lost x o e = counted_by ∙ ap (topped p (λ n. Val (UntypedList n)))
          (count_lost (λ o n. mapped (λ u. n) (many f n)) (opened c) m (p + 1) (omega arith) x o e)

    -- objects
    module _ (k : ℕ) (h : head_of (get_or m p 0) ≡ few_fields k) where
      few_object_by : Here ≡ topped p (λ n. Val (Object k n)) (run (field_values f p k) (opened c) m (p + 1))
      unfolding plain_by
      few_object_by = held (λ n. Val (Object k n)) (field_values f p k) (few_fields k) refl h

      pub form_few_object : (n : ℕ) → n ≡ get_or c.classes k 0 → k < length c.classes
          → Here ≡ topped p (heading (Fields k n) none) (run (rest f (Fields k n) 0) (opened c) m (p + 1))
      form_few_object n e s =
          few_object_by ∙ ap (topped p (λ n. Val (Object k n))) (fields_got f p k (opened c) m (p + 1) n e s)

      pub form_few_object_ungiven : length c.classes ≤ k → Here ≡ RefusedAt 6 p
      form_few_object_ungiven s =
          few_object_by ∙ ap (topped p (λ n. Val (Object k n))) (fields_ungiven f p k (opened c) m (p + 1) s)

    module _ (h : head_of (get_or m p 0) ≡ object) where
      object_by_law : Here ≡ topped p (λ (x : ℕ × ℕ). Val (Object x.0 x.1))
          (run (int (λ o k. mapped (with_two k) (field_values f p k))) (opened c) m (p + 1))
      unfolding plain_by
      object_by_law = held (λ (x : ℕ × ℕ). Val (Object x.0 x.1)) (int
          (λ o k. mapped (with_two k) (field_values f p k))) object refl h

      object_class : (n k : ℕ) → number_at Int m (p + 1) ≡ Done n k [] tt
          → Here ≡ topped p (λ n. Val (Object k n)) (run (field_values f p k) (opened c) m (p + 1 + n))
      object_class n k e =
          object_by_law
          ∙ ap (topped p (λ (x : ℕ × ℕ). Val (Object x.0 x.1)))
          (int_got (λ o k. mapped (with_two k) (field_values f p k)) (opened c) m (p + 1) (omega arith) n k e
          ∙ run_mapped (with_two k) (field_values f p k) (opened c) m (p + 1 + n))
          ∙ topped_through p (λ (x : ℕ × ℕ). Val (Object x.0 x.1)) (with_two k)
          (run (field_values f p k) (opened c) m (p + 1 + n))

      pub form_object : (z k n : ℕ) → number_at Int m (p + 1) ≡ Done z k [] tt → n ≡ get_or c.classes k 0
          → k < length c.classes
          → Here ≡ topped p (heading (Fields k n) none) (run (rest f (Fields k n) 0) (opened c) m (p + 1 + z))
      form_object z k n e q s =
          object_class z k e ∙ ap (topped p (λ n. Val (Object k n))) (fields_got f p k (opened c) m (p + 1 + z) n q s)

      pub form_object_ungiven : (z k : ℕ) → number_at Int m (p + 1) ≡ Done z k [] tt → length c.classes ≤ k
          → Here ≡ RefusedAt 6 p
      form_object_ungiven z k e s =
          object_class z k e ∙ ap (topped p (λ n. Val (Object k n))) (fields_ungiven f p k (opened c) m (p + 1 + z) s)

      pub form_object_lost : (x o : ℕ) → number_at Int m (p + 1) ≡ Fault x o → Here ≡ RefusedAt x o
      form_object_lost x o e = object_by_law ∙ ap (topped p (λ (x : ℕ × ℕ). Val (Object x.0 x.1)))
          (int_lost (λ o k. mapped (with_two k) (field_values f p k)) (opened c) m (p + 1) (omega arith) x o e)

    -- with a type
    behind_type : {A : Type 0} (X : A → Item) (k : ℕ → Reader A) (x : ValueHead)
        → plain_by Floats ℓ (some f) x p (get_or m p 0) ≡ changing opened (headed p X (with_type ℓ k))
        → head_of (get_or m p 0) ≡ x
        → (o : ReadingAt ℕ) → run (byte_at (type_from ℓ)) (opened c) m (p + 1) ≡ o
        → Here ≡ topped p X (on o (λ e t c'. run (k t) c' m e))
    behind_type X k x e h o y =
        held X (with_type ℓ k) x e h
        ∙ ap (topped p X) (run_bind (byte_at (type_from ℓ)) k (opened c) m (p + 1)
        ∙ ap (λ (o : ReadingAt ℕ). on o (λ e t c'. run (k t) c' m e)) y)

    pub form_type_lost : (x : ValueHead) → head_of (get_or m p 0) ≡ x → T (has_type x) → (y o : ℕ)
        → run (byte_at (type_from ℓ)) (opened c) m (p + 1) ≡ RefusedAt y o → Here ≡ RefusedAt y o
    unfolding plain_by
    form_type_lost leaf h t y o e = absurd t
    form_type_lost (few n) h t y o e = absurd t
    form_type_lost (few_of_type n) h t y o e =
        behind_type (λ t. Val (TypedList n t)) (λ t. mapped (λ u. t) (many f n)) (few_of_type n) refl h (RefusedAt y o) e
    form_type_lost (few_fields k) h t y o e = absurd t
    form_type_lost counted h t y o e = absurd t
    form_type_lost counted_typed_head h t y o e =
        behind_type (λ (x : ℕ × ℕ). Val (TypedList x.1 x.0)) (λ t. count
        (λ o n. mapped (λ u. with_two t n) (many f n))) counted_typed_head refl h (RefusedAt y o) e
    form_type_lost open_list_head h t y o e = absurd t
    form_type_lost open_typed_head h t y o e = behind_type (λ (x : ℕ × ℕ). Val (TypedList x.1 x.0))
        (λ t. mapped (with_two t) (until_end 0x5a f)) open_typed_head refl h (RefusedAt y o) e
    form_type_lost open_map h t y o e = absurd t
    form_type_lost typed_map_head h t y o e = behind_type (λ (x : ℕ × ℕ). Val (TypedMap x.1 x.0))
        (λ t. mapped (with_two t) (until_end 0x5a (pair f))) typed_map_head refl h (RefusedAt y o) e
    form_type_lost object h t y o e = absurd t
    form_type_lost reference h t y o e = absurd t

    -- the type t ends at e; its rows are rs
    module _ (e t : ℕ) (rs : List Row) (c₁ : Known) (y : run (byte_at (type_from ℓ)) (opened c) m (p + 1)
        ≡ ReadTo e t rs c₁) where
      through_topped : {A B : Type 0} (X : B → Item) (φ : A → B) (o : ReadingAt A)
          → topped p X (front rs (through φ o)) ≡ topped p (λ a. X (φ a)) (front rs o)
      through_topped X φ (ReadTo e a qs c) = refl
      through_topped X φ (RefusedAt x o) = refl

      mapped_topped : {A B : Type 0} (X : B → Item) (φ : A → B) (g : Reader A) (q : ℕ)
          → topped p X (front rs (run (mapped φ g) c₁ m q)) ≡ topped p (λ a. X (φ a)) (front rs (run g c₁ m q))
      mapped_topped X φ g q =
          ap (λ (o : ReadingAt _). topped p X (front rs o)) (run_mapped φ g c₁ m q) ∙ through_topped X φ (run g c₁ m q)

      many_topped : {A : Type 0} (X : A → Item) (a : A) (n q : ℕ) → X a ≡ Val (TypedList n t)
          → topped p X (front rs (run (mapped (λ u. a) (many f n)) c₁ m q))
          ≡ topped p (heading (Counted n) (some t)) (front rs (run (rest f (Counted n) 0) c₁ m q))
      many_topped X a n q x =
          mapped_topped X (λ u. a) (many f n) q
          ∙ ap (λ (z : Item). topped p (λ u. z) (front rs (run (many f n) c₁ m q))) x
          ∙ sym (mapped_topped (heading (Counted n) (some t)) (λ u. n) (many f n) q)
          ∙ ap (λ (o : ReadingAt ℕ). topped p (heading (Counted n) (some t)) (front rs o)) (rest_many f m n c₁ q)

      pub form_few_typed : (n : ℕ) → head_of (get_or m p 0) ≡ few_of_type n
          → Here ≡ topped p (heading (Counted n) (some t)) (front rs (run (rest f (Counted n) 0) c₁ m e))
      unfolding plain_by
      form_few_typed n h =
          behind_type (λ t. Val (TypedList n t)) (λ t. mapped (λ u. t) (many f n)) (few_of_type n) refl h
          (ReadTo e t rs c₁) y
          ∙ many_topped (λ t. Val (TypedList n t)) t n e refl

      pub form_open_typed : head_of (get_or m p 0) ≡ open_typed_head → Here ≡ topped p (heading Open (some t))
          (front rs (run (rest f Open 0) c₁ m e))
      unfolding plain_by
      form_open_typed h =
          behind_type (λ (x : ℕ × ℕ). Val (TypedList x.1 x.0)) (λ t. mapped (with_two t) (until_end 0x5a f))
          open_typed_head refl h (ReadTo e t rs c₁) y
          ∙ mapped_topped (λ (x : ℕ × ℕ). Val (TypedList x.1 x.0)) (with_two t) (until_end 0x5a f) e
          ∙ ap (λ (o : ReadingAt ℕ). topped p (heading Open (some t)) (front rs o)) (rest_open f m c₁ e)

      pub form_typed_map : head_of (get_or m p 0) ≡ typed_map_head → Here ≡ topped p (heading Pairs (some t))
          (front rs (run (rest f Pairs 0) c₁ m e))
      unfolding plain_by
      form_typed_map h =
          behind_type (λ (x : ℕ × ℕ). Val (TypedMap x.1 x.0)) (λ t. mapped (with_two t) (until_end 0x5a (pair f)))
          typed_map_head refl h (ReadTo e t rs c₁) y
          ∙ mapped_topped (λ (x : ℕ × ℕ). Val (TypedMap x.1 x.0)) (with_two t) (until_end 0x5a (pair f)) e
          ∙ ap (λ (o : ReadingAt ℕ). topped p (heading Pairs (some t)) (front rs o)) (rest_pairs f m c₁ e)

      module _ (h : head_of (get_or m p 0) ≡ counted_typed_head) (i : e ≤ length m) where
        counted_typed_by : (o : ReadingAt Two) → run (count (λ o n. mapped (λ u. with_two t n) (many f n))) c₁ m e ≡ o
            → Here ≡ topped p (λ (x : ℕ × ℕ). Val (TypedList x.1 x.0)) (front rs o)
        unfolding plain_by
        counted_typed_by o q =
            behind_type (λ (x : ℕ × ℕ). Val (TypedList x.1 x.0))
            (λ t. count (λ o n. mapped (λ u. with_two t n) (many f n))) counted_typed_head refl h (ReadTo e t rs c₁) y
            ∙ ap (λ (o : ReadingAt Two). topped p (λ (x : ℕ × ℕ). Val (TypedList x.1 x.0)) (front rs o)) q

        pub form_counted_typed : (n v : ℕ) → number_at Int m e ≡ Done n v [] tt → v < 2 ^ 63
            → Here ≡ topped p (heading (Counted v) (some t)) (front rs (run (rest f (Counted v) 0) c₁ m (e + n)))
        form_counted_typed n v z s =
            counted_typed_by (run (mapped (λ u. with_two t v) (many f v)) c₁ m (e + n))
            (count_got (λ o n. mapped (λ u. with_two t n) (many f n)) c₁ m e i n v z s)
            ∙ many_topped (λ (x : ℕ × ℕ). Val (TypedList x.1 x.0)) (with_two t v) v (e + n) refl

        pub form_counted_typed_negative : (n v : ℕ) → number_at Int m e ≡ Done n v [] tt → 2 ^ 63 ≤ v
            → Here ≡ RefusedAt 5 e
        form_counted_typed_negative n v z s = counted_typed_by (RefusedAt 5 e)
            (count_negative (λ o n. mapped (λ u. with_two t n) (many f n)) c₁ m e i n v z s)

        pub form_counted_typed_lost : (x o : ℕ) → number_at Int m e ≡ Fault x o → Here ≡ RefusedAt x o
        form_counted_typed_lost x o z =
            counted_typed_by (RefusedAt x o) (count_lost (λ o n. mapped (λ u. with_two t n) (many f n)) c₁ m e i x o z)

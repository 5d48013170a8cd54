-- The entries of a message are a forest: the one walk over the readers of a record. What else holds of every message's
-- entries is shown by induction over the forest.
use Rattle.std.specs.Prelude.{◌≡◌, Bool, true, false, cond, List, [], ◌∷◌, ◌++◌, ltb, eqb, length, take, drop, get_or}
use Rattle.std.proofs.Math.Path.{refl}
use Rattle.std.proofs.Common.{sym, ◌∙◌, ap, subst, append-nil, arith, take-append-drop, length-append, length-drop, drop-drop}
use Rattle.std.proofs.Math.Option.{Option, none, some}
use Prim.Native.Nat.{ℕ, zero, suc, ◌+◌, ◌*◌, ◌^◌, ◌<◌}
use Rattle.flow.specs.Tests.{bytes_drop}
use Rattle.flow.specs.Flow.{Bytes, Entry, Outcome, Done, Fault, One, items, then, give, fail, byte_at, changing, asking}
use Rattle.flow.specs.Flow.{mapped, headed, bind, many, until, until_end, preceded, preceded_by}
use Rattle.flow.specs.Laws.{Parsed, Quiet, quiet_is}
use Rattle.scalar.specs.Scalars.{is_text, scalar_from, int_from, text_from}
use Rattle.scalar.specs.Grammar.{SpeltUnder, Int, Text}
use Rattle.scalar.proofs.ScalarLaws.{scalar_scans, int_scans, text_scans}
use Rattle.scalar.specs.Scalars.{DoubleRule}
use Rattle.record.specs.Model.Items.{typed, Leaf, UntypedList, TypedList, UntypedMap, TypedMap, Object, Reference, Value}
use Rattle.record.specs.Model.Items.{Item, Val, Definition, ClassName, FieldName, TypeName, TypeNumber, Known}
use Rattle.record.specs.Model.Items.{start}
use Rattle.record.specs.Model.Items.{Limits}
use Rattle.record.specs.Model.Reading.{Reader, Opening, int, count, name, container, field_values}
use Rattle.record.specs.Model.Containers.{pair}
use Rattle.record.specs.Model.Reading.{type_from, with_type, field_names, plain_from, definition, value_from, message}
use Rattle.record.specs.Model.Rows.{holds, begins}
use Rattle.record.specs.Model.Reading.{ValueHead, leaf, few, few_of_type, few_fields, counted, counted_typed_head}
use Rattle.record.specs.Model.Reading.{open_list_head}
use Rattle.record.specs.Model.Reading.{open_typed_head, open_map, typed_map_head, object, reference, head_of, plain_by}
use Rattle.record.proofs.Laws.ValueHeads.{plain_is}
use Rattle.record.specs.Model.Reading.{Two, with_two, ending}
use Rattle.record.proofs.Laws.Forest.{Stands, Opens, opening, EntryForest, no_entries, entries_beside, entry_over}
use Rattle.record.proofs.Laws.Forest.{entries_behind}

-- what may hold of a reader's result and its entries
abbrev Fact : Type 0 → Type 1
Fact A = A → List (Entry Item) → Type 0

-- it holds of what is done; a refusal gives nothing
abbrev OfOutcome : {A : Type 0} → Fact A → Outcome Known Item A → Type 0
OfOutcome F (Done n a es c) = F a es
OfOutcome F (Fault x o) = Unit {0}

of_then : {A B : Type 0} (F : Fact A) (H : Fact B) (K : ℕ → A → List (Entry Item) → Known → Outcome Known Item B)
    (o : Outcome Known Item A) → OfOutcome F o
    → ((n : ℕ) (a : A) (es : List (Entry Item)) (c : Known) → F a es → OfOutcome H (K n a es c))
    → OfOutcome H (then o K)
of_then F H K (Done n a es c) p h = h n a es c p
of_then F H K (Fault x o) p h = tt

-- what holds of none, and of one more before others
record Grows (P : ℕ → List (Entry Item) → Type 0) : Type 0 where
  of_none : P 0 []
  of_more : {n : ℕ} {es fs : List (Entry Item)} → P 1 es → P n fs → P (suc n) (es ++ fs)

-- in the message m
module _ (m : List ℕ) where
  -- a reader at the place k, whatever is known there
  record Yields (k : ℕ) {A : Type 0} (F : Fact A) (f : Reader A) : Type 0 where
    yields : (c : Known) → OfOutcome F (f c k (drop k m))

  abbrev Anywhere : {A : Type 0} → Fact A → Reader A → Type 0
  Anywhere F f = (k : ℕ) → Yields k F f

  -- the byte b stands at p
  record ByteHere (p b : ℕ) : Type 0 where
    splits : drop p m ≡ b ∷ drop (p + 1) m
    inside : p < length m

  -- a reader after such a byte
  abbrev AfterByte : {A : Type 0} → Fact A → Opening A → Type 0
  AfterByte F f = (p b : ℕ) → ByteHere p b → Yields (p + 1) F (f p b)

  -- ---- the combinators
  module _ {A : Type 0} {F : Fact A} where
    byte_yields : {f : Opening A} → AfterByte F f → Anywhere F (byte_at f)
    byte_yields {f} h k = record { yields = λ c. go c (drop k m) refl }
      where
        go : (c : Known) (s : List ℕ) → drop k m ≡ s → OfOutcome F (byte_at f c k s)
        go c [] e = tt
        go c (b ∷ s) e =
            let q = sym (drop-drop 1 k m) ∙ ap (drop 1) e in
            let here : ByteHere k b = record {
              splits = e ∙ ap {B = List ℕ} (λ z. b ∷ z) (sym q);
              inside = omega (arith, length-drop k m, ap length e);
            } in
            let x = subst (λ (z : List ℕ). OfOutcome F (f k b c (k + 1) z)) q ((h k b here).yields c) in
            of_then _ _ _ (f k b c (k + 1) s) x (λ n a es c p. p)

    weaker_yields : {G : Fact A} {f : Reader A} {k : ℕ} → Yields k F f
        → ((a : A) (es : List (Entry Item)) → F a es → G a es) → Yields k G f
    weaker_yields {G} {f} {k} h w = record { yields = λ c. go (f c k (drop k m)) (h.yields c) }
      where
        go : (o : Outcome Known Item A) → OfOutcome F o → OfOutcome G o
        go (Done n a es c) p = w a es p
        go (Fault x o) p = tt

    -- one after the other, where the last argument joins what holds of both
    bind_yields : {B : Type 0} {G : A → Fact B} {H : Fact B} {f : Reader A} {g : A → Reader B} {k : ℕ}
        → Yields k F f → ((a : A) → Anywhere (G a) (g a))
        → ((a : A) (b : B) (es fs : List (Entry Item)) → F a es → G a b fs → H b (es ++ fs)) → Yields k H (bind f g)
    bind_yields {f = f} {g = g} {k = k} hf hg j = record {
      yields = λ c. of_then _ _ _ (f c k (drop k m)) (hf.yields c)
          (λ n a es c p. of_then _ _ _ (g a c (k + n) (drop n (drop k m)))
          (rw (drop-drop n k m) ((hg a (k + n)).yields c)) (λ i b fs c q. j a b es fs p q));
    }

    head_yields : {G : Fact One} (p : ℕ) (x : A → Item) {f : Reader A} {k : ℕ} → Yields k F f
        → ((a : A) (es : List (Entry Item)) → F a es → G tt (opening p (x a) es ∷ es)) → Yields k G (headed p x f)
    head_yields p x {f} {k} h o = record {
      yields = λ c. of_then _ _ _ (f c k (drop k m)) (h.yields c) (λ n a es c q. o a es q);
    }

    cond_yields : (t : Bool) {f g : Reader A} {k : ℕ} → Yields k F f → Yields k F g → Yields k F (cond t f g)
    cond_yields true hf hg = hf
    cond_yields false hf hg = hg

    ask_yields : {g : Known → Reader A} {k : ℕ} → ((c : Known) → Yields k F (g c)) → Yields k F (asking g)
    ask_yields h = record { yields = λ c. (h c).yields c }

    change_yields : {φ : Known → Known} {f : Reader A} {k : ℕ} → Yields k F f → Yields k F (changing φ f)
    change_yields {φ} h = record { yields = λ c. h.yields (φ c) }

    fail_yields : {k : ℕ} (x o : ℕ) → Yields k F (fail x o)
    fail_yields x o = record { yields = λ c. tt }

    give_yields : {k : ℕ} (a : A) → F a [] → Yields k F (give a)
    give_yields a h = record { yields = λ c. h }

  map_yields : {A B : Type 0} {F : Fact B} (φ : A → B) {f : Reader A} {k : ℕ}
      → Yields k (λ a. F (φ a)) f → Yields k F (mapped φ f)
  map_yields φ {f} {k} h = record { yields = λ c. of_then _ _ _ (f c k (drop k m)) (h.yields c) (λ n a es c p. p) }

  many_yields : {P : ℕ → List (Entry Item) → Type 0} → Grows P → {f : Opening One} → AfterByte (λ u. P 1) f
      → (n : ℕ) → Anywhere (λ u. P n) (many f n)
  many_yields g h zero k = record { yields = λ c. g.of_none }
  many_yields g h (suc n) k =
      bind_yields (byte_yields h k) (λ u. many_yields g h n) (λ u v es fs x y. g.of_more x y)

  -- ---- entries that are trees: as many as the result says, or one
  abbrev Trees : {A : Type 0} → (A → ℕ) → Fact A
  Trees κ a es = EntryForest m (κ a) es

  abbrev Tree : {A : Type 0} → Fact A
  Tree a es = EntryForest m 1 es

  as_many : {j k : ℕ} {es : List (Entry Item)} → j ≡ k → EntryForest m j es → EntryForest m k es
  as_many {es = es} e x = subst (λ (k : ℕ). EntryForest m k es) e x

  trees_grow : Grows (EntryForest m)
  trees_grow = record { of_none = no_entries; of_more = λ x y. as_many (omega arith) (entries_beside x y) }

  -- names: each is one entry, so that the span of a definition is known by its count
  abbrev NameEntries : ℕ → List (Entry Item) → Type 0
  NameEntries n es = EntryForest m n es × (length es ≡ n)

  names_grow : Grows NameEntries
  names_grow = record {
    of_none = (no_entries, refl);
    of_more = λ {n} {es} {fs} x y. (
      trees_grow.of_more x.0 y.0,
      omega (arith, length-append es fs, x.1, y.1),
    );
  }

  -- an item without content, over what it holds
  over_yields : {A : Type 0} {p b k : ℕ} (x : A → Item) {f : Reader A} → ByteHere p b
      → ((a : A) → Opens (drop p m) (x a)) → ((a : A) → begins (x a) ≡ 0)
      → Yields k (Trees (λ a. holds (x a))) f → Yields k Tree (headed p x f)
  over_yields {p = p} x e o n h = head_yields p x h (λ a es y. entry_over e.inside (o a) (n a) y)

  -- ---- numbers and texts: no entry, and a spelling of the result stands at p
  abbrev SpeltAt : {A : Type 0} → (List ℕ → A → Type 0) → ℕ → Fact A
  SpeltAt S p a es = (es ≡ []) × Stands (λ w. S w a) (drop p m)

  module _ (bytes : Bytes m) where
    scan_yields : {A : Type 0} (S : List ℕ → A → Type 0) (f : Opening A)
        → ((p b : ℕ) (c : Known) (at : ℕ) (s : List ℕ) → Bytes s
        → Parsed (Quiet (λ w a. S (b ∷ w) a) c) s (f p b c at s))
        → (p b : ℕ) → ByteHere p b → Yields (p + 1) (SpeltAt S p) (f p b)
    scan_yields {A} S f h p b e = record {
      yields = λ c. go c (f p b c (p + 1) s) (h p b c (p + 1) s (bytes_drop (p + 1) m bytes));
    }
      where
        s : List ℕ
        s = drop (p + 1) m

        tail_is : (n : ℕ) → drop p m ≡ (b ∷ take n s) ++ drop n s
        tail_is n = e.splits ∙ ap {B = List ℕ} (λ z. b ∷ z) (sym (take-append-drop n s))

        no_entry : (es : List (Entry Item)) → items es ≡ [] → es ≡ []
        no_entry [] q = refl
        no_entry (y ∷ es) q = absurd (omega (arith, ap length q))

        go : (c : Known) (o : Outcome Known Item A) → Parsed (Quiet (λ w a. S (b ∷ w) a) c) s o
            → OfOutcome (SpeltAt S p) o
        go c (Done n a es c') q =
            let x = quiet_is (λ w a. S (b ∷ w) a) c q.1 in
            (no_entry es x.1, (b ∷ take n s, drop n s, tail_is n, x.0))
        go c (Fault x o) q = tt

    leaf_yields : (ρ : DoubleRule) → AfterByte Tree (λ p b. headed p (λ x. Val (Leaf x)) (scalar_from ρ p b))
    leaf_yields ρ p b e = head_yields p (λ x. Val (Leaf x))
        (scan_yields (SpeltUnder ρ) (scalar_from ρ) (scalar_scans Item ρ) p b e)
        (λ x es q.
        let s = q.1 in
        rw q.0 (entry_over {i = Val (Leaf x)} e.inside (s.0, s.1, s.2, (ρ, s.3)) refl no_entries))

    name_yields : (x : List ℕ → Item)
        → ((p : ℕ) (cs : List ℕ) → p < length m → Stands (λ w. Text w cs) (drop p m)
        → EntryForest m 1 (opening p (x cs) [] ∷ []))
        → AfterByte (λ u. NameEntries 1) (name x)
    name_yields x h p b e = head_yields p x (scan_yields Text text_from (text_scans Item) p b e)
        (λ cs es q. rw q.0 (h p cs e.inside q.1, refl))

    -- after an int's first byte, which stands at p
    int_behind : {A : Type 0} {F : Fact A} {g : ℕ → ℕ → Reader A} → ((p b v : ℕ) → ByteHere p b → Anywhere F (g p v))
        → AfterByte F (λ p b. bind (int_from p b) (g p))
    int_behind h p b e =
        bind_yields (scan_yields Int int_from (int_scans Item) p b e) (λ v. h p b v e) (λ v a es fs q x. rw q.0 x)

    int_then : {A : Type 0} {F : Fact A} {g : ℕ → ℕ → Reader A} → ((o v : ℕ) → Anywhere F (g o v)) → Anywhere F (int g)
    int_then h = byte_yields (int_behind (λ p b v e. h p v))

    count_then : {A : Type 0} {F : Fact A} {g : ℕ → ℕ → Reader A} → ((o n : ℕ) → Anywhere F (g o n))
        → Anywhere F (count g)
    count_then h = int_then (λ o n k. cond_yields (ltb n (2 ^ 63)) (h o n k) (fail_yields 5 o))

    -- ---- the parts of a value
    -- up to the end byte, each of j trees
    until_yields : {f : Opening One} {j : ℕ} → AfterByte (λ u. EntryForest m j) f
        → (i : ℕ) → Anywhere (Trees (λ n. n * j)) (until 0x5a f i)
    until_yields h zero k = record { yields = λ c. tt }
    until_yields {f} {j} h (suc i) k = byte_yields (λ p b e. cond_yields (eqb b 0x5a)
        (give_yields 0 (as_many (omega arith) no_entries))
        (bind_yields {G = λ u a fs. (n : ℕ) × (a ≡ suc n) × EntryForest m (n * j) fs} (h p b e)
        (λ u k. map_yields suc (weaker_yields (until_yields h i k) (λ n es x. (n, refl, x))))
        (λ u a es fs x y. rw y.1 (as_many (omega arith) (entries_beside x y.2))))) k

    end_yields : {f : Opening One} {j : ℕ} → AfterByte (λ u. EntryForest m j) f
        → Anywhere (Trees (λ n. n * j)) (until_end 0x5a f)
    end_yields h k = record { yields = λ c. (until_yields h (length (drop k m)) k).yields c }

    end_one : {f : Opening One} → AfterByte Tree f → Anywhere (EntryForest m) (until_end 0x5a f)
    end_one h k = weaker_yields (end_yields h k) (λ n es x. as_many (omega arith) x)

    pair_yields : {f : Opening One} → AfterByte Tree f → AfterByte (λ u. EntryForest m 2) (pair f)
    pair_yields h p b e = bind_yields (h p b e) (λ u. byte_yields h) (λ u v es fs x y. entries_beside x y)

    fields_yield : {f : Opening One} → AfterByte Tree f → (p j : ℕ) → Anywhere (EntryForest m) (field_values f p j)
    fields_yield h p j k = ask_yields (λ c.
        let n = get_or c.classes j 0 in
        cond_yields (ltb j (length c.classes))
        (map_yields (λ u. n) (many_yields trees_grow h n k)) (fail_yields 6 p))

    module _ (ρ : DoubleRule) (ℓ : Limits) where
      type_yields : Anywhere Tree (byte_at (type_from ℓ))
      unfolding type_from
      type_yields = byte_yields {f = type_from ℓ} (λ p b e. cond_yields (is_text b)
          (ask_yields (λ c. cond_yields (ltb c.types ℓ.types)
          (map_yields (λ u. c.types) (change_yields {φ = typed} (weaker_yields (named p b e) (λ u es x. x.0))))
          (fail_yields 7 p)))
          (int_behind (λ p b v e k. ask_yields (λ c. cond_yields (ltb v c.types) (map_yields (λ u. v) (numbered v e))
          (fail_yields 6 p))) p b e))
        where
          named : AfterByte (λ u. NameEntries 1) (name TypeName)
          named = name_yields TypeName (λ p cs l x. entry_over l x refl no_entries)

          numbered : {p b k : ℕ} (v : ℕ) → ByteHere p b → Yields k Tree (headed p TypeNumber (give v))
          numbered v e = over_yields TypeNumber e (λ n. tt) (λ n. refl) (give_yields v no_entries)

      with_yields : {A : Type 0} {κ : A → ℕ} {g : ℕ → Reader A} → ((t : ℕ) → Anywhere (Trees κ) (g t))
          → Anywhere (Trees (λ a. suc (κ a))) (with_type ℓ g)
      with_yields h k = bind_yields (type_yields k) h (λ t a es fs x y. trees_grow.of_more x y)

      abbrev Below : Option (Opening One) → Type 0
      Below none = Unit {0}
      Below (some f) = AfterByte Tree f

      module _ (below : Option (Opening One)) (u : Below below) where
        container_yields : {A : Type 0} {p b k : ℕ} (x : A → Value) {g : Opening One → Reader A} → ByteHere p b
            → ((a : A) → Opens (drop p m) (Val (x a)))
            → ((f : Opening One) → AfterByte Tree f → Anywhere (Trees (λ a. holds (Val (x a)))) (g f))
            → Yields k Tree (container below p (λ f. headed p (λ a. Val (x a)) (g f)))
        container_yields {A} {p} {b} {k} x {g} e o h = go below u
          where
            go : (r : Option (Opening One)) → Below r
                → Yields k Tree (container r p (λ f. headed p (λ a. Val (x a)) (g f)))
            go none v = fail_yields 7 p
            go (some f) v = change_yields (over_yields (λ a. Val (x a)) e o (λ a. refl) (h f v k))

        form_yields : (l : ValueHead) → AfterByte Tree (plain_by ρ ℓ below l)
        unfolding plain_by
        form_yields leaf p b e = leaf_yields ρ p b e
        form_yields (few n) p b e =
            container_yields (λ u. UntypedList n) e (λ u. tt) (λ f h. many_yields trees_grow h n)
        form_yields (few_of_type n) p b e = container_yields (λ t. TypedList n t) e (λ t. tt)
            (λ f h. with_yields (λ t k. map_yields (λ u. t) (many_yields trees_grow h n k)))
        form_yields (few_fields j) p b e =
            container_yields (λ n. Object j n) e (λ n. tt) (λ f h. fields_yield h p j)
        form_yields counted p b e = container_yields (λ n. UntypedList n) e (λ n. tt)
            (λ f h. count_then (λ o n k. map_yields (λ u. n) (many_yields trees_grow h n k)))
        form_yields counted_typed_head p b e = container_yields (λ (x : Two). TypedList x.1 x.0) e (λ x. tt)
            (λ f h. with_yields (λ t. count_then (λ o n k.
            map_yields (λ u. with_two t n) (many_yields trees_grow h n k))))
        form_yields open_list_head p b e = container_yields (λ n. UntypedList n) e (λ n. tt) (λ f h. end_one h)
        form_yields open_typed_head p b e = container_yields (λ (x : Two). TypedList x.1 x.0) e (λ x. tt)
            (λ f h. with_yields (λ t k. map_yields (with_two t) (end_one h k)))
        form_yields open_map p b e =
            container_yields (λ n. UntypedMap n) e (λ n. tt) (λ f h. end_yields (pair_yields h))
        form_yields typed_map_head p b e = container_yields (λ (x : Two). TypedMap x.1 x.0) e (λ x. tt)
            (λ f h. with_yields (λ t k. map_yields (with_two t) (end_yields (pair_yields h) k)))
        form_yields object p b e = container_yields (λ (x : Two). Object x.0 x.1) e (λ x. tt)
            (λ f h. int_then (λ o j k. map_yields (with_two j) (fields_yield h p j k)))
        form_yields reference p b e = over_yields (λ j. Val (Reference j)) e (λ j. tt) (λ j. refl)
            (int_then (λ o j k. ask_yields (λ c.
            cond_yields (ltb j c.references) (give_yields j no_entries) (fail_yields 6 p))) (p + 1))

        plain_yields : AfterByte Tree (plain_from ρ ℓ below)
        plain_yields p b e = rw (plain_is ρ ℓ below p b) (form_yields (head_of b) p b e)

      -- ---- a definition: with one before it, a tree is still one
      abbrev Ahead : Fact One
      Ahead u es = (fs : List (Entry Item)) → EntryForest m 1 fs → EntryForest m 1 (es ++ fs)

      fields_named : (o n : ℕ) → Anywhere NameEntries (field_names ℓ o n)
      fields_named o n k = cond_yields (ltb ℓ.fields n) (fail_yields 7 o)
          (bind_yields {G = λ u i fs. (i ≡ n) × (fs ≡ [])} (many_yields names_grow named n k)
          (λ u k. change_yields (give_yields n (refl, refl))) (λ u i es fs x y. rw (y.0, y.1, append-nil) x))
        where
          named : AfterByte (λ u. NameEntries 1) (name FieldName)
          named = name_yields FieldName (λ p cs l x. entry_over l x refl no_entries)

      definition_yields : {p : ℕ} → p < length m → Anywhere Ahead (definition ℓ p)
      unfolding definition
      definition_yields {p} l k = ask_yields (λ c. cond_yields (ltb (length c.classes) ℓ.classes)
          (head_yields p Definition
          (bind_yields {H = λ n. NameEntries (suc n)} (byte_yields named k) (λ u. count_then fields_named)
          (λ u n es fs x y. names_grow.of_more x y))
          (λ n es x fs y. entries_behind l x.0 x.1 y)) (fail_yields 7 p))
        where
          named : AfterByte (λ u. NameEntries 1) (name ClassName)
          named = name_yields ClassName (λ p cs l x. entry_over l x refl no_entries)

      preceded_yields : {f : Opening One} → AfterByte Tree f
          → (j : ℕ) → AfterByte Tree (preceded 0x43 (definition ℓ) f j)
      preceded_yields h zero p b e = cond_yields (eqb b 0x43)
          (bind_yields {g = λ u c at s. Fault 2 at} (definition_yields e.inside (p + 1))
          (λ u k. record { yields = λ c. tt }) (λ u v es fs x y. x fs y)) (h p b e)
      preceded_yields h (suc j) p b e = cond_yields (eqb b 0x43)
          (bind_yields (definition_yields e.inside (p + 1)) (λ u. byte_yields (preceded_yields h j))
          (λ u v es fs x y. x fs y)) (h p b e)

      -- ---- values and messages
      plain_after : {f : Opening One} → AfterByte Tree f → AfterByte Tree (preceded_by 0x43 (definition ℓ) f)
      plain_after h p b e = record { yields = (preceded_yields h (length (drop (p + 1) m)) p b e).yields }

      value_yields : (d : ℕ) → AfterByte Tree (value_from ρ ℓ d)
      unfolding value_from
      value_yields zero p b e = plain_after (plain_yields none tt) p b e
      value_yields (suc d) p b e = plain_after (plain_yields (some (value_from ρ ℓ d)) (value_yields d)) p b e

      end_of_message : Anywhere (λ u es. es ≡ []) ending
      end_of_message k = record { yields = λ c. go c (drop k m) }
        where
          go : (c : Known) (s : List ℕ) → OfOutcome (λ u es. es ≡ []) (ending c k s)
          go c [] = refl
          go c (b ∷ s) = tt

      message_yields : Yields 0 Tree (message ρ ℓ)
      unfolding message
      message_yields = bind_yields (byte_yields (value_yields ℓ.containers) 0) (λ u. end_of_message)
          (λ u v es fs x y. rw (y, append-nil) x)

-- the entries of a message that is accepted
pub message_forest : (ρ : DoubleRule) (ℓ : Limits) (m : List ℕ) → Bytes m → (n : ℕ) (es : List (Entry Item)) (c : Known)
    → message ρ ℓ start 0 m ≡ Done n tt es c → EntryForest m 1 es
message_forest ρ ℓ m bytes n es c e = subst (OfOutcome (Tree m)) e ((message_yields m bytes ρ ℓ).yields start)

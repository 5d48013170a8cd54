-- From the reading to the grammar: what is read of a message is what the grammar derives. H is the goal: what is to be
-- derived.
use Rattle.std.specs.Prelude.{◌≡◌, Bool, cond, T, ltb, get_or}
use Rattle.std.proofs.Math.Bool.{true, false}
use mathlib.Core.List.{List, [], ◌∷◌, ◌++◌, append-nil}
use Rattle.std.proofs.Math.Option.{Option, none, some}
use Prim.Native.Nat.{ℕ, zero, suc, ◌+◌, ◌^◌, ◌≤◌, ◌<◌}
use native.Mathlib.Omega.{arith}
use Rattle.std.proofs.Common.{ltb→lt, nltb→le}
use Rattle.std.proofs.Math.ListN.{length}
use Rattle.flow.specs.Tests.{by_test}
use Rattle.flow.specs.Flow.{Bytes, One, give, fail, byte_at, changing, mapped, headed, bind, after, many, until_end}
use Rattle.flow.specs.Grammar.{Phrase, Many, Ended}
use Rattle.flow.specs.Laws.{Goal, Parsed, gives, weaker, takes, Behind, binds, maps, heads, many_reads, until_reads}
use Rattle.flow.specs.Laws.{byte_reads, quietly, binds_quiet, preceded_by_reads}
use Rattle.flow.specs.Laws as Laws
use Rattle.scalar.specs.Scalars.{is_text, scalar_from, int_from, text_from}
use Rattle.scalar.specs.Grammar.{SpeltUnder, Int, Text}
use Rattle.scalar.proofs.ScalarLaws.{scalar_scans, int_scans, text_scans}
use Rattle.scalar.specs.Scalars.{DoubleRule}
use Rattle.record.specs.Model.Items.{Leaf, UntypedList, TypedList, UntypedMap, TypedMap, Object, Reference, Item}
use Rattle.record.specs.Model.Items.{Val, Definition, ClassName, FieldName, TypeName, TypeNumber, Known, opened}
use Rattle.record.specs.Model.Items.{typed, defined, Limits}
use Rattle.record.specs.Model.Reading.{Reader, Opening, int, count, name, container, field_values, type_from}
use Rattle.record.specs.Model.Reading.{with_type, field_names, plain_from, definition, value_from}
use Rattle.record.specs.Model.Containers.{pair}
use Rattle.record.specs.Model.Reading.{ValueHead, leaf, few, few_of_type, few_fields, counted, counted_typed_head}
use Rattle.record.specs.Model.Reading.{open_list_head, open_typed_head, open_map, typed_map_head, object, reference, head_of}
use Rattle.record.specs.Model.Reading.{plain_by}
use Rattle.record.proofs.Laws.ValueHeads.{HeadFact, head_fact}
use Rattle.record.proofs.Laws.ValueHeads.{plain_is}
use Rattle.record.specs.Model.Reading.{Two, with_two, type_number, reference_to}
use Rattle.record.specs.Model.Grammar.{Nowhere}
use Rattle.record.specs.Model.Grammar.{NameForm, a_name, TypeForm, type_spelled, type_numbered, PairForm, a_pair}
use Rattle.record.specs.Model.Grammar.{DefinitionForm, a_definition, PlainForm, a_leaf, a_few, a_counted, an_open}
use Rattle.record.specs.Model.Grammar.{a_few_typed, a_counted_typed, an_open_typed, a_map, a_typed_map}
use Rattle.record.specs.Model.Grammar.{a_few_object, an_object, a_reference, ValueForm}

-- ---- parts: an int, a count, a name
ints : {A : Type 0} (H : Goal Known Item A) (g : ℕ → ℕ → Reader A) (c : Known) (at : ℕ) (s : List ℕ) → Bytes s
    → ((u : List ℕ) (v o at : ℕ) (t : List ℕ) → Bytes t → Int u v → Parsed (λ w a js c₂. H (u ++ w) a js c₂) t
    (g o v c at t)) → Parsed H s (int g c at s)
ints H g c at s l k = takes H (λ p b. bind (int_from p b) (g p)) c at s l (λ b t m i.
    binds_quiet (λ u v. Int (b ∷ u) v) (λ w a is c'. H (b ∷ w) a is c') (int_from at b) (g at) c (at + 1) t i
    (int_scans Item at b c (at + 1) t i) (λ u v at₁ t₁ j x. k (b ∷ u) v at at₁ t₁ j x))

counts : {A : Type 0} (H : Goal Known Item A) (g : ℕ → ℕ → Reader A) (c : Known) (at : ℕ) (s : List ℕ) → Bytes s
    → ((u : List ℕ) (n o at : ℕ) (t : List ℕ) → Bytes t → Int u n → n < 2 ^ 63
    → Parsed (λ w a js c₂. H (u ++ w) a js c₂) t (g o n c at t)) → Parsed H s (count g c at s)
counts {A} H g c at s l k = ints H (λ o n. cond (ltb n (2 ^ 63)) (g o n) (fail 5 o)) c at s l (λ u n o at₁ t i x.
    by_test (λ (f : Reader A). Parsed (λ w a js c₂. H (u ++ w) a js c₂) t (f c at₁ t)) (ltb n (2 ^ 63))
    (λ y. k u n o at₁ t i x (ltb→lt n (2 ^ 63) y)) (λ y. tt))

names : (x : List ℕ → Item) → Laws.Reads (name x) (NameForm x)
names x p b m c at s l = heads (λ w u is c'. NameForm x c (b ∷ w) is c') p x s (text_from p b c at s)
    (quietly (λ w cs. Text (b ∷ w) cs) (λ w cs is c'. NameForm x c (b ∷ w) (x cs ∷ is) c') c s (λ w cs r. a_name r)
    (text_from p b c at s) (text_scans Item p b c at s l))

-- ---- a container's parts: elements, pairs, fields
module _ (f : Opening One) (G : Phrase Known Item) (hf : Laws.Reads f G) where
  manys : {A : Type 0} (H : Goal Known Item A) (n : ℕ) (a : A) (c : Known) (at : ℕ) (s : List ℕ) → Bytes s
      → ((w : List ℕ) (is : List Item) (c' : Known) → Many G n c w is c' → H w a is c')
      → Parsed H s (mapped (λ (u : One). a) (many f n) c at s)
  manys H n a c at s l k = maps H (λ u. a) s (many f n c at s) (weaker (λ w u is c'. Many G n c w is c')
      (λ w u is c'. H w a is c') s (λ w u is c' r. k w is c' r) (many f n c at s)
      (many_reads f G hf n c at s l))

  ends : (H : Goal Known Item ℕ) (c : Known) (at : ℕ) (s : List ℕ) → Bytes s
      → ((w : List ℕ) (n : ℕ) (is : List Item) (c' : Known) → Ended 0x5a G n c w is c' → H w n is c')
      → Parsed H s (until_end 0x5a f c at s)
  ends H c at s l k = weaker (λ w n is c'. Ended 0x5a G n c w is c') H s (λ w n is c' r. k w n is c' r)
      (until_end 0x5a f c at s) (until_reads f G 0x5a hf (length s) c at s l)

  pairs : Laws.Reads (pair f) (PairForm G)
  pairs p b m c at s l = binds (λ w u is c'. G c (b ∷ w) is c') (λ w u is c'. PairForm G c (b ∷ w) is c') (f p b)
      (λ u. byte_at f) c at s l (hf p b m c at s l)
      (λ u a is c₁ at₁ t i x. weaker (λ w u is c'. G c₁ w is c') (Behind (λ w u is c'. PairForm G c (b ∷ w) is c') u is)
      t (λ v a js c₂ y. a_pair x y) (byte_at f c₁ at₁ t) (byte_reads f G hf c₁ at₁ t i))

  -- the fields of an object of class k, and how many
  objects : (H : Goal Known Item ℕ) (p k : ℕ) (c : Known) (at : ℕ) (s : List ℕ) → Bytes s
      → ((w : List ℕ) (is : List Item) (c' : Known) → k < length c.classes → Many G (get_or c.classes k 0) c w is c'
      → H w (get_or c.classes k 0) is c') → Parsed H s (field_values f p k c at s)
  objects H p k c at s l h = by_test (λ (g : Reader ℕ). Parsed H s (g c at s)) (ltb k (length c.classes))
      (λ x. manys H (get_or c.classes k 0) (get_or c.classes k 0) c at s l
      (λ w is c' r. h w is c' (ltb→lt k (length c.classes) x) r)) (λ x. tt)

-- the items of two results
abbrev typed_list : Two → Item
typed_list x = Val (TypedList x.1 x.0)

abbrev typed_map : Two → Item
typed_map x = Val (TypedMap x.1 x.0)

abbrev object_of : Two → Item
object_of x = Val (Object x.0 x.1)

module _ (ρ : DoubleRule) (ℓ : Limits) where
  -- ---- types
  types : (c : Known) (at : ℕ) (s : List ℕ) → Bytes s → Parsed (λ w t is c'. TypeForm ℓ c w t is c') s
      (byte_at (type_from ℓ) c at s)
  unfolding type_from
  types c at s l = takes (λ w t is c'. TypeForm ℓ c w t is c') (type_from ℓ) c at s l (λ b t m i.
      by_test (λ (g : Reader ℕ). Parsed (λ w t is c'. TypeForm ℓ c (b ∷ w) t is c') t (g c (at + 1) t)) (is_text b)
      (λ x. by_test (λ (g : Reader ℕ). Parsed (λ w t is c'. TypeForm ℓ c (b ∷ w) t is c') t (g c (at + 1) t))
      (ltb c.types ℓ.types)
      (λ y. maps (λ w t is c'. TypeForm ℓ c (b ∷ w) t is c') (λ (u : One). c.types) t
      (name TypeName at b (typed c) (at + 1) t)
      (heads (λ w u is c'. TypeForm ℓ c (b ∷ w) c.types is c') at TypeName t (text_from at b (typed c) (at + 1) t)
      (quietly (λ w cs. Text (b ∷ w) cs) (λ w cs is c'. TypeForm ℓ c (b ∷ w) c.types (TypeName cs ∷ is) c')
      (typed c) t (λ w cs r. type_spelled (ltb→lt c.types ℓ.types y) r)
      (text_from at b (typed c) (at + 1) t) (text_scans Item at b (typed c) (at + 1) t i))))
      (λ y. tt))
      (λ x. binds_quiet (λ u k. Int (b ∷ u) k) (λ w t is c'. TypeForm ℓ c (b ∷ w) t is c') (int_from at b)
      (type_number at) c (at + 1) t i (int_scans Item at b c (at + 1) t i)
      (λ u k at₁ t₁ j z. by_test (λ (g : Reader ℕ). Parsed (λ w t is c'. TypeForm ℓ c (b ∷ (u ++ w)) t is c') t₁
      (g c at₁ t₁)) (ltb k c.types)
      (λ y. numbered b u k z (ltb→lt k c.types y) t₁) (λ y. tt))))
    where
      numbered : (b : ℕ) (u : List ℕ) (k : ℕ) → Int (b ∷ u) k → k < c.types → (t : List ℕ) → (0 ≤ length t)
          × TypeForm ℓ c (b ∷ (u ++ [])) k (TypeNumber k ∷ []) c
      numbered b u k z y t = (omega arith, rw append-nil (type_numbered z y))

  withs : {A : Type 0} (H : Goal Known Item A) (g : ℕ → Reader A) (c : Known) (at : ℕ) (s : List ℕ) → Bytes s
      → ((u : List ℕ) (t : ℕ) (is : List Item) (c₁ : Known) (at₁ : ℕ) (s₁ : List ℕ) → Bytes s₁ → TypeForm ℓ c u t is c₁
      → Parsed (Behind H u is) s₁ (g t c₁ at₁ s₁)) → Parsed H s (with_type ℓ g c at s)
  withs H g c at s l k =
      binds (λ w t is c'. TypeForm ℓ c w t is c') H (byte_at (type_from ℓ)) g c at s l (types c at s l) k

  -- ---- values with no definition before them
  module _ (below : Option (Opening One)) (room : Bool) (G : Phrase Known Item) where
    abbrev Room : Option (Opening One) → Bool → Type 0
    Room none r = Unit {0}
    Room (some f) r = T r × Laws.Reads f G

    module _ (room-is : Room below room) where
      abbrev Is : Known → ℕ → Goal Known Item One
      Is c b w u is c' = PlainForm ρ ℓ room G c (b ∷ w) is c'

      -- the value after the byte e, with the item x of the result
      abbrev At : {A : Type 0} → Known → ℕ → (A → Item) → Goal Known Item A
      At c e x w a is c' = PlainForm ρ ℓ room G c (e ∷ w) (x a ∷ is) c'

      -- a container whose code b is e
      held_in_law : {A : Type 0} (c : Known) (b e p : ℕ) → b ≡ e → (x : A → Item) (g : Opening One → Reader A) (at : ℕ)
          (s : List ℕ)
          → ((f : Opening One) → T room → Laws.Reads f G → Parsed (At c e x) s (g f (opened c) at s))
          → Parsed (Is c b) s (container below p (λ f. headed p x (g f)) c at s)
      held_in_law {A} c b e p q x g at s k = rw q (go below room-is)
        where
          go : (o : Option (Opening One)) → Room o room → Parsed (Is c e) s
              (container o p (λ f. headed p x (g f)) c at s)
          go none r = tt
          go (some f) r = heads (Is c e) p x s (g f (opened c) at s) (k f r.0 r.1)

      plain_by_law : (l : ValueHead) (b : ℕ) → HeadFact b l → (p : ℕ) (c : Known) (at : ℕ) (s : List ℕ) → Bytes s
          → Parsed (Is c b) s (plain_by ρ ℓ below l p b c at s)
      unfolding plain_by
      plain_by_law leaf b q p c at s l = heads (Is c b) p (λ x. Val (Leaf x)) s (scalar_from ρ p b c at s)
          (quietly (λ w x. SpeltUnder ρ (b ∷ w) x) (At c b (λ x. Val (Leaf x))) c s (λ w x r. a_leaf r)
          (scalar_from ρ p b c at s)
          (scalar_scans Item ρ p b c at s l))
      plain_by_law (few n) b q p c at s l = held_in_law c b (0x78 + n) p q.0 (λ u. Val (UntypedList n)) (λ f. many f n) at s
          (λ f r hf. weaker (λ w u is c'. Many G n (opened c) w is c') (At c (0x78 + n) (λ u. Val (UntypedList n))) s
          (λ w u is c' y. a_few r q.1 y) (many f n (opened c) at s)
          (many_reads f G hf n (opened c) at s l))
      plain_by_law (few_of_type n) b q p c at s l = held_in_law c b (0x70 + n) p q.0 (λ t. Val (TypedList n t))
          (λ f. with_type ℓ (λ t. mapped (λ u. t) (many f n))) at s
          (λ f r hf. withs (At c (0x70 + n) (λ t. Val (TypedList n t))) (λ t. mapped (λ u. t) (many f n))
          (opened c) at s l
          (λ u t is c₁ at₁ s₁ i x. manys f G hf (Behind (At c (0x70 + n) (λ t. Val (TypedList n t))) u is) n t c₁ at₁ s₁
          i (λ w js c₂ y. a_few_typed r q.1 x y)))
      plain_by_law (few_fields k) b q p c at s l =
          held_in_law c b (0x60 + k) p q.0 (λ n. Val (Object k n)) (λ f. field_values f p k) at s
          (λ f r hf. objects f G hf (At c (0x60 + k) (λ n. Val (Object k n))) p k (opened c) at s l
          (λ w is c' y z. a_few_object r q.1 y z))
      plain_by_law counted b q p c at s l =
          held_in_law c b 0x58 p q (λ n. Val (UntypedList n)) (λ f. count (λ o n. mapped (λ u. n) (many f n))) at s
          (λ f r hf. counts (At c 0x58 (λ n. Val (UntypedList n))) (λ o n. mapped (λ u. n) (many f n)) (opened c) at s l
          (λ u n o at₁ t i x y. manys f G hf (Behind (At c 0x58 (λ n. Val (UntypedList n))) u []) n n (opened c) at₁ t i
          (λ w is c' z. a_counted r x y z)))
      plain_by_law counted_typed_head b q p c at s l = held_in_law c b 0x56 p q typed_list
          (λ f. with_type ℓ (λ t. count (λ o n. mapped (λ u. with_two t n) (many f n)))) at s
          (λ f r hf. withs (At c 0x56 typed_list) (λ t. count (λ o n. mapped (λ u. with_two t n) (many f n)))
          (opened c) at s l
          (λ u t is c₁ at₁ s₁ i x. counts (Behind (At c 0x56 typed_list) u is)
          (λ o n. mapped (λ u. with_two t n) (many f n)) c₁ at₁ s₁ i
          (λ v n o at₂ s₂ j y z. manys f G hf (Behind (Behind (At c 0x56 typed_list) u is) v []) n
          (with_two t n) c₁ at₂ s₂ j (λ w js c₂ e. a_counted_typed r x y z e))))
      plain_by_law open_list_head b q p c at s l = held_in_law c b 0x57 p q (λ n. Val (UntypedList n)) (until_end 0x5a) at s
          (λ f r hf. ends f G hf (At c 0x57 (λ n. Val (UntypedList n))) (opened c) at s l (λ w n is c' y. an_open r y))
      plain_by_law open_typed_head b q p c at s l =
          held_in_law c b 0x55 p q typed_list (λ f. with_type ℓ (λ t. mapped (with_two t) (until_end 0x5a f))) at s
          (λ f r hf. withs (At c 0x55 typed_list) (λ t. mapped (with_two t) (until_end 0x5a f)) (opened c) at s l
          (λ u t is c₁ at₁ s₁ i x. maps (Behind (At c 0x55 typed_list) u is) (with_two t) s₁ (until_end 0x5a f c₁ at₁ s₁)
          (ends f G hf (Behind (At c 0x55 (λ n. Val (TypedList n t))) u is) c₁ at₁ s₁ i
          (λ w n js c₂ y. an_open_typed r x y))))
      plain_by_law open_map b q p c at s l =
          held_in_law c b 0x48 p q (λ n. Val (UntypedMap n)) (λ f. until_end 0x5a (pair f)) at s
          (λ f r hf. ends (pair f) (PairForm G) (pairs f G hf) (At c 0x48 (λ n. Val (UntypedMap n))) (opened c) at s l
          (λ w n is c' y. a_map r y))
      plain_by_law typed_map_head b q p c at s l =
          held_in_law c b 0x4d p q typed_map (λ f. with_type ℓ (λ t. mapped (with_two t) (until_end 0x5a (pair f)))) at s
          (λ f r hf. withs (At c 0x4d typed_map) (λ t. mapped (with_two t) (until_end 0x5a (pair f))) (opened c) at s l
          (λ u t is c₁ at₁ s₁ i x. maps (Behind (At c 0x4d typed_map) u is) (with_two t) s₁
          (until_end 0x5a (pair f) c₁ at₁ s₁)
          (ends (pair f) (PairForm G) (pairs f G hf) (Behind (At c 0x4d (λ n. Val (TypedMap n t))) u is) c₁ at₁ s₁ i
          (λ w n js c₂ y. a_typed_map r x y))))
      plain_by_law object b q p c at s l =
          held_in_law c b 0x4f p q object_of (λ f. int (λ o k. mapped (with_two k) (field_values f p k))) at s
          (λ f r hf. ints (At c 0x4f object_of) (λ o k. mapped (with_two k) (field_values f p k)) (opened c) at s l
          (λ u k o at₁ t i x. maps (Behind (At c 0x4f object_of) u []) (with_two k) t
          (field_values f p k (opened c) at₁ t)
          (objects f G hf (Behind (At c 0x4f (λ n. Val (Object k n))) u []) p k (opened c) at₁ t i
          (λ w is c' y z. an_object r x y z))))
      plain_by_law reference b q p c at s l =
          rw q (heads (Is c 0x51) p (λ k. Val (Reference k)) s (int (λ o. reference_to p) c at s)
          (ints (At c 0x51 (λ k. Val (Reference k))) (λ o. reference_to p) c at s l
          (λ u k o at₁ t i x. by_test (λ (g : Reader ℕ). Parsed (Behind (At c 0x51 (λ k. Val (Reference k))) u []) t
          (g c at₁ t)) (ltb k c.references)
          (λ y. gives (Behind (At c 0x51 (λ k. Val (Reference k))) u []) k c at₁ t
          (rw (append-nil u) (a_reference x (ltb→lt k c.references y)))) (λ y. tt))))

      plain_reads : Laws.Reads (plain_from ρ ℓ below) (PlainForm ρ ℓ room G)
      plain_reads p b m c at s l = rw (plain_is ρ ℓ below p b) (plain_by_law (head_of b) b (head_fact b) p c at s l)

  -- ---- definitions
  definition_reads : (p : ℕ) (c : Known) (at : ℕ) (s : List ℕ) → Bytes s
      → Parsed (λ w u is c'. DefinitionForm ℓ c w is c') s (definition ℓ p c at s)
  unfolding definition
  definition_reads p c at s l = by_test (λ (g : Reader One). Parsed (λ w u is c'. DefinitionForm ℓ c w is c') s
      (g c at s)) (ltb (length c.classes) ℓ.classes)
      (λ x. heads (λ w u is c'. DefinitionForm ℓ c w is c') p Definition s
      (after (byte_at (name ClassName)) (count (field_names ℓ)) c at s)
      (binds (λ w u is c'. NameForm ClassName c w is c') (λ w n is c'. DefinitionForm ℓ c w (Definition n ∷ is) c')
      (byte_at (name ClassName)) (λ u. count (field_names ℓ)) c at s l
      (byte_reads (name ClassName) (NameForm ClassName) (names ClassName) c at s l)
      (λ u a is c₁ at₁ t i y. named (ltb→lt (length c.classes) ℓ.classes x) u is c₁ at₁ t i y)))
      (λ x. tt)
    where
      named : length c.classes < ℓ.classes → (u : List ℕ) (is : List Item) (c₁ : Known) (at₁ : ℕ) (t : List ℕ)
          → Bytes t → NameForm ClassName c u is c₁
          → Parsed (λ w n js c₂. DefinitionForm ℓ c (u ++ w) (Definition n ∷ (is ++ js)) c₂) t
          (count (field_names ℓ) c₁ at₁ t)
      named x u is c₁ at₁ t i (a_name {cs = cs} y) =
          counts (λ w n js c₂. DefinitionForm ℓ c (u ++ w) (Definition n ∷ ClassName cs ∷ js) c₂)
          (field_names ℓ) c at₁ t i
          (λ v n o at₂ t₂ j z e. by_test (λ (g : Reader ℕ). Parsed (λ w n js c₂. DefinitionForm ℓ c (u ++ (v ++ w))
          (Definition n ∷ ClassName cs ∷ js) c₂) t₂ (g c at₂ t₂)) (ltb ℓ.fields n) (λ a. tt)
          (λ a. binds (λ w u is c'. Many (NameForm FieldName) n c w is c')
          (λ w n js c₂. DefinitionForm ℓ c (u ++ (v ++ w)) (Definition n ∷ ClassName cs ∷ js) c₂)
          (many (name FieldName) n)
          (λ u. changing (defined n) (give n)) c at₂ t₂ j
          (many_reads (name FieldName) (NameForm FieldName) (names FieldName) n c at₂ t₂ j)
          (λ w b js c₂ at₃ t₃ k f. gives (λ w' n ks c₃. DefinitionForm ℓ c (u ++ (v ++ (w ++ w'))) (Definition n
          ∷ ClassName cs ∷ (js ++ ks)) c₃) n (defined n c₂) at₃ t₃
          (rw (append-nil w, append-nil js) (a_definition x y z e (nltb→le ℓ.fields n a) f)))))

  -- ---- values
  -- what is read of a value is a value of the grammar
  pub value_reads : (d : ℕ) → Laws.Reads (value_from ρ ℓ d) (ValueForm ρ ℓ d)
  unfolding value_from
  value_reads zero = preceded_by_reads 0x43 (definition ℓ) (plain_from ρ ℓ none) (DefinitionForm ℓ)
      (PlainForm ρ ℓ false Nowhere) definition_reads (plain_reads none false Nowhere tt)
  value_reads (suc d) = preceded_by_reads 0x43 (definition ℓ) (plain_from ρ ℓ (some (value_from ρ ℓ d))) (DefinitionForm ℓ)
      (PlainForm ρ ℓ true (ValueForm ρ ℓ d)) definition_reads
      (plain_reads (some (value_from ρ ℓ d)) true (ValueForm ρ ℓ d) (tt, value_reads d))

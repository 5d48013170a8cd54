-- From the grammar to the reading: what the grammar derives is read of a message.
use Rattle.std.specs.Prelude.{◌≡◌, Bool, not, ltb, eqb, length, get_or}
use Rattle.std.proofs.Math.Path.{refl, subst}
use Rattle.std.proofs.Common.{◌∙◌, ap, lt→ltb}
use Rattle.std.proofs.Math.Bool.{true, false, cond}
use mathlib.Core.List.{List, [], ◌∷◌, ◌++◌, append-nil}
use Rattle.std.proofs.Math.Option.{Option, none, some}
use Prim.Native.Nat.{ℕ, zero, suc, ◌+◌, ◌^◌, ◌<◌}
use Rattle.std.proofs.Math.Dec.{T}
use Rattle.std.proofs.Math.Arith.{le→nltb}
use Rattle.flow.specs.Tests.{skip, First}
use Rattle.flow.specs.Flow.{Fault, One, give, fail, byte_at, changing, mapped, headed, bind, after, many, until_end}
use Rattle.flow.specs.Flow.{preceded, preceded_by}
use Rattle.flow.specs.Grammar.{Phrase, Many}
use Rattle.flow.specs.Laws.{Makes, give_makes, byte_makes, bind_makes, map_makes, head_makes, change_makes, ask_makes}
use Rattle.flow.specs.Laws.{pass_makes, skip_makes, Leads, leads_byte, Led, Makers, Shut, many_makes, end_makes}
use Rattle.flow.specs.Laws.{preceded_by_makes}
use Rattle.scalar.specs.Scalars.{Scalar, is_text, scalar_from, int_from, text_from}
use Rattle.scalar.specs.Grammar.{Int}
use Rattle.scalar.proofs.ScalarLaws.{is_scalar, scalar_makes, int_makes, text_makes, scalar_owned, text_first, int_first}
use Rattle.scalar.proofs.ScalarLaws.{scalar_shut}
use Rattle.scalar.specs.Scalars.{DoubleRule}
use Rattle.record.specs.Model.Items.{Leaf, UntypedList, TypedList, UntypedMap, TypedMap, Object, Reference, Item}
use Rattle.record.specs.Model.Items.{Val, Definition, ClassName, FieldName, TypeName, TypeNumber, Known, opened}
use Rattle.record.specs.Model.Items.{typed, defined, Limits}
use Rattle.record.specs.Model.Reading.{Reader, Opening, int, count, name, container, field_values, type_from}
use Rattle.record.specs.Model.Reading.{with_type, field_names, plain_from, definition, value_from}
use Rattle.record.specs.Model.Containers.{pair}
use Rattle.record.specs.Model.Reading.{ValueHead, leaf, few, few_of_type, few_fields, counted, counted_typed_head}
use Rattle.record.specs.Model.Reading.{open_list_head, open_typed_head, open_map, typed_map_head, object, reference, head_of}
use Rattle.record.specs.Model.Reading.{plain_by}
use Rattle.record.proofs.Laws.ValueHeads.{few_head, few_typed_head, few_object_head, leaf_head}
use Rattle.record.proofs.Laws.ValueHeads.{plain_is, singles, no_scalar}
use Rattle.record.specs.Model.Reading.{with_two, type_number, reference_to, type_name}
use Rattle.record.specs.Model.Grammar.{Nowhere}
use Rattle.record.specs.Model.Grammar.{NameForm, a_name, TypeForm, type_spelled, type_numbered, PairForm, a_pair}
use Rattle.record.specs.Model.Grammar.{DefinitionForm, a_definition, PlainForm, a_leaf, a_few, a_counted, an_open}
use Rattle.record.specs.Model.Grammar.{a_few_typed, a_counted_typed, an_open_typed, a_map, a_typed_map}
use Rattle.record.specs.Model.Grammar.{a_few_object, an_object, a_reference, ValueForm}

-- ---- parts: an int, a count, a name, fields, a pair
int_then : {A : Type 0} (g : ℕ → ℕ → Reader A) {u : List ℕ} {v : ℕ} {c c' : Known} {w : List ℕ} {a : A} {is : List Item}
    → Int u v → ((o : ℕ) → Makes (g o v) c w a is c')
    → Makes (int g) c (u ++ w) a is c'
int_then {A} g {u} {v} {c} {c'} {w} {a} {is} x h = go u (int_makes Item x c)
  where
    go : (u : List ℕ) → Leads {I = Item} int_from c u v [] c → Makes (int g) c (u ++ w) a is c'
    go [] y = absurd y
    go (b ∷ u) y = byte_makes (λ p b. bind (int_from p b) (g p)) b (λ p. bind_makes (int_from p b) (g p) (y p) (h p))

count_then : {A : Type 0} (g : ℕ → ℕ → Reader A) {u : List ℕ} {n : ℕ} {c c' : Known} {w : List ℕ} {a : A}
    {is : List Item} → Int u n → n < 2 ^ 63 → ((o : ℕ) → Makes (g o n) c w a is c')
    → Makes (count g) c (u ++ w) a is c'
count_then g {n = n} x l h = int_then (λ o n. cond (ltb n (2 ^ 63)) (g o n) (fail 5 o)) x
    (λ o. pass_makes (ltb n (2 ^ 63)) (g o n) (fail 5 o) (lt→ltb n (2 ^ 63) l) (h o))

name_makes : (x : List ℕ → Item) → Makers (name x) (NameForm x)
name_makes x c w is c' (a_name {cs = cs} r) = go w (text_makes Item r c)
  where
    go : (w : List ℕ) → Leads {I = Item} text_from c w cs [] c → Led (name x) c w (x cs ∷ []) c
    go [] y = y
    go (b ∷ w) y = λ p. head_makes p x (text_from p b) (y p)

fields_makes : (f : Opening One) (G : Phrase Known Item) → Makers f G →
    (p k : ℕ) {c c' : Known} {w : List ℕ} {is : List Item} → k < length c.classes
    → Many G (get_or c.classes k 0) c w is c' → Makes (field_values f p k) c w (get_or c.classes k 0) is c'
fields_makes f G hf p k {c} l r = ask_makes (λ c. cond (ltb k (length c.classes))
    (mapped (λ u. get_or c.classes k 0) (many f (get_or c.classes k 0))) (fail 6 p))
    (pass_makes (ltb k (length c.classes)) _ _ (lt→ltb k (length c.classes) l)
    (map_makes (λ u. get_or c.classes k 0) (many f (get_or c.classes k 0)) (many_makes f G hf r)))

pair_makes : (f : Opening One) (G : Phrase Known Item) → Makers f G → Makers (pair f) (PairForm G)
pair_makes f G hf c w is c' (a_pair {c₁ = c₁} {u = u} {v = v} {is = is₁} {js = js} x y) = go u (hf c u is₁ c₁ x)
  where
    go : (u : List ℕ) → Led f c u is₁ c₁ → Led (pair f) c (u ++ v) (is₁ ++ js) c'
    go [] z = absurd z
    go (b ∷ u) z = λ p. bind_makes (f p b) (λ u. byte_at f) (z p) (leads_byte f v (hf c₁ v js c' y))

pair_shut : (f : Opening One) (e : ℕ) → Shut f e → Shut (pair f) e
pair_shut f e x p c at s = rw (x p c at s) refl

module _ (ρ : DoubleRule) (ℓ : Limits) where
  -- ---- types
  type_makes : {c c' : Known} {w : List ℕ} {t : ℕ} {is : List Item} → TypeForm ℓ c w t is c'
      → Leads (type_from ℓ) c w t is c'
  unfolding type_from
  type_makes (type_spelled {c = c} {w = w} {cs = cs} l r) = go w (text_first r) (text_makes Item r (typed c))
    where
      go : (w : List ℕ) → First (λ b. T (is_text b)) w → Leads {I = Item} text_from (typed c) w cs [] (typed c)
          → Leads (type_from ℓ) c w c.types (TypeName cs ∷ []) (typed c)
      go [] f h = h
      go (b ∷ w) f h = λ p. pass_makes (is_text b) (type_name ℓ p b)
          (bind (int_from p b) (type_number p)) f
          (ask_makes (λ c. cond (ltb c.types ℓ.types) (mapped (λ u. c.types)
          (changing typed (name TypeName p b))) (fail 7 p))
          (pass_makes (ltb c.types ℓ.types) (mapped (λ u. c.types) (changing typed (name TypeName p b)))
          (fail 7 p) (lt→ltb c.types ℓ.types l)
          (map_makes (λ (u : One). c.types) (changing typed (name TypeName p b))
          (change_makes typed (name TypeName p b) (head_makes p TypeName (text_from p b) (h p))))))
  type_makes (type_numbered {c = c} {w = w} {k = k} x l) = go w (int_first x) (int_makes Item x c)
    where
      go : (w : List ℕ) → First (λ b. T (not (is_text b))) w → Leads {I = Item} int_from c w k [] c
          → Leads (type_from ℓ) c w k (TypeNumber k ∷ []) c
      go [] f h = h
      go (b ∷ w) f h = λ p. skip_makes (is_text b) (type_name ℓ p b)
          (bind (int_from p b) (type_number p)) f
          (subst (λ (z : List ℕ). Makes (bind (int_from p b) (type_number p)) c z k (TypeNumber k ∷ []) c)
          (append-nil w)
          (bind_makes (int_from p b) (type_number p) (h p)
          (ask_makes (λ c. cond (ltb k c.types) (mapped (λ u. k) (headed p TypeNumber (give k))) (fail 6 p))
          (pass_makes (ltb k c.types) (mapped (λ u. k) (headed p TypeNumber (give k))) (fail 6 p)
          (lt→ltb k c.types l)
          (map_makes (λ (u : One). k) (headed p TypeNumber (give k)) (head_makes p TypeNumber (give k)
          (give_makes k c)))))))

  type_then : {A : Type 0} (g : ℕ → Reader A) {u w : List ℕ} {t : ℕ} {c c₁ c₂ : Known} {a : A} {is js : List Item}
      → TypeForm ℓ c u t is c₁ → Makes (g t) c₁ w a js c₂
      → Makes (with_type ℓ g) c (u ++ w) a (is ++ js) c₂
  type_then g {u} x h = bind_makes (byte_at (type_from ℓ)) g (leads_byte (type_from ℓ) u (type_makes x)) h

  -- ---- values with no definition before them
  module _ (below : Option (Opening One)) (room : Bool) (G : Phrase Known Item) where
    abbrev Room : Option (Opening One) → Type 0
    Room none = T room → ⊥
    Room (some f) = Makers f G × Shut f 0x5a

    module _ (room-is : Room below) where
      -- a container whose code stands at p, with the item x of the result
      holds : {A : Type 0} (x : A → Item) (g : Opening One → Reader A)
          (p : ℕ) {c c' : Known} {w : List ℕ} {a : A} {is : List Item} → T room
          → ((f : Opening One) → Makers f G → Shut f 0x5a → Makes (g f) (opened c) w a is c')
          → Makes (container below p (λ f. headed p x (g f))) c w tt (x a ∷ is) c'
      holds {A} x g p {c} {c'} {w} {a} {is} r h = go below room-is
        where
          go : (o : Option (Opening One)) → Room o → Makes (container o p (λ f. headed p x (g f))) c w tt (x a ∷ is) c'
          go none q = absurd (q r)
          go (some f) q = change_makes opened (headed p x (g f)) (head_makes p x (g f) (h f q.0 q.1))

      by_form_law : (l : ValueHead) (b : ℕ) → head_of b ≡ l → {c c' : Known} {w : List ℕ} {is : List Item}
          → ((p : ℕ) → Makes (plain_by ρ ℓ below l p b) c w tt is c') → (p : ℕ)
          → Makes (plain_from ρ ℓ below p b) c w tt is c'
      by_form_law l b e h p = rw (plain_is ρ ℓ below p b, e) (h p)

      leaf_makes : (c : Known) (w : List ℕ) (x : Scalar) → First (λ b. (b < 256) × T (is_scalar b)) w
          → Leads {I = Item} (scalar_from ρ) c w x [] c → Led (plain_from ρ ℓ below) c w (Val (Leaf x) ∷ []) c
      unfolding plain_by
      leaf_makes c [] x f h = h
      leaf_makes c (b ∷ w) x f h =
          by_form_law leaf b (leaf_head b f.0 f.1) (λ p. head_makes p (λ x. Val (Leaf x)) (scalar_from ρ p b) (h p))

      plain_makes : Makers (plain_from ρ ℓ below) (PlainForm ρ ℓ room G)
      unfolding plain_by
      plain_makes c w is c' (a_leaf {x = x} r) = leaf_makes c w x (scalar_owned r) (scalar_makes Item r c)
      plain_makes c w is c' (a_few {n = n} r l y) = by_form_law (few n) (0x78 + n) (few_head n l)
          (λ p. holds (λ u. Val (UntypedList n)) (λ f. many f n) p r (λ f hf x. many_makes f G hf y))
      plain_makes c w is c' (a_counted {n = n} r i l y) = by_form_law counted 0x58 singles.of_counted
          (λ p. holds (λ n. Val (UntypedList n)) (λ f. count (λ o n. mapped (λ u. n) (many f n))) p r
          (λ f hf x. count_then (λ o n. mapped (λ u. n) (many f n)) i l
          (λ o. map_makes (λ (u : One). n) (many f n) (many_makes f G hf y))))
      plain_makes c w is c' (an_open r y) = by_form_law open_list_head 0x57 singles.of_open_list
          (λ p. holds (λ n. Val (UntypedList n)) (until_end 0x5a) p r (λ f hf x. end_makes f G 0x5a hf x y))
      plain_makes c w is c' (a_few_typed {n = n} {t = t} r l q y) =
          by_form_law (few_of_type n) (0x70 + n) (few_typed_head n l)
          (λ p. holds (λ t. Val (TypedList n t)) (λ f. with_type ℓ (λ t. mapped (λ u. t) (many f n))) p r
          (λ f hf x. type_then (λ t. mapped (λ u. t) (many f n)) q (map_makes (λ (u : One). t) (many f n)
          (many_makes f G hf y))))
      plain_makes c w is c' (a_counted_typed {n = n} {t = t} r q i l y) =
          by_form_law counted_typed_head 0x56 singles.of_counted_typed
          (λ p. holds (λ (x : ℕ × ℕ). Val (TypedList x.1 x.0)) (λ f. with_type ℓ
          (λ t. count (λ o n. mapped (λ u. with_two t n) (many f n)))) p r
          (λ f hf x. type_then (λ t. count (λ o n. mapped (λ u. with_two t n) (many f n))) q
          (count_then (λ o n. mapped (λ u. with_two t n) (many f n)) i l
          (λ o. map_makes (λ (u : One). with_two t n) (many f n) (many_makes f G hf y)))))
      plain_makes c w is c' (an_open_typed {t = t} r q y) = by_form_law open_typed_head 0x55 singles.of_open_typed
          (λ p. holds (λ (x : ℕ × ℕ). Val (TypedList x.1 x.0)) (λ f. with_type ℓ
          (λ t. mapped (with_two t) (until_end 0x5a f))) p r
          (λ f hf x. type_then (λ t. mapped (with_two t) (until_end 0x5a f)) q
          (map_makes (with_two t) (until_end 0x5a f) (end_makes f G 0x5a hf x y))))
      plain_makes c w is c' (a_map r y) = by_form_law open_map 0x48 singles.of_open_map
          (λ p. holds (λ n. Val (UntypedMap n)) (λ f. until_end 0x5a (pair f)) p r
          (λ f hf x. end_makes (pair f) (PairForm G) 0x5a (pair_makes f G hf) (pair_shut f 0x5a x) y))
      plain_makes c w is c' (a_typed_map {t = t} r q y) = by_form_law typed_map_head 0x4d singles.of_typed_map
          (λ p. holds (λ (x : ℕ × ℕ). Val (TypedMap x.1 x.0)) (λ f. with_type ℓ
          (λ t. mapped (with_two t) (until_end 0x5a (pair f)))) p r
          (λ f hf x. type_then (λ t. mapped (with_two t) (until_end 0x5a (pair f))) q
          (map_makes (with_two t) (until_end 0x5a (pair f))
          (end_makes (pair f) (PairForm G) 0x5a (pair_makes f G hf) (pair_shut f 0x5a x) y))))
      plain_makes c w is c' (a_few_object {k = k} r l i y) = by_form_law (few_fields k) (0x60 + k) (few_object_head k l)
          (λ p. holds (λ n. Val (Object k n)) (λ f. field_values f p k) p r (λ f hf x. fields_makes f G hf p k i y))
      plain_makes c w is c' (an_object {k = k} r q i y) = by_form_law object 0x4f singles.of_object
          (λ p. holds (λ (x : ℕ × ℕ). Val (Object x.0 x.1)) (λ f. int
          (λ o k. mapped (with_two k) (field_values f p k))) p r
          (λ f hf x. int_then (λ o k. mapped (with_two k) (field_values f p k)) q
          (λ o. map_makes (with_two k) (field_values f p k) (fields_makes f G hf p k i y))))
      plain_makes c w is c' (a_reference {k = k} {w = v} q l) = by_form_law reference 0x51 singles.of_reference
          (λ p. head_makes p (λ k. Val (Reference k)) (int (λ o. reference_to p))
          (subst (λ (z : List ℕ). Makes (int (λ o. reference_to p)) c z k [] c) (append-nil v)
          (int_then (λ o. reference_to p) q (λ o. ask_makes (λ c. cond (ltb k c.references) (give k) (fail 6 p))
          (pass_makes (ltb k c.references) (give k) (fail 6 p) (lt→ltb k c.references l) (give_makes k c))))))

  -- no value begins with a byte that opens none
  plain_shut : (below : Option (Opening One)) (e : ℕ) → head_of e ≡ leaf → T (not (is_scalar e))
      → Shut (plain_from ρ ℓ below) e
  unfolding plain_by
  plain_shut below e q z p c at s = rw (plain_is ρ ℓ below p e, q, scalar_shut Item ρ e z p c at s) refl

  -- ---- definitions
  definition_makes : (c : Known) (w : List ℕ) (is : List Item) (c' : Known) → DefinitionForm ℓ c w is c' → (p : ℕ)
      → Makes (definition ℓ p) c w tt is c'
  unfolding definition
  definition_makes c w is c' (a_definition {c₁ = c₁} {u = u} {v = v} {w = x} {cs = cs} {n = n} {is = js} l r i b f y)
      p =
      let parts = headed p Definition (after (byte_at (name ClassName)) (count (field_names ℓ))) in
      ask_makes (λ c. cond (ltb (length c.classes) ℓ.classes) parts (fail 7 p))
      (pass_makes (ltb (length c.classes) ℓ.classes) parts (fail 7 p)
      (lt→ltb (length c.classes) ℓ.classes l)
      (head_makes p Definition (after (byte_at (name ClassName)) (count (field_names ℓ)))
      (bind_makes (byte_at (name ClassName)) (λ u. count (field_names ℓ))
      (leads_byte (name ClassName) u (name_makes ClassName c u (ClassName cs ∷ []) c (a_name r)))
      (count_then (field_names ℓ) i b (λ o. skip_makes (ltb ℓ.fields n) _ _ (le→nltb ℓ.fields n f) made)))))
    where
      made : Makes (after (many (name FieldName) n) (changing (defined n) (give n))) c x n js (defined n c₁)
      made = subst (λ (z : List ℕ). Makes (after (many (name FieldName) n) (changing (defined n) (give n))) c z n js
          (defined n c₁)) (append-nil x)
          (subst (λ (z : List Item). Makes (after (many (name FieldName) n) (changing (defined n) (give n))) c
          (x ++ []) n z (defined n c₁)) (append-nil js)
          (bind_makes (many (name FieldName) n) (λ u. changing (defined n) (give n))
          (many_makes (name FieldName) (NameForm FieldName) (name_makes FieldName) y)
          (change_makes (defined n) (give n) (give_makes n (defined n c₁)))))

  -- ---- values
  -- no value begins with the end byte
  defs_shut : (f : Opening One) (e : ℕ) → T (not (eqb e 0x43)) → Shut f e → Shut (preceded_by 0x43 (definition ℓ) f) e
  defs_shut f e t x p c at s = go (length s)
    where
      go : (k : ℕ) → preceded 0x43 (definition ℓ) f k p e c at s ≡ Fault 3 p
      go zero = ap (λ (g : Reader One). g c at s) (skip (eqb e 0x43) _ _ t refl) ∙ x p c at s
      go (suc k) = ap (λ (g : Reader One). g c at s) (skip (eqb e 0x43) _ _ t refl) ∙ x p c at s

  pub value_shut : (d : ℕ) → Shut (value_from ρ ℓ d) 0x5a
  unfolding value_from
  value_shut zero = defs_shut (plain_from ρ ℓ none) 0x5a tt (plain_shut none 0x5a singles.of_end no_scalar.0)
  value_shut (suc d) = defs_shut (plain_from ρ ℓ (some (value_from ρ ℓ d))) 0x5a tt
      (plain_shut (some (value_from ρ ℓ d)) 0x5a singles.of_end no_scalar.0)

  -- a value of the grammar is read
  pub value_makes : (d : ℕ) → Makers (value_from ρ ℓ d) (ValueForm ρ ℓ d)
  unfolding value_from
  value_makes zero = preceded_by_makes 0x43 (definition ℓ) (plain_from ρ ℓ none) (DefinitionForm ℓ)
      (PlainForm ρ ℓ false Nowhere) definition_makes (plain_makes none false Nowhere (λ t. t))
      (plain_shut none 0x43 singles.of_definition no_scalar.1)
  value_makes (suc d) = preceded_by_makes 0x43 (definition ℓ) (plain_from ρ ℓ (some (value_from ρ ℓ d))) (DefinitionForm ℓ)
      (PlainForm ρ ℓ true (ValueForm ρ ℓ d)) definition_makes
      (plain_makes (some (value_from ρ ℓ d)) true (ValueForm ρ ℓ d) (value_makes d, value_shut d))
      (plain_shut (some (value_from ρ ℓ d)) 0x43 singles.of_definition no_scalar.1)

-- 2026-11: a message read in thousandths has the refusals, entries, places and spans of the main rule, but for the bits
-- of its doubles at 5f. One law a reader, as in Refusals.antt.
use Rattle.std.specs.Prelude.{◌≡◌, refl, List, [], ◌∷◌, ltb, length, drop, get_or}
use Rattle.std.proofs.Common.{sym, ap, ◌∙◌}
use Rattle.std.proofs.Math.Option.{Option, none, some}
use Prim.Native.Nat.{ℕ, zero, suc, ◌+◌, ◌^◌}
use Rattle.flow.specs.Flow.{Entry, Outcome, Done, Fault, One, headed}
use Rattle.flow.specs.Lifts.{lifted}
use Rattle.flow.specs.Steps.{renamed, top}
use Rattle.flow.specs.Retellings as tell
use Rattle.flow.specs.Retellings.{retold}
use Rattle.scalar.specs.Scalars.{Floats, Thousandths, Scalar, is_text, scalar_from}
use Rattle.scalar.proofs.UnderRules.{scalar_in_thousandths, int_lifts, text_lifts, scalar_lifts, scalar_in_thousandths_law}
use Rattle.record.specs.Model.Items.{Leaf, UntypedList, TypedList, UntypedMap, TypedMap, Object, Reference}
use Rattle.record.specs.Model.Items.{Item, Val, Definition, ClassName, FieldName, TypeName, TypeNumber}
use Rattle.record.specs.Model.Items.{Known, start, opened, typed, defined, Limits}
use Rattle.record.specs.Model.Containers.{pair}
use Rattle.record.specs.Model.Reading.{Reader, Opening, int, count, name, container, field_values, with_two}
use Rattle.record.specs.Model.Reading.{typed_list, typed_map, object_of, reference_to, type_number, type_name, type_from}
use Rattle.record.specs.Model.Reading.{with_type, ValueHead, leaf, few, few_of_type, few_fields, counted}
use Rattle.record.specs.Model.Reading.{counted_typed_head, open_list_head, open_typed_head, open_map, typed_map_head, object}
use Rattle.record.specs.Model.Reading.{reference, head_of, ending, plain_by, plain_from, definition, value_from}
use Rattle.record.specs.Model.Reading.{message}
use Rattle.record.proofs.Laws.ValueHeads.{plain_is}

-- ---- an item read at p by the main rule: what it is in thousandths
abbrev pub item_in_thousandths : List ℕ → ℕ → Item → Item
item_in_thousandths m p (Val (Leaf x)) = Val (Leaf (scalar_in_thousandths m p x))
item_in_thousandths m p (Val (UntypedList n)) = Val (UntypedList n)
item_in_thousandths m p (Val (TypedList n t)) = Val (TypedList n t)
item_in_thousandths m p (Val (UntypedMap n)) = Val (UntypedMap n)
item_in_thousandths m p (Val (TypedMap n t)) = Val (TypedMap n t)
item_in_thousandths m p (Val (Object k n)) = Val (Object k n)
item_in_thousandths m p (Val (Reference k)) = Val (Reference k)
item_in_thousandths m p (Definition n) = Definition n
item_in_thousandths m p (ClassName cs) = ClassName cs
item_in_thousandths m p (FieldName cs) = FieldName cs
item_in_thousandths m p (TypeName cs) = TypeName cs
item_in_thousandths m p (TypeNumber k) = TypeNumber k

abbrev pub entry_in_thousandths : List ℕ → Entry Item → Entry Item
entry_in_thousandths m e =
    record { place = e.place; span = e.span; item = item_in_thousandths m e.place e.item }

module _ (m : List ℕ) where
  abbrev φ : Entry Item → Entry Item
  φ = entry_in_thousandths m

  abbrev Retells : {A : Type 0} → ℕ → Reader A → Reader A → Type 0
  Retells at f g = tell.Retells φ m at f g

  -- a reader that is the same by both rules
  abbrev Same : {A : Type 0} → ℕ → Reader A → Type 0
  Same at f = Retells at f f

  abbrev RetellsFrom : {A : Type 0} → Opening A → Opening A → Type 0
  RetellsFrom f g = tell.RetellsFrom φ m f g

  -- ---- parts
  int_part : {A : Type 0} {f g : ℕ → ℕ → Reader A} → ((o n q : ℕ) → Retells q (f o n) (g o n)) → (at : ℕ)
      → Retells at (int f) (int g)
  int_part h at = tell.byte_retells φ m at (λ p b d.
      tell.bind_retells φ m (p + 1) (tell.lifts_retells φ m (p + 1) (λ c. int_lifts c p b)) (λ n q. h p n q))

  count_part : {A : Type 0} {f g : ℕ → ℕ → Reader A} → ((o n q : ℕ) → Retells q (f o n) (g o n)) → (at : ℕ)
      → Retells at (count f) (count g)
  count_part h at = int_part (λ o n q.
      tell.cond_retells φ m q (ltb n (2 ^ 63)) (h o n q) (tell.fail_retells φ m q 5 o)) at

  name_part : (x : List ℕ → Item) → ((cs : List ℕ) (p : ℕ) → item_in_thousandths m p (x cs) ≡ x cs) → (p b at : ℕ)
      → Same at (name x p b)
  name_part x fixed p b at = tell.headed_retells φ m at p x
      (λ cs k. ap (λ (i : Item). record { place = p; span = k; item = i }) (fixed cs p))
      (tell.lifts_retells φ m at (λ c. text_lifts c p b))

  number_part : (p k at : ℕ) → Same at (type_number p k)
  number_part p k at = tell.asking_retells φ m at (λ c. tell.cond_retells φ m at (ltb k c.types)
      (tell.mapped_retells φ m at (λ u. k) (tell.headed_retells φ m at p TypeNumber (λ a j. refl)
      (tell.give_retells φ m at k))) (tell.fail_retells φ m at 6 p))

  reference_part : (p k at : ℕ) → Same at (reference_to p k)
  reference_part p k at = tell.asking_retells φ m at (λ c. tell.cond_retells φ m at (ltb k c.references)
      (tell.give_retells φ m at k) (tell.fail_retells φ m at 6 p))

  fields_part : {f g : Opening One} → RetellsFrom f g → (p k at : ℕ)
      → Retells at (field_values f p k) (field_values g p k)
  fields_part h p k at = tell.asking_retells φ m at (λ c. let n = get_or c.classes k 0 in
      tell.cond_retells φ m at (ltb k (length c.classes))
      (tell.mapped_retells φ m at (λ u. n) (tell.many_retells φ m h n at)) (tell.fail_retells φ m at 6 p))

  pair_part : {f g : Opening One} → RetellsFrom f g → RetellsFrom (pair f) (pair g)
  pair_part h p b d = tell.bind_retells φ m (p + 1) (h p b d) (λ u q. tell.byte_retells φ m q h)

  ending_part : (at : ℕ) → Same at ending
  ending_part at = record { retells = λ c. go c (drop at m) }
    where
      go : (c : Known) (s : List ℕ) → ending c at s ≡ retold φ (ending c at s)
      go c [] = refl
      go c (b ∷ s) = refl

  abbrev RetellsBelow : Option (Opening One) → Option (Opening One) → Type 0
  RetellsBelow none none = Unit {0}
  RetellsBelow none (some g) = ⊥
  RetellsBelow (some f) none = ⊥
  RetellsBelow (some f) (some g) = RetellsFrom f g

  container_part : (f g : Option (Opening One)) → RetellsBelow f g → (p at : ℕ)
      → {x y : Opening One → Reader One} → ((f g : Opening One) → RetellsFrom f g → Retells at (x f) (y g))
      → Retells at (container f p x) (container g p y)
  container_part none none h p at k = tell.fail_retells φ m at 7 p
  container_part none (some g) h p at k = absurd h
  container_part (some f) none h p at k = absurd h
  container_part (some f) (some g) h p at k = tell.changing_retells φ m at opened (k f g h)

  module _ (ℓ : Limits) where
    type_name_part : (p b at : ℕ) → Same at (type_name ℓ p b)
    type_name_part p b at = tell.asking_retells φ m at (λ c. tell.cond_retells φ m at (ltb c.types ℓ.types)
        (tell.mapped_retells φ m at (λ u. c.types) (tell.changing_retells φ m at typed
        (name_part TypeName (λ cs p. refl) p b at))) (tell.fail_retells φ m at 7 p))

    type_part : {A : Type 0} {f g : ℕ → Reader A} → ((t q : ℕ) → Retells q (f t) (g t)) → (at : ℕ)
        → Retells at (with_type ℓ f) (with_type ℓ g)
    unfolding type_from
    type_part h at = tell.bind_retells φ m at (tell.byte_retells φ m at (λ p b d.
        tell.cond_retells φ m (p + 1) (is_text b) (type_name_part p b (p + 1))
        (tell.bind_retells φ m (p + 1) (tell.lifts_retells φ m (p + 1) (λ c. int_lifts c p b))
        (λ k q. number_part p k q)))) h

    -- ---- values
    leaf_part : (p b : ℕ) → get_or m p 0 ≡ b → Retells (p + 1)
        (headed p (λ x. Val (Leaf x)) (scalar_from Floats p b))
        (headed p (λ x. Val (Leaf x)) (scalar_from Thousandths p b))
    leaf_part p b d = record {
      retells = λ c.
          let l = (scalar_lifts {I = Item} Floats c p b).lifts (p + 1) (drop (p + 1) m) in
          ap (top p (λ x. Val (Leaf x)))
          (scalar_in_thousandths_law m p b d c ∙ ap (renamed (scalar_in_thousandths m p)) l)
          ∙ go c (scalar_from Floats p b tt (p + 1) (drop (p + 1) m))
          ∙ ap (λ (o : Outcome Known Item Scalar). retold φ (top p (λ x. Val (Leaf x)) o)) (sym l);
    }
      where
        go : (c : Known) (o : Outcome One One Scalar)
            → top p (λ x. Val (Leaf x)) (renamed (scalar_in_thousandths m p) (lifted {I = Item} c o))
            ≡ retold φ (top p (λ x. Val (Leaf x)) (lifted c o))
        go c (Done n x es u) = refl
        go c (Fault x o) = refl

    module _ (below other : Option (Opening One)) (h : RetellsBelow below other) where
      abbrev Plain : ValueHead → Type 0
      Plain x = RetellsFrom (plain_by Floats ℓ below x) (plain_by Thousandths ℓ other x)

      within : (p : ℕ) {x y : Opening One → Reader One}
          → ((f g : Opening One) → RetellsFrom f g → Retells (p + 1) (x f) (y g))
          → Retells (p + 1) (container below p x) (container other p y)
      within p k = container_part below other h p (p + 1) k

      headed_part : {A : Type 0} (p : ℕ) (x : A → Item)
          → ((a : A) → item_in_thousandths m p (x a) ≡ x a) → {f g : Reader A} → Retells (p + 1) f g
          → Retells (p + 1) (headed p x f) (headed p x g)
      headed_part p x fixed k = tell.headed_retells φ m (p + 1) p x
          (λ a j. ap (λ (i : Item). record { place = p; span = j; item = i }) (fixed a)) k

      plain_part : (x : ValueHead) → Plain x
      unfolding plain_by
      plain_part leaf p b d = leaf_part p b d
      plain_part (few n) p b d = within p (λ f g k.
          headed_part p (λ u. Val (UntypedList n)) (λ u. refl) (tell.many_retells φ m k n (p + 1)))
      plain_part (few_of_type n) p b d = within p (λ f g k.
          headed_part p (λ t. Val (TypedList n t)) (λ t. refl) (type_part (λ t q.
          tell.mapped_retells φ m q (λ u. t) (tell.many_retells φ m k n q)) (p + 1)))
      plain_part (few_fields i) p b d = within p (λ f g k.
          headed_part p (λ n. Val (Object i n)) (λ n. refl) (fields_part k p i (p + 1)))
      plain_part counted p b d = within p (λ f g k.
          headed_part p (λ n. Val (UntypedList n)) (λ n. refl) (count_part (λ o n q.
          tell.mapped_retells φ m q (λ u. n) (tell.many_retells φ m k n q)) (p + 1)))
      plain_part counted_typed_head p b d = within p (λ f g k.
          headed_part p typed_list (λ x. refl) (type_part (λ t q. count_part (λ o n r.
          tell.mapped_retells φ m r (λ u. with_two t n) (tell.many_retells φ m k n r)) q) (p + 1)))
      plain_part open_list_head p b d = within p (λ f g k.
          headed_part p (λ n. Val (UntypedList n)) (λ n. refl) (tell.end_retells φ m 0x5a k (p + 1)))
      plain_part open_typed_head p b d = within p (λ f g k.
          headed_part p typed_list (λ x. refl) (type_part (λ t q.
          tell.mapped_retells φ m q (with_two t) (tell.end_retells φ m 0x5a k q)) (p + 1)))
      plain_part open_map p b d = within p (λ f g k.
          headed_part p (λ n. Val (UntypedMap n)) (λ n. refl) (tell.end_retells φ m 0x5a (pair_part k) (p + 1)))
      plain_part typed_map_head p b d = within p (λ f g k.
          headed_part p typed_map (λ x. refl) (type_part (λ t q.
          tell.mapped_retells φ m q (with_two t) (tell.end_retells φ m 0x5a (pair_part k) q)) (p + 1)))
      plain_part object p b d = within p (λ f g k.
          headed_part p object_of (λ x. refl) (int_part (λ o i q.
          tell.mapped_retells φ m q (with_two i) (fields_part k p i q)) (p + 1)))
      plain_part reference p b d =
          headed_part p (λ k. Val (Reference k)) (λ k. refl) (int_part (λ o k q. reference_part p k q) (p + 1))

      from_part : RetellsFrom (plain_from Floats ℓ below) (plain_from Thousandths ℓ other)
      from_part p b d =
          rw (plain_is Floats ℓ below p b, plain_is Thousandths ℓ other p b) (plain_part (head_of b) p b d)

    definition_part : (p at : ℕ) → Same at (definition ℓ p)
    unfolding definition
    definition_part p at = tell.asking_retells φ m at (λ c.
        tell.cond_retells φ m at (ltb (length c.classes) ℓ.classes)
        (tell.headed_retells φ m at p Definition (λ a k. refl)
        (tell.bind_retells φ m at (tell.byte_retells φ m at (λ q b d. name_part ClassName (λ cs p. refl) q b (q + 1)))
        (λ u q. count_part (λ o n r. tell.cond_retells φ m r (ltb ℓ.fields n) (tell.fail_retells φ m r 7 o)
        (tell.bind_retells φ m r
        (tell.many_retells φ m (λ q b d. name_part FieldName (λ cs p. refl) q b (q + 1)) n r)
        (λ u v. tell.changing_retells φ m v (defined n) (tell.give_retells φ m v n)))) q)))
        (tell.fail_retells φ m at 7 p))

    value_part : (d : ℕ) → RetellsFrom (value_from Floats ℓ d) (value_from Thousandths ℓ d)
    unfolding value_from
    value_part zero = tell.preceded_by_retells φ m 0x43 definition_part (from_part none none tt)
    value_part (suc d) = tell.preceded_by_retells φ m 0x43 definition_part
        (from_part (some (value_from Floats ℓ d)) (some (value_from Thousandths ℓ d)) (value_part d))

    message_part : Retells 0 (message Floats ℓ) (message Thousandths ℓ)
    unfolding message
    message_part = tell.bind_retells φ m 0 (tell.byte_retells φ m 0 (value_part ℓ.containers)) (λ u q. ending_part q)

    pub message_in_thousandths : message Thousandths ℓ start 0 m
        ≡ retold (entry_in_thousandths m) (message Floats ℓ start 0 m)
    message_in_thousandths = message_part.retells start

-- A message that is not read is refused with 2 at its end, or with one of 3 to 8 before it. So no number that only
-- bounds a recursion of the definitions runs out before the message does.
use Rattle.std.specs.Prelude.{◌≡◌, refl, List, [], ◌∷◌, ltb, length, get_or}
use Rattle.std.proofs.Common.{subst, arith}
use Rattle.std.proofs.Math.Option.{Option, none, some}
use Prim.Native.Nat.{ℕ, zero, suc, ◌+◌, ◌^◌, ◌≤◌, ◌<◌}
use Rattle.flow.specs.RefusalNumbers.{cut, wrong_byte, not_utf8, negative, ungiven, over_ceiling, bytes_after}
use Rattle.flow.specs.Flow.{Fault, One, fail}
use Rattle.flow.specs.Refusals as tell
use Rattle.flow.specs.Refusals.{Told, give_tells, fail_tells, asking_tells, changing_tells, cond_tells, mapped_tells}
use Rattle.flow.specs.Refusals.{headed_tells, bind_tells, byte_tells, many_tells, end_tells, preceded_by_tells}
use Rattle.scalar.specs.Scalars.{is_text}
use Rattle.scalar.proofs.RefusalLaws as scalar
use Rattle.scalar.specs.Scalars.{DoubleRule}
use Rattle.record.specs.Model.Items.{Leaf, UntypedList, TypedList, UntypedMap, Reference, Object, Item, Val}
use Rattle.record.specs.Model.Items.{Definition, ClassName, FieldName, TypeName, TypeNumber, Known, start}
use Rattle.record.specs.Model.Items.{opened, typed, defined, Limits}
use Rattle.record.specs.Model.Reading.{Reader, Opening, int, count, name, container, field_values, type_from}
use Rattle.record.specs.Model.Reading.{with_type, plain_from, definition, value_from, message}
use Rattle.record.specs.Model.Reading.{with_two, typed_list, typed_map, object_of, type_number, reference_to, type_name}
use Rattle.record.specs.Model.Reading.{ending, plain_by}
use Rattle.record.specs.Model.Reading.{ValueHead, leaf, few, few_of_type, few_fields, counted, counted_typed_head}
use Rattle.record.specs.Model.Reading.{open_list_head, open_typed_head, open_map, typed_map_head, object, reference, head_of}
use Rattle.record.specs.Model.Containers.{pair}
use Rattle.record.proofs.Laws.ValueHeads.{plain_is}

-- a refusal, by number and place, of a message that ends at `end`
pub data Located (end : ℕ) : ℕ → ℕ → Type 0 where
  at_end : Located end cut end
  before_end : {x o : ℕ} → wrong_byte ≤ x → x ≤ bytes_after → o < end → Located end x o

abbrev pub Numbered : ℕ → Type 0
Numbered x = (cut ≤ x) × (x ≤ bytes_after)

pub located_numbered : {end x o : ℕ} → Located end x o → Numbered x
located_numbered at_end = (omega arith, omega arith)
located_numbered (before_end l h m) = (omega arith, h)

pub located_within : {end x o : ℕ} → Located end x o → o ≤ end
located_within at_end = omega arith
located_within (before_end l h m) = omega arith

located_cut : {end x o : ℕ} → x ≡ cut → Located end x o → o ≡ end
located_cut e at_end = refl
located_cut e (before_end l h m) = absurd (omega arith)

-- ---- the refusals that scalars give before the end
module _ {end : ℕ} (o : ℕ) (m : o < end) where
  wrong : Located end wrong_byte o
  wrong = before_end {x = wrong_byte} (omega arith) (omega arith) m

  ill : Located end not_utf8 o
  ill = before_end {x = not_utf8} (omega arith) (omega arith) m

module _ (end bound : ℕ) where
  abbrev Tells : {A : Type 0} → Reader A → Type 0
  Tells f = tell.Tells (Located end) end bound f

  abbrev TellsFrom : {A : Type 0} → Opening A → Type 0
  TellsFrom f = tell.TellsFrom (Located end) end bound f

  -- ---- the others
  module _ {A : Type 0} (p : ℕ) (m : p < end) where
    negative_part : Tells {A = A} (fail negative p)
    negative_part = fail_tells (before_end (omega arith) (omega arith) m)

    ungiven_part : Tells {A = A} (fail ungiven p)
    ungiven_part = fail_tells (before_end (omega arith) (omega arith) m)

    ceiling_part : Tells {A = A} (fail over_ceiling p)
    ceiling_part = fail_tells (before_end (omega arith) (omega arith) m)

  -- ---- parts
  int_part : {A : Type 0} {g : ℕ → ℕ → Reader A} → ((o : ℕ) → o < end → (n : ℕ) → Tells (g o n)) → Tells (int g)
  int_part h = byte_tells at_end (λ p b m. bind_tells (scalar.int_tells at_end wrong ill p b m) (h p m))

  count_part : {A : Type 0} {g : ℕ → ℕ → Reader A} → ((o : ℕ) → o < end → (n : ℕ) → Tells (g o n)) → Tells (count g)
  count_part h = int_part (λ o m n. cond_tells (ltb n (2 ^ 63)) (h o m n) (negative_part o m))

  name_part : (x : List ℕ → Item) → TellsFrom (name x)
  name_part x p b m = headed_tells p x (scalar.text_tells at_end wrong ill p b m)

  number_part : (p : ℕ) → p < end → (k : ℕ) → Tells (type_number p k)
  number_part p m k = asking_tells (λ c. cond_tells (ltb k c.types)
      (mapped_tells (λ u. k) (headed_tells p TypeNumber (give_tells k))) (ungiven_part p m))

  reference_part : (p : ℕ) → p < end → (k : ℕ) → Tells (reference_to p k)
  reference_part p m k = asking_tells (λ c. cond_tells (ltb k c.references) (give_tells k) (ungiven_part p m))

  fields_part : {f : Opening One} → TellsFrom f → (p : ℕ) → p < end → (k : ℕ) → Tells (field_values f p k)
  fields_part h p m k = asking_tells (λ c. let n = get_or c.classes k 0 in
      cond_tells (ltb k (length c.classes)) (mapped_tells (λ u. n) (many_tells at_end h n)) (ungiven_part p m))

  pair_part : {f : Opening One} → TellsFrom f → TellsFrom (pair f)
  pair_part h p b m = bind_tells (h p b m) (λ u. byte_tells at_end h)

  ending_part : Tells ending
  ending_part = record { tells = go }
    where
      go : (c : Known) (at : ℕ) (s : List ℕ) → at + length s ≡ end → length s ≤ bound
          → Told (Located end) s (ending c at s)
      go c at [] e i = omega arith
      go c at (b ∷ s) e i = before_end {x = bytes_after} {o = at} (omega arith) (omega arith) (omega arith)

  abbrev TellsBelow : Option (Opening One) → Type 0
  TellsBelow none = Unit {0}
  TellsBelow (some f) = TellsFrom f

  container_part : (below : Option (Opening One)) → TellsBelow below → (p : ℕ) → p < end
      → {body : Opening One → Reader One} → ((f : Opening One) → TellsFrom f → Tells (body f))
      → Tells (container below p body)
  container_part none h p m k = ceiling_part p m
  container_part (some f) h p m k = changing_tells opened (k f h)

  module _ (ρ : DoubleRule) (ℓ : Limits) where
    type_name_part : TellsFrom (type_name ℓ)
    type_name_part p b m = asking_tells (λ c. cond_tells (ltb c.types ℓ.types)
        (mapped_tells (λ u. c.types) (changing_tells typed (name_part TypeName p b m))) (ceiling_part p m))

    type_part : {A : Type 0} {g : ℕ → Reader A} → ((t : ℕ) → Tells (g t)) → Tells (with_type ℓ g)
    unfolding type_from
    type_part h = bind_tells (byte_tells at_end (λ p b m. cond_tells (is_text b) (type_name_part p b m)
        (bind_tells (scalar.int_tells at_end wrong ill p b m) (number_part p m)))) h

    -- ---- values
    plain_part : (below : Option (Opening One)) → TellsBelow below → (x : ValueHead) → TellsFrom (plain_by ρ ℓ below x)
    unfolding plain_by
    plain_part below h leaf p b m = headed_tells p (λ x. Val (Leaf x)) (scalar.scalar_tells at_end wrong ill ρ p b m)
    plain_part below h (few n) p b m = container_part below h p m (λ f k.
        headed_tells p (λ u. Val (UntypedList n)) (many_tells at_end k n))
    plain_part below h (few_of_type n) p b m = container_part below h p m (λ f k.
        headed_tells p (λ t. Val (TypedList n t)) (type_part (λ t. mapped_tells (λ u. t) (many_tells at_end k n))))
    plain_part below h (few_fields i) p b m = container_part below h p m (λ f k.
        headed_tells p (λ n. Val (Object i n)) (fields_part k p m i))
    plain_part below h counted p b m = container_part below h p m (λ f k.
        headed_tells p (λ n. Val (UntypedList n)) (count_part (λ o q n. mapped_tells (λ u. n) (many_tells at_end k n))))
    plain_part below h counted_typed_head p b m = container_part below h p m (λ f k.
        headed_tells p typed_list (type_part (λ t.
        count_part (λ o q n. mapped_tells (λ u. with_two t n) (many_tells at_end k n)))))
    plain_part below h open_list_head p b m = container_part below h p m (λ f k.
        headed_tells p (λ n. Val (UntypedList n)) (end_tells at_end 0x5a k))
    plain_part below h open_typed_head p b m = container_part below h p m (λ f k.
        headed_tells p typed_list (type_part (λ t. mapped_tells (with_two t) (end_tells at_end 0x5a k))))
    plain_part below h open_map p b m = container_part below h p m (λ f k.
        headed_tells p (λ n. Val (UntypedMap n)) (end_tells at_end 0x5a (pair_part k)))
    plain_part below h typed_map_head p b m = container_part below h p m (λ f k.
        headed_tells p typed_map (type_part (λ t. mapped_tells (with_two t) (end_tells at_end 0x5a (pair_part k)))))
    plain_part below h object p b m = container_part below h p m (λ f k.
        headed_tells p object_of (int_part (λ o q i. mapped_tells (with_two i) (fields_part k p m i))))
    plain_part below h reference p b m =
        headed_tells p (λ k. Val (Reference k)) (int_part (λ o q. reference_part p m))

    definition_part : (p : ℕ) → p < end → Tells (definition ℓ p)
    unfolding definition
    definition_part p m = asking_tells (λ c. cond_tells (ltb (length c.classes) ℓ.classes)
        (headed_tells p Definition (bind_tells (byte_tells at_end (name_part ClassName)) (λ u.
        count_part (λ o q n. cond_tells (ltb ℓ.fields n) (ceiling_part o q)
        (bind_tells (many_tells at_end (name_part FieldName) n) (λ u. changing_tells (defined n) (give_tells n)))))))
        (ceiling_part p m))

    from_part : (below : Option (Opening One)) → TellsBelow below → TellsFrom (plain_from ρ ℓ below)
    from_part below h p b = rw (plain_is ρ ℓ below p b) (plain_part below h (head_of b) p b)

    value_part : (d : ℕ) → TellsFrom (value_from ρ ℓ d)
    unfolding value_from
    value_part zero = preceded_by_tells at_end 0x43 definition_part (from_part none tt)
    value_part (suc d) = preceded_by_tells at_end 0x43 definition_part
        (from_part (some (value_from ρ ℓ d)) (value_part d))

    message_tells : Tells (message ρ ℓ)
    unfolding message
    message_tells = bind_tells (byte_tells at_end (value_part ℓ.containers)) (λ u. ending_part)

-- how far a message that is neither empty nor too long is read, or where it is refused
pub message_within : (ρ : DoubleRule) (ℓ : Limits) (m : List ℕ) → Told (Located (length m)) m (message ρ ℓ start 0 m)
message_within ρ ℓ m = (message_tells (length m) (length m) ρ ℓ).tells start 0 m (omega arith) (omega arith)

pub message_located : (ρ : DoubleRule) (ℓ : Limits) (x o : ℕ) (m : List ℕ) → message ρ ℓ start 0 m ≡ Fault x o
    → Located (length m) x o
message_located ρ ℓ x o m e = subst (Told (Located (length m)) m) e (message_within ρ ℓ m)

pub message_numbered : (ρ : DoubleRule) (ℓ : Limits) (x o : ℕ) (m : List ℕ) → message ρ ℓ start 0 m ≡ Fault x o
    → Numbered x
message_numbered ρ ℓ x o m e = located_numbered (message_located ρ ℓ x o m e)

pub message_cut : (ρ : DoubleRule) (ℓ : Limits) (o : ℕ) (m : List ℕ) → message ρ ℓ start 0 m ≡ Fault cut o
    → o ≡ length m
message_cut ρ ℓ o m e = located_cut refl (message_located ρ ℓ cut o m e)

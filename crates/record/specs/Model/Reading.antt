-- What a message reads as: items with their places, or the first refusal from left to right.
use mathlib.Core.{Bool.cond, List.List, List.[], List.◌∷◌, Option.Option, Option.none, Option.some}
use Rattle.std.specs.Prelude.{ℕ, zero, suc, ◌-◌, ◌^◌}
use lib.{Dec.ltb, Dec.eqb, ListN.length}
use Rattle.flow.specs.RefusalNumbers.{negative, ungiven, over_ceiling, bytes_after}
use Rattle.flow.specs.Flow.{pick, within, Done, Fault, Read, From, One, give, fail, byte_at, changing, asking, mapped}
use Rattle.flow.specs.Flow.{headed, bind, after, many, until_end, preceded_by}
use Rattle.scalar.specs.Scalars.{DoubleRule, is_text, scalar_from, int_from, text_from}
use Rattle.record.specs.Model.Items.{Leaf, UntypedList, TypedList, UntypedMap, TypedMap, Object, Reference}
use Rattle.record.specs.Model.Items.{Item, Val, Definition, ClassName, FieldName, TypeName, TypeNumber}
use Rattle.record.specs.Model.Items.{Known, opened, typed, defined, Limits}
use Rattle.record.specs.Model.Containers.{container_of, pair, field_values_of}

abbrev pub Reader : Type 0 → Type 0
Reader A = Read Known Item A

-- a reader after a first byte
abbrev pub Opening : Type 0 → Type 0
Opening A = From Known Item A

-- an int, and then what its first byte's place and its value say
abbrev pub int : {A : Type 0} → (ℕ → ℕ → Reader A) → Reader A
int g = byte_at (λ p b. bind (int_from p b) (g p))

-- a count: a negative one is refusal 5 at its first byte
abbrev pub count : {A : Type 0} → (ℕ → ℕ → Reader A) → Reader A
count g = int (λ o n. cond (ltb n (2 ^ 63)) (g o n) (fail negative o))

-- a text, as the item x
abbrev pub name : (List ℕ → Item) → Opening One
name x p b = headed p x (text_from p b)

-- a list, map or object gets the next reference number
abbrev pub container : Option (Opening One) → ℕ → (Opening One → Reader One) → Reader One
container = container_of opened

-- the fields of an object
abbrev pub field_values : Opening One → ℕ → ℕ → Reader ℕ
field_values = field_values_of (λ (c : Known). c.classes)

-- two results; and items of two
abbrev pub Two : Type 0
Two = ℕ × ℕ

abbrev pub with_two : ℕ → ℕ → Two
with_two a b = (a, b)

-- of a type number and a count
abbrev pub typed_list : Two → Item
typed_list x = Val (TypedList x.1 x.0)

abbrev pub typed_map : Two → Item
typed_map x = Val (TypedMap x.1 x.0)

-- of a class number and how many fields
abbrev pub object_of : Two → Item
object_of x = Val (Object x.0 x.1)

-- the reference number k, of the reference at p: an ungiven one is refusal 6 there
abbrev pub reference_to : ℕ → ℕ → Reader ℕ
reference_to p k = asking (λ c. cond (ltb k c.references) (give k) (fail ungiven p))

-- the type of number k, whose int stands at p: an ungiven one is refusal 6 there
abbrev pub type_number : ℕ → ℕ → Reader ℕ
type_number p k = asking (λ c. cond (ltb k c.types)
    (mapped (λ u. k) (headed p TypeNumber (give k)))
    (fail ungiven p))

-- a type name after its first byte b, at p, and the number that it gets, the next one: one too many is refusal 7 at p
abbrev pub type_name : Limits → Opening ℕ
type_name ℓ p b = asking (λ c. cond (ltb c.types ℓ.types)
    (mapped (λ u. c.types) (changing typed (name TypeName p b)))
    (fail over_ceiling p))

-- a type, and its number: a text is a name written out, an int names one
unfoldable pub type_from : Limits → Opening ℕ
type_from ℓ p b = cond (is_text b) (type_name ℓ p b) (bind (int_from p b) (type_number p))

-- a type, and then what its number says
abbrev pub with_type : Limits → {A : Type 0} → (ℕ → Reader A) → Reader A
with_type ℓ g = bind (byte_at (type_from ℓ)) g

-- ---- a value with no definition before it
-- what its first byte opens
pub data ValueHead : Type 0 where
  leaf : ValueHead  -- a scalar, or what opens nothing
  few few_of_type few_fields : ℕ → ValueHead  -- a list of n elements, untyped and typed; an object of class k
  counted counted_typed_head : ValueHead  -- a count follows
  open_list_head open_typed_head open_map typed_map_head : ValueHead  -- up to 5a
  object reference : ValueHead  -- an int follows: the class, the reference number

-- the containers and the reference of 01's table of first bytes, in its order; else a leaf: 5a, the reserved bytes, and
-- 43, which the definitions before a value take, are no scalar's, and so refusal 3
unfoldable pub head_of : ℕ → ValueHead
head_of b =
    pick (within 0x70 0x78 b) (few_of_type (b - 0x70))
    (pick (eqb b 0x56) counted_typed_head
    (pick (eqb b 0x55) open_typed_head
    (pick (within 0x78 0x80 b) (few (b - 0x78))
    (pick (eqb b 0x58) counted
    (pick (eqb b 0x57) open_list_head
    (pick (eqb b 0x4d) typed_map_head
    (pick (eqb b 0x48) open_map
    (pick (within 0x60 0x70 b) (few_fields (b - 0x60))
    (pick (eqb b 0x4f) object
    (pick (eqb b 0x51) reference leaf))))))))))

-- each of them after its code, at p; `below` reads the values in it, where one more container may open
module _ (ℓ : Limits) (below : Option (Opening One)) (p : ℕ) where
  -- 70-77 type
  abbrev pub few_typed : ℕ → Reader One
  few_typed n = container below p (λ f.
      headed p (λ t. Val (TypedList n t)) (with_type ℓ (λ t. mapped (λ u. t) (many f n))))

  -- 56 type int
  abbrev pub counted_typed : Reader One
  counted_typed = container below p (λ f.
      headed p typed_list (with_type ℓ (λ t. count (λ o n. mapped (λ u. with_two t n) (many f n)))))

  -- 55 type .. 5a
  abbrev pub open_typed : Reader One
  open_typed = container below p (λ f.
      headed p typed_list (with_type ℓ (λ t. mapped (with_two t) (until_end 0x5a f))))

  -- 78-7f
  abbrev pub few_untyped : ℕ → Reader One
  few_untyped n = container below p (λ f. headed p (λ u. Val (UntypedList n)) (many f n))

  -- 58 int
  abbrev pub counted_untyped : Reader One
  counted_untyped = container below p (λ f.
      headed p (λ n. Val (UntypedList n)) (count (λ o n. mapped (λ u. n) (many f n))))

  -- 57 .. 5a
  abbrev pub open_untyped : Reader One
  open_untyped = container below p (λ f. headed p (λ n. Val (UntypedList n)) (until_end 0x5a f))

  -- 4d type .. 5a
  abbrev pub map_of_type : Reader One
  map_of_type = container below p (λ f.
      headed p typed_map (with_type ℓ (λ t. mapped (with_two t) (until_end 0x5a (pair f)))))

  -- 48 .. 5a
  abbrev pub untyped_map : Reader One
  untyped_map = container below p (λ f. headed p (λ n. Val (UntypedMap n)) (until_end 0x5a (pair f)))

  -- 60-6f
  abbrev pub few_object : ℕ → Reader One
  few_object k = container below p (λ f. headed p (λ n. Val (Object k n)) (field_values f p k))

  -- 4f int
  abbrev pub any_object : Reader One
  any_object = container below p (λ f. headed p object_of (int (λ o k. mapped (with_two k) (field_values f p k))))

  -- 51 int
  abbrev pub reference_from : Reader One
  reference_from = headed p (λ k. Val (Reference k)) (int (λ o. reference_to p))

  -- any other first byte b; ρ: the rule of 5f
  abbrev pub leaf_from : DoubleRule → ℕ → Reader One
  leaf_from ρ b = headed p (λ x. Val (Leaf x)) (scalar_from ρ p b)

-- nothing after the record: a byte there is refusal 8
abbrev pub ending : Reader One
ending c at s = elim s [ [] ↦ Done 0 tt [] c | b ∷ t ↦ Fault bytes_after at ]

-- ---- class definitions
module _ (ℓ : Limits) where
  -- the field names of a class, whose count n stands at o: too many are refusal 7 there. The class number is given
  -- when they are read
  abbrev pub field_names : ℕ → ℕ → Reader ℕ
  field_names o n = cond (ltb ℓ.fields n) (fail over_ceiling o)
      (after (many (name FieldName) n) (changing (defined n) (give n)))

  -- a class definition, after its 43, at p: one too many is refusal 7 there
  unfoldable pub definition : ℕ → Reader One
  definition p = asking (λ c. cond (ltb (length c.classes) ℓ.classes)
      (headed p Definition (after (byte_at (name ClassName)) (count field_names)))
      (fail over_ceiling p))

-- ---- messages, by the rule of 5f
module _ (ρ : DoubleRule) (ℓ : Limits) where
  -- a value with no definition before it, by its head, after its first byte b, at p
  unfoldable pub plain_by : Option (Opening One) → ValueHead → Opening One
  plain_by below (few_of_type n) p b = few_typed ℓ below p n
  plain_by below counted_typed_head p b = counted_typed ℓ below p
  plain_by below open_typed_head p b = open_typed ℓ below p
  plain_by below (few n) p b = few_untyped ℓ below p n
  plain_by below counted p b = counted_untyped ℓ below p
  plain_by below open_list_head p b = open_untyped ℓ below p
  plain_by below typed_map_head p b = map_of_type ℓ below p
  plain_by below open_map p b = untyped_map ℓ below p
  plain_by below (few_fields k) p b = few_object ℓ below p k
  plain_by below object p b = any_object ℓ below p
  plain_by below reference p b = reference_from ℓ below p
  plain_by below leaf p b = leaf_from ℓ below p ρ b

  unfoldable pub plain_from : Option (Opening One) → Opening One
  plain_from below p b = plain_by below (head_of b) p b

  -- any number of class definitions, and then a value; `allowance` more containers may open
  unfoldable pub value_from : (allowance : ℕ) → Opening One
  value_from zero = preceded_by 0x43 (definition ℓ) (plain_from none)
  value_from (suc d) = preceded_by 0x43 (definition ℓ) (plain_from (some (value_from d)))

  -- a message: one record, and nothing after it
  unfoldable pub message : Reader One
  message = after (byte_at (value_from ℓ.containers)) ending

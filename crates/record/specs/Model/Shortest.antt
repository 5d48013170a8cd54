-- The shortest message of a record. It mirrors the reading: each function takes the first of the items, and says the
-- bytes they are written as.
use mathlib.Core.{Bool.Bool, Bool.cond, Bool.◌&&◌, List.List, List.[], List.◌∷◌, List.◌++◌}
use Rattle.std.proofs.Math.Option.{Option, none, some}
use Rattle.std.specs.Prelude.{ℕ, zero, suc, ◌+◌, ◌^◌}
use lib.{Dec.ltb, Dec.eqb, Dec.leb, ListN.length, ListN.get_or}
use Rattle.flow.specs.Flow.{on_some}
use Rattle.scalar.specs.Scalars.{shortest_scalar, shortest_int, shortest_text}
use Rattle.record.specs.Model.Items.{Value, Leaf, UntypedList, TypedList, UntypedMap, TypedMap, Object, Reference}
use Rattle.record.specs.Model.Items.{Item, Val, Definition, ClassName, FieldName, TypeName, TypeNumber}
use Rattle.record.specs.Model.Items.{Known, start, opened, typed, defined, Limits}

-- the bytes, the items that are left, what is known then; or the items are no record
pub data Spelling : Type 0 where
  Spelled : List ℕ → List Item → Known → Spelling
  NoRecord : Spelling

-- by what is known and the items left
abbrev pub Put : Type 0
Put = Known → List Item → Spelling

-- where items are spelled, what follows
abbrev pub on_spelled : Spelling → (List ℕ → List Item → Known → Spelling) → Spelling
on_spelled o k = elim o [ Spelled w r c ↦ k w r c | NoRecord ↦ NoRecord ]

-- bytes before what is written
abbrev pub prefixed : List ℕ → Spelling → Spelling
prefixed front o = on_spelled o (λ w r c. Spelled (front ++ w) r c)

-- one after the other
abbrev pub put_then : Put → Put → Put
put_then f g c r = on_spelled (f c r) (λ w r' c'. prefixed w (g c' r'))

-- n of them
abbrev pub put_many : Put → ℕ → Put
put_many f zero c r = Spelled [] r c
put_many f (suc n) c r = put_then f (put_many f n) c r

-- bytes that stand for no item of their own
abbrev pub put_bytes : Option (List ℕ) → Put
put_bytes o c r = elim o [ none ↦ NoRecord | some w ↦ Spelled w r c ]

abbrev pub put_code : ℕ → Put
put_code b = put_bytes (some (b ∷ []))

-- the byte b, and then bytes, if there are any
abbrev pub code_then : ℕ → Option (List ℕ) → Option (List ℕ)
code_then b o = on_some (λ w. some (b ∷ w)) o

-- where the test holds
abbrev pub put_if : Bool → Put → Put
put_if t g = cond t g (λ c r. NoRecord)

-- by the first item, if it is of the kind sought
abbrev pub put_item : {A : Type 0} → (Item → Option A) → (A → Put) → Put
put_item part k c [] = NoRecord
put_item part k c (x ∷ r) = elim (part x) [ none ↦ NoRecord | some a ↦ k a c r ]

-- a value, if the item is one; a class definition's number of fields; a class name; a field name
abbrev pub value? : Item → Option Value
value? (Val v) = some v
value? (Definition n) = none
value? (ClassName cs) = none
value? (FieldName cs) = none
value? (TypeName cs) = none
value? (TypeNumber k) = none

abbrev pub definition? : Item → Option ℕ
definition? (Val v) = none
definition? (Definition n) = some n
definition? (ClassName cs) = none
definition? (FieldName cs) = none
definition? (TypeName cs) = none
definition? (TypeNumber k) = none

abbrev pub class_name? : Item → Option (List ℕ)
class_name? (Val v) = none
class_name? (Definition n) = none
class_name? (ClassName cs) = some cs
class_name? (FieldName cs) = none
class_name? (TypeName cs) = none
class_name? (TypeNumber k) = none

abbrev pub field_name? : Item → Option (List ℕ)
field_name? (Val v) = none
field_name? (Definition n) = none
field_name? (ClassName cs) = none
field_name? (FieldName cs) = some cs
field_name? (TypeName cs) = none
field_name? (TypeNumber k) = none

-- a name in its shortest form
abbrev pub put_name : (Item → Option (List ℕ)) → Put
put_name part = put_item part (λ cs. put_bytes (shortest_text cs))

-- the open form of the code b, with 5a
abbrev pub put_open : ℕ → Put → Put → Put
put_open b q body = put_then (put_code b) (put_then q (put_then body (put_code 0x5a)))

-- a list of n elements, q its type, if it has one: the one-byte form up to 7, the counted form, from open_from on the
-- open form with 5a
abbrev pub put_list : ℕ → ℕ → ℕ → ℕ → ℕ → Put → Put → Put
put_list open_from few counted opening n q body = cond (ltb n 8) (put_then (put_code (few + n)) (put_then q body))
    (cond (ltb n open_from) (put_then (put_code counted) (put_then q (put_then (put_bytes (shortest_int n)) body)))
    (put_open opening q body))

-- an object of class k: 60-6f for classes 0-15
unfoldable pub object_code : ℕ → Option (List ℕ)
object_code k = cond (ltb k 16) (some ((0x60 + k) ∷ [])) (code_then 0x4f (shortest_int k))

-- a list, map or object, where one more may open
abbrev pub put_container : Option Put → (Put → Put) → Put
put_container below body c r = elim below [ none ↦ NoRecord | some g ↦ body g (opened c) r ]

-- a class of n fields gets its number
abbrev pub put_defined : ℕ → Put
put_defined n c r = Spelled [] r (defined n c)

-- the bytes, where no item is left
abbrev pub complete : Spelling → Option (List ℕ)
complete o = elim o [ Spelled w l c ↦ elim l [ [] ↦ some w | x ∷ l ↦ none ] | NoRecord ↦ none ]

module _ (ℓ : Limits) where
  -- the type whose number is t: a name written out stays written out
  unfoldable pub put_type : ℕ → Put
  put_type t c [] = NoRecord
  put_type t c (Val v ∷ r) = NoRecord
  put_type t c (Definition n ∷ r) = NoRecord
  put_type t c (ClassName cs ∷ r) = NoRecord
  put_type t c (FieldName cs ∷ r) = NoRecord
  put_type t c (TypeName cs ∷ r) =
      put_if (eqb c.types t && ltb c.types ℓ.types) (λ c r. put_bytes (shortest_text cs) (typed c) r) c r
  put_type t c (TypeNumber k ∷ r) = put_if (eqb k t && ltb k c.types) (put_bytes (shortest_int k)) c r

  -- a class definition, which gets its number at its end
  unfoldable pub put_definition : Put
  put_definition = put_item definition? (λ n c r.
      put_if (ltb (length c.classes) ℓ.classes && (ltb n (2 ^ 63) && leb n ℓ.fields))
      (put_then (put_code 0x43) (put_then (put_name class_name?) (put_then (put_bytes (shortest_int n))
      (put_then (put_many (put_name field_name?) n) (put_defined n))))) c r)

  -- class definitions, and then a value. The number only bounds the recursion: a definition is at least an item
  abbrev pub put_preceded : ℕ → Put → Put
  put_preceded zero g c r = g c r
  put_preceded (suc k) g c [] = g c []
  put_preceded (suc k) g c (x ∷ r) =
      elim (definition? x) [ none ↦ g c (x ∷ r) | some n ↦ put_then put_definition (put_preceded k g) c (x ∷ r) ]

  -- class definitions, as many as there are, and then a value
  abbrev pub put_preceded_by : Put → Put
  put_preceded_by g c r = put_preceded (length r) g c r

module _ (ℓ : Limits) (open_from : ℕ) where
  -- a value with no definition before it, after its item; `below` puts the values in it, where one more container may
  -- open
  unfoldable pub put_plain_by : Option Put → Value → Put
  put_plain_by below (Leaf x) = put_bytes (shortest_scalar x)
  put_plain_by below (UntypedList n) =
      put_container below (λ g. put_list open_from 0x78 0x58 0x57 n (put_bytes (some [])) (put_many g n))
  put_plain_by below (TypedList n t) =
      put_container below (λ g. put_list open_from 0x70 0x56 0x55 n (put_type ℓ t) (put_many g n))
  put_plain_by below (UntypedMap n) =
      put_container below (λ g. put_open 0x48 (put_bytes (some [])) (put_many (put_then g g) n))
  put_plain_by below (TypedMap n t) = put_container below (λ g. put_open 0x4d (put_type ℓ t) (put_many (put_then g g) n))
  put_plain_by below (Object k n) = λ c r. put_if (eqb (get_or c.classes k 0) n && ltb k (length c.classes))
      (put_container below (λ g. put_then (put_bytes (object_code k)) (put_many g n))) c r
  put_plain_by below (Reference k) = λ c r. put_if (ltb k c.references) (put_bytes (code_then 0x51 (shortest_int k))) c r

  -- the same, with its item
  abbrev pub put_plain : Option Put → Put
  put_plain below = put_item value? (put_plain_by below)

  -- class definitions, and then a value; `allowance` more containers may open
  unfoldable pub put_value : (allowance : ℕ) → Put
  put_value zero = put_preceded_by ℓ (put_plain none)
  put_value (suc d) = put_preceded_by ℓ (put_plain (some (put_value d)))

  -- the shortest message of the record r, or none
  unfoldable pub spell : List Item → Option (List ℕ)
  spell r = complete (put_value ℓ.containers start r)

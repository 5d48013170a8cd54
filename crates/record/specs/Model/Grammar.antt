-- The grammar of messages: what is known before, the bytes, the items, what is known after. One constructor for each
-- production, in 01's order.
use mathlib.Core.{Bool.Bool, Bool.true, Bool.false, List.List, List.[], List.◌∷◌, List.◌++◌}
use Rattle.std.specs.Prelude.{ℕ, zero, suc, ◌+◌, ◌^◌, ◌≤◌, ◌<◌}
use lib.{Dec.T, ListN.length, ListN.get_or}
use Rattle.flow.specs.Grammar.{Phrase, Many, Ended, Preceded}
use Rattle.scalar.specs.{Scalars.{DoubleRule, Scalar}, Grammar.{SpeltUnder, Int, Text}}
use Rattle.record.specs.Model.Items.{Leaf, UntypedList, TypedList, UntypedMap, TypedMap, Object, Reference, Item}
use Rattle.record.specs.Model.Items.{Val, Definition, ClassName, FieldName, TypeName, TypeNumber, Known, start}
use Rattle.record.specs.Model.Items.{opened, typed, defined, Limits}

pub data NameForm (x : List ℕ → Item) : Known → List ℕ → List Item → Known → Type 0 where  -- a text, as the item x
  a_name : {c : Known} {w cs : List ℕ} → Text w cs → NameForm x c w (x cs ∷ []) c

-- a type, and its number: a text gets the next one, an int names one given
pub data TypeForm (ℓ : Limits) : Known → List ℕ → ℕ → List Item → Known → Type 0 where
  type_spelled : {c : Known} {w cs : List ℕ} → c.types < ℓ.types → Text w cs
      → TypeForm ℓ c w c.types (TypeName cs ∷ []) (typed c)
  type_numbered : {c : Known} {w : List ℕ} {k : ℕ} → Int w k → k < c.types → TypeForm ℓ c w k (TypeNumber k ∷ []) c

pub data PairForm (G : Phrase Known Item) : Known → List ℕ → List Item → Known → Type 0 where  -- a key and its value
  a_pair : {c c₁ c₂ : Known} {u v : List ℕ} {is js : List Item} → G c u is c₁ → G c₁ v js c₂
      → PairForm G c (u ++ v) (is ++ js) c₂

-- a value with no definition before it; ρ: the rule of 5f; `room`: one more container may open; G: the values in it
pub data PlainForm (ρ : DoubleRule) (ℓ : Limits) (room : Bool) (G : Phrase Known Item)
    : Known → List ℕ → List Item → Known → Type 0 where
  -- a text, bytes, an int, a long, a date, a double, null, false, true
  a_leaf : {c : Known} {w : List ℕ} {x : Scalar} → SpeltUnder ρ w x → PlainForm ρ ℓ room G c w (Val (Leaf x) ∷ []) c
  -- 70-77 type; 56 type int; 55 type .. 5a: typed list
  a_few_typed : {c c₁ c₂ : Known} {n t : ℕ} {u v : List ℕ} {is js : List Item} → T room → n < 8
      → TypeForm ℓ (opened c) u t is c₁ → Many G n c₁ v js c₂
      → PlainForm ρ ℓ room G c ((0x70 + n) ∷ (u ++ v)) (Val (TypedList n t) ∷ (is ++ js)) c₂
  a_counted_typed : {c c₁ c₂ : Known} {n t : ℕ} {u v w : List ℕ} {is js : List Item} → T room
      → TypeForm ℓ (opened c) u t is c₁ → Int v n → n < 2 ^ 63 → Many G n c₁ w js c₂
      → PlainForm ρ ℓ room G c (0x56 ∷ (u ++ (v ++ w))) (Val (TypedList n t) ∷ (is ++ js)) c₂
  an_open_typed : {c c₁ c₂ : Known} {n t : ℕ} {u v : List ℕ} {is js : List Item} → T room
      → TypeForm ℓ (opened c) u t is c₁ → Ended 0x5a G n c₁ v js c₂
      → PlainForm ρ ℓ room G c (0x55 ∷ (u ++ v)) (Val (TypedList n t) ∷ (is ++ js)) c₂
  -- 78-7f; 58 int; 57 .. 5a: untyped list
  a_few : {c c₁ : Known} {n : ℕ} {w : List ℕ} {is : List Item} → T room → n < 8 → Many G n (opened c) w is c₁
      → PlainForm ρ ℓ room G c ((0x78 + n) ∷ w) (Val (UntypedList n) ∷ is) c₁
  a_counted : {c c₁ : Known} {n : ℕ} {u v : List ℕ} {is : List Item} → T room → Int u n → n < 2 ^ 63
      → Many G n (opened c) v is c₁
      → PlainForm ρ ℓ room G c (0x58 ∷ (u ++ v)) (Val (UntypedList n) ∷ is) c₁
  an_open : {c c₁ : Known} {n : ℕ} {w : List ℕ} {is : List Item} → T room → Ended 0x5a G n (opened c) w is c₁
      → PlainForm ρ ℓ room G c (0x57 ∷ w) (Val (UntypedList n) ∷ is) c₁
  -- 4d type .. 5a; 48 .. 5a: typed, untyped map
  a_typed_map : {c c₁ c₂ : Known} {n t : ℕ} {u v : List ℕ} {is js : List Item} → T room
      → TypeForm ℓ (opened c) u t is c₁ → Ended 0x5a (PairForm G) n c₁ v js c₂
      → PlainForm ρ ℓ room G c (0x4d ∷ (u ++ v)) (Val (TypedMap n t) ∷ (is ++ js)) c₂
  a_map : {c c₁ : Known} {n : ℕ} {w : List ℕ} {is : List Item} → T room → Ended 0x5a (PairForm G) n (opened c) w is c₁
      → PlainForm ρ ℓ room G c (0x48 ∷ w) (Val (UntypedMap n) ∷ is) c₁
  -- 60-6f; 4f int: object
  a_few_object : {c c₁ : Known} {k : ℕ} {w : List ℕ} {is : List Item} → T room → k < 16 → k < length c.classes
      → Many G (get_or c.classes k 0) (opened c) w is c₁
      → PlainForm ρ ℓ room G c ((0x60 + k) ∷ w) (Val (Object k (get_or c.classes k 0)) ∷ is) c₁
  an_object : {c c₁ : Known} {k : ℕ} {u v : List ℕ} {is : List Item} → T room → Int u k → k < length c.classes
      → Many G (get_or c.classes k 0) (opened c) v is c₁
      → PlainForm ρ ℓ room G c (0x4f ∷ (u ++ v)) (Val (Object k (get_or c.classes k 0)) ∷ is) c₁
  -- 51 int: reference
  a_reference : {c : Known} {k : ℕ} {w : List ℕ} → Int w k → k < c.references
      → PlainForm ρ ℓ room G c (0x51 ∷ w) (Val (Reference k) ∷ []) c

-- text int text*: a class definition, after its 43
pub data DefinitionForm (ℓ : Limits) : Known → List ℕ → List Item → Known → Type 0 where
  a_definition : {c c₁ : Known} {u v w cs : List ℕ} {n : ℕ} {is : List Item} → length c.classes < ℓ.classes
      → Text u cs → Int v n → n < 2 ^ 63 → n ≤ ℓ.fields
      → Many (NameForm FieldName) n c w is c₁
      → DefinitionForm ℓ c (u ++ (v ++ w)) (Definition n ∷ ClassName cs ∷ is) (defined n c₁)

-- the values where no container may open
abbrev pub Nowhere : Phrase Known Item
Nowhere c w is c' = ⊥

-- definitions, each after its 43, and then a value; d more containers may open
abbrev pub ValueForm : DoubleRule → Limits → ℕ → Known → List ℕ → List Item → Known → Type 0
ValueForm ρ ℓ zero = Preceded 0x43 (DefinitionForm ℓ) (PlainForm ρ ℓ false Nowhere)
ValueForm ρ ℓ (suc d) = Preceded 0x43 (DefinitionForm ℓ) (PlainForm ρ ℓ true (ValueForm ρ ℓ d))

abbrev pub Message : DoubleRule → Limits → List ℕ → List Item → Type 0  -- the message m has the items r
Message ρ ℓ m r = record { known : Known; derived : ValueForm ρ ℓ ℓ.containers start m r known }

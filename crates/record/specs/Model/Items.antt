-- What a record is: values, items, what is known while they are read or written, and the limits.
use Rattle.std.specs.Prelude.{List, [], ◌∷◌, ◌++◌, ℕ, suc}
use Rattle.scalar.specs.Scalars.{Scalar}

-- a value, by the kind of its row: 0 to 8 a scalar; 9 a list of so many elements; 10 one of a type number; 11 a map of
-- so many pairs; 12 one of a type number; 13 an object of a class number, with so many fields; 14 a reference to a
-- number
pub data Value : Type 0 where
  Leaf : Scalar → Value
  UntypedList UntypedMap Reference : ℕ → Value
  TypedList TypedMap Object : ℕ → ℕ → Value

-- an item of a record: a value; 15 a class definition of so many fields, 16 its name, 17 a field's name; 18 a type name
-- written out, 19 a type by number. A name carries its content: the UTF-8 bytes, its chunks joined
pub data Item : Type 0 where
  Val : Value → Item
  Definition TypeNumber : ℕ → Item
  ClassName FieldName TypeName : List ℕ → Item

-- what is known: reference numbers given, type numbers given, and each class's number of fields
abbrev pub Known : Type 0
Known = record { references : ℕ; types : ℕ; classes : List ℕ }

-- all numbers are given from 0
abbrev pub start : Known
start = record { references = 0; types = 0; classes = [] }

-- a list, map or object opens: it gets the next reference number
abbrev pub opened : Known → Known
opened c = record { references = suc c.references; types = c.types; classes = c.classes }

-- a type name gets the next type number
abbrev pub typed : Known → Known
typed c = record { references = c.references; types = suc c.types; classes = c.classes }

-- a definition of n fields is complete: it gets the next class number
abbrev pub defined : ℕ → Known → Known
defined n c = record { references = c.references; types = c.types; classes = c.classes ++ (n ∷ []) }

-- the ceilings: bytes of the longest message; lists, maps and objects open at once; type names; class definitions;
-- fields of one class
abbrev pub Limits : Type 0
Limits = record { longest : ℕ; containers : ℕ; types : ℕ; classes : ℕ; fields : ℕ }

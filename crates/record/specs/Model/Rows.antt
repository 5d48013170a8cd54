-- Rows: the numbers by which a table holds an item, and the fifth numbers of a record.
use Rattle.std.specs.Prelude.{List, [], ◌∷◌, ℕ, suc, ◌+◌, ◌*◌, length, take, drop}
use Rattle.flow.specs.Flow.{Entry}
use Rattle.scalar.specs.declared.Encoding.TheVariants.{Utf8, Binary}
use Rattle.scalar.specs.Scalars.{sort_kind, total, units, Num, Str}
use Rattle.record.specs.Model.Kinds.{text_kind, bytes_kind, list_kind, typed_list_kind, map_kind, typed_map_kind}
use Rattle.record.specs.Model.Kinds.{object_kind, reference_kind, class_kind, class_name_kind, field_name_kind}
use Rattle.record.specs.Model.Kinds.{type_name_kind, type_number_kind}
use Rattle.record.specs.Model.Items.{Leaf, UntypedList, TypedList, UntypedMap, TypedMap, Object, Reference}
use Rattle.record.specs.Model.Items.{Item, Val, Definition, ClassName, FieldName, TypeName, TypeNumber}

-- kind, place, first, second, after. An unused first or second is 0; after is the number of the row just
-- after the value, definition or single item that the row opens, where a record's rows are numbered from 0
abbrev pub Row : Type 0
Row = record { kind : ℕ; place : ℕ; first : ℕ; second : ℕ; after : ℕ }

abbrev pub row : ℕ → ℕ → ℕ → ℕ → ℕ → Row
row k p a b e = record { kind = k; place = p; first = a; second = b; after = e }

abbrev pub text_row : ℕ → ℕ → ℕ → List ℕ → Row  -- a text's row, of the kind k: UTF-16 units, UTF-8 bytes
text_row k p e cs = row k p (units Utf8 cs) (length cs) e

-- the row of an item whose first byte stands at p, and after which the row e comes. A scalar's kind: 0 null, 1 false,
-- 2 true, 3 int, 4 long, 5 double, 6 date, 7 text, 8 bytes
abbrev pub item_row : ℕ → ℕ → Item → Row
item_row p e (Val (Leaf (Num s v))) = row (sort_kind s) p v 0 e
item_row p e (Val (Leaf (Str Utf8 cs))) = text_row text_kind p e cs
item_row p e (Val (Leaf (Str Binary cs))) = row bytes_kind p (length cs) 0 e
item_row p e (Val (UntypedList n)) = row list_kind p n 0 e
item_row p e (Val (TypedList n t)) = row typed_list_kind p n t e
item_row p e (Val (UntypedMap n)) = row map_kind p n 0 e
item_row p e (Val (TypedMap n t)) = row typed_map_kind p n t e
item_row p e (Val (Object k n)) = row object_kind p k n e
item_row p e (Val (Reference k)) = row reference_kind p k 0 e
item_row p e (Definition n) = row class_kind p n 0 e
item_row p e (ClassName cs) = text_row class_name_kind p e cs
item_row p e (FieldName cs) = text_row field_name_kind p e cs
item_row p e (TypeName cs) = text_row type_name_kind p e cs
item_row p e (TypeNumber k) = row type_number_kind p k 0 e

abbrev pub rows_from : ℕ → List (Entry Item) → List Row  -- the rows of entries, numbered from k
rows_from k [] = []
rows_from k (e ∷ es) = item_row e.place (k + e.span) e.item ∷ rows_from (suc k) es

abbrev pub rows : List (Entry Item) → List Row  -- the rows of a record, in message order
rows es = rows_from 0 es

-- ---- the fifth numbers of a record, by its items alone
-- how many values, names and types an item holds: a type, elements, keys and values, fields; a definition its names
abbrev pub holds : Item → ℕ
holds (Val (Leaf x)) = 0
holds (Val (UntypedList n)) = n
holds (Val (TypedList n t)) = suc n
holds (Val (UntypedMap n)) = n * 2
holds (Val (TypedMap n t)) = suc (n * 2)
holds (Val (Object k n)) = n
holds (Val (Reference k)) = 0
holds (Definition n) = suc n
holds (ClassName cs) = 0
holds (FieldName cs) = 0
holds (TypeName cs) = 0
holds (TypeNumber k) = 0

-- how many stand after an item and what it holds, and are counted with it: the value, after a definition before it
abbrev pub begins : Item → ℕ
begins (Val v) = 0
begins (Definition n) = 1
begins (ClassName cs) = 0
begins (FieldName cs) = 0
begins (TypeName cs) = 0
begins (TypeNumber k) = 0

-- the values, names and types that items are, one after the other, a value with the definitions before it: how many
-- items each has
unfoldable pub spans : List Item → List ℕ
spans [] = []
spans (i ∷ is) = suc (total (take (holds i + begins i) (spans is))) ∷ drop (holds i + begins i) (spans is)

-- how many items an item opens, itself the first of them, where `is` stand after it; a definition opens its names
unfoldable pub span : Item → List Item → ℕ
span (Val v) is = suc (total (take (holds (Val v)) (spans is)))
span (Definition n) is = suc (suc n)
span (ClassName cs) is = 1
span (FieldName cs) is = 1
span (TypeName cs) is = 1
span (TypeNumber k) is = 1

abbrev pub ends : ℕ → List Item → List ℕ  -- the fifth numbers of items numbered from k
ends k [] = []
ends k (i ∷ is) = (k + span i is) ∷ ends (suc k) is

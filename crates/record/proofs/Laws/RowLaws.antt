-- Rows: the struct of the code, and that a row's other numbers do not depend on its place and its fifth number.
use Rattle.std.specs.Prelude.{◌≡◌, refl, ℕ}
use Rattle.scalar.specs.declared.Sort.TheVariants as sort
use Rattle.scalar.specs.declared.Encoding.TheVariants.{Utf8, Binary}
use Rattle.scalar.specs.Scalars.{sort_kind, Num, Str}
use Rattle.record.specs.Model.Kinds.{null_kind, false_kind, true_kind, int_kind, long_kind, double_kind}
use Rattle.record.specs.Model.Kinds.{date_kind}
use Rattle.record.specs.Model.Items.{Leaf, UntypedList, TypedList, UntypedMap, TypedMap, Object, Reference, Item}
use Rattle.record.specs.Model.Items.{Val, Definition, ClassName, FieldName, TypeName, TypeNumber}
use Rattle.record.specs.Model.Rows.{Row, row, item_row}

-- the kinds of single values, by their sorts
pub sort_kinds : (sort_kind sort.Null ≡ null_kind) × (sort_kind sort.False ≡ false_kind)
    × (sort_kind sort.True ≡ true_kind)
    × (sort_kind sort.Int ≡ int_kind) × (sort_kind sort.Long ≡ long_kind) × (sort_kind sort.Double ≡ double_kind)
    × (sort_kind sort.Date ≡ date_kind)
sort_kinds = (refl, refl, refl, refl, refl, refl, refl)

abbrev pub moved : Row → ℕ → ℕ → Row
moved x p e = row x.kind p x.first x.second e

pub item_moved : (p e q f : ℕ) (i : Item) → item_row q f i ≡ moved (item_row p e i) q f
item_moved p e q f (Val (Leaf (Num s v))) = refl
item_moved p e q f (Val (Leaf (Str Utf8 cs))) = refl
item_moved p e q f (Val (Leaf (Str Binary cs))) = refl
item_moved p e q f (Val (UntypedList n)) = refl
item_moved p e q f (Val (TypedList n t)) = refl
item_moved p e q f (Val (UntypedMap n)) = refl
item_moved p e q f (Val (TypedMap n t)) = refl
item_moved p e q f (Val (Object k n)) = refl
item_moved p e q f (Val (Reference k)) = refl
item_moved p e q f (Definition n) = refl
item_moved p e q f (ClassName cs) = refl
item_moved p e q f (FieldName cs) = refl
item_moved p e q f (TypeName cs) = refl
item_moved p e q f (TypeNumber k) = refl

-- The record that rows claim, computed. That it is exactly the one claimed is proved in proofs/Laws/Claimed.antt.
use Rattle.std.specs.Prelude.{Bool, cond, ◌&&◌, List, [], ◌∷◌, ℕ, eqb}
use Rattle.std.proofs.Math.Option.{Option, none, some}
use Rattle.flow.specs.Flow.{pick, on_some, same_list}
use Rattle.scalar.specs.declared.Sort.TheVariants as sort
use Rattle.scalar.specs.declared.Encoding.TheVariants.{Utf8, Binary}
use Rattle.scalar.specs.Scalars.{Num, Str}
use Rattle.record.specs.Model.Kinds.{null_kind, false_kind, true_kind, int_kind, long_kind, double_kind}
use Rattle.record.specs.Model.Kinds.{date_kind, text_kind, bytes_kind}
use Rattle.record.specs.Model.Kinds.{list_kind, typed_list_kind, map_kind, typed_map_kind, object_kind}
use Rattle.record.specs.Model.Kinds.{reference_kind}
use Rattle.record.specs.Model.Kinds.{class_kind, class_name_kind, field_name_kind, type_name_kind}
use Rattle.record.specs.Model.Items.{Leaf, UntypedList, TypedList, UntypedMap, TypedMap, Object, Reference, Item}
use Rattle.record.specs.Model.Items.{Val, Definition, ClassName, FieldName, TypeName, TypeNumber}
use Rattle.record.specs.Model.Rows.{Row, item_row, ends}
use Rattle.record.specs.Model.Claims.{content_of, ContentMap, afters}

-- the item of the row's kind, with the row's numbers or this content
unfoldable pub of_kind : Row → List ℕ → Item
of_kind x cs =
    pick (eqb x.kind null_kind) (Val (Leaf (Num sort.Null x.first)))
    (pick (eqb x.kind false_kind) (Val (Leaf (Num sort.False x.first)))
    (pick (eqb x.kind true_kind) (Val (Leaf (Num sort.True x.first)))
    (pick (eqb x.kind int_kind) (Val (Leaf (Num sort.Int x.first)))
    (pick (eqb x.kind long_kind) (Val (Leaf (Num sort.Long x.first)))
    (pick (eqb x.kind double_kind) (Val (Leaf (Num sort.Double x.first)))
    (pick (eqb x.kind date_kind) (Val (Leaf (Num sort.Date x.first)))
    (pick (eqb x.kind text_kind) (Val (Leaf (Str Utf8 cs)))
    (pick (eqb x.kind bytes_kind) (Val (Leaf (Str Binary cs)))
    (pick (eqb x.kind list_kind) (Val (UntypedList x.first))
    (pick (eqb x.kind typed_list_kind) (Val (TypedList x.first x.second))
    (pick (eqb x.kind map_kind) (Val (UntypedMap x.first))
    (pick (eqb x.kind typed_map_kind) (Val (TypedMap x.first x.second))
    (pick (eqb x.kind object_kind) (Val (Object x.first x.second))
    (pick (eqb x.kind reference_kind) (Val (Reference x.first))
    (pick (eqb x.kind class_kind) (Definition x.first)
    (pick (eqb x.kind class_name_kind) (ClassName cs)
    (pick (eqb x.kind field_name_kind) (FieldName cs)
    (pick (eqb x.kind type_name_kind) (TypeName cs)
    (TypeNumber x.first)))))))))))))))))))

abbrev pub same_row : Row → Row → Bool  -- but for their fifth numbers
same_row x y =
    eqb x.kind y.kind && (eqb x.place y.place && (eqb x.first y.first && eqb x.second y.second))

-- the item i, if the row claims it with the content cs
abbrev pub checked : Row → List ℕ → Item → Option Item
checked x cs i = cond (same_row (item_row x.place x.after i) x && same_list (content_of i) cs) (some i) none

unfoldable pub item_at : ContentMap → Row → Option Item
item_at contents x = on_some (λ cs. checked x cs (of_kind x cs)) (contents x.kind x.place)

-- the items that the rows claim, each by itself, or none
abbrev pub items_of : ContentMap → List Row → Option (List Item)
items_of contents [] = some []
items_of contents (x ∷ r) = on_some (λ i. on_some (λ is. some (i ∷ is)) (items_of contents r)) (item_at contents x)

-- the same items, if the fifth numbers of the rows are theirs
unfoldable pub ended : List Row → List Item → Option (List Item)
ended r is = cond (same_list (afters r) (ends 0 is)) (some is) none

-- the record that the rows claim, or none
abbrev pub record_of : ContentMap → List Row → Option (List Item)
record_of contents r = on_some (ended r) (items_of contents r)

-- What the rows of a table claim: the items whose rows they are, with the contents that their places open.
use mathlib.Core.{Path.◌≡◌, Bool.Bool, Bool.◌||◌, List.List, List.[], List.◌∷◌, List.map}
use mathlib.Core.{Option.Option, Option.none, Option.some}
use Rattle.std.specs.Prelude.{ℕ, eqb}
use Rattle.flow.specs.Flow.{pick, within}
use Rattle.scalar.specs.declared.Encoding.TheVariants.{Utf8, Binary}
use Rattle.scalar.specs.Scalars.{string_at, Num, Str}
use Rattle.scalar.specs.Answers.{content_read}
use Rattle.record.specs.Model.Kinds.{text_kind, bytes_kind, class_name_kind, type_number_kind}
use Rattle.record.specs.Model.Items.{Value, Leaf, UntypedList, TypedList, UntypedMap, TypedMap, Object, Reference}
use Rattle.record.specs.Model.Items.{Item, Val, Definition, ClassName, FieldName, TypeName, TypeNumber}
use Rattle.record.specs.Model.Rows.{Row, item_row, ends}

-- an item's content: a text's or name's characters in UTF-8, a byte string's bytes
abbrev pub value_content : Value → List ℕ
value_content (Leaf (Num s n)) = []
value_content (Leaf (Str k cs)) = cs
value_content (UntypedList n) = []
value_content (TypedList n t) = []
value_content (UntypedMap n) = []
value_content (TypedMap n t) = []
value_content (Object k n) = []
value_content (Reference k) = []

abbrev pub content_of : Item → List ℕ
content_of (Val v) = value_content v
content_of (Definition n) = []
content_of (ClassName cs) = cs
content_of (FieldName cs) = cs
content_of (TypeName cs) = cs
content_of (TypeNumber k) = []

-- what a source has for a row of a kind and a place: a content, or none
abbrev pub ContentMap : Type 0
ContentMap = ℕ → ℕ → Option (List ℕ)

-- the rows of a text and of names (the kinds from a class name's to below a type number's)
abbrev pub is_text_kind : ℕ → Bool
is_text_kind k = eqb k text_kind || within class_name_kind type_number_kind k

-- in a source of messages: a text or a name has the text that its place opens, a byte string its bytes, the others an
-- empty content; none where no complete text or byte string is opened there
unfoldable pub content_at : List ℕ → ContentMap
content_at source k p =
    pick (eqb k bytes_kind) (content_read (string_at Binary source p))
    (pick (is_text_kind k) (content_read (string_at Utf8 source p))
    (some []))

-- the text or byte string that a row names: none where its kind is another's
abbrev pub names_content : ℕ → Bool
names_content k = eqb k bytes_kind || is_text_kind k

unfoldable pub named_content : List ℕ → ContentMap
named_content source k p = pick (names_content k) (content_at source k p) none

-- a row claims an item: it is the item's row at its own place, which has the item's content
abbrev pub Claims : ContentMap → Row → Item → Type 0
Claims contents x i = record {
  agrees : item_row x.place x.after i ≡ x;
  content : contents x.kind x.place ≡ some (content_of i);
}

pub data ClaimItems (contents : ContentMap) : List Row → List Item → Type 0 where
  no_rows : ClaimItems contents [] []
  a_row : {x : Row} {i : Item} {r : List Row} {is : List Item} → Claims contents x i → ClaimItems contents r is
      → ClaimItems contents (x ∷ r) (i ∷ is)

abbrev pub afters : List Row → List ℕ
afters r = map (λ (x : Row). x.after) r

-- rows claim the items that each of them claims, where their fifth numbers are those of these items
pub record ClaimAll (contents : ContentMap) (r : List Row) (is : List Item) : Type 0 where
  pub each : ClaimItems contents r is
  pub fifths : afters r ≡ ends 0 is

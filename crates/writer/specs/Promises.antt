-- What the contracts inside the writer say, over record's laws of the writer at an index of the rows. None of it has
-- to be believed. A relation XMet tells by cases (XSays) what a result means; the functions' own relations, which the
-- contracts cite, take the lent table and the arguments as they are.
use Rattle.std.specs.Prelude.{◌≡◌, Bool, true, false, ◌&&◌, ◌⊎◌, List, [], ◌∷◌, ◌++◌, ℕ, suc, ◌+◌, ◌-◌, ◌%◌, ◌^◌, ◌≤◌, ◌<◌, min, ltb, eqb, length, drop, get_or, Result, Ok, Err, Some, None, MatchOption}
use Rattle.std.proofs.Math.Option.{Option, none, some}
use Rattle.std.specs.declared.option.Option as option
use Rattle.flow.specs.Flow.{pick, stored}
use Rattle.scalar.specs.declared.Sort.{Sort}
use Rattle.scalar.specs.declared.Encoding.{Encoding}
use Rattle.scalar.specs.declared.Unwritten.{Unwritten}
use Rattle.scalar.specs.declared.Unwritten.TheVariants.{NoRoom, NoSuchForm}
use Rattle.scalar.specs.Scalars.{units, string_at, shortest_string, shortest_int, sort_kind}
use Rattle.scalar.specs.Answers.{content_read}
use Rattle.record.specs.declared.Contents.{Contents}
use Rattle.record.specs.declared.Contents.TheVariants.{Elements}
use Rattle.record.specs.declared.Row as code
use Rattle.record.specs.declared.kinds.Kind.{Kind}
use Rattle.record.specs.declared.known.Known as given
use Rattle.record.specs.Model.Kinds.{text_kind, bytes_kind, list_kind, map_kind, object_kind, reference_kind}
use Rattle.record.specs.Model.Kinds.{class_name_kind, field_name_kind}
use Rattle.record.specs.Model.KindNumbers.{kind_number}
use Rattle.record.specs.Model.Items.{Value, Item, Val, Definition, Known}
use Rattle.record.specs.Model.Rows.{Row, row, span}
use Rattle.record.specs.Model.Claims.{content_at}
use Rattle.record.specs.Model.Shortest.{put_then, put_many, put_bytes, put_if, class_name?, field_name?, put_name, put_open}
use Rattle.record.specs.Model.Shortest.{put_list, object_code, put_type, put_definition, put_value, put_plain}
use Rattle.record.specs.Model.Shortest as spelling
use Rattle.record.specs.Model.Answers.{base, base_open_from, shortest_of, fitted, write_numbers, output_written}
use Rattle.record.specs.Laws.RowLaws.{row_of}
use Rattle.record.specs.Laws.Claimed.{item_at}
use Rattle.record.specs.Laws.Takes.{Drops}
use Rattle.record.specs.Laws.KnownLaws.{known_in, Kept}
use Rattle.record.specs.ForWriter.WritingAt.{claimed, row_at, At, End, WritingAt, WrittenTo, NoMessage, walk}
use Rattle.record.specs.ForWriter.WritingAt.{holding, behind}
use Rattle.record.specs.ForWriter.WrittenItems.{ended}
use Rattle.record.specs.ForWriter.WrittenContents.{left}
use Rattle.record.specs.ForWriter.WrittenNames.{names_left}
use Rattle.record.specs.ForWriter.WrittenValues.{below}
use Rattle.record.specs.ForWriter.BareItems.{NoneIn}
use Rattle.record.specs.ForWriter.WrittenMessages.{Rights, Wrong}
use Rattle.writer.specs.declared.size.Size.{Size}
use Rattle.writer.specs.declared.progress.NoRecord.{NoRecord}
use Rattle.writer.specs.declared.progress.Progress.{Progress}
use Rattle.writer.specs.declared.progress.Turn.{Turn}
use Rattle.writer.specs.declared.holders.Interior.{Interior}
use Rattle.writer.specs.declared.holders.ValueStart.{ValueStart}
use Rattle.writer.specs.declared.holders.ValueStart.TheVariants.{Past, Within}
use Rattle.writer.specs.declared.values.Entered.{Entered}
use Rattle.writer.specs.declared.WriteError.{WriteError}
use Rattle.writer.specs.Lent.{Lent, over_longest}
use Rattle.writer.specs.Answers.{report}

-- ---- what a lent table's rows claim, and their shortest message
abbrev pub items_of : Lent → List Item
items_of t = claimed (content_at t.source) t.rows

abbrev pub shortest_in : Lent → Option (List ℕ)
shortest_in t = shortest_of base base_open_from (content_at t.source) t.rows

-- the row r stands at k: the item that it claims; where it claims none, no more items are claimed
pub record RowIs (source : List ℕ) (r : code.Row) (is : List Item) (k : ℕ) : Type 0 where
  pub item : (i : Item) → item_at (content_at source) (row_of r) ≡ some i → At is k i
  pub lost : item_at (content_at source) (row_of r) ≡ none → End is k

abbrev pub FetchSays : Lent → ℕ → Result code.Row NoRecord → Type 0
FetchSays t k (Ok r) = (k + 1 < 2 ^ 64) × (row_at t.rows k ≡ row_of r) × RowIs t.source r (items_of t) k
FetchSays t k (Err e) = End (items_of t) k

pub record FetchMet (t : Lent) (k : ℕ) (r : Result code.Row NoRecord) : Type 0 where
  pub says : k ≤ length (items_of t) → FetchSays t k r

-- ---- the bytes w are put behind the first s: counted up to one more than the longest message, and stored where they
-- fit
pub record Puts (out : List ℕ) (s : ℕ) (w out' : List ℕ) (s' : ℕ) : Type 0 where
  pub grows : s' ≡ min (s + length w) over_longest
  pub same : length out' ≡ length out
  pub holds : s + length w ≤ length out → s + length w ≤ base.longest → out' ≡ stored out s w

-- how many bytes there are then, by what writing some came to
abbrev pub PutBy : Result ℕ Unwritten → ℕ → Result Size NoRecord → Type 0
PutBy (Ok n) s (Ok s') = s'.bytes ≡ min (s + n) over_longest
PutBy (Ok n) s (Err e) = ⊥
PutBy (Err (NoRoom n)) s (Ok s') = s'.bytes ≡ min (s + n) over_longest
PutBy (Err (NoRoom n)) s (Err e) = ⊥
PutBy (Err NoSuchForm) s (Ok s') = ⊥
PutBy (Err NoSuchForm) s (Err e) = Unit {0}

-- a form is put, if there is one
abbrev pub PutSays : Option (List ℕ) → List ℕ → ℕ → Result Size NoRecord → List ℕ → Type 0
PutSays o out s (Ok s') out' = (w : List ℕ) × (o ≡ some w) × Puts out s w out' s'.bytes
PutSays o out s (Err e) out' = o ≡ none

pub record PutMet
    (o : Option (List ℕ)) (out : List ℕ) (s : ℕ) (r : Result Size NoRecord) (out' : List ℕ) : Type 0 where
  pub says : PutSays o out s r out'

-- ---- the place p of the source opens a complete text or byte string with the content cs, of u units and b bytes
pub record ContentAt (k : Encoding) (source : List ℕ) (p u b : ℕ) (cs : List ℕ) : Type 0 where
  pub opens : content_read (string_at k source p) ≡ some cs
  pub units_are : u ≡ units k cs
  pub bytes_are : b ≡ length cs

-- its shortest form is put
abbrev pub StringSays : Encoding → List ℕ → ℕ → ℕ → ℕ → List ℕ → ℕ → Result Size NoRecord → List ℕ → Type 0
StringSays k source p u b out s (Ok s') out' = (cs : List ℕ) × (w : List ℕ)
    × ContentAt k source p u b cs × (shortest_string k cs ≡ some w) × Puts out s w out' s'.bytes
StringSays k source p u b out s (Err e) out' = (cs : List ℕ)
    → ContentAt k source p u b cs → shortest_string k cs ≡ none

pub record StringMet
    (k : Encoding) (source : List ℕ) (p u b : ℕ) (out : List ℕ) (s : ℕ)
    (r : Result Size NoRecord) (out' : List ℕ) : Type 0 where
  pub says : StringSays k source p u b out s r out'

-- ---- what is written is o: it ends at e, where c is known, and its bytes are put
abbrev pub WalkSays : WritingAt → ℕ → Known → List ℕ → ℕ → Result Size NoRecord → List ℕ → Type 0
WalkSays o e c out s (Ok s') out' = (w : List ℕ) × (o ≡ WrittenTo w e c) × Puts out s w out' s'.bytes
WalkSays o e c out s (Err n) out' = o ≡ NoMessage

pub record WalkMet
    (o : WritingAt) (e : ℕ) (c : Known) (out : List ℕ) (s : ℕ)
    (r : Result Size NoRecord) (out' : List ℕ) : Type 0 where
  pub says : WalkSays o e c out s r out'

-- ---- values that hold no others
-- the kind of number that a row of this kind gives
abbrev pub SortOf : Kind → option.Option Sort → Type 0
SortOf k r = MatchOption r (text_kind ≤ kind_number k) (λ x. kind_number k ≡ sort_kind x)

-- no kind of a list, map or object
pub record NoHolderKind (kind : ℕ) : Type 0 where
  pub other : (kind < list_kind) ⊎ (object_kind < kind)

pub record LeafMet
    (source : List ℕ) (r : code.Row) (references : ℕ) (out : List ℕ) (s : ℕ)
    (p : Result Size NoRecord) (out' : List ℕ) : Type 0 where
  pub says : (open_from : ℕ) (inner : Option spelling.Put) (c : Known) (is : List Item) (k : ℕ)
      → RowIs source r is k → c.references ≡ references
      → WalkMet (walk (put_plain base open_from inner) c is k) (suc k) c out s p out'

pub record NumberMet
    (x : Sort) (r : code.Row) (out : List ℕ) (s : ℕ) (p : Result Size NoRecord) (out' : List ℕ) : Type 0 where
  pub says : (source : List ℕ) (references : ℕ) → r.kind ≡ sort_kind x → LeafMet source r references out s p out'

pub record ContentMet
    (source : List ℕ) (r : code.Row) (out : List ℕ) (s : ℕ) (p : Result Size NoRecord) (out' : List ℕ) : Type 0 where
  pub says : (references : ℕ) → r.kind ≡ bytes_kind → LeafMet source r references out s p out'

pub record ReferenceMet
    (r : code.Row) (references : ℕ) (out : List ℕ) (s : ℕ)
    (p : Result Size NoRecord) (out' : List ℕ) : Type 0 where
  pub says : (source : List ℕ) → r.kind ≡ reference_kind → LeafMet source r references out s p out'

-- ---- names: of a class, of a field
pub data NameKind : ℕ → (Item → Option (List ℕ)) → Type 0 where
  class_name : NameKind class_name_kind class_name?
  field_name : NameKind field_name_kind field_name?

pub record NameMet
    (kind : ℕ) (is : List Item) (k : ℕ) (out : List ℕ) (s : ℕ) (r : Result Size NoRecord) (out' : List ℕ) : Type 0
  where
    pub says : (part : Item → Option (List ℕ)) → NameKind kind part → (c : Known)
        → WalkMet (walk (put_name part) c is k) (suc k) c out s r out'

-- n field names from k on
pub record NamesMet
    (is : List Item) (k n : ℕ) (out : List ℕ) (s : ℕ) (r : Result Size NoRecord) (out' : List ℕ) : Type 0 where
  pub says : (c : Known) → WalkMet (walk (names_left n 0) c is k) (k + n) c out s r out'

-- of `put_name` and `put_field_names`
abbrev pub NameWritten :
    (t : Lent) (out : List ℕ) (kind : Kind) (at : Progress) (r : Result Size NoRecord) (out' : List ℕ) → Type 0
NameWritten t out kind at r out' = NameMet (kind_number kind) (items_of t) at.next out at.size.bytes r out'

abbrev pub NamesWritten :
    (t : Lent) (out : List ℕ) (count : ℕ) (at : Progress) (r : Result Size NoRecord) (out' : List ℕ) → Type 0
NamesWritten t out count at r out' = NamesMet (items_of t) at.next count out at.size.bytes r out'

-- ---- where writing can be: at the item k, of no more items than 64 bits count
pub record Among (is : List Item) (k : ℕ) : Type 0 where
  pub within : k ≤ length is
  pub few : length is < 2 ^ 64

-- as much being known
pub record Writable (is : List Item) (ks : given.Known) (k : ℕ) : Type 0 where
  pub among : Among is k
  pub kept : Kept ks
  pub references_few : ks.references ≤ k

abbrev pub WritableIn : (t : Lent) (ks : given.Known) (at : Progress) → Type 0
WritableIn t ks at = Writable (items_of t) ks at.next

-- and the row stands there
pub record TurnIn (t : Lent) (ks : given.Known) (v : Turn) : Type 0 where
  pub ready : Writable (items_of t) ks v.at.next
  pub room : v.at.next + 1 < 2 ^ 64
  pub stands : RowIs t.source v.row (items_of t) v.at.next

-- what is written is o: it ends at e, from the index `from` on, and its bytes are put
pub record WrittenUpTo
    (o : WritingAt) (is : List Item) (from s : ℕ) (out : List ℕ)
    (e : Progress) (ks' : given.Known) (out' : List ℕ) : Type 0 where
  pub written : List ℕ
  pub says : o ≡ WrittenTo written e.next (known_in ks')
  pub puts : Puts out s written out' e.size.bytes
  pub ready : Writable is ks' e.next
  pub onward : from ≤ e.next

abbrev pub StepSays :
    WritingAt → List Item → ℕ → ℕ → List ℕ → Result Progress NoRecord → given.Known → List ℕ → Type 0
StepSays o is from s out (Ok e) ks' out' = WrittenUpTo o is from s out e ks' out'
StepSays o is from s out (Err n) ks' out' = o ≡ NoMessage

pub record StepMet
    (o : WritingAt) (is : List Item) (from s : ℕ) (out : List ℕ)
    (r : Result Progress NoRecord) (ks' : given.Known) (out' : List ℕ) : Type 0 where
  pub says : StepSays o is from s out r ks' out'

-- ---- types
-- of a typed list or map, whose type number is t; of another
abbrev pub type_by : Bool → ℕ → spelling.Put
type_by true t = put_type base t
type_by false t = put_bytes (some [])

-- lists and maps with a type have even kinds
abbrev pub has_type : code.Row → Bool
has_type r = eqb (r.kind % 2) 0

-- the type that the row r gives
pub record TypeRowMet
    (source : List ℕ) (r : code.Row) (t : ℕ) (ks : given.Known) (out : List ℕ) (s : ℕ)
    (p : Result Size NoRecord) (ks' : given.Known) (out' : List ℕ) : Type 0 where
  pub says : (is : List Item) (k : ℕ) → RowIs source r is k
      → WalkMet (walk (put_type base t) (known_in ks) is k) (suc k) (known_in ks') out s p out'
  pub kept : Kept ks'
  pub references : ks'.references ≡ ks.references

-- the type that the row r names by number
pub record TypeNumberMet
    (r : code.Row) (t : ℕ) (ks : given.Known) (out : List ℕ) (s : ℕ)
    (p : Result Size NoRecord) (out' : List ℕ) : Type 0 where
  pub says : (source : List ℕ) → TypeRowMet source r t ks out s p ks out'

-- of `put_type`
abbrev pub TypeWritten :
    (t : Lent) (ks : given.Known) (out : List ℕ) (v : Turn)
    (r : Result Progress NoRecord) (ks' : given.Known) (out' : List ℕ) → Type 0
TypeWritten t ks out v r ks' out' =
    StepMet
    (walk (type_by (has_type v.row) v.row.second) (known_in ks) (items_of t) v.at.next)
    (items_of t) v.at.next v.at.size.bytes out r ks' out'

-- ---- class definitions
-- the code, the name after k and the count of a class of n fields
abbrev pub ClassSays : List Item → ℕ → ℕ → List ℕ → ℕ → Result Size NoRecord → List ℕ → Type 0
ClassSays is k n out s (Ok s') out' =
    (c : Known) → (w : List ℕ) × (v : List ℕ) × (walk (put_name class_name?) c is (suc k) ≡ WrittenTo w (suc (suc k)) c)
    × (shortest_int n ≡ some v) × Puts out s (0x43 ∷ (w ++ v)) out' s'.bytes
ClassSays is k n out s (Err e) out' =
    (c : Known) → At is k (Definition n) → length c.classes < base.classes → n ≤ base.fields
    → walk (put_definition base) c is k ≡ NoMessage

pub record ClassMet
    (is : List Item) (k n : ℕ) (out : List ℕ) (s : ℕ) (r : Result Size NoRecord) (out' : List ℕ) : Type 0 where
  pub says : ClassSays is k n out s r out'

-- past the definitions at k the value's row stands
pub record ValueReached
    (t : Lent) (k s : ℕ) (ks : given.Known) (out : List ℕ)
    (v : Turn) (ks' : given.Known) (out' : List ℕ) : Type 0 where
  pub written : List ℕ
  pub says : (open_from d : ℕ) → walk (put_value base open_from d) (known_in ks) (items_of t) k
      ≡ behind written (walk (put_plain base open_from (below base open_from d)) (known_in ks') (items_of t) v.at.next)
  pub puts : Puts out s written out' v.at.size.bytes
  pub onward : k ≤ v.at.next
  pub turn : TurnIn t ks' v
  pub row_is : row_at t.rows v.at.next ≡ row_of v.row
  pub bare : NoneIn (items_of t) k v.at.next

abbrev pub FoundSays :
    Lent → ℕ → ℕ → given.Known → List ℕ → Result Turn NoRecord → given.Known → List ℕ → Type 0
FoundSays t k s ks out (Ok v) ks' out' = ValueReached t k s ks out v ks' out'
FoundSays t k s ks out (Err e) ks' out' =
    (open_from d : ℕ) → walk (put_value base open_from d) (known_in ks) (items_of t) k ≡ NoMessage

pub record FoundMet
    (t : Lent) (k s : ℕ) (ks : given.Known) (out : List ℕ)
    (r : Result Turn NoRecord) (ks' : given.Known) (out' : List ℕ) : Type 0 where
  pub says : FoundSays t k s ks out r ks' out'

-- of `put_class`, `put_definition` and `put_definitions`
abbrev pub ClassWritten :
    (t : Lent) (out : List ℕ) (fields : ℕ) (at : Progress) (r : Result Size NoRecord) (out' : List ℕ) → Type 0
ClassWritten t out fields at r out' = ClassMet (items_of t) at.next fields out at.size.bytes r out'

abbrev pub DefinitionWritten :
    (t : Lent) (ks : given.Known) (out : List ℕ) (v : Turn)
    (r : Result Progress NoRecord) (ks' : given.Known) (out' : List ℕ) → Type 0
DefinitionWritten t ks out v r ks' out' =
    StepMet
    (walk (put_definition base) (known_in ks) (items_of t) v.at.next)
    (items_of t) (v.at.next + 1) v.at.size.bytes out r ks' out'

abbrev pub DefinitionsWritten :
    (t : Lent) (ks : given.Known) (out : List ℕ) (at : Progress)
    (r : Result Turn NoRecord) (ks' : given.Known) (out' : List ℕ) → Type 0
DefinitionsWritten t ks out at r ks' out' = FoundMet t at.next at.size.bytes ks out r ks' out'

-- ---- lists, maps and objects
-- 5a after the values, or nothing
abbrev pub closed : Bool → WritingAt → WritingAt
closed true o = ended o
closed false o = o

abbrev pub closing : Bool → List ℕ
closing true = 0x5a ∷ []
closing false = []

-- what is written is o of what writes the values inside: bytes, and then these values
pub record InteriorLeft
    (o : spelling.Put → WritingAt) (is : List Item) (from s : ℕ) (out : List ℕ)
    (x : Interior) (closes : Bool) (ks' : given.Known) (out' : List ℕ) : Type 0 where
  pub written : List ℕ
  pub says : (g : spelling.Put) → Drops g
      → o g ≡ behind written (closed closes (walk (left g x.contents 0) (known_in ks') is x.at.next))
  pub puts : Puts out s written out' x.at.size.bytes
  pub ready : Writable is ks' x.at.next
  pub onward : from ≤ x.at.next

abbrev pub InteriorSays :
    (spelling.Put → WritingAt) → List Item → ℕ → ℕ → List ℕ
    → Result ValueStart NoRecord → given.Known → List ℕ → Type 0
InteriorSays o is from s out (Ok (Past e)) ks' out' = ⊥
InteriorSays o is from s out (Ok (Within x closes)) ks' out' = InteriorLeft o is from s out x closes ks' out'
InteriorSays o is from s out (Err e) ks' out' = (g : spelling.Put) → Drops g → o g ≡ NoMessage

-- no value stands among the items up to those inside
abbrev pub BareIn : List Item → ℕ → Result ValueStart NoRecord → Type 0
BareIn is from (Ok (Past e)) = Unit {0}
BareIn is from (Ok (Within x closes)) = NoneIn is from x.at.next
BareIn is from (Err e) = Unit {0}

pub record InteriorMet
    (o : spelling.Put → WritingAt) (is : List Item) (from s : ℕ) (out : List ℕ)
    (r : Result ValueStart NoRecord) (ks' : given.Known) (out' : List ℕ) : Type 0 where
  pub says : InteriorSays o is from s out r ks' out'
  pub bare : BareIn is from r

-- the codes of a list, typed or not: the lowest of one byte, the counted form, the open form; of a map
abbrev pub few_code : Bool → ℕ
few_code true = 0x70
few_code false = 0x78

abbrev pub counted_code : Bool → ℕ
counted_code true = 0x56
counted_code false = 0x58

abbrev pub open_code : Bool → ℕ
open_code true = 0x55
open_code false = 0x57

abbrev pub map_code : Bool → ℕ
map_code true = 0x4d
map_code false = 0x48

-- the code of a list of n elements
abbrev pub list_code : Bool → ℕ → ℕ
list_code typed n =
    pick (ltb n 8) (few_code typed + n) (pick (ltb n base_open_from) (counted_code typed) (open_code typed))

-- the code of the list or map of the row r
abbrev pub holder_code : code.Row → ℕ
holder_code r = pick (ltb r.kind map_kind) (list_code (has_type r) r.first) (map_code (has_type r))

-- a list of n elements, a map of n pairs, of the type t where it is typed; an object of the class j with n fields: by
-- what writes the values inside
abbrev pub list_by : Bool → ℕ → ℕ → Known → List Item → ℕ → spelling.Put → WritingAt
list_by typed t n c is k g =
    walk
    (put_list base_open_from (few_code typed) (counted_code typed) (open_code typed) n (type_by typed t) (put_many g n))
    c is k

abbrev pub map_by : Bool → ℕ → ℕ → Known → List Item → ℕ → spelling.Put → WritingAt
map_by typed t n c is k g = walk (put_open (map_code typed) (type_by typed t) (put_many (put_then g g) n)) c is k

abbrev pub object_by : ℕ → ℕ → Known → List Item → ℕ → spelling.Put → WritingAt
object_by j n c is k g =
    walk
    (put_if (eqb (get_or c.classes j 0) n && ltb j (length c.classes))
    (put_then (put_bytes (object_code j)) (put_many g n)))
    c is k

-- the value at k likewise
abbrev pub plain_by : Known → List Item → ℕ → spelling.Put → WritingAt
plain_by c is k g = walk (put_plain base base_open_from (some g)) c is k

-- the elements of a list of n, from the spot on; where they are counted, their count is put first
abbrev pub elements : ℕ → Progress → Interior
elements n at = record { contents = Elements n; at = at }

abbrev pub counted : ℕ → ℕ → Result Size NoRecord → Result ValueStart NoRecord
counted n p (Ok s) = Ok (Within (elements n (record { next = p; size = s })) false)
counted n p (Err e) = Err e

pub record CountWritten
    (out : List ℕ) (n : ℕ) (at : Progress) (r : Result ValueStart NoRecord) (out' : List ℕ) : Type 0 where
  pub few : n < 8 → (r ≡ Ok (Within (elements n at) false)) × (out' ≡ out)
  pub long : 8 ≤ n → base_open_from ≤ n → (r ≡ Ok (Within (elements n at) true)) × (out' ≡ out)
  pub many : 8 ≤ n → n < base_open_from
      → (x : Result Size NoRecord) × PutMet (shortest_int n) out at.size.bytes x out' × (r ≡ counted n at.next x)

-- the list or map of the row r
pub record ListOrMapMet
    (v : code.Row) (ks : given.Known) (is : List Item) (k s : ℕ) (out : List ℕ)
    (r : Result ValueStart NoRecord) (ks' : given.Known) (out' : List ℕ) : Type 0 where
  pub list : v.kind < map_kind
      → InteriorMet (list_by (has_type v) v.second v.first (known_in ks) is k) is k s out r ks' out'
  pub map : map_kind ≤ v.kind
      → InteriorMet (map_by (has_type v) v.second v.first (known_in ks) is k) is k s out r ks' out'

-- an object's fields begin at the index k, which is within the items
pub record ObjectMet
    (j n : ℕ) (ks : given.Known) (k s : ℕ) (out : List ℕ)
    (r : Result ValueStart NoRecord) (out' : List ℕ) : Type 0 where
  pub says : (is : List Item) → Writable is ks k
      → InteriorMet (object_by j n (known_in ks) is k) is k s out r ks out'

-- the kind of a list, map or object
pub record HolderKind (kind : ℕ) : Type 0 where
  pub from : list_kind ≤ kind
  pub to : kind ≤ object_kind

-- the item of a list, map or object
abbrev pub HolderAt : List Item → ℕ → Result ValueStart NoRecord → Type 0
HolderAt is k (Ok (Past e)) = Unit {0}
HolderAt is k (Ok (Within x closes)) = (v : Value) × At is k (Val v)
HolderAt is k (Err e) = Unit {0}

pub record HolderMet
    (ks : given.Known) (is : List Item) (k s : ℕ) (out : List ℕ)
    (r : Result ValueStart NoRecord) (ks' : given.Known) (out' : List ℕ) : Type 0 where
  pub opens : InteriorMet (plain_by (known_in ks) is k) is (k + 1) s out r ks' out'
  pub at : HolderAt is k r

-- of `put_object`, `put_list_or_map` and `put_holder`
abbrev pub ObjectBegun :
    (ks : given.Known) (out : List ℕ) (v : Turn) (r : Result ValueStart NoRecord) (out' : List ℕ) → Type 0
ObjectBegun ks out v r out' = ObjectMet v.row.first v.row.second ks v.at.next v.at.size.bytes out r out'

abbrev pub ListOrMapBegun :
    (t : Lent) (ks : given.Known) (out : List ℕ) (v : Turn)
    (r : Result ValueStart NoRecord) (ks' : given.Known) (out' : List ℕ) → Type 0
ListOrMapBegun t ks out v r ks' out' =
    ListOrMapMet v.row ks (items_of t) v.at.next v.at.size.bytes out r ks' out'

abbrev pub HolderBegun :
    (t : Lent) (ks : given.Known) (out : List ℕ) (v : Turn)
    (r : Result ValueStart NoRecord) (ks' : given.Known) (out' : List ℕ) → Type 0
HolderBegun t ks out v r ks' out' = HolderMet ks (items_of t) v.at.next v.at.size.bytes out r ks' out'

-- ---- values
-- what is written is o: bytes, and then the values of a list, map or object, where d more may open
pub record ValuesLeft
    (o : WritingAt) (d : ℕ) (is : List Item) (from s : ℕ) (out : List ℕ)
    (x : Interior) (closes : Bool) (ks' : given.Known) (out' : List ℕ) : Type 0 where
  pub written : List ℕ
  pub says : o ≡ behind written
      (closed closes (walk (left (put_value base base_open_from (d - 1)) x.contents 0) (known_in ks') is x.at.next))
  pub puts : Puts out s written out' x.at.size.bytes
  pub ready : Writable is ks' x.at.next
  pub onward : from ≤ x.at.next
  pub open_one : 0 < d

abbrev pub BeginSays :
    WritingAt → ℕ → List Item → ℕ → ℕ → List ℕ → Result ValueStart NoRecord → given.Known → List ℕ → Type 0
BeginSays o d is from s out (Ok (Past e)) ks' out' = WrittenUpTo o is from s out e ks' out'
BeginSays o d is from s out (Ok (Within x closes)) ks' out' = ValuesLeft o d is from s out x closes ks' out'
BeginSays o d is from s out (Err e) ks' out' = o ≡ NoMessage

pub record BeginMet
    (o : WritingAt) (d : ℕ) (is : List Item) (from s : ℕ) (out : List ℕ)
    (r : Result ValueStart NoRecord) (ks' : given.Known) (out' : List ℕ) : Type 0 where
  pub says : BeginSays o d is from s out r ks' out'

-- the value of the row k: one that holds no others, or its item, and no value before those inside
abbrev pub HeldIn : List Item → ℕ → Result ValueStart NoRecord → Type 0
HeldIn is k (Ok (Past e)) = (e.next ≡ k + 1) × ((v : Value) → At is k (Val v) → holding v ≡ true → ⊥)
HeldIn is k (Ok (Within x closes)) = ((v : Value) × At is k (Val v)) × NoneIn is (k + 1) x.at.next
HeldIn is k (Err e) = Unit {0}

pub record RowMet
    (d : ℕ) (is : List Item) (ks : given.Known) (k s : ℕ) (out : List ℕ)
    (r : Result ValueStart NoRecord) (ks' : given.Known) (out' : List ℕ) : Type 0 where
  pub met :
      BeginMet
      (walk (put_plain base base_open_from (below base base_open_from d)) (known_in ks) is k)
      d is (k + 1) s out r ks' out'
  pub held : HeldIn is k r

-- the values from p on are those of the list, map or object of a row between k and p, whose fifth number is `last`
pub record InteriorOf
    (rs : List Row) (is : List Item) (d k : ℕ) (x : Contents) (last p : ℕ) (c : Known) : Type 0 where
  pub row : ℕ
  pub value : Value
  pub stands : At is row (Val value)
  pub last_is : last ≡ (row_at rs row).after
  pub before : NoneIn is k row
  pub between : NoneIn is (row + 1) p
  pub ends : (w : List ℕ) (e : ℕ) (c' : Known)
      → walk (left (put_value base base_open_from (d - 1)) x 0) c is p ≡ WrittenTo w e c'
      → row + span (Val value) (drop (suc row) is) ≡ e

abbrev pub EnterSays :
    List Row → WritingAt → ℕ → List Item → ℕ → ℕ → List ℕ → ValueStart → ℕ → given.Known → List ℕ → Type 0
EnterSays rs o d is k s out (Past e) last ks' out' =
    WrittenUpTo o is (k + 1) s out e ks' out' × Rights rs is k e.next
EnterSays rs o d is k s out (Within x closes) last ks' out' =
    ValuesLeft o d is (k + 1) s out x closes ks' out'
    × InteriorOf rs is d k x.contents last x.at.next (known_in ks')

abbrev pub EnteredSays :
    List Row → WritingAt → ℕ → List Item → ℕ → ℕ → List ℕ
    → Result Entered NoRecord → given.Known → List ℕ → Type 0
EnteredSays rs o d is k s out (Ok r) ks' out' = EnterSays rs o d is k s out r.start r.after ks' out'
EnteredSays rs o d is k s out (Err e) ks' out' = o ≡ NoMessage

pub record EnterMet
    (rs : List Row) (o : WritingAt) (d : ℕ) (is : List Item) (k s : ℕ) (out : List ℕ)
    (r : Result Entered NoRecord) (ks' : given.Known) (out' : List ℕ) : Type 0 where
  pub says : EnteredSays rs o d is k s out r ks' out'

-- values, with the fifth numbers of the lists, maps and objects among them
abbrev pub ValuesSay :
    List Row → WritingAt → List Item → ℕ → ℕ → List ℕ
    → Result Progress NoRecord → given.Known → List ℕ → Type 0
ValuesSay rs o is from s out (Ok e) ks' out' = WrittenUpTo o is from s out e ks' out' × Rights rs is from e.next
ValuesSay rs o is from s out (Err e) ks' out' = (o ≡ NoMessage) ⊎ Wrong rs is

pub record ValuesMet
    (rs : List Row) (o : WritingAt) (is : List Item) (from s : ℕ) (out : List ℕ)
    (r : Result Progress NoRecord) (ks' : given.Known) (out' : List ℕ) : Type 0 where
  pub says : ValuesSay rs o is from s out r ks' out'

-- of `begin_row`, `begin` and `write_values`, where d more lists, maps and objects may open
abbrev pub RowBegun :
    (t : Lent) (ks : given.Known) (out : List ℕ) (v : Turn) (d : ℕ)
    (r : Result ValueStart NoRecord) (ks' : given.Known) (out' : List ℕ) → Type 0
RowBegun t ks out v d r ks' out' = RowMet d (items_of t) ks v.at.next v.at.size.bytes out r ks' out'

abbrev pub ValueBegun :
    (t : Lent) (ks : given.Known) (out : List ℕ) (at : Progress) (d : ℕ)
    (r : Result Entered NoRecord) (ks' : given.Known) (out' : List ℕ) → Type 0
ValueBegun t ks out at d r ks' out' =
    EnterMet
    t.rows (walk (put_value base base_open_from d) (known_in ks) (items_of t) at.next)
    d (items_of t) at.next at.size.bytes out r ks' out'

abbrev pub ValuesWritten :
    (t : Lent) (ks : given.Known) (out : List ℕ) (v : Interior) (d : ℕ)
    (r : Result Progress NoRecord) (ks' : given.Known) (out' : List ℕ) → Type 0
ValuesWritten t ks out v d r ks' out' =
    ValuesMet
    t.rows (walk (left (put_value base base_open_from d) v.contents 0) (known_in ks) (items_of t) v.at.next)
    (items_of t) v.at.next v.at.size.bytes out r ks' out'

-- ---- messages
-- the rows lent have the shortest message o, or none
pub record WritesInto
    (o : Option (List ℕ)) (out : List ℕ) (r : Result ℕ WriteError) (out' : List ℕ) : Type 0 where
  pub says : report r ≡ write_numbers (fitted base (length out) o)
  pub holds : out' ≡ output_written out (fitted base (length out) o)

-- What the contracts inside the reader say, over record's laws of a reader at a place of the whole message. None of it
-- has to be believed.
--
-- m is the message, t the numbers that are lent for rows, K what keeping a row makes of them, and ks what is known, as
-- the code keeps it; t' and ks' are the same afterwards. s and s' are where reading is before and after.
use Rattle.std.specs.Prelude.{◌≡◌, ℕ, ◌+◌, ◌-◌, ◌^◌, ◌<◌, ◌≤◌, ◌≢◌, ◌⊎◌, false, List, [], ◌∷◌, map, length, ◌==◌, slice_index, slice_get}
use Rattle.std.specs.Prelude.{Some, None, Result, Ok, Err, IfOk}
use Rattle.std.specs.declared.option.Option as code-option
use Rattle.std.proofs.Math.Option.{Option, none, some}
use Rattle.scalar.specs.Scalars.{DoubleRule, Floats}
use Rattle.flow.specs.Flow.{Bytes, Done, One, byte_at, overlay}
use Rattle.scalar.specs.declared.Lead.{Lead}
use Rattle.scalar.specs.declared.Lead.TheVariants as lead
use Rattle.scalar.specs.declared.Sort.TheVariants.{Int}
use Rattle.scalar.specs.declared.Encoding.TheVariants.{Utf8}
use Rattle.scalar.specs.declared.refusals.Refusal.{Refusal}
use Rattle.scalar.specs.declared.refusals.Refusal.TheVariants.{Negative, Ungiven, Ceiling}
use Rattle.scalar.specs.declared.refusals.Refused.{Refused}
use Rattle.scalar.specs.Refusals.{number_of, fault}
use Rattle.scalar.specs.Scalars.{is_text}
use Rattle.scalar.specs.Chart.{lead_of}
use Rattle.scalar.specs.Answers.{number_at}
use Rattle.numbers.specs.declared.NumberPassed.{NumberPassed}
use Rattle.texts.specs.Answers.{StringHas}
use Rattle.record.specs.declared.Group.{Group}
use Rattle.record.specs.declared.Group.TheVariants.{Counted, Fields, Open}
use Rattle.record.specs.declared.known.Known as code
use Rattle.record.specs.Model.Kinds.{class_name_kind, type_name_kind, type_number_kind}
use Rattle.record.specs.Model.KindNumbers.{kind_number}
use Rattle.record.specs.Model.Items.{Item, Definition, Known, start, opened, typed, defined}
use Rattle.record.specs.Model.Reading.{type_from, definition, value_from}
use Rattle.record.specs.Model.Rows.{Row, row}
use Rattle.record.specs.Model.Answers.{Layout, Refuse, read, base, lent_rows, length_answered}
use Rattle.record.specs.Model.Calls.{ReadCall}
use Rattle.record.specs.ForReader.ReadingAt.{ReadingAt, ReadTo, RefusedAt, run, front, on, topped, numbered}
use Rattle.record.specs.Model.Terms.{row_in_thousandths}
use Rattle.record.specs.ForReader.Retelling.{HeldRows}
use Rattle.record.specs.ForReader.ReadLoops.{rest, parts}
use Rattle.record.specs.ForReader.ReadValues.{heading}
use Rattle.record.specs.ForReader.ReadDefinitions.{names_left, plain}
use Rattle.record.specs.Laws.KnownLaws.{known_in, Kept}
use Rattle.reader.specs.declared.Filled.{Filled}
use Rattle.reader.specs.declared.ReadError.{ReadError}
use Rattle.reader.specs.declared.Spot.{Spot}
use Rattle.reader.specs.declared.heads.TypeItem.{TypeItem}
use Rattle.reader.specs.declared.heads.TypeItem.TheVariants.{Untyped, Named, Numbered}
use Rattle.reader.specs.declared.heads.TypeRead.{TypeRead}
use Rattle.record.specs.declared.kinds.Kind.{Kind}
use Rattle.reader.specs.declared.heads.Leaf.{Leaf}
use Rattle.reader.specs.declared.heads.Head.{Head}
use Rattle.reader.specs.declared.heads.Head.TheVariants as head
use Rattle.reader.specs.declared.definitions.ClassRead.{ClassRead}
use Rattle.reader.specs.declared.values.Holder.{Holder}
use Rattle.reader.specs.declared.values.Beginning.{Beginning}
use Rattle.reader.specs.declared.values.ValuesRead.{ValuesRead}
use Rattle.reader.specs.Answers.{fill_report}
use Rattle.reader.specs.Slots.{Keeping, keep_all, RowRead}

-- ---- refusals
abbrev pub refused : Refusal → ℕ → Refused
refused x p = record { refusal = x; place = p }

-- what a reading is that is refused so
abbrev pub lost : {A : Type 0} → Refused → ReadingAt A
lost r = RefusedAt (number_of r.refusal) r.place

-- ---- places
-- a place of a message of bytes
pub record PlaceIn (m : List ℕ) (p : ℕ) : Type 0 where
  pub bytes : Bytes m
  pub within : p ≤ length m

-- where reading can be, with no more rows and references so far than bytes
pub record ReadyAt (m : List ℕ) (ks : code.Known) (s : Spot) : Type 0 where
  pub at : PlaceIn m s.at
  pub kept : Kept ks
  pub rows_few : s.row ≤ s.at
  pub references_few : ks.references ≤ s.at

-- a byte stands at p, and opens this
pub record LeadAt (m : List ℕ) (p : ℕ) (x : Lead) : Type 0 where
  pub bytes : Bytes m
  pub inside : p < length m
  pub lead : lead_of (slice_index m p) ≡ x

-- it opens no text
pub record NoName (m : List ℕ) (p : ℕ) : Type 0 where
  pub bytes : Bytes m
  pub inside : p < length m
  pub lead : is_text (slice_index m p) ≡ false

-- it opens a list or map
abbrev pub IsListOrMap : Lead → Type 0
IsListOrMap (lead.Number s) = ⊥
IsListOrMap lead.Text = ⊥
IsListOrMap lead.Bytes = ⊥
IsListOrMap lead.List = Unit {0}
IsListOrMap lead.TypedList = Unit {0}
IsListOrMap lead.Map = Unit {0}
IsListOrMap lead.TypedMap = Unit {0}
IsListOrMap lead.Object = ⊥
IsListOrMap lead.Reference = ⊥
IsListOrMap lead.Definition = ⊥
IsListOrMap lead.Close = ⊥
IsListOrMap lead.Reserved = ⊥

-- ---- rows from the row k on are kept
pub record StoresRows (K : Keeping) (m t : List ℕ) (k : ℕ) (rs : List Row) (t' : List ℕ) : Type 0 where
  pub kept : t' ≡ keep_all K m t k (numbered k rs)

-- the rows rs were read, and are kept
pub record ReadsRows (K : Keeping) (m t : List ℕ) (s s' : Spot) (t' : List ℕ) (ks' : code.Known) (rs : List Row)
    : Type 0 where
  pub counted : s'.row ≡ s.row + length rs
  pub stores : StoresRows K m t s.row rs t'
  pub onward : s.at ≤ s'.at
  pub ready : ReadyAt m ks' s'

-- ---- counts
-- a negative one; more than the fields of a class may be
pub record IsNegative (m : List ℕ) (p : ℕ) (r : Refused) : Type 0 where
  pub size : ℕ
  pub value : ℕ
  pub is : number_at Int m p ≡ Done size value [] tt
  pub below : 2 ^ 63 ≤ value
  pub refusal : r ≡ refused Negative p

pub record IsWide (m : List ℕ) (p : ℕ) (r : Refused) : Type 0 where
  pub size : ℕ
  pub value : ℕ
  pub is : number_at Int m p ≡ Done size value [] tt
  pub above : base.fields < value
  pub plain : value < 2 ^ 63
  pub refusal : r ≡ refused Ceiling p

-- the count at p, below a limit
pub record CountIs (m : List ℕ) (p limit : ℕ) (n : NumberPassed) : Type 0 where
  pub is : number_at Int m p ≡ Done n.size n.value [] tt
  pub few : n.value < limit
  pub some : 0 < n.size
  pub within : p + n.size ≤ length m

abbrev pub CountSays : List ℕ → ℕ → Result NumberPassed Refused → Type 0
CountSays m p (Ok n) = CountIs m p (2 ^ 63) n
CountSays m p (Err r) = (number_at Int m p ≡ fault r) ⊎ IsNegative m p r

pub record CountMet (m : List ℕ) (p : ℕ) (r : Result NumberPassed Refused) : Type 0 where
  pub says : CountSays m p r

-- ---- types
-- the type number, where so many are given; the rows of the type at p; what is known after it
abbrev pub type_of : ℕ → TypeItem → code-option.Option ℕ
type_of given Untyped = None
type_of given (Named u b) = Some given
type_of given (Numbered k) = Some k

abbrev pub type_rows : ℕ → TypeItem → List Row
type_rows p Untyped = []
type_rows p (Named u b) = row type_name_kind p u b 1 ∷ []
type_rows p (Numbered k) = row type_number_kind p k 0 1 ∷ []

abbrev pub typed_by : TypeItem → Known → Known
typed_by Untyped c = c
typed_by (Named u b) c = typed c
typed_by (Numbered k) c = c

-- one more type number may be given
abbrev pub TypeRoom : TypeItem → ℕ → Type 0
TypeRoom Untyped given = Unit {0}
TypeRoom (Named u b) given = given < base.types
TypeRoom (Numbered k) given = Unit {0}

-- its name was read
abbrev pub TypeNamed : List ℕ → ℕ → TypeItem → Type 0
TypeNamed m p Untyped = Unit {0}
TypeNamed m p (Named u b) = StringHas Utf8 m p u b
TypeNamed m p (Numbered k) = Unit {0}

-- the type at p is read, where so many types are given
pub record TypeIs (m : List ℕ) (given p : ℕ) (t : TypeRead) : Type 0 where
  pub number : ℕ
  pub numbered : type_of given t.of ≡ Some number
  pub says :
      (c : Known) → c.types ≡ given
      → run (byte_at (type_from base)) c m p ≡ ReadTo t.next number (type_rows p t.of) (typed_by t.of c)
  pub room : TypeRoom t.of given
  pub longer : p + length (type_rows p t.of) ≤ t.next
  pub within : t.next ≤ length m
  pub named : TypeNamed m p t.of

abbrev pub TypeReadSays : List ℕ → ℕ → ℕ → Result TypeRead Refused → Type 0
TypeReadSays m given p (Ok t) = TypeIs m given p t
TypeReadSays m given p (Err r) = (c : Known) → c.types ≡ given → run (byte_at (type_from base)) c m p ≡ lost r

pub record TypeReadMet (m : List ℕ) (given p : ℕ) (r : Result TypeRead Refused) : Type 0 where
  pub says : TypeReadSays m given p r

-- a list, map or object of this type opens: its type's number
pub record EntersHolder (ks : code.Known) (of : TypeItem) (n : code-option.Option ℕ) (ks' : code.Known) : Type 0 where
  pub number : n ≡ type_of ks.types of
  pub known : known_in ks' ≡ typed_by of (opened (known_in ks))
  pub kept : Kept ks'
  pub references : ks'.references ≡ ks.references + 1

-- ---- heads
-- the item of a list, map or object, by its type's number and how many it has
abbrev pub as_option : code-option.Option ℕ → Option ℕ
as_option None = none
as_option (Some n) = some n

abbrev pub headed_by : Group → code-option.Option ℕ → ℕ → Item
headed_by g number n = heading g (as_option number) n

-- what the list, map or object at p reads as, after what stands before its values, which are read from q on where c is
-- known; d: how many containers may open within it; ys: the rows of its type
abbrev pub holder_read : List ℕ → Known → ℕ → ℕ → Group → ℕ → List Row → code-option.Option ℕ → ReadingAt One
holder_read m c p d g q ys number =
    topped p (headed_by g number) (front ys (run (rest (value_from Floats base d) g 0) c m q))

-- a leaf by its parts; its row at p, before the row e
abbrev pub leaf_of : Kind → ℕ → ℕ → ℕ → Leaf
leaf_of k x y q = record { kind = k; first = x; second = y; next = q }

abbrev pub leaf_row : ℕ → Leaf → ℕ → Row
leaf_row p l e = row (kind_number l.kind) p l.first l.second e

-- the value at p, with no definitions before it, by its head, where c is known; d: how many containers may open
abbrev pub read_by_head : List ℕ → Known → ℕ → ℕ → Result Head Refused → ReadingAt One
read_by_head m c p d (Ok (head.Leaf l)) = ReadTo l.next tt (leaf_row p l 1 ∷ []) c
read_by_head m c p d (Ok (head.Holder g q of)) =
    holder_read m (typed_by of (opened c)) p (d - 1) g q (type_rows (p + 1) of) (type_of c.types of)
read_by_head m c p d (Ok head.Definition) = RefusedAt 3 p
read_by_head m c p d (Err r) = lost r

-- how far the head goes, and what may open
abbrev pub HeadGoes : List ℕ → Known → ℕ → ℕ → Result Head Refused → Type 0
HeadGoes m c p d (Ok (head.Leaf l)) = (p < l.next) × (l.next ≤ length m)
HeadGoes m c p d (Ok (head.Holder g q of)) =
    (0 < d) × TypeRoom of c.types
    × (p + 1 + length (type_rows (p + 1) of) ≤ q) × (q ≤ length m)
HeadGoes m c p d (Ok head.Definition) = ⊥
HeadGoes m c p d (Err r) = Unit {0}

-- the texts and byte strings that its rows name
abbrev pub HeadRows : List ℕ → ℕ → Result Head Refused → Type 0
HeadRows m p (Ok (head.Leaf l)) = (e : ℕ) → RowRead m (leaf_row p l e)
HeadRows m p (Ok (head.Holder g q of)) = TypeNamed m (p + 1) of
HeadRows m p (Ok head.Definition) = Unit {0}
HeadRows m p (Err r) = Unit {0}

pub record HeadIs (m : List ℕ) (c : Known) (p d : ℕ) (r : Result Head Refused) : Type 0 where
  pub says : run (byte_at (plain base d)) c m p ≡ read_by_head m c p d r
  pub goes : HeadGoes m c p d r
  pub named : HeadRows m p r

-- whatever is known, and however many may open; where c is known; where c is known, and one more may open
pub record LeafHeadMet (m : List ℕ) (p : ℕ) (r : Result Head Refused) : Type 0 where
  pub heads : (d : ℕ) (c : Known) → HeadIs m c p d r

pub record PlainHeadMet (m : List ℕ) (c : Known) (p : ℕ) (r : Result Head Refused) : Type 0 where
  pub heads : (d : ℕ) → HeadIs m c p d r

pub record HolderHeadMet (m : List ℕ) (c : Known) (p : ℕ) (r : Result Head Refused) : Type 0 where
  pub heads : (d : ℕ) → 0 < d → HeadIs m c p d r

-- what stands at p: a class definition, or a value, and then 43 does not stand there
abbrev pub NoDefinition : List ℕ → ℕ → Type 0
NoDefinition m p = p < length m → (slice_index m p == 0x43) ≡ false

abbrev pub HeadAtSays : List ℕ → Known → ℕ → ℕ → Result Head Refused → Type 0
HeadAtSays m c p d (Ok (head.Leaf l)) = HeadIs m c p d (Ok (head.Leaf l)) × NoDefinition m p
HeadAtSays m c p d (Ok (head.Holder g q of)) = HeadIs m c p d (Ok (head.Holder g q of)) × NoDefinition m p
HeadAtSays m c p d (Ok head.Definition) = LeadAt m p lead.Definition
HeadAtSays m c p d (Err r) = HeadIs m c p d (Err r) × NoDefinition m p

pub record HeadAtMet (m : List ℕ) (c : Known) (p d : ℕ) (r : Result Head Refused) : Type 0 where
  pub says : HeadAtSays m c p d r

-- a value with none inside, whatever is known and however many may open
pub record UsualLeaf (m : List ℕ) (p : ℕ) (l : Leaf) : Type 0 where
  pub heads : (c : Known) (d : ℕ) → HeadAtMet m c p d (Ok (head.Leaf l))

-- its row can be kept; it is kept, and reading is past it
pub record LeafFits (m : List ℕ) (s : Spot) (l : Leaf) : Type 0 where
  pub row : RowRead m (leaf_row s.at l (s.row + 1))
  pub few : s.row + 1 < 2 ^ 64

pub record KeepsLeaf (K : Keeping) (m t : List ℕ) (s : Spot) (l : Leaf) (b : Beginning) (t' : List ℕ) : Type 0 where
  pub is : b ≡ record { holder = None; next = record { at = l.next; row = s.row + 1 } }
  pub keeps : t' ≡ K m t s.row (leaf_row s.at l (s.row + 1))

-- a list of this type with the count that was read at p
abbrev pub holder_of : TypeItem → ℕ → Result NumberPassed Refused → Result Head Refused
holder_of of p (Ok n) = Ok (head.Holder (Counted n.value) (p + n.size) of)
holder_of of p (Err r) = Err r

-- lists, by their first byte b: the open form, the counted form after it, the one-byte forms; the count or the values
-- are at p
pub record ListAt (m : List ℕ) (p b open_code few : ℕ) : Type 0 where
  pub at : PlaceIn m p
  pub code : open_code + 1 < 256
  pub among : (b ≢ open_code) → (b ≢ open_code + 1) → few ≤ b

pub record ListMet (m : List ℕ) (p : ℕ) (of : TypeItem) (b open_code few : ℕ) (r : Result Head Refused) : Type 0 where
  pub opens : b ≡ open_code → r ≡ Ok (head.Holder Open p of)
  pub counts : b ≡ open_code + 1 → (n : Result NumberPassed Refused) × CountMet m p n × (r ≡ holder_of of p n)
  pub fews :
      (b ≢ open_code) → (b ≢ open_code + 1)
      → r ≡ Ok (head.Holder (Counted (b - few)) p of)

-- an object of the class k, whose code stands at p and whose fields, if the class is given, begin at q
abbrev pub instance_by : ℕ → ℕ → ℕ → code-option.Option ℕ → Result Head Refused
instance_by p k q None = Err (refused Ungiven p)
instance_by p k q (Some n) = Ok (head.Holder (Fields k n) q Untyped)

abbrev pub instance_of : Known → ℕ → ℕ → ℕ → Result Head Refused
instance_of c p k q = instance_by p k q (slice_get c.classes k)

-- ---- a definition or a value, read whole: o is what the reading gives
pub record ReadsOne (K : Keeping) (o : ReadingAt One) (m t : List ℕ) (s s' : Spot) (t' : List ℕ) (ks' : code.Known)
    : Type 0 where
  pub rows : List Row
  pub says : o ≡ ReadTo s'.at tt rows (known_in ks')
  pub reads : ReadsRows K m t s s' t' ks' rows
  pub forward : s.at < s'.at

-- ---- class definitions
-- the field count at p
abbrev pub FieldCountSays : List ℕ → ℕ → Result NumberPassed Refused → Type 0
FieldCountSays m p (Ok n) = CountIs m p (base.fields + 1) n
FieldCountSays m p (Err r) = (number_at Int m p ≡ fault r) ⊎ (IsNegative m p r ⊎ IsWide m p r)

pub record FieldCountMet (m : List ℕ) (p : ℕ) (r : Result NumberPassed Refused) : Type 0 where
  pub says : FieldCountSays m p r

-- a class's name and field count, after the 43 at p: what is left are its field names
pub record ClassIs (m : List ℕ) (c : Known) (p : ℕ) (x : ClassRead) : Type 0 where
  pub says :
      run (definition base p) c m (p + 1)
      ≡ topped p Definition
      (front (row class_name_kind (p + 1) x.units x.bytes 1 ∷ [])
      (on (run (names_left x.fields 0) c m x.next) (λ e k c'. ReadTo e x.fields [] (defined x.fields c'))))
  pub few : x.fields ≤ base.fields
  pub free : length c.classes < base.classes
  pub onward : p + 2 < x.next
  pub within : x.next ≤ length m
  pub named : StringHas Utf8 m (p + 1) x.units x.bytes

abbrev pub ClassReadSays : List ℕ → Known → ℕ → Result ClassRead Refused → Type 0
ClassReadSays m c p (Ok x) = ClassIs m c p x
ClassReadSays m c p (Err r) = run (definition base p) c m (p + 1) ≡ lost r

pub record ClassReadMet (m : List ℕ) (c : Known) (p : ℕ) (r : Result ClassRead Refused) : Type 0 where
  pub says : ClassReadSays m c p r

-- the n field names from s on are read
pub record NamesAre (K : Keeping) (m t : List ℕ) (s : Spot) (n : ℕ) (s' : Spot) (t' : List ℕ) : Type 0 where
  pub rows : List Row
  pub says : (c : Known) → run (names_left n 0) c m s.at ≡ ReadTo s'.at n rows c
  pub counted : length rows ≡ n
  pub reached : s'.row ≡ s.row + n
  pub stores : StoresRows K m t s.row rows t'
  pub onward : s.at + n ≤ s'.at
  pub within : s'.at ≤ length m

abbrev pub NamesReadSays : Keeping → List ℕ → List ℕ → Spot → ℕ → Result Spot Refused → List ℕ → Type 0
NamesReadSays K m t s n (Ok s') t' = NamesAre K m t s n s' t'
NamesReadSays K m t s n (Err r) t' = (c : Known) → run (names_left n 0) c m s.at ≡ lost r

pub record NamesReadMet (K : Keeping) (m t : List ℕ) (s : Spot) (n : ℕ) (r : Result Spot Refused) (t' : List ℕ)
    : Type 0 where
  pub says : NamesReadSays K m t s n r t'

-- the definition whose 43 is at s
abbrev pub DefinitionReadSays :
    Keeping → ReadingAt One → List ℕ → List ℕ → Spot → Result Spot Refused → List ℕ → code.Known → Type 0
DefinitionReadSays K o m t s (Ok s') t' ks' = ReadsOne K o m t s s' t' ks'
DefinitionReadSays K o m t s (Err r) t' ks' = o ≡ lost r

pub record DefinitionReadMet
    (K : Keeping) (m t : List ℕ) (ks : code.Known) (s : Spot)
    (r : Result Spot Refused) (t' : List ℕ) (ks' : code.Known) : Type 0 where
  pub says : DefinitionReadSays K (run (definition base s.at) (known_in ks) m (s.at + 1)) m t s r t' ks'

-- ---- values
-- a list, map or object of this type can open at s, its values beginning at q
pub record HolderFits (m : List ℕ) (ks : code.Known) (s : Spot) (q : ℕ) (of : TypeItem) : Type 0 where
  pub kept : Kept ks
  pub room : TypeRoom of ks.types
  pub references_few : ks.references ≤ s.at
  pub rows_few : s.row ≤ s.at
  pub longer : s.at + 1 + length (type_rows (s.at + 1) of) ≤ q
  pub fits : q < 2 ^ 64
  pub named : TypeNamed m (s.at + 1) of

-- it opens, and the rows of its type are kept
pub record OpensHolder
    (K : Keeping) (m t : List ℕ) (ks : code.Known)
    (s : Spot) (g : Group) (q : ℕ) (of : TypeItem)
    (r : Beginning) (t' : List ℕ) (ks' : code.Known) : Type 0 where
  pub holder : r.holder ≡ Some (record { spot = s; group = g; type_number = type_of ks.types of })
  pub next : r.next ≡ record { at = q; row = s.row + 1 + length (type_rows (s.at + 1) of) }
  pub entered : EntersHolder ks of (type_of ks.types of) ks'
  pub stores : StoresRows K m t (s.row + 1) (type_rows (s.at + 1) of) t'

-- the item of a list, map or object after i values
abbrev pub holder_item : Holder → ℕ → Item
holder_item h i = headed_by h.group h.type_number (parts h.group i)

-- the value at s is read up to the values inside it: it is the list, map or object h, its values begin at s', and d
-- containers may open where it stands; o is what the reading of all of it gives
pub record ReadsToValues
    (K : Keeping) (o : ReadingAt One) (m t : List ℕ)
    (s : Spot) (d : ℕ) (h : Holder) (s' : Spot) (t' : List ℕ) (ks' : code.Known) : Type 0 where
  -- the rows before its own, and those of its type
  pub before : List Row
  pub inner : List Row
  pub says : o ≡ front before (holder_read m (known_in ks') h.spot.at (d - 1) h.group s'.at inner h.type_number)
  pub first : h.spot.row ≡ s.row + length before
  pub counted : s'.row ≡ h.spot.row + 1 + length inner
  pub between : List ℕ
  pub stores_before : StoresRows K m t s.row before between
  pub stores : StoresRows K m between (h.spot.row + 1) inner t'
  pub onward : s.at ≤ h.spot.at
  pub deeper : h.spot.at < s'.at
  pub open_one : 0 < d
  pub ready : ReadyAt m ks' s'

abbrev pub BegunSays :
    Keeping → ReadingAt One → List ℕ → List ℕ → Spot → ℕ
    → code-option.Option Holder → Spot → List ℕ → code.Known → Type 0
BegunSays K o m t s d None s' t' ks' = ReadsOne K o m t s s' t' ks'
BegunSays K o m t s d (Some h) s' t' ks' = ReadsToValues K o m t s d h s' t' ks'

abbrev pub BeginningSays :
    Keeping → ReadingAt One → List ℕ → List ℕ → Spot → ℕ → Result Beginning Refused → List ℕ → code.Known → Type 0
BeginningSays K o m t s d (Ok b) t' ks' = BegunSays K o m t s d b.holder b.next t' ks'
BeginningSays K o m t s d (Err r) t' ks' = o ≡ lost r

pub record BeginningMet
    (K : Keeping) (m t : List ℕ) (ks : code.Known) (s : Spot) (d : ℕ)
    (r : Result Beginning Refused) (t' : List ℕ) (ks' : code.Known) : Type 0 where
  pub says : BeginningSays K (run (byte_at (value_from Floats base d)) (known_in ks) m s.at) m t s d r t' ks'

-- the values of a group from s on are read; o is what the reading gives
pub record ValuesAre
    (K : Keeping) (o : ReadingAt ℕ) (m t : List ℕ)
    (s : Spot) (g : Group) (v : ValuesRead) (t' : List ℕ) (ks' : code.Known) : Type 0 where
  pub rows : List Row
  pub says : o ≡ ReadTo v.next.at (parts g v.count) rows (known_in ks')
  pub reads : ReadsRows K m t s v.next t' ks' rows

abbrev pub ValuesReadSays :
    Keeping → ReadingAt ℕ → List ℕ → List ℕ → Spot → Group → Result ValuesRead Refused → List ℕ → code.Known → Type 0
ValuesReadSays K o m t s g (Ok v) t' ks' = ValuesAre K o m t s g v t' ks'
ValuesReadSays K o m t s g (Err r) t' ks' = o ≡ lost r

pub record ValuesReadMet
    (K : Keeping) (m t : List ℕ) (ks : code.Known)
    (s : Spot) (g : Group) (d : ℕ)
    (r : Result ValuesRead Refused) (t' : List ℕ) (ks' : code.Known) : Type 0 where
  pub says : ValuesReadSays K (run (rest (value_from Floats base d) g 0) (known_in ks) m s.at) m t s g r t' ks'

-- ---- messages
abbrev pub message_start : Spot
message_start = record { at = 0; row = 0 }

-- the one value of the message, with nothing known before it
pub record OneValueMet (K : Keeping) (m t : List ℕ) (r : Result ValuesRead Refused) (t' : List ℕ) : Type 0 where
  pub after : code.Known
  pub says :
      ValuesReadSays K (run (rest (value_from Floats base base.containers) (Counted 1) 0) start m 0)
      m t message_start (Counted 1) r t' after

-- the message is a record of n rows, which are kept
pub record IsRecord (K : Keeping) (m t : List ℕ) (n : ℕ) (t' : List ℕ) : Type 0 where
  pub rows : List Row
  pub after : Known
  pub says : run (byte_at (value_from Floats base base.containers)) start m 0 ≡ ReadTo (length m) tt rows after
  pub counted : length rows ≡ n
  pub kept : t' ≡ keep_all K m t 0 (numbered 0 rows)
  pub some : 0 < length m
  pub short : length m ≤ base.longest

abbrev pub JudgedSays : Keeping → List ℕ → List ℕ → Result ℕ Refused → List ℕ → Type 0
JudgedSays K m t (Ok n) t' = IsRecord K m t n t'
JudgedSays K m t (Err r) t' = (lent : ℕ) → read Floats base lent m ≡ Refuse (number_of r.refusal) 0 r.place

pub record JudgedMet (K : Keeping) (m t : List ℕ) (r : Result ℕ Refused) (t' : List ℕ) : Type 0 where
  pub says : JudgedSays K m t r t'

-- the length w of the shortest message, where the message is accepted
abbrev pub length_told : ℕ → Result Filled ReadError → ℕ
length_told w (Ok f) = w
length_told w (Err e) = 0

-- the answer, and the table at the end, by the rule ρ; of the slots u that are lent for measuring, that the record's rows
-- are kept
pub record ReadIntoMet
    (K : Keeping) (L : Layout) (ρ : DoubleRule) (m t u : List ℕ)
    (r : Result Filled ReadError) (t' u' : List ℕ) : Type 0 where
  pub call : ReadCall ρ base L m t (fill_report r) t'
  pub answered : (w : ℕ) → length_told w r ≡ length_answered w (read ρ base (lent_rows L t) m)
  pub measured : IfOk r (λ (f : Filled). IsRecord K m u f.rows u')

-- ---- 2026-11: the n rows that the table T holds, in thousandths
pub record Retold (L : Layout) (m T : List ℕ) (n : ℕ) (T' : List ℕ) : Type 0 where
  pub retold : (x : HeldRows L T n)
      → T' ≡ overlay L.width L.encode x.under 0 (map (row_in_thousandths m) x.held)

-- The theorems of the holdings file, of calls that list and that add, for every sound table of versions. Terms.antt
-- has the terms; the proofs are in proofs/Proved.antt.
use mathlib.Core.{Path.◌≡◌, Logic.{◌↔◌, ◌⊎◌}, List.List, List.[], List.◌∷◌, List.◌++◌, Option.none, Option.some}
use Rattle.std.specs.Prelude.{ℕ, suc, ◌+◌, ◌*◌, ◌/◌, ◌^◌, ◌≤◌, ◌<◌, length, take, drop}
use Rattle.std.proofs.Math.ListN.{get_elem?}
use Rattle.flow.specs.RefusalNumbers.{no_room, cut_entry, beyond_version}
use Rattle.flow.specs.Flow.{Bytes, items, Report, overlay}
use Rattle.scalar.specs.Scalars.{Floats}
use Rattle.record.specs.Model.Items.{Item}
use Rattle.record.specs.Model.Rows.{rows}
use Rattle.record.specs.Model.Same.{SameRecord}
use Rattle.record.specs.Model.Terms.{Accepts}
use Rattle.holdings.specs.Files.{Rules, Versions, rules_of, header_size, entries_in, Lists, Faulty, listing_of}
use Rattle.holdings.specs.Files.{entry_of, listing}
use Rattle.holdings.specs.Answers.{answer, Placement, placements, ListLayout, listing_to_extend, appended, ListCall}
use Rattle.holdings.specs.Answers.{AddCall, AddAllCall}
use Rattle.holdings.specs.Terms.{ByFile, ByAddition, Messages, Contains, Distinct, FoundOnce, ShortensTo}
use Rattle.holdings.specs.Terms.{ShortestOfOne, SoundVersions, Enough, SoundLayout, StandsAt, IsFile}
use Rattle.holdings.specs.Terms.{HeaderFaulty, EntryFaulty, Extends}

-- ---- of a call that lists
-- the entry of number i, with the message m
pub record EntryListed (L : ListLayout) (f : List ℕ) (R : Rules) (ms : Messages) (list' : List ℕ) (i : ℕ) (m : List ℕ)
    : Type 0 where
  -- the message is accepted by the file's rules, and is its record's shortest
  pub own : ShortensTo R R m m
  -- it stands in the file where the list says
  pub placed : Placement
  pub place : get_elem? (placements header_size ms) i ≡ some placed
  pub stands : StandsAt f placed m
  pub in_list : take L.width (drop (i * L.width) list') ≡ L.encode placed

pub record AllListed (vs : Versions) (L : ListLayout) (file : List ℕ) (used : ℕ) (list : List ℕ) (r : Report)
    (list' : List ℕ) : Type 0 where
  pub rules : Rules
  pub messages : Messages
  pub lists : listing vs file used ≡ Lists rules messages
  -- the report has the entries, and the used length
  pub counted : r.count ≡ length messages
  pub used_length : r.place ≡ used
  -- no two messages are the same
  pub distinct : Distinct messages
  pub each : (i : ℕ) (m : List ℕ) → get_elem? messages i ≡ some m
      → EntryListed L (take used file) rules messages list' i m
  -- the list past them is unchanged
  pub past : drop (length messages * L.width) list' ≡ drop (length messages * L.width) list
  pub as_long : length list' ≡ length list

pub record OfList (vs : Versions) (L : ListLayout) (file : List ℕ) (used : ℕ) (work bytes list : List ℕ) (r : Report)
    (list' : List ℕ) : Type 0 where
  -- it accepts, or gives 9 or a file's refusal; a refusal changes nothing
  pub numbered : (r.number ≡ 0) ⊎ ((r.number ≡ no_room) ⊎ ByFile r.number)
  pub refused : (r.number ≡ 0 → ⊥) → list' ≡ list
  pub accepted : r.number ≡ 0 → AllListed vs L file used list r list'
  -- it accepts every file that lists, given memory and list
  pub complete : Enough vs work bytes → (R : Rules) (ms : Messages) → listing vs file used ≡ Lists R ms
      → length ms ≤ length list / L.width → r.number ≡ 0
  -- 9 with a count is for want of list: with one of so many entries it accepts
  pub needed : r.number ≡ no_room → (r.count ≡ 0 → ⊥) → (length list / L.width < r.count)
      × ((list₂ : List ℕ) → r.count ≤ length list₂ / L.width
      → (r₂ : Report) (list₂' : List ℕ) → ListCall vs L file used work bytes list₂ r₂ list₂'
      → r₂ ≡ answer 0 r.count used)

-- ---- of a file that additions left
-- an earlier entry, of number i with the message m, has its place, length and bytes
pub record EntryKept (before after : Messages) (f f' : List ℕ) (i : ℕ) (m : List ℕ) : Type 0 where
  pub placed : Placement
  pub was_listed : get_elem? (placements header_size before) i ≡ some placed
  pub is_listed : get_elem? (placements header_size after) i ≡ some placed
  pub stood : StandsAt f placed m
  pub stands : StandsAt f' placed m

pub record Grown (vs : Versions) (R : Rules) (before more : Messages) (file : List ℕ) (used : ℕ) (file' : List ℕ)
    (used' : ℕ) : Type 0 where
  -- it lists by the same rules as before, with more messages behind those it had; the used length only grows; the bytes
  -- used before and those past the used length are the same
  pub extends : Extends vs R before more file used file' used'
  pub distinct : Distinct (before ++ more)
  pub earlier : (i : ℕ) (m : List ℕ) → get_elem? before i ≡ some m
      → EntryKept before (before ++ more) (take used file) (take used' file') i m
  -- a call that lists it is accepted, given memory and list, and lists all that
  pub lists_again : (used' ≡ 0 → ⊥) → (L : ListLayout) (work bytes list : List ℕ) → Enough vs work bytes
      → length (before ++ more) ≤ length list / L.width
      → (r : Report) (list' : List ℕ) → ListCall vs L file' used' work bytes list r list'
      → (r ≡ answer 0 (length (before ++ more)) used')
      × (list' ≡ overlay L.width L.encode list 0 (placements header_size (before ++ more)))

-- ---- of a call that adds
pub record After (vs : Versions) (file : List ℕ) (used : ℕ) (m : List ℕ) (r : Report) (file' : List ℕ) : Type 0 where
  pub rules : Rules
  pub before : Messages
  pub more : Messages
  pub grown : Grown vs rules before more file used file' r.place
  pub some_used : r.place ≡ 0 → ⊥
  -- the record's shortest message by the file's rules
  pub written : List ℕ
  pub shortens : ShortensTo vs.newest rules m written
  -- the file has at most one message more, that one
  pub at_most_one : (more ≡ []) ⊎ (more ≡ written ∷ [])
  -- none where it was there: then nothing is written
  pub found_before : Contains before written → (more ≡ []) × (file' ≡ file) × (r.place ≡ used)
  -- it is found exactly once, at the number answered
  pub found : FoundOnce (before ++ more) r.count written
  -- adding any message of the same record answers the same number, and changes nothing
  pub added_again : Bytes m → (m₂ : List ℕ) → Bytes m₂
      → (is : List Item) (x : Accepts Floats vs.newest.limits m₂ is)
      → SameRecord m m₂ (rows shortens.entries) (rows x.entries)
      → (work bytes : List ℕ) → Enough vs work bytes
      → (r₂ : Report) (file₂ : List ℕ) → AddCall vs file' r.place m₂ work bytes r₂ file₂
      → (r₂ ≡ answer 0 r.count r.place) × (file₂ ≡ file')

pub record OfAdd (vs : Versions) (file : List ℕ) (used : ℕ) (m work bytes : List ℕ) (r : Report) (file' : List ℕ)
    : Type 0 where
  -- it accepts, or gives one of the numbered refusals; a refusal changes nothing
  pub numbered : (r.number ≡ 0) ⊎ ByAddition r.number
  pub refused : (r.number ≡ 0 → ⊥) → file' ≡ file
  pub accepted : r.number ≡ 0 → After vs file used m r file'
  -- it accepts every record with a shortest message by the rules of the file, given memory and room
  pub complete : Enough vs work bytes → (R : Rules) (ms : Messages) → listing_to_extend vs file used ≡ Lists R ms
      → (w : List ℕ) → ShortensTo vs.newest R m w
      → used + length (appended vs used ms w) ≤ length file → r.number ≡ 0
  -- 9 with a count is for want of room: with a buffer of so many bytes, used alike, it accepts and uses them all
  pub needed : r.number ≡ no_room → (r.count ≡ 0 → ⊥) → (length file < r.count)
      × ((file₂ : List ℕ) → take used file₂ ≡ take used file → r.count ≤ length file₂
      → (r₂ : Report) (file₂' : List ℕ) → AddCall vs file₂ used m work bytes r₂ file₂'
      → (r₂.number ≡ 0) × (r₂.place ≡ r.count))

-- ---- of a call that adds many
-- the record of index i is taken: its shortest message is found exactly once, at the number in the list
pub record RecordTaken (vs : Versions) (R : Rules) (after : Messages) (records list list' : List ℕ) (i : ℕ)
    : Type 0 where
  pub message : List ℕ
  pub entry : get_elem? (entries_in records) i ≡ some (some message)
  pub written : List ℕ
  pub shortens : ShortensTo vs.newest R message written
  pub number : ℕ
  pub found : FoundOnce after number written
  pub in_list : i < length list → get_elem? list' i ≡ some number

-- the record of index i is refused: it is cut, or a call that adds it to the file gives that number
abbrev pub RecordRefused : Versions → (records : List ℕ) (i : ℕ) → (number : ℕ) → (file : List ℕ) (used : ℕ) → Type 0
RecordRefused vs records i number file used =
    ((get_elem? (entries_in records) i ≡ some none) × (number ≡ cut_entry))
    ⊎ ((m : List ℕ) × (get_elem? (entries_in records) i ≡ some (some m))
    × ((work bytes : List ℕ) → Enough vs work bytes
    → (r : Report) (file' : List ℕ) → AddCall vs file used m work bytes r file'
    → (r.number ≡ number) × (file' ≡ file)))

pub record AfterAll (vs : Versions) (file : List ℕ) (used : ℕ) (records list : List ℕ) (r : Report)
    (file' list' : List ℕ) : Type 0 where
  pub rules : Rules
  pub before : Messages
  pub more : Messages
  pub grown : Grown vs rules before more file used file' r.place
  -- where none is taken, nothing changes
  pub none_taken : r.count ≡ 0 → (file' ≡ file) × (r.place ≡ used)
  -- at most one message more for each record taken, and each is the shortest message of one of them
  pub at_most_one : length more ≤ r.count
  pub origin : (w : List ℕ) → Contains more w
      → ShortestOfOne vs rules (entries_in records) r.count w
  pub taken : (i : ℕ) → i < r.count
      → RecordTaken vs rules (before ++ more) records list list' i
  -- all are taken, or the next is refused
  pub all : r.number ≡ 0 → r.count ≡ length (entries_in records)
  pub next : (r.number ≡ 0 → ⊥) → RecordRefused vs records r.count r.number file' r.place
  -- where all are taken, the file has what it had and the records' shortest messages, and no other
  pub holds : r.number ≡ 0 → (w : List ℕ) → Contains (before ++ more) w
      ↔ (Contains before w ⊎ ShortestOfOne vs rules (entries_in records) r.count w)
  -- the list past the numbers is unchanged
  pub past : drop r.count list' ≡ drop r.count list
  pub as_long : length list' ≡ length list

pub record OfAddAll (vs : Versions) (file : List ℕ) (used : ℕ) (records work bytes list : List ℕ) (r : Report)
    (file' list' : List ℕ) : Type 0 where
  pub numbered : (r.number ≡ 0) ⊎ ByAddition r.number
  -- too little memory, then a faulty file, are refused before any record
  pub little_memory : (Enough vs work bytes → ⊥)
      → (r ≡ answer no_room 0 0) × (file' ≡ file) × (list' ≡ list)
  pub faulty_file : Enough vs work bytes → (x p : ℕ) → listing_to_extend vs file used ≡ Faulty x p
      → (r ≡ answer x 0 p) × (file' ≡ file) × (list' ≡ list)
  -- else
  pub checked : Enough vs work bytes → (R : Rules) (ms : Messages) → listing_to_extend vs file used ≡ Lists R ms
      → AfterAll vs file used records list r file' list'

-- a call that adds many does what calls that add one do, one after the other: here the first record, and others behind
pub record OneByOne (vs : Versions) (file : List ℕ) (used : ℕ) (rest work bytes : List ℕ) (one all : Report)
    (file₁ file' : List ℕ) : Type 0 where
  -- where the first is refused, so are all, with that number, and nothing changes
  pub refused : (one.number ≡ 0 → ⊥) → (all.number ≡ one.number) × (all.count ≡ 0) × (file' ≡ file)
  -- where it is taken, what is left to do is to add the others
  pub taken : one.number ≡ 0 → (list : List ℕ) (others : Report) (file₂ list₂ : List ℕ)
      → AddAllCall vs file₁ one.place rest work bytes list others file₂ list₂
      → (all ≡ answer others.number (suc others.count) others.place) × (file' ≡ file₂)

-- ---- the same records, in any order
abbrev pub OneOf : (records m : List ℕ) → Type 0
OneOf records m = (i : ℕ) × (get_elem? (entries_in records) i ≡ some (some m))

-- two calls that add to the same file, and take all their records, leave the same messages, by the same rules, and the
-- same used length, where each record of one is a record of the other
abbrev pub AnyOrder : Versions → Type 0
AnyOrder vs = (file : List ℕ) (used : ℕ) (records₁ work₁ bytes₁ list₁ : List ℕ) (r₁ : Report) (file₁ list₁' : List ℕ)
    → AddAllCall vs file used records₁ work₁ bytes₁ list₁ r₁ file₁ list₁' → r₁.number ≡ 0
    → (records₂ work₂ bytes₂ list₂ : List ℕ) (r₂ : Report) (file₂ list₂' : List ℕ)
    → AddAllCall vs file used records₂ work₂ bytes₂ list₂ r₂ file₂ list₂' → r₂.number ≡ 0
    → ((m : List ℕ) → OneOf records₁ m ↔ OneOf records₂ m)
    → (R₁ R₂ : Rules) (ms₁ ms₂ : Messages)
    → listing_to_extend vs file₁ r₁.place ≡ Lists R₁ ms₁ → listing_to_extend vs file₂ r₂.place ≡ Lists R₂ ms₂
    → (R₁ ≡ R₂) × ((w : List ℕ) → Contains ms₁ w ↔ Contains ms₂ w) × (r₁.place ≡ r₂.place)

-- ---- together
pub record OfCalls (vs : Versions) : Type 0 where
  -- the shortest message of a record, by the rules of a version: it is accepted and reads as the record, and none that
  -- does is shorter
  pub shortest : (v : ℕ) (R : Rules) → rules_of vs v ≡ some R → (S : Rules) (m w : List ℕ) (x : ShortensTo S R m w)
      → Accepts Floats R.limits w (items x.entries)
      × ((m₂ : List ℕ) → Bytes m₂ → Accepts Floats R.limits m₂ (items x.entries) → length w ≤ length m₂)
  -- bytes list as messages exactly when they are a file of them
  pub files : (f : List ℕ) → Bytes f → (R : Rules) (ms : Messages) → (listing_of vs f ≡ Lists R ms) ↔ IsFile vs f R ms
  -- a file that does not list is refused at 0 for its header, or at its first faulty entry with that entry's fault
  pub faults : (file : List ℕ) (used x p : ℕ) → listing vs file used ≡ Faulty x p
      → (HeaderFaulty vs file used x × (p ≡ 0)) ⊎ EntryFaulty vs file used x p
  pub listed : (L : ListLayout) → SoundLayout L
      → (file : List ℕ) (used : ℕ) (work bytes list : List ℕ) (r : Report) (list' : List ℕ)
      → ListCall vs L file used work bytes list r list' → OfList vs L file used work bytes list r list'
  pub added : (file : List ℕ) (used : ℕ) (m work bytes : List ℕ) (r : Report) (file' : List ℕ)
      → AddCall vs file used m work bytes r file' → OfAdd vs file used m work bytes r file'
  pub added_all : (file : List ℕ) (used : ℕ) (records work bytes list : List ℕ) (r : Report) (file' list' : List ℕ)
      → AddAllCall vs file used records work bytes list r file' list'
      → OfAddAll vs file used records work bytes list r file' list'
  pub one_by_one : (file : List ℕ) (used : ℕ) (m rest work bytes : List ℕ) → length m < 2 ^ 32
      → (one : Report) (file₁ : List ℕ) → AddCall vs file used m work bytes one file₁
      → (list : List ℕ) (all : Report) (file' list' : List ℕ)
      → AddAllCall vs file used (entry_of m ++ rest) work bytes list all file' list'
      → OneByOne vs file used rest work bytes one all file₁ file'
  pub any_order : AnyOrder vs

abbrev pub Theorem : Type 0
Theorem = (vs : Versions) → SoundVersions vs → OfCalls vs

-- ---- with one version, no record is beyond it
pub record NeverBeyond (vs : Versions) : Type 0 where
  pub adding : (file : List ℕ) (used : ℕ) (m work bytes : List ℕ) → Bytes m → (r : Report) (file' : List ℕ)
      → AddCall vs file used m work bytes r file' → r.number ≡ beyond_version → ⊥
  pub adding_all : (file : List ℕ) (used : ℕ) (records work bytes list : List ℕ) → Bytes records
      → (r : Report) (file' list' : List ℕ)
      → AddAllCall vs file used records work bytes list r file' list' → r.number ≡ beyond_version → ⊥

abbrev pub OneVersion : Type 0
OneVersion = (vs : Versions) → SoundVersions vs → vs.older ≡ [] → NeverBeyond vs

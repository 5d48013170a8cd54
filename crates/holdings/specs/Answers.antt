-- 2026-01: what listing a holdings file and adding to it answer, and what the list and the file then hold.
use mathlib.Core.{Path.◌≡◌, Bool.◌||◌, List.List, List.[], List.◌∷◌, List.◌++◌}
use mathlib.Core.{Option.Option, Option.none, Option.some}
use Rattle.std.specs.Prelude.{ℕ, ◌+◌, ◌/◌}
use lib.{Dec.eqb, Dec.ltb, ListN.length}
use Rattle.flow.specs.RefusalNumbers.{no_room, cut_entry, beyond_version}
use Rattle.flow.specs.Flow.{pick, Outcome, Done, Fault, One, items, stored, overlay, Report}
use Rattle.wire.specs.BigEndian.{be}
use Rattle.record.specs.Model.Items.{Item, Known}
use Rattle.record.specs.Model.Answers.{as_numbers, lent_rows}
use Rattle.holdings.specs.Files.{Rules, Versions, reads_by, shortest_by, header, header_size, length_size, entry_of}
use Rattle.holdings.specs.Files.{entries_in, Listing, Lists, Faulty, number_of, is_held, listing}

-- accepted; or a refusal's number, count and place
pub data Result (A : Type 0) : Type 0 where
  Accept : A → Result A
  Refuse : ℕ → ℕ → ℕ → Result A

abbrev pub answer : ℕ → ℕ → ℕ → Report
answer number count place = record { number = number; count = count; place = place }

-- 'lent working memory for fewer rows or bytes than the length ceiling is 9 with count 0, before all else'; else a
abbrev pub with_working : {A : Type 0} → Versions → (rows bytes : List ℕ) → Result A → Result A
with_working vs rows bytes a = pick
    (ltb (lent_rows as_numbers rows) vs.newest.limits.longest || ltb (length bytes) vs.newest.limits.longest)
    (Refuse no_room 0 0) a

-- ---- listing: 'each entry's message place and length'
abbrev pub Placement : Type 0
Placement = record { place : ℕ; length : ℕ }

abbrev pub placement : ℕ → ℕ → Placement
placement p n = record { place = p; length = n }

-- of messages whose entries stand from the place p on
abbrev pub placements : ℕ → List (List ℕ) → List Placement
placements p [] = []
placements p (m ∷ ms) = placement (p + length_size) (length m) ∷ placements (p + (length_size + length m)) ms

-- how they lie in a list, so many numbers each
abbrev pub ListLayout : Type 0
ListLayout = record { width : ℕ; encode : Placement → List ℕ }

-- two numbers
abbrev pub as_pairs : ListLayout
as_pairs = record { width = 2; encode = λ x. x.place ∷ x.length ∷ [] }

-- from C: eight big-endian bytes a number
abbrev pub as_pair_bytes : ListLayout
as_pair_bytes = record { width = 16; encode = λ x. be 8 x.place ++ be 8 x.length }

-- the messages of a file that lists, where so many placements are lent: 'a list too short is 9, last, with the entries
-- needed'
abbrev pub listed_to : (lent : ℕ) → Listing → Result (List (List ℕ))
listed_to lent (Faulty x p) = Refuse x 0 p
listed_to lent (Lists R ms) = pick (ltb lent (length ms)) (Refuse no_room (length ms) 0) (Accept ms)

abbrev pub list_result : Versions → ListLayout → (file : List ℕ) (used : ℕ) → (rows bytes list : List ℕ)
    → Result (List (List ℕ))
list_result vs L file used rows bytes list =
    with_working vs rows bytes (listed_to (length list / L.width) (listing vs file used))

-- 'accepted answers are 0, the entries listed, and the used length afterwards'
abbrev pub list_report : (used : ℕ) → Result (List (List ℕ)) → Report
list_report used (Accept ms) = answer 0 (length ms) used
list_report used (Refuse x k p) = answer x k p

-- the list then holds the placements, and is unchanged past them and in a refusal
abbrev pub list_after : ListLayout → List ℕ → Result (List (List ℕ)) → List ℕ
list_after L list (Accept ms) = overlay L.width L.encode list 0 (placements header_size ms)
list_after L list (Refuse x k p) = list

-- ---- adding: the number of the entry with the record's shortest message, and the bytes that are appended
abbrev pub Addition : Type 0
Addition = record { number : ℕ; new : List ℕ }

-- 'adding to a used length of 0 first writes a new file's header bytes, of the newest version'
abbrev pub begun : Versions → (used : ℕ) → List ℕ
begun vs used = pick (eqb used 0) (header vs) []

abbrev pub listing_to_extend : Versions → List ℕ → (used : ℕ) → Listing
listing_to_extend vs file used = pick (eqb used 0) (Lists vs.newest []) (listing vs file used)

-- 'answers the number of the entry with exactly those bytes, or appends a new one'
abbrev pub appended : Versions → (used : ℕ) → List (List ℕ) → List ℕ → List ℕ
appended vs used ms w = pick (is_held w ms) [] (begun vs used ++ entry_of w)

-- 'then room (9 with the file length needed)'
abbrev pub with_room : (file : List ℕ) (used : ℕ) → Addition → Result Addition
with_room file used a = pick (ltb (length file) (used + length a.new))
    (Refuse no_room (used + length a.new) 0) (Accept a)

-- the record's shortest message by the file's rules; where there is none, the record is beyond the file's version
abbrev pub added_short : Versions → (file : List ℕ) (used : ℕ) → List (List ℕ) → Option (List ℕ) → Result Addition
added_short vs file used ms none = Refuse beyond_version 0 0
added_short vs file used ms (some w) =
    with_room file used (record { number = number_of w ms; new = appended vs used ms w })

-- 'then the record by 01's numbers and places'
abbrev pub added_read : Versions → (file : List ℕ) (used : ℕ) → Rules → List (List ℕ) → Outcome Known Item One
    → Result Addition
added_read vs file used R ms (Fault x p) = Refuse x 0 p
added_read vs file used R ms (Done n u es c) = added_short vs file used ms (shortest_by R (items es))

-- 'adding checks the file'
abbrev pub added_listed : Versions → (file : List ℕ) (used : ℕ) → List ℕ → Listing → Result Addition
added_listed vs file used m (Faulty x p) = Refuse x 0 p
added_listed vs file used m (Lists R ms) = added_read vs file used R ms (reads_by vs.newest m)

unfoldable pub addition : Versions → (file : List ℕ) (used : ℕ) → List ℕ → Result Addition
addition vs file used m = added_listed vs file used m (listing_to_extend vs file used)

abbrev pub add_result : Versions → (file : List ℕ) (used : ℕ) → List ℕ → (rows bytes : List ℕ) → Result Addition
add_result vs file used m rows bytes = with_working vs rows bytes (addition vs file used m)

-- 'accepted answers are 0, the entry's number, and the used length afterwards'
abbrev pub add_report : (used : ℕ) → Result Addition → Report
add_report used (Accept a) = answer 0 a.number (used + length a.new)
add_report used (Refuse x k p) = answer x k p

abbrev pub file_after : (file : List ℕ) (used : ℕ) → Result Addition → List ℕ
file_after file used (Accept a) = stored file used a.new
file_after file used (Refuse x k p) = file

-- ---- adding many: records laid out as entries are added one after the other, up to the first refusal
-- how far it came: the numbers of the entries of the records taken; the file and its used length; the number of the
-- refusal, 0 where all are taken
abbrev pub Batch : Type 0
Batch = record { numbers : List ℕ; file : List ℕ; used : ℕ; refusal : ℕ }

abbrev pub stopped : (file : List ℕ) (used : ℕ) → (refusal : ℕ) → Batch
stopped file used x = record { numbers = []; file = file; used = used; refusal = x }

-- one record more was taken before
abbrev pub took : ℕ → Batch → Batch
took n b = record { numbers = n ∷ b.numbers; file = b.file; used = b.used; refusal = b.refusal }

-- each is a single addition to what the one before left; a record that is cut is refused as a cut entry
unfoldable pub additions : Versions → (file : List ℕ) (used : ℕ) → List (Option (List ℕ)) → Batch
additions vs file used [] = stopped file used 0
additions vs file used (none ∷ os) = stopped file used cut_entry
additions vs file used (some m ∷ os) = elim (addition vs file used m) [
  | Refuse x k p ↦ stopped file used x
  | Accept a ↦ took a.number (additions vs (stored file used a.new) (used + length a.new) os)
]

-- the file is checked once, before the first record
abbrev pub batch_listed : Versions → (file : List ℕ) (used : ℕ) → List ℕ → Listing → Result Batch
batch_listed vs file used records (Faulty x p) = Refuse x 0 p
batch_listed vs file used records (Lists R ms) = Accept (additions vs file used (entries_in records))

abbrev pub batch_result : Versions → (file : List ℕ) (used : ℕ) → List ℕ → (rows bytes : List ℕ) → Result Batch
batch_result vs file used records rows bytes =
    with_working vs rows bytes (batch_listed vs file used records (listing_to_extend vs file used))

-- number, records taken, used length afterwards; where the file is refused or memory is too small, that refusal
abbrev pub batch_report : Result Batch → Report
batch_report (Accept b) = answer b.refusal (length b.numbers) b.used
batch_report (Refuse x k p) = answer x k p

abbrev pub batch_file : (file : List ℕ) → Result Batch → List ℕ
batch_file file (Accept b) = b.file
batch_file file (Refuse x k p) = file

-- the numbers of the entries, as many as the list has room for
abbrev pub batch_numbers : (list : List ℕ) → Result Batch → List ℕ
batch_numbers list (Accept b) = overlay 1 (λ n. n ∷ []) list 0 b.numbers
batch_numbers list (Refuse x k p) = list

-- ---- what a call gives: its report, and the list or the file afterwards. Of working memory nothing is said: 'it alone
-- may change in a refusal'
pub record ListCall (vs : Versions) (L : ListLayout) (file : List ℕ) (used : ℕ) (rows bytes list : List ℕ) (r : Report)
    (list' : List ℕ) : Type 0 where
  pub report : r ≡ list_report used (list_result vs L file used rows bytes list)
  pub after : list' ≡ list_after L list (list_result vs L file used rows bytes list)

pub record AddCall (vs : Versions) (file : List ℕ) (used : ℕ) (m rows bytes : List ℕ) (r : Report) (file' : List ℕ)
    : Type 0 where
  pub report : r ≡ add_report used (add_result vs file used m rows bytes)
  pub after : file' ≡ file_after file used (add_result vs file used m rows bytes)

pub record AddAllCall (vs : Versions) (file : List ℕ) (used : ℕ) (records rows bytes list : List ℕ) (r : Report)
    (file' list' : List ℕ) : Type 0 where
  pub report : r ≡ batch_report (batch_result vs file used records rows bytes)
  pub after : file' ≡ batch_file file (batch_result vs file used records rows bytes)
  pub numbers : list' ≡ batch_numbers list (batch_result vs file used records rows bytes)

-- 2026-01, the holdings file: its versions, its layout, and what a file's bytes list as.
use mathlib.Core.{Bool.Bool, Bool.false, List.List, List.[], List.◌∷◌, List.◌++◌}
use mathlib.Core.{Option.Option, Option.none, Option.some}
use Rattle.std.specs.Prelude.{ℕ, zero, suc, ◌+◌}
use lib.{Dec.eqb, Dec.leb, Dec.ltb, ListN.length, ListN.take, ListN.drop, ListN.get_elem?}
use Rattle.flow.specs.RefusalNumbers.{wrong_mark, unknown_version, cut_entry, refused_entry, not_shortest}
use Rattle.flow.specs.RefusalNumbers.{repeated_entry}
use Rattle.flow.specs.Flow.{pick, on_some, same_list, Outcome, Done, Fault, One, items}
use Rattle.wire.specs.BigEndian.{joined, be}
use Rattle.scalar.specs.Scalars.{Floats}
use Rattle.record.specs.Model.Items.{Item, Known, Limits}
use Rattle.record.specs.Model.Shortest.{spell}
use Rattle.record.specs.Model.Answers.{base, base_open_from, judged}

-- ---- versions
-- by what the entries of a file are read and written: the ceilings, and from how many elements on a list is open
abbrev pub Rules : Type 0
Rules = record { limits : Limits; open_from : ℕ }

-- the rules of the versions before the newest, from 1 on; and of the newest, by which records that are added are read
-- and a new file is begun
abbrev pub Versions : Type 0
Versions = record { older : List Rules; newest : Rules }

-- 'version, 1 for now'
abbrev pub versions : Versions
versions = record { older = []; newest = record { limits = base; open_from = base_open_from } }

abbrev pub newest_version : Versions → ℕ
newest_version vs = suc (length vs.older)

-- the rules of a version; there is no version 0, and none above the newest
abbrev pub rules_of : Versions → ℕ → Option Rules
rules_of vs zero = none
rules_of vs (suc v) = get_elem? (vs.older ++ (vs.newest ∷ [])) v

-- a message, read by 01's main rule
abbrev pub reads_by : Rules → List ℕ → Outcome Known Item One
reads_by R m = judged Floats R.limits m

-- the shortest message of a record, where there is one within the ceilings
unfoldable pub shortest_by : Rules → List Item → Option (List ℕ)
shortest_by R r =
    on_some (λ w. pick (ltb R.limits.longest (length w)) none (some w)) (spell R.limits R.open_from r)

-- ---- the layout: 'the mark SWP, a 16-bit big-endian version, then each record as a 32-bit big-endian length and its
-- shortest message'
abbrev pub mark : List ℕ
mark = 0x53 ∷ 0x57 ∷ 0x50 ∷ []

-- the bytes of the mark, of a version, of both; of the length before a message
abbrev pub mark_size : ℕ
mark_size = 3

abbrev pub version_size : ℕ
version_size = 2

abbrev pub header_size : ℕ
header_size = 5

abbrev pub length_size : ℕ
length_size = 4

-- a new file begins so
abbrev pub header : Versions → List ℕ
header vs = mark ++ be version_size (newest_version vs)

-- a message's entry
abbrev pub entry_of : List ℕ → List ℕ
entry_of m = be length_size (length m) ++ m

-- how many bytes has the message of the entry that s begins with, and how many the entry
abbrev pub message_size : List ℕ → ℕ
message_size s = joined 0 (take length_size s)

abbrev pub entry_size : List ℕ → ℕ
entry_size s = length_size + message_size s

-- the entries that s consists of: each its message; none for the last, where it is cut. k only bounds the recursion
abbrev pub entries_up_to : ℕ → List ℕ → List (Option (List ℕ))
entries_up_to zero s = []
entries_up_to (suc k) [] = []
entries_up_to (suc k) (b ∷ s) = pick (leb (entry_size (b ∷ s)) (length (b ∷ s)))
    (some (take (message_size (b ∷ s)) (drop length_size (b ∷ s))) ∷ entries_up_to k (drop (entry_size (b ∷ s)) (b ∷ s)))
    (none ∷ [])

unfoldable pub entries_in : List ℕ → List (Option (List ℕ))
entries_in s = entries_up_to (length s) s

-- ---- what a file lists as: its rules, and its messages in order; or a refusal's number and place
pub data Listing : Type 0 where
  Lists : Rules → List (List ℕ) → Listing
  Faulty : ℕ → ℕ → Listing

-- the number of the first of the messages that is m; how many they are, where none is
abbrev pub number_of : List ℕ → List (List ℕ) → ℕ
number_of m [] = 0
number_of m (x ∷ ms) = pick (same_list m x) 0 (suc (number_of m ms))

abbrev pub is_held : List ℕ → List (List ℕ) → Bool
is_held m ms = ltb (number_of m ms) (length ms)

-- whether m is this message
abbrev pub is_message : List ℕ → Option (List ℕ) → Bool
is_message m none = false
is_message m (some w) = same_list w m

-- what is wrong with the entry of the message m, after those of the messages before it; 0 is nothing: 'an entry that 01
-- refuses, an entry not in shortest form, an entry equal to an earlier one, checked in that order'
abbrev pub fault_by : Rules → List (List ℕ) → List ℕ → Outcome Known Item One → ℕ
fault_by R before m (Fault x o) = refused_entry
fault_by R before m (Done n u es c) = pick (is_message m (shortest_by R (items es)))
    (pick (is_held m before) repeated_entry 0)
    not_shortest

unfoldable pub fault_of : Rules → List (List ℕ) → List ℕ → ℕ
fault_of R before m = fault_by R before m (reads_by R m)

-- 'entry by entry', from the place p on, after the messages before; a fault's place is its entry's first byte
abbrev pub lists_from : Rules → ℕ → List (List ℕ) → List (Option (List ℕ)) → Listing
lists_from R p before [] = Lists R before
lists_from R p before (none ∷ os) = Faulty cut_entry p
lists_from R p before (some m ∷ os) = pick (eqb (fault_of R before m) 0)
    (lists_from R (p + (length_size + length m)) (before ++ (m ∷ [])) os)
    (Faulty (fault_of R before m) p)

-- 'a cut version is unknown'
abbrev pub version_in : Versions → List ℕ → Option Rules
version_in vs f = pick (ltb (length f) header_size) none (rules_of vs (joined 0 (take version_size (drop mark_size f))))

abbrev pub lists_by : List ℕ → Option Rules → Listing
lists_by f none = Faulty unknown_version 0
lists_by f (some R) = lists_from R header_size [] (entries_in (drop header_size f))

-- a file's bytes: 'wrong mark, unknown version', then the entries; 'fewer than three bytes are a wrong mark'
unfoldable pub listing_of : Versions → List ℕ → Listing
listing_of vs f = pick (same_list (take mark_size f) mark) (lists_by f (version_in vs f)) (Faulty wrong_mark 0)

-- a buffer and its used length: 'a used length beyond the buffer is a cut entry, checked first'
unfoldable pub listing : Versions → List ℕ → (used : ℕ) → Listing
listing vs file used = pick (ltb (length file) used) (Faulty cut_entry 0) (listing_of vs (take used file))

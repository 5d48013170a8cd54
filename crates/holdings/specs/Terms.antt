-- The terms in which the theorems of the holdings file speak. No function's promise needs them.
use mathlib.Core.{Path.◌≡◌, Logic.◌⊎◌, List.List, List.[], List.◌∷◌, List.◌++◌, Option.Option, Option.none, Option.some}
use Rattle.std.specs.Prelude.{ℕ, ◌+◌, ◌^◌, ◌≤◌, ◌<◌, length, take, drop}
use Rattle.std.proofs.Math.ListN.{get_elem?}
use Rattle.flow.specs.RefusalNumbers.{wrong_length, no_room, wrong_mark, unknown_version, cut_entry, repeated_entry}
use Rattle.flow.specs.RefusalNumbers.{beyond_version}
use Rattle.flow.specs.Flow.{Entry, Done, items}
use Rattle.record.specs.Model.Items.{Item, Known}
use Rattle.record.specs.Model.Answers.{base_open_from, as_numbers, lent_rows}
use Rattle.wire.specs.BigEndian.{be}
use Rattle.holdings.specs.Files.{Rules, Versions, newest_version, rules_of, reads_by, shortest_by, mark, version_size}
use Rattle.holdings.specs.Files.{mark_size, entry_of, entries_in, Lists, fault_of, version_in, listing}
use Rattle.holdings.specs.Answers.{Placement, ListLayout, listing_to_extend}

-- the number of a refusal by the file, 20 to 25; by the record or for want of room, 1 to 9
abbrev pub ByFile : ℕ → Type 0
ByFile x = (wrong_mark ≤ x) × (x ≤ repeated_entry)

abbrev pub ByRecord : ℕ → Type 0
ByRecord x = (wrong_length ≤ x) × (x ≤ no_room)

-- by an addition: one of those, or 34
abbrev pub ByAddition : ℕ → Type 0
ByAddition x = ByRecord x ⊎ (ByFile x ⊎ (x ≡ beyond_version))

abbrev pub Messages : Type 0
Messages = List (List ℕ)

-- one of the messages is m
abbrev pub Contains : Messages → List ℕ → Type 0
Contains ms m = (i : ℕ) × (get_elem? ms i ≡ some m)

-- no two of them are the same
abbrev pub Distinct : Messages → Type 0
Distinct ms = (i j : ℕ) (m : List ℕ) → get_elem? ms i ≡ some m → get_elem? ms j ≡ some m → i ≡ j

-- m is found among them exactly once, at the number n
pub record FoundOnce (ms : Messages) (n : ℕ) (m : List ℕ) : Type 0 where
  pub found : get_elem? ms n ≡ some m
  pub once : (i : ℕ) → get_elem? ms i ≡ some m → i ≡ n

-- m, read by the rules S, is a record whose shortest message by the rules R is w
pub record ShortensTo (S R : Rules) (m w : List ℕ) : Type 0 where
  pub count : ℕ
  pub entries : List (Entry Item)
  pub known : Known
  pub accepted : reads_by S m ≡ Done count tt entries known
  pub short : shortest_by R (items entries) ≡ some w

-- w is that of one of the first k records of os, read by the newest rules
pub record ShortestOfOne (vs : Versions) (R : Rules) (os : List (Option (List ℕ))) (k : ℕ) (w : List ℕ) : Type 0 where
  pub index : ℕ
  pub below : index < k
  pub message : List ℕ
  pub entry : get_elem? os index ≡ some (some message)
  pub shortens : ShortensTo vs.newest R message w

-- what the theorems ask of a version's rules: lists are open from no more elements on than 01's writer has them, and
-- the length of every message can be written before it
pub record SoundRules (R : Rules) : Type 0 where
  pub most : R.open_from ≤ base_open_from
  pub writable : R.limits.longest < 2 ^ 32

-- and of a table of versions: the newest version can be written in a file
pub record SoundVersions (vs : Versions) : Type 0 where
  pub each : (v : ℕ) (R : Rules) → rules_of vs v ≡ some R → SoundRules R
  pub few : newest_version vs < 2 ^ 16

-- working memory enough
pub record Enough (vs : Versions) (rows bytes : List ℕ) : Type 0 where
  pub rows_lent : vs.newest.limits.longest ≤ lent_rows as_numbers rows
  pub bytes_lent : vs.newest.limits.longest ≤ length bytes

-- each placement takes up the layout's width
pub record SoundLayout (L : ListLayout) : Type 0 where
  pub wide : 0 < L.width
  pub sized : (x : Placement) → length (L.encode x) ≡ L.width

-- the message m stands at the placement x in the bytes f
pub record StandsAt (f : List ℕ) (x : Placement) (m : List ℕ) : Type 0 where
  pub sized : x.length ≡ length m
  pub inside : x.place + x.length ≤ length f
  pub there : take x.length (drop x.place f) ≡ m

-- the entries of messages, one after the other
abbrev pub laid_out : Messages → List ℕ
laid_out [] = []
laid_out (m ∷ ms) = entry_of m ++ laid_out ms

-- the bytes f are a file of these messages, by the rules R of its version: the mark, the version, the entries; each
-- message is accepted and its record's shortest, and no two are the same
pub record IsFile (vs : Versions) (f : List ℕ) (R : Rules) (ms : Messages) : Type 0 where
  pub version : ℕ
  pub version_fits : version < 2 ^ 16
  pub known_version : rules_of vs version ≡ some R
  pub bytes : f ≡ mark ++ (be version_size version ++ laid_out ms)
  pub each : (i : ℕ) (m : List ℕ) → get_elem? ms i ≡ some m → ShortensTo R R m m
  pub distinct : Distinct ms

-- the header of a file has the fault: the used length is beyond the buffer, the mark is wrong, the version is unknown
pub data HeaderFaulty (vs : Versions) (file : List ℕ) (used : ℕ) : ℕ → Type 0 where
  Beyond : length file < used → HeaderFaulty vs file used cut_entry
  Unmarked : (take mark_size (take used file) ≡ mark → ⊥) → HeaderFaulty vs file used wrong_mark
  Unversioned : take mark_size (take used file) ≡ mark → version_in vs (take used file) ≡ none
      → HeaderFaulty vs file used unknown_version

-- the fault of an entry, after those of the messages ms: cut, or its message's
abbrev pub entry_fault : Rules → Messages → Option (List ℕ) → ℕ
entry_fault R ms none = cut_entry
entry_fault R ms (some m) = fault_of R ms m

-- the entry at the place p has the fault x: up to it the file lists, and it is the first behind
pub record EntryFaulty (vs : Versions) (file : List ℕ) (used x p : ℕ) : Type 0 where
  pub rules : Rules
  pub messages : Messages
  pub lists : listing vs file p ≡ Lists rules messages
  pub entry : Option (List ℕ)
  pub rest : List (Option (List ℕ))
  pub entries : entries_in (drop p (take used file)) ≡ entry ∷ rest
  pub fault : x ≡ entry_fault rules messages entry

-- a file, that listed as the messages before, lists by the same rules as those and more behind them. The used length
-- only grows; the bytes used before and those past the used length are the same, and the buffer is as long
pub record Extends (vs : Versions) (R : Rules) (before more : Messages) (file : List ℕ) (used : ℕ) (file' : List ℕ)
    (used' : ℕ) : Type 0 where
  pub was : listing_to_extend vs file used ≡ Lists R before
  pub lists : listing_to_extend vs file' used' ≡ Lists R (before ++ more)
  pub grown : used ≤ used'
  pub within : used' ≤ length file'
  pub front : take used file' ≡ take used file
  pub behind : drop used' file' ≡ drop used' file
  pub as_long : length file' ≡ length file

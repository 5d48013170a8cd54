-- What the contracts inside the code say of entries, messages, checks and lists. None of it has to be believed.
--
-- f is a file's bytes, p a place in them, m a message, ms are messages; t and b are lists of numbers and of bytes, and
-- t', b' the same afterwards.
use Rattle.std.specs.Prelude.{◌≡◌, Bool, ◌||◌, not, List, [], ◌∷◌, ◌++◌, ℕ, ◌+◌, ◌-◌, ◌*◌, ◌≤◌, ◌<◌, eqb, ltb, length, take, drop}
use Rattle.std.specs.Prelude.{None, Some, Result, Ok, Err}
use Rattle.std.specs.declared.option.Option as code
use Rattle.std.proofs.Math.Option.{none, some}
use Rattle.flow.specs.RefusalNumbers.{repeated_entry}
use Rattle.flow.specs.Flow.{pick, Bytes, Entry, Done, Fault, One, stored, overlay}
use Rattle.wire.specs.BigEndian.{joined}
use Rattle.scalar.specs.Refusals.{number_of, fault}
use Rattle.scalar.specs.declared.refusals.Refusal.{Refusal}
use Rattle.scalar.specs.declared.refusals.Refusal.TheVariants as refusal
use Rattle.scalar.specs.declared.refusals.Refused.{Refused}
use Rattle.record.specs.Model.Items.{Item, Known}
use Rattle.record.specs.Model.Rows.{rows}
use Rattle.record.specs.Model.Answers.{base, as_numbers, lent_rows, rows_of}
use Rattle.holdings.specs.Files.{Rules, versions, reads_by, header_size, mark_size, version_size, length_size, entry_of}
use Rattle.holdings.specs.Files.{message_size, entry_size, entries_in, is_held, fault_of, Listing, Lists, listing_of}
use Rattle.holdings.specs.Answers.{ListLayout, placements, begun}
use Rattle.holdings.specs.Terms.{Messages, ShortensTo}
use Rattle.holdings.specs.EntryLaws.{Entries}
use Rattle.holdings_file.specs.declared.entries.Entry as one
use Rattle.holdings_file.specs.declared.entries.Entries as walk
use Rattle.holdings_file.specs.declared.HoldingsError.{HoldingsError}
use Rattle.holdings_file.specs.declared.HoldingsError.TheVariants as holdings

-- ---- entries
-- the messages of the whole entries
abbrev pub messages_of : Entries → Messages
messages_of [] = []
messages_of (none ∷ os) = messages_of os
messages_of (some m ∷ os) = m ∷ messages_of os

-- those that stand from a place on
unfoldable pub held_from : List ℕ → ℕ → Messages
held_from f p = messages_of (entries_in (drop p f))

-- those of a file
abbrev pub held_in : List ℕ → Messages
held_in f = held_from f header_size

-- the entry at a place is cut
abbrev pub IsCut : List ℕ → ℕ → Type 0
IsCut f p = length (drop p f) < entry_size (drop p f)

-- it is whole, and ends at e
pub record EndsAt (f : List ℕ) (p e : ℕ) : Type 0 where
  pub is : e ≡ p + entry_size (drop p f)
  pub within : e ≤ length f

abbrev pub EndMet : List ℕ → ℕ → code.Option ℕ → Type 0
EndMet f p None = IsCut f p
EndMet f p (Some e) = EndsAt f p e

-- an entry that is read
pub record EntryAt (f : List ℕ) (p : ℕ) (x : one.Entry) : Type 0 where
  pub inside : p < length f
  pub at : x.at ≡ p
  pub ends : EndsAt f p x.end
  pub message : x.message.now ≡ take (x.end - (p + length_size)) (drop (p + length_size) f)

-- a step of the iterator: none at the end; the last, where it is cut; or one more
pub record CutAt (f : List ℕ) (p : ℕ) (r : Refused) : Type 0 where
  pub inside : p < length f
  pub cut : IsCut f p
  pub refused : r ≡ record { refusal = refusal.CutEntry; place = p }

pub record EntryThen (s : walk.Entries) (x : one.Entry) (t : walk.Entries) : Type 0 where
  pub entry : EntryAt s.bytes.now s.at x
  pub rest : t.bytes.now ≡ s.bytes.now
  pub next : t.at ≡ x.end

abbrev pub EntryGives : walk.Entries → code.Option (Result one.Entry Refused) → walk.Entries → Type 0
EntryGives s None t = length s.bytes.now ≤ s.at
EntryGives s (Some (Err r)) t = CutAt s.bytes.now s.at r
EntryGives s (Some (Ok x)) t = EntryThen s x t

-- a list with the placements of a file's messages
abbrev pub filled_by : ListLayout → List ℕ → List ℕ → List ℕ
filled_by L f t = overlay L.width L.encode t 0 (placements header_size (held_in f))

-- ---- one message
-- the rules of the one version that there is
abbrev pub newest_rules : Rules
newest_rules = versions.newest

-- working memory has rows and bytes for the longest message
abbrev pub is_lent : List ℕ → List ℕ → Bool
is_lent work bytes = not (ltb (lent_rows as_numbers work) base.longest || ltb (length bytes) base.longest)

-- the first n rows of a table are those of the message
pub record RowsOf (m t : List ℕ) (n : ℕ) : Type 0 where
  pub count : ℕ
  pub entries : List (Entry Item)
  pub known : Known
  pub bytes : Bytes m
  pub accepted : reads_by newest_rules m ≡ Done count tt entries known
  pub rows_are : rows_of as_numbers n t ≡ rows entries
  pub lent : n ≤ lent_rows as_numbers t

-- the shortest message of m's record is the first n bytes of out
pub record ShortIn (m : List ℕ) (n : ℕ) (out : List ℕ) : Type 0 where
  pub shortens : ShortensTo newest_rules newest_rules m (take n out)
  pub fits : n ≤ length out
  pub bounded : n ≤ base.longest

abbrev pub Shortened : List ℕ → Result ℕ Refused → List ℕ → Type 0
Shortened m (Ok n) out = ShortIn m n out
Shortened m (Err r) out = reads_by newest_rules m ≡ Fault (number_of r.refusal) r.place

-- what is wrong with a message by itself, whatever is before it; where nothing is, it may be there already
abbrev pub FaultAlone : List ℕ → Result One Refusal → Type 0
FaultAlone m (Ok u) = (before : Messages) → fault_of newest_rules before m ≡ pick (is_held m before) repeated_entry 0
FaultAlone m (Err x) = (before : Messages) → fault_of newest_rules before m ≡ number_of x

-- ---- a file's bytes
-- its version; none where it is cut
abbrev pub version_of : List ℕ → code.Option ℕ
version_of f = pick (ltb (length f) header_size) None (Some (joined 0 (take version_size (drop mark_size f))))

-- as a file to extend: no bytes are a new file
abbrev pub listing_opened : List ℕ → Listing
listing_opened f = pick (eqb (length f) 0) (Lists newest_rules []) (listing_of versions f)

-- a used length within a buffer of n bytes
abbrev pub UsedMet : ℕ → ℕ → Result ℕ Refused → Type 0
UsedMet n used (Ok k) = (k ≡ used) × (used ≤ n)
UsedMet n used (Err r) = (n < used) × (r ≡ record { refusal = refusal.CutEntry; place = 0 })

-- ---- an entry stored
-- the file may be shorter than the place, by a header
pub record Placeable (file : List ℕ) (p : ℕ) (m : List ℕ) : Type 0 where
  pub near : p ≤ length file + header_size
  pub small : length m ≤ base.longest

-- the bytes `new` from a place on, where they fit, and their end; or how long the file would have to be
pub record StoredTo (file : List ℕ) (p : ℕ) (new : List ℕ) (end : ℕ) (file' : List ℕ) : Type 0 where
  pub ends : end ≡ p + length new
  pub fits : p + length new ≤ length file
  pub after : file' ≡ stored file p new

pub record Unstored (file : List ℕ) (p : ℕ) (new : List ℕ) (e : HoldingsError) (file' : List ℕ) : Type 0 where
  pub needed : e ≡ holdings.TooFew (p + length new)
  pub short : length file < p + length new
  pub after : file' ≡ file

abbrev pub Stored : List ℕ → ℕ → List ℕ → Result ℕ HoldingsError → List ℕ → Type 0
Stored file p new (Ok end) file' = StoredTo file p new end file'
Stored file p new (Err e) file' = Unstored file p new e file'

abbrev pub EntryStored : List ℕ → ℕ → List ℕ → Result ℕ HoldingsError → List ℕ → Type 0
EntryStored file p m r file' = Stored file p (entry_of m) r file'

-- behind the used bytes; in a new file behind its header
abbrev pub Appended : List ℕ → ℕ → List ℕ → Result ℕ HoldingsError → List ℕ → Type 0
Appended file used m r file' = Stored file used (begun versions used ++ entry_of m) r file'

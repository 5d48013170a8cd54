-- What the reader and the writer answer, number, count and place; and what a lent table or output then holds.
use mathlib.Core.{List.List, List.[], List.◌∷◌, List.◌++◌, Option.Option, Option.none, Option.some}
use Rattle.std.specs.Prelude.{ℕ, zero, suc, ◌/◌}
use lib.{Dec.ltb, ListN.length, ListN.take, ListN.drop, ListN.get_or}
use Rattle.flow.specs.RefusalNumbers.{wrong_length, no_room, no_record}
use Rattle.flow.specs.Flow.{pick, on_some, Outcome, Done, Fault, One, items, stored, overlay, Report}
use Rattle.wire.specs.BigEndian.{eight_at, be}
use Rattle.scalar.specs.Scalars.{DoubleRule}
use Rattle.scalar.specs.Answers.{length_of}
use Rattle.record.specs.Model.Items.{Item, Known, start, Limits}
use Rattle.record.specs.Model.Reading.{message}
use Rattle.record.specs.Model.Rows.{Row, row, rows}
use Rattle.record.specs.Model.Claims.{ContentMap, content_at}
use Rattle.record.specs.Model.Shortest.{spell}
use Rattle.record.specs.Laws.Claimed.{record_of}

-- ---- the reader
-- what reading comes to
pub data ReadResult : Type 0 where
  Accept : List Row → ℕ → ReadResult  -- the rows, the message's length
  Refuse : ℕ → ℕ → ℕ → ReadResult  -- number, count, place

-- all refusals but that of room: an empty message, or one longer than may be, has a wrong length; then the first fault
-- from left to right
unfoldable pub judged : DoubleRule → Limits → List ℕ → Outcome Known Item One
judged ρ ℓ [] = Fault wrong_length 0
judged ρ ℓ (b ∷ m) = pick (ltb ℓ.longest (length (b ∷ m))) (Fault wrong_length 0) (message ρ ℓ start 0 (b ∷ m))

-- with `lent` rows: too few are refusal 9, which counts the rows needed, for a message otherwise accepted
abbrev pub answered : (lent : ℕ) → Outcome Known Item One → ReadResult
answered lent (Done n u es c) = pick (ltb lent (length es)) (Refuse no_room (length es) 0) (Accept (rows es) n)
answered lent (Fault x o) = Refuse x 0 o

abbrev pub read : DoubleRule → Limits → (lent : ℕ) → List ℕ → ReadResult
read ρ ℓ lent m = answered lent (judged ρ ℓ m)

-- ---- the writer
-- what writing comes to
pub data WriteResult : Type 0 where
  Wrote : List ℕ → WriteResult  -- the bytes written
  Refused : ℕ → ℕ → WriteResult  -- number, count; the place is 0

-- the shortest message with the record that the rows claim, or none
unfoldable pub shortest_of : Limits → (open_from : ℕ) → ContentMap → List Row → Option (List ℕ)
shortest_of ℓ open_from contents r = on_some (spell ℓ open_from) (record_of contents r)

-- the first of these: no record, refusal 10; a shortest message longer than the longest one, 1; or than the bytes
-- lent, 9, which counts the bytes needed
abbrev pub fitted : Limits → (lent : ℕ) → Option (List ℕ) → WriteResult
fitted ℓ lent none = Refused no_record 0
fitted ℓ lent (some w) = pick (ltb ℓ.longest (length w)) (Refused wrong_length 0)
    (pick (ltb lent (length w)) (Refused no_room (length w)) (Wrote w))

-- before them: a source longer than the longest message, refusal 1
abbrev pub answered_to : Limits → (lent : ℕ) → (source : List ℕ) → Option (List ℕ) → WriteResult
answered_to ℓ lent source o = pick (ltb ℓ.longest (length source)) (Refused wrong_length 0) (fitted ℓ lent o)

-- ---- 01's limits; and a list of so many elements and more takes the open form
abbrev pub base : Limits
base = record { longest = 262_144; containers = 32; types = 256; classes = 256; fields = 256 }

abbrev pub base_open_from : ℕ
base_open_from = 48

-- ---- tables
-- how rows lie in a table, so many numbers a row
abbrev pub Layout : Type 0
Layout = record { width : ℕ; encode : Row → List ℕ; decode : List ℕ → Row }

-- five numbers a row
abbrev pub as_numbers : Layout
as_numbers = record {
  width = 5;
  encode = λ r. r.kind ∷ r.place ∷ r.first ∷ r.second ∷ r.after ∷ [];
  decode = λ l. row (get_or l 0 0) (get_or l 1 0) (get_or l 2 0) (get_or l 3 0) (get_or l 4 0);
}

-- from C: eight big-endian bytes a number
abbrev pub as_bytes : Layout
as_bytes = record {
  width = 40;
  encode = λ r. be 8 r.kind ++ (be 8 r.place ++ (be 8 r.first ++ (be 8 r.second ++ be 8 r.after)));
  decode = λ l. row (eight_at l 0) (eight_at l 8) (eight_at l 16) (eight_at l 24) (eight_at l 32);
}

-- numbers beyond a multiple of the width are no row
abbrev pub lent_rows : Layout → List ℕ → ℕ
lent_rows L t = length t / L.width

-- the first n rows of a table
unfoldable pub rows_of : Layout → ℕ → List ℕ → List Row
rows_of L zero t = []
rows_of L (suc n) t = L.decode (take L.width t) ∷ rows_of L n (drop L.width t)

-- ---- the reader's answer: accepted are 0, the rows, the message's length; refusal 9 counts the rows needed, other
-- refusals 0
abbrev pub read_numbers : ReadResult → Report
read_numbers (Accept rs n) = record { number = 0; count = length rs; place = n }
read_numbers (Refuse x k o) = record { number = x; count = k; place = o }

abbrev pub read_report : DoubleRule → Limits → Layout → List ℕ → List ℕ → Report
read_report ρ ℓ L m t = read_numbers (read ρ ℓ (lent_rows L t) m)

-- the table then holds the rows of an accepted message, and is else unchanged
abbrev pub filled : Layout → List ℕ → ReadResult → List ℕ
filled L t (Accept rs n) = overlay L.width L.encode t 0 rs
filled L t (Refuse x k o) = t

abbrev pub read_table : DoubleRule → Limits → Layout → List ℕ → List ℕ → List ℕ
read_table ρ ℓ L m t = filled L t (read ρ ℓ (lent_rows L t) m)

-- ---- 2026-06: the length of the shortest message of the record that was read; a refusal has 0
abbrev pub length_judged : Limits → (open_from : ℕ) → Outcome Known Item One → ℕ
length_judged ℓ open_from (Done n u es c) = length_of (spell ℓ open_from (items es))
length_judged ℓ open_from (Fault x o) = 0

-- with rows enough
unfoldable pub shortest_length : DoubleRule → Limits → (open_from : ℕ) → List ℕ → ℕ
shortest_length ρ ℓ open_from m = length_judged ℓ open_from (judged ρ ℓ m)

-- with the rows lent: refusal 9 too has 0
abbrev pub length_answered : ℕ → ReadResult → ℕ
length_answered w (Accept rs n) = w
length_answered w (Refuse x k o) = 0

abbrev pub read_length : DoubleRule → Limits → (open_from : ℕ) → Layout → List ℕ → List ℕ → ℕ
read_length ρ ℓ open_from L m t = length_answered (shortest_length ρ ℓ open_from m) (read ρ ℓ (lent_rows L t) m)

-- ---- the writer's answer for the first n rows of a table: accepted are 0, the bytes written, 0
abbrev pub write_numbers : WriteResult → Report
write_numbers (Wrote w) = record { number = 0; count = length w; place = 0 }
write_numbers (Refused x k) = record { number = x; count = k; place = 0 }

-- by what the places of rows have in a source; more rows claimed than lent are no record
unfoldable pub written : Limits → (open_from : ℕ) → Layout → (List ℕ → ContentMap) → List ℕ → List ℕ → ℕ → (lent : ℕ)
    → WriteResult
written ℓ open_from L contents source t n lent = answered_to ℓ lent source
    (pick (ltb (lent_rows L t) n) none (shortest_of ℓ open_from (contents source) (rows_of L n t)))

abbrev pub write_report : Limits → (open_from : ℕ) → Layout → List ℕ → List ℕ → ℕ → List ℕ → Report
write_report ℓ open_from L source t n out = write_numbers (written ℓ open_from L content_at source t n (length out))

-- the output then holds the bytes written, and past them is unchanged
abbrev pub output_written : List ℕ → WriteResult → List ℕ
output_written out (Wrote w) = stored out 0 w
output_written out (Refused x k) = out

abbrev pub write_output : Limits → (open_from : ℕ) → Layout → List ℕ → List ℕ → ℕ → List ℕ → List ℕ
write_output ℓ open_from L source t n out = output_written out (written ℓ open_from L content_at source t n (length out))

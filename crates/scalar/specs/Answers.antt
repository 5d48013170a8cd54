-- What the promises about single values, texts and byte strings speak of, in 01's terms: number, count and place.
use mathlib.Core.{Bool.◌&&◌, List.List, Option.Option, Option.none, Option.some}
use Rattle.std.specs.Prelude.{ℕ, ◌+◌}
use lib.{Dec.leb, Dec.eqb, ListN.length}
use Rattle.flow.specs.RefusalNumbers.{no_room, no_record}
use Rattle.flow.specs.Flow.{pick, Done, Fault, byte_at, stored, Report, reported}
use Rattle.flow.specs.Steps.{Answer, alone, renamed}
use Rattle.std.specs.Prelude.{Result, Ok, Err}
use Rattle.scalar.specs.declared.{Sort.Sort, Encoding.Encoding, Unwritten.Unwritten}
use Rattle.scalar.specs.declared.{Unwritten.TheVariants.NoRoom, Unwritten.TheVariants.NoSuchForm}
use Rattle.scalar.specs.Scalars.{forms_of, number_from, shortest, units, string_at, shortest_string}

-- what stands at the place p of the message m, read as a value of this kind
unfoldable pub number_at : Sort → List ℕ → ℕ → Answer ℕ
number_at s m p = alone (byte_at (number_from (forms_of s))) m p

-- the bytes stored or needed
abbrev pub report : Result ℕ Unwritten → Report
report (Ok n) = reported 0 n
report (Err (NoRoom n)) = reported no_room n
report (Err NoSuchForm) = reported no_record 0

-- what storing a form from the index at on comes to, in a slice of len bytes; and what the slice then holds
unfoldable pub report_of : Option (List ℕ) → ℕ → ℕ → Report
report_of none len at = reported no_record 0
report_of (some w) len at = pick (leb (at + length w) len) (reported 0 (length w)) (reported no_room (length w))

unfoldable pub output_of : Option (List ℕ) → List ℕ → ℕ → List ℕ
output_of none l at = l
output_of (some w) l at = stored l at w

unfoldable pub length_of : Option (List ℕ) → ℕ
length_of none = 0
length_of (some w) = length w

-- 2026-06: the length of the shortest form of the value that was read; a refusal has 0
abbrev pub length_read : Sort → Answer ℕ → ℕ
length_read s (Done n v es c) = length_of (shortest (forms_of s) v)
length_read s (Fault x o) = 0

-- of what stands at the place p of the message m, read as a value of this kind
unfoldable pub number_length_at : Sort → List ℕ → ℕ → ℕ
number_length_at s m p = length_read s (number_at s m p)

-- ---- a text or byte string: its units, its content's bytes, and (2026-06) those of its shortest form
pub record Sizes : Type 0 where
  pub units : ℕ
  pub bytes : ℕ
  pub shortest : ℕ

abbrev pub sized : ℕ → ℕ → ℕ → Sizes
sized u b w = record { units = u; bytes = b; shortest = w }

abbrev pub sizes : Encoding → List ℕ → Sizes
sizes k cs = sized (units k cs) (length cs) (length_of (shortest_string k cs))

-- what stands at the place p of the message m, by its sizes
unfoldable pub measured_at : Encoding → List ℕ → ℕ → Answer Sizes
measured_at k m p = renamed (sizes k) (string_at k m p)

-- ---- the content of a text or byte string, if one was read
abbrev pub content_read : Answer (List ℕ) → Option (List ℕ)
content_read (Done n cs es c) = some cs
content_read (Fault x o) = none

-- ---- the shortest form of the text or byte string at the place p of the message m, if one stands there
abbrev pub form_of : Encoding → Answer (List ℕ) → Option (List ℕ)
form_of k (Done n cs es c) = shortest_string k cs
form_of k (Fault x o) = none

unfoldable pub item_form : Encoding → List ℕ → ℕ → Option (List ℕ)
item_form k m p = form_of k (string_at k m p)

-- the same, if its content has u units and b bytes
abbrev pub sized_of : Encoding → ℕ → ℕ → Answer (List ℕ) → Option (List ℕ)
sized_of k u b (Done n cs es c) = pick (eqb (units k cs) u && eqb (length cs) b) (shortest_string k cs) none
sized_of k u b (Fault x o) = none

unfoldable pub sized_form : Encoding → List ℕ → ℕ → ℕ → ℕ → Option (List ℕ)
sized_form k m p u b = sized_of k u b (string_at k m p)

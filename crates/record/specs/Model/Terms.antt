-- The terms in which the demands speak of records and rows. No function's promise needs them.
use mathlib.Core.{Path.◌≡◌, Bool.Bool, Bool.◌&&◌, List.List}
use Rattle.std.specs.Prelude.{ℕ, ◌+◌, ◌≤◌, ◌<◌}
use lib.{Dec.leb, Dec.eqb, ListN.length, ListN.take, ListN.drop, ListN.get_or}
use mir.{Syntax.w32, Val.to_z}
use Rattle.flow.specs.RefusalNumbers.{no_room}
use Rattle.flow.specs.Flow.{pick, Bytes, Entry, Outcome, Done, Fault, items}
use Rattle.scalar.specs.Scalars.{DoubleRule, Floats, thousandths}
use Rattle.wire.specs.BigEndian.{joined}
use Rattle.record.specs.Model.Kinds.{double_kind}
use Rattle.record.specs.Model.Items.{Item, Known, start, Limits}
use Rattle.record.specs.Model.Reading.{message}
use Rattle.record.specs.Model.Rows.{Row, row, rows}
use Rattle.record.specs.Model.Claims.{ClaimAll}
use Rattle.record.specs.Model.Answers.{judged, WriteResult, Wrote, Refused, shortest_of, answered_to}
use Rattle.record.specs.Model.Claims.{content_at}

abbrev pub Accepted : {A : Type 0} → List Item → Outcome Known Item A → Type 0
Accepted r (Done n u es c) = items es ≡ r
Accepted r (Fault x o) = ⊥

-- the message m, of bytes, is read, all of it, as the items r
pub record Reads (ρ : DoubleRule) (ℓ : Limits) (m : List ℕ) (r : List Item) : Type 0 where
  pub bytes : Bytes m
  pub accepted : Accepted r (message ρ ℓ start 0 m)

-- none of refusals 1 to 8 is given for the message m, which reads as the items r
pub record Accepts (ρ : DoubleRule) (ℓ : Limits) (m : List ℕ) (r : List Item) : Type 0 where
  pub entries : List (Entry Item)
  pub known : Known
  pub done : judged ρ ℓ m ≡ Done (length m) tt entries known
  pub reads_record : items entries ≡ r

-- 2026-11: a row read by the main rule, in thousandths. A double whose first byte is 5f has the bits of the thousandths
-- that its four bytes hold; every other row stays
abbrev pub at_five_f : List ℕ → Row → Bool
at_five_f m x = eqb x.kind double_kind && (eqb (get_or m x.place 0) 0x5f && leb (x.place + 5) (length m))

abbrev pub first_in_thousandths : List ℕ → Row → ℕ
first_in_thousandths m x =
    pick (at_five_f m x) (thousandths (to_z w32 (joined 0 (take 4 (drop (x.place + 1) m))))) x.first

abbrev pub row_in_thousandths : List ℕ → Row → Row
row_in_thousandths m x = row x.kind x.place (first_in_thousandths m x) x.second x.after

-- the writer's answer for rows
unfoldable pub write : Limits → (open_from lent : ℕ) → List ℕ → List Row → WriteResult
write ℓ open_from lent source r = answered_to ℓ lent source (shortest_of ℓ open_from (content_at source) r)

-- the message m has the record that the rows claim
pub record Has (ℓ : Limits) (source : List ℕ) (r : List Row) (m : List ℕ) : Type 0 where
  pub the_record : List Item
  pub claimed : ClaimAll (content_at source) r the_record
  pub read_as : Reads Floats ℓ m the_record

-- the rows of an answer are those of a message that is accepted, and they fit
pub record Holds (ρ : DoubleRule) (ℓ : Limits) (lent : ℕ) (m : List ℕ) (rs : List Row) : Type 0 where
  pub the_record : List Item
  pub accepts : Accepts ρ ℓ m the_record
  pub holds : rs ≡ rows accepts.entries
  pub enough : length accepts.entries ≤ lent

-- some message has the record that the rows claim, and each of them is too long
abbrev pub TooLong : Limits → List ℕ → List Row → Type 0
TooLong ℓ source r = ((m : List ℕ) × Has ℓ source r m) × ((m : List ℕ) → Has ℓ source r m → ℓ.longest < length m)

-- given room, one message is written, which is accepted and has the record; no message that has it, of any spelling, is
-- shorter; refusal 9 counts its bytes
pub record Shortest (ℓ : Limits) (open_from : ℕ) (source : List ℕ) (r : List Row) : Type 0 where
  pub message_of : List ℕ
  pub given_room : (lent : ℕ) → length message_of ≤ lent → write ℓ open_from lent source r ≡ Wrote message_of
  pub has : Has ℓ source r message_of
  pub accepted : Accepts Floats ℓ message_of has.the_record
  pub none_shorter : (m : List ℕ) → Has ℓ source r m → length message_of ≤ length m
  pub needed : (lent : ℕ) → lent < length message_of → write ℓ open_from lent source r
      ≡ Refused no_room (length message_of)

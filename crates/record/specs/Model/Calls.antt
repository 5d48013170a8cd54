-- Calls of the functions that read and write whole messages, for any limits and any layout of tables: what a call
-- gives, and the terms in which the demands speak of it.
use mathlib.Core.{Path.◌≡◌, List.List}
use Rattle.std.specs.Prelude.{ℕ, ◌*◌, ◌^◌, ◌≤◌, ◌<◌, length, drop}
use Rattle.flow.specs.Flow.{Bytes, Report}
use Rattle.scalar.specs.Scalars.{DoubleRule, Floats}
use Rattle.record.specs.Model.Items.{Item, Limits}
use Rattle.record.specs.Model.Rows.{Row, rows}
use Rattle.record.specs.Model.Claims.{content_at, ClaimAll}
use Rattle.record.specs.Model.Grammar.{Message}
use Rattle.record.specs.Model.Answers.{Layout, lent_rows, rows_of, read_report, read_table, write_report, write_output}
use Rattle.record.specs.Model.Answers.{base_open_from, read_length}
use Rattle.record.specs.Model.Terms.{Accepts}
use Rattle.record.specs.Model.Hops.{Skippable}

-- the message m is read into the table t, by the rule ρ of 5f: the report, the table afterwards
pub record ReadCall (ρ : DoubleRule) (ℓ : Limits) (L : Layout) (m t : List ℕ) (a : Report) (t' : List ℕ) : Type 0 where
  pub bytes : Bytes m
  pub report : a ≡ read_report ρ ℓ L m t
  pub table : t' ≡ read_table ρ ℓ L m t

-- the same, where the answer also says the length n of the record's shortest message (2026-06). That it is the same for
-- every list threshold up to 48: Demanded.measuring
pub record MeasuredCall (ρ : DoubleRule) (ℓ : Limits) (L : Layout) (m t : List ℕ) (a : Report) (n : ℕ) (t' : List ℕ)
    : Type 0 where
  pub call : ReadCall ρ ℓ L m t a t'
  pub shortest : n ≡ read_length ρ ℓ base_open_from L m t

-- the first n rows of the table t, whose texts and bytes lie in the source s, are written into the output o: the
-- report, the output afterwards
pub record WriteCall (ℓ : Limits) (open_from : ℕ) (L : Layout) (s t : List ℕ) (n : ℕ) (o : List ℕ) (a : Report)
    (o' : List ℕ) : Type 0 where
  pub report : a ≡ write_report ℓ open_from L s t n o
  pub output : o' ≡ write_output ℓ open_from L s t n o

-- the numbers of a row have 64 bits
pub record Fits (r : Row) : Type 0 where
  pub kind : r.kind < 2 ^ 64
  pub place : r.place < 2 ^ 64
  pub first : r.first < 2 ^ 64
  pub second : r.second < 2 ^ 64
  pub after : r.after < 2 ^ 64

-- a layout in which such rows are found again
pub record Keeps (L : Layout) : Type 0 where
  pub sized : (r : Row) → length (L.encode r) ≡ L.width
  pub again : (r : Row) → Fits r → L.decode (L.encode r) ≡ r

-- the table t' holds the record of the message m, accepted with the report a
pub record Holding (ρ : DoubleRule) (ℓ : Limits) (L : Layout) (m t : List ℕ) (a : Report) (t' : List ℕ) : Type 0 where
  pub the_record : List Item
  -- the grammar reads the message as this record, within the limits, and the lent rows suffice
  pub grammar : Message ρ ℓ m the_record
  pub short : length m ≤ ℓ.longest
  pub enough : length the_record ≤ lent_rows L t
  -- the report has its items and the message's length
  pub counted : a.count ≡ length the_record
  pub whole : a.place ≡ length m
  -- the rows are those of the reading, in message order, each with the place of its item; they claim the record
  pub accepts : Accepts ρ ℓ m the_record
  pub rows_are : rows_of L a.count t' ≡ rows accepts.entries
  pub claimed : ClaimAll (content_at m) (rows_of L a.count t') the_record
  -- request 2026-07: each of them skips what it opens
  pub skips : Skippable (rows_of L a.count t') the_record
  -- the numbers past them stay
  pub past : drop (a.count * L.width) t' ≡ drop (a.count * L.width) t

-- the message m, by the main rule, has the record that the first n rows of the table t claim in the source s
pub record RecordOf (ℓ : Limits) (L : Layout) (s t : List ℕ) (n : ℕ) (m : List ℕ) : Type 0 where
  pub lent : n ≤ lent_rows L t
  pub the_record : List Item
  pub claimed : ClaimAll (content_at s) (rows_of L n t) the_record
  pub grammar : Message Floats ℓ m the_record

-- so has the message w, and none that has it, of any spelling, is shorter
pub record ShortestOf (ℓ : Limits) (L : Layout) (s t : List ℕ) (n : ℕ) (w : List ℕ) : Type 0 where
  pub has : RecordOf ℓ L s t n w
  pub short : length w ≤ ℓ.longest
  pub none_shorter : (m : List ℕ) → RecordOf ℓ L s t n m → length w ≤ length m

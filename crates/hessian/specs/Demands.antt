-- The demands, of each public function that reads or writes whole messages: instances of record's theorem
-- (Theorems/Demands.antt), for 01's limits and threshold. A call is what its function promises: MeasuredCall,
-- ReadCall and WriteCall of the answer's report (and length), and for C ReadGives, LengthGives, WriteGives and
-- ContentGives (Packed.antt). The proofs are in Called.antt.
use mathlib.Core.{Path.◌≡◌, Logic.◌↔◌, Bool.true, List.List, List.map}
use Rattle.std.specs.Prelude.{ℕ, ◌≤◌, ◌<◌, Result, length, take}
use Rattle.flow.specs.RefusalNumbers.{wrong_length, no_room, no_record}
use Rattle.flow.specs.Flow.{stored}
use Rattle.scalar.specs.Scalars.{DoubleRule, Floats, Thousandths}
use Rattle.record.specs.Model.Items.{Item}
use Rattle.record.specs.Model.Rows.{Row}
use Rattle.record.specs.Model.Claims.{content_of, content_at, names_content, Claims}
use Rattle.record.specs.Model.Answers.{base, base_open_from, as_numbers, as_bytes, lent_rows, rows_of}
use Rattle.record.specs.Model.Terms.{row_in_thousandths}
use Rattle.record.specs.Model.Same.{SameRecord}
use Rattle.record.specs.Model.Hops.{Skippable}
use Rattle.record.specs.Model.Calls.{ReadCall, MeasuredCall, WriteCall, RecordOf, ShortestOf}
use Rattle.record.specs.Theorems.Demands.{OfRead, OfLength, OfWrite, Demanded}
use Rattle.reader.specs.declared.Filled.{Filled}
use Rattle.reader.specs.declared.Accepted.{Accepted}
use Rattle.reader.specs.declared.ReadError.{ReadError}
use Rattle.reader.specs.Answers as reader
use Rattle.writer.specs.declared.WriteError.{WriteError}
use Rattle.writer.specs.Answers as writer
use Rattle.hessian.specs.declared.HessianAnswer.{HessianAnswer}
use Rattle.hessian.specs.Packed.{unpacked, answer, answer_report, ReadGives, LengthGives, WriteGives}
use Rattle.hessian.specs.Packed.{ContentGives}

-- ---- reader::read and read_thousandths, each by its rule of 5f, and writer::write, on tables of numbers
abbrev pub OfReaderRead : Type 0
OfReaderRead = (ρ : DoubleRule) (m t : List ℕ) (r : Result Accepted ReadError) (t' : List ℕ)
    → MeasuredCall ρ base as_numbers m t (reader.report r) (reader.shortest r) t'
    → OfRead ρ base as_numbers m t (reader.report r) t'
    × OfLength ρ base base_open_from as_numbers m (reader.report r) (reader.shortest r) t'

abbrev pub OfWriterWrite : Type 0
OfWriterWrite = (s t : List ℕ) (n : ℕ) (o : List ℕ) (r : Result ℕ WriteError) (o' : List ℕ)
    → WriteCall base base_open_from as_numbers s t n o (writer.report r) o'
    → OfWrite base base_open_from as_numbers s t n o (writer.report r) o'

-- both together: what is written reads back, nothing is shorter, copies, rows that skip
abbrev pub OfNumbers : Type 0
OfNumbers = Demanded base base_open_from as_numbers

-- ---- reader::read_bytes and read_bytes_thousandths, and writer::write_bytes, on C's tables
abbrev pub OfReaderReadBytes : Type 0
OfReaderReadBytes = (ρ : DoubleRule) (m t : List ℕ) (r : Result Accepted ReadError) (t' : List ℕ)
    → MeasuredCall ρ base as_bytes m t (reader.report r) (reader.shortest r) t'
    → OfRead ρ base as_bytes m t (reader.report r) t'
    × OfLength ρ base base_open_from as_bytes m (reader.report r) (reader.shortest r) t'

-- reader::fill_bytes and fill_bytes_thousandths, which do not measure
abbrev pub OfReaderFillBytes : Type 0
OfReaderFillBytes = (ρ : DoubleRule) (m t : List ℕ) (r : Result Filled ReadError) (t' : List ℕ)
    → ReadCall ρ base as_bytes m t (reader.fill_report r) t' → OfRead ρ base as_bytes m t (reader.fill_report r) t'

abbrev pub OfWriterWriteBytes : Type 0
OfWriterWriteBytes = (s t : List ℕ) (n : ℕ) (o : List ℕ) (r : Result ℕ WriteError) (o' : List ℕ)
    → WriteCall base base_open_from as_bytes s t n o (writer.report r) o'
    → OfWrite base base_open_from as_bytes s t n o (writer.report r) o'

abbrev pub OfBytes : Type 0
OfBytes = Demanded base base_open_from as_bytes

-- ---- hessian_read, hessian_read_thousandths and hessian_write
abbrev pub OfHessianRead : Type 0
OfHessianRead = (ρ : DoubleRule) (m t : List ℕ) (a : ℕ) (t' : List ℕ) → ReadGives ρ m t a t'
    → OfRead ρ base as_bytes m t (unpacked a) t'

abbrev pub OfHessianWrite : Type 0
OfHessianWrite = (s t : List ℕ) (n : ℕ) (o : List ℕ) (a : ℕ) (o' : List ℕ) → WriteGives s t n o a o'
    → OfWrite base base_open_from as_bytes s t n o (unpacked a) o'

-- a shortest message is accepted and reads as the same record, and no accepted message that does is shorter
pub record OfHessianShortest (s t : List ℕ) (n : ℕ) (w : List ℕ) : Type 0 where
  pub written_reads : (t₂ : List ℕ) (a₂ : ℕ) (t₂' : List ℕ) → ReadGives Floats w t₂ a₂ t₂' → n ≤ lent_rows as_bytes t₂
      → ((unpacked a₂).number ≡ 0) × SameRecord s w (rows_of as_bytes n t) (rows_of as_bytes (unpacked a₂).count t₂')
  pub no_shorter : (m tm : List ℕ) (am : ℕ) (tm' : List ℕ) → ReadGives Floats m tm am tm' → (unpacked am).number ≡ 0
      → SameRecord s m (rows_of as_bytes n t) (rows_of as_bytes (unpacked am).count tm') → length w ≤ length m

abbrev pub HessianShortest : Type 0
HessianShortest = (s t : List ℕ) (n : ℕ) (w : List ℕ) → ShortestOf base as_bytes s t n w → OfHessianShortest s t n w

-- what was read is written in no more bytes
abbrev pub HessianRewritten : Type 0
HessianRewritten = (m t : List ℕ) (a : ℕ) (t' : List ℕ) → ReadGives Floats m t a t' → (unpacked a).number ≡ 0
    → (o : List ℕ) (c : ℕ) (o' : List ℕ) → WriteGives m t' (unpacked a).count o c o' → length m ≤ length o
    → ((unpacked c).number ≡ 0) × ((unpacked c).count ≤ length m)

-- request 2026-11: what was read by either rule of 5f is a record, and what is written of it reads back, by the main
-- rule, as the same one
abbrev pub HessianRewrittenUnder : Type 0
HessianRewrittenUnder = (ρ : DoubleRule) (m t : List ℕ) (a : ℕ) (t' : List ℕ) → ReadGives ρ m t a t'
    → (unpacked a).number ≡ 0
    → (o : List ℕ) (c : ℕ) (o' : List ℕ) → WriteGives m t' (unpacked a).count o c o'
    → ((unpacked c).number ≡ no_record → ⊥)
    × ((unpacked c).number ≡ 0 → (t₂ : List ℕ) (a₂ : ℕ) (t₂' : List ℕ)
    → ReadGives Floats (take (unpacked c).count o') t₂ a₂ t₂' → (unpacked a).count ≤ lent_rows as_bytes t₂
    → ((unpacked a₂).number ≡ 0) × SameRecord m (take (unpacked c).count o')
    (rows_of as_bytes (unpacked a).count t') (rows_of as_bytes (unpacked a₂).count t₂'))

-- request 2026-11: both rules give one answer, and an accepted message the same rows, but for the bits of doubles at 5f
abbrev pub HessianTold : Type 0
HessianTold = (m t : List ℕ) (a : ℕ) (t' : List ℕ) → ReadGives Floats m t a t'
    → (b : ℕ) (t'' : List ℕ) → ReadGives Thousandths m t b t''
    → (unpacked a ≡ unpacked b)
    × ((unpacked a).number ≡ 0
    → rows_of as_bytes (unpacked a).count t'' ≡ map (row_in_thousandths m) (rows_of as_bytes (unpacked a).count t'))

-- request 2026-06: of the length n of a message, beside a call that reads it. It is 0 exactly where reading refuses with
-- another number than 9; by the main rule it is never more than the message has; with room, hessian_write writes so many
-- bytes, where the ceiling is passed it refuses 1, and with less room 9, which counts them
pub record OfHessianLength (ρ : DoubleRule) (m : List ℕ) (n a : ℕ) (t' : List ℕ) : Type 0 where
  pub refused : (n ≡ 0) ↔ (((unpacked a).number ≡ 0 → ⊥) × ((unpacked a).number ≡ no_room → ⊥))
  pub no_longer : ρ ≡ Floats → n ≤ length m
  pub written : (unpacked a).number ≡ 0 → (o : List ℕ) (c : ℕ) (o' : List ℕ)
      → WriteGives m t' (unpacked a).count o c o'
      → (n ≤ base.longest → n ≤ length o → unpacked c ≡ answer 0 n 0)
      × (base.longest < n → unpacked c ≡ answer wrong_length 0 0)
      × (n ≤ base.longest → length o < n → unpacked c ≡ answer no_room n 0)

abbrev pub HessianLength : Type 0
HessianLength = (ρ : DoubleRule) (m : List ℕ) (n : ℕ) → LengthGives ρ m n
    → (t : List ℕ) (a : ℕ) (t' : List ℕ) → ReadGives ρ m t a t' → OfHessianLength ρ m n a t'

-- true copies: two tables hold the same record exactly when the messages written are the same bytes
abbrev pub HessianCopies : Type 0
HessianCopies = (s₁ t₁ : List ℕ) (n₁ : ℕ) (o₁ : List ℕ) (a₁ : ℕ) (o₁' : List ℕ) → WriteGives s₁ t₁ n₁ o₁ a₁ o₁'
    → (unpacked a₁).number ≡ 0
    → (s₂ t₂ : List ℕ) (n₂ : ℕ) (o₂ : List ℕ) (a₂ : ℕ) (o₂' : List ℕ) → WriteGives s₂ t₂ n₂ o₂ a₂ o₂'
    → (unpacked a₂).number ≡ 0
    → SameRecord s₁ s₂ (rows_of as_bytes n₁ t₁) (rows_of as_bytes n₂ t₂)
    ↔ (take (unpacked a₁).count o₁' ≡ take (unpacked a₂).count o₂')

-- request 2026-07: whatever rows of C's table hold the record of a message, each of them skips what it opens
abbrev pub HessianSkips : Type 0
HessianSkips = (s t : List ℕ) (n : ℕ) (m : List ℕ) (x : RecordOf base as_bytes s t n m)
    → Skippable (rows_of as_bytes n t) x.the_record

-- ---- hessian_content: where a row claims an item and names a content, it is that item's, whole
abbrev pub HessianContents : Type 0
HessianContents = (s : List ℕ) (x : Row) (i : Item) → Claims (content_at s) x i → names_content x.kind ≡ true
    → (o : List ℕ) (r : HessianAnswer) (o' : List ℕ) → ContentGives s x.kind x.place o r o'
    → length (content_of i) ≤ length o
    → (answer_report r ≡ answer 0 (length (content_of i)) 0) × (o' ≡ stored o 0 (content_of i))

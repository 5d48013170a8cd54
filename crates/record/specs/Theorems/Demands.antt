-- The demands, in their words, of calls that read and write whole messages. Model/Calls.antt has the terms; the proofs
-- are in proofs/Theorems/Called.antt.
use mathlib.Core.{Path.◌≡◌, Logic.{◌↔◌, ◌⊎◌}, List.List, List.map}
use Rattle.std.specs.Prelude.{ℕ, ◌^◌, ◌≤◌, ◌<◌, length, take, drop}
use Rattle.flow.specs.RefusalNumbers.{wrong_length, cut, bytes_after, no_room, no_record}
use Rattle.flow.specs.Flow.{Report}
use Rattle.scalar.specs.Scalars.{DoubleRule, Floats, Thousandths}
use Rattle.record.specs.Model.Items.{Item, Limits}
use Rattle.record.specs.Model.Grammar.{Message}
use Rattle.record.specs.Model.Answers.{Layout, lent_rows, rows_of, base_open_from, shortest_length}
use Rattle.record.specs.Model.Terms.{row_in_thousandths}
use Rattle.record.specs.Model.Same.{SameRecord}
use Rattle.record.specs.Model.Hops.{Skippable}
use Rattle.record.specs.Model.Calls.{ReadCall, MeasuredCall, WriteCall, Keeps, Holding, RecordOf, ShortestOf}

abbrev answer : ℕ → ℕ → ℕ → Report
answer number count place = record { number = number; count = count; place = place }

-- of a call that reads: message, table, report, table afterwards
pub record OfRead (ρ : DoubleRule) (ℓ : Limits) (L : Layout) (m t : List ℕ) (a : Report) (t' : List ℕ) : Type 0 where
  -- demand 1: it accepts or gives one of the numbered refusals, and a refusal changes nothing
  pub numbered : a.number ≤ no_room
  pub unchanged : (a.number ≡ 0 → ⊥) → t' ≡ t
  -- demand 2: it accepts exactly when the grammar reads the message as one record within the limits and the lent rows
  -- suffice
  pub accepted : (a.number ≡ 0)
      ↔ ((r : List Item) × Message ρ ℓ m r × (length m ≤ ℓ.longest) × (length r ≤ lent_rows L t))
  -- and the table then holds that record
  pub holds : a.number ≡ 0 → Holding ρ ℓ L m t a t'
  -- refusal 1 exactly when the message is empty or too long
  pub refused_1 : (a.number ≡ wrong_length) ↔ ((length m ≡ 0) ⊎ (ℓ.longest < length m))
  -- refusal 9 exactly when the message would be accepted, and has more rows than are lent; it counts them, and no other
  -- refusal counts
  pub refused_9 : (a.number ≡ no_room)
      ↔ ((r : List Item) × Message ρ ℓ m r × (length m ≤ ℓ.longest) × (lent_rows L t < length r))
  pub needed : a.number ≡ no_room → (r : List Item) → Message ρ ℓ m r → a.count ≡ length r
  pub counts_nothing : (a.number ≡ 0 → ⊥) → (a.number ≡ no_room → ⊥) → a.count ≡ 0
  -- 1 and 9 have no place; 2 has the message's length for its place, 3 to 8 a place inside the message
  pub no_place : (a.number ≡ wrong_length) ⊎ (a.number ≡ no_room) → a.place ≡ 0
  pub refused_2 : a.number ≡ cut → a.place ≡ length m
  pub refused_inside : cut < a.number → a.number ≤ bytes_after → a.place < length m

-- of a call that writes: source, table, rows claimed, output, report, output afterwards
pub record OfWrite (ℓ : Limits) (open_from : ℕ) (L : Layout) (s t : List ℕ) (n : ℕ) (o : List ℕ) (a : Report)
    (o' : List ℕ) : Type 0 where
  -- demand 1: it accepts or gives one of the numbered refusals, and a refusal changes nothing
  pub numbered : (a.number ≡ 0) ⊎ ((a.number ≡ wrong_length) ⊎ ((a.number ≡ no_room) ⊎ (a.number ≡ no_record)))
  pub unchanged : (a.number ≡ 0 → ⊥) → o' ≡ o
  pub no_place : a.place ≡ 0
  -- demand 2: it refuses only where a numbered rule says so. 10 exactly when, length set aside, no message within the
  -- other ceilings has the record
  pub refused_10 : length s ≤ ℓ.longest
      → (a ≡ answer no_record 0 0) ↔ ((m : List ℕ) → RecordOf ℓ L s t n m → ⊥)
  -- 1 exactly when the source is too long, or some messages have the record and each of them is too long
  pub refused_1 : (a ≡ answer wrong_length 0 0) ↔ ((ℓ.longest < length s)
      ⊎ (((m : List ℕ) × RecordOf ℓ L s t n m) × ((m : List ℕ) → RecordOf ℓ L s t n m → ℓ.longest < length m)))
  -- 9 exactly when the bytes lent are fewer than the shortest message takes; it counts them
  pub refused_9 : (k : ℕ) → (a ≡ answer no_room k 0)
      ↔ ((length s ≤ ℓ.longest) × (w : List ℕ) × ShortestOf ℓ L s t n w × (length w ≡ k) × (length o < k))
  -- it accepts else
  pub accepted : (a.number ≡ 0)
      ↔ ((length s ≤ ℓ.longest) × (w : List ℕ) × ShortestOf ℓ L s t n w × (length w ≤ length o))
  -- what is written has the record that it was written from, and none that has it is shorter; the output past it is
  -- unchanged
  pub written_back : a.number ≡ 0 → ShortestOf ℓ L s t n (take a.count o')
      × (length (take a.count o') ≡ a.count) × (drop a.count o' ≡ drop a.count o)
  -- demand 3: any table refused with neither 1 nor 10 is accepted, given room, and the message written is shortest
  pub demand_3 : (a.number ≡ wrong_length → ⊥) → (a.number ≡ no_record → ⊥)
      → (w : List ℕ) × ShortestOf ℓ L s t n w
      × ((o₂ : List ℕ) (a₂ : Report) (o₂' : List ℕ) → WriteCall ℓ open_from L s t n o₂ a₂ o₂' → length w ≤ length o₂
      → (a₂.number ≡ 0) × (take a₂.count o₂' ≡ w))

-- of both, demand 3 over demand 2's reading: a shortest message is accepted and reads as the same record, and no
-- accepted message that does is shorter
pub record OfShortest (ℓ : Limits) (L : Layout) (s t : List ℕ) (n : ℕ) (w : List ℕ) : Type 0 where
  pub written_reads : (t₂ : List ℕ) (a₂ : Report) (t₂' : List ℕ) → ReadCall Floats ℓ L w t₂ a₂ t₂' → n ≤ lent_rows L t₂
      → (a₂.number ≡ 0) × SameRecord s w (rows_of L n t) (rows_of L a₂.count t₂')
  pub no_shorter : (m tm : List ℕ) (am : Report) (tm' : List ℕ) → ReadCall Floats ℓ L m tm am tm' → am.number ≡ 0
      → SameRecord s m (rows_of L n t) (rows_of L am.count tm') → length w ≤ length m

-- of the length n that a call that reads says beside its report (request 2026-06)
pub record OfLength (ρ : DoubleRule) (ℓ : Limits) (open_from : ℕ) (L : Layout) (m : List ℕ) (a : Report) (n : ℕ)
    (t' : List ℕ) : Type 0 where
  -- a refusal has 0
  pub refused : (a.number ≡ 0 → ⊥) → n ≡ 0
  -- for an accepted message it is the length of the record's shortest message, by this threshold of the open form too
  pub measured : a.number ≡ 0 → n ≡ shortest_length ρ ℓ open_from m
  -- read, then write: with room, so many bytes are written; where the ceiling is passed, the writer refuses 1; with
  -- less room it refuses 9, which counts them
  pub written : a.number ≡ 0 → (o : List ℕ) (c : Report) (o' : List ℕ) → WriteCall ℓ open_from L m t' a.count o c o'
      → (n ≤ ℓ.longest → n ≤ length o → c ≡ answer 0 n 0)
      × (ℓ.longest < n → c ≡ answer wrong_length 0 0)
      × (n ≤ ℓ.longest → length o < n → c ≡ answer no_room n 0)

-- of that length by itself, whatever rows are lent to the call
pub record OfShortestLength (ρ : DoubleRule) (ℓ : Limits) (open_from : ℕ) (m : List ℕ) (a : Report) : Type 0 where
  -- it is 0 exactly where reading refuses with another number than 9
  pub refused : (shortest_length ρ ℓ open_from m ≡ 0) ↔ ((a.number ≡ 0 → ⊥) × (a.number ≡ no_room → ⊥))
  -- the threshold of the open form does not change it
  pub agrees : shortest_length ρ ℓ open_from m ≡ shortest_length ρ ℓ base_open_from m
  -- by the main rule it is never more than the message has
  pub no_longer : ρ ≡ Floats → shortest_length ρ ℓ open_from m ≤ length m

-- ---- the theorem
-- of the limits ℓ, the threshold open_from and tables in the layout L
pub record Demanded (ℓ : Limits) (open_from : ℕ) (L : Layout) : Type 0 where
  pub reading : (ρ : DoubleRule) (m t : List ℕ) (a : Report) (t' : List ℕ) → ReadCall ρ ℓ L m t a t'
      → OfRead ρ ℓ L m t a t'
  pub writing : (s t : List ℕ) (n : ℕ) (o : List ℕ) (a : Report) (o' : List ℕ) → WriteCall ℓ open_from L s t n o a o'
      → OfWrite ℓ open_from L s t n o a o'
  pub shortening : (s t : List ℕ) (n : ℕ) (w : List ℕ) → ShortestOf ℓ L s t n w → OfShortest ℓ L s t n w
  -- read then write: the rows read of a message are accepted, given as many bytes as it has, and take no more (the same
  -- record: written_back, written-reads)
  pub rewriting : (m t : List ℕ) (a : Report) (t' : List ℕ) → ReadCall Floats ℓ L m t a t' → a.number ≡ 0
      → (o : List ℕ) (c : Report) (o' : List ℕ) → WriteCall ℓ open_from L m t' a.count o c o' → length m ≤ length o
      → (c.number ≡ 0) × (c.count ≤ length m)
  -- request 2026-11: read by either rule of 5f, then write. The rows are a record, so that 10 is not given; what is
  -- written reads back, by the main rule, as the same record
  pub rewriting_under : (ρ : DoubleRule) (m t : List ℕ) (a : Report) (t' : List ℕ) → ReadCall ρ ℓ L m t a t'
      → a.number ≡ 0 → (o : List ℕ) (c : Report) (o' : List ℕ) → WriteCall ℓ open_from L m t' a.count o c o'
      → (c.number ≡ no_record → ⊥)
      × (c.number ≡ 0 → (t₂ : List ℕ) (a₂ : Report) (t₂' : List ℕ) → ReadCall Floats ℓ L (take c.count o') t₂ a₂ t₂'
      → a.count ≤ lent_rows L t₂
      → (a₂.number ≡ 0) × SameRecord m (take c.count o') (rows_of L a.count t') (rows_of L a₂.count t₂'))
  -- request 2026-11: both rules of 5f give one report, and an accepted message the same rows, but for the bits of its
  -- doubles at 5f
  pub telling : (m t : List ℕ) (a : Report) (t' : List ℕ) → ReadCall Floats ℓ L m t a t'
      → (b : Report) (t'' : List ℕ) → ReadCall Thousandths ℓ L m t b t''
      → (a ≡ b) × (a.number ≡ 0 → rows_of L a.count t'' ≡ map (row_in_thousandths m) (rows_of L a.count t'))
  -- request 2026-06: the length that reading says is that of what is written
  pub measuring : (ρ : DoubleRule) (m t : List ℕ) (a : Report) (n : ℕ) (t' : List ℕ) → MeasuredCall ρ ℓ L m t a n t'
      → OfLength ρ ℓ open_from L m a n t'
  pub lengths : (ρ : DoubleRule) (m t : List ℕ) (a : Report) (t' : List ℕ) → ReadCall ρ ℓ L m t a t'
      → OfShortestLength ρ ℓ open_from m a
  -- true copies: two tables hold the same record exactly when the messages written are the same bytes
  pub copying : (s₁ t₁ : List ℕ) (n₁ : ℕ) (o₁ : List ℕ) (a₁ : Report) (o₁' : List ℕ)
      → WriteCall ℓ open_from L s₁ t₁ n₁ o₁ a₁ o₁' → a₁.number ≡ 0
      → (s₂ t₂ : List ℕ) (n₂ : ℕ) (o₂ : List ℕ) (a₂ : Report) (o₂' : List ℕ)
      → WriteCall ℓ open_from L s₂ t₂ n₂ o₂ a₂ o₂' → a₂.number ≡ 0
      → SameRecord s₁ s₂ (rows_of L n₁ t₁) (rows_of L n₂ t₂) ↔ (take a₁.count o₁' ≡ take a₂.count o₂')
  -- request 2026-07: whatever rows hold the record of a message, each of them skips what it opens
  pub skipping : (s t : List ℕ) (n : ℕ) (m : List ℕ) (x : RecordOf ℓ L s t n m)
      → Skippable (rows_of L n t) x.the_record

-- they hold for all limits under which a message has fewer than 2 ^ 63 bytes, every threshold up to 48, and every
-- layout that keeps rows of 64-bit numbers
abbrev pub Theorem : Type 0
Theorem = (ℓ : Limits) → ℓ.longest < 2 ^ 63 → (open_from : ℕ) → open_from ≤ 48 → (L : Layout) → Keeps L
    → Demanded ℓ open_from L

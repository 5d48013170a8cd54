-- How a call that reads or writes a message can end, by cases. None of it has to be believed.
use Rattle.std.specs.Prelude.{◌≡◌, refl, List, ℕ, ◌≤◌, ◌<◌, length}
use Rattle.std.proofs.Common.{sym, ◌∙◌, lt-ltb, le-ltb}
use Rattle.std.proofs.Math.Path.{ap}
use Rattle.std.proofs.Math.Option.{Option, none, some}
use Rattle.std.proofs.lemmas.List.{length-map}
use Rattle.flow.specs.Tests.{split, pick_true, pick_false}
use Rattle.flow.specs.Flow.{Entry, stored, Report}
use Rattle.scalar.specs.Scalars.{DoubleRule}
use Rattle.record.specs.Model.Items.{Item, Limits}
use Rattle.record.specs.Model.Rows.{rows}
use Rattle.record.specs.Model.Claims.{content_at}
use Rattle.record.specs.Model.Answers.{ReadResult, Accept, Refuse, read, WriteResult, Wrote, Refused, shortest_of}
use Rattle.record.specs.Model.Answers.{answered_to, Layout, lent_rows, rows_of, read_numbers, filled, write_numbers}
use Rattle.record.specs.Model.Answers.{written, output_written}
use Rattle.record.specs.Model.Terms.{write, Accepts}
use Rattle.record.specs.Model.Calls.{ReadCall, WriteCall}
use Rattle.record.proofs.Laws.Answering.{Misfit, by_read, by_answer}
use Rattle.record.proofs.Laws.Refusals.{Located}

abbrev pub answer : ℕ → ℕ → ℕ → Report
answer number count place = record { number = number; count = count; place = place }

-- a message's entries are as many as its items
pub entries_length : {ρ : DoubleRule} {ℓ : Limits} {m : List ℕ} {r : List Item} (x : Accepts ρ ℓ m r)
    → length r ≡ length x.entries
entries_length x = ap length (sym x.reads_record) ∙ length-map x.entries (λ (e : Entry Item). e.item)

-- ---- reading
module _ (ρ : DoubleRule) (ℓ : Limits) (L : Layout) (m t : List ℕ) (a : Report) (t' : List ℕ)
    (g : ReadCall ρ ℓ L m t a t') where
  -- the definitions' answer
  abbrev Answer : ReadResult
  Answer = read ρ ℓ (lent_rows L t) m

  pub data ReadCases : Type 0 where
    misfit : Misfit ℓ m → a ≡ answer 1 0 0 → t' ≡ t → ReadCases
    faulty : (x o : ℕ) → Located (length m) x o → a ≡ answer x 0 o → t' ≡ t → ReadCases
    few_rows : (r : List Item) (x : Accepts ρ ℓ m r) → lent_rows L t < length x.entries
        → a ≡ answer 9 (length x.entries) 0 → t' ≡ t → ReadCases
    whole : (r : List Item) (x : Accepts ρ ℓ m r) → length x.entries ≤ lent_rows L t
        → a ≡ answer 0 (length (rows x.entries)) (length m) → Answer ≡ Accept (rows x.entries) (length m)
        → ReadCases

  report_as : (z : ReadResult) → Answer ≡ z → a ≡ read_numbers z
  report_as z e = g.report ∙ ap read_numbers e

  table_as : (z : ReadResult) → Answer ≡ z → t' ≡ filled L t z
  table_as z e = g.table ∙ ap (filled L t) e

  pub read_cases : ReadCases
  read_cases = by_read ρ ℓ (lent_rows L t) m g.bytes (λ z. Answer ≡ z → ReadCases)
      (λ h e. misfit h (report_as (Refuse 1 0 0) e) (table_as (Refuse 1 0 0) e))
      (λ x o h e. faulty x o h (report_as (Refuse x 0 o) e) (table_as (Refuse x 0 o) e))
      (λ r x h e. few_rows r x h (report_as (Refuse 9 (length x.entries) 0) e)
      (table_as (Refuse 9 (length x.entries) 0) e))
      (λ r x h e. whole r x h (report_as (Accept (rows x.entries) (length m)) e) e)
      refl

-- ---- writing
module _ (ℓ : Limits) (open_from : ℕ) (L : Layout) (s t : List ℕ) (n : ℕ) (o : List ℕ) (a : Report) (o' : List ℕ)
    (g : WriteCall ℓ open_from L s t n o a o') where
  -- the shortest message of the rows claimed
  abbrev Shortest : Option (List ℕ)
  Shortest = shortest_of ℓ open_from (content_at s) (rows_of L n t)

  pub data WriteCases : Type 0 where
    long_source : ℓ.longest < length s → a ≡ answer 1 0 0 → o' ≡ o → WriteCases
    beyond : length s ≤ ℓ.longest → lent_rows L t < n → a ≡ answer 10 0 0 → o' ≡ o → WriteCases
    no_message : length s ≤ ℓ.longest → n ≤ lent_rows L t → Shortest ≡ none → a ≡ answer 10 0 0 → o' ≡ o → WriteCases
    too_long : length s ≤ ℓ.longest → n ≤ lent_rows L t → (w : List ℕ) → Shortest ≡ some w → ℓ.longest < length w
        → a ≡ answer 1 0 0 → o' ≡ o → WriteCases
    too_few : length s ≤ ℓ.longest → n ≤ lent_rows L t → (w : List ℕ) → Shortest ≡ some w → length w ≤ ℓ.longest
        → length o < length w → a ≡ answer 9 (length w) 0 → o' ≡ o → WriteCases
    wrote : length s ≤ ℓ.longest → n ≤ lent_rows L t → (w : List ℕ) → Shortest ≡ some w → length w ≤ ℓ.longest
        → length w ≤ length o → a ≡ answer 0 (length w) 0 → o' ≡ stored o 0 w → WriteCases

  -- the definitions' answer
  abbrev Written : WriteResult
  Written = written ℓ open_from L content_at s t n (length o)

  said : (x : WriteResult) → Written ≡ x → a ≡ write_numbers x
  said x e = g.report ∙ ap write_numbers e

  left : (x : WriteResult) → Written ≡ x → o' ≡ output_written o x
  left x e = g.output ∙ ap (output_written o) e

  claimed_beyond : lent_rows L t < n → Written ≡ answered_to ℓ (length o) s none
  unfolding written
  claimed_beyond l = ap (answered_to ℓ (length o) s) (pick_true _ _ (lt-ltb (lent_rows L t) n l))

  claimed_within : n ≤ lent_rows L t → Written ≡ write ℓ open_from (length o) s (rows_of L n t)
  unfolding written write
  claimed_within l = ap (answered_to ℓ (length o) s) (pick_false _ _ (le-ltb (lent_rows L t) n l))

  pub write_cases : WriteCases
  write_cases = split (lent_rows L t) n over within
    where
      over : lent_rows L t < n → WriteCases
      over l = split ℓ.longest (length s)
          (λ i. let e = claimed_beyond l ∙ pick_true _ _ (lt-ltb ℓ.longest (length s) i) in
          long_source i (said (Refused 1 0) e) (left (Refused 1 0) e))
          (λ i. let e = claimed_beyond l ∙ pick_false _ _ (le-ltb ℓ.longest (length s) i) in
          beyond i l (said (Refused 10 0) e) (left (Refused 10 0) e))

      within : n ≤ lent_rows L t → WriteCases
      within l = by_answer ℓ open_from s (rows_of L n t) (length o) (λ x. Written ≡ x → WriteCases)
          (λ i e. long_source i (said (Refused 1 0) e) (left (Refused 1 0) e))
          (λ i q e. no_message i l q (said (Refused 10 0) e) (left (Refused 10 0) e))
          (λ i w q j e. too_long i l w q j (said (Refused 1 0) e) (left (Refused 1 0) e))
          (λ i w q j k e. too_few i l w q j k (said (Refused 9 (length w)) e) (left (Refused 9 (length w)) e))
          (λ i w q j k e. wrote i l w q j k (said (Wrote w) e) (left (Wrote w) e))
          (claimed_within l)

-- 2026-06: the length of a record's shortest message, by the rows of the message read; and what a call that reads says
-- of it (Demands.antt).
use Rattle.std.specs.Prelude.{◌≡◌, refl, ◌↔◌, ◌⊎◌, ℕ, ◌≤◌, ◌<◌, ltb, length}
use Rattle.std.proofs.Math.Path.{sym, ap}
use Rattle.std.proofs.Common.{subst, ◌∙◌, inl, inr, ⊎_elim, arith}
use mathlib.Core.List.{List, map}
use Rattle.std.proofs.Math.Option.{some}
use Rattle.flow.specs.Flow.{Bytes, Entry, Outcome, Done, Fault, One, items, Report}
use Rattle.flow.specs.Tests.{by_cases, pick_true, pick_false}
use Rattle.scalar.specs.Scalars.{DoubleRule, Floats, total}
use Rattle.scalar.specs.Answers.{length_of}
use Rattle.record.specs.Model.Items.{Item, Known, Limits}
use Rattle.record.specs.Model.Rows.{rows}
use Rattle.record.specs.Model.Claims.{content_at}
use Rattle.record.specs.Model.Shortest.{spell}
use Rattle.record.specs.Model.Answers.{ReadResult, Accept, Refuse, judged, read, shortest_of, base_open_from}
use Rattle.record.specs.Model.Answers.{Layout, lent_rows, rows_of, read_numbers, length_judged, shortest_length}
use Rattle.record.specs.Model.Answers.{length_answered, answered}
use Rattle.record.specs.Model.Terms.{Accepts}
use Rattle.record.specs.Model.Calls.{ReadCall, MeasuredCall, WriteCall, Holding}
use Rattle.record.proofs.Laws.Claimed.{all_claimed}
use Rattle.record.proofs.Laws.Meaning.{message_all}
use Rattle.record.proofs.Laws.Refusals.{located_numbered}
use Rattle.record.proofs.Laws.MainSpelling.{message_main}
use Rattle.record.proofs.Laws.Short.{message_short}
use Rattle.record.proofs.Laws.Extent.{rows_few}
use Rattle.record.specs.Laws.RowLengths.{row_length}
use Rattle.record.proofs.Laws.ItemLengths.{record_length, spelled_length, spell_length}
use Rattle.record.proofs.Laws.ClaimedLengths.{claimed_lengths}
use Rattle.record.proofs.Theorems.ItemTheorems.{reads_back}
use Rattle.record.proofs.Theorems.RowTheorems.{judged_done, own_rows}
use Rattle.record.proofs.Theorems.AnswerTheorems.{accepted_exactly, accepted_some, rows_suffice}
use Rattle.record.proofs.Theorems.CallCases.{answer, WriteCases, long_source, beyond, no_message, too_long}
use Rattle.record.proofs.Theorems.CallCases.{too_few, wrote, write_cases, entries_length}
use Rattle.record.proofs.Theorems.CallCases.{ReadCases, misfit, faulty, few_rows, whole, read_cases}
use Rattle.record.specs.Theorems.Demands.{OfLength, OfShortestLength}

-- ---- an accepted message
module _ (ρ : DoubleRule) (ℓ : Limits) (open_from : ℕ) (most : open_from ≤ 48) (m : List ℕ) (bytes : Bytes m)
    (r : List Item) (x : Accepts ρ ℓ m r) where
  -- its record has a shortest message
  spelled : (w : List ℕ) × (spell ℓ open_from r ≡ some w)
  spelled =
      let main = message_main ρ ℓ m r ((accepted_exactly ρ ℓ m bytes r).0 x).1 in
      let short = message_short ℓ open_from most main.0 r main.1 in
      (short.0, short.1)

  -- whose bytes are its items' own, whatever the threshold
  pub accepted_length : shortest_length ρ ℓ open_from m ≡ record_length r
  unfolding shortest_length
  accepted_length =
      ap (length_judged ℓ open_from) x.done
      ∙ ap (λ (q : List Item). length_of (spell ℓ open_from q)) x.reads_record
      ∙ spell_length ℓ open_from most r spelled.0 spelled.1

  -- and the rows'
  pub rows_measured : total (map (row_length m) (rows x.entries)) ≡ shortest_length ρ ℓ open_from m
  rows_measured =
      let done = (judged_done ρ ℓ m (length m) x.entries x.known x.done).1 in
      claimed_lengths m (own_rows ρ ℓ m bytes (length m) x.entries x.known done).each
      ∙ ap record_length x.reads_record ∙ sym accepted_length

  -- there is at least one
  pub accepted_positive : 0 < shortest_length ρ ℓ open_from m
  accepted_positive =
      let w = spelled.0 in
      let few = rows_few Floats ℓ w r (reads_back ℓ open_from most r w spelled.1) in
      omega (
        arith,
        accepted_length,
        spelled_length ℓ open_from most r w spelled.1,
        few,
        accepted_some ρ ℓ m bytes r x,
      )

-- a refused one has the length 0
module _ (ρ : DoubleRule) (ℓ : Limits) (open_from : ℕ) (m : List ℕ) where
  pub faulty_length : (x o : ℕ) → judged ρ ℓ m ≡ Fault x o → shortest_length ρ ℓ open_from m ≡ 0
  unfolding shortest_length
  faulty_length x o e = ap (length_judged ℓ open_from) e

-- what is read without a fault is accepted
done_accepts : (ρ : DoubleRule) (ℓ : Limits) (m : List ℕ) → Bytes m → (n : ℕ) (es : List (Entry Item)) (c : Known)
    → judged ρ ℓ m ≡ Done n tt es c → Accepts ρ ℓ m (items es)
done_accepts ρ ℓ m bytes n es c e = record {
  entries = es;
  known = c;
  done = e ∙ ap (λ (k : ℕ). Done k tt es c) (message_all ρ ℓ m bytes n tt es c (judged_done ρ ℓ m n es c e).1);
  reads_record = refl;
}

-- by the main rule the shortest message is no longer than the one read
module _ (ℓ : Limits) (open_from : ℕ) (most : open_from ≤ 48) (m : List ℕ) (bytes : Bytes m) where
  accepted_no_longer : (r : List Item) → Accepts Floats ℓ m r → shortest_length Floats ℓ open_from m ≤ length m
  accepted_no_longer r x =
      let short = message_short ℓ open_from most m r ((accepted_exactly Floats ℓ m bytes r).0 x).1 in
      omega (
        arith,
        accepted_length Floats ℓ open_from most m bytes r x,
        spelled_length ℓ open_from most r short.0 short.1,
        short.2,
      )

  pub main_no_longer : shortest_length Floats ℓ open_from m ≤ length m
  main_no_longer = go (judged Floats ℓ m) refl
    where
      go : (o : Outcome Known Item One) → judged Floats ℓ m ≡ o → shortest_length Floats ℓ open_from m ≤ length m
      go (Done n tt es c) e = accepted_no_longer _ (done_accepts Floats ℓ m bytes n es c e)
      go (Fault x o) e = omega (arith, faulty_length Floats ℓ open_from m x o e)

-- ---- the length by itself, beside a call that reads
module _ (ρ : DoubleRule) (ℓ : Limits) (open_from : ℕ) (most : open_from ≤ 48) (L : Layout) (m t : List ℕ) (a : Report)
    (t' : List ℕ) (g : ReadCall ρ ℓ L m t a t') where
  number_by_law : (o : Outcome Known Item One) → judged ρ ℓ m ≡ o
      → a.number ≡ (read_numbers (answered (lent_rows L t) o)).number
  number_by_law o e = ap (λ (b : Report). b.number) (g.report ∙ ap (λ (z : Outcome Known Item One).
      read_numbers (answered (lent_rows L t) z)) e)

  -- what is read has at least a byte, and is accepted or lacks rows
  done_number : (n : ℕ) (es : List (Entry Item)) (c : Known) → judged ρ ℓ m ≡ Done n tt es c
      → (a.number ≡ 0) ⊎ (a.number ≡ 9)
  done_number n es c e = by_cases (ltb (lent_rows L t) (length es))
      (λ h. inr (number_by_law (Done n tt es c) e ∙ ap (λ (z : ReadResult). (read_numbers z).number) (pick_true _ _ h)))
      (λ h. inl (number_by_law (Done n tt es c) e ∙ ap (λ (z : ReadResult). (read_numbers z).number) (pick_false _ _ h)))

  length_refused : (shortest_length ρ ℓ open_from m ≡ 0) ↔ ((a.number ≡ 0 → ⊥) × (a.number ≡ 9 → ⊥))
  length_refused = (λ z. to z (read_cases ρ ℓ L m t a t' g), λ h. from h (judged ρ ℓ m) refl)
    where
      to : shortest_length ρ ℓ open_from m ≡ 0 → ReadCases ρ ℓ L m t a t' g
          → (a.number ≡ 0 → ⊥) × (a.number ≡ 9 → ⊥)
      to z (misfit h e u) = let k = ap (λ (b : Report). b.number) e in (λ y. omega arith, λ y. omega arith)
      to z (faulty x o h e u) =
          let k = ap (λ (b : Report). b.number) e in
          let l = located_numbered h in
          (λ y. omega (arith, l.0), λ y. omega (arith, l.1))
      to z (few_rows r x h e u) =
          absurd (omega (arith, accepted_positive ρ ℓ open_from most m g.bytes r x))
      to z (whole r x h e q) = absurd (omega (arith, accepted_positive ρ ℓ open_from most m g.bytes r x))

      from : (a.number ≡ 0 → ⊥) × (a.number ≡ 9 → ⊥) → (o : Outcome Known Item One) → judged ρ ℓ m ≡ o
          → shortest_length ρ ℓ open_from m ≡ 0
      from h (Fault x o) e = faulty_length ρ ℓ open_from m x o e
      from h (Done n tt es c) e = ⊎_elim (λ z. absurd (h.0 z)) (λ z. absurd (h.1 z)) (done_number n es c e)

  length_agrees : shortest_length ρ ℓ open_from m ≡ shortest_length ρ ℓ base_open_from m
  length_agrees = go (judged ρ ℓ m) refl
    where
      go : (o : Outcome Known Item One) → judged ρ ℓ m ≡ o
          → shortest_length ρ ℓ open_from m ≡ shortest_length ρ ℓ base_open_from m
      go (Fault x o) e = faulty_length ρ ℓ open_from m x o e ∙ sym (faulty_length ρ ℓ base_open_from m x o e)
      go (Done n tt es c) e =
          let x = done_accepts ρ ℓ m g.bytes n es c e in
          accepted_length ρ ℓ open_from most m g.bytes (items es) x
          ∙ sym (accepted_length ρ ℓ base_open_from (omega arith) m g.bytes (items es) x)

  length_no_longer : ρ ≡ Floats → shortest_length ρ ℓ open_from m ≤ length m
  length_no_longer e = omega (
    arith,
    ap (λ (σ : DoubleRule). shortest_length σ ℓ open_from m) e,
    main_no_longer ℓ open_from most m g.bytes,
  )

  pub of_shortest_length : OfShortestLength ρ ℓ open_from m a
  of_shortest_length = record { refused = length_refused; agrees = length_agrees; no_longer = length_no_longer }

-- ---- a call that reads, and says the length; `held` is what the table holds, where it accepts
module _ (ρ : DoubleRule) (ℓ : Limits) (open_from : ℕ) (most : open_from ≤ 48) (L : Layout) (m t : List ℕ) (a : Report)
    (n : ℕ) (t' : List ℕ) (g : MeasuredCall ρ ℓ L m t a n t') (held : a.number ≡ 0 → Holding ρ ℓ L m t a t')
    (same-room : lent_rows L t' ≡ lent_rows L t) where
  length_by_law : (z : ReadResult) → read ρ ℓ (lent_rows L t) m ≡ z
      → n ≡ length_answered (shortest_length ρ ℓ base_open_from m) z
  length_by_law z e = g.shortest ∙ ap (length_answered (shortest_length ρ ℓ base_open_from m)) e

  refused_zero : (a.number ≡ 0 → ⊥) → n ≡ 0
  refused_zero h = go (read ρ ℓ (lent_rows L t) m) refl
    where
      go : (z : ReadResult) → read ρ ℓ (lent_rows L t) m ≡ z → n ≡ 0
      go (Accept rs k) e = absurd (h (ap (λ (b : Report). b.number) (g.call.report ∙ ap read_numbers e)))
      go (Refuse x k o) e = length_by_law (Refuse x k o) e

  -- an accepted message has the length of its record, which is that by every threshold
  accepted_says : (z : a.number ≡ 0) → n ≡ record_length (held z).the_record
  accepted_says z =
      let y = held z in
      let enough = subst (λ (k : ℕ). k ≤ lent_rows L t) (entries_length y.accepts) y.enough in
      length_by_law _ (rows_suffice ρ ℓ (lent_rows L t) m y.the_record y.accepts enough)
      ∙ accepted_length ρ ℓ base_open_from (omega arith) m g.call.bytes y.the_record y.accepts

  measured : a.number ≡ 0 → n ≡ shortest_length ρ ℓ open_from m
  measured z =
      let y = held z in
      accepted_says z ∙ sym (accepted_length ρ ℓ open_from most m g.call.bytes y.the_record y.accepts)

  -- what the writer answers for the rows read
  module _ (z : a.number ≡ 0) (o : List ℕ) (c : Report) (o' : List ℕ)
      (h : WriteCall ℓ open_from L m t' a.count o c o') where
    shortest_there : (w : List ℕ) × (shortest_of ℓ open_from (content_at m) (rows_of L a.count t') ≡ some w)
        × (length w ≡ n)
    unfolding shortest_of
    shortest_there =
        let y = held z in
        let s = spelled ρ ℓ open_from most m g.call.bytes y.the_record y.accepts in (
          s.0,
          rw (all_claimed (content_at m) y.claimed) s.1,
          spelled_length ℓ open_from most y.the_record s.0 s.1 ∙ sym (accepted_says z),
        )

    abbrev Reports : Type 0
    Reports = (n ≤ ℓ.longest → n ≤ length o → c ≡ answer 0 n 0)
        × (ℓ.longest < n → c ≡ answer 1 0 0)
        × (n ≤ ℓ.longest → length o < n → c ≡ answer 9 n 0)

    written_so : Reports
    written_so = go (write_cases ℓ open_from L m t' a.count o c o' h)
      where
        same : (w : List ℕ) → shortest_of ℓ open_from (content_at m) (rows_of L a.count t') ≡ some w → length w ≡ n
        same w q =
            let s = shortest_there in
            let d = s.1 in
            let e : s.0 ≡ w = cc in
            sym (ap length e) ∙ s.2

        go : WriteCases ℓ open_from L m t' a.count o c o' h → Reports
        go (long_source i e u) = absurd (omega (arith, (held z).short))
        go (beyond i l e u) = absurd (omega (arith, (held z).enough, (held z).counted))
        go (no_message i l q e u) =
            let d = shortest_there.1 in
            let v : ◌≡◌ {A = ℕ} 0 1 = cc in
            absurd (omega arith)
        go (too_long i l w q j e u) =
            let d = same w q in
            (λ v b. absurd (omega arith), λ v. e, λ v b. absurd (omega arith))
        go (too_few i l w q j k e u) =
            let d = same w q in
            (λ v b. absurd (omega arith), λ v. absurd (omega arith), λ v b. e ∙ ap (λ (x : ℕ). answer 9 x 0) d)
        go (wrote i l w q j k e u) =
            let d = same w q in
            (λ v b. e ∙ ap (λ (x : ℕ). answer 0 x 0) d, λ v. absurd (omega arith), λ v b. absurd (omega arith))

  pub of_length : OfLength ρ ℓ open_from L m a n t'
  of_length = record { refused = refused_zero; measured = measured; written = written_so }

-- The proofs of the demands: Demands.antt states them.
use Rattle.std.specs.Prelude.{◌≡◌, refl, ◌↔◌, ◌⊎◌, List, map, ℕ, zero, suc, ◌*◌, ◌/◌, ◌^◌, ◌≤◌, ◌<◌, length, take, drop}
use Rattle.std.proofs.Common.{sym, ap, subst, ◌∙◌, inl, inr, arith, le_trans, mul-le-mul_right, div-mul-le_self}
use Rattle.std.proofs.Math.Option.{Option, none, some}
use Rattle.std.proofs.lemmas.List.{length-map}
use Rattle.flow.specs.Flow.{Outcome, Done, Fault, One, Report}
use Rattle.flow.specs.OverlayLaws.{stored_take, stored_behind, length_overlay, overlay_past}
use Rattle.scalar.specs.Scalars.{DoubleRule, Floats, Thousandths}
use Rattle.record.specs.Model.Items.{Item, Known, start, Limits}
use Rattle.record.specs.Model.Rows.{Row, rows}
use Rattle.record.specs.Model.Claims.{ContentMap, content_at, ClaimItems, no_rows, a_row, ClaimAll}
use Rattle.record.specs.Model.Reading.{message}
use Rattle.record.specs.Model.Grammar.{Message}
use Rattle.record.specs.Model.Answers.{ReadResult, Accept, Refuse, read, shortest_of, Layout, lent_rows, rows_of}
use Rattle.record.specs.Model.Answers.{answered, filled, read_numbers}
use Rattle.record.specs.Model.Terms.{Has, Accepts, Accepted}
use Rattle.record.specs.Model.Same.{SameRecord}
use Rattle.record.specs.Model.Calls.{ReadCall, WriteCall, Keeps, Holding, RecordOf, ShortestOf}
use Rattle.record.proofs.Laws.Claimed.{all_claimed}
use Rattle.record.proofs.Laws.Meaning.{reads_derived, derived_reads}
use Rattle.record.proofs.Laws.Refusals.{Located, at_end, before_end, located_numbered}
use Rattle.record.proofs.Laws.Answering.{misfit_judged}
use Rattle.record.proofs.ForReader.ReadMessages.{rows_length}
use Rattle.record.proofs.Theorems.SameTheorems.{same_exactly, one_message}
use Rattle.record.proofs.Theorems.LengthTheorems.{of_length, of_shortest_length}
use Rattle.record.proofs.Theorems.HopTheorems.{skippable}
use Rattle.record.proofs.Theorems.RowTheorems.{judged_done, own_rows, rows_no_longer, rows_back, rows_none}
use Rattle.record.proofs.Theorems.AnswerTheorems.{accepted_exactly, rows_suffice, rows_too_few, kept_holds}
use Rattle.record.specs.Model.Terms.{row_in_thousandths}
use Rattle.record.proofs.Laws.MainSpelling.{message_main}
use Rattle.record.proofs.Laws.ThousandthRows.{result_in_thousandths, read_in_thousandths_law, report_in_thousandths}
use Rattle.record.proofs.Theorems.CallCases.{answer, ReadCases, misfit, faulty, few_rows, whole, read_cases}
use Rattle.record.proofs.Theorems.CallCases.{WriteCases, long_source, beyond, no_message, too_long, too_few, wrote}
use Rattle.record.proofs.Theorems.CallCases.{write_cases, entries_length}
use Rattle.record.specs.Theorems.Demands as demands

abbrev number : Report → ℕ
number a = a.number

abbrev count : Report → ℕ
count a = a.count

abbrev place : Report → ℕ
place a = a.place

-- ---- rows and items
-- a message reads as one record
one_reading : (ρ : DoubleRule) (ℓ : Limits) (m : List ℕ) (r q : List Item) → Message ρ ℓ m r → Message ρ ℓ m q → r ≡ q
one_reading ρ ℓ m r q x y =
    go (message ρ ℓ start 0 m) (derived_reads ρ ℓ m r x).accepted (derived_reads ρ ℓ m q y).accepted
  where
    go : (o : Outcome Known Item One) → Accepted r o → Accepted q o → r ≡ q
    go (Done n u es c) a b = sym a ∙ b
    go (Fault z o) a b = absurd a

-- rows claim one record
one_claim : (contents : ContentMap) {rs : List Row} {r q : List Item} → ClaimAll contents rs r → ClaimAll contents rs q
    → r ≡ q
one_claim contents {rs} {r} {q} x y =
    let a = all_claimed contents x in
    let b = all_claimed contents y in
    let e : some r ≡ some q = sym a ∙ b in cc

-- as many items as rows
claim_length : {contents : ContentMap} {rs : List Row} {r : List Item} → ClaimAll contents rs r → length r ≡ length rs
claim_length x = go x.each
  where
    go : {contents : ContentMap} {rs : List Row} {r : List Item} → ClaimItems contents rs r → length r ≡ length rs
    go no_rows = refl
    go (a_row c cs) = ap suc (go cs)

rows_count : (L : Layout) (n : ℕ) (t : List ℕ) → length (rows_of L n t) ≡ n
unfolding rows_of
rows_count L zero t = refl
rows_count L (suc n) t = ap suc (rows_count L n (drop L.width t))

module _ (ℓ : Limits) (L : Layout) where
  -- ---- reading
  module _ (ρ : DoubleRule) (m t : List ℕ) (a : Report) (t' : List ℕ) (g : ReadCall ρ ℓ L m t a t') where
    cases : ReadCases ρ ℓ L m t a t' g
    cases = read_cases ρ ℓ L m t a t' g

    -- the grammar reads the message as the record r, within the limits
    abbrev Within : List Item → Type 0
    Within r = Message ρ ℓ m r × (length m ≤ ℓ.longest)

    accepts_within : (r : List Item) → Accepts ρ ℓ m r → Within r
    accepts_within r x = let y = (accepted_exactly ρ ℓ m g.bytes r).0 x in (y.1, y.0)

    within_accepts : (r : List Item) → Within r → Accepts ρ ℓ m r
    within_accepts r y = (accepted_exactly ρ ℓ m g.bytes r).1 (y.1, y.0)

    report_of_law : (z : ReadResult) → read ρ ℓ (lent_rows L t) m ≡ z → a ≡ read_numbers z
    report_of_law z e = g.report ∙ ap read_numbers e

    read_numbered : a.number ≤ 9
    read_numbered = go cases
      where
        go : ReadCases ρ ℓ L m t a t' g → a.number ≤ 9
        go (misfit h e u) = omega (arith, ap number e)
        go (faulty x o h e u) = omega (arith, ap number e, (located_numbered h).1)
        go (few_rows r x h e u) = omega (arith, ap number e)
        go (whole r x h e q) = omega (arith, ap number e)

    read_unchanged : (a.number ≡ 0 → ⊥) → t' ≡ t
    read_unchanged z = go cases
      where
        go : ReadCases ρ ℓ L m t a t' g → t' ≡ t
        go (misfit h e u) = u
        go (faulty x o h e u) = u
        go (few_rows r x h e u) = u
        go (whole r x h e q) = absurd (z (ap number e))

    read_accepted : (a.number ≡ 0)
        ↔ ((r : List Item) × Message ρ ℓ m r × (length m ≤ ℓ.longest) × (length r ≤ lent_rows L t))
    read_accepted = (λ z. go z cases, back)
      where
        go : a.number ≡ 0 → ReadCases ρ ℓ L m t a t' g
            → (r : List Item) × Message ρ ℓ m r × (length m ≤ ℓ.longest) × (length r ≤ lent_rows L t)
        go z (misfit h e u) = absurd (omega (arith, ap number e))
        go z (faulty x o h e u) = absurd (omega (arith, ap number e, (located_numbered h).0))
        go z (few_rows r x h e u) = absurd (omega (arith, ap number e))
        go z (whole r x h e q) =
            let y = accepts_within r x in
            (r, y.0, y.1, subst (λ (k : ℕ). k ≤ lent_rows L t) (sym (entries_length x)) h)

        back : (r : List Item) × Message ρ ℓ m r × (length m ≤ ℓ.longest) × (length r ≤ lent_rows L t) → a.number ≡ 0
        back y =
            let x = within_accepts y.0 (y.1, y.2) in
            ap number (report_of_law _ (rows_suffice ρ ℓ (lent_rows L t) m y.0 x
            (subst (λ (k : ℕ). k ≤ lent_rows L t) (entries_length x) y.3)))

    read_refused_1 : (a.number ≡ 1) ↔ ((length m ≡ 0) ⊎ (ℓ.longest < length m))
    read_refused_1 = (
      λ z. go z cases,
      λ h. ap number (report_of_law _ (ap (answered (lent_rows L t)) (misfit_judged ρ ℓ m h))),
    )
      where
        go : a.number ≡ 1 → ReadCases ρ ℓ L m t a t' g → (length m ≡ 0) ⊎ (ℓ.longest < length m)
        go z (misfit h e u) = h
        go z (faulty x o h e u) = absurd (omega (arith, ap number e, (located_numbered h).0))
        go z (few_rows r x h e u) = absurd (omega (arith, ap number e))
        go z (whole r x h e q) = absurd (omega (arith, ap number e))

    read_refused_9 : (a.number ≡ 9)
        ↔ ((r : List Item) × Message ρ ℓ m r × (length m ≤ ℓ.longest) × (lent_rows L t < length r))
    read_refused_9 = (λ z. go z cases, back)
      where
        go : a.number ≡ 9 → ReadCases ρ ℓ L m t a t' g
            → (r : List Item) × Message ρ ℓ m r × (length m ≤ ℓ.longest) × (lent_rows L t < length r)
        go z (misfit h e u) = absurd (omega (arith, ap number e))
        go z (faulty x o h e u) = absurd (omega (arith, ap number e, (located_numbered h).1))
        go z (few_rows r x h e u) =
            let y = accepts_within r x in
            (r, y.0, y.1, subst (λ (j : ℕ). lent_rows L t < j) (sym (entries_length x)) h)
        go z (whole r x h e q) = absurd (omega (arith, ap number e))

        back : (r : List Item) × Message ρ ℓ m r × (length m ≤ ℓ.longest) × (lent_rows L t < length r) → a.number ≡ 9
        back y =
            let x = within_accepts y.0 (y.1, y.2) in
            ap number (report_of_law _ (rows_too_few ρ ℓ (lent_rows L t) m y.0 x
            (subst (λ (j : ℕ). lent_rows L t < j) (entries_length x) y.3)))

    read_needed : a.number ≡ 9 → (r : List Item) → Message ρ ℓ m r → a.count ≡ length r
    read_needed z r y = go cases
      where
        go : ReadCases ρ ℓ L m t a t' g → a.count ≡ length r
        go (misfit h e u) = absurd (omega (arith, ap number e))
        go (faulty x o h e u) = absurd (omega (arith, ap number e, (located_numbered h).1))
        go (few_rows q x h e u) =
            ap count e ∙ sym (entries_length x) ∙ ap length (one_reading ρ ℓ m q r (accepts_within q x).0 y)
        go (whole q x h e w) = absurd (omega (arith, ap number e))

    read_no_place : (a.number ≡ 1) ⊎ (a.number ≡ 9) → a.place ≡ 0
    read_no_place z = go (number_is z) cases
      where
        number_is : (a.number ≡ 1) ⊎ (a.number ≡ 9) → (a.number < 2) ⊎ (8 < a.number)
        number_is (inl x) = inl (omega arith)
        number_is (inr x) = inr (omega arith)

        not_located : {A : Type 0} (x o : ℕ) → Located (length m) x o → a.number ≡ x
            → (a.number < 2) ⊎ (8 < a.number) → A
        not_located x o h e (inl l) = absurd (omega (arith, (located_numbered h).0))
        not_located x o h e (inr l) = absurd (omega (arith, (located_numbered h).1))

        nonzero : (a.number < 2) ⊎ (8 < a.number) → (a.number ≡ 1) ⊎ (a.number ≡ 9) → a.number ≡ 0 → ⊥
        nonzero y (inl x) e = omega arith
        nonzero y (inr x) e = omega arith

        go : (a.number < 2) ⊎ (8 < a.number) → ReadCases ρ ℓ L m t a t' g → a.place ≡ 0
        go y (misfit h e u) = ap place e
        go y (faulty x o h e u) = not_located x o h (ap number e) y
        go y (few_rows r x h e u) = ap place e
        go y (whole r x h e q) = absurd (nonzero y z (ap number e))

    read_refused : (a.number ≡ 0 → ⊥) → (a.number ≡ 9 → ⊥) → a.count ≡ 0
    read_refused y z = go cases
      where
        go : ReadCases ρ ℓ L m t a t' g → a.count ≡ 0
        go (misfit h e u) = ap count e
        go (faulty x o h e u) = ap count e
        go (few_rows r x h e u) = absurd (z (ap number e))
        go (whole r x h e q) = absurd (y (ap number e))

    read_refused_2 : a.number ≡ 2 → a.place ≡ length m
    read_refused_2 z = go cases
      where
        at : (x o : ℕ) → Located (length m) x o → x ≡ 2 → o ≡ length m
        at x o at_end q = refl
        at x o (before_end i j l) q = absurd (omega arith)

        go : ReadCases ρ ℓ L m t a t' g → a.place ≡ length m
        go (misfit h e u) = absurd (omega (arith, ap number e))
        go (faulty x o h e u) = ap place e ∙ at x o h (sym (ap number e) ∙ z)
        go (few_rows r x h e u) = absurd (omega (arith, ap number e))
        go (whole r x h e q) = absurd (omega (arith, ap number e))

    read_refused_inside : 2 < a.number → a.number ≤ 8 → a.place < length m
    read_refused_inside y z = go cases
      where
        at : (x o : ℕ) → Located (length m) x o → 2 < x → o < length m
        at x o at_end q = absurd (omega arith)
        at x o (before_end i j l) q = l

        go : ReadCases ρ ℓ L m t a t' g → a.place < length m
        go (misfit h e u) = absurd (omega (arith, ap number e))
        go (faulty x o h e u) =
            subst (λ (k : ℕ). k < length m) (sym (ap place e)) (at x o h (omega (arith, ap number e)))
        go (few_rows r x h e u) = absurd (omega (arith, ap number e))
        go (whole r x h e q) = absurd (omega (arith, ap number e))

    -- ---- an accepted message
    module _ (fits : ℓ.longest < 2 ^ 63) (keeps : Keeps L) where
      read_holding : a.number ≡ 0 → Holding ρ ℓ L m t a t'
      read_holding z = go cases
        where
          accepted : (r : List Item) (x : Accepts ρ ℓ m r) → length x.entries ≤ lent_rows L t
              → a ≡ answer 0 (length (rows x.entries)) (length m)
              → read ρ ℓ (lent_rows L t) m ≡ Accept (rows x.entries) (length m) → Holding ρ ℓ L m t a t'
          accepted r x h e q = record {
            the_record = r;
            grammar = y.0;
            short = y.1;
            enough = subst (λ (k : ℕ). k ≤ lent_rows L t) (sym (entries_length x)) h;
            counted = all_rows ∙ sym (entries_length x);
            whole = ap place e;
            accepts = x;
            rows_are = held;
            claimed = claimed;
            skips = skippable ρ ℓ m r y.0 (content_at m) (rows_of L a.count t') claimed;
            past = past;
          }
            where
              y : Within r
              y = accepts_within r x

              all_rows : a.count ≡ length x.entries
              all_rows = ap count e ∙ rows_length x.entries

              held : rows_of L a.count t' ≡ rows x.entries
              held = (λ i. rows_of L (count (e i)) (g.table i))
                  ∙ kept_holds ρ ℓ L keeps m t g.bytes (omega (arith, y.1)) (rows x.entries) (length m) q

              claimed : ClaimAll (content_at m) (rows_of L a.count t') r
              claimed =
                  let d = judged_done ρ ℓ m (length m) x.entries x.known x.done in
                  subst (λ (rs : List Row). ClaimAll (content_at m) rs r) (sym held)
                  (subst (ClaimAll (content_at m) (rows x.entries)) x.reads_record
                  (own_rows ρ ℓ m g.bytes (length m) x.entries x.known d.1))

              past : drop (a.count * L.width) t' ≡ drop (a.count * L.width) t
              past =
                  let u : t' ≡ filled L t (Accept (rows x.entries) (length m)) = g.table ∙ ap (filled L t) q in
                  ap (drop (a.count * L.width)) u
                  ∙ ap (λ (k : ℕ). drop (k * L.width)
                  (filled L t (Accept (rows x.entries) (length m)))) (ap count e)
                  ∙ overlay_past L.width L.encode keeps.sized t (rows x.entries)
                  (le_trans (mul-le-mul_right L.width (omega (arith, rows_length x.entries, h)))
                  (div-mul-le_self (length t) L.width))
                  ∙ ap (λ (k : ℕ). drop (k * L.width) t) (sym (ap count e))

          go : ReadCases ρ ℓ L m t a t' g → Holding ρ ℓ L m t a t'
          go (misfit h e u) = absurd (omega (arith, ap number e))
          go (faulty x o h e u) = absurd (omega (arith, ap number e, (located_numbered h).0))
          go (few_rows r x h e u) = absurd (omega (arith, ap number e))
          go (whole r x h e q) = accepted r x h e q

      pub of_read : demands.OfRead ρ ℓ L m t a t'
      of_read = record {
        numbered = read_numbered;
        unchanged = read_unchanged;
        accepted = read_accepted;
        holds = read_holding;
        refused_1 = read_refused_1;
        refused_9 = read_refused_9;
        needed = read_needed;
        counts_nothing = read_refused;
        no_place = read_no_place;
        refused_2 = read_refused_2;
        refused_inside = read_refused_inside;
      }

  -- a table keeps its length, and so its rows
  table_rows : (ρ : DoubleRule) (keeps : Keeps L) (m t : List ℕ) (a : Report) (t' : List ℕ) → ReadCall ρ ℓ L m t a t'
      → lent_rows L t' ≡ lent_rows L t
  table_rows ρ keeps m t a t' g = ap (λ (n : ℕ). n / L.width) (ap length g.table ∙ go (read ρ ℓ (lent_rows L t) m))
    where
      go : (x : ReadResult) → length (filled L t x) ≡ length t
      go (Accept rs n) = length_overlay L.width L.encode keeps.sized t 0 rs
      go (Refuse x k o) = refl

  -- ---- writing
  module _ (open_from : ℕ) (most : open_from ≤ 48) where
    module _ (s t : List ℕ) (n : ℕ) where
      abbrev Rows : List Row
      Rows = rows_of L n t

      abbrev Short : Option (List ℕ)
      Short = shortest_of ℓ open_from (content_at s) Rows

      abbrev Of : List ℕ → Type 0
      Of m = RecordOf ℓ L s t n m

      has_of : (m : List ℕ) → Of m → Has ℓ s Rows m
      has_of m x = record {
        the_record = x.the_record;
        claimed = x.claimed;
        read_as = derived_reads Floats ℓ m x.the_record x.grammar;
      }

      of_has : n ≤ lent_rows L t → (m : List ℕ) → Has ℓ s Rows m → Of m
      of_has l m x = record {
        lent = l;
        the_record = x.the_record;
        claimed = x.claimed;
        grammar = reads_derived Floats ℓ m x.the_record x.read_as;
      }

      no_shorter : (w : List ℕ) → Short ≡ some w → (m : List ℕ) → Of m → length w ≤ length m
      no_shorter w q m x =
          let p = rows_no_longer ℓ open_from most s Rows m (has_of m x) in
          let e = p.1 in
          let f : p.0 ≡ w = cc in
          omega (arith, p.2, ap length f)

      written_of : n ≤ lent_rows L t → (w : List ℕ) → Short ≡ some w → Of w
      written_of l w q = of_has l w (rows_back ℓ open_from most s Rows w q)

      none_of : Short ≡ none → (m : List ℕ) → Of m → ⊥
      none_of q m x = (rows_none ℓ open_from most s Rows).0 q m (has_of m x)

      shortest : n ≤ lent_rows L t → (w : List ℕ) → Short ≡ some w → length w ≤ ℓ.longest → ShortestOf ℓ L s t n w
      shortest l w q i = record { has = written_of l w q; short = i; none_shorter = no_shorter w q }

      -- shortest messages are of one length
      one_length : (w v : List ℕ) → ShortestOf ℓ L s t n w → Short ≡ some v → length w ≡ length v
      one_length w v x q =
          let i = no_shorter v q w x.has in
          let j = x.none_shorter v (written_of x.has.lent v q) in
          omega arith

      -- messages have the record, and each of them is too long
      abbrev AllLong : Type 0
      AllLong = ((m : List ℕ) × Of m) × ((m : List ℕ) → Of m → ℓ.longest < length m)

      module _ (o : List ℕ) (a : Report) (o' : List ℕ) (g : WriteCall ℓ open_from L s t n o a o') where
        abbrev Cases : Type 0
        Cases = WriteCases ℓ open_from L s t n o a o' g

        ends : Cases
        ends = write_cases ℓ open_from L s t n o a o' g

        numbered : (a.number ≡ 0) ⊎ ((a.number ≡ 1) ⊎ ((a.number ≡ 9) ⊎ (a.number ≡ 10)))
        numbered = go ends
          where
            go : Cases → (a.number ≡ 0) ⊎ ((a.number ≡ 1) ⊎ ((a.number ≡ 9) ⊎ (a.number ≡ 10)))
            go (long_source i z u) = inr (inl (ap number z))
            go (beyond i l z u) = inr (inr (inr (ap number z)))
            go (no_message i l q z u) = inr (inr (inr (ap number z)))
            go (too_long i l w q j z u) = inr (inl (ap number z))
            go (too_few i l w q j k z u) = inr (inr (inl (ap number z)))
            go (wrote i l w q j k z u) = inl (ap number z)

        unchanged : (a.number ≡ 0 → ⊥) → o' ≡ o
        unchanged f = go ends
          where
            go : Cases → o' ≡ o
            go (long_source i z u) = u
            go (beyond i l z u) = u
            go (no_message i l q z u) = u
            go (too_long i l w q j z u) = u
            go (too_few i l w q j k z u) = u
            go (wrote i l w q j k z u) = absurd (f (ap number z))

        no_place : a.place ≡ 0
        no_place = go ends
          where
            go : Cases → a.place ≡ 0
            go (long_source i z u) = ap place z
            go (beyond i l z u) = ap place z
            go (no_message i l q z u) = ap place z
            go (too_long i l w q j z u) = ap place z
            go (too_few i l w q j k z u) = ap place z
            go (wrote i l w q j k z u) = ap place z

        refused_10 : length s ≤ ℓ.longest → (a ≡ answer 10 0 0) ↔ ((m : List ℕ) → Of m → ⊥)
        refused_10 short = (λ z. none_has (ap number z) ends, λ f. ten f ends)
          where
            none_has : a.number ≡ 10 → Cases → (m : List ℕ) → Of m → ⊥
            none_has y (long_source i z u) m x = omega arith
            none_has y (beyond i l z u) m x = omega (arith, x.lent)
            none_has y (no_message i l q z u) m x = none_of q m x
            none_has y (too_long i l w q j z u) m x = omega (arith, ap number z)
            none_has y (too_few i l w q j k z u) m x = omega (arith, ap number z)
            none_has y (wrote i l w q j k z u) m x = omega (arith, ap number z)

            ten : ((m : List ℕ) → Of m → ⊥) → Cases → a ≡ answer 10 0 0
            ten f (long_source i z u) = absurd (omega arith)
            ten f (beyond i l z u) = z
            ten f (no_message i l q z u) = z
            ten f (too_long i l w q j z u) = absurd (f w (written_of l w q))
            ten f (too_few i l w q j k z u) = absurd (f w (written_of l w q))
            ten f (wrote i l w q j k z u) = absurd (f w (written_of l w q))

        refused_1 : (a ≡ answer 1 0 0) ↔ ((ℓ.longest < length s) ⊎ AllLong)
        refused_1 = (λ z. why (ap number z) ends, λ f. one f ends)
          where
            why : a.number ≡ 1 → Cases → (ℓ.longest < length s) ⊎ AllLong
            why y (long_source i z u) = inl i
            why y (beyond i l z u) = absurd (omega (arith, ap number z))
            why y (no_message i l q z u) = absurd (omega (arith, ap number z))
            why y (too_long i l w q j z u) = inr ((w, written_of l w q), λ m x. omega (arith, no_shorter w q m x))
            why y (too_few i l w q j k z u) = absurd (omega (arith, ap number z))
            why y (wrote i l w q j k z u) = absurd (omega (arith, ap number z))

            not_long : {A : Type 0} (w : List ℕ) → Of w → length w ≤ ℓ.longest → length s ≤ ℓ.longest
                → (ℓ.longest < length s) ⊎ AllLong → A
            not_long w x j i (inl h) = absurd (omega arith)
            not_long w x j i (inr h) = let y = h.1 w x in absurd (omega arith)

            nothing : {A : Type 0} → length s ≤ ℓ.longest → ((m : List ℕ) → Of m → ⊥)
                → (ℓ.longest < length s) ⊎ AllLong → A
            nothing i f (inl h) = absurd (omega arith)
            nothing i f (inr h) = absurd (f h.0.0 h.0.1)

            one : (ℓ.longest < length s) ⊎ AllLong → Cases → a ≡ answer 1 0 0
            one h (long_source i z u) = z
            one h (beyond i l z u) = nothing i (λ m x. omega (arith, x.lent)) h
            one h (no_message i l q z u) = nothing i (none_of q) h
            one h (too_long i l w q j z u) = z
            one h (too_few i l w q j k z u) = not_long w (written_of l w q) j i h
            one h (wrote i l w q j k z u) = not_long w (written_of l w q) j i h

        refused_9 : (k : ℕ) → (a ≡ answer 9 k 0)
            ↔ ((length s ≤ ℓ.longest) × (w : List ℕ) × ShortestOf ℓ L s t n w × (length w ≡ k) × (length o < k))
        refused_9 c = (λ z. go z ends, λ x. nine x ends)
          where
            go : a ≡ answer 9 c 0 → Cases
                → (length s ≤ ℓ.longest) × (w : List ℕ) × ShortestOf ℓ L s t n w × (length w ≡ c) × (length o < c)
            go y (long_source i z u) = absurd (omega (arith, ap number z, ap number y))
            go y (beyond i l z u) = absurd (omega (arith, ap number z, ap number y))
            go y (no_message i l q z u) = absurd (omega (arith, ap number z, ap number y))
            go y (too_long i l w q j z u) = absurd (omega (arith, ap number z, ap number y))
            go y (too_few i l w q j k z u) =
                let e : length w ≡ c = ap count (sym z ∙ y) in
                (i, w, shortest l w q j, e, subst (λ (b : ℕ). length o < b) e k)
            go y (wrote i l w q j k z u) = absurd (omega (arith, ap number z, ap number y))

            nine : (length s ≤ ℓ.longest) × (w : List ℕ) × ShortestOf ℓ L s t n w × (length w ≡ c) × (length o < c)
                → Cases → a ≡ answer 9 c 0
            nine x (long_source i z u) = absurd (omega (arith, x.0))
            nine x (beyond i l z u) = absurd (omega (arith, x.2.has.lent))
            nine x (no_message i l q z u) = absurd (none_of q x.1 x.2.has)
            nine x (too_long i l w q j z u) = absurd (omega (arith, one_length x.1 w x.2 q, x.2.short))
            nine x (too_few i l w q j k z u) =
                z ∙ ap (λ (b : ℕ). answer 9 b 0) (sym (one_length x.1 w x.2 q) ∙ x.3)
            nine x (wrote i l w q j k z u) = absurd (omega (arith, one_length x.1 w x.2 q, x.3, x.4))

        accepted : (a.number ≡ 0)
            ↔ ((length s ≤ ℓ.longest) × (w : List ℕ) × ShortestOf ℓ L s t n w × (length w ≤ length o))
        accepted = (λ z. go z ends, λ x. zero_then x ends)
          where
            go : a.number ≡ 0 → Cases
                → (length s ≤ ℓ.longest) × (w : List ℕ) × ShortestOf ℓ L s t n w × (length w ≤ length o)
            go y (long_source i z u) = absurd (omega (arith, ap number z))
            go y (beyond i l z u) = absurd (omega (arith, ap number z))
            go y (no_message i l q z u) = absurd (omega (arith, ap number z))
            go y (too_long i l w q j z u) = absurd (omega (arith, ap number z))
            go y (too_few i l w q j k z u) = absurd (omega (arith, ap number z))
            go y (wrote i l w q j k z u) = (i, w, shortest l w q j, k)

            zero_then : (length s ≤ ℓ.longest) × (w : List ℕ) × ShortestOf ℓ L s t n w × (length w ≤ length o) → Cases
                → a.number ≡ 0
            zero_then x (long_source i z u) = absurd (omega (arith, x.0))
            zero_then x (beyond i l z u) = absurd (omega (arith, x.2.has.lent))
            zero_then x (no_message i l q z u) = absurd (none_of q x.1 x.2.has)
            zero_then x (too_long i l w q j z u) = absurd (omega (arith, one_length x.1 w x.2 q, x.2.short))
            zero_then x (too_few i l w q j k z u) = absurd (omega (arith, one_length x.1 w x.2 q, x.3))
            zero_then x (wrote i l w q j k z u) = ap number z

        written_back : a.number ≡ 0 → ShortestOf ℓ L s t n (take a.count o')
            × (length (take a.count o') ≡ a.count) × (drop a.count o' ≡ drop a.count o)
        written_back y = go ends
          where
            go : Cases → ShortestOf ℓ L s t n (take a.count o')
                × (length (take a.count o') ≡ a.count) × (drop a.count o' ≡ drop a.count o)
            go (long_source i z u) = absurd (omega (arith, ap number z))
            go (beyond i l z u) = absurd (omega (arith, ap number z))
            go (no_message i l q z u) = absurd (omega (arith, ap number z))
            go (too_long i l w q j z u) = absurd (omega (arith, ap number z))
            go (too_few i l w q j k z u) = absurd (omega (arith, ap number z))
            go (wrote i l w q j k z u) =
                let e : take a.count o' ≡ w = (λ x. take (count (z x)) (u x)) ∙ stored_take o 0 w (omega arith) in
                let f : drop a.count o' ≡ drop a.count o = ap (drop a.count) u
                ∙ stored_behind o 0 a.count w (omega (arith, ap count z)) in
                (subst (ShortestOf ℓ L s t n) (sym e) (shortest l w q j), ap length e ∙ sym (ap count z), f)

        demand_3 : (a.number ≡ 1 → ⊥) → (a.number ≡ 10 → ⊥) → (w : List ℕ) × ShortestOf ℓ L s t n w
            × ((o₂ : List ℕ) (a₂ : Report) (o₂' : List ℕ) → WriteCall ℓ open_from L s t n o₂ a₂ o₂'
            → length w ≤ length o₂ → (a₂.number ≡ 0) × (take a₂.count o₂' ≡ w))
        demand_3 x y = go ends
          where
            given : (w : List ℕ) → Short ≡ some w → length w ≤ ℓ.longest → length s ≤ ℓ.longest → n ≤ lent_rows L t
                → (o₂ : List ℕ) (a₂ : Report) (o₂' : List ℕ) → WriteCall ℓ open_from L s t n o₂ a₂ o₂'
                → length w ≤ length o₂ → (a₂.number ≡ 0) × (take a₂.count o₂' ≡ w)
            given w q j i l o₂ a₂ o₂' g₂ r = again (write_cases ℓ open_from L s t n o₂ a₂ o₂' g₂)
              where
                again : WriteCases ℓ open_from L s t n o₂ a₂ o₂' g₂ → (a₂.number ≡ 0) × (take a₂.count o₂' ≡ w)
                again (long_source i₂ z u) = absurd (omega arith)
                again (beyond i₂ l₂ z u) = absurd (omega arith)
                again (no_message i₂ l₂ q₂ z u) = let c : ◌≡◌ {A = ℕ} 0 1 = cc in absurd (omega arith)
                again (too_long i₂ l₂ w₂ q₂ j₂ z u) = let c : w₂ ≡ w = cc in absurd (omega (arith, ap length c))
                again (too_few i₂ l₂ w₂ q₂ j₂ k z u) = let c : w₂ ≡ w = cc in absurd (omega (arith, ap length c))
                again (wrote i₂ l₂ w₂ q₂ j₂ k z u) =
                    let c : w₂ ≡ w = cc in
                    (ap number z, (λ x. take (count (z x)) (u x)) ∙ stored_take o₂ 0 w₂ (omega arith) ∙ c)

            go : Cases → (w : List ℕ) × ShortestOf ℓ L s t n w
                × ((o₂ : List ℕ) (a₂ : Report) (o₂' : List ℕ) → WriteCall ℓ open_from L s t n o₂ a₂ o₂'
                → length w ≤ length o₂ → (a₂.number ≡ 0) × (take a₂.count o₂' ≡ w))
            go (long_source i z u) = absurd (x (ap number z))
            go (beyond i l z u) = absurd (y (ap number z))
            go (no_message i l q z u) = absurd (y (ap number z))
            go (too_long i l w q j z u) = absurd (x (ap number z))
            go (too_few i l w q j k z u) = (w, shortest l w q j, given w q j i l)
            go (wrote i l w q j k z u) = (w, shortest l w q j, given w q j i l)

        -- what is written is the definitions' shortest message
        wrote_shortest : a.number ≡ 0 → Short ≡ some (take a.count o')
        wrote_shortest y = go ends
          where
            go : Cases → Short ≡ some (take a.count o')
            go (long_source i z u) = absurd (omega (arith, ap number z))
            go (beyond i l z u) = absurd (omega (arith, ap number z))
            go (no_message i l q z u) = absurd (omega (arith, ap number z))
            go (too_long i l w q j z u) = absurd (omega (arith, ap number z))
            go (too_few i l w q j k z u) = absurd (omega (arith, ap number z))
            go (wrote i l w q j k z u) =
                q ∙ ap {B = Option (List ℕ)} some
                (sym ((λ x. take (count (z x)) (u x)) ∙ stored_take o 0 w (omega arith)))

        pub of_write : demands.OfWrite ℓ open_from L s t n o a o'
        of_write = record {
          numbered = numbered;
          unchanged = unchanged;
          no_place = no_place;
          refused_10 = refused_10;
          refused_1 = refused_1;
          refused_9 = refused_9;
          accepted = accepted;
          written_back = written_back;
          demand_3 = demand_3;
        }

  -- ---- what is written, read again
  module _ (fits : ℓ.longest < 2 ^ 63) (keeps : Keeps L) where
    module _ (s t : List ℕ) (n : ℕ) (w : List ℕ) (x : ShortestOf ℓ L s t n w) where
      abbrev r_of : List Item
      r_of = x.has.the_record

      read_again : (t₂ : List ℕ) (a₂ : Report) (t₂' : List ℕ) → ReadCall Floats ℓ L w t₂ a₂ t₂' → n ≤ lent_rows L t₂
          → (a₂.number ≡ 0) × SameRecord s w (rows_of L n t) (rows_of L a₂.count t₂')
      read_again t₂ a₂ t₂' g l =
          let k : length r_of ≡ n = claim_length x.has.claimed ∙ rows_count L n t in
          let z = (read_accepted Floats w t₂ a₂ t₂' g).1
          (r_of, x.has.grammar, x.short, subst (λ (j : ℕ). j ≤ lent_rows L t₂) (sym k) l) in
          let y = read_holding Floats w t₂ a₂ t₂' g fits keeps z in (
            z,
            (same_exactly s w x.has.claimed (rows_of L a₂.count t₂')).1
                (subst (ClaimAll (content_at w) (rows_of L a₂.count t₂'))
                (one_reading Floats ℓ w y.the_record r_of y.grammar x.has.grammar) y.claimed),
          )

      shorter_none : (m tm : List ℕ) (am : Report) (tm' : List ℕ) → ReadCall Floats ℓ L m tm am tm' → am.number ≡ 0
          → SameRecord s m (rows_of L n t) (rows_of L am.count tm') → length w ≤ length m
      shorter_none m tm am tm' g z e =
          let y = read_holding Floats m tm am tm' g fits keeps z in
          let q = one_claim (content_at m) y.claimed
          ((same_exactly s m x.has.claimed (rows_of L am.count tm')).0 e) in
          x.none_shorter m (record {
            lent = x.has.lent;
            the_record = r_of;
            claimed = x.has.claimed;
            grammar = subst (Message Floats ℓ m) q y.grammar;
          })

      pub of_shortest : demands.OfShortest ℓ L s t n w
      of_shortest = record { written_reads = read_again; no_shorter = shorter_none }

    -- ---- a message that was read, written
    module _ (open_from : ℕ) (most : open_from ≤ 48) (m t : List ℕ) (a : Report) (t' : List ℕ)
        (g : ReadCall Floats ℓ L m t a t') (z : a.number ≡ 0) where
      own : RecordOf ℓ L m t' a.count m
      own =
          let y = read_holding Floats m t a t' g fits keeps z in
          record {
            lent = omega (arith, y.enough, y.counted, table_rows Floats keeps m t a t' g);
            the_record = y.the_record;
            claimed = y.claimed;
            grammar = y.grammar;
          }

      rewritten : (o : List ℕ) (c : Report) (o' : List ℕ) → WriteCall ℓ open_from L m t' a.count o c o'
          → length m ≤ length o → (c.number ≡ 0) × (c.count ≤ length m)
      rewritten o c o' h l = go (write_cases ℓ open_from L m t' a.count o c o' h)
        where
          few : length m ≤ ℓ.longest
          few = (read_holding Floats m t a t' g fits keeps z).short

          go : WriteCases ℓ open_from L m t' a.count o c o' h → (c.number ≡ 0) × (c.count ≤ length m)
          go (long_source i e u) = absurd (omega (arith, few))
          go (beyond i j e u) = absurd (omega (arith, own.lent))
          go (no_message i j q e u) = absurd (none_of open_from most m t' a.count q m own)
          go (too_long i j w q k e u) =
              absurd (omega (arith, no_shorter open_from most m t' a.count w q m own, few))
          go (too_few i j w q k v e u) = absurd (omega (arith, no_shorter open_from most m t' a.count w q m own))
          go (wrote i j w q k v e u) =
              (ap number e, omega (arith, ap count e, no_shorter open_from most m t' a.count w q m own))

    -- ---- a message that was read by either rule of 5f, written
    module _ (open_from : ℕ) (most : open_from ≤ 48) (ρ : DoubleRule) (m t : List ℕ) (a : Report) (t' : List ℕ)
        (g : ReadCall ρ ℓ L m t a t') (z : a.number ≡ 0)
        (o : List ℕ) (c : Report) (o' : List ℕ) (h : WriteCall ℓ open_from L m t' a.count o c o') where
      some_has : (w : List ℕ) × RecordOf ℓ L m t' a.count w
      some_has =
          let y = read_holding ρ m t a t' g fits keeps z in
          let x = message_main ρ ℓ m y.the_record y.grammar in (
            x.0,
            record {
              lent = omega (arith, y.enough, y.counted, table_rows ρ keeps m t a t' g);
              the_record = y.the_record;
              claimed = y.claimed;
              grammar = x.1;
            },
          )

      not_ten : c.number ≡ 10 → ⊥
      not_ten d = go (write_cases ℓ open_from L m t' a.count o c o' h)
        where
          go : WriteCases ℓ open_from L m t' a.count o c o' h → ⊥
          go (long_source i e u) = omega (arith, ap number e)
          go (beyond i j e u) = omega (arith, some_has.1.lent)
          go (no_message i j q e u) = none_of open_from most m t' a.count q some_has.0 some_has.1
          go (too_long i j w q k e u) = omega (arith, ap number e)
          go (too_few i j w q k v e u) = omega (arith, ap number e)
          go (wrote i j w q k v e u) = omega (arith, ap number e)

      back_main : c.number ≡ 0 → (t₂ : List ℕ) (a₂ : Report) (t₂' : List ℕ)
          → ReadCall Floats ℓ L (take c.count o') t₂ a₂ t₂' → a.count ≤ lent_rows L t₂
          → (a₂.number ≡ 0) × SameRecord m (take c.count o') (rows_of L a.count t') (rows_of L a₂.count t₂')
      back_main d t₂ a₂ t₂' r l =
          let w = (written_back open_from most m t' a.count o c o' h d).0 in
          read_again m t' a.count (take c.count o') w t₂ a₂ t₂' r l

    -- ---- both rules of 5f
    module _ (m t : List ℕ) (a : Report) (t' : List ℕ) (g : ReadCall Floats ℓ L m t a t')
        (b : Report) (t'' : List ℕ) (h : ReadCall Thousandths ℓ L m t b t'') where
      one_report : a ≡ b
      one_report =
          g.report
          ∙ sym (report_in_thousandths m ℓ (read Floats ℓ (lent_rows L t) m))
          ∙ ap read_numbers (sym (read_in_thousandths_law m ℓ (lent_rows L t)))
          ∙ sym h.report

      rows_told : a.number ≡ 0 → rows_of L a.count t'' ≡ map (row_in_thousandths m) (rows_of L a.count t')
      rows_told z = go (read_cases Floats ℓ L m t a t' g)
        where
          few : length m < 2 ^ 63
          few = omega (arith, (read_holding Floats m t a t' g fits keeps z).short)

          go : ReadCases Floats ℓ L m t a t' g
              → rows_of L a.count t'' ≡ map (row_in_thousandths m) (rows_of L a.count t')
          go (misfit i e u) = absurd (omega (arith, ap number e))
          go (faulty x o i e u) = absurd (omega (arith, (located_numbered i).0, ap number e))
          go (few_rows r x i e u) = absurd (omega (arith, ap number e))
          go (whole r x i e q) =
              let rs = rows x.entries in
              let c : a.count ≡ length rs = ap count e in
              let k : length (map (row_in_thousandths m) rs) ≡ length rs = length-map rs (row_in_thousandths m) in
              let u = kept_holds Floats ℓ L keeps m t g.bytes few rs (length m) q in
              let v = kept_holds Thousandths ℓ L keeps m t h.bytes few (map (row_in_thousandths m) rs) (length m)
              (read_in_thousandths_law m ℓ (lent_rows L t) ∙ ap (result_in_thousandths m ℓ) q) in
              (λ i. rows_of L (c i) (h.table i))
              ∙ rw k at v
              ∙ ap (map (row_in_thousandths m)) (sym ((λ i. rows_of L (c i) (g.table i)) ∙ u))

  -- ---- true copies
  module _ (open_from : ℕ) (most : open_from ≤ 48)
      (s₁ t₁ : List ℕ) (n₁ : ℕ) (o₁ : List ℕ) (a₁ : Report) (o₁' : List ℕ)
      (g₁ : WriteCall ℓ open_from L s₁ t₁ n₁ o₁ a₁ o₁') (z₁ : a₁.number ≡ 0)
      (s₂ t₂ : List ℕ) (n₂ : ℕ) (o₂ : List ℕ) (a₂ : Report) (o₂' : List ℕ)
      (g₂ : WriteCall ℓ open_from L s₂ t₂ n₂ o₂ a₂ o₂') (z₂ : a₂.number ≡ 0) where
    copied : SameRecord s₁ s₂ (rows_of L n₁ t₁) (rows_of L n₂ t₂) ↔ (take a₁.count o₁' ≡ take a₂.count o₂')
    copied = (
      λ e. let x = wrote_shortest open_from most s₁ t₁ n₁ o₁ a₁ o₁' g₁ z₁ in
          let y = wrote_shortest open_from most s₂ t₂ n₂ o₂ a₂ o₂' g₂ z₂ in
          let c = (written_back open_from most s₁ t₁ n₁ o₁ a₁ o₁' g₁ z₁).0.has.claimed in
          let q : some (take a₁.count o₁') ≡ some (take a₂.count o₂') = sym x
          ∙ one_message ℓ open_from s₁ s₂ c (rows_of L n₂ t₂) e ∙ y in
          cc,
      λ e. let x = (written_back open_from most s₁ t₁ n₁ o₁ a₁ o₁' g₁ z₁).0.has in
          let y = (written_back open_from most s₂ t₂ n₂ o₂ a₂ o₂' g₂ z₂).0.has in
          let q = one_reading Floats ℓ (take a₂.count o₂') y.the_record x.the_record y.grammar
          (subst (λ (w : List ℕ). Message Floats ℓ w x.the_record) e x.grammar) in
          (same_exactly s₁ s₂ x.claimed (rows_of L n₂ t₂)).1
          (subst (ClaimAll (content_at s₂) (rows_of L n₂ t₂)) q y.claimed),
    )

-- ---- the theorem
pub theorem : demands.Theorem
theorem ℓ fits open_from most L keeps = record {
  reading = λ ρ m t a t' g. of_read ℓ L ρ m t a t' g fits keeps;
  writing = λ s t n o a o' g. of_write ℓ L open_from most s t n o a o' g;
  shortening = λ s t n w x. of_shortest ℓ L fits keeps s t n w x;
  rewriting = λ m t a t' g z. rewritten ℓ L fits keeps open_from most m t a t' g z;
  rewriting_under = λ ρ m t a t' g z o c o' h. (
    not_ten ℓ L fits keeps open_from most ρ m t a t' g z o c o' h,
    back_main ℓ L fits keeps open_from most ρ m t a t' g z o c o' h,
  );
  telling = λ m t a t' g b t'' h.
      (one_report ℓ L fits keeps m t a t' g b t'' h, rows_told ℓ L fits keeps m t a t' g b t'' h);
  measuring = λ ρ m t a n t' g.
      of_length ρ ℓ open_from most L m t a n t' g (read_holding ℓ L ρ m t a t' g.call fits keeps)
      (table_rows ℓ L ρ keeps m t a t' g.call);
  lengths = λ ρ m t a t' g. of_shortest_length ρ ℓ open_from most L m t a t' g;
  copying = λ s₁ t₁ n₁ o₁ a₁ o₁' g₁ z₁ s₂ t₂ n₂ o₂ a₂ o₂' g₂ z₂.
      copied ℓ L open_from most s₁ t₁ n₁ o₁ a₁ o₁' g₁ z₁ s₂ t₂ n₂ o₂ a₂ o₂' g₂ z₂;
  skipping = λ s t n m x. skippable Floats ℓ m x.the_record x.grammar (content_at s) (rows_of L n t) x.claimed;
}

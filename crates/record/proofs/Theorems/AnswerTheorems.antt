-- The demands of what the definitions answer, for all limits and every threshold open_from up to 48.
use Rattle.std.specs.Prelude.{◌≡◌, refl, ◌↔◌, ◌⊎◌, List, ℕ, ◌/◌, ◌^◌, ◌≤◌, ◌<◌, length}
use Rattle.std.proofs.Common.{sym, ◌∙◌, ap, subst, inl, inr, le_trans, mul-le-mul_right, div-mul-le_self, arith, le-ltb, lt-ltb}
use Rattle.std.proofs.Math.Option.{Option, none, some}
use Rattle.std.proofs.lemmas.List.{length-map}
use Rattle.flow.specs.Tests.{pick_true, pick_false}
use Rattle.flow.specs.Flow.{Bytes, Entry, Outcome, One}
use Rattle.scalar.specs.Scalars.{DoubleRule, Floats}
use Rattle.record.specs.Model.Items.{Item, Known, Limits}
use Rattle.record.specs.Model.Rows.{Row, rows}
use Rattle.record.specs.Model.Grammar.{Message}
use Rattle.record.proofs.Laws.Numbering.{definitions, accepted_adds}
use Rattle.record.proofs.Laws.Meaning.{reads_derived, derived_reads}
use Rattle.record.specs.Model.Answers.{ReadResult, Accept, Refuse, read, Wrote, Refused, shortest_of, Layout}
use Rattle.record.specs.Model.Answers.{lent_rows, rows_of, read_numbers, read_table}
use Rattle.record.specs.Model.Answers.{answered, filled}
use Rattle.record.specs.Model.Terms.{write, Has, Accepts, Holds, TooLong, Shortest}
use Rattle.record.specs.Model.Calls.{Fits, Keeps}
use Rattle.record.specs.Laws.TableLaws.{Sound, All}
use Rattle.record.proofs.Laws.TableLaws.{rows_again, all_kept}
use Rattle.record.proofs.Laws.Refusals.{located_numbered}
use Rattle.record.proofs.Laws.Widths.{rows_fit}
use Rattle.record.proofs.ForReader.ReadMessages.{rows_length}
use Rattle.record.proofs.Theorems.RowTheorems.{rows_no_longer, rows_back, rows_none, judged_done}
use Rattle.record.proofs.Laws.Answering.{never, reads_accepts, misfit_judged, by_read, by_answer, wrote_when}
use Rattle.record.proofs.Laws.Answering.{needed_when}
use Rattle.record.specs.Model.Claims.{content_at}

module _ (ρ : DoubleRule) (ℓ : Limits) where
  -- ---- demand 2: a message is accepted exactly when the grammar reads it as one record within the limits
  pub accepted_exactly : (m : List ℕ) → Bytes m → (r : List Item) → Accepts ρ ℓ m r ↔ ((length m ≤ ℓ.longest)
      × Message ρ ℓ m r)
  accepted_exactly m b r = (
    λ x. let p = judged_done ρ ℓ m (length m) x.entries x.known x.done in
        (p.0, reads_derived ρ ℓ m r (record { bytes = b; accepted = rw p.1 x.reads_record })),
    λ x. reads_accepts ρ ℓ m r x.0 (derived_reads ρ ℓ m r x.1),
  )

  -- what is accepted has at least one item, and so one row; and the classes then known are its definitions in their
  -- order: each got the next number
  pub accepted_some : (m : List ℕ) → Bytes m → (r : List Item) → Accepts ρ ℓ m r → 0 < length r
  accepted_some m b r x = (accepted_adds ρ ℓ m b r x).0

  pub classes_in_order : (m : List ℕ) → Bytes m → (r : List Item) (x : Accepts ρ ℓ m r)
      → x.known.classes ≡ definitions r
  classes_in_order m b r x = (accepted_adds ρ ℓ m b r x).1

  -- and the lent rows suffice: the answer then is the record's rows; too few are refusal 9, which counts the rows
  -- needed
  module _ (lent : ℕ) (m : List ℕ) where
    pub rows_suffice : (r : List Item) (x : Accepts ρ ℓ m r) → length x.entries ≤ lent
        → read ρ ℓ lent m ≡ Accept (rows x.entries) (length m)
    rows_suffice r x h = ap (answered lent) x.done ∙ pick_false _ _ (le-ltb lent (length x.entries) h)

    pub rows_too_few : (r : List Item) (x : Accepts ρ ℓ m r) → lent < length x.entries
        → read ρ ℓ lent m ≡ Refuse 9 (length x.entries) 0
    rows_too_few r x h = ap (answered lent) x.done ∙ pick_true _ _ (lt-ltb lent (length x.entries) h)

    -- ---- the reader's refusals: 1 to 9
    pub read_numbered : Bytes m → (read_numbers (read ρ ℓ lent m)).number ≤ 9
    read_numbered b = by_read ρ ℓ lent m b (λ a. (read_numbers a).number ≤ 9) (λ h. omega arith)
        (λ x o h. omega (arith, (located_numbered h).1)) (λ r x h. omega arith) (λ r x h. omega arith)

    -- refusal 1 exactly where the message is empty or too long
    pub read_refused_1 : Bytes m → ((read_numbers (read ρ ℓ lent m)).number ≡ 1) ↔ ((length m ≡ 0)
        ⊎ (ℓ.longest < length m))
    read_refused_1 b = (
      by_read ρ ℓ lent m b (λ a. (read_numbers a).number ≡ 1 → (length m ≡ 0) ⊎ (ℓ.longest < length m)) (λ h e. h)
          (λ x o h e. absurd (omega (arith, (located_numbered h).0))) (λ r x h e. absurd (omega arith))
          (λ r x h e. absurd (omega arith)),
      λ h. ap (λ (o : Outcome Known Item One). (read_numbers (answered lent o)).number) (misfit_judged ρ ℓ m h),
    )

    -- refusal 9 only where the message is else accepted, and its rows are more than are lent
    pub read_refused_9 : Bytes m → (read_numbers (read ρ ℓ lent m)).number ≡ 9 → (r : List Item) × (x : Accepts ρ ℓ m r)
        × (lent < length x.entries)
    read_refused_9 b = by_read ρ ℓ lent m b (λ a. (read_numbers a).number ≡ 9 → (r : List Item) × (x : Accepts ρ ℓ m r)
        × (lent < length x.entries))
        (λ h e. absurd (omega arith)) (λ x o h e. absurd (omega (arith, (located_numbered h).1))) (λ r x h e. (r, x, h))
        (λ r x h e. absurd (omega arith))

    -- no other message is accepted
    pub answer_holds : Bytes m → (rs : List Row) (n : ℕ) → read ρ ℓ lent m ≡ Accept rs n → Holds ρ ℓ lent m rs
    answer_holds b rs n = by_read ρ ℓ lent m b (λ a. a ≡ Accept rs n → Holds ρ ℓ lent m rs)
        (λ h e. never cc) (λ x o h e. never cc) (λ r x h e. never cc)
        (λ r x h e. record { the_record = r; accepts = x; holds = cc; enough = h })

    -- so the count reported of an accepted message is never 0
    pub answer_some : Bytes m → (rs : List Row) (n : ℕ) → read ρ ℓ lent m ≡ Accept rs n → 0 < length rs
    answer_some b rs n e =
        let x = answer_holds b rs n e in
        omega (
          arith,
          ap length x.holds,
          rows_length x.accepts.entries,
          ap length x.accepts.reads_record,
          length-map x.accepts.entries (λ (e : Entry Item). e.item),
          accepted_some m b x.the_record x.accepts,
        )

  -- the table then holds that record, whatever the layout in which these rows can be stored
  pub table_holds : (L : Layout) → ((r : Row) → length (L.encode r) ≡ L.width) → (m t : List ℕ) → Bytes m
      → (rs : List Row) (n : ℕ) → All (Sound L) rs
      → read ρ ℓ (lent_rows L t) m ≡ Accept rs n → rows_of L (length rs) (read_table ρ ℓ L m t) ≡ rs
  table_holds L sized m t b rs n h e =
      let x = answer_holds (lent_rows L t) m b rs n e in
      let k : length rs ≤ length t / L.width = omega (
        arith,
        ap length x.holds,
        rows_length x.accepts.entries,
        x.enough,
      ) in
      ap (λ (z : ReadResult). rows_of L (length rs) (filled L t z)) e ∙ rows_again L sized rs h t
      (le_trans (mul-le-mul_right L.width k) (div-mul-le_self (length t) L.width))

  -- so it is in every layout that keeps rows of 64-bit numbers, where messages have fewer than 2 ^ 63 bytes
  pub kept_holds : (L : Layout) → Keeps L → (m t : List ℕ) → Bytes m → length m < 2 ^ 63 → (rs : List Row) (n : ℕ)
      → read ρ ℓ (lent_rows L t) m ≡ Accept rs n → rows_of L (length rs) (read_table ρ ℓ L m t) ≡ rs
  kept_holds L k m t b l rs n e =
      let x = answer_holds (lent_rows L t) m b rs n e in
      table_holds L k.sized m t b rs n
      (all_kept k rs (subst (All Fits) (sym x.holds) (rows_fit ρ ℓ m b l x.the_record x.accepts))) e

module _ (ℓ : Limits) where
  module _ (open_from : ℕ) (most : open_from ≤ 48) (source : List ℕ) (r : List Row) where
    -- ---- demand 2: what is written is accepted, and reads as the record that it was written from
    pub written_back : (lent : ℕ) (w : List ℕ) → write ℓ open_from lent source r ≡ Wrote w → (x : Has ℓ source r w)
        × Accepts Floats ℓ w x.the_record
    written_back lent w =
        by_answer ℓ open_from source r lent (λ a. a ≡ Wrote w
        → (x : Has ℓ source r w) × Accepts Floats ℓ w x.the_record)
        (λ l e. never cc)
        (λ l q e. never cc)
        (λ l v q i e. never cc)
        (λ l v q i j e. never cc)
        (λ l v q i j e. let s : v ≡ w = cc in
        let x = rows_back ℓ open_from most source r w (q ∙ ap {B = Option (List ℕ)} some s) in
        (x, reads_accepts Floats ℓ w x.the_record (subst (λ (z : List ℕ). length z ≤ ℓ.longest) s i) x.read_as))

    -- ---- refusal 10 is given exactly when, length set aside, no message within the other ceilings has the record
    pub refused_10 : (lent : ℕ) → length source ≤ ℓ.longest → (write ℓ open_from lent source r ≡ Refused 10 0) ↔
        ((m : List ℕ) → Has ℓ source r m → ⊥)
    refused_10 lent l = (
      by_answer ℓ open_from source r lent (λ a. a ≡ Refused 10 0 → (m : List ℕ) → Has ℓ source r m → ⊥)
          (λ i e. never cc)
          (λ i q e. (rows_none ℓ open_from most source r).0 q)
          (λ i v q j e. never cc)
          (λ i v q j k e. never cc)
          (λ i v q j k e. never cc),
      λ h. by_answer ℓ open_from source r lent (λ a. a ≡ Refused 10 0)
          (λ i. absurd (omega arith))
          (λ i q. refl)
          (λ i v q j. let e = (rows_none ℓ open_from most source r).1 h in never cc)
          (λ i v q j k. let e = (rows_none ℓ open_from most source r).1 h in never cc)
          (λ i v q j k. let e = (rows_none ℓ open_from most source r).1 h in never cc),
    )

    long_message : (w : List ℕ) → shortest_of ℓ open_from (content_at source) r ≡ some w → ℓ.longest < length w
        → TooLong ℓ source r
    long_message w q l = (
      (w, rows_back ℓ open_from most source r w q),
      λ m h. let p =
          rows_no_longer ℓ open_from most source r m h in let e =
          p.1 in let f : p.0 ≡ w = cc in omega (arith, p.2, ap length f),
    )

    not_long : (w : List ℕ) → shortest_of ℓ open_from (content_at source) r ≡ some w → length w ≤ ℓ.longest
        → TooLong ℓ source r → ⊥
    not_long w q l x = let y = x.1 w (rows_back ℓ open_from most source r w q) in omega arith

    pub refused_1 : (lent : ℕ) → (write ℓ open_from lent source r ≡ Refused 1 0) ↔ ((ℓ.longest < length source)
        ⊎ TooLong ℓ source r)
    refused_1 lent = (
      by_answer ℓ open_from source r lent (λ a. a ≡ Refused 1 0 → (ℓ.longest < length source) ⊎ TooLong ℓ source r)
          (λ i e. inl i)
          (λ i q e. never cc)
          (λ i v q j e. inr (long_message v q j))
          (λ i v q j k e. never cc)
          (λ i v q j k e. never cc),
      λ h. by_answer ℓ open_from source r lent (λ a. a ≡ Refused 1 0)
          (λ i. refl)
          (λ i q. none_claimed i q h)
          (λ i v q j. refl)
          (λ i v q j k. short i v q j h)
          (λ i v q j k. short i v q j h),
    )
      where
        none_claimed : {A : Type 0} → length source ≤ ℓ.longest → shortest_of ℓ open_from (content_at source) r ≡ none
            → (ℓ.longest < length source) ⊎ TooLong ℓ source r → A
        none_claimed i q (inl x) = absurd (omega arith)
        none_claimed i q (inr x) = absurd ((rows_none ℓ open_from most source r).0 q x.0.0 x.0.1)

        short : {A : Type 0} → length source ≤ ℓ.longest → (v : List ℕ)
            → shortest_of ℓ open_from (content_at source) r ≡ some v → length v ≤ ℓ.longest → (ℓ.longest < length source)
            ⊎ TooLong ℓ source r → A
        short i v q j (inl x) = absurd (omega arith)
        short i v q j (inr x) = absurd (not_long v q j x)

    pub demand_3 : (lent : ℕ) → (write ℓ open_from lent source r ≡ Refused 1 0 → ⊥)
        → (write ℓ open_from lent source r ≡ Refused 10 0 → ⊥) → Shortest ℓ open_from source r
    demand_3 lent = by_answer ℓ open_from source r lent (λ a. (a ≡ Refused 1 0 → ⊥) → (a ≡ Refused 10 0 → ⊥)
        → Shortest ℓ open_from source r)
        (λ i x y. absurd (x refl))
        (λ i q x y. absurd (y refl))
        (λ i v q j x y. absurd (x refl))
        (λ i v q j k x y. shortest i v q j)
        (λ i v q j k x y. shortest i v q j)
      where
        shortest : length source ≤ ℓ.longest → (w : List ℕ) → shortest_of ℓ open_from (content_at source) r ≡ some w
            → length w ≤ ℓ.longest → Shortest ℓ open_from source r
        shortest i w q j =
            let x = rows_back ℓ open_from most source r w q in
            record {
              message_of = w;
              given_room = λ k l. wrote_when ℓ open_from source r k w i q j l;
              has = x;
              accepted = reads_accepts Floats ℓ w x.the_record j x.read_as;
              none_shorter = λ m h. let p = rows_no_longer ℓ open_from most source r m h in let e = p.1 in
                  let f : p.0 ≡ w = cc in omega (arith, p.2, ap length f);
              needed = λ k l. needed_when ℓ open_from source r k w i q j l;
            }

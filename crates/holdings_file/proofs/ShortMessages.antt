-- What the contracts of src/messages.rt ask at each way out.
use mathlib.Core.Path.{◌≡◌, refl, sym, ◌∙◌, ap, subst}
use mathlib.Core.Bool.{Bool, true, false}
use mathlib.Core.List.{List, ◌++◌}
use mathlib.Core.Option.{Option, some}
use Prim.Native.Nat.{ℕ, ◌/◌, ◌≤◌, ◌<◌}
use native.Mathlib.Omega.{arith}
use lib.ListN.{length, take, drop, length-map}
use lib.Seq.{length-take-le}
use borrow.Author.Tests.{le-ltb}
use Rattle.std.specs.Prelude.{Result, Ok, Err}
use Rattle.std.specs.Cmp.Lexicographic.{pointwise}
use lib.Dec.{eqb}
use Rattle.flow.specs.RefusalNumbers.{no_room, not_shortest, repeated_entry}
use Rattle.flow.specs.Tests.{pick_true, pick_false}
use Rattle.flow.specs.OverlayLaws.{stored_take, length_stored, length_overlay}
use Rattle.flow.specs.Flow.{pick, on_some, same_list, Bytes, Entry, Outcome, Done, Fault, One, items, stored, Report}
use Rattle.scalar.specs.Scalars.{Floats}
use Rattle.scalar.specs.Refusals.{number_of}
use Rattle.scalar.specs.declared.refusals.Refusal.TheVariants as refusal
use Rattle.scalar.specs.declared.refusals.Refused.{Refused}
use Rattle.record.specs.Model.Items.{Item, Known}
use Rattle.record.specs.Model.Rows.{rows}
use Rattle.record.specs.Model.Claims.{content_at}
use Rattle.record.specs.Model.Shortest.{spell}
use Rattle.record.specs.Model.Answers.{Accept, Refuse, read, shortest_of, base, base_open_from, as_numbers, lent_rows}
use Rattle.record.specs.Model.Answers.{rows_of, read_numbers, answered, filled}
use Rattle.record.specs.Model.Terms.{Accepts}
use Rattle.record.specs.Model.Calls.{ReadCall, MeasuredCall, WriteCall}
use Rattle.record.proofs.Laws.Answering.{never, by_read}
use Rattle.record.proofs.Laws.Refusals.{located_numbered}
use Rattle.record.proofs.Laws.Extent.{rows_few}
use Rattle.record.proofs.Laws.Meaning.{message_all}
use Rattle.record.proofs.Laws.TableLaws.{numbers_keep}
use Rattle.record.proofs.ForReader.ReadMessages.{rows_length}
use Rattle.record.proofs.Theorems.AnswerTheorems.{accepted_some, kept_holds}
use Rattle.record.proofs.Theorems.CallCases.{WriteCases, long_source, beyond, no_message, too_long, too_few, wrote}
use Rattle.record.proofs.Theorems.CallCases.{answer, write_cases, entries_length}
use Rattle.record.proofs.Theorems.ItemTheorems.{no_longer}
use Rattle.record.proofs.Theorems.RowTheorems.{judged_done, own_reads, own_record}
use Rattle.reader.specs.declared.Accepted.{Accepted}
use Rattle.reader.specs.declared.ReadError.{ReadError}
use Rattle.reader.specs.declared.ReadError.TheVariants as reading
use Rattle.reader.specs.Answers as reader
use Rattle.writer.specs.declared.WriteError.{WriteError}
use Rattle.writer.specs.declared.WriteError.TheVariants as writing
use Rattle.writer.specs.Answers as writer
use Rattle.holdings.specs.Files.{versions, reads_by, is_message, is_held, fault_by, fault_of}
use Rattle.holdings.specs.Terms.{Messages, Enough}
use Rattle.holdings.proofs.AdditionLaws.{shortest_is}
use Rattle.holdings_file.specs.Promises.{newest_rules, RowsOf, ShortIn, Shortened, FaultAlone}
use Rattle.holdings_file.proofs.EntryWalks.{same_as}

-- ---- what is read of an accepted message: some rows, no more than bytes
module _ (m : List ℕ) (b : Bytes m) (n : ℕ) (es : List (Entry Item)) (c : Known)
    (e : reads_by newest_rules m ≡ Done n tt es c) where
  done_short : length m ≤ base.longest
  done_short = (judged_done Floats base m n es c e).0

  done_some : 0 < length es
  done_some =
      let all = message_all Floats base m b n tt es c (judged_done Floats base m n es c e).1 in
      let x : Accepts Floats base m (items es) = record {
        entries = es;
        known = c;
        done = e ∙ ap (λ (j : ℕ). Done j tt es c) all;
        reads_record = refl;
      } in
      omega (arith, accepted_some Floats base m b (items es) x, entries_length x)

  done_few : length es ≤ base.longest
  done_few =
      let d = judged_done Floats base m n es c e in
      let k = length-map es (λ (e : Entry Item). e.item) in
      omega (arith, rows_few Floats base m (items es) (own_reads Floats base m b n es c d.1), d.0)

-- ---- each way out of a read, with rows enough
module _ (m t : List ℕ) (a : Report) (t' : List ℕ) (g : ReadCall Floats base as_numbers m t a t')
    (lent : base.longest ≤ lent_rows as_numbers t) where
  -- the number of a refusal is none of 9 and 0
  numbered : (x p : ℕ) → reads_by newest_rules m ≡ Fault x p → (x ≡ 0 → ⊥) × (x ≡ no_room → ⊥)
  numbered x p e =
      by_read Floats base (lent_rows as_numbers t) m g.bytes (λ z. z ≡ Refuse x 0 p → (x ≡ 0 → ⊥) × (x ≡ no_room → ⊥))
      (λ h q. let k : 1 ≡ x = cc in (λ z. omega arith, λ z. omega arith))
      (λ y o h q.
      let k : y ≡ x = cc in
      let l = located_numbered h in
      (λ z. omega (arith, l.0, l.1), λ z. omega (arith, l.0, l.1)))
      (λ r y h q. let k : length y.entries ≡ 0 = cc in absurd (omega arith))
      (λ r y h q. never cc)
      (ap (answered (lent_rows as_numbers t)) e)

  -- accepted with all its rows
  done_accepts : (n : ℕ) (es : List (Entry Item)) (c : Known) → reads_by newest_rules m ≡ Done n tt es c
      → read Floats base (lent_rows as_numbers t) m ≡ Accept (rows es) n
  done_accepts n es c e = ap (answered (lent_rows as_numbers t)) e
      ∙ pick_false _ _ (le-ltb (lent_rows as_numbers t) (length es) (omega (arith, done_few m g.bytes n es c e)))

  done_told : (n : ℕ) (es : List (Entry Item)) (c : Known) → reads_by newest_rules m ≡ Done n tt es c
      → a ≡ answer 0 (length (rows es)) n
  done_told n es c e = g.report ∙ ap read_numbers (done_accepts n es c e)

  refused_is : (x p : ℕ) → a ≡ answer x 0 p → reads_by newest_rules m ≡ Fault x p
  refused_is x p h = go (reads_by newest_rules m) refl (sym h ∙ g.report)
    where
      go : (o : Outcome Known Item One) → reads_by newest_rules m ≡ o
          → answer x 0 p ≡ read_numbers (answered (lent_rows as_numbers t) o) → o ≡ Fault x p
      go (Fault y o) q k =
          let n = ap (λ (z : Report). z.number) k in
          let l = ap (λ (z : Report). z.place) k in
          λ i. Fault (sym n i) (sym l i)
      go (Done n u es c) q k =
          let z : answer x 0 p ≡ answer 0 (length (rows es)) n = sym h ∙ done_told n es c q in
          absurd (omega (
            arith,
            ap (λ (z : Report). z.count) z,
            rows_length es,
            done_some m g.bytes n es c q,
          ))

  few_never : (n : ℕ) → a ≡ answer no_room n 0 → ⊥
  few_never n h = go (reads_by newest_rules m) refl
    where
      go : (o : Outcome Known Item One) → reads_by newest_rules m ≡ o → ⊥
      go (Fault y o) q =
          let k = sym h ∙ g.report
          ∙ ap (λ (z : Outcome Known Item One). read_numbers (answered (lent_rows as_numbers t) z)) q in
          (numbered y o q).1 (ap (λ (z : Report). z.number) (sym k))
      go (Done j u es c) q = omega (arith, ap (λ (z : Report). z.number) (sym h ∙ done_told j es c q))

  accepted_rows : (n l : ℕ) → a ≡ answer 0 n l → RowsOf m t' n
  accepted_rows n l h = go (reads_by newest_rules m) refl
    where
      go : (o : Outcome Known Item One) → reads_by newest_rules m ≡ o → RowsOf m t' n
      go (Fault y o) q =
          let k = sym h ∙ g.report
          ∙ ap (λ (z : Outcome Known Item One). read_numbers (answered (lent_rows as_numbers t) z)) q in
          absurd ((numbered y o q).0 (ap (λ (z : Report). z.number) (sym k)))
      go (Done j u es c) q =
          let r = done_accepts j es c q in
          let few = done_few m g.bytes j es c q in
          let i : n ≡ length (rows es) = ap (λ (z : Report). z.count) (sym h ∙ done_told j es c q) in
          let s : length t' ≡ length t = ap length (g.table ∙ ap (filled as_numbers t) r)
          ∙ length_overlay 5 as_numbers.encode (λ y. refl) t 0 (rows es) in
          let small = done_short m g.bytes j es c q in
          record {
            count = j;
            entries = es;
            known = c;
            bytes = g.bytes;
            accepted = q;
            rows_are = (λ v. rows_of as_numbers (i v) (g.table v))
                ∙ kept_holds Floats base as_numbers numbers_keep m t g.bytes (omega arith) (rows es) j r;
            lent = omega (arith, i, rows_length es, few, lent, ap (λ (k : ℕ). k / 5) s);
          }

-- ---- the same of the reader's answer
module _ (m t out : List ℕ) (x : Enough versions t out) (r : Result Accepted ReadError) (n : ℕ) (t' : List ℕ)
    (g : MeasuredCall Floats base as_numbers m t (reader.report r) n t') where
  pub read_rows : (a : Accepted) → r ≡ Ok a → RowsOf m t' a.rows
  read_rows a h = accepted_rows m t (reader.report r) t' g.call x.rows_lent a.rows a.length (ap reader.report h)

  module _ (e : ReadError) (h : r ≡ Err e) where
    pub read_refused : (y : Refused) → e ≡ reading.Refused y
        → reads_by newest_rules m ≡ Fault (number_of y.refusal) y.place
    read_refused y q = refused_is m t (reader.report r) t' g.call x.rows_lent (number_of y.refusal) y.place
        (ap reader.report h ∙ ap (λ (z : ReadError). reader.report (Err z)) q)

    pub read_few : (c : ℕ) → e ≡ reading.TooFew c → ⊥
    read_few c q = few_never m t (reader.report r) t' g.call x.rows_lent c
        (ap reader.report h ∙ ap (λ (z : ReadError). reader.report (Err z)) q)

-- ---- each way out of writing the rows of a message, with bytes enough
module _ (m t : List ℕ) (n : ℕ) (out : List ℕ) (x : RowsOf m t n) (lent : base.longest ≤ length out) (a : Report)
    (out' : List ℕ) (g : WriteCall base base_open_from as_numbers m t n out a out') where
  pub record Spelled : Type 0 where
    w : List ℕ
    spells : spell base base_open_from (items x.entries) ≡ some w
    shortest : shortest_of base base_open_from (content_at m) (rows_of as_numbers n t) ≡ some w
    small : length w ≤ base.longest
    source : length m ≤ base.longest

  spelled : Spelled
  unfolding shortest_of
  spelled =
      let d = judged_done Floats base m x.count x.entries x.known x.accepted in
      let reads = own_reads Floats base m x.bytes x.count x.entries x.known d.1 in
      let p = no_longer base base_open_from (omega arith) m (items x.entries) reads in
      record {
        w = p.0;
        spells = p.1;
        shortest = ap (shortest_of base base_open_from (content_at m)) x.rows_are
            ∙ ap (on_some (spell base base_open_from))
            (own_record Floats base m x.bytes x.count x.entries x.known d.1)
            ∙ p.1;
        small = omega (arith, d.0, p.2);
        source = d.0;
      }

  record Wrote : Type 0 where
    told : a ≡ answer 0 (length spelled.w) 0
    output : out' ≡ stored out 0 spelled.w

  writes : Wrote
  writes = go (write_cases base base_open_from as_numbers m t n out a out' g)
    where
      y : Spelled
      y = spelled

      same : (v : List ℕ) → shortest_of base base_open_from (content_at m) (rows_of as_numbers n t) ≡ some v → v ≡ y.w
      same v e = let s = y.shortest in cc

      go : WriteCases base base_open_from as_numbers m t n out a out' g → Wrote
      go (long_source l e o) = absurd (omega (arith, y.source))
      go (beyond l h e o) = absurd (omega (arith, x.lent))
      go (no_message l h q e o) = let s = y.shortest in never cc
      go (too_long l h v q i e o) = absurd (omega (arith, ap length (same v q), y.small))
      go (too_few l h v q i j e o) = absurd (omega (arith, ap length (same v q), y.small))
      go (wrote l h v q i j e o) = record {
        told = e ∙ ap (λ (z : List ℕ). answer 0 (length z) 0) (same v q);
        output = o ∙ ap (stored out 0) (same v q);
      }

  pub short_written : (k : ℕ) → a ≡ answer 0 k 0 → ShortIn m k out'
  short_written k h =
      let y = spelled in
      let z = writes in
      let s = y.small in
      let i : k ≡ length y.w = ap (λ (r : Report). r.count) (sym h ∙ z.told) in
      let v : take k out' ≡ y.w = (λ j. take (i j) (z.output j)) ∙ stored_take out 0 y.w (omega arith) in
      record {
        shortens = record {
          count = x.count;
          entries = x.entries;
          known = x.known;
          accepted = x.accepted;
          short = shortest_is newest_rules (items x.entries) y.w y.spells s
              ∙ ap {B = Option (List ℕ)} some (sym v);
        };
        fits = omega (arith, ap length z.output, length_stored out 0 y.w);
        bounded = omega arith;
      }

  pub written_zero : a.number ≡ 0
  written_zero = ap (λ (r : Report). r.number) writes.told

-- ---- the same of the writer's answer
module _ (m t : List ℕ) (n : ℕ) (out : List ℕ) (x : RowsOf m t n) (lent : Enough versions t out)
    (r : Result ℕ WriteError) (out' : List ℕ)
    (g : WriteCall base base_open_from as_numbers m t n out (writer.report r) out') where
  pub written_is : (k : ℕ) → r ≡ Ok k → ShortIn m k out'
  written_is k h = short_written m t n out x lent.bytes_lent (writer.report r) out' g k (ap writer.report h)

  pub written_always : (e : WriteError) → r ≡ Err e → ⊥
  written_always e h = go e (ap (λ (z : Result ℕ WriteError). (writer.report z).number) (sym h)
      ∙ written_zero m t n out x lent.bytes_lent (writer.report r) out' g)
    where
      go : (e : WriteError) → (writer.report (Err e)).number ≡ 0 → ⊥
      go writing.TooLong h = omega arith
      go writing.NoRecord h = omega arith
      go (writing.TooFew k) h = omega arith

-- ---- what is wrong with a message by itself
pub alone_refused : (m : List ℕ) (x p : ℕ) → reads_by newest_rules m ≡ Fault x p
    → FaultAlone m (Err refusal.RefusedEntry)
unfolding fault_of
alone_refused m x p q = λ before. ap (fault_by newest_rules before m) q

module _ (m out : List ℕ) (n : ℕ) (y : ShortIn m n out) (r : Bool) (e : r ≡ pointwise eqb (take n out) m) where
  compared : (before : Messages)
      → fault_of newest_rules before m ≡ pick r (pick (is_held m before) repeated_entry 0) not_shortest
  unfolding fault_of
  compared before =
      ap (fault_by newest_rules before m) y.shortens.accepted
      ∙ ap (λ (o : Option (List ℕ)). pick (is_message m o) (pick (is_held m before) repeated_entry 0) not_shortest)
      y.shortens.short
      ∙ ap (λ (t : Bool). pick t (pick (is_held m before) repeated_entry 0) not_shortest)
      (sym (same_as (take n out) m e))

  pub alone_longer : r ≡ false → FaultAlone m (Err refusal.NotShortest)
  alone_longer t = λ before. compared before ∙ pick_false _ _ t

  pub alone_none : r ≡ true → FaultAlone m (Ok tt)
  alone_none t = λ before. compared before ∙ pick_true _ _ t

-- What the contracts of `put_rows`, `write_rows` and `write_table` ask at each of their ways out.
use mathlib.Core.Path.{◌≡◌, refl, sym, ap, subst, ◌∙◌}
use mathlib.Core.List.{List, []}
use mathlib.Core.Logic.{⊎_elim}
use mathlib.Core.Option.{Option, none, some}
use Prim.Native.Nat.{ℕ, ◌^◌, ◌≤◌, ◌<◌}
use native.Mathlib.Omega.{arith}
use lib.Dec.{ltb}
use lib.ListN.{length}
use borrow.Author.Tests.{lt-ltb, le-ltb}
use Rattle.std.specs.Prelude.{Result, Ok, Err}
use Rattle.flow.specs.Flow.{pick, reported}
use Rattle.flow.specs.Tests.{pick_true, pick_false}
use Rattle.flow.specs.Flow as slices
use Rattle.record.specs.declared.Contents.TheVariants.{Elements}
use Rattle.record.specs.declared.known.Known as given
use Rattle.record.specs.Model.Items.{Item, Known, start}
use Rattle.record.specs.Model.Rows.{Row}
use Rattle.record.specs.Model.Shortest.{put_value}
use Rattle.record.specs.Model.Answers.{WriteResult, Wrote, Refused, Layout, base, base_open_from, rows_of, lent_rows}
use Rattle.record.specs.Model.Answers.{fitted, written, write_numbers, output_written}
use Rattle.record.specs.Model.Calls.{WriteCall}
use Rattle.record.specs.Model.Claims.{content_at}
use Rattle.record.proofs.Laws.Takes.{value_drops}
use Rattle.record.specs.Laws.KnownLaws.{known_in, Kept}
use Rattle.record.specs.ForWriter.WritingAt.{WritingAt, WrittenTo, NoMessage, walk}
use Rattle.record.proofs.ForWriter.WritingAt.{claimed_few}
use Rattle.record.specs.ForWriter.WrittenContents.{left}
use Rattle.record.proofs.ForWriter.WrittenContents.{one_value}
use Rattle.record.proofs.ForWriter.WrittenMessages.{whole_written, whole_short, whole_stuck, whole_wrong}
use Rattle.writer.specs.declared.size.Size.{Size}
use Rattle.writer.specs.declared.progress.NoRecord.{NoRecord}
use Rattle.writer.specs.declared.progress.Progress.{Progress}
use Rattle.writer.specs.declared.WriteError.{WriteError}
use Rattle.writer.specs.declared.WriteError.TheVariants as errors
use Rattle.writer.specs.Lent.{Lent, lent_of}
use Rattle.writer.specs.Answers.{report}
use Rattle.writer.specs.Promises.{items_of, shortest_in, Among, Writable, ValuesMet, PutSays, PutMet, WritesInto}
use Rattle.writer.proofs.FetchLaws.{rows_counted}

-- ---- one run over the rows, at the start of which nothing is known
module _ (t : Lent) where
  pub ready_first : length t.rows < 2 ^ 64 → {ks : given.Known} → known_in ks ≡ start → Kept ks
      → Writable (items_of t) ks 0
  ready_first few e k = record {
    among = record { within = omega arith; few = omega (arith, claimed_few (content_at t.source) t.rows) };
    kept = k;
    references_few = let z = ap (λ (c : Known). c.references) e in omega arith;
  }

  -- what is written of them
  abbrev All : Known → WritingAt
  All c = walk (left (put_value base base_open_from base.containers) (Elements 1) 0) c (items_of t) 0

  module _ (ks : given.Known) (e : known_in ks ≡ start) where
    whole : (o : WritingAt) → All (known_in ks) ≡ o
        → walk (put_value base base_open_from base.containers) start (items_of t) 0 ≡ o
    whole o h = one_value (put_value base base_open_from base.containers) (value_drops base base_open_from base.containers)
        (items_of t) start 0 o (ap All (sym e) ∙ h)

    module _ {out : List ℕ} {ks' : given.Known} {out' : List ℕ} where
      pub put_none : {n n' : NoRecord} → ValuesMet t.rows (All (known_in ks)) (items_of t) 0 0 out (Err n) ks' out'
          → PutMet (shortest_in t) out 0 (Err n') out'
      put_none m =
          record {
            says = ⊎_elim (λ h. whole_stuck base base_open_from (content_at t.source) t.rows (whole NoMessage h))
                (λ h. whole_wrong base base_open_from (content_at t.source) t.rows h) m.says;
          }

      module _ (q : Progress) (m : ValuesMet t.rows (All (known_in ks)) (items_of t) 0 0 out (Ok q) ks' out') where
        pub put_short : q.next < length t.rows → {n : NoRecord} → PutMet (shortest_in t) out 0 (Err n) out'
        put_short l = let w = m.says.0 in record {
          says = whole_short base base_open_from (content_at t.source) t.rows w.written q.next (known_in ks')
              (whole (WrittenTo w.written q.next (known_in ks')) w.says) l;
        }

        pub put_done : length t.rows ≤ q.next → PutMet (shortest_in t) out 0 (Ok q.size) out'
        put_done l = let w = m.says.0 in record {
          says = (
            w.written,
            whole_written base base_open_from (content_at t.source) t.rows w.written q.next (known_in ks')
                (whole (WrittenTo w.written q.next (known_in ks')) w.says)
                (omega (arith, claimed_few (content_at t.source) t.rows, w.ready.among.within)) m.says.1,
            w.puts,
          );
        }

-- as many rows as the table says
pub rows_as_many : (L : Layout) (source cells : List ℕ) (n : ℕ) {t : Lent} → lent_of L source cells n ≡ t
    → length t.rows ≡ n
rows_as_many L source cells n e = ap (λ (t : Lent). length t.rows) (sym e) ∙ rows_counted L n cells

-- ---- what is answered and stored, where the shortest message is o
module _ (o : Option (List ℕ)) (out : List ℕ) where
  -- an answer of the code, by the definitions' answer
  into : (a : WriteResult) → fitted base (length out) o ≡ a → (r : Result ℕ WriteError)
      → report r ≡ write_numbers a → (out' : List ℕ) → out' ≡ output_written out a → WritesInto o out r out'
  into a h r e out' f = record { says = e ∙ ap write_numbers (sym h); holds = f ∙ ap (output_written out) (sym h) }

  -- by what the first run came to, with the output e, none
  module _ {e e' : List ℕ} where
    pub into_none : {n : NoRecord} → PutMet o e 0 (Err n) e' → WritesInto o out (Err errors.NoRecord) out
    into_none m = into (Refused 10 0) (ap (fitted base (length out)) m.says) (Err errors.NoRecord) refl out refl

    module _ (s : Size) (m : PutMet o e 0 (Ok s) e') where
      stored_as : fitted base (length out) o ≡ fitted base (length out) (some m.says.0)
      stored_as = ap (fitted base (length out)) m.says.1

      pub into_long : base.longest < s.bytes → WritesInto o out (Err errors.TooLong) out
      into_long l = let w = m.says in
          into (Refused 1 0) (stored_as
          ∙ pick_true _ _ (lt-ltb base.longest (length w.0) (omega (arith, w.2.grows)))) (Err errors.TooLong)
          refl out refl

      module _ (short : s.bytes ≤ base.longest) where
        is_size : s.bytes ≡ length m.says.0
        is_size = let w = m.says in omega (arith, w.2.grows)

        pub into_few : length out < s.bytes → WritesInto o out (Err (errors.TooFew s.bytes)) out
        into_few l = let w = m.says in into (Refused 9 (length w.0))
            (stored_as ∙ pick_false _ _ (le-ltb base.longest (length w.0) (omega (arith, is_size)))
            ∙ pick_true _ _ (lt-ltb (length out) (length w.0) (omega (arith, is_size))))
            (Err (errors.TooFew s.bytes)) (ap (λ (n : ℕ). reported 9 n) is_size) out refl

        -- the second run stores what the first counted
        pub into_done : s.bytes ≤ length out → (z : Result Size NoRecord) (out' : List ℕ) → PutMet o out 0 z out'
            → WritesInto o out (Ok s.bytes) out'
        into_done fits z out' h = let w = m.says in into (Wrote w.0)
            (stored_as ∙ pick_false _ _ (le-ltb base.longest (length w.0) (omega (arith, is_size)))
            ∙ pick_false _ _ (le-ltb (length out) (length w.0) (omega (arith, is_size))))
            (Ok s.bytes) (ap (λ (n : ℕ). reported 0 n) is_size) out' (go z h.says)
          where
            go : (z : Result Size NoRecord) → PutSays o out 0 z out' → out' ≡ slices.stored out 0 m.says.0
            go (Err n) g = let x = m.says.1 in let q : ◌≡◌ {A = ℕ} 0 1 = cc in absurd (omega arith)
            go (Ok k) g =
                let w = m.says in
                let x = w.1 in
                let y = g.1 in
                let v : g.0 ≡ w.0 = cc in
                g.2.holds (omega (arith, is_size, ap length v)) (omega (arith, is_size, ap length v))
                ∙ ap (slices.stored out 0) v

-- ---- rows that are lent or not
module _ (L : Layout) (source t : List ℕ) (n : ℕ) (out : List ℕ) where
  answer : (a : WriteResult) → written base base_open_from L content_at source t n (length out) ≡ a
      → (r : Result ℕ WriteError) → report r ≡ write_numbers a → (out' : List ℕ) → out' ≡ output_written out a
      → WriteCall base base_open_from L source t n out (report r) out'
  answer a h r e out' f =
      record { report = e ∙ ap write_numbers (sym h); output = f ∙ ap (output_written out) (sym h) }

  pub call_long : base.longest < length source
      → WriteCall base base_open_from L source t n out (report (Err errors.TooLong)) out
  unfolding written
  call_long l = answer (Refused 1 0) (pick_true _ _ (lt-ltb base.longest (length source) l)) (Err errors.TooLong) refl
      out refl

  module _ (short : length source ≤ base.longest) where
    answered : (x : Option (List ℕ)) → pick (ltb (lent_rows L t) n) none (shortest_in (lent_of L source t n)) ≡ x
        → written base base_open_from L content_at source t n (length out) ≡ fitted base (length out) x
    unfolding written
    answered x h = pick_false _ _ (le-ltb base.longest (length source) short) ∙ ap (fitted base (length out)) h

    pub call_claim : {lent : ℕ} → lent ≡ lent_rows L t → lent < n
        → WriteCall base base_open_from L source t n out (report (Err errors.NoRecord)) out
    call_claim e l = answer (Refused 10 0) (answered none (pick_true _ _ (lt-ltb (lent_rows L t) n (omega arith))))
        (Err errors.NoRecord) refl out refl

    pub call_rows : {lent : ℕ} → lent ≡ lent_rows L t → n ≤ lent → (r : Result ℕ WriteError) (out' : List ℕ)
        → WritesInto (shortest_in (lent_of L source t n)) out r out'
        → WriteCall base base_open_from L source t n out (report r) out'
    call_rows e l r out' m =
        let s = shortest_in (lent_of L source t n) in
        answer (fitted base (length out) s) (answered s (pick_false _ _ (le-ltb (lent_rows L t) n (omega arith)))) r
        m.says out' m.holds

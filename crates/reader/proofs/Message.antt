-- What the contracts of `read_value`, `judge`, `read_into` and of the functions over them ask at each way out.
use Rattle.std.proofs.Common.{◌≡◌, ℕ, suc, ◌+◌, ◌<◌, ◌≤◌, Bool, true, false, List, [], ◌∷◌, map, length, get_or, sym, refl, ap, ◌∙◌, append-nil, arith, w8, Fits}
use Rattle.std.specs.Prelude.{Result, Ok, Err}
use Rattle.scalar.specs.Scalars.{DoubleRule, Floats, Thousandths}
use Rattle.scalar.specs.declared.refusals.Refused.{Refused}
use Rattle.scalar.specs.declared.refusals.Refusal.{Refusal}
use Rattle.scalar.specs.declared.refusals.Refusal.TheVariants as refusal
use Rattle.scalar.specs.Refusals.{number_of, refusal_of, refusal_back}
use Rattle.flow.specs.Tests.{bytes_all}
use Rattle.flow.specs.Flow.{Bytes, One, byte_at, put, overlay}
use Rattle.record.specs.declared.Group.TheVariants.{Counted}
use Rattle.record.specs.declared.known.Known as code
use Rattle.record.specs.Model.Items.{Known, start}
use Rattle.record.specs.Model.Reading.{Opening, value_from}
use Rattle.record.specs.Model.Rows.{Row}
use Rattle.record.specs.Model.Answers.{Layout, Accept, Refuse, read, base, read_numbers}
use Rattle.record.specs.Model.Answers.{filled, lent_rows, base_open_from, length_answered, shortest_length}
use Rattle.record.specs.Model.Calls.{Keeps, MeasuredCall}
use Rattle.record.specs.ForReader.ReadingAt.{ReadingAt, ReadTo, RefusedAt, run, on, numbered}
use Rattle.record.proofs.ForReader.ReadingAt.{on_same, numbered_length}
use Rattle.record.specs.ForReader.ReadLoops.{rest}
use Rattle.record.proofs.ForReader.ReadLoops.{rest_step, rest_stop}
use Rattle.record.proofs.ForReader.ReadMessages.{read_empty, read_long, read_lost, read_over, read_small, read_got}
use Rattle.record.proofs.ForReader.ReadLengths.{length_read_law, length_refused}
use Rattle.record.proofs.ForReader.Retelling.{refused_call, accepted_call}
use Rattle.record.proofs.Laws.ThousandthRows.{length_in_thousandths}
use Rattle.record.specs.Laws.KnownLaws.{Kept, known_in}
use Rattle.reader.specs.declared.Filled.{Filled}
use Rattle.reader.specs.declared.ReadError.{ReadError}
use Rattle.reader.specs.declared.ReadError.TheVariants as error
use Rattle.reader.specs.declared.values.ValuesRead.{ValuesRead}
use Rattle.reader.specs.Answers.{report, shortest, fill_report, error_report}
use Rattle.reader.specs.Slots.{Keeping, laid, added, rule_of, keep_all}
use Rattle.reader.specs.Promises.{refused, ReadyAt, ValuesReadSays, message_start}
use Rattle.reader.specs.Promises.{OneValueMet, IsRecord, JudgedMet, ReadIntoMet, Retold}
use Rattle.reader.proofs.LengthLaws.{sum_is}

-- ---- before the first byte nothing is known
pub ready_first : (m : List ℕ) → ((i : ℕ) → Fits w8 (get_or m i 0)) → (ks : code.Known) → Kept ks
    → known_in ks ≡ start → ReadyAt m ks message_start
ready_first m bytes ks k e = record {
  at = record { bytes = bytes_all m (λ i. (bytes i).fits); within = omega arith };
  kept = k;
  rows_few = omega arith;
  references_few = omega (arith, ap (λ (c : Known). c.references) e);
}

-- ---- a group of one is one value
module _ (f : Opening One) (c : Known) (m : List ℕ) (p : ℕ) where
  single : run (rest f (Counted 1) 0) c m p ≡ on (run (byte_at f) c m p) (λ e u c'. ReadTo e 1 [] c')
  single =
      rest_step f m c (Counted 1) 0 p refl (omega arith)
      ∙ on_same (run (byte_at f) c m p) _ _ (λ e u c'. rest_stop f m c' (Counted 1) (0 + 1) e refl)

  single_got : (q k : ℕ) (rs : List Row) (c' : Known) → run (rest f (Counted 1) 0) c m p ≡ ReadTo q k rs c'
      → run (byte_at f) c m p ≡ ReadTo q tt rs c'
  single_got q k rs c' e = go (run (byte_at f) c m p) (sym single ∙ e)
    where
      go : (o : ReadingAt One) → on o (λ e u c'. ReadTo e 1 [] c') ≡ ReadTo q k rs c' → o ≡ ReadTo q tt rs c'
      go (ReadTo e u qs d) h =
          let a : e ≡ q = cc in
          let b : qs ≡ rs = sym (append-nil qs) ∙ cc in
          let g : d ≡ c' = cc in
          λ i. ReadTo (a i) tt (b i) (g i)
      go (RefusedAt x o) h = let z : ◌≡◌ {A = ℕ} 0 1 = cc in absurd (omega arith)

  single_lost : (x o : ℕ) → run (rest f (Counted 1) 0) c m p ≡ RefusedAt x o → run (byte_at f) c m p ≡ RefusedAt x o
  single_lost x o e = go (run (byte_at f) c m p) (sym single ∙ e)
    where
      go : (y : ReadingAt One) → on {B = ℕ} y (λ e u c'. ReadTo e 1 [] c') ≡ RefusedAt x o → y ≡ RefusedAt x o
      go (ReadTo e u qs d) h = let z : ◌≡◌ {A = ℕ} 0 1 = cc in absurd (omega arith)
      go (RefusedAt y z) h = cc

-- ---- judge
module _ {K : Keeping} {m u : List ℕ} where
  pub judge_empty : length m ≡ 0 → JudgedMet K m u (Err (refused refusal.Length 0)) u
  judge_empty e = record { says = λ lent. read_empty base lent m e }

  module _ (some : length m ≡ 0 → ⊥) where
    pub judge_long : base.longest < length m → JudgedMet K m u (Err (refused refusal.Length 0)) u
    judge_long l = record { says = λ lent. read_long base lent m (omega arith) l }

    module _ (short : length m ≤ base.longest) {u' : List ℕ} where
      pub judge_refused : (r : Refused) → OneValueMet K m u (Err r) u' → JudgedMet K m u (Err r) u'
      judge_refused r a = record {
        says = λ lent. read_lost base lent m (omega arith) short (number_of r.refusal) r.place
            (single_lost (value_from Floats base base.containers) start m 0 (number_of r.refusal) r.place a.says);
      }

      module _ {v : ValuesRead} (a : OneValueMet K m u (Ok v) u') where
        read_as : run (byte_at (value_from Floats base base.containers)) start m 0
            ≡ ReadTo v.next.at tt a.says.rows (known_in a.after)
        read_as =
            single_got (value_from Floats base base.containers) start m 0 v.next.at v.count a.says.rows
            (known_in a.after) a.says.says

        pub judge_over : v.next.at < length m → JudgedMet K m u (Err (refused refusal.After v.next.at)) u'
        judge_over l = record {
          says = λ lent. read_over base lent m (omega arith) short v.next.at a.says.rows (known_in a.after) read_as l;
        }

        pub judge_record : length m ≤ v.next.at → JudgedMet K m u (Ok v.next.row) u'
        judge_record l =
            let n : v.next.at ≡ length m = omega (arith, a.says.reads.ready.at.within) in
            record {
              says = record {
                rows = a.says.rows;
                after = known_in a.after;
                says = read_as ∙ ap (λ (z : ℕ). ReadTo z tt a.says.rows (known_in a.after)) n;
                counted = omega (arith, a.says.reads.counted);
                kept = a.says.reads.stores.kept;
                some = omega arith;
                short = short;
              };
            }

-- ---- read_into
-- rows that are laid are laid over
all_laid : (L : Layout) (m t : List ℕ) (k : ℕ) (rs : List Row) → keep_all (laid L) m t k rs ≡ overlay L.width L.encode t k rs
unfolding overlay
all_laid L m t k [] = refl
all_laid L m t k (r ∷ rs) = all_laid L m (put L.width L.encode t k r) (suc k) rs

-- by the main rule
module _ {K : Keeping} {L : Layout} {m : List ℕ} (bytes : (i : ℕ) → Fits w8 (get_or m i 0)) {t u u' : List ℕ} where
  into_error : (e : ReadError) (x k o : ℕ) → read Floats base (lent_rows L t) m ≡ Refuse x k o
      → error_report e ≡ record { number = x; count = k; place = o } → ReadIntoMet K L Floats m t u (Err e) t u'
  into_error e x k o h i = record {
    call = record {
      bytes = bytes_all m (λ i. (bytes i).fits);
      report = i ∙ sym (ap read_numbers h);
      table = sym (ap (filled L t) h);
    };
    answered = λ w. sym (ap (length_answered w) h);
    measured = tt;
  }

  pub into_refused : (r : Refused) → JudgedMet K m u (Err r) u'
      → ReadIntoMet K L Floats m t u (Err (error.Refused r)) t u'
  into_refused r a = into_error (error.Refused r) (number_of r.refusal) 0 r.place (a.says (lent_rows L t)) refl

  module _ {n : ℕ} (a : JudgedMet K m u (Ok n) u') where
    pub into_few : lent_rows L t < n → ReadIntoMet K L Floats m t u (Err (error.TooFew n)) t u'
    into_few l =
        let w = a.says in
        into_error (error.TooFew n) 9 n 0
        (read_small base (lent_rows L t) m w.some w.short (length m) w.rows w.after w.says
        (omega arith) (omega (arith, w.counted))
        ∙ ap (λ (z : ℕ). Refuse 9 z 0) w.counted) refl

    pub into_record : n ≤ lent_rows L t → {v : Result ValuesRead Refused} {t' : List ℕ}
        → OneValueMet (laid L) m t v t' → ReadIntoMet K L Floats m t u (Ok (record { rows = n; length = length m })) t' u'
    into_record l {v} {t'} x = go v x.says
      where
        h : read Floats base (lent_rows L t) m ≡ Accept (numbered 0 a.says.rows) (length m)
        h =
            let w = a.says in
            read_got base (lent_rows L t) m w.some w.short (length m) w.rows w.after w.says
            (omega arith) (omega (arith, w.counted))

        go : (v : Result ValuesRead Refused)
            → ValuesReadSays (laid L) (run (rest (value_from Floats base base.containers) (Counted 1) 0) start m 0)
            m t message_start (Counted 1) v t' x.after
            → ReadIntoMet K L Floats m t u (Ok (record { rows = n; length = length m })) t' u'
        go (Err r) s =
            let i = single_lost (value_from Floats base base.containers) start m 0 (number_of r.refusal) r.place s in
            let j = a.says.says in
            let z : ◌≡◌ {A = ℕ} 0 1 = cc in
            absurd (omega arith)
        go (Ok v) s =
            let w = a.says in
            let g =
            single_got (value_from Floats base base.containers) start m 0 v.next.at v.count
            s.rows (known_in x.after) s.says in
            let y = w.says in
            let same : s.rows ≡ w.rows = cc in
            record {
              call = record {
                bytes = bytes_all m (λ i. (bytes i).fits);
                report =
                    sym (ap read_numbers h
                    ∙ ap (λ (z : ℕ). record { number = 0; count = z; place = length m })
                    (numbered_length 0 w.rows ∙ w.counted));
                table =
                    s.reads.stores.kept
                    ∙ ap (λ (z : List Row). keep_all (laid L) m t 0 (numbered 0 z)) same
                    ∙ all_laid L m t 0 (numbered 0 w.rows)
                    ∙ sym (ap (filled L t) h);
              };
              answered = λ w. sym (ap (length_answered w) h);
              measured = w;
            }

-- no refusal has the number 0
numbered_some : (x : Refusal) → number_of x ≡ 0 → ⊥
numbered_some x e =
    let same : refusal.Length ≡ x = sym (ap refusal_of e) ∙ refusal_back x in
    absurd (omega (arith, ap number_of same, e))

error_some : (e : ReadError) → (error_report e).number ≡ 0 → ⊥
error_some (error.Refused r) z = numbered_some r.refusal z
error_some (error.TooFew n) z = omega arith

-- in thousandths
module _ {K : Keeping} {L : Layout} (keeps : Keeps L) {m t u u' : List ℕ} where
  pub into_under : (b : Bool) (e : ReadError) → ReadIntoMet K L Floats m t u (Err e) t u'
      → ReadIntoMet K L (rule_of b) m t u (Err e) t u'
  into_under false e x = x
  into_under true e x = record {
    call = refused_call base (omega arith) L keeps m t (error_report e) t x.call (error_some e);
    answered = λ w. x.answered w ∙ sym (length_in_thousandths m base (lent_rows L t) w);
    measured = tt;
  }

  pub into_told : {f : Filled} {t₁ : List ℕ} → ReadIntoMet K L Floats m t u (Ok f) t₁ u'
      → {t₂ : List ℕ} → Retold L m t₁ f.rows t₂ → ReadIntoMet K L Thousandths m t u (Ok f) t₂ u'
  into_told {f} {t₁} x {t₂} y = record {
    call = accepted_call base (omega arith) L keeps m t (fill_report (Ok f)) t₁ x.call refl t₂ (λ h. y.retold h);
    answered = λ w. x.answered w ∙ sym (length_in_thousandths m base (lent_rows L t) w);
    measured = x.measured;
  }

-- ---- measured, length_by
-- the first number of a list, by its numbers
pub first_number : {A : Type 0} (f : A → ℕ) (d : A) (xs : List A) (w : ℕ) → map f xs ≡ w ∷ [] → f (get_or xs 0 d) ≡ w
first_number f d [] w e = let z : ◌≡◌ {A = ℕ} 0 1 = cc in absurd (omega arith)
first_number f d (x ∷ xs) w e = cc

module _ (ρ : DoubleRule) {m : List ℕ} (bytes : Bytes m) where
  pub record_length : {n : ℕ} {u' : List ℕ} → IsRecord (added ρ) m (0 ∷ []) n u'
      → u' ≡ shortest_length ρ base base_open_from m ∷ []
  record_length x =
      let q = length_read_law ρ base base_open_from (omega arith) (omega arith) m bytes x.some x.short
      x.rows x.after x.says in
      x.kept ∙ sum_is ρ m x.rows q.1 ∙ ap (λ (z : ℕ). z ∷ []) q.0

-- the first of the sums; value: its number
module _ {L : Layout} {ρ : DoubleRule} {m t t' : List ℕ} {A : Type 0} (value : A → ℕ) (none : A) (sums : List A) where
  pub measured_ok : {f : Filled} → ReadIntoMet (added ρ) L ρ m t (0 ∷ []) (Ok f) t' (map value sums)
      → MeasuredCall ρ base L m t (fill_report (Ok f)) (value (get_or sums 0 none)) t'
  measured_ok x = record {
    call = x.call;
    shortest =
        first_number value none sums _ (record_length ρ x.call.bytes x.measured)
        ∙ x.answered (shortest_length ρ base base_open_from m);
  }

pub length_lost : (ρ : DoubleRule) {K : Keeping} {m u u' : List ℕ} (r : Refused) → JudgedMet K m u (Err r) u'
    → 0 ≡ shortest_length ρ base base_open_from m
length_lost ρ {m = m} r a = sym (length_refused ρ base base_open_from m (number_of r.refusal) r.place a.says)

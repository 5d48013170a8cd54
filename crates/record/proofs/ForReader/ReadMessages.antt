-- A whole message at a place: one value, nothing after it, and what the reader answers then.
use Rattle.std.specs.Prelude.{◌≡◌, ℕ, ◌+◌, ◌≤◌, ◌<◌, ltb}
use Rattle.std.proofs.Math.Path.{refl, ap}
use Rattle.std.proofs.Common.{sym, ap₂, ◌∙◌, arith, add-zero, zero-add, drop_of_length-le, drop-cons, lt-ltb, le-ltb}
use mathlib.Core.List.{List, [], ◌∷◌, append-nil}
use Rattle.std.proofs.Math.ListN.{length}
use Rattle.flow.specs.Flow.{pick, Entry, Outcome, Done, Fault, One, byte_at}
use Rattle.flow.specs.Tests.{pick_true, pick_false}
use Rattle.scalar.specs.Scalars.{Floats}
use Rattle.record.specs.Model.Items.{Item, Known, start, Limits}
use Rattle.record.specs.Model.Reading.{value_from, message}
use Rattle.record.specs.Model.Rows.{Row, rows}
use Rattle.record.specs.Model.Answers.{ReadResult, Accept, Refuse, judged, read}
use Rattle.record.specs.Model.Answers.{answered}
use Rattle.record.specs.Model.Reading.{ending}
use Rattle.record.specs.ForReader.ReadingAt.{ReadingAt, ReadTo, RefusedAt, reading_of, run, front, on}
use Rattle.record.proofs.ForReader.ReadingAt.{run_bind}
use Rattle.record.specs.ForReader.ReadingAt.{marks, numbered}
use Rattle.record.proofs.ForReader.ReadingAt.{marks_length, numbered_length, numbered_marks}

-- ---- the end of the message
module _ (c : Known) (m : List ℕ) (p : ℕ) where
  pub ending_more : p < length m → run ending c m p ≡ RefusedAt 8 p
  unfolding run
  ending_more l = ap (λ (s : List ℕ). reading_of p (ending c p s)) (drop-cons m p 0 l)

  pub ending_end : length m ≤ p → run ending c m p ≡ ReadTo p tt [] c
  unfolding run
  ending_end l = ap (λ (s : List ℕ). reading_of p (ending c p s)) (drop_of_length-le m l)
      ∙ ap (λ (e : ℕ). ReadTo e tt [] c) (add-zero p)

-- ---- the answer, by what is read at the first place
abbrev answered_by : ℕ → ReadingAt One → ReadResult
answered_by lent (ReadTo e u rs c) = pick (ltb lent (length rs)) (Refuse 9 (length rs) 0) (Accept (numbered 0 rs) e)
answered_by lent (RefusedAt x o) = Refuse x 0 o

pub rows_length : (es : List (Entry Item)) → length (rows es) ≡ length es
rows_length es = ap length (sym (numbered_marks 0 es)) ∙ numbered_length 0 (marks es) ∙ marks_length es

answered_is : (lent : ℕ) (o : Outcome Known Item One) → answered lent o ≡ answered_by lent (reading_of 0 o)
answered_is lent (Done n u es c) =
    ap₂ (λ (k e : ℕ). pick (ltb lent k) (Refuse 9 k 0) (Accept (rows es) e)) (sym (marks_length es)) (sym (zero-add n))
    ∙ ap (λ (r : List Row). pick (ltb lent (length (marks es))) (Refuse 9 (length (marks es)) 0) (Accept r (0 + n)))
    (sym (numbered_marks 0 es))
answered_is lent (Fault x o) = refl

module _ (ℓ : Limits) (lent : ℕ) (m : List ℕ) where
  pub read_empty : length m ≡ 0 → read Floats ℓ lent m ≡ Refuse 1 0 0
  unfolding judged
  read_empty e = go m e
    where
      go : (m : List ℕ) → length m ≡ 0 → read Floats ℓ lent m ≡ Refuse 1 0 0
      go [] e = refl
      go (b ∷ m) e = absurd (omega arith)

  judged_by : 0 < length m
      → judged Floats ℓ m ≡ pick (ltb ℓ.longest (length m)) (Fault 1 0) (message Floats ℓ start 0 m)
  unfolding judged
  judged_by h = go m h
    where
      go : (m : List ℕ) → 0 < length m → judged Floats ℓ m ≡ pick (ltb ℓ.longest (length m)) (Fault 1 0)
          (message Floats ℓ start 0 m)
      go [] h = absurd (omega arith)
      go (b ∷ m) h = refl

  pub read_long : 0 < length m → ℓ.longest < length m → read Floats ℓ lent m ≡ Refuse 1 0 0
  read_long h s = ap (answered lent) (judged_by h ∙ pick_true _ _ (lt-ltb ℓ.longest (length m) s))

  module _ (h : 0 < length m) (s : length m ≤ ℓ.longest) where
    read_by : (o : ReadingAt One) → run (byte_at (value_from Floats ℓ ℓ.containers)) start m 0 ≡ o
        → read Floats ℓ lent m ≡ answered_by lent (on o (λ e u c. run ending c m e))
    unfolding message run
    read_by o q =
        ap (answered lent) (judged_by h ∙ pick_false _ _ (le-ltb ℓ.longest (length m) s))
        ∙ answered_is lent (message Floats ℓ start 0 m)
        ∙ ap (answered_by lent) (run_bind (byte_at (value_from Floats ℓ ℓ.containers)) (λ u. ending) start m 0
        ∙ ap (λ (o : ReadingAt One). on o (λ e u c. run ending c m e)) q)

    pub read_lost : (x o : ℕ) → run (byte_at (value_from Floats ℓ ℓ.containers)) start m 0 ≡ RefusedAt x o
        → read Floats ℓ lent m ≡ Refuse x 0 o
    read_lost x o q = read_by (RefusedAt x o) q

    module _ (e : ℕ) (rs : List Row) (c : Known) (q : run (byte_at (value_from Floats ℓ ℓ.containers)) start m 0
        ≡ ReadTo e tt rs c) where
      pub read_over : e < length m → read Floats ℓ lent m ≡ Refuse 8 0 e
      read_over l =
          read_by (ReadTo e tt rs c) q ∙ ap (λ (o : ReadingAt One). answered_by lent (front rs o)) (ending_more c m e l)

      read_all : length m ≤ e → read Floats ℓ lent m ≡ pick (ltb lent (length rs)) (Refuse 9 (length rs) 0)
          (Accept (numbered 0 rs) e)
      read_all l =
          read_by (ReadTo e tt rs c) q
          ∙ ap (λ (o : ReadingAt One). answered_by lent (front rs o)) (ending_end c m e l)
          ∙ ap (λ (l : List Row). answered_by lent (ReadTo e tt l c)) (append-nil rs)

      pub read_small : length m ≤ e → lent < length rs → read Floats ℓ lent m ≡ Refuse 9 (length rs) 0
      read_small l w = read_all l ∙ pick_true _ _ (lt-ltb lent (length rs) w)

      pub read_got : length m ≤ e → length rs ≤ lent → read Floats ℓ lent m ≡ Accept (numbered 0 rs) e
      read_got l w = read_all l ∙ pick_false _ _ (le-ltb lent (length rs) w)

-- 2026-06, for the reader's code: the lengths of the rows read, by either rule of 5f, add up to the length of the
-- record's shortest message, which fits 64 bits.
use Rattle.std.specs.Prelude.{◌≡◌, refl, List, [], ◌∷◌, map, ℕ, suc, ◌+◌, ◌*◌, ◌^◌, ◌≤◌, ◌<◌, length}
use Rattle.std.proofs.Common.{sym, ap, ◌∙◌, arith, le-ltb}
use Rattle.flow.specs.Flow.{Bytes, Outcome, Done, Fault, One, byte_at}
use Rattle.flow.specs.Tests.{pick_false}
use Rattle.scalar.specs.Scalars.{DoubleRule, Floats, Thousandths, total}
use Rattle.record.specs.Model.Items.{Item, Known, start, Limits}
use Rattle.record.specs.Model.Reading.{value_from}
use Rattle.record.specs.Model.Rows.{Row, rows}
use Rattle.record.specs.Model.Answers.{ReadResult, Accept, Refuse, judged, answered, read, read_numbers}
use Rattle.record.specs.Model.Answers.{shortest_length}
use Rattle.record.specs.Model.Terms.{row_in_thousandths}
use Rattle.record.proofs.Laws.Bounds.{read_count}
use Rattle.record.specs.Laws.RowLengths.{row_length, length_under}
use Rattle.record.proofs.Laws.RowLengths.{under_moved, under_most}
use Rattle.record.proofs.Laws.ThousandthRows.{result_in_thousandths, read_in_thousandths_law}
use Rattle.record.specs.ForReader.ReadingAt.{ReadTo, run, numbered}
use Rattle.record.proofs.ForReader.ReadingAt.{numbered_length}
use Rattle.record.proofs.ForReader.ReadMessages.{read_got}
use Rattle.record.proofs.Theorems.AnswerTheorems.{answer_holds}
use Rattle.record.proofs.Theorems.LengthTheorems.{rows_measured, faulty_length, main_no_longer}

module _ (m : List ℕ) where
  -- the numbers of rows play no part
  lengths_numbered : (ρ : DoubleRule) (k : ℕ) (rs : List Row)
      → total (map (length_under ρ m) (numbered k rs)) ≡ total (map (length_under ρ m) rs)
  lengths_numbered ρ k [] = refl
  lengths_numbered ρ k (x ∷ rs) = omega (arith, under_moved ρ m x (k + x.after), lengths_numbered ρ (suc k) rs)

  lengths_in_thousandths : (rs : List Row)
      → total (map (length_under Thousandths m) rs) ≡ total (map (row_length m) (map (row_in_thousandths m) rs))
  lengths_in_thousandths [] = refl
  lengths_in_thousandths (x ∷ rs) = omega (arith, lengths_in_thousandths rs)

  lengths_most : (ρ : DoubleRule) (rs : List Row)
      → total (map (length_under ρ m) rs) ≤ 9 * length rs + total (map (row_length m) rs)
  lengths_most ρ [] = omega arith
  lengths_most ρ (x ∷ rs) = omega (arith, under_most ρ m x, lengths_most ρ rs)

-- ---- a message read to its end
module _ (ρ : DoubleRule) (ℓ : Limits) (open_from : ℕ) (most : open_from ≤ 48) (small : ℓ.longest < 2 ^ 60)
    (m : List ℕ) (bytes : Bytes m) (some_bytes : 0 < length m) (fits : length m ≤ ℓ.longest)
    (rs : List Row) (c : Known)
    (q : run (byte_at (value_from Floats ℓ ℓ.containers)) start m 0 ≡ ReadTo (length m) tt rs c) where
  -- by the main rule, with rows enough
  got : read Floats ℓ (length rs) m ≡ Accept (numbered 0 rs) (length m)
  got = read_got ℓ (length rs) m some_bytes fits (length m) rs c q (omega arith) (omega arith)

  rows_under : (ρ : DoubleRule) → total (map (length_under ρ m) (numbered 0 rs)) ≡ shortest_length ρ ℓ open_from m
  rows_under Floats =
      let x = answer_holds Floats ℓ (length rs) m bytes (numbered 0 rs) (length m) got in
      ap (λ (l : List Row). total (map (row_length m) l)) x.holds
      ∙ rows_measured Floats ℓ open_from most m bytes x.the_record x.accepts
  rows_under Thousandths =
      let retold = read_in_thousandths_law m ℓ (length rs) ∙ ap (result_in_thousandths m ℓ) got in
      let x = answer_holds Thousandths ℓ (length rs) m bytes (map (row_in_thousandths m) (numbered 0 rs)) (length m)
      retold in
      lengths_in_thousandths m (numbered 0 rs)
      ∙ ap (λ (l : List Row). total (map (row_length m) l)) x.holds
      ∙ rows_measured Thousandths ℓ open_from most m bytes x.the_record x.accepts

  length_is : (ρ : DoubleRule) → total (map (length_under ρ m) rs) ≡ shortest_length ρ ℓ open_from m
  length_is ρ = sym (lengths_numbered m ρ 0 rs) ∙ rows_under ρ

  -- by the main rule at most as many bytes as the message has, and at most nine more a row
  length_fits : total (map (length_under ρ m) rs) < 2 ^ 64
  length_fits =
      let count : length rs ≤ length m = omega (
        arith,
        ap (λ (a : ReadResult). (read_numbers a).count) got,
        numbered_length 0 rs,
        read_count Floats ℓ (length rs) m bytes,
      ) in
      let main : total (map (row_length m) rs) ≤ length m = omega (
        arith,
        length_is Floats,
        main_no_longer ℓ open_from most m bytes,
      ) in
      omega (arith, lengths_most m ρ rs)

  pub length_read_law : (total (map (length_under ρ m) rs) ≡ shortest_length ρ ℓ open_from m)
      × (total (map (length_under ρ m) rs) < 2 ^ 64)
  length_read_law = (length_is ρ, length_fits)

-- ---- a refused message
module _ (ρ : DoubleRule) (ℓ : Limits) (open_from : ℕ) (m : List ℕ) (x o : ℕ)
    (h : (lent : ℕ) → read Floats ℓ lent m ≡ Refuse x 0 o) where
  -- it is refused by either rule
  refused_under : (ρ : DoubleRule) (lent : ℕ) → read ρ ℓ lent m ≡ Refuse x 0 o
  refused_under Floats lent = h lent
  refused_under Thousandths lent = read_in_thousandths_law m ℓ lent ∙ ap (result_in_thousandths m ℓ) (h lent)

  pub length_refused : shortest_length ρ ℓ open_from m ≡ 0
  length_refused = go (judged ρ ℓ m) refl
    where
      go : (z : Outcome Known Item One) → judged ρ ℓ m ≡ z → shortest_length ρ ℓ open_from m ≡ 0
      go (Fault y p) e = faulty_length ρ ℓ open_from m y p e
      go (Done n u es c) e =
          let a : read ρ ℓ (length es) m ≡ Accept (rows es) n =
          ap (answered (length es)) e ∙ pick_false _ _ (le-ltb (length es) (length es) (omega arith)) in
          let b = refused_under ρ (length es) in
          let z : ◌≡◌ {A = ℕ} 0 1 = cc in
          absurd (omega arith)

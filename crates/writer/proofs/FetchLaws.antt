-- The rows of a lent table: how many there are, which stands at an index, and which item it claims.
use mathlib.Core.Path.{◌≡◌, refl, sym, ap, subst, ◌∙◌}
use mathlib.Core.Bool.{Bool, true, false}
use mathlib.Core.List.{List}
use mathlib.Core.Option.{Option, none, some}
use Prim.Native.Nat.{ℕ, zero, suc, ◌+◌, ◌-◌, ◌*◌, ◌^◌, ◌≤◌, ◌<◌}
use native.Mathlib.Nat.{zero-mul, suc-mul}
use native.Mathlib.Omega.{arith}
use lib.Dec.{eqb, ltb}
use lib.ListN.{length, take, drop, get_or}
use lib.Seq.{drop-drop}
use mir.Syntax.{w64}
use mir.Val.{Fits}
use borrow.Author.Tests.{le-ltb, eq-eqb, ne_eqb, eqb-true, eqb-false}
use mathlib.Core.Logic.{◌⊎◌, inl, inr}
use Rattle.std.specs.Prelude.{Result, Ok, Err}
use Rattle.flow.specs.Flow.{pick}
use Rattle.flow.specs.Tests.{pick_true, pick_false, within_yes, within_below, within_above}
use Rattle.record.specs.Model.Items.{Item}
use Rattle.record.specs.Model.Rows.{Row, row, item_row}
use Rattle.record.specs.Model.Answers.{Layout, rows_of}
use Rattle.record.specs.Model.Claims.{content_at}
use Rattle.record.specs.Laws.Claimed.{item_at}
use Rattle.record.specs.Laws.RowLaws.{row_of}
use Rattle.record.specs.Laws.TableLaws.{row_in_table}
use Rattle.record.proofs.Laws.Claimed.{claims_back}
use Rattle.record.specs.ForWriter.WritingAt.{plainly, claim_at, row_at, At, End, WritingAt}
use Rattle.record.proofs.ForWriter.WritingAt.{claimed_few, row_at_law, row_none, row_end}
use Rattle.record.specs.declared.Row as code
use Rattle.record.specs.declared.known.Known as given
use Rattle.writer.specs.declared.progress.NoRecord.{NoRecord}
use Rattle.writer.specs.declared.progress.Progress.{Progress}
use Rattle.writer.specs.Lent.{Lent, lent_of}
use Rattle.writer.specs.Promises.{items_of, RowIs, FetchMet}

-- ---- the rows of a table, in order
module _ (L : Layout) where
  pub rows_counted : (n : ℕ) (t : List ℕ) → length (rows_of L n t) ≡ n
  unfolding rows_of
  rows_counted zero t = refl
  rows_counted (suc n) t = ap suc (rows_counted n (drop L.width t))

  pub row_of_law : (n k : ℕ) (t : List ℕ) → k < n → (x : Row)
      → get_or (rows_of L n t) k x ≡ row_in_table L t k
  unfolding rows_of
  row_of_law zero k t h x = absurd (omega arith)
  row_of_law (suc n) zero t h x = ap (λ (j : ℕ). L.decode (take L.width (drop j t))) (sym (zero-mul L.width))
  row_of_law (suc n) (suc k) t h x =
      let e : L.width + k * L.width ≡ suc k * L.width = omega (arith, suc-mul k L.width) in
      row_of_law n k (drop L.width t) (omega arith) x
      ∙ ap (λ (l : List ℕ). L.decode (take L.width l)) (drop-drop (k * L.width) L.width t
      ∙ ap (λ (j : ℕ). drop j t) e)

module _ (L : Layout) (source t : List ℕ) (n k : ℕ) where
  abbrev All : Lent
  All = lent_of L source t n

  pub fetch_end : (e : NoRecord) → n ≤ k → FetchMet All k (Err e)
  fetch_end e h = record { says = λ l. row_end (content_at source) All.rows k (omega (arith, rows_counted L n t)) }

  module _ (r : code.Row) (h : k < n) (e : row_of r ≡ row_in_table L t k) (z : Bool)
      (p : z ≡ plainly k (row_of r)) where
    inside : k < length All.rows
    inside = omega (arith, rows_counted L n t)

    there : row_at All.rows k ≡ row_of r
    there = row_of_law L n k t h (row 0 0 0 0 0) ∙ sym e

    -- its fifth number may be right
    pub fetch_row : k + 1 < 2 ^ 64 → z ≡ true → FetchMet All k (Ok r)
    fetch_row room y = record {
      says = λ l.
          let same = ap (claim_at (content_at source) k) there ∙ pick_true _ _ (sym p ∙ y) in (
            room,
            there,
            record {
              item = λ i x. row_at_law (content_at source) All.rows k inside l i (same ∙ x);
              lost = λ x. row_none (content_at source) All.rows k inside l (same ∙ x);
            },
          );
    }

    -- it is not
    pub fetch_wrong : (e : NoRecord) → z ≡ false → FetchMet All k (Err e)
    fetch_wrong e y = record {
      says = λ l.
          row_none (content_at source) All.rows k inside l (ap (claim_at (content_at source) k) there
          ∙ pick_false _ _ (sym p ∙ y));
    }

-- ---- the fifth number of a row
module _ (r : code.Row) (k : ℕ) where
  kind_other : (r.kind < 9) ⊎ (13 < r.kind)
      → plainly k (row_of r) ≡ pick (eqb r.kind 15) (eqb r.after (k + 2 + r.first)) (eqb r.after (k + 1))
  kind_other (inl a) = pick_false _ _ (within_below 9 14 r.kind a)
  kind_other (inr a) = pick_false _ _ (within_above 9 14 r.kind (omega arith))

  pub plainly_held : 9 ≤ r.kind → r.kind ≤ 13 → true ≡ plainly k (row_of r)
  plainly_held a b = sym (pick_true _ _ (within_yes 9 14 r.kind a (omega arith)))

  pub plainly_single : (r.kind < 9) ⊎ (13 < r.kind) → (r.kind ≡ 15 → ⊥) → eqb r.after (k + 1) ≡ plainly k (row_of r)
  plainly_single a d = sym (kind_other a ∙ pick_false _ _ (ne_eqb r.kind 15 d))

  module _ (e : r.kind ≡ 15) where
    defines : plainly k (row_of r) ≡ eqb r.after (k + 2 + r.first)
    defines = kind_other (inr (omega arith)) ∙ pick_true _ _ (eq-eqb r.kind 15 e)

    pub plainly_short : r.after ≤ k + 1 → ltb (k + 1) r.after ≡ plainly k (row_of r)
    plainly_short l = le-ltb (k + 1) r.after l ∙ sym (defines ∙ ne_eqb r.after (k + 2 + r.first) (λ q. omega arith))

    pub plainly_defined : k + 1 < r.after → eqb (r.after - (k + 1) - 1) r.first ≡ plainly k (row_of r)
    plainly_defined l = sym (defines ∙ go (eqb (r.after - (k + 1) - 1) r.first) refl)
      where
        go : (z : Bool) → eqb (r.after - (k + 1) - 1) r.first ≡ z → eqb r.after (k + 2 + r.first) ≡ z
        go true q = eq-eqb r.after (k + 2 + r.first) (omega (arith, eqb-true (r.after - (k + 1) - 1) r.first q))
        go false q =
            ne_eqb r.after (k + 2 + r.first) (λ p. let x = eqb-false (r.after - (k + 1) - 1) r.first q in
            x (omega arith))

-- an item of the row's kind, or the end
pub stands_either : {source : List ℕ} {r : code.Row} {is : List Item} {k : ℕ} → RowIs source r is k → {P : Type 0}
    → ((i : Item) → (item_row r.place r.after i).kind ≡ r.kind → At is k i → P) → (End is k → P) → P
stands_either {source} {r} s {P} f g = go (item_at (content_at source) (row_of r)) refl
  where
    go : (o : Option Item) → item_at (content_at source) (row_of r) ≡ o → P
    go none e = g (s.lost e)
    go (some i) e = f i (ap (λ (x : Row). x.kind) (claims_back (content_at source) (row_of r) i e).agrees) (s.item i e)

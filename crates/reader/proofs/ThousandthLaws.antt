-- What the contracts of `thousandths` ask: a row by itself, and a row more.
use Rattle.std.proofs.Common.{◌≡◌, ℕ, ◌+◌, ◌*◌, ◌/◌, ◌^◌, zero, suc, ◌<◌, ◌≤◌, Bool, true, false, ◌&&◌, eqb, List, [], ◌∷◌, length, get_or, take, drop, sym, refl, ap, ◌∙◌, subst, arith, w32, to_z, eq-eqb, ne_eqb, le-leb}
use borrow.Author.Tests.{lt-leb}
use Rattle.std.proofs.Math.Nat.{le-div_iff_mul-le}
use Rattle.flow.specs.Flow.{put}
use Rattle.flow.specs.Tests.{pick_true, pick_false}
use Rattle.flow.specs.OverlayLaws.{length_put}
use Rattle.wire.specs.BigEndian.{joined}
use Rattle.scalar.specs.Scalars.{thousandths}
use Rattle.record.specs.Model.Rows.{Row, row}
use Rattle.record.specs.Model.Answers.{Layout, lent_rows}
use Rattle.record.specs.Model.Calls.{Fits, Keeps}
use Rattle.record.specs.Model.Terms.{first_in_thousandths, row_in_thousandths}
use Rattle.record.specs.Laws.TableLaws.{row_in_table}
use Rattle.record.specs.ForReader.Retelling.{HeldRows}
use Rattle.record.proofs.ForReader.Retelling.{retold_to, retold_start, retold_row, retold_next, retold_all, held_room}
use Rattle.reader.specs.Promises.{Retold}

-- ---- a row's first number, by the tests
module _ (m : List ℕ) (x : Row) where
  and_false : (b : Bool) → (b && false) ≡ false
  and_false true = refl
  and_false false = refl

  pub first_other : (x.kind ≡ 5 → ⊥) → x.first ≡ first_in_thousandths m x
  first_other h = sym (pick_false _ _ (rw (ne_eqb x.kind 5 h) refl))

  pub first_cut : length m < x.place + 5 → x.first ≡ first_in_thousandths m x
  first_cut h =
      let e = lt-leb (x.place + 5) (length m) h in
      sym (pick_false _ _ (rw (e, and_false (eqb (get_or m x.place 0) 0x5f), and_false (eqb x.kind 5)) refl))

  pub first_byte : (get_or m x.place 0 ≡ 0x5f → ⊥) → x.first ≡ first_in_thousandths m x
  first_byte h = sym (pick_false _ _ (rw (ne_eqb (get_or m x.place 0) 0x5f h, and_false (eqb x.kind 5)) refl))

  pub first_five : x.kind ≡ 5 → x.place + 5 ≤ length m → get_or m x.place 0 ≡ 0x5f → (u v : ℕ)
      → u ≡ joined 0 (take 4 (drop (x.place + 1) m)) → v ≡ thousandths (to_z w32 u) → v ≡ first_in_thousandths m x
  first_five k l b u v d e =
      e ∙ ap (λ (n : ℕ). thousandths (to_z w32 n)) d ∙ sym (pick_true _ _ (rw (
        eq-eqb x.kind 5 k,
        eq-eqb (get_or m x.place 0) 0x5f b,
        le-leb (x.place + 5) (length m) l,
      ) refl))

-- ---- row after row: the first i are told
pub record Retelling (L : Layout) (keeps : Keeps L) (m T : List ℕ) (n : ℕ) (T' : List ℕ) (i : ℕ) : Type 0 where
  pub within : i ≤ n
  pub same : length T' ≡ length T
  pub rows_are : (x : HeldRows L T n) → T' ≡ retold_to L keeps m T n x i

-- a row takes numbers
layout_wide : (L : Layout) → Keeps L → 0 < L.width
layout_wide L keeps = go L.width refl
  where
    one : Row
    one = row 1 0 0 0 0

    none : Row
    none = row 0 0 0 0 0

    empty : (l : List ℕ) → length l ≡ 0 → l ≡ []
    empty [] e = refl
    empty (x ∷ l) e = absurd (omega arith)

    fits : (k : ℕ) → k < 2 ^ 64 → Fits (row k 0 0 0 0)
    fits k l = record {
      kind = l;
      place = omega arith;
      first = omega arith;
      second = omega arith;
      after = omega arith;
    }

    go : (w : ℕ) → L.width ≡ w → 0 < L.width
    go zero e =
        let same : one ≡ none =
        sym (keeps.again one (fits 1 (omega arith)))
        ∙ ap L.decode (empty (L.encode one) (keeps.sized one ∙ e) ∙ sym (empty (L.encode none) (keeps.sized none ∙ e)))
        ∙ keeps.again none (fits 0 (omega arith)) in
        let z : ◌≡◌ {A = ℕ} 1 0 = ap (λ (r : Row). r.kind) same in
        absurd (omega arith)
    go (suc w) e = omega arith

module _ (L : Layout) (keeps : Keeps L) (m T : List ℕ) (n : ℕ) where
  pub retelling_start : Retelling L keeps m T n T 0
  retelling_start = record { within = omega arith; same = refl; rows_are = λ x. retold_start L keeps m T n x }

  module _ {T' : List ℕ} {i : ℕ} (R : Retelling L keeps m T n T' i) (h : i < n) where
    pub retelling_next : (r s : Row) → r ≡ row_in_table L T' i → s ≡ row_in_thousandths m r → (T'' : List ℕ)
        → T'' ≡ put L.width L.encode T' i s → Retelling L keeps m T n T'' (i + 1)
    retelling_next r s d e T'' f = record {
      within = omega arith;
      same = ap length f ∙ length_put L.width L.encode keeps.sized T' i s ∙ R.same;
      rows_are = λ x.
          let q = R.rows_are x in
          let a : r ≡ get_or x.held i (row 0 0 0 0 0) =
          d ∙ ap (λ (l : List ℕ). L.decode (take L.width (drop (i * L.width) l))) q
          ∙ retold_row L keeps m T n x i h in
          f ∙ ap (λ (l : List ℕ). put L.width L.encode l i s) q
          ∙ retold_next L keeps m T n x i h s (e ∙ ap (row_in_thousandths m) a);
    }

    -- a table without this row does not hold n of them
    pub retelling_off : lent_rows L T' ≤ i → Retelling L keeps m T n T' (i + 1)
    retelling_off l = record {
      within = omega arith;
      same = R.same;
      rows_are = λ x.
          let lent : n ≤ length T / L.width = (le-div_iff_mul-le (layout_wide L keeps)).1 (held_room L keeps T n x) in
          let same : length T' / L.width ≡ length T / L.width = ap (λ (z : ℕ). z / L.width) R.same in
          absurd (omega arith);
    }

  pub retelling_end : {T' : List ℕ} {i : ℕ} → Retelling L keeps m T n T' i → n ≤ i → Retold L m T n T'
  retelling_end {T'} {i} R h = record {
    retold = λ x.
        let e : i ≡ n = omega (arith, R.within) in
        subst (λ (j : ℕ). T' ≡ retold_to L keeps m T n x j) e (R.rows_are x) ∙ retold_all L keeps m T n x;
  }

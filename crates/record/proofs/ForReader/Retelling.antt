-- 2026-11, for the reader's code: a table that holds rows by the main rule, row after row in thousandths. One law over
-- the layout.
use Rattle.std.specs.Prelude.{◌≡◌, refl, ℕ, zero, suc, ◌+◌, ◌*◌, ◌^◌, ◌≤◌, ◌<◌}
use Rattle.std.proofs.Math.Path.{sym, ap, subst}
use Rattle.std.proofs.Common.{◌∙◌, zero-add, zero-mul, suc-mul, le_trans, mul-le-mul_right, div-mul-le_self, add-one, arith, length-take-le, drop-drop}
use mathlib.Core.List.{List, [], ◌∷◌, ◌++◌, map}
use Rattle.std.proofs.Math.ListN.{length, take, drop, get_or, length-map}
use Rattle.std.proofs.Math.Seq.{take-suc, take-length}
use Rattle.flow.specs.Flow.{Report, put, overlay}
use Rattle.flow.specs.Retellings.{map_append}
use Rattle.flow.specs.OverlayLaws.{flat, overlay_none, overlay_one, overlay_append, overlay_past, overlay_flat}
use Rattle.flow.specs.OverlayLaws.{length_overlay}
use Rattle.scalar.specs.Scalars.{Floats, Thousandths}
use Rattle.record.specs.Model.Items.{Item, Limits}
use Rattle.record.specs.Model.Rows.{Row, row, rows}
use Rattle.record.specs.Model.Answers.{Layout, ReadResult, Accept, Refuse, lent_rows, rows_of, filled, read}
use Rattle.record.specs.Model.Answers.{read_numbers}
use Rattle.record.specs.Model.Calls.{ReadCall, Keeps}
use Rattle.record.specs.Model.Terms.{row_in_thousandths, Accepts}
use Rattle.record.proofs.Laws.TableLaws.{rows_again, all_kept}
use Rattle.record.proofs.Laws.Widths.{rows_fit}
use Rattle.record.proofs.Laws.ThousandthRows.{result_in_thousandths, read_in_thousandths_law, report_in_thousandths}
use Rattle.record.proofs.Laws.Refusals.{located_numbered}
use Rattle.record.proofs.ForReader.ReadMessages.{rows_length}
use Rattle.record.proofs.Theorems.RowTheorems.{judged_done}
use Rattle.record.proofs.Theorems.CallCases.{answer, ReadCases, misfit, faulty, few_rows, whole, read_cases}
use Rattle.record.specs.ForReader.Retelling.{HeldRows}

abbrev blank : Row
blank = row 0 0 0 0 0

-- the row i of a table is the one that its numbers are
row_nth : (L : Layout) (n : ℕ) (t : List ℕ) (i : ℕ) → i < n
    → L.decode (take L.width (drop (i * L.width) t)) ≡ get_or (rows_of L n t) i blank
unfolding rows_of
row_nth L zero t i h = absurd (omega arith)
row_nth L (suc n) t zero h =
    ap (λ (k : ℕ). L.decode (take L.width (drop k t))) (zero-mul L.width)
row_nth L (suc n) t (suc i) h =
    let k : suc i * L.width ≡ L.width + i * L.width = suc-mul i L.width ∙ omega arith in
    ap (λ (j : ℕ). L.decode (take L.width (drop j t))) k
    ∙ ap (λ (l : List ℕ). L.decode (take L.width l)) (sym (drop-drop (i * L.width) L.width t))
    ∙ row_nth L n (drop L.width t) i (omega arith)

module _ (L : Layout) (keeps : Keeps L) (T : List ℕ) (n : ℕ) (x : HeldRows L T n) where
  long : length T ≡ length x.under
  long = ap length x.is ∙ length_overlay L.width L.encode keeps.sized x.under 0 x.held

  room_for : (i : ℕ) → i ≤ n → i * L.width ≤ length T
  room_for i h =
      le_trans (mul-le-mul_right L.width (subst (λ (k : ℕ). i ≤ k) (sym x.count) h))
      (subst (λ (k : ℕ). length x.held * L.width ≤ k) (sym long) x.room)

module _ (L : Layout) (keeps : Keeps L) (m T : List ℕ) (n : ℕ) (x : HeldRows L T n) where
  -- the first i rows in thousandths
  pub retold_to : ℕ → List ℕ
  retold_to i = overlay L.width L.encode T 0 (map (row_in_thousandths m) (take i x.held))

  part : (i : ℕ) → i ≤ n → length (map (row_in_thousandths m) (take i x.held)) ≡ i
  part i h = length-map (take i x.held) (row_in_thousandths m) ∙ length-take-le i x.held (omega (arith, x.count))

  pub retold_start : T ≡ retold_to 0
  unfolding retold_to
  retold_start = sym (overlay_none L.width L.encode T 0)

  pub retold_length : (i : ℕ) → length (retold_to i) ≡ length T
  unfolding retold_to
  retold_length i =
      length_overlay L.width L.encode keeps.sized T 0 (map (row_in_thousandths m) (take i x.held))

  module _ (i : ℕ) (h : i < n) where
    -- the row i is still as it was
    pub retold_row : L.decode (take L.width (drop (i * L.width) (retold_to i))) ≡ get_or x.held i blank
    unfolding retold_to
    retold_row =
        let xs = map (row_in_thousandths m) (take i x.held) in
        let e : length xs ≡ i = part i (omega arith) in
        let past : drop (i * L.width) (overlay L.width L.encode T 0 xs) ≡ drop (i * L.width) T =
        subst (λ (k : ℕ). drop (k * L.width) (overlay L.width L.encode T 0 xs) ≡ drop (k * L.width) T) e
        (overlay_past L.width L.encode keeps.sized T xs
        (subst (λ (k : ℕ). k * L.width ≤ length T) (sym e) (room_for L keeps T n x i (omega arith)))) in
        let again : rows_of L (length x.held) T ≡ x.held =
        ap (rows_of L (length x.held)) x.is ∙ rows_again L keeps.sized x.held x.fit x.under
        x.room in
        ap (λ (l : List ℕ). L.decode (take L.width l)) past
        ∙ row_nth L (length x.held) T i (omega (arith, x.count))
        ∙ ap (λ (l : List Row). get_or l i blank) again

    pub retold_next : (r : Row) → r ≡ row_in_thousandths m (get_or x.held i blank)
        → put L.width L.encode (retold_to i) i r ≡ retold_to (i + 1)
    unfolding retold_to
    retold_next r d =
        let xs = map (row_in_thousandths m) (take i x.held) in
        let e : length xs ≡ i = part i (omega arith) in
        let y = row_in_thousandths m (get_or x.held i blank) in
        let joined : map (row_in_thousandths m) (take (i + 1) x.held) ≡ xs ++ (y ∷ []) =
        rw (add-one i, take-suc x.held i blank (omega (arith, x.count)))
        (map_append (row_in_thousandths m) (take i x.held) (get_or x.held i blank ∷ [])) in
        ap (put L.width L.encode (retold_to i) i) d
        ∙ subst (λ (k : ℕ). put L.width L.encode (overlay L.width L.encode T 0 xs) k y
        ≡ overlay L.width L.encode T 0 (xs ++ (y ∷ []))) (zero-add (length xs) ∙ e)
        (sym (overlay_one L.width L.encode keeps.sized (overlay L.width L.encode T 0 xs)
        (0 + length xs) y)
        ∙ overlay_append L.width L.encode keeps.sized T 0 xs (y ∷ []))
        ∙ ap (overlay L.width L.encode T 0) (sym joined)

  pub retold_all : retold_to n ≡ overlay L.width L.encode x.under 0 (map (row_in_thousandths m) x.held)
  unfolding retold_to
  retold_all =
      let ys = map (row_in_thousandths m) x.held in
      let k : length ys ≡ length x.held = length-map x.held (row_in_thousandths m) in
      let whole : take n x.held ≡ x.held = subst (λ (j : ℕ). take j x.held ≡ x.held) x.count
      (take-length x.held) in
      let past : drop (length ys * L.width) T ≡ drop (length ys * L.width) x.under =
      subst (λ (j : ℕ). drop (j * L.width) T ≡ drop (j * L.width) x.under) (sym k)
      (ap (drop (length x.held * L.width)) x.is
      ∙ overlay_past L.width L.encode keeps.sized x.under x.held x.room) in
      let fits : length ys * L.width ≤ length T =
      subst (λ (j : ℕ). j * L.width ≤ length T) (sym k)
      (subst (λ (j : ℕ). length x.held * L.width ≤ j) (sym (long L keeps T n x))
      x.room) in
      let under : length ys * L.width ≤ length x.under =
      subst (λ (j : ℕ). j * L.width ≤ length x.under) (sym k) x.room in
      ap (λ (l : List Row). overlay L.width L.encode T 0 (map (row_in_thousandths m) l)) whole
      ∙ overlay_flat L.width L.encode keeps.sized T ys fits
      ∙ ap (λ (l : List ℕ). flat L.width L.encode ys ++ l) past
      ∙ sym (overlay_flat L.width L.encode keeps.sized x.under ys under)

pub held_room : (L : Layout) → Keeps L → (T : List ℕ) (n : ℕ) → HeldRows L T n → n * L.width ≤ length T
held_room L keeps T n x = room_for L keeps T n x n (omega arith)

-- ---- a call by the main rule, and the same in thousandths
module _ (ℓ : Limits) (fits : ℓ.longest < 2 ^ 63) (L : Layout) (keeps : Keeps L)
    (m t : List ℕ) (a : Report) (t₁ : List ℕ) (g : ReadCall Floats ℓ L m t a t₁) where
  -- the report by what the main rule reads
  same_report : (z : ReadResult) → read Floats ℓ (lent_rows L t) m ≡ z
      → a ≡ read_numbers (read Thousandths ℓ (lent_rows L t) m)
  same_report z e =
      g.report ∙ ap read_numbers e
      ∙ sym (report_in_thousandths m ℓ z)
      ∙ ap read_numbers (ap (result_in_thousandths m ℓ) (sym e) ∙ sym (read_in_thousandths_law m ℓ (lent_rows L t)))

  same_table : (z : ReadResult) → read Floats ℓ (lent_rows L t) m ≡ z
      → filled L t (result_in_thousandths m ℓ z) ≡ filled L t (read Thousandths ℓ (lent_rows L t) m)
  same_table z e =
      ap (filled L t) (ap (result_in_thousandths m ℓ) (sym e) ∙ sym (read_in_thousandths_law m ℓ (lent_rows L t)))

  -- a refusal is the same
  pub refused_call : (a.number ≡ 0 → ⊥) → ReadCall Thousandths ℓ L m t a t₁
  refused_call h = go (read Floats ℓ (lent_rows L t) m) refl
    where
      go : (z : ReadResult) → read Floats ℓ (lent_rows L t) m ≡ z → ReadCall Thousandths ℓ L m t a t₁
      go (Accept rs n) e = absurd (h (ap (λ (r : Report). r.number) (g.report ∙ ap read_numbers e)))
      go (Refuse x k o) e = record {
        bytes = g.bytes;
        report = same_report (Refuse x k o) e;
        table = g.table ∙ ap (filled L t) e ∙ same_table (Refuse x k o) e;
      }

  -- an accepted message's rows are held, and in thousandths they are those of the other rule
  module _ (r : List Item) (x : Accepts Floats ℓ m r) (h : length x.entries ≤ lent_rows L t)
      (e : a ≡ answer 0 (length (rows x.entries)) (length m))
      (q : read Floats ℓ (lent_rows L t) m ≡ Accept (rows x.entries) (length m)) where
    held_rows : HeldRows L t₁ a.count
    held_rows =
        let short = (judged_done Floats ℓ m (length m) x.entries x.known x.done).0 in
        record {
          under = t;
          held = rows x.entries;
          count = sym (ap (λ (r : Report). r.count) e);
          fit = all_kept keeps (rows x.entries) (rows_fit Floats ℓ m g.bytes (omega arith) r x);
          room = le_trans (mul-le-mul_right L.width (omega (arith, h, rows_length x.entries)))
              (div-mul-le_self (length t) L.width);
          is = g.table ∙ ap (filled L t) q;
        }

    retold_call : (t₂ : List ℕ)
        → t₂ ≡ overlay L.width L.encode t 0 (map (row_in_thousandths m) (rows x.entries))
        → ReadCall Thousandths ℓ L m t a t₂
    retold_call t₂ d = record {
      bytes = g.bytes;
      report = same_report (Accept (rows x.entries) (length m)) q;
      table = d ∙ same_table (Accept (rows x.entries) (length m)) q;
    }

  module _ (z : a.number ≡ 0) where
    by_whole : {P : Type 0}
        → ((r : List Item) (x : Accepts Floats ℓ m r) → length x.entries ≤ lent_rows L t
        → a ≡ answer 0 (length (rows x.entries)) (length m)
        → read Floats ℓ (lent_rows L t) m ≡ Accept (rows x.entries) (length m) → P) → P
    by_whole {P} k = go (read_cases Floats ℓ L m t a t₁ g)
      where
        go : ReadCases Floats ℓ L m t a t₁ g → P
        go (misfit h e u) = absurd (omega (arith, ap (λ (r : Report). r.number) e))
        go (faulty x o h e u) = absurd (omega (arith, (located_numbered h).0, ap (λ (r : Report). r.number) e))
        go (few_rows r x h e u) = absurd (omega (arith, ap (λ (r : Report). r.number) e))
        go (whole r x h e q) = k r x h e q

    pub accepted_held : HeldRows L t₁ a.count
    accepted_held = by_whole held_rows

    pub accepted_call : (t₂ : List ℕ)
        → ((x : HeldRows L t₁ a.count)
        → t₂ ≡ overlay L.width L.encode x.under 0 (map (row_in_thousandths m) x.held))
        → ReadCall Thousandths ℓ L m t a t₂
    unfolding held_rows
    accepted_call t₂ d = by_whole (λ r x h e q. retold_call r x h e q t₂ (d (held_rows r x h e q)))

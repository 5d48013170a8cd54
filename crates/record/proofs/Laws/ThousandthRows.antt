-- 2026-11: the rows of a message in thousandths are those of the main rule, each in thousandths; and what the reader
-- answers.
use Rattle.std.specs.Prelude.{◌≡◌, ℕ, suc, ◌+◌, length}
use Rattle.std.proofs.Math.Path.{refl, sym, ap}
use Rattle.std.proofs.Common.{◌∙◌}
use mathlib.Core.List.{List, [], ◌∷◌, map}
use Rattle.std.proofs.Math.Dec.{ltb}
use Rattle.std.proofs.lemmas.List.{length-map}
use Rattle.flow.specs.Flow.{pick, Entry, Outcome, Done, Fault, One}
use Rattle.flow.specs.Tests.{pick_false, pick_through}
use Rattle.flow.specs.Retellings.{retold}
use Rattle.scalar.specs.declared.Encoding.TheVariants.{Utf8, Binary}
use Rattle.scalar.specs.Scalars.{Floats, Thousandths, Num, Str}
use Rattle.scalar.proofs.UnderRules.{in_thousandths_is}
use Rattle.record.specs.Model.Items.{Leaf, UntypedList, TypedList, UntypedMap, TypedMap, Object, Reference}
use Rattle.record.specs.Model.Items.{Item, Val, Definition, ClassName, FieldName, TypeName, TypeNumber}
use Rattle.record.specs.Model.Items.{Known, start, Limits}
use Rattle.record.specs.Model.Reading.{message}
use Rattle.record.specs.Model.Rows.{Row, row, item_row, rows_from, rows}
use Rattle.record.specs.Model.Answers.{ReadResult, Accept, Refuse, judged, answered, read, read_numbers}
use Rattle.record.specs.Model.Answers.{length_answered}
use Rattle.record.specs.Model.Terms.{first_in_thousandths, row_in_thousandths}
use Rattle.record.proofs.Laws.InThousandths.{item_in_thousandths, entry_in_thousandths, message_in_thousandths}

module _ (m : List ℕ) where
  -- a row that is no double's stays
  kept : (x : Row) → first_in_thousandths m x ≡ x.first → x ≡ row_in_thousandths m x
  kept x e = ap (λ (v : ℕ). row x.kind x.place v x.second x.after) (sym e)

  item_row_law : (p e : ℕ) (i : Item) → item_row p e (item_in_thousandths m p i) ≡ row_in_thousandths m (item_row p e i)
  item_row_law p e (Val (Leaf (Num s v))) =
      ap (λ (n : ℕ). item_row p e (Val (Leaf (Num s n)))) (in_thousandths_is m p s v)
  item_row_law p e (Val (Leaf (Str Utf8 cs))) = kept _ (pick_false _ _ refl)
  item_row_law p e (Val (Leaf (Str Binary cs))) = kept _ (pick_false _ _ refl)
  item_row_law p e (Val (UntypedList n)) = kept _ (pick_false _ _ refl)
  item_row_law p e (Val (TypedList n t)) = kept _ (pick_false _ _ refl)
  item_row_law p e (Val (UntypedMap n)) = kept _ (pick_false _ _ refl)
  item_row_law p e (Val (TypedMap n t)) = kept _ (pick_false _ _ refl)
  item_row_law p e (Val (Object k n)) = kept _ (pick_false _ _ refl)
  item_row_law p e (Val (Reference k)) = kept _ (pick_false _ _ refl)
  item_row_law p e (Definition n) = kept _ (pick_false _ _ refl)
  item_row_law p e (ClassName cs) = kept _ (pick_false _ _ refl)
  item_row_law p e (FieldName cs) = kept _ (pick_false _ _ refl)
  item_row_law p e (TypeName cs) = kept _ (pick_false _ _ refl)
  item_row_law p e (TypeNumber k) = kept _ (pick_false _ _ refl)

  rows_in_thousandths : (k : ℕ) (es : List (Entry Item))
      → rows_from k (map (entry_in_thousandths m) es) ≡ map (row_in_thousandths m) (rows_from k es)
  rows_in_thousandths k [] = refl
  rows_in_thousandths k (e ∷ es) = λ i.
      item_row_law e.place (k + e.span) e.item i ∷ rows_in_thousandths (suc k) es i

  module _ (ℓ : Limits) where
    judged_in_thousandths : judged Thousandths ℓ m ≡ retold (entry_in_thousandths m) (judged Floats ℓ m)
    unfolding judged
    judged_in_thousandths = go m refl
      where
        go : (n : List ℕ) → m ≡ n → judged Thousandths ℓ n ≡ retold (entry_in_thousandths m) (judged Floats ℓ n)
        go [] e = refl
        go (b ∷ n) e =
            let long = ltb ℓ.longest (length (b ∷ n)) in
            ap (pick long (Fault 1 0)) (ap (message Thousandths ℓ start 0) (sym e) ∙ message_in_thousandths m ℓ
            ∙ ap (λ (w : List ℕ). retold (entry_in_thousandths m) (message Floats ℓ start 0 w)) e)
            ∙ sym (pick_through (retold (entry_in_thousandths m)) long (Fault 1 0) (message Floats ℓ start 0 (b ∷ n)))

    -- what the reader answers
    abbrev pub result_in_thousandths : ReadResult → ReadResult
    result_in_thousandths (Accept rs n) = Accept (map (row_in_thousandths m) rs) n
    result_in_thousandths (Refuse x k o) = Refuse x k o

    pub read_in_thousandths_law : (lent : ℕ) → read Thousandths ℓ lent m ≡ result_in_thousandths (read Floats ℓ lent m)
    read_in_thousandths_law lent = ap (answered lent) judged_in_thousandths ∙ go (judged Floats ℓ m)
      where
        go : (o : Outcome Known Item One)
            → answered lent (retold (entry_in_thousandths m) o) ≡ result_in_thousandths (answered lent o)
        go (Done n u es c) =
            let few = ltb lent (length es) in
            (λ i. pick (ltb lent (length-map es (entry_in_thousandths m) i))
            (Refuse 9 (length-map es (entry_in_thousandths m) i) 0) (Accept (rows_in_thousandths 0 es i) n))
            ∙ sym (pick_through result_in_thousandths few (Refuse 9 (length es) 0) (Accept (rows es) n))
        go (Fault x o) = refl

    -- so the report is the same
    pub report_in_thousandths : (z : ReadResult) → read_numbers (result_in_thousandths z) ≡ read_numbers z
    report_in_thousandths (Accept rs n) =
        ap (λ (k : ℕ). record { number = 0; count = k; place = n }) (length-map rs (row_in_thousandths m))
    report_in_thousandths (Refuse x k o) = refl

-- 2026-06: either rule accepts the same messages, with the same rows lent
pub length_in_thousandths : (m : List ℕ) (ℓ : Limits) (lent w : ℕ)
    → length_answered w (read Thousandths ℓ lent m) ≡ length_answered w (read Floats ℓ lent m)
length_in_thousandths m ℓ lent w =
    ap (length_answered w) (read_in_thousandths_law m ℓ lent) ∙ go (read Floats ℓ lent m)
  where
    go : (z : ReadResult) → length_answered w (result_in_thousandths m ℓ z) ≡ length_answered w z
    go (Accept rs n) = refl
    go (Refuse x k o) = refl

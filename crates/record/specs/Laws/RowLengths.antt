-- 2026-06: how many bytes of the shortest message are a row's own, by its numbers and, of texts and byte strings, by
-- what its place opens in the message. The laws are in proofs/Laws/RowLengths.antt, but for the two below.
use Rattle.std.specs.Prelude.{◌≡◌, cond, List, ℕ, suc, ◌≤◌, ◌<◌, ltb, eqb}
use Rattle.std.proofs.Common.{lt-ltb, le-ltb}
use Rattle.flow.specs.Flow.{pick, within}
use Rattle.scalar.specs.declared.Encoding.TheVariants.{Utf8, Binary}
use Rattle.scalar.specs.declared.Sort.TheVariants.{Null, False, True, Int, Long, Double, Date}
use Rattle.scalar.specs.Scalars.{DoubleRule, Floats, Thousandths, forms_of, shortest, shortest_int}
use Rattle.scalar.specs.Answers.{length_of}
use Rattle.scalar.specs.Answers.{item_form}
use Rattle.record.specs.Model.Kinds.{null_kind, false_kind, true_kind, int_kind, long_kind, double_kind}
use Rattle.record.specs.Model.Kinds.{text_kind, bytes_kind, list_kind, map_kind}
use Rattle.record.specs.Model.Kinds.{object_kind, reference_kind, class_name_kind}
use Rattle.record.specs.Model.Kinds.{type_number_kind}
use Rattle.record.specs.Model.Rows.{Row}
use Rattle.record.specs.Model.Claims.{is_text_kind}
use Rattle.record.specs.Model.Terms.{row_in_thousandths}

-- a list's code and count, or its code and 5a
abbrev pub list_length : ℕ → ℕ
list_length n = cond (ltb n 8) 1 2

-- an object's code, and its class where the code does not say it
abbrev pub object_length : ℕ → ℕ
object_length k = cond (ltb k 16) 1 (suc (length_of (shortest_int k)))

-- single values, by their kind
abbrev pub number_length : ℕ → ℕ → ℕ
number_length k v =
    pick (eqb k null_kind) (length_of (shortest (forms_of Null) v))
    (pick (eqb k false_kind) (length_of (shortest (forms_of False) v))
    (pick (eqb k true_kind) (length_of (shortest (forms_of True) v))
    (pick (eqb k int_kind) (length_of (shortest (forms_of Int) v))
    (pick (eqb k long_kind) (length_of (shortest (forms_of Long) v))
    (pick (eqb k double_kind) (length_of (shortest (forms_of Double) v))
    (length_of (shortest (forms_of Date) v)))))))

-- by the kind: a single value; a text or name; a byte string; a list; a map, which has its code and 5a; an object; a
-- reference or a class definition, which has its code and an int; a type number
unfoldable pub row_length : List ℕ → Row → ℕ
row_length m x =
    pick (ltb x.kind text_kind) (number_length x.kind x.first)
    (pick (is_text_kind x.kind) (length_of (item_form Utf8 m x.place))
    (pick (eqb x.kind bytes_kind) (length_of (item_form Binary m x.place))
    (pick (within list_kind map_kind x.kind) (list_length x.first)
    (pick (within map_kind object_kind x.kind) 2
    (pick (eqb x.kind object_kind) (object_length x.first)
    (pick (within reference_kind class_name_kind x.kind) (suc (length_of (shortest_int x.first)))
    (pick (eqb x.kind type_number_kind) (length_of (shortest_int x.first)) 0)))))))

-- a row that was read by the main rule, under either rule of 5f
abbrev pub length_under : DoubleRule → List ℕ → Row → ℕ
length_under Floats m x = row_length m x
length_under Thousandths m x = row_length m (row_in_thousandths m x)

-- ---- a list of up to seven elements has its count in its code
pub few_length : (n : ℕ) → n < 8 → list_length n ≡ 1
few_length n h = rw lt-ltb

pub more_length : (n : ℕ) → 8 ≤ n → list_length n ≡ 2
more_length n h = rw le-ltb

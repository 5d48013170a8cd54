-- The form of a first byte, by what the chart says that it opens.
use Rattle.std.specs.Prelude.{◌≡◌, refl, Bool, ◌&&◌, [], ◌∷◌, ℕ, ◌-◌, ◌<◌, T, eqb, get_or}
use Rattle.std.proofs.Common.{sym, ap, ◌∙◌, eqb→eq}
use Rattle.flow.specs.Flow.{pick}
use Rattle.flow.specs.Tests.{every, every_at, and_left, and_right}
use Rattle.scalar.specs.declared.Lead.{Lead}
use Rattle.scalar.specs.declared.Lead.TheVariants as lead
use Rattle.scalar.specs.declared.Sort.TheVariants as sort
use Rattle.scalar.specs.declared.Encoding.TheVariants.{Utf8, Binary}
use Rattle.scalar.specs.Scalars.{Scalar, Num, Str}
use Rattle.scalar.specs.Chart.{ranges, range_of, lead_of, kind_of}
use Rattle.scalar.proofs.ScalarLaws.{lead_for}
use Rattle.record.specs.Model.Items.{Leaf, Val}
use Rattle.record.specs.Model.Rows.{item_row}
use Rattle.record.specs.Model.Reading.{ValueHead, leaf, few, few_of_type, few_fields, counted, counted_typed_head}
use Rattle.record.specs.Model.Reading.{open_list_head, open_typed_head, open_map, typed_map_head, object, reference, head_of}

abbrev pub form_by : Lead → ℕ → ValueHead
form_by (lead.Number s) b = leaf
form_by lead.Text b = leaf
form_by lead.Bytes b = leaf
form_by lead.List b = pick (eqb b 0x57) open_list_head (pick (eqb b 0x58) counted (few (b - 0x78)))
form_by lead.TypedList b = pick (eqb b 0x55) open_typed_head (pick (eqb b 0x56) counted_typed_head (few_of_type (b - 0x70)))
form_by lead.Map b = open_map
form_by lead.TypedMap b = typed_map_head
form_by lead.Object b = pick (eqb b 0x4f) object (few_fields (b - 0x60))
form_by lead.Reference b = reference
form_by lead.Definition b = leaf
form_by lead.Close b = leaf
form_by lead.Reserved b = leaf

-- a form as two numbers
abbrev kind : ValueHead → ℕ
kind leaf = 0
kind (few n) = 1
kind (few_of_type n) = 2
kind (few_fields k) = 3
kind counted = 4
kind counted_typed_head = 5
kind open_list_head = 6
kind open_typed_head = 7
kind open_map = 8
kind typed_map_head = 9
kind object = 10
kind reference = 11

abbrev size : ValueHead → ℕ
size leaf = 0
size (few n) = n
size (few_of_type n) = n
size (few_fields k) = k
size counted = 0
size counted_typed_head = 0
size open_list_head = 0
size open_typed_head = 0
size open_map = 0
size typed_map_head = 0
size object = 0
size reference = 0

abbrev formed : ℕ → ℕ → ValueHead
formed k n = get_or (leaf ∷ few n ∷ few_of_type n ∷ few_fields n ∷ counted ∷ counted_typed_head ∷ open_list_head ∷ open_typed_head
    ∷ open_map ∷ typed_map_head ∷ object ∷ reference ∷ []) k leaf

formed_is : (x : ValueHead) → formed (kind x) (size x) ≡ x
formed_is leaf = refl
formed_is (few n) = refl
formed_is (few_of_type n) = refl
formed_is (few_fields k) = refl
formed_is counted = refl
formed_is counted_typed_head = refl
formed_is open_list_head = refl
formed_is open_typed_head = refl
formed_is open_map = refl
formed_is typed_map_head = refl
formed_is object = refl
formed_is reference = refl

abbrev same : ValueHead → ValueHead → Bool
same x y = eqb (kind x) (kind y) && eqb (size x) (size y)

same_is : (x y : ValueHead) → T (same x y) → x ≡ y
same_is x y t =
    let k : kind x ≡ kind y = eqb→eq (kind x) (kind y) (and_left (eqb (kind x) (kind y)) (eqb (size x) (size y)) t) in
    let n : size x ≡ size y = eqb→eq (size x) (size y) (and_right (eqb (kind x) (kind y)) (eqb (size x) (size y)) t) in
    sym (formed_is x) ∙ ap (λ (i : ℕ). formed i (size x)) k ∙ ap (λ (i : ℕ). formed (kind y) i) n ∙ formed_is y

all_same : T (every 256 (λ b. same (head_of b) (form_by (lead_of b) b)))
unfolding head_of lead_of range_of ranges pick
all_same = tt

-- what the chart says of a byte decides its form
pub form_lead : (b : ℕ) → b < 256 → (x : Lead) → lead_of b ≡ x → head_of b ≡ form_by x b
form_lead b l x h = same_is (head_of b) (form_by (lead_of b) b) (every_at 256
    (λ b. same (head_of b) (form_by (lead_of b) b)) all_same b l) ∙ ap (λ (y : Lead). form_by y b) h

-- the kind that the chart gives a scalar's first byte is the kind of its row
pub row_kind : (p e : ℕ) (x : Scalar) → (item_row p e (Val (Leaf x))).kind ≡ kind_of (lead_for x)
unfolding kind_of
row_kind p e (Num sort.Null v) = refl
row_kind p e (Num sort.False v) = refl
row_kind p e (Num sort.True v) = refl
row_kind p e (Num sort.Int v) = refl
row_kind p e (Num sort.Long v) = refl
row_kind p e (Num sort.Double v) = refl
row_kind p e (Num sort.Date v) = refl
row_kind p e (Str Utf8 cs) = refl
row_kind p e (Str Binary cs) = refl

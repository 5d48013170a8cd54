-- The laws of a value's first byte and its head.
use Rattle.std.specs.Prelude.{◌≡◌, refl, cond, not, ℕ, ◌+◌, ◌≤◌, ◌<◌, T, eqb}
use Rattle.std.proofs.Common.{◌∙◌, ap, arith, eqb→eq, ltb→lt, eqb-true, ne_eqb}
use Rattle.std.proofs.Math.Option.{Option}
use Rattle.flow.specs.Tests.{skip, pick_true, pick_false, pick_either, within_is, within_yes, within_below}
use Rattle.flow.specs.Tests.{within_above, every, every_at}
use Rattle.flow.specs.Flow.{pick, within, One}
use Rattle.scalar.specs.Chart.{ranges, range_of, lead_of, kind_of}
use Rattle.scalar.proofs.ScalarLaws.{is_scalar}
use Rattle.scalar.specs.Scalars.{DoubleRule}
use Rattle.record.specs.Model.Items.{Limits}
use Rattle.record.specs.Model.Reading.{Opening, plain_from}
use Rattle.record.specs.Model.Reading.{ValueHead, leaf, few, few_of_type, few_fields, counted, counted_typed_head}
use Rattle.record.specs.Model.Reading.{open_list_head, open_typed_head, open_map, typed_map_head, object, reference, head_of}
use Rattle.record.specs.Model.Reading.{plain_by}

pub plain_is : (ρ : DoubleRule) (ℓ : Limits) (below : Option (Opening One)) (p b : ℕ) → plain_from ρ ℓ below p b
    ≡ plain_by ρ ℓ below (head_of b) p b
unfolding plain_from
plain_is ρ ℓ below p b = refl

-- ---- what a head says of its byte
abbrev pub HeadFact : ℕ → ValueHead → Type 0
HeadFact b leaf = Unit {0}
HeadFact b (few n) = (b ≡ 0x78 + n) × (n < 8)
HeadFact b (few_of_type n) = (b ≡ 0x70 + n) × (n < 8)
HeadFact b (few_fields k) = (b ≡ 0x60 + k) × (k < 16)
HeadFact b counted = b ≡ 0x58
HeadFact b counted_typed_head = b ≡ 0x56
HeadFact b open_list_head = b ≡ 0x57
HeadFact b open_typed_head = b ≡ 0x55
HeadFact b open_map = b ≡ 0x48
HeadFact b typed_map_head = b ≡ 0x4d
HeadFact b object = b ≡ 0x4f
HeadFact b reference = b ≡ 0x51

pub head_fact : (b : ℕ) → HeadFact b (head_of b)
unfolding head_of
head_fact b =
    ranged 0x70 0x78 _ _ (λ x l. (omega arith, omega arith))
    (only 0x56 _ _ (λ e. e)
    (only 0x55 _ _ (λ e. e)
    (ranged 0x78 0x80 _ _ (λ x l. (omega arith, omega arith))
    (only 0x58 _ _ (λ e. e)
    (only 0x57 _ _ (λ e. e)
    (only 0x4d _ _ (λ e. e)
    (only 0x48 _ _ (λ e. e)
    (ranged 0x60 0x70 _ _ (λ x l. (omega arith, omega arith))
    (only 0x4f _ _ (λ e. e)
    (only 0x51 _ _ (λ e. e) tt))))))))))
  where
    ranged : (lo hi : ℕ) (x y : ValueHead) → (lo ≤ b → b < hi → HeadFact b x) → HeadFact b y
        → HeadFact b (pick (within lo hi b) x y)
    ranged lo hi x y f g =
        pick_either (HeadFact b) (within lo hi b) (λ t. let r = within_is lo hi b (rw t tt) in f r.0 r.1) (λ t. g)

    only : (k : ℕ) (x y : ValueHead) → (b ≡ k → HeadFact b x) → HeadFact b y → HeadFact b (pick (eqb b k) x y)
    only k x y f g = pick_either (HeadFact b) (eqb b k) (λ t. f (eqb-true b k t)) (λ t. g)

-- ---- the heads of these bytes
-- the codes of a single head are below those of a range of heads
past : (b k : ℕ) (x y : ValueHead) → k < b → pick (eqb b k) x y ≡ y
past b k x y l = pick_false x y (ne_eqb b k (λ (e : b ≡ k). omega arith))

pub few_typed_head : (n : ℕ) → n < 8 → head_of (0x70 + n) ≡ few_of_type n
unfolding head_of
few_typed_head n l =
    pick_true _ _ (within_yes 0x70 0x78 (0x70 + n) (omega arith) (omega arith)) ∙ ap few_of_type (omega arith)

pub few_head : (n : ℕ) → n < 8 → head_of (0x78 + n) ≡ few n
unfolding head_of
few_head n l =
    let b = 0x78 + n in
    pick_false _ _ (within_above 0x70 0x78 b (omega arith)) ∙ past b 0x56 _ _ (omega arith)
    ∙ past b 0x55 _ _ (omega arith)
    ∙ pick_true _ _ (within_yes 0x78 0x80 b (omega arith) (omega arith)) ∙ ap few (omega arith)

pub few_object_head : (k : ℕ) → k < 16 → head_of (0x60 + k) ≡ few_fields k
unfolding head_of
few_object_head k l =
    let b = 0x60 + k in
    pick_false _ _ (within_below 0x70 0x78 b (omega arith)) ∙ past b 0x56 _ _ (omega arith)
    ∙ past b 0x55 _ _ (omega arith)
    ∙ pick_false _ _ (within_below 0x78 0x80 b (omega arith)) ∙ past b 0x58 _ _ (omega arith)
    ∙ past b 0x57 _ _ (omega arith)
    ∙ past b 0x4d _ _ (omega arith) ∙ past b 0x48 _ _ (omega arith)
    ∙ pick_true _ _ (within_yes 0x60 0x70 b (omega arith) (omega arith)) ∙ ap few_fields (omega arith)

pub record Singles : Type 0 where
  pub of_counted : head_of 0x58 ≡ counted
  pub of_counted_typed : head_of 0x56 ≡ counted_typed_head
  pub of_open_list : head_of 0x57 ≡ open_list_head
  pub of_open_typed : head_of 0x55 ≡ open_typed_head
  pub of_open_map : head_of 0x48 ≡ open_map
  pub of_typed_map : head_of 0x4d ≡ typed_map_head
  pub of_object : head_of 0x4f ≡ object
  pub of_reference : head_of 0x51 ≡ reference
  -- the end byte, and a definition's
  pub of_end : head_of 0x5a ≡ leaf
  pub of_definition : head_of 0x43 ≡ leaf

pub singles : Singles
unfolding head_of pick
singles = record {
  of_counted = refl;
  of_counted_typed = refl;
  of_open_list = refl;
  of_open_typed = refl;
  of_open_map = refl;
  of_typed_map = refl;
  of_object = refl;
  of_reference = refl;
  of_end = refl;
  of_definition = refl;
}

-- ---- heads and the chart of first bytes
-- the kind of the row that a head opens; 0 for a leaf, whose kind its byte says
abbrev pub head_kind : ValueHead → ℕ
head_kind leaf = 0
head_kind (few n) = 9
head_kind counted = 9
head_kind open_list_head = 9
head_kind (few_of_type n) = 10
head_kind counted_typed_head = 10
head_kind open_typed_head = 10
head_kind open_map = 11
head_kind typed_map_head = 12
head_kind (few_fields k) = 13
head_kind object = 13
head_kind reference = 14

abbrev pub chart_kind : ℕ → ℕ
chart_kind k = cond (within 9 15 k) k 0

all_agree : T (every 256 (λ b. eqb (head_kind (head_of b)) (chart_kind (kind_of (lead_of b)))))
unfolding head_of kind_of lead_of range_of ranges pick
all_agree = tt

-- a byte's form is of the kind that the chart says: a container or a reference, or else a leaf
pub head_kind_law : (b : ℕ) → b < 256 → head_kind (head_of b) ≡ chart_kind (kind_of (lead_of b))
head_kind_law b l = eqb→eq (head_kind (head_of b)) (chart_kind (kind_of (lead_of b)))
    (every_at 256 (λ b. eqb (head_kind (head_of b)) (chart_kind (kind_of (lead_of b)))) all_agree b l)

is_leaf : (x : ValueHead) → head_kind x ≡ 0 → x ≡ leaf
is_leaf leaf h = refl
is_leaf (few n) h = absurd (omega arith)
is_leaf (few_of_type n) h = absurd (omega arith)
is_leaf (few_fields k) h = absurd (omega arith)
is_leaf counted h = absurd (omega arith)
is_leaf counted_typed_head h = absurd (omega arith)
is_leaf open_list_head h = absurd (omega arith)
is_leaf open_typed_head h = absurd (omega arith)
is_leaf open_map h = absurd (omega arith)
is_leaf typed_map_head h = absurd (omega arith)
is_leaf object h = absurd (omega arith)
is_leaf reference h = absurd (omega arith)

-- the first byte of a scalar
pub leaf_head : (b : ℕ) → b < 256 → T (is_scalar b) → head_of b ≡ leaf
leaf_head b l t = is_leaf (head_of b) (head_kind_law b l ∙ skip (within 9 15 (kind_of (lead_of b))) _ _
    (rw (within_below 9 15 (kind_of (lead_of b)) (ltb→lt (kind_of (lead_of b)) 9 t)) tt) refl)

-- the end byte and a definition's open no scalar
pub no_scalar : T (not (is_scalar 0x5a)) × T (not (is_scalar 0x43))
unfolding kind_of lead_of range_of ranges pick
no_scalar = (tt, tt)

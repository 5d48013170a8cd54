-- The chart of first bytes: what holds of every byte, by computation over all 256.
use Rattle.std.specs.Prelude.{◌≡◌, refl, Bool, true, not, ◌&&◌, List, [], ◌∷◌, ℕ, zero, suc, ◌+◌, ◌-◌, ◌/◌, ◌%◌, ◌≤◌, ◌<◌, T, eqb, leb, ltb, get_or}
use Rattle.std.specs.Prelude.{Some, None}
use Rattle.std.specs.declared.option.Option as code
use Rattle.std.proofs.Common.{sym, ◌∙◌, ap, subst, arith, T_not, eqb→eq, leb→le, lt→ltb}
use borrow.Author.Tests.{eqb-true, eqb-false}
use Rattle.std.proofs.Math.Dec.{eqb_refl}
use Rattle.flow.specs.Flow.{pick}
use Rattle.flow.specs.Tests.{by_cases, implies, implied, neqb, every, every_at, and_left, and_right}
use Rattle.scalar.specs.declared.Sort.{Sort}
use Rattle.scalar.specs.declared.Sort.TheVariants.{Null, False, True, Int, Long, Double, Date}
use Rattle.scalar.specs.declared.Rule.{Rule}
use Rattle.scalar.specs.declared.Begun.{Begun}
use Rattle.scalar.specs.declared.Lead.{Lead}
use Rattle.scalar.specs.declared.Lead.TheVariants as lead
use Rattle.scalar.specs.declared.Encoding.TheVariants.{Utf8, Binary}
use Rattle.scalar.specs.Scalars.{Form, forms_of, begun, form_at, part_head, last_heads}
use Rattle.scalar.specs.Chart.{ranges, range_of, lead_of, kind_of, follow_of, entry}
use Rattle.scalar.specs.ChartLaws.{entry_runs, spread}

-- ---- a kind's number says the kind
abbrev leads : List Lead
leads =
    lead.Number Null ∷ lead.Number False ∷ lead.Number True ∷ lead.Number Int ∷ lead.Number Long ∷ lead.Number Double
    ∷ lead.Number Date ∷ lead.Text ∷ lead.Bytes ∷ lead.List ∷ lead.TypedList
    ∷ lead.Map ∷ lead.TypedMap ∷ lead.Object ∷ lead.Reference ∷ lead.Definition ∷ lead.Reserved ∷ lead.Reserved
    ∷ lead.Reserved ∷ lead.Reserved ∷ lead.Close ∷ []

abbrev coded : ℕ → Lead
coded n = get_or leads n lead.Reserved

coded_kind : (x : Lead) → coded (kind_of x) ≡ x
unfolding kind_of
coded_kind (lead.Number Null) = refl
coded_kind (lead.Number False) = refl
coded_kind (lead.Number True) = refl
coded_kind (lead.Number Int) = refl
coded_kind (lead.Number Long) = refl
coded_kind (lead.Number Double) = refl
coded_kind (lead.Number Date) = refl
coded_kind lead.Text = refl
coded_kind lead.Bytes = refl
coded_kind lead.List = refl
coded_kind lead.TypedList = refl
coded_kind lead.Map = refl
coded_kind lead.TypedMap = refl
coded_kind lead.Object = refl
coded_kind lead.Reference = refl
coded_kind lead.Definition = refl
coded_kind lead.Close = refl
coded_kind lead.Reserved = refl

pub kind_is : (x y : Lead) → kind_of x ≡ kind_of y → x ≡ y
kind_is x y e = sym (coded_kind x) ∙ ap coded e ∙ coded_kind y

-- ---- the bytes from lo to hi open the same
abbrev pub opens : Lead → ℕ → Bool
opens x b = eqb (kind_of (lead_of b)) (kind_of x)

abbrev pub all_open : ℕ → ℕ → Lead → Bool
all_open lo hi x = every (suc hi - lo) (λ i. opens x (lo + i))

opened : (x : Lead) (b : ℕ) → T (opens x b) → lead_of b ≡ x
opened x b t = kind_is (lead_of b) x (eqb→eq (kind_of (lead_of b)) (kind_of x) t)

pub lead_in : (lo hi : ℕ) (x : Lead) → T (all_open lo hi x) → (b : ℕ) → lo ≤ b → b ≤ hi → lead_of b ≡ x
lead_in lo hi x t b h k =
    opened x b
    (subst (λ (n : ℕ). T (opens x n)) (omega arith)
    (every_at (suc hi - lo) (λ i. opens x (lo + i)) t (b - lo) (omega arith)))

-- the bytes that open x, from one to another
abbrev pub spans : Lead → List (ℕ × ℕ)
spans lead.Text = (0x00, 0x1f) ∷ (0x30, 0x33) ∷ (0x52, 0x53) ∷ []
spans lead.Bytes = (0x20, 0x2f) ∷ (0x34, 0x37) ∷ (0x41, 0x42) ∷ []
spans (lead.Number Int) = (0x80, 0xd7) ∷ (0x49, 0x49) ∷ []
spans (lead.Number Long) = (0xd8, 0xff) ∷ (0x38, 0x3f) ∷ (0x59, 0x59) ∷ (0x4c, 0x4c) ∷ []
spans (lead.Number Date) = (0x4a, 0x4b) ∷ []
spans (lead.Number Double) = (0x5b, 0x5f) ∷ (0x44, 0x44) ∷ []
spans (lead.Number Null) = (0x4e, 0x4e) ∷ []
spans (lead.Number False) = (0x46, 0x46) ∷ []
spans (lead.Number True) = (0x54, 0x54) ∷ []
spans lead.TypedList = (0x70, 0x77) ∷ (0x55, 0x56) ∷ []
spans lead.List = (0x78, 0x7f) ∷ (0x57, 0x58) ∷ []
spans lead.TypedMap = (0x4d, 0x4d) ∷ []
spans lead.Map = (0x48, 0x48) ∷ []
spans lead.Definition = (0x43, 0x43) ∷ []
spans lead.Object = (0x60, 0x6f) ∷ (0x4f, 0x4f) ∷ []
spans lead.Reference = (0x51, 0x51) ∷ []
spans lead.Close = (0x5a, 0x5a) ∷ []
spans lead.Reserved = (0x40, 0x40) ∷ (0x45, 0x45) ∷ (0x47, 0x47) ∷ (0x50, 0x50) ∷ []

-- the one with the index i; past the last there is no byte
abbrev pub span_at : List (ℕ × ℕ) → ℕ → ℕ × ℕ
span_at rs i = get_or rs i (1, 0)

abbrev spans_open : Lead → List (ℕ × ℕ) → Bool
spans_open x [] = true
spans_open x (r ∷ rs) = all_open r.0 r.1 x && spans_open x rs

all_open_law : (x : Lead) → T (spans_open x (spans x))
unfolding lead_of kind_of range_of ranges pick
all_open_law (lead.Number Null) = tt
all_open_law (lead.Number False) = tt
all_open_law (lead.Number True) = tt
all_open_law (lead.Number Int) = tt
all_open_law (lead.Number Long) = tt
all_open_law (lead.Number Double) = tt
all_open_law (lead.Number Date) = tt
all_open_law lead.Text = tt
all_open_law lead.Bytes = tt
all_open_law lead.List = tt
all_open_law lead.TypedList = tt
all_open_law lead.Map = tt
all_open_law lead.TypedMap = tt
all_open_law lead.Object = tt
all_open_law lead.Reference = tt
all_open_law lead.Definition = tt
all_open_law lead.Close = tt
all_open_law lead.Reserved = tt

span_opens : (x : Lead) (rs : List (ℕ × ℕ)) → T (spans_open x rs) → (i b : ℕ)
    → (span_at rs i).0 ≤ b → b ≤ (span_at rs i).1 → lead_of b ≡ x
span_opens x [] t i b h k = absurd (omega arith)
span_opens x (r ∷ rs) t zero b h k =
    lead_in r.0 r.1 x (and_left (all_open r.0 r.1 x) (spans_open x rs) t) b h k
span_opens x (r ∷ rs) t (suc i) b h k =
    span_opens x rs (and_right (all_open r.0 r.1 x) (spans_open x rs) t) i b h k

pub span_lead : (x : Lead) (i : ℕ) {b : ℕ} → (span_at (spans x) i).0 ≤ b → b ≤ (span_at (spans x) i).1 → lead_of b ≡ x
span_lead x i {b} h k = span_opens x (spans x) (all_open_law x) i b h k

-- the upper half opens ints and longs, the lowest bytes texts; one byte opens a class definition
module _ (b : ℕ) where
  pub int_lead : 0x80 ≤ b → b < 0xd8 → lead_of b ≡ lead.Number Int
  int_lead h k = span_lead (lead.Number Int) 0 h (omega arith)

  pub long_lead : 0xd8 ≤ b → b < 256 → lead_of b ≡ lead.Number Long
  long_lead h k = span_lead (lead.Number Long) 0 h (omega arith)

  pub text_lead : b < 0x20 → lead_of b ≡ lead.Text
  text_lead h = span_lead lead.Text 0 (omega arith) (omega arith)

pub definition_lead : lead_of 0x43 ≡ lead.Definition
definition_lead = span_lead lead.Definition 0 (omega arith) (omega arith)

pub kind_of_text : kind_of lead.Text ≡ 7
unfolding kind_of
kind_of_text = refl

-- ---- the bytes that open x: two by themselves, the others from `least` on
abbrev among_them : Lead → ℕ → ℕ → ℕ → ℕ → Bool
among_them x k j least b = implies (opens x b) (implies (not (eqb b k)) (implies (not (eqb b j)) (leb least b)))

among : (x : Lead) (k j least : ℕ) → T (every 256 (among_them x k j least)) → (b : ℕ) → b < 256
    → lead_of b ≡ x → (b ≡ k → ⊥) → (b ≡ j → ⊥) → least ≤ b
among x k j least t b l e y z =
    leb→le least b
    (implied (not (eqb b j)) (leb least b)
    (implied (not (eqb b k)) (implies (not (eqb b j)) (leb least b))
    (implied (opens x b) (implies (not (eqb b k)) (implies (not (eqb b j)) (leb least b)))
    (every_at 256 (among_them x k j least) t b l) (rw e (eqb_refl (kind_of x))))
    (neqb b k y))
    (neqb b j z))

module _ (b : ℕ) (l : b < 256) where
  pub list_byte : lead_of b ≡ lead.List → (b ≡ 0x57 → ⊥) → (b ≡ 0x58 → ⊥) → 0x78 ≤ b
  unfolding lead_of kind_of range_of ranges pick
  list_byte = among lead.List 0x57 0x58 0x78 tt b l

  pub typed_list_byte : lead_of b ≡ lead.TypedList → (b ≡ 0x55 → ⊥) → (b ≡ 0x56 → ⊥) → 0x70 ≤ b
  unfolding lead_of kind_of range_of ranges pick
  typed_list_byte = among lead.TypedList 0x55 0x56 0x70 tt b l

  pub object_byte : lead_of b ≡ lead.Object → (b ≡ 0x4f → ⊥) → 0x60 ≤ b
  unfolding lead_of kind_of range_of ranges pick
  object_byte e y = among lead.Object 0x4f 0x4f 0x60 tt b l e y y

  pub definition_byte : lead_of b ≡ lead.Definition → b ≡ 0x43
  unfolding lead_of kind_of range_of ranges pick
  definition_byte e = by_cases (eqb b 0x43)
      (λ y. eqb-true b 0x43 y)
      (λ y. let z = eqb-false b 0x43 y in absurd (omega (arith, among lead.Definition 0x43 0x43 256 tt b l e z z)))

-- ---- at most eight bytes follow, so an entry holds the kind and the bytes that follow
few : T (every 256 (λ b. leb (follow_of b) 8))
unfolding follow_of range_of ranges pick
few = tt

pub follow_few : (b : ℕ) → b < 256 → follow_of b ≤ 8
follow_few b l = leb→le (follow_of b) 8 (every_at 256 (λ b. leb (follow_of b) 8) few b l)

pub entry_parts : (b : ℕ) → b < 256 → (entry b / 10 ≡ kind_of (lead_of b)) × (entry b % 10 ≡ follow_of b)
unfolding entry
entry_parts b l = (omega (arith, follow_few b l), omega (arith, follow_few b l))

-- ---- the table of entries, in the order of the bytes: so many bytes have this kind, and so many bytes follow
entry_listed : T (every 256 (λ b. eqb (get_or (spread entry_runs) b 0) (entry b)))
unfolding entry lead_of kind_of follow_of range_of ranges pick
entry_listed = tt

pub entries : (b : ℕ) → b < 256 → get_or (spread entry_runs) b 0 ≡ entry b
entries b l =
    eqb→eq (get_or (spread entry_runs) b 0) (entry b)
    (every_at 256 (λ b. eqb (get_or (spread entry_runs) b 0) (entry b)) entry_listed b l)

-- ---- a byte opens a number, a text or a byte string exactly where it begins one of its forms or heads, and as many
-- bytes follow; nothing follows what else a byte opens
abbrev pub forms_by : Lead → List Form
forms_by (lead.Number s) = forms_of s
forms_by lead.Text = part_head Utf8 ∷ last_heads Utf8
forms_by lead.Bytes = part_head Binary ∷ last_heads Binary
forms_by lead.List = []
forms_by lead.TypedList = []
forms_by lead.Map = []
forms_by lead.TypedMap = []
forms_by lead.Object = []
forms_by lead.Reference = []
forms_by lead.Definition = []
forms_by lead.Close = []
forms_by lead.Reserved = []

abbrev suits : Lead → ℕ → code.Option Begun → Bool
suits x b None = not (opens x b)
suits x b (Some z) = opens x b && eqb (follow_of b) z.more

abbrev agrees : Lead → ℕ → Bool
agrees x b = suits x b (form_at (forms_by x) b)

pub data HasForms : Lead → Type 0 where
  number : (s : Sort) → HasForms (lead.Number s)
  text : HasForms lead.Text
  byte_string : HasForms lead.Bytes

all_agree : {x : Lead} → HasForms x → T (every 256 (agrees x))
unfolding forms_of form_at part_head last_heads kind_of lead_of follow_of range_of ranges pick
all_agree (number Null) = tt
all_agree (number False) = tt
all_agree (number True) = tt
all_agree (number Int) = tt
all_agree (number Long) = tt
all_agree (number Double) = tt
all_agree (number Date) = tt
all_agree text = tt
all_agree byte_string = tt

agreed : {x : Lead} → HasForms x → (b : ℕ) (y : code.Option Begun) → b < 256 → form_at (forms_by x) b ≡ y → T (suits x b y)
agreed {x} h b y l e = subst (λ (z : code.Option Begun). T (suits x b z)) e (every_at 256 (agrees x) (all_agree h) b l)

pub lead_form : {x : Lead} → HasForms x → (b : ℕ) (z : Begun) → b < 256 → form_at (forms_by x) b ≡ Some z
    → (lead_of b ≡ x) × (follow_of b ≡ z.more)
lead_form {x} h b z l e =
    let t = agreed h b (Some z) l e in (
      opened x b (and_left (opens x b) (eqb (follow_of b) z.more) t),
      eqb→eq (follow_of b) z.more (and_right (opens x b) (eqb (follow_of b) z.more) t),
    )

-- the byte begins a form, after which as many bytes follow
pub record Begins (x : Lead) (b : ℕ) : Type 0 where
  pub held : ℕ
  pub rule : Rule
  pub starts : form_at (forms_by x) b ≡ Some (begun (follow_of b) held rule)

pub form_lead : {x : Lead} → HasForms x → (b : ℕ) → b < 256 → lead_of b ≡ x → Begins x b
form_lead {x} h b l e = go (form_at (forms_by x) b) refl
  where
    go : (y : code.Option Begun) → form_at (forms_by x) b ≡ y → Begins x b
    go (Some z) y = record {
      held = z.held;
      rule = z.rule;
      starts = y ∙ ap (λ (n : ℕ). Some (begun n z.held z.rule)) (sym (lead_form h b z l y).1);
    }
    go None y = absurd (T_not (opens x b) (agreed h b None l y) (rw e (eqb_refl (kind_of x))))

-- what else a byte opens has a kind above a byte string's
all_alone : T (every 256 (λ b. implies (ltb 8 (kind_of (lead_of b))) (eqb (follow_of b) 0)))
unfolding kind_of lead_of follow_of range_of ranges pick
all_alone = tt

pub nothing_follows : (b : ℕ) → b < 256 → 8 < kind_of (lead_of b) → follow_of b ≡ 0
nothing_follows b l h =
    eqb→eq (follow_of b) 0 (implied (ltb 8 (kind_of (lead_of b))) (eqb (follow_of b) 0)
    (every_at 256 (λ b. implies (ltb 8 (kind_of (lead_of b))) (eqb (follow_of b) 0)) all_alone b l)
    (lt→ltb 8 (kind_of (lead_of b)) h))

pub lead_number : (s : Sort) (b : ℕ) (z : Begun) → b < 256 → form_at (forms_of s) b ≡ Some z
    → (lead_of b ≡ lead.Number s) × (follow_of b ≡ z.more)
lead_number s b z l e = lead_form (number s) b z l e

-- The forms of each kind of value, of each head of a chunk, and what goes over a list of forms, case by case, so that
-- the crates above need not open these definitions.
use Rattle.std.specs.Prelude.{◌≡◌, true, false, List, [], ◌∷◌, ℕ, ◌-◌, Some, None}
use Rattle.std.specs.declared.option.Option as code
use Rattle.std.proofs.Math.Path.{refl}
use Rattle.std.proofs.Math.Option.{none}
use Rattle.flow.specs.Tests.{pick_either}
use Rattle.scalar.specs.declared.Sort.TheVariants.{Null, False, True, Int, Long, Double, Date}
use Rattle.scalar.specs.declared.Rule.TheVariants.{Exactly, Plain, Offset, Signed, Minutes}
use Rattle.scalar.specs.declared.Rule.TheVariants.{WholeByte, WholePair, Float}
use Rattle.scalar.specs.declared.Begun.{Begun}
use Rattle.scalar.specs.declared.Encoding.{Encoding}
use Rattle.scalar.specs.declared.Encoding.TheVariants.{Utf8, Binary}
use Rattle.scalar.specs.Scalars.{Form, form, forms_of, inside, begun, form_at, shortest, part_head, last_heads}
use Rattle.scalar.specs.NumberLaws.{tried}

-- ---- the forms of a kind
pub forms_null : forms_of Null ≡ form 0x4e 1 0 (Exactly 0) ∷ []
unfolding forms_of
forms_null = refl

pub forms_false : forms_of False ≡ form 0x46 1 0 (Exactly 0) ∷ []
unfolding forms_of
forms_false = refl

pub forms_true : forms_of True ≡ form 0x54 1 0 (Exactly 0) ∷ []
unfolding forms_of
forms_true = refl

pub forms_int : forms_of Int ≡
    form 0x80 64 0 (Offset 0x10)
    ∷ form 0xc0 16 1 (Offset 0x800)
    ∷ form 0xd0 8 2 (Offset 0x4_0000)
    ∷ form 0x49 1 4 Signed
    ∷ []
unfolding forms_of
forms_int = refl

pub forms_long : forms_of Long ≡
    form 0xd8 24 0 (Offset 0x8)
    ∷ form 0xf0 16 1 (Offset 0x800)
    ∷ form 0x38 8 2 (Offset 0x4_0000)
    ∷ form 0x59 1 4 Signed
    ∷ form 0x4c 1 8 Plain
    ∷ []
unfolding forms_of
forms_long = refl

abbrev pub double_forms : List Form
double_forms =
    form 0x5b 1 0 (Exactly 0)
    ∷ form 0x5c 1 0 (Exactly 0x3ff0_0000_0000_0000)
    ∷ form 0x5d 1 1 WholeByte
    ∷ form 0x5e 1 2 WholePair
    ∷ form 0x5f 1 4 Float
    ∷ form 0x44 1 8 Plain
    ∷ []

pub forms_double : forms_of Double ≡ double_forms
unfolding forms_of
forms_double = refl

pub forms_date : forms_of Date ≡ form 0x4b 1 4 Minutes ∷ form 0x4a 1 8 Plain ∷ []
unfolding forms_of
forms_date = refl

-- ---- the heads of chunks: the codes of the last chunk's, of one to three bytes, and of one before others
pub record HeadCodes : Type 0 where
  pub one : ℕ
  pub few : ℕ
  pub two : ℕ
  pub three : ℕ
  pub part : ℕ

abbrev pub head_codes : Encoding → HeadCodes
head_codes Utf8 = record { one = 0x00; few = 32; two = 0x30; three = 0x53; part = 0x52 }
head_codes Binary = record { one = 0x20; few = 16; two = 0x34; three = 0x42; part = 0x41 }

abbrev pub part_form : Encoding → Form
part_form k = form (head_codes k).part 1 2 Plain

abbrev pub last_forms : Encoding → List Form
last_forms k =
    form (head_codes k).one (head_codes k).few 0 Plain
    ∷ form (head_codes k).two 4 1 Plain
    ∷ form (head_codes k).three 1 2 Plain
    ∷ []

pub part_head_law : (k : Encoding) → part_head k ≡ part_form k
unfolding part_head
part_head_law Utf8 = refl
part_head_law Binary = refl

pub last_heads_law : (k : Encoding) → last_heads k ≡ last_forms k
unfolding last_heads
last_heads_law Utf8 = refl
last_heads_law Binary = refl

-- ---- what a byte begins: of no forms; of the first, or of the others (and `form_here`, `form_skip`: NumberLaws.antt)
pub form_none : (b : ℕ) → form_at [] b ≡ None
unfolding form_at
form_none b = refl

pub form_either : (P : code.Option Begun → Type 0) (w : Form) (ws : List Form) (b : ℕ)
    → (inside w b ≡ true → P (Some (begun w.extra (b - w.head) w.rule))) → (inside w b ≡ false → P (form_at ws b))
    → P (form_at (w ∷ ws) b)
unfolding form_at
form_either P w ws b h k = pick_either P (inside w b) h k

-- ---- the shortest form: of no forms; the first that holds the value, or else one of the others
module _ (v : ℕ) where
  pub shortest_none : shortest [] v ≡ none
  unfolding shortest
  shortest_none = refl

  pub shortest_first : (w : Form) (ws : List Form) → shortest (w ∷ ws) v ≡ tried w v (shortest ws v)
  unfolding shortest
  shortest_first w ws = refl

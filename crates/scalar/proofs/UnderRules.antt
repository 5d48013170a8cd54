-- The two rules of 5f: a form of any other first byte is read alike by both; what is read in thousandths, from what is
-- read by the main rule.
use Rattle.std.proofs.Math.Path.{◌≡◌, refl, ap, subst}
use Rattle.std.proofs.Common.{sym, ◌∙◌, inl, inr, length-drop}
use Rattle.std.specs.Prelude.{Some}
use Rattle.std.specs.declared.option.Option as code
use Rattle.std.specs.Prelude.{Bool, ◌&&◌, ◌⊎◌, leb, length, take, drop, get_or}
use Rattle.std.proofs.Math.Bool.{true, false}
use mathlib.Core.List.{List, [], ◌∷◌}
use Prim.Native.Nat.{ℕ, ◌+◌, ◌-◌, ◌^◌, ◌≤◌, ◌<◌}
use native.Mathlib.Omega.{arith}
use Rattle.std.proofs.Math.Dec.{T, eqb}
use mir.{Syntax.w32, Val.to_z}
use borrow.Author.Tests.{le-leb, eq-eqb, eqb-true}
use Rattle.flow.specs.Flow.{pick, Outcome, Done, Fault, mapped}
use Rattle.flow.specs.Steps.{renamed}
use Rattle.flow.specs.Lifts.{Lifts, lifted, fail_lifts, map_lifts}
use Rattle.flow.specs.Tests.{pick_true, pick_false, pick_either, by_cases, split, within_below, within_above}
use Rattle.wire.specs.BigEndian.{joined}
use Rattle.wire.specs.Laws.{high_below}
use Rattle.scalar.specs.declared.{Sort.Sort, Rule.Rule, Begun.Begun, Lead.Lead}
use Rattle.scalar.specs.declared.Encoding.TheVariants.{Utf8, Binary}
use Rattle.scalar.specs.declared.Lead.TheVariants as lead
use Rattle.scalar.specs.declared.Sort.TheVariants.{Null, False, True, Int, Long, Double, Date}
use Rattle.scalar.specs.declared.Rule.TheVariants.{Exactly, Plain, Offset, Signed, Minutes}
use Rattle.scalar.specs.declared.Rule.TheVariants.{WholeByte, WholePair, Float}
use Rattle.scalar.specs.Scalars.{thousandths, value, DoubleRule, Floats, Thousandths, value_under, Form, form}
use Rattle.scalar.specs.Scalars.{forms_of, begun, form_at, inside, bytes_of, number_under, number_from, scalar_from}
use Rattle.scalar.specs.Scalars.{sort_kind, string_from, int_from, text_from, Scalar, Num, Str}
use Rattle.scalar.specs.Grammar.{HeldUnder, held, NumberUnder, Number, here, later, SpeltUnder, Spelt}
use Rattle.scalar.specs.Grammar.{a_number, a_string}
use Rattle.scalar.specs.Chart.{lead_of}
use Rattle.scalar.proofs.ByChart.{scalar_by, scalar_by_law}
use Rattle.scalar.proofs.NumberLaws.{begun_under, form_here, form_skip, held_by}
use Rattle.scalar.proofs.RuleLaws.{value_plain}
use Rattle.scalar.proofs.Bits.{number_bits}
use Rattle.scalar.proofs.NumberAt.{bytes_there, bytes_cut, under_lifts, number_lifts}
use Rattle.scalar.proofs.TextLaws.{string_lifts}

-- ---- forms that both rules read alike
-- any rule but that of 5f
abbrev settled : Rule → Bool
settled r = elim r [
  | Exactly v ↦ true
  | Plain ↦ true
  | Offset k ↦ true
  | Signed ↦ true
  | Minutes ↦ true
  | WholeByte ↦ true
  | WholePair ↦ true
  | Float ↦ false
]

value_settled : (ρ : DoubleRule) (r : Rule) → T (settled r) → value_under ρ r ≡ value r
value_settled Floats r t = refl
value_settled Thousandths (Exactly v) t = refl
value_settled Thousandths Plain t = refl
value_settled Thousandths (Offset k) t = refl
value_settled Thousandths Signed t = refl
value_settled Thousandths Minutes t = refl
value_settled Thousandths WholeByte t = refl
value_settled Thousandths WholePair t = refl
value_settled Thousandths Float t = absurd t

-- of these forms the byte b begins none that is 5f's
abbrev Settled : ℕ → List Form → Type 0
Settled b [] = Unit {0}
Settled b (w ∷ ws) = (T (settled w.rule) ⊎ (inside w b ≡ false)) × Settled b ws

is_double : Sort → Bool
is_double s = elim s [
  | Null ↦ false
  | False ↦ false
  | True ↦ false
  | Int ↦ false
  | Long ↦ false
  | Double ↦ true
  | Date ↦ false
]

-- the forms of the other kinds
abbrev AllSettled : List Form → Type 0
AllSettled [] = Unit {0}
AllSettled (w ∷ ws) = T (settled w.rule) × AllSettled ws

all_settled : (s : Sort) → is_double s ≡ false → AllSettled (forms_of s)
unfolding is_double forms_of
all_settled Null e = (tt, tt)
all_settled False e = (tt, tt)
all_settled True e = (tt, tt)
all_settled Int e = (tt, (tt, (tt, (tt, tt))))
all_settled Long e = (tt, (tt, (tt, (tt, (tt, tt)))))
all_settled Double e = let z : ◌≡◌ {A = ℕ} 0 1 = cc in absurd (omega arith)
all_settled Date e = (tt, (tt, tt))

settled_any : (b : ℕ) (ws : List Form) → AllSettled ws → Settled b ws
settled_any b [] x = tt
settled_any b (w ∷ ws) x = (inl x.0, settled_any b ws x.1)

sort_settled : (s : Sort) → is_double s ≡ false → (b : ℕ) → Settled b (forms_of s)
sort_settled s e b = settled_any b (forms_of s) (all_settled s e)

double_settled : (b : ℕ) → (b ≡ 0x5f → ⊥) → Settled b (forms_of Double)
unfolding forms_of
double_settled b h =
    let other : inside (form 0x5f 1 4 Float) b ≡ false = split b 0x5f (λ l. within_below 0x5f 0x60 b l)
    (λ l. within_above 0x5f 0x60 b (omega (arith, h))) in
    (inl tt, (inl tt, (inl tt, (inl tt, (inr other, (inl tt, tt))))))

module _ {C I : Type 0} (p b : ℕ) (c : C) (at : ℕ) (s : List ℕ) where
  number_settled : (ws : List Form) → Settled b ws
      → number_under {I = I} Thousandths ws p b c at s ≡ number_from ws p b c at s
  unfolding form_at
  number_settled [] x = refl
  number_settled (w ∷ ws) x =
      pick_either
      (λ (z : code.Option Begun). begun_under {I = I} Thousandths z p c at s ≡ begun_under Floats z p c at s) (inside w b)
      (λ t. one x.0 t) (λ t. number_settled ws x.1)
    where
      one : T (settled w.rule) ⊎ (inside w b ≡ false) → inside w b ≡ true
          → mapped {I = I} (value_under Thousandths w.rule) (bytes_of w.extra (b - w.head)) c at s
          ≡ mapped (value w.rule) (bytes_of w.extra (b - w.head)) c at s
      one (inl h) t =
          ap (λ (φ : ℕ → ℕ). mapped {I = I} φ (bytes_of w.extra (b - w.head)) c at s)
          (value_settled Thousandths w.rule h)
      one (inr h) t = let z : ◌≡◌ {A = ℕ} 0 1 = cc in absurd (omega arith)

five_form : (b : ℕ) → b ≡ 0x5f → form_at (forms_of Double) b ≡ Some (begun 4 0 Float)
unfolding forms_of
five_form b e = rw e (
    skips (form 0x5b 1 0 (Exactly 0)) _ refl
    ∙ skips (form 0x5c 1 0 (Exactly 0x3ff0_0000_0000_0000)) _ refl
    ∙ skips (form 0x5d 1 1 WholeByte) _ refl
    ∙ skips (form 0x5e 1 2 WholePair) _ refl
    ∙ form_here (form 0x5f 1 4 Float) _ 0x5f refl)
  where
    skips : (w : Form) (ws : List Form) → inside w 0x5f ≡ false → form_at (w ∷ ws) 0x5f ≡ form_at ws 0x5f
    skips w ws h = form_skip w ws 0x5f h

-- ---- in thousandths
-- a double's first byte is 5f, and its four bytes are there
abbrev five_f : List ℕ → ℕ → Bool
five_f m p = eqb (get_or m p 0) 0x5f && leb (p + 5) (length m)

-- the number v of this kind, read at p by the main rule: what it is in thousandths
pub in_thousandths_at : List ℕ → ℕ → Sort → ℕ → ℕ
in_thousandths_at m p s v =
    pick (is_double s && five_f m p) (thousandths (to_z w32 (joined 0 (take 4 (drop (p + 1) m))))) v

-- by the kind of its row
pub in_thousandths_is : (m : List ℕ) (p : ℕ) (s : Sort) (v : ℕ) → in_thousandths_at m p s v
    ≡ pick (eqb (sort_kind s) 5 && (eqb (get_or m p 0) 0x5f && leb (p + 5) (length m)))
    (thousandths (to_z w32 (joined 0 (take 4 (drop (p + 1) m))))) v
unfolding in_thousandths_at is_double
in_thousandths_is m p Null v = refl
in_thousandths_is m p False v = refl
in_thousandths_is m p True v = refl
in_thousandths_is m p Int v = refl
in_thousandths_is m p Long v = refl
in_thousandths_is m p Double v = refl
in_thousandths_is m p Date v = refl

abbrev pub scalar_in_thousandths : List ℕ → ℕ → Scalar → Scalar
scalar_in_thousandths m p (Num s v) = Num s (in_thousandths_at m p s v)
scalar_in_thousandths m p (Str k cs) = Str k cs

module _ (m : List ℕ) (p : ℕ) where
  -- other kinds, and doubles of other first bytes, stay
  stays : (s : Sort) → (is_double s && five_f m p) ≡ false → (v : ℕ) → in_thousandths_at m p s v ≡ v
  unfolding in_thousandths_at
  stays s e v = pick_false _ _ e

  module _ {C I : Type 0} (b : ℕ) (d : get_or m p 0 ≡ b) (c : C) where
    alike : (s : Sort) → Settled b (forms_of s) → (is_double s && five_f m p) ≡ false
        → number_under {I = I} Thousandths (forms_of s) p b c (p + 1) (drop (p + 1) m)
        ≡ renamed (in_thousandths_at m p s) (number_from (forms_of s) p b c (p + 1) (drop (p + 1) m))
    alike s x e =
        number_settled p b c (p + 1) (drop (p + 1) m) (forms_of s) x
        ∙ go (number_from (forms_of s) p b c (p + 1) (drop (p + 1) m))
      where
        go : (o : Outcome C I ℕ) → o ≡ renamed (in_thousandths_at m p s) o
        go (Done n v es c') = ap (λ (z : ℕ). Done n z es c') (sym (stays s e v))
        go (Fault x o) = refl

    five : b ≡ 0x5f → number_under {I = I} Thousandths (forms_of Double) p b c (p + 1) (drop (p + 1) m)
        ≡ renamed (in_thousandths_at m p Double) (number_from (forms_of Double) p b c (p + 1) (drop (p + 1) m))
    unfolding in_thousandths_at is_double
    five e = subst (λ (z : code.Option Begun). begun_under {I = I} Thousandths z p c (p + 1) (drop (p + 1) m)
        ≡ renamed (in_thousandths_at m p Double) (begun_under Floats z p c (p + 1) (drop (p + 1) m)))
        (sym (five_form b e)) (split (length (drop (p + 1) m)) 4 cut whole)
      where
        Alike : Outcome C I ℕ → Type 0
        Alike o = renamed (value_under Thousandths Float) o
            ≡ renamed (in_thousandths_at m p Double) (renamed (value_under Floats Float) o)

        cut : length (drop (p + 1) m) < 4 → Alike (bytes_of 4 0 c (p + 1) (drop (p + 1) m))
        cut l = subst Alike (sym (bytes_cut 4 0 c (p + 1) (drop (p + 1) m) l)) refl

        is_five : 4 ≤ length (drop (p + 1) m) → (is_double Double && five_f m p) ≡ true
        is_five l =
            rw (eq-eqb (get_or m p 0) 0x5f (d ∙ e), le-leb (p + 5) (length m) (omega (arith, length-drop (p + 1) m))) refl

        whole : 4 ≤ length (drop (p + 1) m) → Alike (bytes_of 4 0 c (p + 1) (drop (p + 1) m))
        whole l = subst Alike (sym (bytes_there 4 0 c (p + 1) (drop (p + 1) m) l))
            (ap (λ (z : ℕ). Done 4 z [] c) (sym (pick_true _ _ (is_five l))))

    pub number_in_thousandths : (s : Sort)
        → number_under {I = I} Thousandths (forms_of s) p b c (p + 1) (drop (p + 1) m)
        ≡ renamed (in_thousandths_at m p s) (number_from (forms_of s) p b c (p + 1) (drop (p + 1) m))
    unfolding is_double
    number_in_thousandths Null = alike Null (sort_settled Null refl b) refl
    number_in_thousandths False = alike False (sort_settled False refl b) refl
    number_in_thousandths True = alike True (sort_settled True refl b) refl
    number_in_thousandths Int = alike Int (sort_settled Int refl b) refl
    number_in_thousandths Long = alike Long (sort_settled Long refl b) refl
    number_in_thousandths Date = alike Date (sort_settled Date refl b) refl
    number_in_thousandths Double = by_cases (eqb b 0x5f)
        (λ t. five (eqb-true b 0x5f t))
        (λ t. alike Double (double_settled b (λ e. differ e t)) (rw (d, t) refl))
      where
        differ : b ≡ 0x5f → eqb b 0x5f ≡ false → ⊥
        differ e t = let f = eq-eqb b 0x5f e in let z : ◌≡◌ {A = ℕ} 0 1 = cc in omega arith

-- ---- scalars
module _ {C I : Type 0} (ρ : DoubleRule) (c : C) (p b : ℕ) where
  lead_lifts : (l : Lead) → Lifts {I = I} c (scalar_by ρ l p b) (scalar_by ρ l p b)
  lead_lifts (lead.Number s) = map_lifts c (Num s) (under_lifts c ρ (forms_of s) p b)
  lead_lifts lead.Text = map_lifts c (Str Utf8) (string_lifts c Utf8 p b)
  lead_lifts lead.Bytes = map_lifts c (Str Binary) (string_lifts c Binary p b)
  lead_lifts lead.List = fail_lifts c 3 p
  lead_lifts lead.TypedList = fail_lifts c 3 p
  lead_lifts lead.Map = fail_lifts c 3 p
  lead_lifts lead.TypedMap = fail_lifts c 3 p
  lead_lifts lead.Object = fail_lifts c 3 p
  lead_lifts lead.Reference = fail_lifts c 3 p
  lead_lifts lead.Definition = fail_lifts c 3 p
  lead_lifts lead.Close = fail_lifts c 3 p
  lead_lifts lead.Reserved = fail_lifts c 3 p

  pub scalar_lifts : Lifts {I = I} c (scalar_from ρ p b) (scalar_from ρ p b)
  scalar_lifts = record {
    lifts = λ at s. scalar_by_law ρ p b c at s
        ∙ (lead_lifts (lead_of b)).lifts at s
        ∙ ap (lifted c) (sym (scalar_by_law ρ p b tt at s));
  }

module _ {C I : Type 0} (c : C) (p b : ℕ) where
  pub int_lifts : Lifts {I = I} c (int_from p b) (int_from p b)
  unfolding int_from
  int_lifts = number_lifts c (forms_of Int) p b

  pub text_lifts : Lifts {I = I} c (text_from p b) (text_from p b)
  unfolding text_from
  text_lifts = string_lifts c Utf8 p b

-- a scalar at p, in thousandths
module _ (m : List ℕ) (p : ℕ) {C I : Type 0} (b : ℕ) (d : get_or m p 0 ≡ b) (c : C) where
  lead_in_thousandths : (l : Lead) → scalar_by {I = I} Thousandths l p b c (p + 1) (drop (p + 1) m)
      ≡ renamed (scalar_in_thousandths m p) (scalar_by Floats l p b c (p + 1) (drop (p + 1) m))
  lead_in_thousandths (lead.Number s) =
      ap (renamed (Num s)) (number_in_thousandths m p b d c s)
      ∙ go (number_from (forms_of s) p b c (p + 1) (drop (p + 1) m))
    where
      go : (o : Outcome C I ℕ) → renamed (Num s) (renamed (in_thousandths_at m p s) o)
          ≡ renamed (scalar_in_thousandths m p) (renamed (Num s) o)
      go (Done n v es c') = refl
      go (Fault x o) = refl
  lead_in_thousandths lead.Text = string (string_from Utf8 p b c (p + 1) (drop (p + 1) m))
    where
      string : (o : Outcome C I (List ℕ)) → renamed (Str Utf8) o
          ≡ renamed (scalar_in_thousandths m p) (renamed (Str Utf8) o)
      string (Done n v es c') = refl
      string (Fault x o) = refl
  lead_in_thousandths lead.Bytes = string (string_from Binary p b c (p + 1) (drop (p + 1) m))
    where
      string : (o : Outcome C I (List ℕ)) → renamed (Str Binary) o
          ≡ renamed (scalar_in_thousandths m p) (renamed (Str Binary) o)
      string (Done n v es c') = refl
      string (Fault x o) = refl
  lead_in_thousandths lead.List = refl
  lead_in_thousandths lead.TypedList = refl
  lead_in_thousandths lead.Map = refl
  lead_in_thousandths lead.TypedMap = refl
  lead_in_thousandths lead.Object = refl
  lead_in_thousandths lead.Reference = refl
  lead_in_thousandths lead.Definition = refl
  lead_in_thousandths lead.Close = refl
  lead_in_thousandths lead.Reserved = refl

  pub scalar_in_thousandths_law : scalar_from {I = I} Thousandths p b c (p + 1) (drop (p + 1) m)
      ≡ renamed (scalar_in_thousandths m p) (scalar_from Floats p b c (p + 1) (drop (p + 1) m))
  scalar_in_thousandths_law =
      scalar_by_law Thousandths p b c (p + 1) (drop (p + 1) m)
      ∙ lead_in_thousandths (lead_of b)
      ∙ ap (renamed (scalar_in_thousandths m p)) (sym (scalar_by_law Floats p b c (p + 1) (drop (p + 1) m)))

-- ---- every scalar that is spelled under a rule has a form of the main rule: a double in eight bytes, if no shorter
number_main : {ρ : DoubleRule} {ws : List Form} {t : List ℕ} {v : ℕ} → NumberUnder ρ ws t v → AllSettled ws
    → Number ws t v
number_main {ρ} (here {w = w} (held q t l e i)) x =
    here (subst (HeldUnder Floats w ((w.head + q) ∷ t))
    (sym (ap (λ (φ : ℕ → ℕ). φ (joined q t)) (value_settled ρ w.rule x.0))) (held q t l e i))
number_main (later n) x = later (number_main n x.1)

double_main : (v : ℕ) → v < 2 ^ 64 → (w : List ℕ) × Number (forms_of Double) w v
unfolding forms_of
double_main v h =
    let y = held_by (form 0x44 1 8 Plain) v (high_below 8 v 1 (omega arith)) in (
      _,
      later (later
          (later (later (later (here (subst (HeldUnder Floats (form 0x44 1 8 Plain) _) (value_plain v) y)))))),
    )

pub spelled_main : {ρ : DoubleRule} {w : List ℕ} {x : Scalar} → SpeltUnder ρ w x → (v : List ℕ) × Spelt v x
unfolding is_double
spelled_main (a_number {s = Double} {v = v} n) =
    let y = double_main v (number_bits Double n) in (y.0, a_number y.1)
spelled_main (a_number {s = Null} {w = w} n) = (w, a_number (number_main n (all_settled Null refl)))
spelled_main (a_number {s = False} {w = w} n) = (w, a_number (number_main n (all_settled False refl)))
spelled_main (a_number {s = True} {w = w} n) = (w, a_number (number_main n (all_settled True refl)))
spelled_main (a_number {s = Int} {w = w} n) = (w, a_number (number_main n (all_settled Int refl)))
spelled_main (a_number {s = Long} {w = w} n) = (w, a_number (number_main n (all_settled Long refl)))
spelled_main (a_number {s = Date} {w = w} n) = (w, a_number (number_main n (all_settled Date refl)))
spelled_main (a_string {w = w} y) = (w, a_string y)

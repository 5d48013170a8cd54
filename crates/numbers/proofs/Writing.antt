-- The shortest form: what the code tries, form by form, and what it then stores.
use Rattle.std.proofs.Common.{◌≡◌, ℕ, zero, suc, ◌+◌, ◌-◌, ◌*◌, ◌/◌, ◌^◌, ◌<◌, ◌≤◌, Bool, true, false, cond, ◌&&◌, T, leb, List, [], ◌∷◌, ◌++◌, length, set, sym, refl, ap, ◌∙◌, subst, add-zero, arith, leb→le, drop-drop, length-set, w32, w64, le-ltb, lt-ltb, eq-eqb, ne_eqb}
use mathlib.Core.Option.{Option, none, some}
use native.Mathlib.Nat.{div-div-eq-div-mul}
use borrow.Rule.Slice.PartMut.{put_mid}
use Rattle.std.specs.Int.{to_be_bytes}
use Rattle.flow.specs.Tests.{and_left, and_right}
use Rattle.flow.specs.Flow.{stored, reported}
use Rattle.flow.specs.OverlayLaws.{stored_in, stored_out, stored_sets, stored_seam, length_stored}
use Rattle.wire.specs.BigEndian.{be, high, wider}
use Rattle.wire.specs.Laws.{be_length, be_bytes, joined_be, joined_below}
use Rattle.scalar.specs.declared.Sort.{Sort}
use Rattle.scalar.specs.declared.Sort.TheVariants.{Null, False, True, Int, Long, Double, Date}
use Rattle.scalar.specs.declared.Rule.{Rule}
use Rattle.scalar.specs.declared.Rule.TheVariants.{Plain}
use Rattle.std.specs.Prelude.{Result, Ok, Err, Some, None}
use Rattle.std.specs.declared.option.Option as code
use Rattle.std.specs.Option.{MatchOption, ok_or, option_or}
use Rattle.std.specs.Result.{IsErrAnd}
use Rattle.std.proofs.lemmas.Result.{err_from_is_err_and}
use Rattle.scalar.specs.declared.Unwritten.{Unwritten}
use Rattle.scalar.specs.declared.Unwritten.TheVariants.{NoSuchForm}
use Rattle.numbers.specs.declared.Spelling.{Spelling}
use Rattle.scalar.proofs.DoubleLaws.{powers}
use Rattle.scalar.specs.Scalars.{value, Form, form, forms_of, spelling, fits, shortest}
use Rattle.scalar.specs.Guesses.{guess}
use Rattle.scalar.proofs.RuleLaws.{value_plain, guess_plain}
use Rattle.scalar.proofs.FormLaws.{forms_null, forms_false, forms_true, forms_int, forms_long, forms_double, forms_date}
use Rattle.scalar.proofs.FormLaws.{shortest_none, shortest_first}
use Rattle.scalar.specs.NumberLaws.{tried}
use Rattle.scalar.proofs.NumberLaws.{EachForm, IsNumber, number_fact, shortest_is}
use Rattle.numbers.specs.Answers.{Takes, Good, spelled, HasRoom}
use Rattle.scalar.specs.Answers.{report, report_of, output_of, length_of}
use Rattle.scalar.proofs.AnswerLaws.{report_none, report_stored, report_over, output_none, output_some}
use Rattle.scalar.proofs.AnswerLaws.{length_none, length_some}

-- ---- one form
-- what stands before the k lowest bytes is the quotient
pub high_is : (k u : ℕ) → high k u ≡ u / 2 ^ (8 * k)
high_is zero u = omega arith
high_is (suc k) u =
    high_is k (u / 256) ∙ div-div-eq-div-mul u 256 (2 ^ (8 * k))
    ∙ ap (λ (n : ℕ). u / n) (sym (powers (8 * suc k) 8 (8 * k) (omega arith)))

pub below : (k u c : ℕ) → high k u < c → u < wider k c
below k u c h = rw (joined_be k u) at (joined_below (be k u) k (high k u) c (be_length k u) (be_bytes k u) h)

module _ (head codes more : ℕ) (rule : Rule) (v u : ℕ) (g : u ≡ guess rule v) where
  -- the guess is too large
  pub tried_past : codes ≤ u / 2 ^ (8 * more) → none ≡ tried (form head codes more rule) v none
  tried_past h = rw (← g, le-ltb (high more u) codes (rw high_is h))

  module _ (l : u / 2 ^ (8 * more) < codes) where
    pub tried_takes : Good (form head codes more rule) → Takes rule u
    tried_takes w = w.takes u (below more u codes (rw high_is l))

    -- it stands for another value, or for v
    pub tried_not : (r : ℕ) → r ≡ value rule u → (r ≡ v → ⊥) → none ≡ tried (form head codes more rule) v none
    tried_not r e n = rw (← g, lt-ltb (high more u) codes (rw high_is l), ← e, ne_eqb r v n)

    pub tried_yes : (r : ℕ) → r ≡ value rule u → r ≡ v
        → some ((head + u / 2 ^ (8 * more)) ∷ be more u) ≡ tried (form head codes more rule) v none
    tried_yes r e n = rw (← g, lt-ltb (high more u) codes (rw high_is l), ← e, eq-eqb r v n, high_is more u)

-- a form with one first byte, where u is its number for v and r the value of u
module _ (head more : ℕ) (rule : Rule) (v u r : ℕ) (g : u ≡ guess rule v) (e : r ≡ value rule u)
    (l : u / 2 ^ (8 * more) < 1) where
  pub held_yes : r ≡ v → some (head ∷ be more u) ≡ tried (form head 1 more rule) v none
  held_yes n =
      let z : head + u / 2 ^ (8 * more) ≡ head = omega arith in
      rw (ap (λ (x : ℕ). some (x ∷ be more u)) z) at (tried_yes head 1 more rule v u g l r e n)

  pub held_not : (r ≡ v → ⊥) → none ≡ tried (form head 1 more rule) v none
  held_not n = tried_not head 1 more rule v u g l r e n

-- ---- one form after the other: what was found first, or else the other
abbrev or_else : Option (List ℕ) → Option (List ℕ) → Option (List ℕ)
or_else none other = other
or_else (some w) other = some w

else_else : (o p q : Option (List ℕ)) → or_else (or_else o p) q ≡ or_else o (or_else p q)
else_else none p q = refl
else_else (some s) p q = refl

tried_else : (w : Form) (v : ℕ) (o : Option (List ℕ)) → or_else (tried w v none) o ≡ tried w v o
tried_else w v o = by_test (fits w v) (spelling w (guess w.rule v))
  where
    by_test : (t : Bool) (s : List ℕ) → or_else (cond t (some s) none) o ≡ cond t (some s) o
    by_test true s = refl
    by_test false s = refl

pub last_found : (w : Form) (v : ℕ) {o : Option (List ℕ)} → o ≡ tried w v none → o ≡ shortest (w ∷ []) v
last_found w v e = e ∙ ap (tried w v) (sym (shortest_none v)) ∙ sym (shortest_first v w [])

-- past all the forms ws, which came to o, w is tried
added : (ws : List Form) (w : Form) (v : ℕ) {o r : Option (List ℕ)} → o ≡ shortest ws v
    → r ≡ or_else o (tried w v none)
    → r ≡ shortest (ws ++ (w ∷ [])) v
added [] w v e f = last_found w v (f ∙ ap (λ (o : Option (List ℕ)). or_else o (tried w v none)) (e ∙ shortest_none v))
added (x ∷ ws) w v e f =
    f
    ∙ rw (e, shortest_first v x ws, ← tried_else x v (shortest ws v), else_else, added ws w v refl refl, tried_else)
    (sym (shortest_first v x (ws ++ (w ∷ []))))

-- the same of a spelling o and, where it is none, of what was spelled by trying w, of which C is known
pub tried_after : (ws : List Form) (w : Form) (v : ℕ) (o r : code.Option Spelling) {C : Type 0}
    → spelled o ≡ shortest ws v → MatchOption o C (λ x. r ≡ Some x) → (C → spelled r ≡ tried w v none)
    → spelled r ≡ shortest (ws ++ (w ∷ [])) v
tried_after ws w v None r e m f = added ws w v e (f m)
tried_after ws w v (Some x) r e m f = added ws w v e (ap spelled m)

-- the same where trying w was spelled anyway
pub plain_after : (ws : List Form) (w : Form) (v : ℕ) (o p r : code.Option Spelling)
    → spelled o ≡ shortest ws v → r ≡ option_or o p → spelled p ≡ tried w v none
    → spelled r ≡ shortest (ws ++ (w ∷ [])) v
plain_after ws w v None p r e m f = added ws w v e (ap spelled m ∙ f)
plain_after ws w v (Some x) p r e m f = added ws w v e (ap spelled m)

-- the form of all 64 bits holds any value
pub plain_holds : (head v : ℕ) → v < 2 ^ 64 → some (head ∷ be 8 v) ≡ tried (form head 1 8 Plain) v none
plain_holds head v l =
    let z : high 8 v ≡ 0 = omega arith in
    rw (guess_plain v, value_plain v, z, eq-eqb v v refl, add-zero)

-- ---- how long a form is
abbrev short : List Form → Bool
short [] = true
short (w ∷ ws) = leb w.extra 8 && short ws

each_short : (ws : List Form) → T (short ws) → EachForm (λ n v. n ≤ 9) ws
each_short [] t = tt
each_short (w ∷ ws) t = (
  (λ u l. omega (arith, leb→le w.extra 8 (and_left (leb w.extra 8) (short ws) t))),
  each_short ws (and_right (leb w.extra 8) (short ws) t),
)

all_short : (s : Sort) → T (short (forms_of s))
all_short Null = rw forms_null tt
all_short False = rw forms_false tt
all_short True = rw forms_true tt
all_short Int = rw forms_int tt
all_short Long = rw forms_long tt
all_short Double = rw forms_double tt
all_short Date = rw forms_date tt

-- ---- what was put, by the form: how many bytes it has, if there is one, and what the list then holds
abbrev Form? : Option (List ℕ) → code.Option ℕ → Type 0
Form? o r = MatchOption r (o ≡ none) (λ n. (0 < n) × (n ≡ length_of o))

pub put_none : {o : Option (List ℕ)} (l : List ℕ) (at : ℕ) → o ≡ none → Form? o None × (l ≡ output_of o l at)
put_none l at e = (e, rw e (sym (output_none l at)))

pub put_as : {o : Option (List ℕ)} {w : List ℕ} (l : List ℕ) (at : ℕ) {l' : List ℕ} {n : ℕ} → l' ≡ stored l at w
    → n ≡ length w → 0 < n → o ≡ some w → Form? o (Some n) × (l' ≡ output_of o l at)
put_as {w = w} l at f e h g = rw g ((h, e ∙ sym (length_some w)), f ∙ sym (output_some l at w))

-- of one whose forms are ws
pub put_forms : {s x : Sort} (v : ℕ) {ws : List Form} (l : List ℕ) (at : ℕ) {l' : List ℕ} (r : code.Option ℕ)
    → s ≡ x → forms_of x ≡ ws → Form? (shortest ws v) r × (l' ≡ output_of (shortest ws v) l at)
    → Form? (shortest (forms_of s) v) r × (l' ≡ output_of (shortest (forms_of s) v) l at)
put_forms v l at r e f h = rw (e, f) h

-- no spelling
pub unspelled : {o : Option (List ℕ)} (l : List ℕ) (at : ℕ) (z : code.Option Spelling) → z ≡ None → spelled z ≡ o
    → Form? o None × (l ≡ output_of o l at)
unspelled l at z i f = put_none l at (sym f ∙ ap spelled i)

-- ---- what is reported of it: there is no form, passed on as the refusal y; it has no room; it has room
form_there : (o : Option (List ℕ)) {n : ℕ} → (0 < n) × (n ≡ length_of o)
    → (w : List ℕ) × (o ≡ some w) × (n ≡ length w)
form_there none h = absurd (omega (arith, h.0, h.1, length_none))
form_there (some w) h = (w, refl, h.1 ∙ length_some w)

module _ (o : Option (List ℕ)) (l l' : List ℕ) (at : ℕ) (f : l' ≡ output_of o l at) (n : ℕ) (w : List ℕ)
    (e : o ≡ some w) (g : n ≡ length w) where
  same : length l' ≡ length l
  same = rw (f, e, output_some) (length_stored l at w)

  over : length l' < at + n → reported 9 n ≡ report_of o (length l) at
  over h = rw (e, g) (sym (report_over (length l) at w (omega (arith, h, same, g))))

  within : at + n ≤ length l' → reported 0 n ≡ report_of o (length l) at
  within h = rw (e, g) (sym (report_stored (length l) at w (omega (arith, h, same, g))))

module _ (o : Option (List ℕ)) (l l' : List ℕ) (at : ℕ) (r : code.Option ℕ)
    (f : Form? o r × (l' ≡ output_of o l at)) where
  pub told_none : (x : Result ℕ Unwritten) (y : Unwritten) → IsErrAnd x (λ e. e ≡ y) → Err y ≡ ok_or r NoSuchForm
      → r ≡ None → report x ≡ report_of o (length l) at
  told_none x y h e i =
      let p = err_from_is_err_and x h in
      let q : y ≡ NoSuchForm = cc (e ∙ ap (λ (z : code.Option ℕ). ok_or z NoSuchForm) i) in
      let n : o ≡ none = subst (Form? o) i f.0 in
      rw (p.1, p.2, q, n) (sym (report_none (length l) at))

  module _ (n : ℕ) (i : r ≡ Some n) where
    pub told_over : (x : Result ℕ Unwritten) (y : Unwritten) → IsErrAnd x (λ e. e ≡ y)
        → HasRoom (length l') at n (Err y) → report x ≡ report_of o (length l) at
    told_over x y h c =
        let p = err_from_is_err_and x h in
        let w = form_there o (subst (Form? o) i f.0) in
        ap report (p.1 ∙ ap Err (p.2 ∙ c.1)) ∙ over o l l' at f.1 n w.0 w.1 w.2 c.0

    pub told_stored : at + n ≤ length l' → report (Ok n) ≡ report_of o (length l) at
    told_stored c =
        let w = form_there o (subst (Form? o) i f.0) in
        within o l l' at f.1 n w.0 w.1 w.2 c

-- a form has up to eight bytes after its first
pub few_more : (s : Sort) (v : ℕ) (x : Spelling) {r : code.Option Spelling} → spelled r ≡ shortest (forms_of s) v
    → r ≡ Some x → x.more ≤ 8
few_more s v x e q =
    let n = subst (IsNumber (forms_of s) v) (sym e ∙ ap spelled q) (shortest_is (forms_of s) v) in
    omega (arith, be_length x.more x.rest, number_fact (λ m x. m ≤ 9) n (each_short (forms_of s) (all_short s)))

-- a byte and a number's bytes, stored one after the other
pub code_stored : (l : List ℕ) (at code more rest : ℕ) → at + (more + 1) ≤ length l
    → stored (set l at code) (at + 1) (be more rest) ≡ stored l at (code ∷ be more rest)
code_stored l at code more rest h =
    rw (← stored_sets l at (code ∷ []) (omega arith))
    (stored_seam l at (code ∷ []) (be more rest) (rw be_length (omega arith)))

-- bytes copied over a part of k
pub part_stored : (l w : List ℕ) (at k : ℕ) → k ≡ length w → at + k ≤ length l → put_mid at k l w ≡ stored l at w
part_stored l w at k e h = rw (stored_in l at w (omega arith), drop-drop k at l, e)

-- the eight bytes of a number, by the library
pub be_eight : (n : ℕ) → to_be_bytes w64 n ≡ be 8 n
be_eight n =
    let a : n / 256 ^ 2 ≡ n / 256 / 256 = omega arith in
    let b : n / 256 ^ 3 ≡ n / 256 / 256 / 256 = omega arith in
    let c : n / 256 ^ 4 ≡ n / 256 / 256 / 256 / 256 = omega arith in
    let d : n / 256 ^ 5 ≡ n / 256 / 256 / 256 / 256 / 256 = omega arith in
    let e : n / 256 ^ 6 ≡ n / 256 / 256 / 256 / 256 / 256 / 256 = omega arith in
    let f : n / 256 ^ 7 ≡ n / 256 / 256 / 256 / 256 / 256 / 256 / 256 = omega arith in
    rw (a, b, c, d, e, f) refl

-- and the four of one of 32 bits
pub be_four : (n : ℕ) → to_be_bytes w32 n ≡ be 4 n
be_four n =
    let a : n / 256 ^ 2 ≡ n / 256 / 256 = omega arith in
    let b : n / 256 ^ 3 ≡ n / 256 / 256 / 256 = omega arith in
    rw (a, b) refl

-- a byte and k bytes after it
pub wide_stored : (k : ℕ) (l b : List ℕ) (at code v : ℕ) → at + (k + 1) ≤ length l → b ≡ be k v
    → put_mid (at + 1) (at + (k + 1) - (at + 1)) (set l at code) b ≡ stored l at (code ∷ be k v)
wide_stored k l b at code v h e =
    let n = be_length k v in
    rw e
    (part_stored (set l at code) (be k v) (at + 1) (at + (k + 1) - (at + 1)) (omega (arith, n)) (rw length-set (omega arith))
    ∙ code_stored l at code k v h)

-- Reading a single value: what a first byte begins, that what a form holds suits its rule, and each way out of reading.
use Rattle.std.proofs.Common.{◌≡◌, ℕ, zero, suc, ◌+◌, ◌-◌, ◌%◌, ◌^◌, ◌<◌, ◌≤◌, ◌&&◌, T, leb, List, [], ◌∷◌, length, get_or, take, drop, sym, ap, ◌∙◌, subst, mod-eq_of_lt, add-one, arith, length-drop, length-take, w8, Fits, rules}
use Rattle.std.specs.Prelude.{Result, Err, Some, None}
use Rattle.std.specs.declared.option.Option as code
use Rattle.std.specs.Result.{IsErrAnd}
use Rattle.std.proofs.lemmas.Result.{err_from_is_err_and}
use Rattle.flow.specs.Tests.{and_left, and_right, within_yes, within_is, bytes_take, bytes_drop, bytes_all}
use Rattle.flow.specs.Flow.{Bytes, Done, Fault}
use Rattle.flow.specs.Steps.{Answer}
use Rattle.wire.specs.BigEndian.{joined, be}
use Rattle.wire.specs.Laws.{be_length, be_bytes, joined_below}
use Rattle.scalar.specs.declared.Sort.{Sort}
use Rattle.scalar.specs.declared.Sort.TheVariants.{Null, False, True, Int, Long, Double, Date}
use Rattle.scalar.specs.declared.Rule.{Rule}
use Rattle.scalar.specs.declared.Rule.TheVariants.{Plain}
use Rattle.scalar.specs.declared.Begun.{Begun}
use Rattle.scalar.specs.declared.refusals.Refused.{Refused}
use Rattle.scalar.specs.Refusals.{fault}
use Rattle.scalar.specs.Scalars.{value, Form, form, forms_of, begun, form_at}
use Rattle.scalar.specs.Grammar.{Number, held, here, later}
use Rattle.scalar.specs.Answers.{number_at}
use Rattle.scalar.proofs.NumberLengths.{length_read_law}
use Rattle.numbers.specs.declared.NumberPassed.{NumberPassed}
use Rattle.numbers.specs.declared.NumberRead.{NumberRead}
use Rattle.numbers.specs.Answers.{passed, cut_at, ByteThere, Measured, NumberMet, Takes}
use Rattle.scalar.proofs.FormLaws.{forms_null, forms_false, forms_true, forms_int, forms_long, forms_double, forms_date}
use Rattle.scalar.proofs.FormLaws.{form_none, form_either}
use Rattle.scalar.proofs.NumberLaws.{size, form_here, form_skip, clear, proper, number_apart}
use Rattle.scalar.proofs.NumberAt.{number_ends, number_none, number_cut, number_there}
use Rattle.scalar.proofs.Sorts.{properly}

pub starts : {k u v : ℕ} {r : Rule} → u ≡ v → Some (begun k u r) ≡ Some (begun k v r)
starts {k} {u} {v} {r} e = ap (λ (n : ℕ). Some (begun k n r)) e

-- ---- a first byte of the form with the index i; past the last there is none
abbrev nth : List Form → ℕ → Form
nth ws i = get_or ws i (form 0 0 0 Plain)

nth_number : (ws : List Form) (i q : ℕ) → q < (nth ws i).codes
    → Number ws (((nth ws i).head + q) ∷ be (nth ws i).extra 0)
    (value (nth ws i).rule (joined q (be (nth ws i).extra 0)))
nth_number [] i q l = absurd (omega arith)
nth_number (w ∷ ws) zero q l = here (held q (be w.extra 0) l (be_length w.extra 0) (be_bytes w.extra 0))
nth_number (w ∷ ws) (suc i) q l = later (nth_number ws i q l)

nth_starts : (ws : List Form) (i q : ℕ) → T (proper ws) → q < (nth ws i).codes
    → form_at ws ((nth ws i).head + q) ≡ Some (begun (nth ws i).extra q (nth ws i).rule)
nth_starts [] i q p l = absurd (omega arith)
nth_starts (w ∷ ws) zero q p l =
    form_here w ws (w.head + q) (within_yes w.head (w.head + w.codes) (w.head + q) (omega arith) (omega arith))
    ∙ starts (omega arith)
nth_starts (w ∷ ws) (suc i) q p l =
    form_skip w ws ((nth ws i).head + q)
    (number_apart w (nth_number ws i q l) (and_left (clear w ws) (leb (w.head + w.codes) 256 && proper ws) p))
    ∙ nth_starts ws i q
    (and_right (leb (w.head + w.codes) 256) (proper ws)
    (and_right (clear w ws) (leb (w.head + w.codes) 256 && proper ws) p)) l

pub begins : (s : Sort) {ws : List Form} → forms_of s ≡ ws → (i : ℕ) {b u : ℕ}
    → (nth ws i).head + u ≡ b → u < (nth ws i).codes
    → Some (begun (nth ws i).extra u (nth ws i).rule) ≡ form_at (forms_of s) b
begins s {ws} f i {b} {u} e l =
    let proper_forms : T (proper ws) = subst (λ (ws : List Form). T (proper ws)) f (properly s) in
    sym (nth_starts ws i u proper_forms l) ∙ ap (form_at ws) e ∙ ap (λ (ws : List Form). form_at ws b) (sym f)

-- ---- a byte that no form begins with
abbrev pub Outside : List Form → ℕ → Type 0
Outside [] b = Unit {0}
Outside (w ∷ ws) b = (w.head ≤ b → b < w.head + w.codes → ⊥) × Outside ws b

pub no_form : (ws : List Form) (b : ℕ) → Outside ws b → None ≡ form_at ws b
no_form [] b o = sym (form_none b)
no_form (w ∷ ws) b o = form_either (λ (x : code.Option Begun). None ≡ x) w ws b
    (λ e. let r = within_is w.head (w.head + w.codes) b (rw e tt) in absurd (o.0 r.0 r.1))
    (λ e. no_form ws b o.1)

pub begins_none : (s : Sort) {ws : List Form} → forms_of s ≡ ws → (b : ℕ) → Outside ws b → None ≡ form_at (forms_of s) b
begins_none s {ws} f b o = no_form ws b o ∙ ap (λ (ws : List Form). form_at ws b) (sym f)

-- ---- what a form holds suits its rule, and 64 bits
abbrev Room : Form → Type 0
Room w = (w.extra ≤ 8) × (size w ≤ 2 ^ 64) × ((u : ℕ) → u < size w → Takes w.rule u)

abbrev Rooms : List Form → Type 0
Rooms [] = Unit {0}
Rooms (w ∷ ws) = Room w × Rooms ws

rooms : (s : Sort) → Rooms (forms_of s)
rooms Null = rw forms_null (search rules)
rooms False = rw forms_false (search rules)
rooms True = rw forms_true (search rules)
rooms Int = rw forms_int (search rules)
rooms Long = rw forms_long (search rules)
rooms Double = rw forms_double (search rules)
rooms Date = rw forms_date (search rules)

-- so any bytes after a first byte do
abbrev pub Suits : code.Option Begun → Type 0
Suits None = Unit {0}
Suits (Some z) =
    (z.more ≤ 8)
    × ((t : List ℕ) → length t ≡ z.more → Bytes t → (joined z.held t < 2 ^ 64) × Takes z.rule (joined z.held t))

form_suits : (ws : List Form) (b : ℕ) → Rooms ws → Suits (form_at ws b)
form_suits [] b h = rw (form_none b) tt
form_suits (w ∷ ws) b h = form_either Suits w ws b
    (λ e.
    let r = within_is w.head (w.head + w.codes) b (rw e tt) in (
      h.0.0,
      λ t x y.
          let l = joined_below t w.extra (b - w.head) w.codes x y (omega (arith, r.0, r.1)) in
          (omega (arith, h.0.1), h.0.2 (joined (b - w.head) t) l),
    ))
    (λ e. form_suits ws b h.1)

pub suits : (s : Sort) (b : ℕ) (z : Begun) → form_at (forms_of s) b ≡ Some z → Suits (Some z)
suits s b z e = subst Suits e (form_suits (forms_of s) b (rooms s))

-- ---- a refusal that is passed on
pub refused : (x : Result NumberPassed Refused) (r : Refused) → IsErrAnd x (λ y. y ≡ r) → {o : Answer ℕ}
    → fault r ≡ o → passed x ≡ o
refused x r h e = let p = err_from_is_err_and x h in rw (p.1, p.2) e

-- ---- each way out, by the byte b at p and what it begins
module _ (s : Sort) (m : List ℕ) (p : ℕ) where
  pub passed_end : (x : Result NumberPassed Refused) (r : Refused) → IsErrAnd x (λ y. y ≡ r) → ByteThere m p (Err r)
      → passed x ≡ number_at s m p
  passed_end x r h e = refused x r h (ap fault e.1 ∙ sym (number_ends s m p e.0))

  module _ (b : ℕ) (l : p < length m) (byte : b ≡ get_or m p 0) (x : code.Option Begun)
      (is : x ≡ form_at (forms_of s) b) where
    begun_there : form_at (forms_of s) (get_or m p 0) ≡ x
    begun_there = ap (form_at (forms_of s)) (sym byte) ∙ sym is

    pub reads_none : x ≡ None → Fault 3 p ≡ number_at s m p
    reads_none e = sym (number_none s m p l (begun_there ∙ e))

    module _ (z : Begun) (e : x ≡ Some z) where
      pub reads_cut : (r : Refused) → length m - p ≤ z.more → r ≡ cut_at (length m) → fault r ≡ number_at s m p
      reads_cut r h i = ap fault i ∙ sym (number_cut s m p l z (begun_there ∙ e) (omega arith))

      module _ (bytes : (i : ℕ) → Fits w8 (get_or m i 0)) (h : z.more < length m - p) (n : ℕ)
          (at : n ≡ joined z.held (take z.more (drop (p + 1) m)) % 2 ^ 64) where
        abbrev rest : List ℕ
        rest = take z.more (drop (p + 1) m)

        suited : (joined z.held rest < 2 ^ 64) × Takes z.rule (joined z.held rest)
        suited =
            (suits s (get_or m p 0) z (begun_there ∙ e)).1 rest (simp (length-take, length-drop) (omega arith))
            (bytes_take z.more (drop (p + 1) m) (bytes_drop (p + 1) m (bytes_all m (λ i. (bytes i).fits))))

        same : n ≡ joined z.held rest
        same = at ∙ mod-eq_of_lt suited.0

        pub reads_takes : Takes z.rule n
        reads_takes = rw same suited.1

        pub reads_value : (v : ℕ) → v ≡ value z.rule n → Done (z.more + 1) v [] tt ≡ number_at s m p
        reads_value v q =
            ap (λ (y : ℕ). Done (z.more + 1) y [] tt) (q ∙ ap (value z.rule) same)
            ∙ rw (add-one p, add-one z.more) (sym (number_there s m p l z (begun_there ∙ e) (omega arith)))

-- ---- with the length of the shortest form
-- what is measured is what was passed
pub met_measured : (s : Sort) (m : List ℕ) (p : ℕ) {n : Result NumberPassed Refused} {r : Result NumberRead Refused}
    → passed n ≡ number_at s m p → Measured s n r → NumberMet s m p r
met_measured s m p e h = record { says = h.says ∙ e; shortest = h.shortest ∙ length_read_law s m p e }

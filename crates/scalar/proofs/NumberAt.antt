-- A value at a place of a whole message, by its first byte and by what is left of the message.
use Rattle.std.specs.Prelude.{◌≡◌, refl, List, [], ◌∷◌, ℕ, zero, suc, ◌+◌, ◌*◌, ◌≤◌, ◌<◌, length, take, drop, get_or}
use Rattle.std.specs.Prelude.{Some, None}
use Rattle.std.specs.declared.option.Option as code
use Rattle.std.proofs.Common.{sym, ◌∙◌, ap, add-zero, arith, length-drop, drop_of_length-le, drop-cons}
use Rattle.std.proofs.Math.Nat.{min-eq_left, min-eq_right}
use Rattle.flow.specs.Flow.{Outcome, Done, Fault, One, byte_at}
use Rattle.flow.specs.Steps.{stepped, alone}
use Rattle.flow.specs.Lifts.{Lifts, give_lifts, fail_lifts, byte_lifts, map_lifts}
use Rattle.wire.specs.BigEndian.{joined}
use Rattle.scalar.specs.declared.Sort.{Sort}
use Rattle.scalar.specs.declared.Begun.{Begun}
use Rattle.scalar.specs.Scalars.{value, DoubleRule, Floats, value_under, Form, forms_of, form_at, bytes_of}
use Rattle.scalar.specs.Scalars.{number_under}
use Rattle.scalar.specs.Scalars.{number_from}
use Rattle.scalar.proofs.NumberLaws.{begun_under, number_by}
use Rattle.scalar.specs.Answers.{number_at}

-- ---- the bytes after the first: all there, or the message ends
module _ {C I : Type 0} where
  pub bytes_there : (k u : ℕ) (c : C) (at : ℕ) (s : List ℕ) → k ≤ length s
      → bytes_of {I = I} k u c at s ≡ Done k (joined u (take k s)) [] c
  bytes_there zero u c at s l = refl
  bytes_there (suc k) u c at [] l = absurd (omega arith)
  bytes_there (suc k) u c at (b ∷ s) l = ap stepped (bytes_there k (256 * u + b) c (at + 1) s (omega arith))

  pub bytes_cut : (k u : ℕ) (c : C) (at : ℕ) (s : List ℕ) → length s < k
      → bytes_of {I = I} k u c at s ≡ Fault 2 (at + length s)
  bytes_cut zero u c at s l = absurd (omega arith)
  bytes_cut (suc k) u c at [] l = ap (λ (o : ℕ). Fault 2 o) (sym (add-zero at))
  bytes_cut (suc k) u c at (b ∷ s) l =
      ap stepped (bytes_cut k (256 * u + b) c (at + 1) s (omega arith)) ∙ ap (λ (o : ℕ). Fault 2 o) (omega arith)

-- ---- a value of any forms, by the first byte
module _ (ws : List Form) (m : List ℕ) (p : ℕ) where
  abbrev at_place : Outcome One One ℕ
  at_place = alone (byte_at (number_from ws)) m p

  ends : length m ≤ p → at_place ≡ Fault 2 (length m)
  ends l = rw (drop_of_length-le m l, min-eq_right l)

  module _ (l : p < length m) where
    first : at_place ≡ stepped (number_by (form_at ws (get_or m p 0)) p tt (p + 1) (drop (suc p) m))
    first = rw (drop-cons m p 0 l, min-eq_left {n = p} {m = length m} (omega arith))

    none_here : form_at ws (get_or m p 0) ≡ None → at_place ≡ Fault 3 p
    none_here e = first ∙ rw e refl

    module _ (z : Begun) (e : form_at ws (get_or m p 0) ≡ Some z) where
      cut : length m ≤ p + z.more → at_place ≡ Fault 2 (length m)
      cut h =
          first
          ∙ rw (e, bytes_cut {I = One} z.more z.held (tt {0}) (p + 1) (drop (suc p) m) (omega (arith, length-drop (suc p) m)))
          (ap (λ (o : ℕ). Fault 2 o) (omega (arith, length-drop (suc p) m)))

      there : p + z.more < length m → at_place ≡ Done (suc z.more) (value z.rule (joined z.held (take z.more (drop (suc p) m)))) [] tt
      there h =
          first
          ∙ rw
          (e, bytes_there {I = One} z.more z.held (tt {0}) (p + 1) (drop (suc p) m) (omega (arith, length-drop (suc p) m))) refl

-- ---- the same of a kind of value
module _ (s : Sort) (m : List ℕ) (p : ℕ) where
  pub number_ends : length m ≤ p → number_at s m p ≡ Fault 2 (length m)
  unfolding number_at
  number_ends l = ends (forms_of s) m p l

  module _ (l : p < length m) where
    pub number_none : form_at (forms_of s) (get_or m p 0) ≡ None → number_at s m p ≡ Fault 3 p
    unfolding number_at
    number_none e = none_here (forms_of s) m p l e

    module _ (z : Begun) (e : form_at (forms_of s) (get_or m p 0) ≡ Some z) where
      pub number_cut : length m ≤ p + z.more → number_at s m p ≡ Fault 2 (length m)
      unfolding number_at
      number_cut h = cut (forms_of s) m p l z e h

      pub number_there : p + z.more < length m
          → number_at s m p ≡ Done (suc z.more) (value z.rule (joined z.held (take z.more (drop (suc p) m)))) [] tt
      unfolding number_at
      number_there h = there (forms_of s) m p l z e h

-- ---- what is known, and what the items are, does not matter
module _ {C I : Type 0} (c : C) where
  bytes_lifts : (k u : ℕ) → Lifts {I = I} c (bytes_of k u) (bytes_of k u)
  bytes_lifts zero u = give_lifts c u
  bytes_lifts (suc k) u = byte_lifts c (λ p b. bytes_lifts k (256 * u + b))

  by_lifts : (ρ : DoubleRule) (x : code.Option Begun) (p : ℕ) → Lifts {I = I} c (begun_under ρ x p) (begun_under ρ x p)
  by_lifts ρ None p = fail_lifts c 3 p
  by_lifts ρ (Some z) p = map_lifts c (value_under ρ z.rule) (bytes_lifts z.more z.held)

  pub under_lifts : (ρ : DoubleRule) (ws : List Form) (p b : ℕ)
      → Lifts {I = I} c (number_under ρ ws p b) (number_under ρ ws p b)
  under_lifts ρ ws p b = by_lifts ρ (form_at ws b) p

  pub number_lifts : (ws : List Form) (p b : ℕ) → Lifts {I = I} c (number_from ws p b) (number_from ws p b)
  number_lifts = under_lifts Floats

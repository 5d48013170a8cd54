-- The answers case by case, so that the crates above need not open their definitions.
use Rattle.std.specs.Prelude.{◌≡◌, Bool, ◌&&◌, List, ℕ, ◌+◌, ◌≤◌, ◌<◌, eqb}
use Rattle.std.proofs.Math.Path.{refl, ap}
use Rattle.std.proofs.Common.{◌∙◌}
use Rattle.std.proofs.Math.Bool.{true, false}
use Rattle.std.proofs.Math.Option.{none, some}
use Rattle.std.proofs.Math.ListN.{length}
use borrow.Author.Tests.{le-leb, lt-leb, eq-eqb, ne_eqb}
use Rattle.flow.specs.Flow.{Done, Fault, Entry, One, stored, reported}
use Rattle.flow.specs.Tests.{pick_true, pick_false}
use Rattle.scalar.specs.declared.Encoding.{Encoding}
use Rattle.scalar.specs.Scalars.{units, string_at, shortest_string}
use Rattle.flow.specs.Steps.{Answer, renamed}
use Rattle.scalar.specs.Answers.{report_of, output_of, length_of, sizes, measured_at, form_of, item_form}
use Rattle.scalar.specs.Answers.{sized_of, sized_form}

-- ---- what storing a form comes to: there is none; it fits; it does not fit
module _ (len at : ℕ) where
  pub report_none : report_of none len at ≡ reported 10 0
  unfolding report_of
  report_none = refl

  module _ (w : List ℕ) where
    pub report_stored : at + length w ≤ len → report_of (some w) len at ≡ reported 0 (length w)
    unfolding report_of
    report_stored h = pick_true _ _ (le-leb (at + length w) len h)

    pub report_over : len < at + length w → report_of (some w) len at ≡ reported 9 (length w)
    unfolding report_of
    report_over h = pick_false _ _ (lt-leb (at + length w) len h)

-- what the slice then holds
module _ (l : List ℕ) (at : ℕ) where
  pub output_none : output_of none l at ≡ l
  unfolding output_of
  output_none = refl

  pub output_some : (w : List ℕ) → output_of (some w) l at ≡ stored l at w
  unfolding output_of
  output_some w = refl

-- how long the form is
pub length_none : length_of none ≡ 0
unfolding length_of
length_none = refl

pub length_some : (w : List ℕ) → length_of (some w) ≡ length w
unfolding length_of
length_some w = refl

-- ---- the sizes of a text or byte string, by what is read there: in either case; none stands there; one does
module _ (k : Encoding) (m : List ℕ) (p : ℕ) where
  pub measured_as : {o : Answer (List ℕ)} → string_at k m p ≡ o → measured_at k m p ≡ renamed (sizes k) o
  unfolding measured_at
  measured_as e = ap (renamed (sizes k)) e

  pub measured_fault : (x o : ℕ) → string_at k m p ≡ Fault x o → measured_at k m p ≡ Fault x o
  unfolding measured_at
  measured_fault x o e = rw e refl

  pub measured_done : (n : ℕ) (cs : List ℕ) (es : List (Entry One)) (c : One)
      → string_at k m p ≡ Done n cs es c → measured_at k m p ≡ Done n (sizes k cs) es c
  unfolding measured_at
  measured_done n cs es c e = rw e refl

  -- ---- its shortest form: none stands there; one does
  pub item_fault : (x o : ℕ) → string_at k m p ≡ Fault x o → item_form k m p ≡ none
  unfolding item_form
  item_fault x o e = ap (form_of k) e

  pub item_done : (n : ℕ) (cs : List ℕ) (es : List (Entry One)) (c : One)
      → string_at k m p ≡ Done n cs es c → item_form k m p ≡ shortest_string k cs
  unfolding item_form
  item_done n cs es c e = ap (form_of k) e

-- the same, if its content has u units and b bytes: none stands there; it has both; it has other units,
-- or other bytes
module _ (k : Encoding) (m : List ℕ) (p u b : ℕ) where
  pub sized_fault : (x o : ℕ) → string_at k m p ≡ Fault x o → sized_form k m p u b ≡ none
  unfolding sized_form
  sized_fault x o e = ap (sized_of k u b) e

  module _ (n : ℕ) (cs : List ℕ) (es : List (Entry One)) (c : One) (e : string_at k m p ≡ Done n cs es c) where
    pub sized_both : units k cs ≡ u → length cs ≡ b → sized_form k m p u b ≡ shortest_string k cs
    unfolding sized_form
    sized_both g h = ap (sized_of k u b) e ∙ pick_true _ _ (rw (eq-eqb (units k cs) u g, eq-eqb (length cs) b h) refl)

    pub sized_other_units : (units k cs ≡ u → ⊥) → sized_form k m p u b ≡ none
    unfolding sized_form
    sized_other_units g = ap (sized_of k u b) e ∙ pick_false _ _ (rw (ne_eqb (units k cs) u g) refl)

    pub sized_other_bytes : (length cs ≡ b → ⊥) → sized_form k m p u b ≡ none
    unfolding sized_form
    sized_other_bytes h =
        ap (sized_of k u b) e ∙ pick_false _ _ (rw (ne_eqb (length cs) b h) (and_false (eqb (units k cs) u)))
      where
        and_false : (t : Bool) → t && false ≡ false
        and_false true = refl
        and_false false = refl

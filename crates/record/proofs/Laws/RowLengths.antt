-- 2026-06: how many bytes of the shortest message are a row's own, by its numbers and, of texts and byte strings, by
-- what its place opens in the message.
use Rattle.std.specs.Prelude.{◌≡◌, Bool, true, false, ◌&&◌, List, [], ◌∷◌, ◌++◌, map, ℕ, suc, ◌+◌, ◌≤◌, eqb, length, get_or}
use Rattle.std.proofs.Math.Path.{refl, ap}
use Rattle.std.proofs.Common.{◌∙◌, arith, ne_eqb, eqb-true}
use Rattle.std.proofs.Math.Option.{Option, none, some}
use Rattle.flow.specs.Flow.{pick, Entry, Done, Fault, One}
use Rattle.flow.specs.Steps.{Answer}
use Rattle.flow.specs.Tests.{by_cases, pick_false}
use Rattle.scalar.specs.declared.Encoding.{Encoding}
use Rattle.scalar.specs.declared.Encoding.TheVariants.{Utf8, Binary}
use Rattle.scalar.specs.declared.Sort.{Sort}
use Rattle.scalar.specs.declared.Sort.TheVariants.{Null, False, True, Int, Long, Double, Date}
use Rattle.scalar.specs.Scalars.{DoubleRule, Floats, Thousandths, forms_of, sort_kind, total, shortest, shortest_int}
use Rattle.scalar.specs.Scalars.{string_at}
use Rattle.scalar.specs.Answers.{number_at, length_of, length_read, number_length_at, Sizes, sized, sizes, measured_at}
use Rattle.scalar.specs.Answers.{item_form}
use Rattle.scalar.proofs.AnswerLaws.{length_none, length_some, measured_fault, measured_done, item_done}
use Rattle.scalar.proofs.NumberLaws.{IsNumber, shortest_is, EachForm, number_fact}
use Rattle.record.specs.Model.Kinds.{double_kind}
use Rattle.record.specs.Model.Kinds.{text_kind, bytes_kind, list_kind, typed_list_kind, map_kind, typed_map_kind}
use Rattle.record.specs.Model.Kinds.{object_kind, reference_kind, class_kind, class_name_kind, field_name_kind}
use Rattle.record.specs.Model.Kinds.{type_name_kind, type_number_kind}
use Rattle.record.specs.Model.Rows.{Row, row}
use Rattle.record.specs.Model.Terms.{at_five_f, first_in_thousandths, row_in_thousandths}
use Rattle.record.specs.Laws.RowLengths.{list_length, object_length, row_length, length_under}

-- ---- by the kind. The fifth number plays no part
module _ (m : List ℕ) (p a b e : ℕ) where
  pub number_row_length : (s : Sort) → row_length m (row (sort_kind s) p a b e) ≡ length_of (shortest (forms_of s) a)
  unfolding row_length pick
  number_row_length Null = refl
  number_row_length False = refl
  number_row_length True = refl
  number_row_length Int = refl
  number_row_length Long = refl
  number_row_length Double = refl
  number_row_length Date = refl

  pub text_row_length : row_length m (row text_kind p a b e) ≡ length_of (item_form Utf8 m p)
  unfolding row_length pick
  text_row_length = refl

  pub class_name_row_length : row_length m (row class_name_kind p a b e) ≡ length_of (item_form Utf8 m p)
  unfolding row_length pick
  class_name_row_length = refl

  pub field_name_row_length : row_length m (row field_name_kind p a b e) ≡ length_of (item_form Utf8 m p)
  unfolding row_length pick
  field_name_row_length = refl

  pub type_name_row_length : row_length m (row type_name_kind p a b e) ≡ length_of (item_form Utf8 m p)
  unfolding row_length pick
  type_name_row_length = refl

  pub bytes_row_length : row_length m (row bytes_kind p a b e) ≡ length_of (item_form Binary m p)
  unfolding row_length pick
  bytes_row_length = refl

  pub list_row_length : row_length m (row list_kind p a b e) ≡ list_length a
  unfolding row_length pick
  list_row_length = refl

  pub typed_list_row_length : row_length m (row typed_list_kind p a b e) ≡ list_length a
  unfolding row_length pick
  typed_list_row_length = refl

  pub map_row_length : row_length m (row map_kind p a b e) ≡ 2
  unfolding row_length pick
  map_row_length = refl

  pub typed_map_row_length : row_length m (row typed_map_kind p a b e) ≡ 2
  unfolding row_length pick
  typed_map_row_length = refl

  pub object_row_length : row_length m (row object_kind p a b e) ≡ object_length a
  unfolding row_length pick
  object_row_length = refl

  pub reference_row_length : row_length m (row reference_kind p a b e) ≡ suc (length_of (shortest_int a))
  unfolding row_length pick
  reference_row_length = refl

  pub class_row_length : row_length m (row class_kind p a b e) ≡ suc (length_of (shortest_int a))
  unfolding row_length pick
  class_row_length = refl

  pub type_number_row_length : row_length m (row type_number_kind p a b e) ≡ length_of (shortest_int a)
  unfolding row_length pick
  type_number_row_length = refl

-- ---- the fifth number
pub row_length_moved : (m : List ℕ) (x : Row) (e : ℕ)
    → row_length m (row x.kind x.place x.first x.second e) ≡ row_length m x
unfolding row_length
row_length_moved m x e = refl

pub under_moved : (ρ : DoubleRule) (m : List ℕ) (x : Row) (e : ℕ)
    → length_under ρ m (row x.kind x.place x.first x.second e) ≡ length_under ρ m x
under_moved Floats m x e = row_length_moved m x e
under_moved Thousandths m x e = row_length_moved m (row_in_thousandths m x) e

-- ---- rows one after the other
pub lengths_append : (f : Row → ℕ) (rs qs : List Row) → total (map f (rs ++ qs)) ≡ total (map f rs) + total (map f qs)
lengths_append f [] qs = omega arith
lengths_append f (x ∷ rs) qs = omega (arith, lengths_append f rs qs)

-- ---- what reading a single value, a text or a byte string says of its shortest form
module _ (s : Sort) (m : List ℕ) (p : ℕ) where
  pub number_read_length : (n v : ℕ) (es : List (Entry One)) (c : One) → number_at s m p ≡ Done n v es c
      → number_length_at s m p ≡ length_of (shortest (forms_of s) v)
  unfolding number_length_at
  number_read_length n v es c e = ap (length_read s) e

module _ (k : Encoding) (m : List ℕ) (p : ℕ) where
  pub measured_length : (n u b w : ℕ) (es : List (Entry One)) (c : One)
      → measured_at k m p ≡ Done n (sized u b w) es c → length_of (item_form k m p) ≡ w
  measured_length n u b w es c e = go (string_at k m p) refl
    where
      go : (o : Answer (List ℕ)) → string_at k m p ≡ o → length_of (item_form k m p) ≡ w
      go (Done j cs fs y) q =
          let d = measured_done k m p j cs fs y q in
          let s : sizes k cs ≡ sized u b w = cc in
          ap length_of (item_done k m p j cs fs y q) ∙ ap (λ (s : Sizes). s.shortest) s
      go (Fault x o) q =
          let d = measured_fault k m p x o q in
          let z : ◌≡◌ {A = ℕ} 0 1 = cc in
          absurd (omega arith)

-- ---- under either rule of 5f
module _ (m : List ℕ) (x : Row) where
  -- a row that is no double's at 5f has the same length
  pub under_same : (ρ : DoubleRule) → at_five_f m x ≡ false → length_under ρ m x ≡ row_length m x
  under_same Floats e = refl
  under_same Thousandths e =
      ap (λ (v : ℕ). row_length m (row x.kind x.place v x.second x.after)) (pick_false _ _ e)

  pub under_other_kind : (ρ : DoubleRule) → (x.kind ≡ double_kind → ⊥) → length_under ρ m x ≡ row_length m x
  under_other_kind ρ h = under_same ρ (rw (ne_eqb x.kind double_kind h) refl)

  pub under_other_byte : (ρ : DoubleRule) → (get_or m x.place 0 ≡ 0x5f → ⊥) → length_under ρ m x ≡ row_length m x
  under_other_byte ρ h = under_same ρ (rw (ne_eqb (get_or m x.place 0) 0x5f h) (neither (eqb x.kind double_kind)))
    where
      neither : (t : Bool) → t && false ≡ false
      neither true = refl
      neither false = refl

-- a double's is that of its bits in thousandths
pub double_under : (m : List ℕ) (p a b e : ℕ) → length_under Thousandths m (row double_kind p a b e)
    ≡ length_of (shortest (forms_of Double) (first_in_thousandths m (row double_kind p a b e)))
double_under m p a b e = number_row_length m p (first_in_thousandths m (row double_kind p a b e)) b e Double

-- a single value has at most nine bytes
pub number_most : (s : Sort) (v : ℕ) → length_of (shortest (forms_of s) v) ≤ 9
unfolding forms_of
number_most s v = go (shortest (forms_of s) v) (shortest_is (forms_of s) v)
  where
    each : (s : Sort) → EachForm (λ n v. n ≤ 9) (forms_of s)
    each Null = (λ u i. omega arith, tt)
    each False = (λ u i. omega arith, tt)
    each True = (λ u i. omega arith, tt)
    each Int = (λ u i. omega arith, (λ u i. omega arith, (λ u i. omega arith, (λ u i. omega arith, tt))))
    each Long = (λ u i. omega arith, (λ u i. omega arith, (λ u i. omega arith, (λ u i. omega arith, (λ u i. omega arith, tt)))))
    each Double = (λ u i. omega arith, (λ u i. omega arith, (λ u i. omega arith, (λ u i. omega arith, (λ u i. omega arith, (λ u i. omega arith, tt))))))
    each Date = (λ u i. omega arith, (λ u i. omega arith, tt))

    go : (o : Option (List ℕ)) → IsNumber (forms_of s) v o → length_of o ≤ 9
    go none h = omega (arith, length_none)
    go (some w) h =
        let l : length w ≤ 9 = number_fact {ρ = Floats} (λ n v. n ≤ 9) h (each s) in
        omega (arith, length_some w)

-- so that a row's length is at most nine more than by the main rule
pub under_most : (ρ : DoubleRule) (m : List ℕ) (x : Row) → length_under ρ m x ≤ 9 + row_length m x
under_most Floats m x = omega arith
under_most Thousandths m x = by_cases (at_five_f m x)
    (λ t. omega (arith, number_most Double (first_in_thousandths m x), at_double (left_true _ _ t)))
    (λ t. omega (arith, under_same m x Thousandths t))
  where
    left_true : (s t : Bool) → s && t ≡ true → s ≡ true
    left_true true t h = refl
    left_true false t h = h

    at_double : eqb x.kind double_kind ≡ true
        → length_under Thousandths m x ≡ length_of (shortest (forms_of Double) (first_in_thousandths m x))
    at_double h =
        ap (λ (k : ℕ). row_length m (row k x.place (first_in_thousandths m x) x.second x.after))
        (eqb-true x.kind double_kind h)
        ∙ number_row_length m x.place (first_in_thousandths m x) x.second x.after Double

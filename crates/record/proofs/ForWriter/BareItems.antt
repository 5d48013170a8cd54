-- No value stands among the items of a type or a definition.
use Rattle.std.specs.Prelude.{◌≡◌, refl, List, [], ◌∷◌, ◌++◌, ℕ, zero, suc, ◌+◌, ◌-◌, ◌<◌, length, drop}
use Rattle.std.proofs.Common.{sym, ◌∙◌, ap, arith, drop-drop}
use Rattle.record.specs.Model.Items.{Value, Item, Val, Known, Limits}
use Rattle.record.specs.Model.Shortest.{Put, value?, put_type, put_definition}
use Rattle.record.specs.Laws.Takes.{Taken}
use Rattle.record.proofs.Laws.Takes.{before_taken, NoValue, no_item, no_value, type_takes}
use Rattle.record.proofs.Laws.Takes.{ClassItems, class_items, definition_taken}
use Rattle.record.specs.ForWriter.WritingAt.{WrittenTo, walk}
use Rattle.record.proofs.ForWriter.WritingAt.{at_within, walk_taken}
use Rattle.record.specs.ForWriter.BareItems.{NoneIn}

none_there : {t : List Item} → NoValue t → (r z : List Item) (m : ℕ) (v : Value) → m < length t
    → drop m (t ++ r) ≡ Val v ∷ z → ⊥
none_there no_item r z m v l e = omega arith
none_there (no_value {i = i} n x) r z zero v l e =
    let d : i ≡ Val v = cc in
    let s = sym n ∙ ap value? d in
    let q : ◌≡◌ {A = ℕ} 0 1 = cc in
    omega arith
none_there (no_value n x) r z (suc m) v l e = none_there x r z m v (omega arith) e

class_valueless : (t : List Item) → ClassItems t → NoValue t
class_valueless t (class_items x) = no_value refl x.valueless

-- ---- from k up to p
module _ (ℓ : Limits) (c : Known) (is : List Item) (k : ℕ) (w : List ℕ) (p : ℕ) (c' : Known) where
  none_in : (f : Put) → ((c : Known) (s : List Item) → Taken NoValue s (f c s)) → walk f c is k ≡ WrittenTo w p c'
      → NoneIn is k p
  none_in f h e j l m v a =
      let (t, d, n, x) = walk_taken c is k f h (omega (arith, at_within is j (Val v) a)) w p c' e in
      let s : k + (j - k) ≡ j = omega arith in
      none_there x (drop p is) (drop (suc j) is) (j - k) v (omega arith)
      (ap (drop (j - k)) (sym d) ∙ drop-drop (j - k) k is ∙ ap (λ (i : ℕ). drop i is) s ∙ a)

  pub definition_none : walk (put_definition ℓ) c is k ≡ WrittenTo w p c' → NoneIn is k p
  definition_none = none_in (put_definition ℓ) (λ c s. before_taken [] class_valueless (definition_taken ℓ c s))

  pub type_none : (t : ℕ) → walk (put_type ℓ t) c is k ≡ WrittenTo w p c' → NoneIn is k p
  type_none t = none_in (put_type ℓ t) (λ c s. before_taken [] (λ t x. x.valueless) ((type_takes ℓ t).takes c s))

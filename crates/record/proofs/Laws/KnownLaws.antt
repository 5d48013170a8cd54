-- What is known: the struct of the code.
use Rattle.std.specs.Prelude.{◌≡◌, [], ◌∷◌, ◌++◌, ℕ, ◌+◌, ◌≤◌, ◌<◌, length, take, set, refl}
use Rattle.std.proofs.Common.{sym, ap, ◌∙◌, add-one, arith, length-set, length-take-le, take-suc-set, lt-ltb, le-ltb}
use Rattle.flow.specs.Tests.{pick_true, pick_false}
use Rattle.record.specs.Model.Items.{opened, typed, defined}
use Rattle.record.specs.Model.Answers.{base}
use Rattle.record.specs.Laws.KnownLaws.{known_in, Kept, defined_in}
use Rattle.record.specs.declared.known.Known as code

module _ (k : code.Known) (n : ℕ) where
  -- a class of n fields, as the next
  abbrev pub one_class : code.Known
  one_class = record k { fields = set k.fields k.classes n; classes = k.classes + 1 }

  pub defined_room : k.classes < base.classes → one_class ≡ defined_in k n
  defined_room l = sym (pick_true _ _ (lt-ltb k.classes base.classes l))

  pub defined_full : base.classes ≤ k.classes → k ≡ defined_in k n
  defined_full l = sym (pick_false _ _ (le-ltb k.classes base.classes l))

-- as many classes as it counts
pub classes_counted : {k : code.Known} → Kept k → length (known_in k).classes ≡ k.classes
classes_counted {k} w = length-take-le k.classes k.fields (omega (arith, w.sized, w.classes_few))

module _ (k : code.Known) (w : Kept k) where
  -- ---- other numbers of types and references: the classes are the same
  module _ (t r : ℕ) where
    abbrev others : code.Known
    others = record k { types = t; references = r }

    same_classes : others.classes ≡ k.classes
    same_classes = refl

    classes_stay : (known_in others).classes ≡ (known_in k).classes
    classes_stay = refl

  -- ---- a list, map or object opens
  abbrev pub one_reference : code.Known
  one_reference = record k { references = k.references + 1 }

  pub references_more : one_reference.references ≡ k.references + 1
  references_more = refl

  pub types_same : one_reference.types ≡ k.types
  types_same = refl

  pub known_opened : known_in one_reference ≡ opened (known_in k)
  known_opened = λ j. record { references = add-one k.references j; types = k.types; classes = take k.classes k.fields }

  pub kept_opened : Kept one_reference
  kept_opened = record { sized = w.sized; classes_few = w.classes_few; types_few = w.types_few }

  -- ---- a type name gets the next number
  abbrev pub one_type : code.Known
  one_type = record k { types = k.types + 1 }

  pub references_same : one_type.references ≡ k.references
  references_same = refl

  types_more : one_type.types ≡ k.types + 1
  types_more = refl

  pub known_typed : known_in one_type ≡ typed (known_in k)
  known_typed = λ j. record { references = k.references; types = add-one k.types j; classes = take k.classes k.fields }

  pub kept_typed : k.types < base.types → Kept one_type
  kept_typed l = record { sized = w.sized; classes_few = w.classes_few; types_few = omega (arith, l) }

  -- ---- a class of n fields gets the next number
  module _ (n : ℕ) (l : k.classes < base.classes) where
    classes_more : (one_class k n).classes ≡ k.classes + 1
    classes_more = refl

    pub references_stay : (one_class k n).references ≡ k.references
    references_stay = refl

    pub known_defined : known_in (one_class k n) ≡ defined n (known_in k)
    known_defined =
        let classes : take (k.classes + 1) (set k.fields k.classes n) ≡ take k.classes k.fields ++ (n ∷ []) =
        ap (λ (i : ℕ). take i (set k.fields k.classes n)) (add-one k.classes)
        ∙ take-suc-set k.fields k.classes n (omega (arith, w.sized)) in
        λ i. record { references = k.references; types = k.types; classes = classes i }

    pub kept_defined : Kept (one_class k n)
    kept_defined = record {
      sized = length-set k.fields k.classes n ∙ w.sized;
      classes_few = omega (arith, l);
      types_few = w.types_few;
    }

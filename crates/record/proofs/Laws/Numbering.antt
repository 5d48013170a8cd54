-- The items of a message: there is at least one, and each class definition among them gets the next class number.
use Rattle.std.specs.Prelude.{◌≡◌, refl, Bool, true, false, List, [], ◌∷◌, ◌++◌, ℕ, zero, suc, ◌<◌, length}
use Rattle.std.proofs.Common.{sym, ◌∙◌, ap, subst, append_assoc, append-nil, arith, length-append}
use Rattle.std.proofs.Math.Option.{Option, none, some}
use Rattle.flow.specs.Flow.{Bytes}
use Rattle.flow.specs.Grammar.{Phrase, Many, finished, another, Ended, ended, Preceded, alone, first}
use Rattle.scalar.specs.Scalars.{DoubleRule}
use Rattle.record.specs.Model.Items.{Item, FieldName, Known, start, Limits}
use Rattle.record.specs.Model.Grammar.{NameForm, a_name, TypeForm, type_spelled, type_numbered, PairForm, a_pair}
use Rattle.record.specs.Model.Grammar.{PlainForm, a_leaf, a_few_typed, a_counted_typed, an_open_typed, a_few}
use Rattle.record.specs.Model.Grammar.{a_counted, an_open, a_typed_map, a_map, a_few_object, an_object}
use Rattle.record.specs.Model.Grammar.{a_reference, DefinitionForm, a_definition, ValueForm}
use Rattle.record.specs.Model.Grammar.{Nowhere}
use Rattle.record.specs.Model.Shortest.{definition?}
use Rattle.record.specs.Model.Terms.{Accepts}
use Rattle.record.proofs.Laws.Meaning.{message_form}
use Rattle.record.proofs.Theorems.RowTheorems.{judged_done}

abbrev pub onto : Option ℕ → List ℕ → List ℕ
onto none ns = ns
onto (some n) ns = n ∷ ns

-- the number of fields of each class definition among the items, in their order
abbrev pub definitions : List Item → List ℕ
definitions [] = []
definitions (x ∷ is) = onto (definition? x) (definitions is)

onto_append : (o : Option ℕ) (a b : List ℕ) → onto o (a ++ b) ≡ onto o a ++ b
onto_append none a b = refl
onto_append (some n) a b = refl

definitions_append : (is js : List Item) → definitions (is ++ js) ≡ definitions is ++ definitions js
definitions_append [] js = refl
definitions_append (x ∷ is) js =
    ap (onto (definition? x)) (definitions_append is js) ∙ onto_append (definition? x) (definitions is) (definitions js)

-- the classes after are those before, and the definitions among the items
abbrev After : Known → List Item → Known → Type 0
After c is c' = c'.classes ≡ c.classes ++ definitions is

seam : (a b c : Known) (is js : List Item) → After a is b → After b js c → After a (is ++ js) c
seam a b c is js e f =
    f ∙ ap (λ (z : List ℕ). z ++ definitions js) e ∙ append_assoc a.classes (definitions is) (definitions js)
    ∙ ap (λ (z : List ℕ). a.classes ++ z) (sym (definitions_append is js))

abbrev Adds : Phrase Known Item → Type 0
Adds G = (c : Known) (w : List ℕ) (is : List Item) (c' : Known) → G c w is c' → (0 < length is) × After c is c'

many_adds : (G : Phrase Known Item) → Adds G → {n : ℕ} {c c' : Known} {w : List ℕ} {is : List Item} → Many G n c w is c'
    → After c is c'
many_adds G h (finished {c = c}) = sym (append-nil c.classes)
many_adds G h (another {c = c} {c₁ = c₁} {c₂ = c₂} {u = u} {is = is} {js = js} g r) =
    seam c c₁ c₂ is js (h c u is c₁ g).1 (many_adds G h r)

end_adds : (G : Phrase Known Item) → Adds G → {n : ℕ} {c c' : Known} {w : List ℕ} {is : List Item}
    → Ended 0x5a G n c w is c' → After c is c'
end_adds G h (ended r) = many_adds G h r

pair_adds : (G : Phrase Known Item) → Adds G → Adds (PairForm G)
pair_adds G h c w is c' (a_pair {c₁ = c₁} {u = u} {v = v} {is = is₁} {js = js} x y) = (
  omega (arith, length-append is₁ js, (h c u is₁ c₁ x).0),
  seam c c₁ c' is₁ js (h c u is₁ c₁ x).1
      (h c₁ v js c' y).1,
)

type_adds : (ℓ : Limits) {c c' : Known} {w : List ℕ} {t : ℕ} {is : List Item} → TypeForm ℓ c w t is c' → After c is c'
type_adds ℓ (type_spelled {c = c} l r) = sym (append-nil c.classes)
type_adds ℓ (type_numbered {c = c} x l) = sym (append-nil c.classes)

-- field names define nothing: the number is given once they are read
names_add : {n : ℕ} {c c' : Known} {w : List ℕ} {is : List Item} → Many (NameForm FieldName) n c w is c'
    → (c'.classes ≡ c.classes) × (definitions is ≡ [])
names_add finished = (refl, refl)
names_add (another (a_name t) r) = names_add r

definition_adds : (ℓ : Limits) → Adds (DefinitionForm ℓ)
definition_adds ℓ c w is c' (a_definition {n = n} l r i b f y) =
    let p = names_add y in
    (omega arith, ap (λ (z : List ℕ). z ++ (n ∷ [])) p.0 ∙ ap (λ (z : List ℕ). c.classes ++ (n ∷ z)) (sym p.1))

module _ (ρ : DoubleRule) (ℓ : Limits) (room : Bool) (G : Phrase Known Item) (h : Adds G) where
  plain_adds : Adds (PlainForm ρ ℓ room G)
  plain_adds c w is c' (a_leaf x) = (omega arith, sym (append-nil c.classes))
  plain_adds c w is c' (a_few r l y) = (omega arith, many_adds G h y)
  plain_adds c w is c' (a_counted r i l y) = (omega arith, many_adds G h y)
  plain_adds c w is c' (an_open r y) = (omega arith, end_adds G h y)
  plain_adds c w is c' (a_few_typed {c₁ = c₁} {is = is₁} {js = js} r l q y) =
      (omega arith, seam c c₁ c' is₁ js (type_adds ℓ q) (many_adds G h y))
  plain_adds c w is c' (a_counted_typed {c₁ = c₁} {is = is₁} {js = js} r q i l y) =
      (omega arith, seam c c₁ c' is₁ js (type_adds ℓ q) (many_adds G h y))
  plain_adds c w is c' (an_open_typed {c₁ = c₁} {is = is₁} {js = js} r q y) =
      (omega arith, seam c c₁ c' is₁ js (type_adds ℓ q) (end_adds G h y))
  plain_adds c w is c' (a_map r y) = (omega arith, end_adds (PairForm G) (pair_adds G h) y)
  plain_adds c w is c' (a_typed_map {c₁ = c₁} {is = is₁} {js = js} r q y) =
      (omega arith, seam c c₁ c' is₁ js (type_adds ℓ q) (end_adds (PairForm G) (pair_adds G h) y))
  plain_adds c w is c' (a_few_object r l i y) = (omega arith, many_adds G h y)
  plain_adds c w is c' (an_object r q i y) = (omega arith, many_adds G h y)
  plain_adds c w is c' (a_reference q l) = (omega arith, sym (append-nil c.classes))

preceded_adds : (ℓ : Limits) (G : Phrase Known Item) → Adds G → {c c' : Known} {w : List ℕ} {is : List Item}
    → Preceded 0x43 (DefinitionForm ℓ) G c w is c' → (0 < length is) × After c is c'
preceded_adds ℓ G h (alone {c = c} {c' = c'} {w = w} {is = is} x) = h c w is c' x
preceded_adds ℓ G h (first {c = c} {c₁ = c₁} {c₂ = c₂} {u = u} {is = is} {js = js} x r) =
    let p = definition_adds ℓ c u is c₁ x in
    (omega (arith, length-append is js, p.0), seam c c₁ c₂ is js p.1 (preceded_adds ℓ G h r).1)

value_adds : (ρ : DoubleRule) (ℓ : Limits) (d : ℕ) → Adds (ValueForm ρ ℓ d)
value_adds ρ ℓ zero c w is c' x =
    preceded_adds ℓ (PlainForm ρ ℓ false Nowhere) (plain_adds ρ ℓ false Nowhere (λ c w is c' x. absurd x)) x
value_adds ρ ℓ (suc d) c w is c' x =
    preceded_adds ℓ (PlainForm ρ ℓ true (ValueForm ρ ℓ d)) (plain_adds ρ ℓ true (ValueForm ρ ℓ d) (value_adds ρ ℓ d)) x

pub accepted_adds : (ρ : DoubleRule) (ℓ : Limits) (m : List ℕ) → Bytes m → (r : List Item) (x : Accepts ρ ℓ m r)
    → (0 < length r)
    × (x.known.classes ≡ definitions r)
accepted_adds ρ ℓ m b r x =
    let p = judged_done ρ ℓ m (length m) x.entries x.known x.done in
    let v = message_form ρ ℓ m b (length m) tt x.entries x.known p.1 in
    subst (λ (z : List Item). (0 < length z) × (x.known.classes ≡ definitions z)) x.reads_record
    (value_adds ρ ℓ ℓ.containers start m _ x.known v)

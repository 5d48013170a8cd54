-- How far a value goes: a record has at most as many items as bytes, and the items read do not depend on what follows.
use Rattle.std.specs.Prelude.{◌≡◌, Bool, true, false, List, [], ◌∷◌, ◌++◌, ℕ, zero, suc, ◌≤◌, ◌<◌, length, take}
use Rattle.std.proofs.Common.{subst, arith, length-append, length-take-le}
use Rattle.flow.specs.Flow.{Bytes, Entry, Done, One, items, byte_at}
use Rattle.flow.specs.Grammar.{Phrase, Many, finished, another, Ended, ended, Preceded, alone, first}
use Rattle.flow.specs.Laws.{Parsed, byte_reads, leads_byte}
use Rattle.scalar.specs.Grammar.{SpeltUnder}
use Rattle.scalar.specs.Scalars as scalars
use Rattle.scalar.specs.Grammar as scalar-grammar
use Rattle.scalar.proofs.NumberLaws.{number_some}
use Rattle.scalar.proofs.TextLaws.{string_some}
use Rattle.scalar.specs.Scalars.{DoubleRule}
use Rattle.record.specs.Model.Items.{Item, FieldName, Known, start, Limits}
use Rattle.record.specs.Model.Reading.{value_from}
use Rattle.record.specs.Model.Terms.{Reads}
use Rattle.record.specs.Model.Grammar.{NameForm, a_name, TypeForm, type_spelled, type_numbered, PairForm, a_pair}
use Rattle.record.specs.Model.Grammar.{DefinitionForm, a_definition, PlainForm, a_leaf, a_few, a_counted, an_open}
use Rattle.record.specs.Model.Grammar.{a_few_typed, a_counted_typed, an_open_typed, a_map, a_typed_map}
use Rattle.record.specs.Model.Grammar.{a_few_object, an_object, a_reference, ValueForm}
use Rattle.record.specs.Model.Grammar.{Nowhere}
use Rattle.record.proofs.Laws.Parses.{value_reads}
use Rattle.record.proofs.Laws.Derives.{value_makes}
use Rattle.record.proofs.Laws.Meaning.{reads_derived}

-- ---- at most as many items as bytes
abbrev Few : Phrase Known Item → Type 0
Few G = (c : Known) (w : List ℕ) (is : List Item) (c' : Known) → G c w is c' → length is ≤ length w

many_few : (G : Phrase Known Item) → Few G → {n : ℕ} {c c' : Known} {w : List ℕ} {is : List Item} → Many G n c w is c'
    → length is ≤ length w
many_few G h finished = omega arith
many_few G h (another {c = c} {c₁ = c₁} {u = u} {v = v} {is = is} {js = js} g r) =
    omega (arith, length-append is js, length-append u v, h c u is c₁ g, many_few G h r)

end_few : (G : Phrase Known Item) → Few G → {n : ℕ} {c c' : Known} {w : List ℕ} {is : List Item}
    → Ended 0x5a G n c w is c' → length is ≤ length w
end_few G h (ended {v = v} r) = omega (arith, length-append v (0x5a ∷ []), many_few G h r)

pub scalar_some : {ρ : DoubleRule} {w : List ℕ} {x : scalars.Scalar} → SpeltUnder ρ w x → 0 < length w
scalar_some (scalar-grammar.a_number n) = number_some n
scalar_some (scalar-grammar.a_string x) = string_some x

name_few : (x : List ℕ → Item) → Few (NameForm x)
name_few x c w is c' (a_name r) = omega (arith, string_some r)

type_few : (ℓ : Limits) {c c' : Known} {w : List ℕ} {t : ℕ} {is : List Item} → TypeForm ℓ c w t is c'
    → length is ≤ length w
type_few ℓ (type_spelled l r) = omega (arith, string_some r)
type_few ℓ (type_numbered x l) = omega (arith, number_some x)

pair_few : (G : Phrase Known Item) → Few G → Few (PairForm G)
pair_few G h c w is c' (a_pair {c₁ = c₁} {u = u} {v = v} {is = is₁} {js = js} x y) =
    omega (arith, length-append u v, length-append is₁ js, h c u is₁ c₁ x, h c₁ v js c' y)

definition_few : (ℓ : Limits) → Few (DefinitionForm ℓ)
definition_few ℓ c w is c' (a_definition {u = u} {v = v} {w = x} l r i b f y) =
    omega (
      arith,
      length-append u (v ++ x),
      length-append v x,
      string_some r,
      number_some i,
      many_few (NameForm FieldName) (name_few FieldName) y,
    )

module _ (ρ : DoubleRule) (ℓ : Limits) (room : Bool) (G : Phrase Known Item) (h : Few G) where
  plain_few : Few (PlainForm ρ ℓ room G)
  plain_few c w is c' (a_leaf x) = omega (arith, scalar_some x)
  plain_few c w is c' (a_few r l y) = omega (arith, many_few G h y)
  plain_few c w is c' (a_counted {u = u} {v = v} r i l y) = omega (arith, length-append u v, many_few G h y)
  plain_few c w is c' (an_open r y) = omega (arith, end_few G h y)
  plain_few c w is c' (a_few_typed {u = u} {v = v} {is = is₁} {js = js} r l q y) =
      omega (arith, length-append u v, length-append is₁ js, type_few ℓ q, many_few G h y)
  plain_few c w is c' (a_counted_typed {u = u} {v = v} {w = x} {is = is₁} {js = js} r q i l y) =
      omega (arith, length-append u (v ++ x), length-append v x, length-append is₁ js, type_few ℓ q, many_few G h y)
  plain_few c w is c' (an_open_typed {u = u} {v = v} {is = is₁} {js = js} r q y) =
      omega (arith, length-append u v, length-append is₁ js, type_few ℓ q, end_few G h y)
  plain_few c w is c' (a_map r y) = omega (arith, end_few (PairForm G) (pair_few G h) y)
  plain_few c w is c' (a_typed_map {u = u} {v = v} {is = is₁} {js = js} r q y) =
      omega (arith, length-append u v, length-append is₁ js, type_few ℓ q, end_few (PairForm G) (pair_few G h) y)
  plain_few c w is c' (a_few_object r l i y) = omega (arith, many_few G h y)
  plain_few c w is c' (an_object {u = u} {v = v} r q i y) = omega (arith, length-append u v, many_few G h y)
  plain_few c w is c' (a_reference q l) = omega arith

preceded_few : (ℓ : Limits) (G : Phrase Known Item) → Few G → {c c' : Known} {w : List ℕ} {is : List Item}
    → Preceded 0x43 (DefinitionForm ℓ) G c w is c' → length is ≤ length w
preceded_few ℓ G h (alone {c = c} {c' = c'} {w = w} {is = is} x) = h c w is c' x
preceded_few ℓ G h (first {c = c} {c₁ = c₁} {u = u} {v = v} {is = is} {js = js} x r) =
    omega (arith, length-append u v, length-append is js, definition_few ℓ c u is c₁ x, preceded_few ℓ G h r)

value_few : (ρ : DoubleRule) (ℓ : Limits) (d : ℕ) → Few (ValueForm ρ ℓ d)
value_few ρ ℓ zero c w is c' x =
    preceded_few ℓ (PlainForm ρ ℓ false Nowhere) (plain_few ρ ℓ false Nowhere (λ c w is c' x. absurd x)) x
value_few ρ ℓ (suc d) c w is c' x =
    preceded_few ℓ (PlainForm ρ ℓ true (ValueForm ρ ℓ d)) (plain_few ρ ℓ true (ValueForm ρ ℓ d) (value_few ρ ℓ d)) x

-- rows are at most as many as bytes
pub rows_few : (ρ : DoubleRule) (ℓ : Limits) (m : List ℕ) (r : List Item) → Reads ρ ℓ m r → length r ≤ length m
rows_few ρ ℓ m r x = let y = reads_derived ρ ℓ m r x in value_few ρ ℓ ℓ.containers start m r y.known y.derived

module _ (ρ : DoubleRule) (ℓ : Limits) (d : ℕ) where
  -- ---- what is read lies within the message; its items and what is known do not depend on what follows, nor on the
  -- place
  module _ (c : Known) (at : ℕ) (s : List ℕ) (b : Bytes s) (n : ℕ) (u : One) (es : List (Entry Item)) (c' : Known)
      (e : byte_at (value_from ρ ℓ d) c at s ≡ Done n u es c') where
    value_form : (n ≤ length s) × ValueForm ρ ℓ d c (take n s) (items es) c'
    value_form = subst (Parsed (λ w u is c'. ValueForm ρ ℓ d c w is c') s) e
        (byte_reads (value_from ρ ℓ d) (ValueForm ρ ℓ d) (value_reads ρ ℓ d) c at s b)

    pub value_within : n ≤ length s
    value_within = value_form.0

    pub value_local : (p : ℕ) (tail : List ℕ) → (fs : List (Entry Item))
        × (byte_at (value_from ρ ℓ d) c p (take n s ++ tail) ≡ Done n tt fs c') × (items fs ≡ items es)
    value_local p tail =
        let q = (leads_byte (value_from ρ ℓ d) (take n s) (value_makes ρ ℓ d c (take n s) (items es) c'
        value_form.1)).makes p tail in (
          q.0,
          subst (λ (k : ℕ). byte_at (value_from ρ ℓ d) c p (take n s ++ tail) ≡ Done k tt q.0 c')
              (length-take-le n s value_form.0) q.1,
          q.2,
        )

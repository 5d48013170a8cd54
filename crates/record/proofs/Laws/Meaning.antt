-- A message reads as a record exactly when the grammar derives it.
use Rattle.std.proofs.Math.Path.{◌≡◌, subst}
use Rattle.std.specs.Prelude.{refl, Bool, true, false, ℕ, zero, suc, ◌+◌, ◌≤◌, take}
use Rattle.std.proofs.Common.{sym, ◌∙◌, ap, arith, take-append-drop}
use mathlib.Core.List.{List, [], ◌∷◌, ◌++◌, append-nil}
use Rattle.std.proofs.Math.ListN.{length, drop, length-drop}
use Rattle.std.proofs.Math.Seq.{drop-append_seam}
use Rattle.flow.specs.Flow.{Bytes, Entry, Outcome, Done, Fault, One, items, then, byte_at}
use Rattle.flow.specs.Grammar.{Phrase, Many, finished, another, Ended, ended, Preceded, alone, first}
use Rattle.flow.specs.Tests.{bytes_append}
use Rattle.flow.specs.Steps.{before}
use Rattle.flow.specs.Laws.{Parsed, byte_reads, leads_byte}
use Rattle.scalar.proofs.ScalarLaws.{scalar_bytes, int_bytes, text_bytes}
use Rattle.scalar.specs.Scalars.{DoubleRule}
use Rattle.record.specs.Model.Items.{Item, FieldName, Known, start, Limits}
use Rattle.record.specs.Model.Reading.{value_from, message}
use Rattle.record.specs.Model.Terms.{Accepted, Reads}
use Rattle.record.specs.Model.Grammar.{NameForm, a_name, TypeForm, type_spelled, type_numbered, PairForm, a_pair}
use Rattle.record.specs.Model.Grammar.{DefinitionForm, a_definition, PlainForm, a_leaf, a_few, a_counted, an_open}
use Rattle.record.specs.Model.Grammar.{a_few_typed, a_counted_typed, an_open_typed, a_map, a_typed_map}
use Rattle.record.specs.Model.Grammar.{a_few_object, an_object, a_reference, ValueForm, Message}
use Rattle.record.specs.Model.Grammar.{Nowhere}
use Rattle.record.specs.Model.Reading.{ending}
use Rattle.record.proofs.Laws.Parses.{value_reads}
use Rattle.record.proofs.Laws.Derives.{value_makes}

-- ---- what is derived is bytes
abbrev Byted : Phrase Known Item → Type 0
Byted G = (c : Known) (w : List ℕ) (is : List Item) (c' : Known) → G c w is c' → Bytes w

many_bytes : (G : Phrase Known Item) → Byted G → {n : ℕ} {c c' : Known} {w : List ℕ} {is : List Item}
    → Many G n c w is c' → Bytes w
many_bytes G h finished = tt
many_bytes G h (another {c = c} {c₁ = c₁} {u = u} {v = v} {is = is} g r) =
    bytes_append u v (h c u is c₁ g) (many_bytes G h r)

end_bytes : (G : Phrase Known Item) → Byted G → {n : ℕ} {c c' : Known} {w : List ℕ} {is : List Item}
    → Ended 0x5a G n c w is c' → Bytes w
end_bytes G h (ended {v = v} r) = bytes_append v (0x5a ∷ []) (many_bytes G h r) (omega arith, tt)

name_bytes : (x : List ℕ → Item) → Byted (NameForm x)
name_bytes x c w is c' (a_name r) = text_bytes r

type_bytes : (ℓ : Limits) {c c' : Known} {w : List ℕ} {t : ℕ} {is : List Item} → TypeForm ℓ c w t is c' → Bytes w
type_bytes ℓ (type_spelled l r) = text_bytes r
type_bytes ℓ (type_numbered x l) = int_bytes x

pair_bytes : (G : Phrase Known Item) → Byted G → Byted (PairForm G)
pair_bytes G h c w is c' (a_pair {c₁ = c₁} {u = u} {v = v} {is = is₁} {js = js} x y) =
    bytes_append u v (h c u is₁ c₁ x) (h c₁ v js c' y)

definition_bytes : (ℓ : Limits) → Byted (DefinitionForm ℓ)
definition_bytes ℓ c w is c' (a_definition {u = u} {v = v} {w = x} l r i b f y) = bytes_append u (v ++ x) (text_bytes r)
    (bytes_append v x (int_bytes i) (many_bytes (NameForm FieldName) (name_bytes FieldName) y))

module _ (ρ : DoubleRule) (ℓ : Limits) (room : Bool) (G : Phrase Known Item) (h : Byted G) where
  plain_bytes : Byted (PlainForm ρ ℓ room G)
  plain_bytes c w is c' (a_leaf x) = scalar_bytes x
  plain_bytes c w is c' (a_few r l y) = (omega arith, many_bytes G h y)
  plain_bytes c w is c' (a_counted {u = u} {v = v} r i l y) =
      (omega arith, bytes_append u v (int_bytes i) (many_bytes G h y))
  plain_bytes c w is c' (an_open r y) = (omega arith, end_bytes G h y)
  plain_bytes c w is c' (a_few_typed {u = u} {v = v} r l q y) =
      (omega arith, bytes_append u v (type_bytes ℓ q) (many_bytes G h y))
  plain_bytes c w is c' (a_counted_typed {u = u} {v = v} {w = x} r q i l y) =
      (omega arith, bytes_append u (v ++ x) (type_bytes ℓ q) (bytes_append v x (int_bytes i) (many_bytes G h y)))
  plain_bytes c w is c' (an_open_typed {u = u} {v = v} r q y) =
      (omega arith, bytes_append u v (type_bytes ℓ q) (end_bytes G h y))
  plain_bytes c w is c' (a_map r y) = (omega arith, end_bytes (PairForm G) (pair_bytes G h) y)
  plain_bytes c w is c' (a_typed_map {u = u} {v = v} r q y) =
      (omega arith, bytes_append u v (type_bytes ℓ q) (end_bytes (PairForm G) (pair_bytes G h) y))
  plain_bytes c w is c' (a_few_object r l i y) = (omega arith, many_bytes G h y)
  plain_bytes c w is c' (an_object {u = u} {v = v} r q i y) =
      (omega arith, bytes_append u v (int_bytes q) (many_bytes G h y))
  plain_bytes c w is c' (a_reference q l) = (omega arith, int_bytes q)

preceded_bytes : (ℓ : Limits) (G : Phrase Known Item) → Byted G → {c c' : Known} {w : List ℕ} {is : List Item}
    → Preceded 0x43 (DefinitionForm ℓ) G c w is c' → Bytes w
preceded_bytes ℓ G h (alone {c = c} {c' = c'} {w = w} {is = is} x) = h c w is c' x
preceded_bytes ℓ G h (first {c = c} {c₁ = c₁} {u = u} {v = v} {is = is} x r) =
    (omega arith, bytes_append u v (definition_bytes ℓ c u is c₁ x) (preceded_bytes ℓ G h r))

pub value_bytes : (ρ : DoubleRule) (ℓ : Limits) (d : ℕ) → Byted (ValueForm ρ ℓ d)
value_bytes ρ ℓ zero c w is c' x =
    preceded_bytes ℓ (PlainForm ρ ℓ false Nowhere) (plain_bytes ρ ℓ false Nowhere (λ c w is c' x. absurd x)) x
value_bytes ρ ℓ (suc d) c w is c' x =
    preceded_bytes ℓ (PlainForm ρ ℓ true (ValueForm ρ ℓ d))
    (plain_bytes ρ ℓ true (ValueForm ρ ℓ d) (value_bytes ρ ℓ d)) x

module _ (ρ : DoubleRule) (ℓ : Limits) where
  -- ---- what is read is derived
  all_taken : (n : ℕ) (m : List ℕ) → drop n m ≡ [] → take n m ≡ m
  all_taken n m e = sym (append-nil (take n m)) ∙ ap (λ (z : List ℕ). take n m ++ z) (sym e) ∙ take-append-drop n m

  pub reads_derived : (m : List ℕ) (r : List Item) → Reads ρ ℓ m r → Message ρ ℓ m r
  unfolding message
  reads_derived m r x = go (byte_at (value_from ρ ℓ ℓ.containers) start 0 m)
      (byte_reads (value_from ρ ℓ ℓ.containers) (ValueForm ρ ℓ ℓ.containers)
      (value_reads ρ ℓ ℓ.containers) start 0 m
      x.bytes) acc
    where
      acc : Accepted r (then (byte_at (value_from ρ ℓ ℓ.containers) start 0 m)
          (λ n a es c'. before n es (ending c' (0 + n) (drop n m))))
      acc = x.accepted

      last : (n : ℕ) (es : List (Entry Item)) (c : Known) (t : List ℕ) → drop n m ≡ t
          → Accepted r (before n es (ending c (0 + n) t)) → ValueForm ρ ℓ ℓ.containers start (take n m) (items es) c
          → Message ρ ℓ m r
      last n es c [] e a v = record {
        known = c;
        derived =
            subst (λ (z : List Item). ValueForm ρ ℓ ℓ.containers start m z c) (ap items (sym (append-nil es)) ∙ a)
            (subst (λ (z : List ℕ). ValueForm ρ ℓ ℓ.containers start z (items es) c) (all_taken n m e) v);
      }
      last n es c (b ∷ t) e a v = absurd a

      go : (o : Outcome Known Item One) → Parsed (λ w u is c'. ValueForm ρ ℓ ℓ.containers start w is c') m o
          → Accepted r (then o (λ n a es c'. before n es (ending c' (0 + n) (drop n m)))) → Message ρ ℓ m r
      go (Done n u es c) v a = last n es c (drop n m) refl a v.1
      go (Fault y o) v a = absurd a

  -- with what is known after it
  pub message_form : (m : List ℕ) → Bytes m → (n : ℕ) (u : One) (es : List (Entry Item)) (c : Known)
      → message ρ ℓ start 0 m ≡ Done n u es c → ValueForm ρ ℓ ℓ.containers start m (items es) c
  unfolding message
  message_form m b n u es c e = go (byte_at (value_from ρ ℓ ℓ.containers) start 0 m)
      (byte_reads (value_from ρ ℓ ℓ.containers) (ValueForm ρ ℓ ℓ.containers)
      (value_reads ρ ℓ ℓ.containers) start 0 m b) e
    where
      last : (k : ℕ) (fs : List (Entry Item)) (c' : Known) (t : List ℕ) → drop k m ≡ t
          → ValueForm ρ ℓ ℓ.containers start (take k m) (items fs) c'
          → before k fs (ending c' (0 + k) t) ≡ Done n u es c → ValueForm ρ ℓ ℓ.containers start m (items es) c
      last k fs c' [] q v a =
          let i : fs ++ [] ≡ es = cc in
          let j : c' ≡ c = cc in
          subst (λ (z : List (Entry Item)). ValueForm ρ ℓ ℓ.containers start m (items z) c) (sym (append-nil fs) ∙ i)
          (subst (λ (z : Known). ValueForm ρ ℓ ℓ.containers start m (items fs) z) j
          (subst (λ (z : List ℕ). ValueForm ρ ℓ ℓ.containers start z (items fs) c') (all_taken k m q) v))
      last k fs c' (x ∷ t) q v a = absurd (let z : ◌≡◌ {A = ℕ} 0 1 = cc in omega arith)

      go : (o : Outcome Known Item One) → Parsed (λ w u is c'. ValueForm ρ ℓ ℓ.containers start w is c') m o
          → then o (λ n a es c'. before n es (ending c' (0 + n) (drop n m))) ≡ Done n u es c
          → ValueForm ρ ℓ ℓ.containers start m (items es) c
      go (Done k v fs c') p a = last k fs c' (drop k m) refl p.1 a
      go (Fault x o) p a = absurd (let z : ◌≡◌ {A = ℕ} 0 1 = cc in omega arith)

  -- ---- what is accepted is read to its end
  pub message_all : (m : List ℕ) → Bytes m → (n : ℕ) (u : One) (es : List (Entry Item)) (c : Known)
      → message ρ ℓ start 0 m ≡ Done n u es c → n ≡ length m
  unfolding message
  message_all m b n u es c e = go (byte_at (value_from ρ ℓ ℓ.containers) start 0 m)
      (byte_reads (value_from ρ ℓ ℓ.containers) (ValueForm ρ ℓ ℓ.containers)
      (value_reads ρ ℓ ℓ.containers) start 0 m b) e
    where
      last : (k : ℕ) (fs : List (Entry Item)) (c' : Known) → k ≤ length m → (t : List ℕ) → drop k m ≡ t
          → before k fs (ending c' (0 + k) t) ≡ Done n u es c → n ≡ length m
      last k fs c' l [] q a = let z : k + 0 ≡ n = cc in omega (arith, simp length-drop at (ap length q))
      last k fs c' l (x ∷ t) q a = absurd (let z : ◌≡◌ {A = ℕ} 0 1 = cc in omega arith)

      go : (o : Outcome Known Item One) → Parsed (λ w u is c'. ValueForm ρ ℓ ℓ.containers start w is c') m o
          → then o (λ n a es c'. before n es (ending c' (0 + n) (drop n m))) ≡ Done n u es c → n ≡ length m
      go (Done k v fs c') p a = last k fs c' p.0 (drop k m) refl a
      go (Fault x o) p a = absurd (let z : ◌≡◌ {A = ℕ} 0 1 = cc in omega arith)

  -- ---- what is derived is read
  pub derived_reads : (m : List ℕ) (r : List Item) → Message ρ ℓ m r → Reads ρ ℓ m r
  unfolding message
  derived_reads m r x = record {
    bytes = value_bytes ρ ℓ ℓ.containers start m r x.known x.derived;
    accepted =
        subst (λ (z : List ℕ). Accepted r (message ρ ℓ start 0 z)) (append-nil m) made;
  }
    where
      one : (es : List (Entry Item)) × (byte_at (value_from ρ ℓ ℓ.containers) start 0 (m ++ [])
          ≡ Done (length m) tt es x.known) × (items es ≡ r)
      one = (leads_byte (value_from ρ ℓ ℓ.containers) m (value_makes ρ ℓ ℓ.containers start m r x.known
          x.derived)).makes 0 []

      made : Accepted r (message ρ ℓ start 0 (m ++ []))
      made = rw one.1 (subst (λ (s : List ℕ). Accepted r (before (length m) one.0
          (ending x.known (0 + length m) s))) (sym (drop-append_seam m []))
          (ap items (append-nil one.0) ∙ one.2))

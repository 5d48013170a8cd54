-- No message that has a record is shorter than its spelling.
use Rattle.std.specs.Prelude.{◌≡◌, Bool, ◌&&◌, T, eqb, length}
use Rattle.std.proofs.Math.Path.{refl, ap}
use Rattle.std.proofs.Common.{subst, arith}
use Rattle.std.proofs.Math.Bool.{true, false}
use mathlib.Core.List.{List, [], ◌∷◌, ◌++◌, append_assoc, append-nil}
use Rattle.std.proofs.Math.Option.{Option, none, some}
use Prim.Native.Nat.{ℕ, zero, suc, ◌+◌, ◌^◌, ◌≤◌, ◌<◌}
use Rattle.std.proofs.Math.Dec.{ltb, leb}
use Rattle.std.proofs.Math.ListN.{get_or, length-append}
use borrow.Author.Tests.{eq-eqb, lt-ltb, le-leb}
use Rattle.flow.specs.Tests.{by_test, pass, tests}
use Rattle.flow.specs.Grammar.{Phrase, Many, finished, another, Ended, ended, Preceded, alone, first}
use Rattle.scalar.specs.Grammar.{Int, Text}
use Rattle.scalar.specs.Scalars.{shortest_scalar, shortest_int, shortest_text}
use Rattle.scalar.proofs.ScalarLaws.{scalar_short, int_short, int_some, text_short}
use Rattle.scalar.specs.Scalars.{Floats}
use Rattle.record.specs.Model.Items.{Value, UntypedList, TypedList, UntypedMap, TypedMap, Object, Reference, Item}
use Rattle.record.specs.Model.Items.{Val, Definition, ClassName, FieldName, TypeName, TypeNumber, Known, opened}
use Rattle.record.specs.Model.Items.{typed, defined, Limits}
use Rattle.record.specs.Model.Grammar.{NameForm, a_name, TypeForm, type_spelled, type_numbered, PairForm, a_pair}
use Rattle.record.specs.Model.Grammar.{DefinitionForm, a_definition, PlainForm, a_leaf, a_few, a_counted, an_open}
use Rattle.record.specs.Model.Grammar.{a_few_typed, a_counted_typed, an_open_typed, a_map, a_typed_map}
use Rattle.record.specs.Model.Grammar.{a_few_object, an_object, a_reference, ValueForm, Message}
use Rattle.record.specs.Model.Shortest.{complete, code_then, put_defined, put_preceded_by}
use Rattle.record.specs.Model.Shortest.{put_plain}
use Rattle.record.specs.Model.Grammar.{Nowhere}
use Rattle.record.specs.Model.Shortest.{Spelled, Put, put_then, put_many, put_bytes, class_name?}
use Rattle.record.specs.Model.Shortest.{field_name?, put_name, put_list, put_open, object_code, put_container, put_if}
use Rattle.record.specs.Model.Shortest.{put_type, put_plain_by, put_definition, put_preceded, put_value, spell}
use Rattle.record.specs.Laws.Short.{Spells, Short, at_most, both_put, then_spells, bytes_spell, code_spells, map_spells, few_spells, list_spells}

-- of a phrase's items, at most the phrase's bytes
record Covers (G : Phrase Known Item) (g : Put) : Type 0 where
  covers : {c c' : Known} {w : List ℕ} {is : List Item} → G c w is c' → Spells g c is (length w) c'

many_spells : {G : Phrase Known Item} {g : Put} → Covers G g → {n : ℕ} {c c' : Known} {w : List ℕ} {is : List Item}
    → Many G n c w is c' → Spells (put_many g n) c is (length w) c'
many_spells h finished = record { spells = λ rest. ([], refl, omega arith) }
many_spells h (another {u = u} {v = v} x r) =
    at_most (then_spells (h.covers x) (many_spells h r)) (omega (arith, length-append u v))

pair_spells : {G : Phrase Known Item} {g : Put} → Covers G g → Covers (PairForm G) (put_then g g)
pair_spells {G} {g} h = record { covers = go }
  where
    go : {c c' : Known} {w : List ℕ} {is : List Item} → PairForm G c w is c' → Spells (put_then g g) c is (length w) c'
    go (a_pair {u = u} {v = v} x y) =
        at_most (then_spells (h.covers x) (h.covers y)) (omega (arith, length-append u v))

nothing_spells : {c : Known} → Spells (put_bytes (some [])) c [] 0 c
nothing_spells = record { spells = λ rest. ([], refl, omega arith) }

if_spells : (t : Bool) {g : Put} {c c' : Known} {is : List Item} {n : ℕ} → t ≡ true → Spells g c is n c'
    → Spells (put_if t g) c is n c'
if_spells t e h = rw e h

name_spells : (x : List ℕ → Item) (part : Item → Option (List ℕ)) → ((cs : List ℕ) → part (x cs) ≡ some cs)
    → Covers (NameForm x) (put_name part)
name_spells x part e = record { covers = go }
  where
    go : {c c' : Known} {w : List ℕ} {is : List Item} → NameForm x c w is c' → Spells (put_name part) c is (length w) c'
    go (a_name {cs = cs} r) = record { spells = λ rest. let p = text_short r in (p.0, rw (e cs, p.1) refl, p.2) }

-- ---- the code of an object
few_code_law : (k : ℕ) → k < 16 → Short (object_code k) 1
unfolding object_code
few_code_law k l = ((0x60 + k) ∷ [], pass (ltb k 16) _ _ (omega (arith, tests)) refl, omega arith)

int_code : {u : List ℕ} {k : ℕ} → Int u k → Short (object_code k) (suc (length u))
unfolding object_code
int_code {u} {k} x =
    let p = int_short x in
    by_test (λ (o : Option (List ℕ)). Short o (suc (length u))) (ltb k 16) (λ t. ((0x60 + k) ∷ [], refl, omega arith))
    (λ t. (0x4f ∷ p.0, rw p.1 refl, omega arith))

module _ (ℓ : Limits) (open_from : ℕ) (most : open_from ≤ 48) where
  type_spells : {c c' : Known} {w : List ℕ} {t : ℕ} {is : List Item} → TypeForm ℓ c w t is c'
      → Spells (put_type ℓ t) c is (length w) c'
  unfolding put_type
  type_spells (type_spelled {c = c} {w = w} {cs = cs} l r) = record {
    spells = (if_spells (eqb c.types c.types && ltb c.types ℓ.types)
        (rw (eq-eqb c.types c.types refl, lt-ltb c.types ℓ.types l)) (known r)).spells;
  }
    where
      known : Text w cs → Spells (λ c r. put_bytes (shortest_text cs) (typed c) r) c [] (length w) (typed c)
      known r = record { spells = (bytes_spell (shortest_text cs) {c = typed c} (text_short r)).spells }
  type_spells (type_numbered {c = c} {k = k} x l) = record {
    spells = (if_spells (eqb k k && ltb k c.types) {c = c} (rw (eq-eqb k k refl, lt-ltb k c.types l))
        (bytes_spell (shortest_int k) (int_short x))).spells;
  }

  -- ---- values with no definition before them
  module _ (below : Option Put) (room : Bool) (G : Phrase Known Item) where
    abbrev Room : Option Put → Type 0
    Room none = T room → ⊥
    Room (some g) = Covers G g

    module _ (room-is : Room below) where
      abbrev PlainSpells : Known → Value → List Item → ℕ → Known → Type 0
      PlainSpells c v is n c' = Spells (put_plain ℓ open_from below) c (Val v ∷ is) n c'

      val : {v : Value} {c c' : Known} {is : List Item} {n : ℕ} → Spells (put_plain_by ℓ open_from below v) c is n c'
          → PlainSpells c v is n c'
      val h = record { spells = h.spells }

      holds : (body : Put → Put) {c c' : Known} {is : List Item} {n : ℕ} → T room
          → ((g : Put) → Covers G g → Spells (body g) (opened c) is n c') → Spells (put_container below body) c is n c'
      holds body {c} {c'} {is} {n} r h = go below room-is
        where
          go : (o : Option Put) → Room o → Spells (put_container o body) c is n c'
          go none q = absurd (q r)
          go (some g) q = record { spells = (h g q).spells }

      -- whatever its form in the message, a list, map or object of so many bytes at least
      listed : {n : ℕ} {c c' : Known} {v : List ℕ} {js : List Item} {m : ℕ} → T room → Many G n (opened c) v js c'
          → 2 + length v ≤ m → PlainSpells c (UntypedList n) js m c'
      unfolding put_plain_by
      listed {n} r y l =
          at_most (val (holds (λ g. put_list open_from 0x78 0x58 0x57 n (put_bytes (some [])) (put_many g n)) r
          (λ g hg. list_spells ℓ open_from most 0x78 0x58 0x57 n nothing_spells (many_spells hg y)))) (omega arith)

      typed_listed : {n t : ℕ} {c c₁ c' : Known} {u v : List ℕ} {is js : List Item} {m : ℕ} → T room
          → TypeForm ℓ (opened c) u t is c₁ → Many G n c₁ v js c' → 2 + (length u + length v) ≤ m
          → PlainSpells c (TypedList n t) (is ++ js) m c'
      unfolding put_plain_by
      typed_listed {n} {t} r q y l =
          at_most (val (holds (λ g. put_list open_from 0x70 0x56 0x55 n (put_type ℓ t) (put_many g n)) r
          (λ g hg. list_spells ℓ open_from most 0x70 0x56 0x55 n (type_spells q) (many_spells hg y)))) (omega arith)

      open_listed : {n : ℕ} {c c' : Known} {w : List ℕ} {js : List Item} → T room → Ended 0x5a G n (opened c) w js c'
          → PlainSpells c (UntypedList n) js (suc (length w)) c'
      open_listed r (ended {v = v} y) = listed r y (omega (arith, length-append v (0x5a ∷ [])))

      typed_open_listed : {n t : ℕ} {c c₁ c' : Known} {u w : List ℕ} {is js : List Item} → T room
          → TypeForm ℓ (opened c) u t is c₁ → Ended 0x5a G n c₁ w js c'
          → PlainSpells c (TypedList n t) (is ++ js) (suc (length (u ++ w))) c'
      typed_open_listed {u = u} r q (ended {v = v} y) =
          typed_listed r q y (omega (arith, length-append u (v ++ (0x5a ∷ [])), length-append v (0x5a ∷ [])))

      mapped : {n : ℕ} {c c' : Known} {w : List ℕ} {js : List Item} → T room
          → Ended 0x5a (PairForm G) n (opened c) w js c' → PlainSpells c (UntypedMap n) js (suc (length w)) c'
      unfolding put_plain_by
      mapped {n} r (ended {v = v} y) =
          at_most (val (holds (λ g. put_open 0x48 (put_bytes (some [])) (put_many (put_then g g) n)) r
          (λ g hg. map_spells 0x48 nothing_spells (many_spells (pair_spells hg) y))))
          (omega (arith, length-append v (0x5a ∷ [])))

      typed_mapped : {n t : ℕ} {c c₁ c' : Known} {u w : List ℕ} {is js : List Item} → T room
          → TypeForm ℓ (opened c) u t is c₁ → Ended 0x5a (PairForm G) n c₁ w js c'
          → PlainSpells c (TypedMap n t) (is ++ js) (suc (length (u ++ w))) c'
      unfolding put_plain_by
      typed_mapped {n} {t} {u = u} r q (ended {v = v} y) =
          at_most (val (holds (λ g. put_open 0x4d (put_type ℓ t) (put_many (put_then g g) n)) r
          (λ g hg. map_spells 0x4d (type_spells q) (many_spells (pair_spells hg) y))))
          (omega (arith, length-append u (v ++ (0x5a ∷ [])), length-append v (0x5a ∷ [])))

      object_spells : {k n : ℕ} {c c' : Known} {w : List ℕ} {is : List Item} → T room → k < length c.classes
          → Short (object_code k) n → Many G (get_or c.classes k 0) (opened c) w is c'
          → PlainSpells c (Object k (get_or c.classes k 0)) is (n + length w) c'
      unfolding put_plain_by
      object_spells {k} {c = c} r l h y =
          let fields = get_or c.classes k 0 in
          val (record {
            spells = (if_spells (eqb fields fields && ltb k (length c.classes))
                (rw (eq-eqb fields fields refl, lt-ltb k (length c.classes) l))
                (holds (λ g. put_then (put_bytes (object_code k)) (put_many g fields)) {c = c} r
                (λ g hg. then_spells (bytes_spell (object_code k) h) (many_spells hg y)))).spells;
          })

      reference_spells : {k : ℕ} {c : Known} {w : List ℕ} → Int w k → k < c.references
          → PlainSpells c (Reference k) [] (suc (length w)) c
      unfolding put_plain_by
      reference_spells {k} {c} {w} q l =
          let p = int_short q in
          let bytes : Short (code_then 0x51 (shortest_int k)) (suc (length w)) =
          (0x51 ∷ p.0, rw p.1 refl, omega arith) in
          val (record {
            spells = (if_spells (ltb k c.references) {c = c} (lt-ltb k c.references l)
                (bytes_spell (code_then 0x51 (shortest_int k)) bytes)).spells;
          })

      plain_spells : {c c' : Known} {w : List ℕ} {is : List Item} → PlainForm Floats ℓ room G c w is c'
          → Spells (put_plain ℓ open_from below) c is (length w) c'
      unfolding put_plain_by
      plain_spells (a_leaf {x = x} y) = val (bytes_spell (shortest_scalar x) (scalar_short y))
      plain_spells (a_few_typed {n = n} {t = t} {u = u} {v = v} r l q y) = at_most
          (val (holds (λ g. put_list open_from 0x70 0x56 0x55 n (put_type ℓ t) (put_many g n)) r
          (λ g hg. few_spells ℓ open_from most 0x70 0x56 0x55 n (type_spells q) (many_spells hg y) l)))
          (omega (arith, length-append u v))
      plain_spells (a_counted_typed {u = u} {v = v} {w = x} r q i l y) =
          typed_listed r q y (omega (arith, length-append u (v ++ x), length-append v x, int_some i))
      plain_spells (an_open_typed r q y) = typed_open_listed r q y
      plain_spells (a_few {n = n} r l y) =
          at_most (val (holds (λ g. put_list open_from 0x78 0x58 0x57 n (put_bytes (some [])) (put_many g n)) r
          (λ g hg. few_spells ℓ open_from most 0x78 0x58 0x57 n nothing_spells (many_spells hg y) l))) (omega arith)
      plain_spells (a_counted {u = u} {v = v} r i l y) = listed r y (omega (arith, length-append u v, int_some i))
      plain_spells (an_open r y) = open_listed r y
      plain_spells (a_typed_map r q y) = typed_mapped r q y
      plain_spells (a_map r y) = mapped r y
      plain_spells (a_few_object {k = k} r l i y) = at_most (object_spells r i (few_code_law k l) y) (omega arith)
      plain_spells (an_object {u = u} {v = v} r q i y) =
          at_most (object_spells r i (int_code q) y) (omega (arith, length-append u v))
      plain_spells (a_reference q l) = reference_spells q l

  -- ---- definitions
  definition_spells : {c c' : Known} {w : List ℕ} {is : List Item} → DefinitionForm ℓ c w is c'
      → Spells (put_definition ℓ) c is (suc (length w)) c'
  unfolding put_definition
  definition_spells {c} (a_definition {c₁ = c₁} {u = u} {v = v} {w = x} {cs = cs} {n = n} {is = js} l r i b f y) =
      record {
        spells = (if_spells (ltb (length c.classes) ℓ.classes && (ltb n (2 ^ 63) && leb n ℓ.fields))
            (rw (lt-ltb (length c.classes) ℓ.classes l, lt-ltb n (2 ^ 63) b, le-leb n ℓ.fields f))
            (at_most {n = suc (length (u ++ (v ++ x)))} (then_spells (code_spells 0x43)
            (then_spells class (then_spells (bytes_spell (shortest_int n) (int_short i)) fields)))
            (omega (arith, length-append u (v ++ x), length-append v x)))).spells;
      }
    where
      class : Spells (put_name class_name?) c (ClassName cs ∷ []) (length u) c
      class = (name_spells ClassName class_name? (λ cs. refl)).covers (a_name r)

      numbered : Spells (put_defined n) c₁ [] 0 (defined n c₁)
      numbered = record { spells = λ rest. ([], refl, omega arith) }

      fields : Spells (put_then (put_many (put_name field_name?) n) (put_defined n)) c js (length x + 0) (defined n c₁)
      fields = subst (λ (z : List Item). Spells (put_then (put_many (put_name field_name?) n) (put_defined n)) c z
          (length x + 0) (defined n c₁)) (append-nil js)
          (then_spells (many_spells (name_spells FieldName field_name? (λ cs. refl)) y) numbered)

  -- with a bound of the recursion that is at least the number of items
  record SpellsBy (g : Put) (c : Known) (is : List Item) (n : ℕ) (c' : Known) : Type 0 where
    spells : (rest : List Item) (bound : ℕ) → length is ≤ bound → (w : List ℕ)
        × (put_preceded ℓ bound g c (is ++ rest) ≡ Spelled w rest c') × (length w ≤ n)

  -- a value's first item is no definition
  no_definition : (below : Option Put) (bound : ℕ) (c : Known) (r : List Item) (w : List ℕ) (rest : List Item)
      (c' : Known) → put_plain ℓ open_from below c r ≡ Spelled w rest c'
      → put_preceded ℓ bound (put_plain ℓ open_from below) c r ≡ Spelled w rest c'
  no_definition below zero c r w rest c' e = e
  no_definition below (suc k) c [] w rest c' e = e
  no_definition below (suc k) c (Val v ∷ r) w rest c' e = e
  no_definition below (suc k) c (ClassName cs ∷ r) w rest c' e = e
  no_definition below (suc k) c (FieldName cs ∷ r) w rest c' e = e
  no_definition below (suc k) c (TypeName cs ∷ r) w rest c' e = e
  no_definition below (suc k) c (TypeNumber n ∷ r) w rest c' e = e
  no_definition below (suc k) c (Definition n ∷ r) w rest c' e = absurd (let z : ◌≡◌ {A = ℕ} 0 1 = cc in omega arith)

  first_spells : {g : Put} {c c₁ c₂ : Known} {n l m : ℕ} {is js : List Item}
      → Spells (put_definition ℓ) c (Definition n ∷ is) l c₁ → SpellsBy g c₁ js m c₂
      → SpellsBy g c (Definition n ∷ (is ++ js)) (l + m) c₂
  first_spells {g} {c} {c₂ = c₂} {n = n} {l = l} {m = m} {is = is} {js = js} h k = record { spells = go }
    where
      go : (rest : List Item) (bound : ℕ) → suc (length (is ++ js)) ≤ bound → (w : List ℕ)
          × (put_preceded ℓ bound g c (Definition n ∷ ((is ++ js) ++ rest)) ≡ Spelled w rest c₂) × (length w ≤ l + m)
      go rest zero i = absurd (omega arith)
      go rest (suc bound) i =
          let p = h.spells (js ++ rest) in
          let q = k.spells rest bound (omega (arith, length-append is js)) in (
            p.0 ++ q.0,
            rw append_assoc (both_put (put_definition ℓ) (put_preceded ℓ bound g) _ _ _ _ _ _ _ _ p.1
                q.1),
            omega (arith, length-append p.0 q.0),
          )

  definition_first : {g : Put} {c c₁ c₂ : Known} {u : List ℕ} {m : ℕ} {is js : List Item} → DefinitionForm ℓ c u is c₁
      → Spells (put_definition ℓ) c is (suc (length u)) c₁
      → SpellsBy g c₁ js m c₂ → SpellsBy g c (is ++ js) (suc (length u) + m) c₂
  definition_first (a_definition l r i e f y) s k = first_spells s k

  module _ (below : Option Put) (G : Phrase Known Item) (h : Covers G (put_plain ℓ open_from below)) where
    preceded_spells : {c c' : Known} {w : List ℕ} {is : List Item} → Preceded 0x43 (DefinitionForm ℓ) G c w is c'
        → SpellsBy (put_plain ℓ open_from below) c is (length w) c'
    preceded_spells (alone {c = c} {c' = c'} {is = is} x) = record {
      spells = λ rest bound l. let p = (h.covers x).spells rest in (
        p.0,
        no_definition below bound c (is ++ rest) p.0 rest c' p.1,
        p.2,
      );
    }
    preceded_spells (first {u = u} {v = v} x r) = record {
      spells = λ rest bound l. let p = (definition_first x (definition_spells x)
          (preceded_spells r)).spells rest bound l in (p.0, p.1, omega (arith, length-append u v));
    }

    by_spells : {c c' : Known} {w : List ℕ} {is : List Item} → Preceded 0x43 (DefinitionForm ℓ) G c w is c'
        → Spells (put_preceded_by ℓ (put_plain ℓ open_from below)) c is (length w) c'
    by_spells {is = is} x = record {
      spells = λ rest. (preceded_spells x).spells rest (length (is ++ rest))
          (rw length-append (omega arith));
    }

  -- ---- values, and messages
  value_spells : (d : ℕ) → Covers (ValueForm Floats ℓ d) (put_value ℓ open_from d)
  unfolding put_value
  value_spells zero = record {
    covers = by_spells none (PlainForm Floats ℓ false Nowhere)
        (record { covers = plain_spells none false Nowhere (λ t. t) });
  }
  value_spells (suc d) = record {
    covers = by_spells (some (put_value ℓ open_from d)) (PlainForm Floats ℓ true (ValueForm Floats ℓ d))
        (record { covers = plain_spells (some (put_value ℓ open_from d)) true (ValueForm Floats ℓ d) (value_spells d) });
  }

  -- a record that the grammar derives has a spelling, of no more bytes
  pub message_short : (m : List ℕ) (r : List Item) → Message Floats ℓ m r → (w : List ℕ) × (spell ℓ open_from r ≡ some w)
      × (length w ≤ length m)
  unfolding spell
  message_short m r x = let p = ((value_spells ℓ.containers).covers x.derived).spells [] in
      (p.0, ap complete (rw append-nil at p.1), p.2)

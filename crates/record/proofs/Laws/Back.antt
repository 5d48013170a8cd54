-- The spelling of a record is a message that has it.
use Rattle.std.proofs.Math.Path.{◌≡◌, subst}
use Rattle.std.specs.Prelude.{refl, Bool, ◌&&◌, eqb, length, get_or}
use Rattle.std.proofs.Common.{sym, ◌∙◌, ap, arith, eqb→eq, ltb→lt, leb→le}
use Rattle.std.proofs.Math.Bool.{true, false}
use mathlib.Core.List.{List, [], ◌∷◌, ◌++◌, append_assoc, append-nil}
use Rattle.std.proofs.Math.Option.{Option, none, some}
use Prim.Native.Nat.{ℕ, zero, suc, ◌+◌, ◌^◌, ◌≤◌, ◌<◌}
use Rattle.std.proofs.Math.Dec.{T, ltb, leb}
use Rattle.flow.specs.Tests.{by_test, tests, and_left, and_right}
use Rattle.flow.specs.Grammar.{Phrase, Many, finished, another, Ended, ended, Preceded, alone, first}
use Rattle.scalar.specs.Grammar.{Spelt, Int, Text}
use Rattle.scalar.specs.Scalars.{shortest_scalar, shortest_int, shortest_text}
use Rattle.scalar.proofs.ScalarLaws.{Is, int_is, text_is, scalar_is}
use Rattle.scalar.specs.Scalars.{Floats}
use Rattle.record.specs.Model.Items.{Value, Leaf, UntypedList, TypedList, UntypedMap, TypedMap, Object, Reference}
use Rattle.record.specs.Model.Items.{Item, Val, Definition, ClassName, FieldName, TypeName, TypeNumber, Known}
use Rattle.record.specs.Model.Items.{start, opened, typed, defined, Limits}
use Rattle.record.specs.Model.Grammar.{NameForm, a_name, TypeForm, type_spelled, type_numbered, PairForm, a_pair}
use Rattle.record.specs.Model.Grammar.{DefinitionForm, a_definition, PlainForm, a_leaf, a_few, a_counted, an_open}
use Rattle.record.specs.Model.Grammar.{a_few_typed, a_counted_typed, an_open_typed, a_map, a_typed_map}
use Rattle.record.specs.Model.Grammar.{a_few_object, an_object, a_reference, ValueForm, Message}
use Rattle.record.specs.Model.Shortest.{Spelling, Spelled, NoRecord, Put, put_then, put_many, put_bytes, put_code}
use Rattle.record.specs.Model.Shortest.{class_name?, field_name?, put_name, put_list, put_open, object_code}
use Rattle.record.specs.Model.Shortest.{put_container, put_if, put_type, put_plain_by, put_definition, put_preceded}
use Rattle.record.specs.Model.Shortest.{put_value, spell}
use Rattle.record.specs.Model.Shortest.{prefixed, code_then, put_defined, put_preceded_by, put_plain, on_spelled}
use Rattle.record.specs.Model.Shortest.{complete}
use Rattle.record.specs.Model.Grammar.{Nowhere}

-- what is made of the first of the items r, if anything is, is what P says of the bytes, the items and what is known
-- then
abbrev Back : (List ℕ → List Item → Known → Type 0) → List Item → Spelling → Type 0
Back P r (Spelled w rest c) = (is : List Item) × (r ≡ is ++ rest) × P w is c
Back P r NoRecord = Unit {0}

-- what g makes is the phrase P
record Sound (P : Phrase Known Item) (g : Put) : Type 0 where
  sound : (c : Known) (r : List Item) → Back (P c) r (g c r)

-- every P is a Q
abbrev Within : Phrase Known Item → Phrase Known Item → Type 0
Within P Q = (c : Known) (w : List ℕ) (is : List Item) (c' : Known) → P c w is c' → Q c w is c'

-- ---- phrases: one after the other, a code, bytes that are no item, nothing
data Seq (P Q : Phrase Known Item) : Known → List ℕ → List Item → Known → Type 0 where
  seq : {c c₁ c₂ : Known} {u v : List ℕ} {is js : List Item} → P c u is c₁ → Q c₁ v js c₂
      → Seq P Q c (u ++ v) (is ++ js) c₂

data Code (b : ℕ) : Known → List ℕ → List Item → Known → Type 0 where
  code : {c : Known} → Code b c (b ∷ []) [] c

data Raw (S : List ℕ → Type 0) : Known → List ℕ → List Item → Known → Type 0 where
  raw : {c : Known} {w : List ℕ} → S w → Raw S c w [] c

data Nil : Known → List ℕ → List Item → Known → Type 0 where
  nil : {c : Known} → Nil c [] [] c

-- ---- parts
back_as : (P Q : List ℕ → List Item → Known → Type 0) → ((w : List ℕ) (is : List Item) (c : Known) → P w is c
    → Q w is c) → (r : List Item) (o : Spelling) → Back P r o → Back Q r o
back_as P Q k r (Spelled w rest c) p = (p.0, p.1, k w p.0 c p.2)
back_as P Q k r NoRecord p = tt

sound_as : {P Q : Phrase Known Item} {g : Put} → Sound P g → Within P Q → Sound Q g
sound_as {P} {Q} {g} h k = record { sound = λ c r. back_as (P c) (Q c) (k c) r (g c r) (h.sound c r) }

then_sound : {P Q : Phrase Known Item} {g g' : Put} → Sound P g → Sound Q g' → Sound (Seq P Q) (put_then g g')
then_sound {P} {Q} {g} {g'} h k = record { sound = λ c r. go c r (g c r) (h.sound c r) }
  where
    after : (c c₁ : Known) (r r₁ is : List Item) (w : List ℕ) → r ≡ is ++ r₁ → P c w is c₁ → (o : Spelling)
        → Back (Q c₁) r₁ o → Back (Seq P Q c) r (prefixed w o)
    after c c₁ r r₁ is w e x (Spelled v rest c₂) q =
        (is ++ q.0, e ∙ ap (λ (z : List Item). is ++ z) q.1 ∙ sym (append_assoc is q.0 rest), seq x q.2)
    after c c₁ r r₁ is w e x NoRecord q = tt

    go : (c : Known) (r : List Item) (o : Spelling) → Back (P c) r o → Back (Seq P Q c) r
        (on_spelled o (λ w r' c'. prefixed w (g' c' r')))
    go c r (Spelled w r₁ c₁) p = after c c₁ r r₁ p.0 w p.1 p.2 (g' c₁ r₁) (k.sound c₁ r₁)
    go c r NoRecord p = tt

many_sound : {G : Phrase Known Item} {g : Put} → Sound G g → (n : ℕ) → Sound (Many G n) (put_many g n)
many_sound h zero = record { sound = λ c r. ([], refl, finished) }
many_sound {G} {g} h (suc n) = record { sound = (sound_as (then_sound h (many_sound h n)) (λ c w is c'. more)).sound }
  where
    more : {c c' : Known} {w : List ℕ} {is : List Item} → Seq G (Many G n) c w is c' → Many G (suc n) c w is c'
    more (seq x y) = another x y

pair_sound : {G : Phrase Known Item} {g : Put} → Sound G g → Sound (PairForm G) (put_then g g)
pair_sound {G} h = sound_as (then_sound h h) (λ c w is c'. paired)
  where
    paired : {c c' : Known} {w : List ℕ} {is : List Item} → Seq G G c w is c' → PairForm G c w is c'
    paired (seq x y) = a_pair x y

code_sound : (b : ℕ) → Sound (Code b) (put_code b)
code_sound b = record { sound = λ c r. ([], refl, code) }

nothing_sound : Sound Nil (put_bytes (some []))
nothing_sound = record { sound = λ c r. ([], refl, nil) }

bytes_sound : {S : List ℕ → Type 0} (o : Option (List ℕ)) → Is S o → Sound (Raw S) (put_bytes o)
bytes_sound none h = record { sound = λ c r. tt }
bytes_sound (some w) h = record { sound = λ c r. ([], refl, raw h) }

int_sound : (n : ℕ) → Sound (Raw (λ w. Int w n)) (put_bytes (shortest_int n))
int_sound n = bytes_sound (shortest_int n) (int_is n)

-- the elements, or pairs, and the end byte
end_sound : {G : Phrase Known Item} {g : Put} → Sound G g → (n : ℕ) → Sound (Ended 0x5a G n)
    (put_then (put_many g n) (put_code 0x5a))
end_sound {G} h n = sound_as (then_sound (many_sound h n) (code_sound 0x5a)) (λ c w is c'. end)
  where
    end : {c c' : Known} {w : List ℕ} {is : List Item} → Seq (Many G n) (Code 0x5a) c w is c' → Ended 0x5a G n c w is c'
    end (seq {is = is} x code) = rw (append-nil is) (ended x)

-- after an item x
item_back : (P : List ℕ → List Item → Known → Type 0) (x : Item) (r : List Item) (o : Spelling)
    → Back (λ w is c. P w (x ∷ is) c) r o → Back P (x ∷ r) o
item_back P x r (Spelled w rest c) p = (x ∷ p.0, ap {B = List Item} (λ z. x ∷ z) p.1, p.2)
item_back P x r NoRecord p = tt

-- where the test holds
if_back : (P : List ℕ → List Item → Known → Type 0) (t : Bool) (g : Put) (c : Known) (r : List Item)
    → (T t → Back P r (g c r)) → Back P r (put_if t g c r)
if_back P true g c r h = h tt
if_back P false g c r h = tt

name_back : (x : List ℕ → Item) (c : Known) (r : List Item) (cs : List ℕ)
    → Back (NameForm x c) (x cs ∷ r) (put_bytes (shortest_text cs) c r)
name_back x c r cs = item_back (NameForm x c) (x cs) r (put_bytes (shortest_text cs) c r)
    (back_as (Raw (λ w. Text w cs) c) (λ w is c'. NameForm x c w (x cs ∷ is) c') (λ w is c'. named) r
    (put_bytes (shortest_text cs) c r) ((bytes_sound (shortest_text cs) (text_is cs)).sound c r))
  where
    named : {w : List ℕ} {is : List Item} {c' : Known} → Raw (λ w. Text w cs) c w is c' → NameForm x c w (x cs ∷ is) c'
    named (raw y) = a_name y

class_name_sound : Sound (NameForm ClassName) (put_name class_name?)
class_name_sound = record { sound = go }
  where
    go : (c : Known) (r : List Item) → Back (NameForm ClassName c) r (put_name class_name? c r)
    go c [] = tt
    go c (Val v ∷ r) = tt
    go c (Definition n ∷ r) = tt
    go c (ClassName cs ∷ r) = name_back ClassName c r cs
    go c (FieldName cs ∷ r) = tt
    go c (TypeName cs ∷ r) = tt
    go c (TypeNumber k ∷ r) = tt

field_name_sound : Sound (NameForm FieldName) (put_name field_name?)
field_name_sound = record { sound = go }
  where
    go : (c : Known) (r : List Item) → Back (NameForm FieldName c) r (put_name field_name? c r)
    go c [] = tt
    go c (Val v ∷ r) = tt
    go c (Definition n ∷ r) = tt
    go c (ClassName cs ∷ r) = tt
    go c (FieldName cs ∷ r) = name_back FieldName c r cs
    go c (TypeName cs ∷ r) = tt
    go c (TypeNumber k ∷ r) = tt

-- the code of an object
data ObjectBytes (k : ℕ) : List ℕ → Type 0 where
  one_byte : k < 16 → ObjectBytes k ((0x60 + k) ∷ [])
  with_int : {u : List ℕ} → Int u k → ObjectBytes k (0x4f ∷ u)

object_code_law : (k : ℕ) → Is (ObjectBytes k) (object_code k)
unfolding object_code
object_code_law k =
    by_test (Is (ObjectBytes k)) (ltb k 16) (λ t. one_byte (ltb→lt k 16 t)) (λ t. go (shortest_int k) (int_is k))
  where
    go : (o : Option (List ℕ)) → Is (λ w. Int w k) o → Is (ObjectBytes k) (code_then 0x4f o)
    go none h = tt
    go (some w) h = with_int h

-- the forms of a list: Q is its type, or nothing
data ListForm (few counted opening n : ℕ) (Q G : Phrase Known Item) : Known → List ℕ → List Item → Known → Type 0 where
  as_few : {c c' : Known} {w : List ℕ} {is : List Item} → n < 8 → Seq (Code (few + n)) (Seq Q (Many G n)) c w is c'
      → ListForm few counted opening n Q G c w is c'
  as_counted : {c c' : Known} {w : List ℕ} {is : List Item} → n < 2 ^ 63
      → Seq (Code counted) (Seq Q (Seq (Raw (λ w. Int w n)) (Many G n))) c w is c'
      → ListForm few counted opening n Q G c w is c'
  as_open : {c c' : Known} {w : List ℕ} {is : List Item} → Seq (Code opening) (Seq Q (Ended 0x5a G n)) c w is c'
      → ListForm few counted opening n Q G c w is c'

map_sound : {Q G : Phrase Known Item} {q g : Put} (b n : ℕ) → Sound Q q → Sound G g
    → Sound (Seq (Code b) (Seq Q (Ended 0x5a G n))) (put_open b q (put_many g n))
map_sound b n x h = then_sound (code_sound b) (then_sound x (end_sound h n))

list_sound : {Q G : Phrase Known Item} {q g : Put} (open_from few counted opening n : ℕ) → open_from ≤ 48 → Sound Q q
    → Sound G g
    → Sound (ListForm few counted opening n Q G) (put_list open_from few counted opening n q (put_many g n))
list_sound {Q} {G} open_from few counted opening n most x h =
    by_test (Sound (ListForm few counted opening n Q G)) (ltb n 8)
    (λ t. sound_as (then_sound (code_sound (few + n)) (then_sound x (many_sound h n)))
    (λ c w is c' y. as_few (ltb→lt n 8 t) y))
    (λ t. by_test (Sound (ListForm few counted opening n Q G)) (ltb n open_from)
    (λ t₁. sound_as (then_sound (code_sound counted) (then_sound x (then_sound (int_sound n) (many_sound h n))))
    (λ c w is c' y. as_counted (omega (arith, tests)) y))
    (λ t₁. sound_as (map_sound opening n x h) (λ c w is c' y. as_open y)))

module _ (ℓ : Limits) (open_from : ℕ) (most : open_from ≤ 48) where
  -- ---- types
  type_sound : (t : ℕ) → Sound (λ c w is c'. TypeForm ℓ c w t is c') (put_type ℓ t)
  unfolding put_type
  type_sound t = record { sound = go }
    where
      written : (c : Known) (cs : List ℕ) → c.types ≡ t → c.types < ℓ.types
          → {w : List ℕ} {is : List Item} {c' : Known} → Raw (λ w. Text w cs) (typed c) w is c'
          → TypeForm ℓ c w t (TypeName cs ∷ is) c'
      written c cs e l {w} (raw y) = subst (λ (z : ℕ). TypeForm ℓ c w z (TypeName cs ∷ []) (typed c)) e (type_spelled l y)

      numbered : (c : Known) (k : ℕ) → k ≡ t → k < c.types → {w : List ℕ} {is : List Item} {c' : Known}
          → Raw (λ w. Int w k) c w is c' → TypeForm ℓ c w t (TypeNumber k ∷ is) c'
      numbered c k e l {w} (raw y) = subst (λ (z : ℕ). TypeForm ℓ c w z (TypeNumber k ∷ []) c) e (type_numbered y l)

      go : (c : Known) (r : List Item) → Back (λ w is c'. TypeForm ℓ c w t is c') r (put_type ℓ t c r)
      go c [] = tt
      go c (Val v ∷ r) = tt
      go c (Definition n ∷ r) = tt
      go c (ClassName cs ∷ r) = tt
      go c (FieldName cs ∷ r) = tt
      go c (TypeName cs ∷ r) =
          let same = eqb c.types t in
          let given = ltb c.types ℓ.types in
          item_back (λ w is c'. TypeForm ℓ c w t is c') (TypeName cs) r
          (put_if (same && given) (λ c r. put_bytes (shortest_text cs) (typed c) r) c r)
          (if_back (λ w is c'. TypeForm ℓ c w t (TypeName cs ∷ is) c') (same && given)
          (λ c r. put_bytes (shortest_text cs) (typed c) r) c r
          (λ x. back_as (Raw (λ w. Text w cs) (typed c)) (λ w is c'. TypeForm ℓ c w t (TypeName cs ∷ is) c')
          (λ w is c'. written c cs (eqb→eq c.types t (and_left same given x))
          (ltb→lt c.types ℓ.types (and_right same given x)))
          r (put_bytes (shortest_text cs) (typed c) r) ((bytes_sound (shortest_text cs) (text_is cs)).sound (typed c) r)))
      go c (TypeNumber k ∷ r) =
          let same = eqb k t in
          let given = ltb k c.types in
          item_back (λ w is c'. TypeForm ℓ c w t is c') (TypeNumber k) r
          (put_if (same && given) (put_bytes (shortest_int k)) c r)
          (if_back (λ w is c'. TypeForm ℓ c w t (TypeNumber k ∷ is) c') (same && given) (put_bytes (shortest_int k)) c r
          (λ x. back_as (Raw (λ w. Int w k) c) (λ w is c'. TypeForm ℓ c w t (TypeNumber k ∷ is) c')
          (λ w is c'. numbered c k (eqb→eq k t (and_left same given x)) (ltb→lt k c.types (and_right same given x)))
          r (put_bytes (shortest_int k) c r) ((int_sound k).sound c r)))

  -- ---- values with no definition before them
  module _ (below : Option Put) (room : Bool) (G : Phrase Known Item) where
    abbrev Room : Option Put → Type 0
    Room none = Unit {0}
    Room (some g) = T room × Sound G g

    module _ (room-is : Room below) where
      -- the value v, after its item
      abbrev Plain : Value → Phrase Known Item
      Plain v c w is c' = PlainForm Floats ℓ room G c w (Val v ∷ is) c'

      holds : {P R : Phrase Known Item} (body : Put → Put) → ((g : Put) → Sound G g → Sound R (body g))
          → (T room → (c : Known) (w : List ℕ) (is : List Item) (c' : Known) → R (opened c) w is c' → P c w is c')
          → Sound P (put_container below body)
      holds {P} {R} body h k = go below room-is
        where
          go : (o : Option Put) → Room o → Sound P (put_container o body)
          go none q = record { sound = λ c r. tt }
          go (some g) q = record {
            sound = λ c r. back_as (R (opened c)) (P c) (k q.0 c) r (body g (opened c) r)
                ((h g q.1).sound (opened c) r);
          }

      untyped : {n : ℕ} {c c' : Known} {w : List ℕ} {is : List Item} → T room
          → ListForm 0x78 0x58 0x57 n Nil G (opened c) w is c' → Plain (UntypedList n) c w is c'
      untyped r (as_few l (seq code (seq nil y))) = a_few r l y
      untyped r (as_counted l (seq code (seq nil (seq (raw i) y)))) = a_counted r i l y
      untyped r (as_open (seq code (seq nil y))) = an_open r y

      of_type : {n t : ℕ} {c c' : Known} {w : List ℕ} {is : List Item} → T room
          → ListForm 0x70 0x56 0x55 n (λ c w is c'. TypeForm ℓ c w t is c') G (opened c) w is c'
          → Plain (TypedList n t) c w is c'
      of_type r (as_few l (seq code (seq q y))) = a_few_typed r l q y
      of_type r (as_counted l (seq code (seq q (seq (raw i) y)))) = a_counted_typed r q i l y
      of_type r (as_open (seq code (seq q y))) = an_open_typed r q y

      untyped_map_law : {n : ℕ} {c c' : Known} {w : List ℕ} {is : List Item} → T room
          → Seq (Code 0x48) (Seq Nil (Ended 0x5a (PairForm G) n)) (opened c) w is c' → Plain (UntypedMap n) c w is c'
      untyped_map_law r (seq code (seq nil y)) = a_map r y

      map_of_type_law : {n t : ℕ} {c c' : Known} {w : List ℕ} {is : List Item} → T room
          → Seq (Code 0x4d) (Seq (λ c w is c'. TypeForm ℓ c w t is c') (Ended 0x5a (PairForm G) n)) (opened c) w is c'
          → Plain (TypedMap n t) c w is c'
      map_of_type_law r (seq code (seq q y)) = a_typed_map r q y

      object_of_law : {k n : ℕ} {c c' : Known} {w : List ℕ} {is : List Item} → T room → k < length c.classes
          → get_or c.classes k 0 ≡ n
          → Seq (Raw (ObjectBytes k)) (Many G n) (opened c) w is c' → Plain (Object k n) c w is c'
      object_of_law {k} {n} {c} {c'} r l e (seq {u = u} {v = v} {js = js} (raw h) y) =
          subst (λ (z : ℕ). Many G z (opened c) v js c' → Plain (Object k z) c (u ++ v) js c') e (fields h) y
        where
          fields : {u : List ℕ} → ObjectBytes k u → Many G (get_or c.classes k 0) (opened c) v js c'
              → Plain (Object k (get_or c.classes k 0)) c (u ++ v) js c'
          fields (one_byte i) y = a_few_object r i l y
          fields (with_int i) y = an_object r i l y

      reference_code : (c : Known) (k : ℕ) → k < c.references → Is (λ w. Plain (Reference k) c w [] c)
          (code_then 0x51 (shortest_int k))
      reference_code c k l = go (shortest_int k) (int_is k)
        where
          go : (o : Option (List ℕ)) → Is (λ w. Int w k) o → Is (λ w. Plain (Reference k) c w [] c) (code_then 0x51 o)
          go none h = tt
          go (some w) h = a_reference h l

      plain_by_law : (v : Value) → Sound (Plain v) (put_plain_by ℓ open_from below v)
      unfolding put_plain_by
      plain_by_law (Leaf x) = sound_as (bytes_sound (shortest_scalar x) (scalar_is x)) (λ c w is c'. leaf)
        where
          leaf : {c c' : Known} {w : List ℕ} {is : List Item} → Raw (λ w. Spelt w x) c w is c'
              → Plain (Leaf x) c w is c'
          leaf (raw y) = a_leaf y
      plain_by_law (UntypedList n) = holds (λ g. put_list open_from 0x78 0x58 0x57 n (put_bytes (some [])) (put_many g n))
          (λ g h. list_sound open_from 0x78 0x58 0x57 n most nothing_sound h) (λ r c w is c'. untyped r)
      plain_by_law (TypedList n t) = holds (λ g. put_list open_from 0x70 0x56 0x55 n (put_type ℓ t) (put_many g n))
          (λ g h. list_sound open_from 0x70 0x56 0x55 n most (type_sound t) h) (λ r c w is c'. of_type r)
      plain_by_law (UntypedMap n) = holds (λ g. put_open 0x48 (put_bytes (some [])) (put_many (put_then g g) n))
          (λ g h. map_sound 0x48 n nothing_sound (pair_sound h)) (λ r c w is c'. untyped_map_law r)
      plain_by_law (TypedMap n t) = holds (λ g. put_open 0x4d (put_type ℓ t) (put_many (put_then g g) n))
          (λ g h. map_sound 0x4d n (type_sound t) (pair_sound h)) (λ r c w is c'. map_of_type_law r)
      plain_by_law (Object k n) = record {
        sound = λ c r. if_back (Plain (Object k n) c) (test c) body c r
            (λ t. back_as (λ w is c'. T (test c) → Plain (Object k n) c w is c') (Plain (Object k n) c)
            (λ w is c' x. x t) r (body c r) (parts.sound c r));
      }
        where
          body : Put
          body = put_container below (λ g. put_then (put_bytes (object_code k)) (put_many g n))

          test : Known → Bool
          test c = eqb (get_or c.classes k 0) n && ltb k (length c.classes)

          parts : Sound (λ c w is c'. T (test c) → Plain (Object k n) c w is c')
              (put_container below (λ g. put_then (put_bytes (object_code k)) (put_many g n)))
          parts = holds (λ g. put_then (put_bytes (object_code k)) (put_many g n))
              (λ g h. then_sound (bytes_sound (object_code k) (object_code_law k)) (many_sound h n))
              (λ r c w is c' x t. object_of_law r (ltb→lt k (length c.classes)
              (and_right (eqb (get_or c.classes k 0) n) (ltb k (length c.classes)) t))
              (eqb→eq (get_or c.classes k 0) n (and_left (eqb (get_or c.classes k 0) n)
              (ltb k (length c.classes)) t)) x)
      plain_by_law (Reference k) = record {
        sound = λ c r. if_back (Plain (Reference k) c) (ltb k c.references)
            (put_bytes (code_then 0x51 (shortest_int k))) c r
            (λ t. here c r (code_then 0x51 (shortest_int k)) (reference_code c k (ltb→lt k c.references t)));
      }
        where
          here : (c : Known) (r : List Item) (o : Option (List ℕ)) → Is (λ w. Plain (Reference k) c w [] c) o
              → Back (Plain (Reference k) c) r (put_bytes o c r)
          here c r none h = tt
          here c r (some w) h = ([], refl, h)

      plain_sound : Sound (PlainForm Floats ℓ room G) (put_plain ℓ open_from below)
      plain_sound = record { sound = go }
        where
          go : (c : Known) (r : List Item) → Back (PlainForm Floats ℓ room G c) r (put_plain ℓ open_from below c r)
          go c [] = tt
          go c (Val v ∷ r) =
              item_back (PlainForm Floats ℓ room G c) (Val v) r (put_plain_by ℓ open_from below v c r)
              ((plain_by_law v).sound c r)
          go c (Definition n ∷ r) = tt
          go c (ClassName cs ∷ r) = tt
          go c (FieldName cs ∷ r) = tt
          go c (TypeName cs ∷ r) = tt
          go c (TypeNumber k ∷ r) = tt

  -- ---- definitions, with their 43
  data Coded : Known → List ℕ → List Item → Known → Type 0 where
    coded : {c c₁ : Known} {u : List ℕ} {is : List Item} → DefinitionForm ℓ c u is c₁ → Coded c (0x43 ∷ u) is c₁

  -- the class number is given
  data Given (n : ℕ) : Known → List ℕ → List Item → Known → Type 0 where
    given : {c : Known} → Given n c [] [] (defined n c)

  -- after its item
  abbrev Parts : ℕ → Phrase Known Item
  Parts n = Seq (Code 0x43) (Seq (NameForm ClassName) (Seq (Raw (λ w. Int w n))
      (Seq (Many (NameForm FieldName) n) (Given n))))

  abbrev parts : ℕ → Put
  parts n = put_then (put_code 0x43) (put_then (put_name class_name?) (put_then (put_bytes (shortest_int n))
      (put_then (put_many (put_name field_name?) n) (put_defined n))))

  given_sound : (n : ℕ) → Sound (Given n) (put_defined n)
  given_sound n = record { sound = λ c r. ([], refl, given) }

  parts_sound : (n : ℕ) → Sound (Parts n) (parts n)
  parts_sound n = then_sound (code_sound 0x43) (then_sound class_name_sound
      (then_sound (int_sound n) (then_sound (many_sound field_name_sound n) (given_sound n))))

  in_parts : {n : ℕ} {c c' : Known} {w : List ℕ} {is : List Item} → length c.classes < ℓ.classes → n < 2 ^ 63
      → n ≤ ℓ.fields → Parts n c w is c' → Coded c w (Definition n ∷ is) c'
  in_parts l b f (seq code (seq (a_name s) (seq (raw i) (seq {u = u} {is = is} y given)))) =
      rw (append-nil u, append-nil is) (coded (a_definition l s i b f y))

  definition_back : (n : ℕ) (c : Known) (r : List Item) → Back (Coded c) (Definition n ∷ r)
      (put_definition ℓ c (Definition n ∷ r))
  unfolding put_definition
  definition_back n c r =
      let few = ltb (length c.classes) ℓ.classes in
      let counted = ltb n (2 ^ 63) in
      let fields = leb n ℓ.fields in
      item_back (Coded c) (Definition n) r (put_if (few && (counted && fields)) (parts n) c r)
      (if_back (λ w is c'. Coded c w (Definition n ∷ is) c') (few && (counted && fields)) (parts n) c r
      (λ t. let u = and_right few (counted && fields) t in
      back_as (Parts n c) (λ w is c'. Coded c w (Definition n ∷ is) c')
      (λ w is c'. in_parts (ltb→lt (length c.classes) ℓ.classes (and_left few (counted && fields) t))
      (ltb→lt n (2 ^ 63) (and_left counted fields u))
      (leb→le n ℓ.fields (and_right counted fields u)))
      r (parts n c r) ((parts_sound n).sound c r)))

  definition_sound : Sound Coded (put_definition ℓ)
  unfolding put_definition
  definition_sound = record { sound = go }
    where
      go : (c : Known) (r : List Item) → Back (Coded c) r (put_definition ℓ c r)
      go c [] = tt
      go c (Val v ∷ r) = tt
      go c (Definition n ∷ r) = definition_back n c r
      go c (ClassName cs ∷ r) = tt
      go c (FieldName cs ∷ r) = tt
      go c (TypeName cs ∷ r) = tt
      go c (TypeNumber k ∷ r) = tt

  -- ---- values, and messages
  module _ {G : Phrase Known Item} {g : Put} (h : Sound G g) where
    by_itself : (c : Known) (r : List Item) → Back (Preceded 0x43 (DefinitionForm ℓ) G c) r (g c r)
    by_itself = (sound_as {Q = Preceded 0x43 (DefinitionForm ℓ) G} h (λ c w is c' x. alone x)).sound

    behind : {P : Put} → Sound (Preceded 0x43 (DefinitionForm ℓ) G) P → Sound (Preceded 0x43 (DefinitionForm ℓ) G)
        (put_then (put_definition ℓ) P)
    behind k = sound_as (then_sound definition_sound k) (λ c w is c'. one_more)
      where
        one_more : {c c' : Known} {w : List ℕ} {is : List Item} → Seq Coded
            (Preceded 0x43 (DefinitionForm ℓ) G) c w is c' → Preceded 0x43 (DefinitionForm ℓ) G c w is c'
        one_more (seq (coded x) y) = first x y

    preceded_sound : (k : ℕ) → Sound (Preceded 0x43 (DefinitionForm ℓ) G) (put_preceded ℓ k g)
    preceded_sound zero = record { sound = by_itself }
    preceded_sound (suc k) = record { sound = go (behind (preceded_sound k)) }
      where
        go : Sound (Preceded 0x43 (DefinitionForm ℓ) G) (put_then (put_definition ℓ) (put_preceded ℓ k g))
            → (c : Known) (r : List Item)
            → Back (Preceded 0x43 (DefinitionForm ℓ) G c) r (put_preceded ℓ (suc k) g c r)
        go m c [] = by_itself c []
        go m c (Val v ∷ r) = by_itself c (Val v ∷ r)
        go m c (Definition n ∷ r) = m.sound c (Definition n ∷ r)
        go m c (ClassName cs ∷ r) = by_itself c (ClassName cs ∷ r)
        go m c (FieldName cs ∷ r) = by_itself c (FieldName cs ∷ r)
        go m c (TypeName cs ∷ r) = by_itself c (TypeName cs ∷ r)
        go m c (TypeNumber n ∷ r) = by_itself c (TypeNumber n ∷ r)

    preceded_by_sound : Sound (Preceded 0x43 (DefinitionForm ℓ) G) (put_preceded_by ℓ g)
    preceded_by_sound = record { sound = λ c r. (preceded_sound (length r)).sound c r }

  value_sound : (d : ℕ) → Sound (ValueForm Floats ℓ d) (put_value ℓ open_from d)
  unfolding put_value
  value_sound zero = preceded_by_sound (plain_sound none false Nowhere tt)
  value_sound (suc d) =
      preceded_by_sound (plain_sound (some (put_value ℓ open_from d)) true (ValueForm Floats ℓ d) (tt, value_sound d))

  -- the spelling of a record is a message that the grammar derives for it
  pub message_back : (r : List Item) (w : List ℕ) → spell ℓ open_from r ≡ some w → Message Floats ℓ w r
  unfolding spell
  message_back r w e = go (put_value ℓ open_from ℓ.containers start r) ((value_sound ℓ.containers).sound start r) e
    where
      go : (o : Spelling) → Back (ValueForm Floats ℓ ℓ.containers start) r o → complete o ≡ some w
          → Message Floats ℓ w r
      go (Spelled v [] c) p e =
          let q : v ≡ w = cc in
          record { known = c; derived = rw (p.1 ∙ append-nil p.0, ← q) p.2 }
      go (Spelled v (x ∷ rest) c) p e = absurd (let z : ◌≡◌ {A = ℕ} 0 1 = cc in omega arith)
      go NoRecord p e = absurd (let z : ◌≡◌ {A = ℕ} 0 1 = cc in omega arith)

-- What a part of a spelling takes of the items: the first of them, and those left are the last. A name or a type takes
-- one item, which holds nothing and is no value; a class definition its item and its names; a value a forest.
use Rattle.std.specs.Prelude.{◌≡◌, Bool, true, false, cond, ◌&&◌, leb, length, get_or}
use Rattle.std.proofs.Math.Path.{refl}
use Rattle.std.proofs.Common.{sym, ◌∙◌, ap, subst, arith, length-append}
use mathlib.Core.List.{List, [], ◌∷◌, ◌++◌, append_assoc}
use Rattle.std.proofs.Math.Option.{Option, none, some}
use Prim.Native.Nat.{ℕ, zero, suc, ◌+◌, ◌*◌, ◌^◌}
use Rattle.std.proofs.Math.Dec.{ltb, eqb}
use Rattle.scalar.specs.Scalars.{shortest_scalar, shortest_int, shortest_text}
use Rattle.record.specs.Model.Items.{Value, Leaf, UntypedList, TypedList, UntypedMap, TypedMap, Object, Reference}
use Rattle.record.specs.Model.Items.{Item, Val, Definition, ClassName, FieldName, TypeName, TypeNumber, Known}
use Rattle.record.specs.Model.Items.{opened, typed, defined, Limits}
use Rattle.record.specs.Model.Rows.{holds, begins}
use Rattle.record.specs.Model.Shortest.{Spelling, Spelled, NoRecord, Put, put_then, put_many, put_bytes, put_code}
use Rattle.record.specs.Model.Shortest.{put_if}
use Rattle.record.specs.Model.Shortest.{put_item, value?, definition?, class_name?, field_name?, put_name, put_open}
use Rattle.record.specs.Model.Shortest.{put_list}
use Rattle.record.specs.Model.Shortest.{object_code, put_container, put_type, put_definition, put_preceded, put_plain_by}
use Rattle.record.specs.Model.Shortest.{put_value}
use Rattle.record.specs.Model.Shortest.{prefixed, on_spelled, code_then, put_defined, put_plain}
use Rattle.record.proofs.Laws.Forest.{Forest, empty, beside, over, behind}
use Rattle.record.specs.Laws.Takes.{Taken, none_taken, taken, Series, Takes, Drops}

-- ---- what is taken of the items s, where this is written of them
-- with the items u before, or none
pub before_taken : {P Q : List Item → Type 0} {s : List Item} {o : Spelling} (u : List Item)
    → ((t : List Item) → P t → Q (u ++ t)) → Taken P s o → Taken Q (u ++ s) o
before_taken u f none_taken = none_taken
before_taken u f (taken {r = r} {t = t} e x) =
    taken (ap (λ (l : List Item). u ++ l) e ∙ sym (append_assoc u t r)) (f t x)

then_taken : {A B C : List Item → Type 0} → ((s t : List Item) → A s → B t → C (s ++ t)) → {g : Put}
    → ((c : Known) (s : List Item) → Taken B s (g c s)) → {s : List Item} {o : Spelling} → Taken A s o
    → Taken C s (on_spelled o (λ w r' c'. prefixed w (g c' r')))
then_taken f h none_taken = none_taken
then_taken {B = B} {C = C} f h {s = s} (taken {w = w} {r = r} {c = c} {t = t} e x) = go (h c r)
  where
    go : {o : Spelling} → Taken B r o → Taken C s (prefixed w o)
    go none_taken = none_taken
    go (taken {r = q} {t = u} d y) = taken (e ∙ ap (λ (l : List Item). t ++ l) d ∙ sym (append_assoc t u q)) (f t u x y)

-- ---- items that are so many things of one sort, one after the other
weaker : {F G : Series} {j k : ℕ} {f : Put} → ((t : List Item) → F.Of j t → G.Of k t) → Takes F j f → Takes G k f
weaker h x = record { takes = λ c s. before_taken [] h (x.takes c s) }

module _ {F : Series} where
  as_takes : {a : ℕ} (b : ℕ) {f : Put} → a ≡ b → Takes F a f → Takes F b f
  as_takes b {f} e h = subst (λ (k : ℕ). Takes F k f) e h

  nothing_takes : (w : List ℕ) (next : Known → Known) → Takes F 0 (λ c r. Spelled w r (next c))
  nothing_takes w next = record { takes = λ c s. taken refl F.none_of }

  pub bytes_takes : (o : Option (List ℕ)) → Takes F 0 (put_bytes o)
  bytes_takes none = record { takes = λ c s. none_taken }
  bytes_takes (some w) = nothing_takes w (λ c. c)

  pub then_takes : {a b : ℕ} {f g : Put} → Takes F a f → Takes F b g → Takes F (a + b) (put_then f g)
  then_takes h j = record { takes = λ c s. then_taken (λ s t x y. F.join x y) j.takes (h.takes c s) }

  -- after bytes
  after_takes : (o : Option (List ℕ)) {k : ℕ} {g : Put} → Takes F k g → Takes F k (put_then (put_bytes o) g)
  after_takes o {k} h = as_takes k (omega arith) (then_takes (bytes_takes o) h)

  pub many_takes : {j : ℕ} {f : Put} → Takes F j f → (n : ℕ) → Takes F (n * j) (put_many f n)
  many_takes {j} h zero = as_takes (0 * j) (omega arith) (nothing_takes [] (λ c. c))
  many_takes {j} h (suc n) = as_takes (suc n * j) (omega arith) (then_takes h (many_takes h n))

  -- where a test of what is known holds; and where something else is known
  if_takes : {k : ℕ} (test : Known → Bool) {g : Put} → Takes F k g → Takes F k (λ c r. put_if (test c) g c r)
  if_takes {k} test {g} h = record { takes = λ c s. go c s (test c) }
    where
      go : (c : Known) (s : List Item) (t : Bool) → Taken (F.Of k) s (put_if t g c s)
      go c s true = h.takes c s
      go c s false = none_taken

  known_takes : {k : ℕ} (next : Known → Known) {g : Put} → Takes F k g → Takes F k (λ c r. g (next c) r)
  known_takes next h = record { takes = λ c s. h.takes (next c) s }

  cond_takes : {k : ℕ} (t : Bool) {f g : Put} → Takes F k f → Takes F k g → Takes F k (cond t f g)
  cond_takes true h j = h
  cond_takes false h j = j

-- where there is one
abbrev pub Whenever : {A : Type 0} → (A → Type 0) → Option A → Type 0
Whenever P none = Unit {0}
Whenever P (some a) = P a

always : {A Q : Type 0} → Q → (o : Option A) → Whenever (λ a. Q) o
always q none = tt
always q (some a) = q

-- the first item, if it is of the kind sought, and what is taken by it after it
item_taken : {A : Type 0} {P : List Item → Type 0} {F : Series} (part : Item → Option A) (k : A → ℕ) {g : A → Put}
    → ((a : A) → Takes F (k a) (g a))
    → ((i : Item) → Whenever (λ a. (t : List Item) → F.Of (k a) t → P (i ∷ t)) (part i))
    → (c : Known) (s : List Item) → Taken P s (put_item part g c s)
item_taken part k h f c [] = none_taken
item_taken {A} {P} {F} part k {g} h f c (i ∷ r) = go (part i) (f i)
  where
    go : (o : Option A) → Whenever (λ a. (t : List Item) → F.Of (k a) t → P (i ∷ t)) o
        → Taken P (i ∷ r) (elim o [ none ↦ NoRecord | some a ↦ g a c r ])
    go none u = none_taken
    go (some a) u = before_taken (i ∷ []) u ((h a).takes c r)

-- ---- anything at all: so the items left are the last ones
pub takes_drops : {F : Series} {k : ℕ} {f : Put} → Takes F k f → Drops f
takes_drops h = weaker (λ t x. tt) h

-- ---- values, names and types
abbrev pub forests : Series
forests = record { Of = Forest; none_of = empty; join = beside }

-- ---- names and types alone
-- no value is one of the items
pub data NoValue : List Item → Type 0 where
  no_item : NoValue []
  no_value : {i : Item} {t : List Item} → value? i ≡ none → NoValue t → NoValue (i ∷ t)

pub record Names (k : ℕ) (t : List Item) : Type 0 where
  pub forest : Forest k t
  pub counted : length t ≡ k
  pub valueless : NoValue t

valueless_join : {s t : List Item} → NoValue s → NoValue t → NoValue (s ++ t)
valueless_join no_item y = y
valueless_join (no_value e x) y = no_value e (valueless_join x y)

pub names_join : {a b : ℕ} {s t : List Item} → Names a s → Names b t → Names (a + b) (s ++ t)
names_join {s = s} {t = t} x y = record {
  forest = beside x.forest y.forest;
  counted = omega (arith, length-append s t, x.counted, y.counted);
  valueless = valueless_join x.valueless y.valueless;
}

abbrev pub names : Series
names = record {
  Of = Names;
  none_of = record { forest = empty; counted = refl; valueless = no_item };
  join = names_join;
}

-- an item that holds nothing, and is neither a value nor a definition
abbrev Single : Item → Type 0
Single i = (begins i ≡ 0) × (holds i ≡ 0) × (value? i ≡ none) × (definition? i ≡ none)

by_item : {P : Item → Type 0} → ((v : Value) → P (Val v)) → ((n : ℕ) → P (Definition n))
    → ((i : Item) → Single i → P i) → (i : Item) → P i
by_item f g h (Val v) = f v
by_item f g h (Definition n) = g n
by_item f g h (ClassName cs) = h (ClassName cs) (refl, refl, refl, refl)
by_item f g h (FieldName cs) = h (FieldName cs) (refl, refl, refl, refl)
by_item f g h (TypeName cs) = h (TypeName cs) (refl, refl, refl, refl)
by_item f g h (TypeNumber k) = h (TypeNumber k) (refl, refl, refl, refl)

single : (i : Item) → Single i → (t : List Item) → Names 0 t → Names 1 (i ∷ t)
single i (b, h, v, d) t x = record {
  forest = over b (subst (λ (k : ℕ). Forest k t) (sym h) x.forest);
  counted = omega (arith, x.counted);
  valueless = no_value v x.valueless;
}

name_takes : (part : Item → Option (List ℕ))
    → ((i : Item) → Whenever (λ cs. (t : List Item) → Names 0 t → Names 1 (i ∷ t)) (part i))
    → Takes names 1 (put_name part)
name_takes part f = record { takes = item_taken {F = names} part (λ cs. 0) (λ cs. bytes_takes (shortest_text cs)) f }

pub class_takes : Takes names 1 (put_name class_name?)
class_takes = name_takes class_name? (by_item (λ v. tt) (λ n. tt) (λ i x. always (single i x) (class_name? i)))

pub field_takes : Takes names 1 (put_name field_name?)
field_takes = name_takes field_name? (by_item (λ v. tt) (λ n. tt) (λ i x. always (single i x) (field_name? i)))

-- the items of a class definition: its own, and its names
pub data ClassItems : List Item → Type 0 where
  class_items : {n : ℕ} {t : List Item} → Names (suc n) t → ClassItems (Definition n ∷ t)

class_behind : (s t : List Item) → ClassItems s → Forest 1 t → Forest 1 (s ++ t)
class_behind s t (class_items x) y = behind x.forest x.counted y

module _ (ℓ : Limits) where
  pub type_takes : (t : ℕ) → Takes names 1 (put_type ℓ t)
  unfolding put_type
  type_takes t = record { takes = go }
    where
      go : (c : Known) (s : List Item) → Taken (Names 1) s (put_type ℓ t c s)
      go c [] = none_taken
      go c (Val v ∷ r) = none_taken
      go c (Definition n ∷ r) = none_taken
      go c (ClassName cs ∷ r) = none_taken
      go c (FieldName cs ∷ r) = none_taken
      go c (TypeName cs ∷ r) = before_taken (TypeName cs ∷ []) (single (TypeName cs) (refl, refl, refl, refl))
          ((if_takes {F = names} (λ c. eqb c.types t && ltb c.types ℓ.types)
          (known_takes typed (bytes_takes (shortest_text cs)))).takes c r)
      go c (TypeNumber k ∷ r) = before_taken (TypeNumber k ∷ []) (single (TypeNumber k) (refl, refl, refl, refl))
          ((if_takes {F = names} (λ c. eqb k t && ltb k c.types) (bytes_takes (shortest_int k))).takes c r)

  -- ---- a class definition. After its code: the name, the count, the field names, and then the class is given
  abbrev pub names_of : ℕ → Put
  names_of n = put_then (put_many (put_name field_name?) n) (put_defined n)

  abbrev pub count_of : ℕ → Put
  count_of n = put_then (put_bytes (shortest_int n)) (names_of n)

  abbrev pub body_of : ℕ → Put
  body_of n = put_then (put_code 0x43) (put_then (put_name class_name?) (count_of n))

  -- a definition of n fields is within the ceilings
  abbrev pub definable : Known → ℕ → Bool
  definable c n = ltb (length c.classes) ℓ.classes && (ltb n (2 ^ 63) && leb n ℓ.fields)

  -- after its item
  abbrev pub definition_by : ℕ → Put
  definition_by n c r = put_if (definable c n) (body_of n) c r

  pub defining_takes : (n : ℕ) → Takes names (suc n) (definition_by n)
  defining_takes n = if_takes (λ c. definable c n) (as_takes (suc n) (omega arith)
      (after_takes (some (0x43 ∷ [])) (then_takes class_takes
      (after_takes (shortest_int n) (then_takes (many_takes field_takes n) (nothing_takes [] (defined n)))))))

  pub definition_taken : (c : Known) (s : List Item) → Taken ClassItems s (put_definition ℓ c s)
  unfolding put_definition
  definition_taken = item_taken definition? suc defining_takes
      (by_item (λ v. tt) (λ n t x. class_items x) (λ i x. rw x.3 tt))

  pub definition_drops : Drops (put_definition ℓ)
  definition_drops = record { takes = λ c s. before_taken [] (λ t x. tt) (definition_taken c s) }

  -- definitions, and then a value
  preceded_takes : {g : Put} → Takes forests 1 g → (k : ℕ) → Takes forests 1 (put_preceded ℓ k g)
  preceded_takes h zero = h
  preceded_takes {g} h (suc k) = let y = preceded_takes h k in
      record { takes = λ c s. elim s as (λ s. Taken (Forest 1) s (put_preceded ℓ (suc k) g c s)) [ [] ↦ h.takes c [] | i ∷ r ↦ go y c i r (definition? i) ] }
    where
      go : Takes forests 1 (put_preceded ℓ k g) → (c : Known) (i : Item) (r : List Item) (o : Option ℕ)
          → Taken (Forest 1) (i ∷ r)
          (elim o [ none ↦ g c (i ∷ r) | some n ↦ put_then (put_definition ℓ) (put_preceded ℓ k g) c (i ∷ r) ])
      go y c i r none = h.takes c (i ∷ r)
      go y c i r (some n) = then_taken class_behind y.takes (definition_taken c (i ∷ r))

-- ---- values. What writes those in a value, if anything does, takes one
abbrev pub BelowTakes : Option Put → Type 0
BelowTakes below = Whenever (λ g. Takes forests 1 g) below

module _ (ℓ : Limits) (open_from : ℕ) where
  open_takes : (b : ℕ) {j n : ℕ} {q body : Put} → Takes forests j q → Takes forests n body
      → Takes forests (j + n) (put_open b q body)
  open_takes b {j} {n} h i = as_takes (j + n) (omega arith)
      (after_takes (some (b ∷ [])) (then_takes h (then_takes i (bytes_takes (some (0x5a ∷ []))))))

  list_takes : (few counted opening n : ℕ) {j k : ℕ} {q body : Put} → Takes forests j q → Takes forests k body
      → Takes forests (j + k) (put_list open_from few counted opening n q body)
  list_takes few counted opening n h i =
      cond_takes (ltb n 8) (after_takes (some ((few + n) ∷ [])) (then_takes h i))
      (cond_takes (ltb n open_from) (after_takes (some (counted ∷ [])) (then_takes h (after_takes (shortest_int n) i)))
      (open_takes opening h i))

  container_takes : {k : ℕ} (o : Option Put) → BelowTakes o → {body : Put → Put}
      → ((g : Put) → Takes forests 1 g → Takes forests k (body g)) → Takes forests k (put_container o body)
  container_takes none u h = record { takes = λ c s. none_taken }
  container_takes (some g) u h = known_takes opened (h g u)

  typed_takes : (t : ℕ) → Takes forests 1 (put_type ℓ t)
  typed_takes t = weaker (λ s x. x.forest) (type_takes ℓ t)

  -- after its item, a value takes what it holds
  pub by_takes : (o : Option Put) → BelowTakes o → (v : Value)
      → Takes forests (holds (Val v)) (put_plain_by ℓ open_from o v)
  unfolding put_plain_by
  by_takes o u (Leaf x) = bytes_takes (shortest_scalar x)
  by_takes o u (UntypedList n) = container_takes o u
      (λ g h. as_takes n (omega arith) (list_takes 0x78 0x58 0x57 n (bytes_takes (some [])) (many_takes h n)))
  by_takes o u (TypedList n t) = container_takes o u
      (λ g h. as_takes (suc n) (omega arith) (list_takes 0x70 0x56 0x55 n (typed_takes t) (many_takes h n)))
  by_takes o u (UntypedMap n) = container_takes o u
      (λ g h. as_takes (n * 2) (omega arith) (open_takes 0x48 (bytes_takes (some [])) (many_takes (then_takes h h) n)))
  by_takes o u (TypedMap n t) = container_takes o u
      (λ g h. as_takes (suc (n * 2)) (omega arith) (open_takes 0x4d (typed_takes t) (many_takes (then_takes h h) n)))
  by_takes o u (Object k n) = if_takes (λ c. eqb (get_or c.classes k 0) n && ltb k (length c.classes))
      (container_takes o u (λ g h. after_takes (object_code k) (as_takes n (omega arith) (many_takes h n))))
  by_takes o u (Reference k) = if_takes (λ c. ltb k c.references) (bytes_takes (code_then 0x51 (shortest_int k)))

  plain_takes : (o : Option Put) → BelowTakes o → Takes forests 1 (put_plain ℓ open_from o)
  plain_takes o u = record {
    takes = item_taken value? (λ v. holds (Val v)) (by_takes o u)
        (by_item (λ v t x. over refl x) (λ n. tt) (λ i x. rw x.2 tt));
  }

  pub value_takes : (d : ℕ) → Takes forests 1 (put_value ℓ open_from d)
  unfolding put_value
  value_takes zero = record { takes = λ c s. (preceded_takes ℓ (plain_takes none tt) (length s)).takes c s }
  value_takes (suc d) = let y = plain_takes (some (put_value ℓ open_from d)) (value_takes d) in
      record { takes = λ c s. (preceded_takes ℓ y (length s)).takes c s }

  pub value_drops : (d : ℕ) → Drops (put_value ℓ open_from d)
  value_drops d = takes_drops (value_takes d)

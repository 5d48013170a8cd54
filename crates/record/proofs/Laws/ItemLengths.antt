-- 2026-06: how many bytes of a record's shortest message are an item's own. They add up to the message's length,
-- whatever the threshold of the open form, up to 48.
use Rattle.std.proofs.Math.Path.{◌≡◌, refl, ap}
use Rattle.std.proofs.Common.{sym, ◌∙◌, arith, length-append}
use Rattle.std.specs.Prelude.{Bool, true, false, cond, ◌&&◌, eqb, leb, get_or}
use mathlib.Core.List.{List, [], ◌∷◌, map}
use Rattle.std.proofs.Math.Option.{Option, none, some}
use Prim.Native.Nat.{ℕ, zero, suc, ◌+◌, ◌^◌, ◌≤◌, ◌<◌}
use Rattle.std.proofs.Math.Dec.{ltb}
use Rattle.std.proofs.Math.ListN.{length}
use Rattle.flow.specs.Tests.{by_test, tests}
use Rattle.scalar.specs.Scalars.{total, shortest_scalar, shortest_int, shortest_text}
use Rattle.scalar.specs.Answers.{length_of}
use Rattle.scalar.proofs.AnswerLaws.{length_some}
use Rattle.scalar.proofs.ScalarLaws.{small_count}
use Rattle.record.specs.Model.Items.{Value, Leaf, UntypedList, TypedList, UntypedMap, TypedMap, Object, Reference}
use Rattle.record.specs.Model.Items.{Item, Val, Definition, ClassName, FieldName, TypeName, TypeNumber}
use Rattle.record.specs.Model.Items.{Known, start, opened, typed, Limits}
use Rattle.record.specs.Model.Shortest.{Spelling, Spelled, NoRecord, Put, on_spelled, prefixed, complete, code_then}
use Rattle.record.specs.Model.Shortest.{put_then, put_many, put_bytes, put_code, put_if, put_item, value?, class_name?}
use Rattle.record.specs.Model.Shortest.{field_name?, put_name, put_open, put_list, object_code, put_container}
use Rattle.record.specs.Model.Shortest.{put_defined, put_type, put_definition, put_preceded, put_plain_by, put_value}
use Rattle.record.specs.Model.Shortest.{spell}
use Rattle.record.specs.Laws.RowLengths.{list_length, few_length, more_length, object_length}

-- a single value, text or byte string; a list's code and count; a map's code and 5a; an object's code and class; a
-- reference's code and number
abbrev pub value_length : Value → ℕ
value_length (Leaf x) = length_of (shortest_scalar x)
value_length (UntypedList n) = list_length n
value_length (TypedList n t) = list_length n
value_length (UntypedMap n) = 2
value_length (TypedMap n t) = 2
value_length (Object k n) = object_length k
value_length (Reference k) = suc (length_of (shortest_int k))

-- a class definition's code and number of fields; names; a type number
abbrev pub item_length : Item → ℕ
item_length (Val v) = value_length v
item_length (Definition n) = suc (length_of (shortest_int n))
item_length (ClassName cs) = length_of (shortest_text cs)
item_length (FieldName cs) = length_of (shortest_text cs)
item_length (TypeName cs) = length_of (shortest_text cs)
item_length (TypeNumber k) = length_of (shortest_int k)

-- of all items of a record
abbrev pub record_length : List Item → ℕ
record_length r = total (map item_length r)

-- what is put of the first of the items r, if anything is, has n bytes more than are these items' own
abbrev More : ℕ → List Item → Spelling → Type 0
More n r (Spelled w rest c) = length w + record_length rest ≡ n + record_length r
More n r NoRecord = Unit {0}

record PutsMore (n : ℕ) (g : Put) : Type 0 where
  puts : (c : Known) (r : List Item) → More n r (g c r)

more_as : (m n : ℕ) (r q : List Item) (o : Spelling) → m + record_length r ≡ n + record_length q → More m r o → More n q o
more_as m n r q (Spelled w rest c) e x = omega arith
more_as m n r q NoRecord e x = tt

puts_as : {m n : ℕ} {g : Put} → m ≡ n → PutsMore m g → PutsMore n g
puts_as {m} {n} {g} e h = record { puts = λ c r. more_as m n r r (g c r) (omega arith) (h.puts c r) }

-- ---- bytes, one after the other, several
bytes_put : (o : Option (List ℕ)) → PutsMore (length_of o) (put_bytes o)
bytes_put none = record { puts = λ c r. tt }
bytes_put (some w) = record { puts = λ c r. omega (arith, length_some w) }

code_put : (b : ℕ) → PutsMore 1 (put_code b)
code_put b = record { puts = λ c r. refl }

code_then_put : (b : ℕ) (o : Option (List ℕ)) → PutsMore (suc (length_of o)) (put_bytes (code_then b o))
code_then_put b none = record { puts = λ c r. tt }
code_then_put b (some w) = record { puts = λ c r. omega (arith, length_some w) }

object_put : (k : ℕ) → PutsMore (object_length k) (put_bytes (object_code k))
unfolding object_code
object_put k = go (ltb k 16)
  where
    go : (t : Bool) → PutsMore (cond t 1 (suc (length_of (shortest_int k))))
        (put_bytes (cond t (some ((0x60 + k) ∷ [])) (code_then 0x4f (shortest_int k))))
    go true = code_put (0x60 + k)
    go false = code_then_put 0x4f (shortest_int k)

nothing_put : PutsMore 0 (put_bytes (some []))
nothing_put = record { puts = λ c r. refl }

then_put : {m n : ℕ} {g h : Put} → PutsMore m g → PutsMore n h → PutsMore (m + n) (put_then g h)
then_put {m} {n} {g} {h} x y = record { puts = λ c r. go r (g c r) (x.puts c r) }
  where
    after : (r rest : List Item) (w : List ℕ) (o : Spelling) → length w + record_length rest ≡ m + record_length r
        → More n rest o → More (m + n) r (prefixed w o)
    after r rest w (Spelled v q c) e k = omega (arith, length-append w v)
    after r rest w NoRecord e k = tt

    go : (r : List Item) (o : Spelling) → More m r o
        → More (m + n) r (on_spelled o (λ w r' c'. prefixed w (h c' r')))
    go r (Spelled w rest c) e = after r rest w (h c rest) e (y.puts c rest)
    go r NoRecord e = tt

many_put : {g : Put} → PutsMore 0 g → (n : ℕ) → PutsMore 0 (put_many g n)
many_put h zero = record { puts = λ c r. refl }
many_put h (suc n) = record { puts = (then_put h (many_put h n)).puts }

if_more : (n : ℕ) (r : List Item) (t : Bool) (g : Put) (c : Known) (q : List Item) → More n r (g c q)
    → More n r (put_if t g c q)
if_more n r true g c q x = x
if_more n r false g c q x = tt

-- ---- the first item's own bytes
first_more : (x : Item) (r : List Item) (o : Spelling) → More (item_length x) r o → More 0 (x ∷ r) o
first_more x r o h = more_as (item_length x) 0 r (x ∷ r) o (omega arith) h

first_if : (x : Item) (r : List Item) (t : Bool) (g : Put) (c : Known) → More (item_length x) r (g c r)
    → More 0 (x ∷ r) (put_if t g c r)
first_if x r t g c h = first_more x r (put_if t g c r) (if_more (item_length x) r t g c r h)

value_put : {k : Value → Put} → ((v : Value) → PutsMore (value_length v) (k v)) → PutsMore 0 (put_item value? k)
value_put {k} h = record { puts = go }
  where
    go : (c : Known) (r : List Item) → More 0 r (put_item value? k c r)
    go c [] = tt
    go c (Val v ∷ r) = first_more (Val v) r (k v c r) ((h v).puts c r)
    go c (Definition n ∷ r) = tt
    go c (ClassName cs ∷ r) = tt
    go c (FieldName cs ∷ r) = tt
    go c (TypeName cs ∷ r) = tt
    go c (TypeNumber n ∷ r) = tt

class_name_put : PutsMore 0 (put_name class_name?)
class_name_put = record { puts = go }
  where
    go : (c : Known) (r : List Item) → More 0 r (put_name class_name? c r)
    go c [] = tt
    go c (Val v ∷ r) = tt
    go c (Definition n ∷ r) = tt
    go c (ClassName cs ∷ r) =
        first_more (ClassName cs) r (put_bytes (shortest_text cs) c r) ((bytes_put (shortest_text cs)).puts c r)
    go c (FieldName cs ∷ r) = tt
    go c (TypeName cs ∷ r) = tt
    go c (TypeNumber n ∷ r) = tt

field_name_put : PutsMore 0 (put_name field_name?)
field_name_put = record { puts = go }
  where
    go : (c : Known) (r : List Item) → More 0 r (put_name field_name? c r)
    go c [] = tt
    go c (Val v ∷ r) = tt
    go c (Definition n ∷ r) = tt
    go c (ClassName cs ∷ r) = tt
    go c (FieldName cs ∷ r) =
        first_more (FieldName cs) r (put_bytes (shortest_text cs) c r) ((bytes_put (shortest_text cs)).puts c r)
    go c (TypeName cs ∷ r) = tt
    go c (TypeNumber n ∷ r) = tt

-- ---- lists, maps and objects: their values, names and types have bytes of their own
open_put : {q body : Put} (b : ℕ) → PutsMore 0 q → PutsMore 0 body → PutsMore 2 (put_open b q body)
open_put b x y = then_put (code_put b) (then_put x (then_put y (code_put 0x5a)))

-- up to 47 elements the count is one byte, as 5a is
one_byte : (n : ℕ) → n < 48 → length_of (shortest_int n) ≡ 1
one_byte n h = ap length_of (small_count n h) ∙ length_some ((0x90 + n) ∷ [])

list_put : {q body : Put} (open_from few counted opening n : ℕ) → open_from ≤ 48 → PutsMore 0 q → PutsMore 0 body
    → PutsMore (list_length n) (put_list open_from few counted opening n q body)
list_put open_from few counted opening n most x y =
    by_test (PutsMore (list_length n)) (ltb n 8)
    (λ t. puts_as (sym (few_length n (omega (arith, tests)))) (then_put (code_put (few + n)) (then_put x y)))
    (λ t. puts_as (sym (more_length n (omega (arith, tests)))) (by_test (PutsMore 2) (ltb n open_from)
    (λ t. puts_as (omega (arith, one_byte n (omega (arith, tests))))
    (then_put (code_put counted) (then_put x (then_put (bytes_put (shortest_int n)) y))))
    (λ t. open_put opening x y)))

abbrev PutsBelow : Option Put → Type 0
PutsBelow none = Unit {0}
PutsBelow (some g) = PutsMore 0 g

container_put : (n : ℕ) (below : Option Put) (body : Put → Put) → PutsBelow below
    → ((g : Put) → PutsMore 0 g → PutsMore n (body g)) → PutsMore n (put_container below body)
container_put n none body b h = record { puts = λ c r. tt }
container_put n (some g) body b h = record { puts = λ c r. (h g b).puts (opened c) r }

module _ (ℓ : Limits) (open_from : ℕ) (most : open_from ≤ 48) where
  type_put : (t : ℕ) → PutsMore 0 (put_type ℓ t)
  unfolding put_type
  type_put t = record { puts = go }
    where
      go : (c : Known) (r : List Item) → More 0 r (put_type ℓ t c r)
      go c [] = tt
      go c (Val v ∷ r) = tt
      go c (Definition n ∷ r) = tt
      go c (ClassName cs ∷ r) = tt
      go c (FieldName cs ∷ r) = tt
      go c (TypeName cs ∷ r) =
          first_if (TypeName cs) r (eqb c.types t && ltb c.types ℓ.types)
          (λ c r. put_bytes (shortest_text cs) (typed c) r) c ((bytes_put (shortest_text cs)).puts (typed c) r)
      go c (TypeNumber k ∷ r) =
          first_if (TypeNumber k) r (eqb k t && ltb k c.types) (put_bytes (shortest_int k)) c
          ((bytes_put (shortest_int k)).puts c r)

  plain_put : (below : Option Put) → PutsBelow below → (v : Value)
      → PutsMore (value_length v) (put_plain_by ℓ open_from below v)
  unfolding put_plain_by
  plain_put below h (Leaf x) = bytes_put (shortest_scalar x)
  plain_put below h (UntypedList n) = container_put _ below
      (λ g. put_list open_from 0x78 0x58 0x57 n (put_bytes (some [])) (put_many g n)) h
      (λ g b. list_put open_from 0x78 0x58 0x57 n most nothing_put (many_put b n))
  plain_put below h (TypedList n t) = container_put _ below
      (λ g. put_list open_from 0x70 0x56 0x55 n (put_type ℓ t) (put_many g n)) h
      (λ g b. list_put open_from 0x70 0x56 0x55 n most (type_put t) (many_put b n))
  plain_put below h (UntypedMap n) = container_put _ below
      (λ g. put_open 0x48 (put_bytes (some [])) (put_many (put_then g g) n)) h
      (λ g b. open_put 0x48 nothing_put (many_put (then_put b b) n))
  plain_put below h (TypedMap n t) = container_put _ below
      (λ g. put_open 0x4d (put_type ℓ t) (put_many (put_then g g) n)) h
      (λ g b. open_put 0x4d (type_put t) (many_put (then_put b b) n))
  plain_put below h (Object k n) =
      let own = object_length k in
      let body : Put → Put = λ g. put_then (put_bytes (object_code k)) (put_many g n) in
      record {
        puts = λ c r. if_more own r (eqb (get_or c.classes k 0) n && ltb k (length c.classes))
            (put_container below body) c r
            ((container_put own below body h
            (λ g b. puts_as (omega arith) (then_put (object_put k) (many_put b n)))).puts c r);
      }
  plain_put below h (Reference k) = record {
    puts = λ c r. if_more (suc (length_of (shortest_int k))) r (ltb k c.references)
        (put_bytes (code_then 0x51 (shortest_int k))) c r ((code_then_put 0x51 (shortest_int k)).puts c r);
  }

  -- ---- definitions, values, messages
  definition_put : PutsMore 0 (put_definition ℓ)
  unfolding put_definition
  definition_put = record { puts = go }
    where
      numbered : (n : ℕ) → PutsMore 0 (put_defined n)
      numbered n = record { puts = λ c r. refl }

      parts : ℕ → Put
      parts n = put_then (put_code 0x43) (put_then (put_name class_name?) (put_then (put_bytes (shortest_int n))
          (put_then (put_many (put_name field_name?) n) (put_defined n))))

      parts_put : (n : ℕ) → PutsMore (suc (length_of (shortest_int n))) (parts n)
      parts_put n = puts_as (omega arith)
          (then_put (code_put 0x43) (then_put class_name_put (then_put (bytes_put (shortest_int n))
          (then_put (many_put field_name_put n) (numbered n)))))

      go : (c : Known) (r : List Item) → More 0 r (put_definition ℓ c r)
      go c [] = tt
      go c (Val v ∷ r) = tt
      go c (Definition n ∷ r) =
          first_if (Definition n) r
          (ltb (length c.classes) ℓ.classes && (ltb n (2 ^ 63) && leb n ℓ.fields)) (parts n) c
          ((parts_put n).puts c r)
      go c (ClassName cs ∷ r) = tt
      go c (FieldName cs ∷ r) = tt
      go c (TypeName cs ∷ r) = tt
      go c (TypeNumber k ∷ r) = tt

  preceded_put : {g : Put} → PutsMore 0 g → (k : ℕ) (c : Known) (r : List Item) → More 0 r (put_preceded ℓ k g c r)
  preceded_put h zero c r = h.puts c r
  preceded_put h (suc k) c [] = h.puts c []
  preceded_put h (suc k) c (Val v ∷ r) = h.puts c (Val v ∷ r)
  preceded_put {g} h (suc k) c (Definition n ∷ r) =
      (then_put {h = put_preceded ℓ k g} definition_put (record { puts = preceded_put h k })).puts c (Definition n ∷ r)
  preceded_put h (suc k) c (ClassName cs ∷ r) = h.puts c (ClassName cs ∷ r)
  preceded_put h (suc k) c (FieldName cs ∷ r) = h.puts c (FieldName cs ∷ r)
  preceded_put h (suc k) c (TypeName cs ∷ r) = h.puts c (TypeName cs ∷ r)
  preceded_put h (suc k) c (TypeNumber n ∷ r) = h.puts c (TypeNumber n ∷ r)

  all_put : (d : ℕ) → PutsMore 0 (put_value ℓ open_from d)
  unfolding put_value
  all_put zero = record { puts = λ c r. preceded_put (value_put (plain_put none tt)) (length r) c r }
  all_put (suc d) = record {
    puts = λ c r. preceded_put (value_put (plain_put (some (put_value ℓ open_from d)) (all_put d))) (length r) c r;
  }

  -- a record's shortest message has the bytes that are its items' own, and no others
  pub spelled_length : (r : List Item) (w : List ℕ) → spell ℓ open_from r ≡ some w → length w ≡ record_length r
  unfolding spell
  spelled_length r w e = go (put_value ℓ open_from ℓ.containers start r) ((all_put ℓ.containers).puts start r) e
    where
      go : (o : Spelling) → More 0 r o → complete o ≡ some w → length w ≡ record_length r
      go (Spelled v [] c) h e = let p : v ≡ w = cc in omega (arith, ap length p)
      go (Spelled v (x ∷ l) c) h e = absurd (let z : ◌≡◌ {A = ℕ} 0 1 = cc in omega arith)
      go NoRecord h e = absurd (let z : ◌≡◌ {A = ℕ} 0 1 = cc in omega arith)

  -- the same, where there is one
  pub spell_length : (r : List Item) (w : List ℕ) → spell ℓ open_from r ≡ some w
      → length_of (spell ℓ open_from r) ≡ record_length r
  spell_length r w e = ap length_of e ∙ length_some w ∙ spelled_length r w e

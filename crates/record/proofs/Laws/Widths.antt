-- The rows of an accepted message have numbers of 64 bits.
use Rattle.std.proofs.Common.{sym, subst, arith, length-append}
use Rattle.std.specs.Prelude.{Bool, true, false, List, [], ◌∷◌, ◌++◌, ℕ, zero, suc, ◌+◌, ◌^◌, ◌≤◌, ◌<◌, length, get_or}
use Rattle.std.proofs.lemmas.List.{length-map}
use Rattle.flow.specs.Flow.{Bytes, Entry, items}
use Rattle.flow.specs.Grammar.{Phrase, Many, finished, another, Ended, ended, Preceded, alone, first}
use Rattle.scalar.specs.declared.Sort.{Sort}
use Rattle.scalar.specs.declared.Sort.TheVariants as sort
use Rattle.scalar.specs.declared.Encoding.TheVariants.{Utf8, Binary}
use Rattle.scalar.specs.Scalars.{Scalar, units, sort_kind}
use Rattle.scalar.specs.Grammar.{SpeltUnder, a_number, a_string, Text}
use Rattle.scalar.proofs.NumberLaws.{number_some}
use Rattle.scalar.proofs.TextLaws.{string_some}
use Rattle.scalar.proofs.Bits.{number_bits, content_length, units_few}
use Rattle.scalar.specs.Scalars.{DoubleRule}
use Rattle.record.specs.Model.Items.{Leaf, Item, Val, FieldName, Known, start, opened, typed, defined, Limits}
use Rattle.record.specs.Model.Rows.{row, item_row, rows_from, rows}
use Rattle.record.specs.Model.Grammar.{NameForm, a_name, TypeForm, type_spelled, type_numbered, PairForm, a_pair}
use Rattle.record.specs.Model.Grammar.{DefinitionForm, a_definition, PlainForm, a_leaf, a_few, a_counted, an_open}
use Rattle.record.specs.Model.Grammar.{a_few_typed, a_counted_typed, an_open_typed, a_map, a_typed_map}
use Rattle.record.specs.Model.Grammar.{a_few_object, an_object, a_reference, ValueForm}
use Rattle.record.specs.Model.Grammar.{Nowhere}
use Rattle.record.proofs.Laws.RowLaws.{item_moved}
use Rattle.record.proofs.Laws.Meaning.{reads_derived}
use Rattle.record.proofs.Laws.Extent.{scalar_some, rows_few}
use Rattle.record.proofs.Laws.Places.{EntriesOpen, places}
use Rattle.record.proofs.Laws.Spans.{Nested, own_nested}
use Rattle.record.specs.Model.Terms.{Accepts}
use Rattle.record.specs.Laws.TableLaws.{All}
use Rattle.record.specs.Model.Calls.{Fits}
use Rattle.record.proofs.Theorems.RowTheorems.{judged_done, own_reads}

-- ---- what is known after N bytes: at most N numbers of each sort, and classes of fewer than 2 ^ 63 fields
record Within (N : ℕ) (c : Known) : Type 0 where
  references : c.references ≤ N
  types : c.types ≤ N
  classes : length c.classes ≤ N
  fields : (k : ℕ) → get_or c.classes k 0 < 2 ^ 63

more : {N M : ℕ} {c : Known} → N ≤ M → Within N c → Within M c
more l a = record { references = omega arith; types = omega arith; classes = omega arith; fields = a.fields }

open_within : {N : ℕ} {c : Known} → Within N c → Within (N + 1) (opened c)
open_within a = record { references = omega arith; types = omega arith; classes = omega arith; fields = a.fields }

type_within : {N : ℕ} {c : Known} → Within N c → Within (N + 1) (typed c)
type_within a = record { references = omega arith; types = omega arith; classes = omega arith; fields = a.fields }

define_within : {N n : ℕ} {c : Known} → n < 2 ^ 63 → Within N c → Within (N + 1) (defined n c)
define_within {c = c} l a = record {
  references = omega arith;
  types = omega arith;
  classes =
      rw length-append (omega arith);
  fields = below (omega arith) c.classes a.fields;
}
  where
    below : {x : ℕ} → x < 2 ^ 63 → (l : List ℕ) → ((k : ℕ) → get_or l k 0 < 2 ^ 63) → (k : ℕ)
        → get_or (l ++ (x ∷ [])) k 0 < 2 ^ 63
    below i [] h zero = i
    below i [] h (suc k) = omega arith
    below i (y ∷ l) h zero = h 0
    below i (y ∷ l) h (suc k) = below i l (λ j. h (suc j)) k

-- ---- an item whose row has 64 bits, whatever its place
abbrev Narrow : Item → Type 0
Narrow i = Fits (item_row 0 0 i)

abbrev Each : List Item → Type 0
Each [] = Unit {0}
Each (i ∷ is) = Narrow i × Each is

each_append : (is js : List Item) → Each is → Each js → Each (is ++ js)
each_append [] js p q = q
each_append (i ∷ is) js p q = (p.0, each_append is js p.1 q)

fits : {k a b : ℕ} → k < 2 ^ 64 → a < 2 ^ 64 → b < 2 ^ 64 → Fits (row k 0 a b 0)
fits h i j = record { kind = h; place = omega arith; first = i; second = j; after = omega arith }

sort_few : (s : Sort) → sort_kind s < 2 ^ 64
sort_few sort.Null = omega arith
sort_few sort.False = omega arith
sort_few sort.True = omega arith
sort_few sort.Int = omega arith
sort_few sort.Long = omega arith
sort_few sort.Double = omega arith
sort_few sort.Date = omega arith

text_fits : {k : ℕ} {w cs : List ℕ} → k < 2 ^ 64 → Text w cs → length w < 2 ^ 63
    → Fits (row k 0 (units Utf8 cs) (length cs) 0)
text_fits {cs = cs} h x l =
    fits h (omega (arith, content_length x, units_few Utf8 cs)) (omega (arith, content_length x))

scalar_narrow : {ρ : DoubleRule} {w : List ℕ} {x : Scalar} → SpeltUnder ρ w x → length w < 2 ^ 63
    → Narrow (Val (Leaf x))
scalar_narrow (a_number {s = s} n) l = fits (sort_few s) (number_bits s n) (omega arith)
scalar_narrow (a_string {k = Utf8} x) l = text_fits (omega arith) x l
scalar_narrow (a_string {k = Binary} x) l = fits (omega arith) (omega (arith, content_length x)) (omega arith)

-- ---- a phrase w of at least n bytes, after N bytes: what is known then, and items of 64 bits
record Bounded (N n : ℕ) (w : List ℕ) (is : List Item) (c : Known) : Type 0 where
  some : n ≤ length w
  known : Within (N + length w) c
  narrow : Each is

abbrev Bounds : Phrase Known Item → Type 0
Bounds G = (N : ℕ) (c : Known) (w : List ℕ) (is : List Item) (c' : Known) → G c w is c' → Within N c
    → N + length w < 2 ^ 63 → Bounded N 1 w is c'

then_bounds : {N a b k : ℕ} {u v : List ℕ} {is js : List Item} {c₁ c₂ : Known} → k ≤ a + b → Bounded N a u is c₁
    → Bounded (N + length u) b v js c₂ → Bounded N k (u ++ v) (is ++ js) c₂
then_bounds {u = u} {v = v} {is = is} {js = js} l x y = record {
  some = omega (arith, length-append u v);
  known = more (omega (arith, length-append u v)) y.known;
  narrow = each_append is js x.narrow y.narrow;
}

-- bytes that are no item
raw_bounds : {N : ℕ} {c : Known} (w : List ℕ) → Within N c → Bounded N 0 w [] c
raw_bounds w a = record { some = omega arith; known = more (omega arith) a; narrow = tt }

-- a first byte, and its item before the others
byte_bounds : {N n k : ℕ} {w : List ℕ} {is : List Item} {c : Known} {b : ℕ} → k ≤ suc n → Bounded (N + 1) n w is c
    → Bounded N k (b ∷ w) is c
byte_bounds l x = record { some = omega arith; known = more (omega arith) x.known; narrow = x.narrow }

head_bounds : {N n : ℕ} {w : List ℕ} {is : List Item} {c : Known} {b : ℕ} {i : Item} → Narrow i
    → Bounded (N + 1) n w is c → Bounded N 1 (b ∷ w) (i ∷ is) c
head_bounds s x = record { some = omega arith; known = more (omega arith) x.known; narrow = (s, x.narrow) }

many_bounds : (G : Phrase Known Item) → Bounds G → {n : ℕ} {c c' : Known} {w : List ℕ} {is : List Item}
    → Many G n c w is c' → (N : ℕ) → Within N c → N + length w < 2 ^ 63 → Bounded N n w is c'
many_bounds G h finished N a l = raw_bounds [] a
many_bounds G h (another {c = c} {c₁ = c₁} {u = u} {v = v} {is = is} g r) N a l =
    let x = h N c u is c₁ g a (omega (arith, length-append u v)) in
    then_bounds (omega arith) x (many_bounds G h r (N + length u) x.known (omega (arith, length-append u v)))

end_bounds : (G : Phrase Known Item) → Bounds G → {n : ℕ} {c c' : Known} {w : List ℕ} {is : List Item}
    → Ended 0x5a G n c w is c' → (N : ℕ) → Within N c → N + length w < 2 ^ 63 → Bounded N n w is c'
end_bounds G h (ended {v = v} r) N a l =
    let x = many_bounds G h r N a (omega (arith, length-append v (0x5a ∷ []))) in
    record {
      some = omega (arith, length-append v (0x5a ∷ []));
      known =
          more (omega (arith, length-append v (0x5a ∷ []))) x.known;
      narrow = x.narrow;
    }

pair_bounds : (G : Phrase Known Item) → Bounds G → Bounds (PairForm G)
pair_bounds G h N c w is c' (a_pair {c₁ = c₁} {u = u} {v = v} {is = is₁} {js = js} x y) a l =
    let p = h N c u is₁ c₁ x a (omega (arith, length-append u v)) in
    then_bounds (omega arith) p (h (N + length u) c₁ v js c' y p.known (omega (arith, length-append u v)))

name_bounds : Bounds (NameForm FieldName)
name_bounds N c w is c' (a_name r) a l = record {
  some = omega (arith, string_some r);
  known = more (omega arith) a;
  narrow = (text_fits (omega arith) r (omega arith), tt);
}

type_bounds : (ℓ : Limits) {c c' : Known} {w : List ℕ} {t : ℕ} {is : List Item} → TypeForm ℓ c w t is c' → (N : ℕ)
    → Within N c → N + length w < 2 ^ 63 → (t ≤ N) × Bounded N 1 w is c'
type_bounds ℓ (type_spelled r x) N a l = (
  a.types,
  record {
    some = omega (arith, string_some x);
    known =
        more (omega (arith, string_some x)) (type_within a);
    narrow = (text_fits (omega arith) x (omega arith), tt);
  },
)
type_bounds ℓ (type_numbered x r) N a l = (
  omega arith,
  record {
    some = omega (arith, number_some x);
    known =
        more (omega arith) a;
    narrow = (fits (omega arith) (omega arith) (omega arith), tt);
  },
)

module _ (ρ : DoubleRule) (ℓ : Limits) where
  -- a definition, after its 43
  definition_bounds : {c c' : Known} {w : List ℕ} {is : List Item} → DefinitionForm ℓ c w is c' → (N : ℕ) → Within N c
      → N + 1 + length w < 2 ^ 63 → Bounded (N + 1) 1 w is c'
  definition_bounds (a_definition {u = u} {v = v} {w = w} r x i b f y) N a l =
      let e = length-append u (v ++ w) in
      let z = many_bounds (NameForm FieldName) name_bounds y (N + length u + length v) (more (omega arith) a)
      (omega (arith, length-append v w)) in
      record {
        some = omega (arith, string_some x);
        known = more (omega (arith, length-append v w)) (define_within b z.known);
        narrow = (fits (omega arith) (omega arith) (omega arith), (text_fits (omega arith) x (omega arith), z.narrow));
      }

  module _ (room : Bool) (G : Phrase Known Item) (h : Bounds G) where
    -- the bytes of a count or a number, and then the values
    counted_bounds : {n : ℕ} {c c' : Known} (u : List ℕ) {v : List ℕ} {is : List Item} → Many G n c v is c' → (N : ℕ)
        → Within N c → N + length (u ++ v) < 2 ^ 63 → Bounded N n (u ++ v) is c'
    counted_bounds u {v} y N a l = then_bounds (omega arith) (raw_bounds u a)
        (many_bounds G h y (N + length u) (raw_bounds u a).known (omega (arith, length-append u v)))

    -- a container of the code b and the item i; with its type
    held_bounds : {N n : ℕ} {c c' : Known} {w : List ℕ} {is : List Item} {b : ℕ} {i : Item} → Within N c
        → N + suc (length w) < 2 ^ 63
        → ((M : ℕ) → Within M (opened c) → M + length w < 2 ^ 63 → Bounded M n w is c') → (n ≤ length w → Narrow i)
        → Bounded N 1 (b ∷ w) (i ∷ is) c'
    held_bounds {N} a l rest s = let y = rest (N + 1) (open_within a) (omega arith) in head_bounds (s y.some) y

    typed_bounds : {N n t : ℕ} {c c₁ c₂ : Known} {u v : List ℕ} {is js : List Item} {b : ℕ} {i : Item} → Within N c
        → N + suc (length (u ++ v)) < 2 ^ 63 → TypeForm ℓ (opened c) u t is c₁
        → ((M : ℕ) → Within M c₁ → M + length v < 2 ^ 63 → Bounded M n v js c₂) → (t ≤ N + 1 → n ≤ length v → Narrow i)
        → Bounded N 1 (b ∷ (u ++ v)) (i ∷ (is ++ js)) c₂
    typed_bounds {N} {u = u} {v = v} a l q rest s =
        let e = length-append u v in
        let x = type_bounds ℓ q (N + 1) (open_within a) (omega arith) in
        let y = rest (N + 1 + length u) x.1.known (omega arith) in
        head_bounds (s x.0 y.some) (then_bounds {k = 0} (omega arith) x.1 y)

    plain_bounds : Bounds (PlainForm ρ ℓ room G)
    plain_bounds N c w is c' (a_leaf y) a l =
        record { some = scalar_some y; known = more (omega arith) a; narrow = (scalar_narrow y (omega arith), tt) }
    plain_bounds N c w is c' (a_few_typed r i q y) a l =
        typed_bounds a l q (many_bounds G h y) (λ j k. fits (omega arith) (omega arith) (omega arith))
    plain_bounds N c w is c' (a_counted_typed {v = v} r q x i y) a l =
        typed_bounds a l q (counted_bounds v y) (λ j k. fits (omega arith) (omega arith) (omega arith))
    plain_bounds N c w is c' (an_open_typed {u = u} {v = v} r q y) a l =
        typed_bounds a l q (end_bounds G h y) (λ j k. fits (omega arith) (omega (arith, length-append u v))
        (omega arith))
    plain_bounds N c w is c' (a_few r i y) a l =
        held_bounds a l (many_bounds G h y) (λ k. fits (omega arith) (omega arith) (omega arith))
    plain_bounds N c w is c' (a_counted {u = u} r x i y) a l =
        held_bounds a l (counted_bounds u y) (λ k. fits (omega arith) (omega arith) (omega arith))
    plain_bounds N c w is c' (an_open r y) a l =
        held_bounds a l (end_bounds G h y) (λ k. fits (omega arith) (omega arith) (omega arith))
    plain_bounds N c w is c' (a_typed_map {u = u} {v = v} r q y) a l =
        typed_bounds a l q (end_bounds (PairForm G) (pair_bounds G h) y)
        (λ j k. fits (omega arith) (omega (arith, length-append u v)) (omega arith))
    plain_bounds N c w is c' (a_map r y) a l = held_bounds a l (end_bounds (PairForm G) (pair_bounds G h) y)
        (λ k. fits (omega arith) (omega arith) (omega arith))
    plain_bounds N c w is c' (a_few_object {k = k} r i x y) a l =
        held_bounds a l (many_bounds G h y) (λ j. fits (omega arith) (omega arith) (omega (arith, a.fields k)))
    plain_bounds N c w is c' (an_object {k = k} {u = u} r q x y) a l =
        held_bounds a l (counted_bounds u y) (λ j. fits (omega arith) (omega arith) (omega (arith, a.fields k)))
    plain_bounds N c w is c' (a_reference q x) a l = record {
      some = omega arith;
      known = more (omega arith) a;
      narrow =
          (fits (omega arith) (omega arith) (omega arith), tt);
    }

    preceded_bounds : {c c' : Known} {w : List ℕ} {is : List Item} → Preceded 0x43 (DefinitionForm ℓ)
        (PlainForm ρ ℓ room G) c w is c' → (N : ℕ) → Within N c → N + length w < 2 ^ 63 → Bounded N 1 w is c'
    preceded_bounds (alone {c = c} {c' = c'} {w = w} {is = is} x) N a l = plain_bounds N c w is c' x a l
    preceded_bounds (first {u = u} {v = v} x r) N a l =
        let e = length-append u v in
        let y = definition_bounds x N a (omega arith) in
        byte_bounds (omega arith) (then_bounds {k = 1} (omega arith) y
        (preceded_bounds r (N + 1 + length u) y.known (omega arith)))

  value_bounds : (d : ℕ) → Bounds (ValueForm ρ ℓ d)
  value_bounds zero N c w is c' x a l = preceded_bounds false Nowhere (λ N c w is c' x. absurd x) x N a l
  value_bounds (suc d) N c w is c' x a l = preceded_bounds true (ValueForm ρ ℓ d) (value_bounds d) x N a l

-- ---- the rows, numbered from k
entries_fit : (m : List ℕ) → length m < 2 ^ 63 → (k : ℕ) (es : List (Entry Item)) → k + length es < 2 ^ 63
    → EntriesOpen m es → Nested es → Each (items es) → All Fits (rows_from k es)
entries_fit m l k [] f h n i = tt
entries_fit m l k (e ∷ es) f h n i =
    let s = i.0 in (
      subst Fits (sym (item_moved 0 0 e.place (k + e.span) e.item))
          (record {
            kind = s.kind;
            place = omega (arith, h.0);
            first = s.first;
            second = s.second;
            after =
                omega (arith, n.0);
          }),
      entries_fit m l (suc k) es (omega arith) h.2 n.1 i.1,
    )

-- of a message of fewer than 2 ^ 63 bytes
pub rows_fit : (ρ : DoubleRule) (ℓ : Limits) (m : List ℕ) → Bytes m → length m < 2 ^ 63
    → (r : List Item) (x : Accepts ρ ℓ m r)
    → All Fits (rows x.entries)
rows_fit ρ ℓ m b l r x =
    let e = (judged_done ρ ℓ m (length m) x.entries x.known x.done).1 in
    let reads = own_reads ρ ℓ m b (length m) x.entries x.known e in
    let y = reads_derived ρ ℓ m (items x.entries) reads in
    let nothing : Within 0 start = record {
      references = omega arith;
      types = omega arith;
      classes = omega arith;
      fields = λ k. omega arith;
    } in
    entries_fit m l 0 x.entries (omega (
      arith,
      rows_few ρ ℓ m (items x.entries) reads,
      length-map x.entries (λ (e : Entry Item). e.item),
    )) (places ρ ℓ m b (length m) x.entries x.known e)
    (own_nested ρ ℓ m b (length m) x.entries x.known e) (value_bounds ρ ℓ ℓ.containers 0 start m
    (items x.entries) y.known y.derived nothing (omega arith)).narrow

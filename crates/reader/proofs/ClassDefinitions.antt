-- What the contracts on class definitions ask at each way out of the code.
use Rattle.std.proofs.Common.{◌≡◌, ℕ, suc, true, eqb, ◌+◌, ◌<◌, ◌≤◌, List, [], ◌∷◌, ◌++◌, length, get_or, sym, refl, ap, ◌∙◌, subst, ⊎_elim, append-nil, arith, length-append, eq-eqb}
use Rattle.std.specs.Prelude.{Ok, Err}
use Rattle.scalar.specs.Scalars.{Floats}
use Rattle.flow.specs.Flow.{Done, One, byte_at}
use Rattle.scalar.specs.declared.Lead.TheVariants as lead
use Rattle.scalar.specs.declared.Encoding.TheVariants.{Utf8}
use Rattle.scalar.specs.declared.refusals.Refused.{Refused}
use Rattle.scalar.specs.declared.refusals.Refusal.TheVariants as refusal
use Rattle.scalar.specs.Refusals.{number_of}
use Rattle.numbers.specs.declared.NumberPassed.{NumberPassed}
use Rattle.texts.specs.declared.StringPassed.{StringPassed}
use Rattle.scalar.proofs.ChartLaws.{definition_byte}
use Rattle.scalar.specs.Answers.{sized, measured_at}
use Rattle.texts.specs.Answers.{PassedMet}
use Rattle.record.specs.declared.known.Known as code
use Rattle.record.specs.Model.Items.{Known, Definition, defined}
use Rattle.record.specs.Model.Reading.{value_from}
use Rattle.record.specs.Model.Rows.{Row, row}
use Rattle.record.specs.Model.Answers.{base}
use Rattle.record.specs.ForReader.ReadingAt.{ReadingAt, ReadTo, run, front, on, topped}
use Rattle.record.proofs.ForReader.ReadingAt.{front_none, front_front}
use Rattle.record.specs.ForReader.ReadDefinitions.{names_left}
use Rattle.record.proofs.ForReader.ReadDefinitions.{names_stop, names_step, names_lost, definition_full}
use Rattle.record.proofs.ForReader.ReadDefinitions.{definition_nameless, definition_countless, definition_negative}
use Rattle.record.proofs.ForReader.ReadDefinitions.{definition_wide}
use Rattle.record.proofs.ForReader.ReadDefinitions.{names_in, value_defined, value_undefined}
use Rattle.record.specs.Laws.KnownLaws.{known_in, Kept, defined_in}
use Rattle.record.proofs.Laws.KnownLaws.{one_class, defined_room, known_defined, kept_defined, classes_counted}
use Rattle.reader.specs.declared.definitions.ClassRead.{ClassRead}
use Rattle.reader.specs.declared.Spot.{Spot}
use Rattle.reader.specs.Slots.{Keeping, Swaps, RowRead}
use Rattle.reader.specs.Promises.{refused, lost, PlaceIn, ReadyAt, LeadAt, StoresRows, ReadsRows}
use Rattle.reader.specs.Promises.{FieldCountMet, ClassReadMet, NamesReadMet, DefinitionReadMet}
use Rattle.reader.specs.Promises.{ClassIs}
use Rattle.reader.proofs.KeptRows.{stores_none, stores_single, stores_on, stores_top, reads_on}
use Rattle.reader.proofs.Sizes.{string_room, string_has}
use Rattle.reader.proofs.Leaves.{byte_small, text_row}

-- ---- a class's name, and its field count
module _ {m : List ℕ} {ks : code.Known} {p : ℕ} (w : LeadAt m p lead.Definition) (k : Kept ks) where
  pub class_full : base.classes ≤ ks.classes → ClassReadMet m (known_in ks) p (Err (refused refusal.Ceiling p))
  class_full l = record { says = definition_full base p (known_in ks) m (p + 1) (omega (arith, classes_counted k)) }

  module _ (f : ks.classes < base.classes) where
    free : length (known_in ks).classes < base.classes
    free = omega (arith, classes_counted k)

    past : p + 1 ≤ length m
    past = omega (arith, w.inside)

    pub class_nameless : (r : Refused) → PassedMet Utf8 m (p + 1) (Err r) → ClassReadMet m (known_in ks) p (Err r)
    class_nameless r t = record {
      says = definition_nameless base p (known_in ks) m (p + 1) free past (number_of r.refusal) r.place t.says;
    }

    module _ {x : StringPassed} (t : PassedMet Utf8 m (p + 1) (Ok x)) where
      abbrev there : measured_at Utf8 m (p + 1) ≡ Done x.size (sized x.units x.bytes t.says.shortest) [] tt
      there = t.says.says

      pub class_named : PlaceIn m (p + 1 + x.size)
      class_named = record { bytes = w.bytes; within = (string_room Utf8 m (p + 1) t w.bytes).1 }

      pub class_counted : (n : NumberPassed) → FieldCountMet m (p + 1 + x.size) (Ok n)
          → ClassReadMet m (known_in ks) p
          (Ok (record { units = x.units; bytes = x.bytes; fields = n.value; next = p + 1 + x.size + n.size }))
      class_counted n y =
          let s = y.says in
          record {
            says = record {
              says =
                  names_in base p (known_in ks) m (p + 1) free past x.size x.units x.bytes _ there (p + 1 + x.size) refl
                  class_named.within n.size n.value s.is (omega (arith, s.few)) (omega (arith, s.few))
                  (run (names_left n.value 0) (known_in ks) m (p + 1 + x.size + n.size)) refl;
              few = omega (arith, s.few);
              free = free;
              onward = omega (arith, string_room Utf8 m (p + 1) t w.bytes, s.some);
              within = s.within;
              named = string_has Utf8 m (p + 1) t;
            };
          }

      pub class_uncounted : (r : Refused) → FieldCountMet m (p + 1 + x.size) (Err r)
          → ClassReadMet m (known_in ks) p (Err r)
      class_uncounted r s = record {
        says = ⊎_elim
            (λ l. definition_countless base p (known_in ks) m (p + 1) free past x.size x.units x.bytes _ there
            (p + 1 + x.size) refl class_named.within (number_of r.refusal) r.place l)
            (λ l. ⊎_elim
            (λ n. rw n.refusal (definition_negative base p (known_in ks) m (p + 1) free past x.size x.units x.bytes _
            there (p + 1 + x.size) refl class_named.within n.size n.value n.is n.below))
            (λ n. rw n.refusal (definition_wide base p (known_in ks) m (p + 1) free past x.size x.units x.bytes _ there
            (p + 1 + x.size) refl class_named.within n.size n.value n.is n.plain n.above))
            l)
            s.says;
      }

-- ---- the loop over field names: what is left reads as the whole does, with the rows so far in front; j is the row of
-- the next name
pub record ReadingNames (K : Keeping) (m t₀ : List ℕ) (s : Spot) (n : ℕ) (t : List ℕ) (here j : ℕ) : Type 0 where
  pub i : ℕ
  pub is : j ≡ s.row + i
  pub rows : List Row
  pub says : (c : Known) → front rows (run (names_left n i) c m here) ≡ run (names_left n 0) c m s.at
  pub counted : length rows ≡ i
  pub stores : StoresRows K m t₀ s.row rows t
  pub few : i ≤ n
  pub onward : s.at + i ≤ here
  pub inside : here ≤ length m

pub names_start : (K : Keeping) (m t : List ℕ) (s : Spot) (n : ℕ) → PlaceIn m s.at
    → ReadingNames K m t s n t s.at s.row
names_start K m t s n w = record {
  i = 0;
  is = omega arith;
  rows = [];
  says = λ c. front_none (run (names_left n 0) c m s.at);
  counted = refl;
  stores = stores_none K m t s.row;
  few = omega arith;
  onward = omega arith;
  inside = w.within;
}

module _ {K : Keeping} {m t₀ : List ℕ} {s : Spot} {n : ℕ} {t : List ℕ} {here j : ℕ}
    (R : ReadingNames K m t₀ s n t here j) where
  pub names_done : s.row + n ≤ j → NamesReadMet K m t₀ s n (Ok (record { at = here; row = s.row + n })) t
  names_done l =
      let e : R.i ≡ n = omega (arith, R.few, R.is) in
      record {
        says = record {
          rows = R.rows;
          says = λ c.
              sym (R.says c)
              ∙ ap (front R.rows) (names_stop n R.i c m here e)
              ∙ ap (λ (l : List Row). ReadTo here n l c) (append-nil R.rows);
          counted = R.counted ∙ e;
          reached = refl;
          stores = R.stores;
          onward = omega (arith, R.onward);
          within = R.inside;
        };
      }

  module _ (h : j < s.row + n) where
    left : R.i < n
    left = omega (arith, R.is)

    pub names_refused : (r : Refused) → PassedMet Utf8 m here (Err r) → NamesReadMet K m t₀ s n (Err r) t
    names_refused r q = record {
      says = λ c.
          sym (R.says c)
          ∙ ap (front R.rows) (names_lost n R.i c m here left R.inside (number_of r.refusal) r.place q.says);
    }

    module _ {x : StringPassed} (q : PassedMet Utf8 m here (Ok x)) where
      pub name_row : (e : ℕ) → RowRead m (row 17 here x.units x.bytes e)
      name_row e = text_row m (row 17 here x.units x.bytes e) (λ k. omega arith) (string_has Utf8 m here q)

      pub names_more : PlaceIn m s.at → (t' : List ℕ) → t' ≡ K m t j (row 17 here x.units x.bytes (j + 1))
          → ReadingNames K m t₀ s n t' (here + x.size) (j + 1)
      names_more w t' d =
          let v = string_room Utf8 m here q w.bytes in
          let next : j ≡ s.row + length R.rows = omega (arith, R.counted, R.is) in
          let one = row 17 here x.units x.bytes 1 ∷ [] in
          record {
            i = R.i + 1;
            is = omega (arith, R.is);
            rows = R.rows ++ one;
            says = λ c.
                sym (front_front R.rows one (run (names_left n (R.i + 1)) c m (here + x.size)))
                ∙ ap (front R.rows)
                (sym (names_step n R.i c m here left R.inside x.size x.units x.bytes _ q.says.says))
                ∙ R.says c;
            counted = length-append R.rows one ∙ omega (arith, R.counted);
            stores = stores_on K m R.stores next (stores_single K m d);
            few = omega (arith, left);
            onward = omega (arith, R.onward, v.0);
            inside = v.1;
          }

-- ---- a class definition
-- what a definition at p reads as, with a name of u units and h bytes, from what its f field names read as
abbrev definition_by : ℕ → ℕ → ℕ → ℕ → ReadingAt ℕ → ReadingAt One
definition_by p u h f o =
    topped p Definition (front (row 16 (p + 1) u h 1 ∷ []) (on o (λ e k c'. ReadTo e f [] (defined f c'))))

module _ (K : Keeping) {m : List ℕ} {ks : code.Known} {s : Spot} where
  module _ {x : ClassRead} (c : ClassReadMet m (known_in ks) s.at (Ok x)) (w : ReadyAt m ks s) where
    abbrev head : ClassIs m (known_in ks) s.at x
    head = c.says

    pub definition_done : Swaps K → {t t₁ : List ℕ} {s' : Spot}
        → NamesReadMet K m t (record { at = x.next; row = s.row + 2 }) x.fields (Ok s') t₁ → {t₂ t₃ : List ℕ}
        → t₂ ≡ K m t₁ (s.row + 1) (row 16 (s.at + 1) x.units x.bytes (s.row + 2))
        → t₃ ≡ K m t₂ s.row (row 15 s.at x.fields 0 s'.row)
        → {ks' : code.Known} → ks' ≡ defined_in ks x.fields
        → DefinitionReadMet K m t ks s (Ok s') t₃ ks'
    definition_done S {t} {t₁} {s'} d {t₂} {t₃} name top {ks'} given =
        let p : ℕ = s.at in
        let n : ℕ = s.row in
        let f : ℕ = x.fields in
        let v = d.says in
        let l : ks.classes < base.classes = omega (arith, head.free, classes_counted w.kept) in
        let same : one_class ks f ≡ ks' = defined_room ks f l ∙ sym given in
        let two : n + 2 ≡ n + 1 + 1 = omega arith in
        let all : s'.row ≡ n + suc (suc (length v.rows)) = omega (arith, v.counted, v.reached) in
        let class = row 15 p f 0 (suc (suc (length v.rows))) in
        let named = row 16 (p + 1) x.units x.bytes 1 in
        let inner : StoresRows K m t (n + 1 + 1) v.rows t₁ =
        subst (λ (k : ℕ). StoresRows K m t k v.rows t₁) two v.stores in
        let name' : t₂ ≡ K m t₁ (n + 1) (row 16 (p + 1) x.units x.bytes (n + 1 + 1)) =
        name ∙ ap (λ (z : ℕ). K m t₁ (n + 1) (row 16 (p + 1) x.units x.bytes z)) two in
        let top' : t₃ ≡ K m t₂ n (row 15 p f 0 (n + suc (suc (length v.rows)))) =
        top ∙ ap (λ (z : ℕ). K m t₂ n (row 15 p f 0 z)) all in
        subst (λ (ks' : code.Known). DefinitionReadMet K m t ks s (Ok s') t₃ ks') same (record {
          says = record {
            rows = class ∷ named ∷ v.rows;
            says =
                head.says
                ∙ ap (definition_by p x.units x.bytes f) (v.says (known_in ks))
                ∙ (λ j. ReadTo s'.at tt
                (row 15 p f 0 (suc (suc (length (append-nil v.rows j)))) ∷ named ∷ append-nil v.rows j)
                (sym (known_defined ks w.kept f l) j));
            reads = record {
              counted = omega (arith, v.counted, v.reached);
              stores = stores_top K m S class (stores_top K m S named inner name') top';
              onward = omega (arith, head.onward, v.onward);
              ready = record {
                at = record { bytes = w.at.bytes; within = v.within };
                kept = kept_defined ks w.kept f l;
                rows_few = omega (arith, w.rows_few, head.onward, v.onward, v.reached);
                references_few = omega (arith, w.references_few, head.onward, v.onward);
              };
            };
            forward = omega (arith, head.onward, v.onward);
          };
        })

-- ---- the loop over definitions: what is left is the whole, with the rows so far in front
pub record ReadingDefinitions
    (K : Keeping) (m t₀ : List ℕ) (ks₀ : code.Known) (s₀ : Spot)
    (t : List ℕ) (ks : code.Known) (s : Spot) : Type 0 where
  pub some : List Row
  pub says :
      (d : ℕ)
      → front some (run (byte_at (value_from Floats base d)) (known_in ks) m s.at)
      ≡ run (byte_at (value_from Floats base d)) (known_in ks₀) m s₀.at
  pub reads : ReadsRows K m t₀ s₀ s t ks some

module _ {K : Keeping} {m t₀ : List ℕ} {ks₀ : code.Known} {s₀ : Spot} {t : List ℕ} {ks : code.Known} {s : Spot}
    (R : ReadingDefinitions K m t₀ ks₀ s₀ t ks s) (l : LeadAt m s.at lead.Definition) where
  code_here : eqb (get_or m s.at 0) 0x43 ≡ true
  code_here = eq-eqb (get_or m s.at 0) 0x43 (definition_byte (get_or m s.at 0) (byte_small m s.at l.bytes) l.lead)

  module _ {t' : List ℕ} {ks' : code.Known} where
    pub definitions_refused : (r : Refused) → DefinitionReadMet K m t ks s (Err r) t' ks'
        → (d : ℕ) → run (byte_at (value_from Floats base d)) (known_in ks₀) m s₀.at ≡ lost r
    definitions_refused r h d =
        sym (R.says d)
        ∙ ap (front R.some)
        (value_undefined base d (known_in ks) m s.at l.inside code_here (number_of r.refusal) r.place h.says)

    pub definitions_more : {s' : Spot} → DefinitionReadMet K m t ks s (Ok s') t' ks'
        → ReadingDefinitions K m t₀ ks₀ s₀ t' ks' s'
    definitions_more {s'} h =
        let v = h.says in
        record {
          some = R.some ++ v.rows;
          says = λ d.
              sym (front_front R.some v.rows (run (byte_at (value_from Floats base d)) (known_in ks') m s'.at))
              ∙ ap (front R.some)
              (sym
              (value_defined base d (known_in ks) m s.at l.inside code_here s'.at v.rows (known_in ks') v.says))
              ∙ R.says d;
          reads = reads_on K m R.reads v.reads;
        }

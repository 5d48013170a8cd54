-- The parts of values at a place of the whole message: numbers, texts, counts, names and types, in terms of what stands
-- there by itself.
use Rattle.std.specs.Prelude.{◌≡◌, true, false, cond, List, [], ◌∷◌, ℕ, ◌+◌, ◌^◌, ◌≤◌, ◌<◌, ltb, length, drop, get_or}
use Rattle.std.proofs.Math.Path.{refl, ap}
use Rattle.std.proofs.Common.{sym, ap₂, ◌∙◌, arith, lt-ltb, le-ltb}
use Rattle.std.proofs.Math.Nat.{min-eq_left}
use Rattle.flow.specs.Flow.{pick, From, Done, Fault, One, give, fail, byte_at, changing, mapped, headed, bind}
use Rattle.flow.specs.Steps.{Answer, renamed, alone}
use Rattle.flow.specs.Tests.{pick_true, pick_false, split}
use Rattle.flow.specs.Lifts.{Lifts, lifted, byte_lifts}
use Rattle.scalar.specs.declared.Sort.{Sort}
use Rattle.scalar.specs.declared.Sort.TheVariants.{Int}
use Rattle.scalar.specs.declared.Encoding.{Encoding}
use Rattle.scalar.specs.declared.Encoding.TheVariants.{Utf8}
use Rattle.scalar.specs.Scalars.{forms_of, number_from, string_from, string_at, is_text, int_from, text_from}
use Rattle.scalar.specs.Answers.{number_at}
use Rattle.scalar.proofs.NumberAt.{number_lifts}
use Rattle.scalar.proofs.TextLaws.{string_lifts}
use Rattle.scalar.specs.Answers.{Sizes, sized, sizes, measured_at}
use Rattle.record.specs.Model.Items.{Item, TypeName, TypeNumber, Known, typed, Limits}
use Rattle.record.specs.Model.Reading.{Reader, Opening, int, count, name, type_from}
use Rattle.record.specs.Model.Rows.{Row, row, text_row, item_row}
use Rattle.record.specs.Model.Reading.{type_number, type_name}
use Rattle.record.specs.ForReader.ReadingAt.{ReadingAt, ReadTo, RefusedAt, reading_of, run, on, through, topped}
use Rattle.record.proofs.ForReader.ReadingAt.{front_none, run_give, run_fail, run_byte, run_end, run_changing}
use Rattle.record.proofs.ForReader.ReadingAt.{run_asking, run_test, run_headed, run_mapped, run_bind}

-- ---- readers that neither ask what is known nor give items: numbers and texts
-- what stands at p by itself, where c is known
abbrev pub lone : {A : Type 0} → ℕ → Known → Answer A → ReadingAt A
lone p c (Done n a es u) = ReadTo (p + n) a [] c
lone p c (Fault x o) = RefusedAt x o

lone_run : {A : Type 0} (f : Opening A) (g : From One One A) (c : Known) (m : List ℕ) (p : ℕ)
    → ((q b : ℕ) → Lifts c (f q b) (g q b)) → p ≤ length m → run (byte_at f) c m p ≡ lone p c (alone (byte_at g) m p)
unfolding run
lone_run {A} f g c m p h l =
    ap (reading_of p) ((byte_lifts c h).lifts p (drop p m))
    ∙ go (byte_at g tt p (drop p m))
    ∙ ap (λ (k : ℕ). lone p c (byte_at g tt k (drop p m))) (sym (min-eq_left l))
  where
    go : (o : Answer A) → reading_of p (lifted c o) ≡ lone p c o
    go (Done n a es u) = refl
    go (Fault x o) = refl

module _ (c : Known) (m : List ℕ) (p : ℕ) where
  pub number_run : (s : Sort) → p ≤ length m → run (byte_at (number_from (forms_of s))) c m p ≡ lone p c (number_at s m p)
  unfolding number_at
  number_run s l = lone_run (number_from (forms_of s)) (number_from (forms_of s)) c m p (number_lifts c (forms_of s)) l

  pub string_run : (k : Encoding) → p ≤ length m → run (byte_at (string_from k)) c m p ≡ lone p c (string_at k m p)
  unfolding string_at
  string_run k l = lone_run (string_from k) (string_from k) c m p (string_lifts c k) l

  -- after the first byte
  module _ (l : p < length m) where
    pub number_behind : (s : Sort) → run (number_from (forms_of s) p (get_or m p 0)) c m (p + 1) ≡ lone p c (number_at s m p)
    number_behind s = sym (run_byte (number_from (forms_of s)) c m p l) ∙ number_run s (omega arith)

    pub string_behind : (k : Encoding) → run (string_from k p (get_or m p 0)) c m (p + 1) ≡ lone p c (string_at k m p)
    string_behind k = sym (run_byte (string_from k) c m p l) ∙ string_run k (omega arith)

-- ---- an int, and then what its place and its value say
module _ {A : Type 0} (g : ℕ → ℕ → Reader A) (c : Known) (m : List ℕ) (p : ℕ) where
  int_by : run (int g) c m p ≡ on (run (byte_at int_from) c m p) (λ e v c'. run (g p v) c' m e)
  int_by = split p (length m)
      (λ l.
      run_byte (λ p b. bind (int_from p b) (g p)) c m p l
      ∙ run_bind (int_from p (get_or m p 0)) (g p) c m (p + 1)
      ∙ ap (λ (o : ReadingAt ℕ). on o (λ e v c'. run (g p v) c' m e)) (sym (run_byte int_from c m p l)))
      (λ l. run_end (λ p b. bind (int_from p b) (g p)) c m p l
      ∙ ap (λ (o : ReadingAt ℕ). on o (λ e v c'. run (g p v) c' m e)) (sym (run_end int_from c m p l)))

  module _ (l : p ≤ length m) where
    int_on : (o : Answer ℕ) → number_at Int m p ≡ o → run (int g) c m p ≡ on (lone p c o) (λ e v c'. run (g p v) c' m e)
    unfolding int_from
    int_on o h = int_by ∙ ap (λ (o : ReadingAt ℕ). on o (λ e v c'. run (g p v) c' m e)) (number_run c m p Int l
        ∙ ap (lone p c) h)

    pub int_got : (n v : ℕ) → number_at Int m p ≡ Done n v [] tt → run (int g) c m p ≡ run (g p v) c m (p + n)
    int_got n v h = int_on (Done n v [] tt) h ∙ front_none (run (g p v) c m (p + n))

    pub int_lost : (x o : ℕ) → number_at Int m p ≡ Fault x o → run (int g) c m p ≡ RefusedAt x o
    int_lost x o h = int_on (Fault x o) h

-- a count
module _ {A : Type 0} (g : ℕ → ℕ → Reader A) (c : Known) (m : List ℕ) (p : ℕ) (l : p ≤ length m) where
  count_on : (n v : ℕ) → number_at Int m p ≡ Done n v [] tt → run (count g) c m p
      ≡ pick (ltb v (2 ^ 63)) (run (g p v) c m (p + n)) (RefusedAt 5 p)
  count_on n v h =
      int_got (λ o n. cond (ltb n (2 ^ 63)) (g o n) (fail 5 o)) c m p l n v h
      ∙ run_test (ltb v (2 ^ 63)) (g p v) (fail 5 p) c m (p + n)
      ∙ ap (λ (o : ReadingAt A). pick (ltb v (2 ^ 63)) (run (g p v) c m (p + n)) o) (run_fail 5 p c m (p + n))

  pub count_got : (n v : ℕ) → number_at Int m p ≡ Done n v [] tt → v < 2 ^ 63
      → run (count g) c m p ≡ run (g p v) c m (p + n)
  count_got n v h s = count_on n v h ∙ pick_true _ _ (lt-ltb v (2 ^ 63) s)

  pub count_negative : (n v : ℕ) → number_at Int m p ≡ Done n v [] tt → 2 ^ 63 ≤ v → run (count g) c m p ≡ RefusedAt 5 p
  count_negative n v h s = count_on n v h ∙ pick_false _ _ (le-ltb v (2 ^ 63) s)

  pub count_lost : (x o : ℕ) → number_at Int m p ≡ Fault x o → run (count g) c m p ≡ RefusedAt x o
  count_lost x o h = int_lost (λ o n. cond (ltb n (2 ^ 63)) (g o n) (fail 5 o)) c m p l x o h

-- ---- a number or a text as one row
-- what stands at p by itself, as the row R
abbrev pub laid : {A : Type 0} → ℕ → (A → Row) → Known → Answer A → ReadingAt One
laid p R c (Done n a es u) = ReadTo (p + n) tt (R a ∷ []) c
laid p R c (Fault x o) = RefusedAt x o

-- the row, of the kind k, of a text of these sizes
abbrev pub sizes_row : ℕ → ℕ → Sizes → Row
sizes_row k p s = row k p s.units s.bytes 1

module _ (c : Known) (m : List ℕ) (p : ℕ) where
  -- a string's row says its sizes only
  pub string_laid : (k : Encoding) (x : List ℕ → Item) (R : Sizes → Row) → ((cs : List ℕ)
      → item_row p 1 (x cs) ≡ R (sizes k cs)) → topped p x (lone p c (string_at k m p)) ≡ laid p R c (measured_at k m p)
  unfolding measured_at
  string_laid k x R e = go (string_at k m p)
    where
      go : (o : Answer (List ℕ)) → topped p x (lone p c o) ≡ laid p R c (renamed (sizes k) o)
      go (Done n cs es u) = ap (λ (r : Row). ReadTo (p + n) tt (r ∷ []) c) (e cs)
      go (Fault x o) = refl

  name_by : (x : List ℕ → Item) → run (byte_at (name x)) c m p ≡ topped p x (run (byte_at text_from) c m p)
  name_by x = split p (length m)
      (λ l. run_byte (name x) c m p l ∙ run_headed p x (text_from p (get_or m p 0)) c m (p + 1)
      ∙ ap (topped p x) (sym (run_byte text_from c m p l)))
      (λ l. run_end (name x) c m p l ∙ ap (topped p x) (sym (run_end text_from c m p l)))

  -- a name, whose row is of the kind k
  module _ (k : ℕ) (x : List ℕ → Item) (e : (cs : List ℕ) → item_row p 1 (x cs) ≡ text_row k p 1 cs)
      (l : p ≤ length m) where
    pub name_laid : (o : Answer Sizes) → measured_at Utf8 m p ≡ o → run (byte_at (name x)) c m p
        ≡ laid p (sizes_row k p) c o
    unfolding text_from
    name_laid o h = name_by x ∙ ap (topped p x) (string_run c m p Utf8 l) ∙ string_laid Utf8 x (sizes_row k p) e
        ∙ ap (laid p (sizes_row k p) c) h

    pub name_got : (n u b w : ℕ) → measured_at Utf8 m p ≡ Done n (sized u b w) [] tt
        → run (byte_at (name x)) c m p ≡ ReadTo (p + n) tt (row k p u b 1 ∷ []) c
    name_got n u b w h = name_laid (Done n (sized u b w) [] tt) h

    pub name_lost : (y o : ℕ) → measured_at Utf8 m p ≡ Fault y o → run (byte_at (name x)) c m p ≡ RefusedAt y o
    name_lost y o h = name_laid (Fault y o) h

-- ---- a type
module _ (ℓ : Limits) (c : Known) (m : List ℕ) (p : ℕ) where
  pub type_end : length m ≤ p → run (byte_at (type_from ℓ)) c m p ≡ RefusedAt 2 p
  type_end l = run_end (type_from ℓ) c m p l

  module _ (l : p < length m) where
    type_by_law : run (byte_at (type_from ℓ)) c m p ≡ pick (is_text (get_or m p 0)) (run (type_name ℓ p (get_or m p 0)) c m (p + 1))
        (run (int type_number) c m p)
    unfolding type_from
    type_by_law =
        run_byte (type_from ℓ) c m p l
        ∙ run_test (is_text (get_or m p 0)) (type_name ℓ p (get_or m p 0)) (bind (int_from p (get_or m p 0)) (type_number p)) c m
        (p + 1)
        ∙ ap (λ (o : ReadingAt ℕ). pick (is_text (get_or m p 0)) (run (type_name ℓ p (get_or m p 0)) c m (p + 1)) o)
        (sym (run_byte (λ p b. bind (int_from p b) (type_number p)) c m p l))

    module _ (t : is_text (get_or m p 0) ≡ true) where
      name_test : run (byte_at (type_from ℓ)) c m p ≡ pick (ltb c.types ℓ.types)
          (through (λ u. c.types) (run (byte_at (name TypeName)) (typed c) m p)) (RefusedAt 7 p)
      name_test =
          type_by_law
          ∙ pick_true _ _ t
          ∙ run_asking (λ c. cond (ltb c.types ℓ.types) (mapped (λ u. c.types)
          (changing typed (name TypeName p (get_or m p 0)))) (fail 7 p)) c m (p + 1)
          ∙ run_test (ltb c.types ℓ.types) (mapped (λ u. c.types)
          (changing typed (name TypeName p (get_or m p 0)))) (fail 7 p) c m (p + 1)
          ∙ ap₂ (λ (x y : ReadingAt ℕ). pick (ltb c.types ℓ.types) x y)
          (run_mapped (λ u. c.types) (changing typed (name TypeName p (get_or m p 0))) c m (p + 1)
          ∙ ap (through (λ u. c.types)) (run_changing typed (name TypeName p (get_or m p 0)) c m (p + 1)
          ∙ sym (run_byte (name TypeName) (typed c) m p l)))
          (run_fail 7 p c m (p + 1))

      pub type_full : ℓ.types ≤ c.types → run (byte_at (type_from ℓ)) c m p ≡ RefusedAt 7 p
      type_full s = name_test ∙ pick_false _ _ (le-ltb c.types ℓ.types s)

      module _ (s : c.types < ℓ.types) where
        type_laid : (o : Answer Sizes) → measured_at Utf8 m p ≡ o → run (byte_at (type_from ℓ)) c m p
            ≡ through (λ u. c.types) (laid p (sizes_row 18 p) (typed c) o)
        type_laid o h = name_test ∙ pick_true _ _ (lt-ltb c.types ℓ.types s)
            ∙ ap (through (λ u. c.types)) (name_laid (typed c) m p 18 TypeName (λ cs. refl) (omega arith) o h)

        pub type_spelled : (n u b w : ℕ) → measured_at Utf8 m p ≡ Done n (sized u b w) [] tt
            → run (byte_at (type_from ℓ)) c m p ≡ ReadTo (p + n) c.types (row 18 p u b 1 ∷ []) (typed c)
        type_spelled n u b w h = type_laid (Done n (sized u b w) [] tt) h

        pub type_name_lost : (x o : ℕ) → measured_at Utf8 m p ≡ Fault x o
            → run (byte_at (type_from ℓ)) c m p ≡ RefusedAt x o
        type_name_lost x o h = type_laid (Fault x o) h

    module _ (t : is_text (get_or m p 0) ≡ false) where
      number_test : (n k : ℕ) → number_at Int m p ≡ Done n k [] tt → run (byte_at (type_from ℓ)) c m p
          ≡ pick (ltb k c.types) (ReadTo (p + n) k (row 19 p k 0 1 ∷ []) c) (RefusedAt 6 p)
      number_test n k h =
          type_by_law
          ∙ pick_false _ _ t
          ∙ int_got type_number c m p (omega arith) n k h
          ∙ run_asking (λ c. cond (ltb k c.types) (mapped (λ u. k) (headed p TypeNumber (give k))) (fail 6 p)) c m
          (p + n)
          ∙ run_test (ltb k c.types) (mapped (λ u. k) (headed p TypeNumber (give k))) (fail 6 p) c m (p + n)
          ∙ ap₂ (λ (x y : ReadingAt ℕ). pick (ltb k c.types) x y)
          (run_mapped (λ u. k) (headed p TypeNumber (give k)) c m (p + n)
          ∙ ap (through (λ u. k)) (run_headed p TypeNumber (give k) c m (p + n)
          ∙ ap (topped p TypeNumber) (run_give k c m (p + n))))
          (run_fail 6 p c m (p + n))

      pub type_numbered : (n k : ℕ) → number_at Int m p ≡ Done n k [] tt → k < c.types
          → run (byte_at (type_from ℓ)) c m p ≡ ReadTo (p + n) k (row 19 p k 0 1 ∷ []) c
      type_numbered n k h s = number_test n k h ∙ pick_true _ _ (lt-ltb k c.types s)

      pub type_ungiven : (n k : ℕ) → number_at Int m p ≡ Done n k [] tt → c.types ≤ k
          → run (byte_at (type_from ℓ)) c m p ≡ RefusedAt 6 p
      type_ungiven n k h s = number_test n k h ∙ pick_false _ _ (le-ltb k c.types s)

      pub type_number_lost : (x o : ℕ) → number_at Int m p ≡ Fault x o → run (byte_at (type_from ℓ)) c m p ≡ RefusedAt x o
      type_number_lost x o h = type_by_law ∙ pick_false _ _ t ∙ int_lost type_number c m p (omega arith) x o h

-- Class definitions, and a value after them, at a place of the whole message: one law for each way on, with no bound of
-- the recursion.
use Rattle.std.specs.Prelude.{◌≡◌, true, false, List, [], ◌∷◌, eqb, ltb, length, get_or}
use Rattle.std.proofs.Math.Path.{refl, sym, ap, ap₂}
use Rattle.std.proofs.Common.{◌∙◌, append-nil, lt-ltb, le-ltb, eq-eqb, ne_eqb}
use Rattle.std.proofs.Math.Bool.{cond}
use Rattle.std.proofs.Math.Option.{none, some}
use Prim.Native.Nat.{ℕ, zero, suc, ◌+◌, ◌-◌, ◌^◌, ◌≤◌, ◌<◌}
use native.Mathlib.Omega.{arith}
use Rattle.flow.specs.Flow.{pick, Done, Fault, One, give, fail, byte_at, changing, headed, after, many, preceded}
use Rattle.flow.specs.Flow.{preceded_by}
use Rattle.flow.specs.Steps.{Answer}
use Rattle.flow.specs.Tests.{pick_true, pick_false, split}
use Rattle.scalar.specs.declared.Sort.TheVariants.{Int}
use Rattle.scalar.specs.declared.Encoding.TheVariants.{Utf8}
use Rattle.scalar.specs.Answers.{number_at}
use Rattle.scalar.specs.Answers.{Sizes, sized, measured_at}
use Rattle.scalar.specs.Scalars.{Floats}
use Rattle.record.specs.declared.Group.TheVariants.{Counted}
use Rattle.record.specs.Model.Items.{Definition, ClassName, FieldName, Known, defined, Limits}
use Rattle.record.specs.Model.Reading.{Reader, Opening, count, name, field_names, definition, value_from}
use Rattle.record.specs.Model.Rows.{Row, row}
use Rattle.record.specs.ForReader.ReadingAt.{ReadingAt, ReadTo, RefusedAt, run, front, on, through, topped}
use Rattle.record.proofs.ForReader.ReadingAt.{on_same, run_give, run_fail, run_byte, run_end, run_changing}
use Rattle.record.proofs.ForReader.ReadingAt.{run_asking, run_test, run_headed, run_mapped, run_bind, run_bounded}
use Rattle.record.proofs.ForReader.ReadingAt.{run_same}
use Rattle.record.proofs.ForReader.ReadLoops.{rest_stop, rest_step, rest_many}
use Rattle.record.proofs.ForReader.ReadParts.{laid, sizes_row, name_laid, count_got, count_negative, count_lost}
use Rattle.record.specs.ForReader.ReadDefinitions.{names_left, below, plain}

-- ---- things before another, each begun by the byte z
module _ (z : ℕ) (d : ℕ → Reader One) (f : Opening One) (m : List ℕ) where
  -- the byte b stands at p: one of them and the others, or what stands after them
  abbrev one_of : Reader One → ℕ → ℕ → Known → ℕ → ReadingAt One
  one_of others p b c q = pick (eqb b z) (on (run (d p) c m q) (λ e u c'. run others c' m e)) (run (f p b) c m q)

  ended : Reader One
  ended c at s = Fault 2 at

  one_is : (others : Reader One) (p b : ℕ) (c : Known) (q : ℕ) → run (cond (eqb b z) (after (d p) others) (f p b)) c m q
      ≡ one_of others p b c q
  one_is others p b c q =
      run_test (eqb b z) (after (d p) others) (f p b) c m q
      ∙ ap (λ (o : ReadingAt One). pick (eqb b z) o (run (f p b) c m q)) (run_bind (d p) (λ u. others) c m q)

  one_same : (x y : Reader One) (p b : ℕ) (c : Known) (q : ℕ) → ((e : ℕ) (c' : Known) → q ≤ e
      → run x c' m e ≡ run y c' m e) → one_of x p b c q ≡ one_of y p b c q
  one_same x y p b c q h =
      ap (λ (o : ReadingAt One). pick (eqb b z) o (run (f p b) c m q)) (run_same (d p) c m q _ _ (λ e u c' l. h e c' l))

  -- with enough to bound the recursion, by how much does not matter
  next_out : (k : ℕ) (c : Known) (e : ℕ) → length m ≤ e → run ended c m e ≡ run (byte_at (preceded z d f k)) c m e
  unfolding ended run
  next_out k c e l = sym (run_end (preceded z d f k) c m e l)

  byte_same : (x y : Opening One) (c : Known) (e : ℕ) → ((b : ℕ) → run (x e b) c m (e + 1) ≡ run (y e b) c m (e + 1))
      → run (byte_at x) c m e ≡ run (byte_at y) c m e
  byte_same x y c e h = split e (length m)
      (λ l. run_byte x c m e l ∙ h (get_or m e 0) ∙ sym (run_byte y c m e l))
      (λ l. run_end x c m e l ∙ sym (run_end y c m e l))

  preceded_fuel : (k j p b : ℕ) (c : Known) (q : ℕ) → length m ≤ k + q → length m ≤ j + q
      → run (preceded z d f k p b) c m q ≡ run (preceded z d f j p b) c m q
  unfolding ended
  preceded_fuel zero zero p b c q l n = refl
  preceded_fuel zero (suc j) p b c q l n =
      one_is ended p b c q ∙ one_same ended (byte_at (preceded z d f j)) p b c q
      (λ e c' h. next_out j c' e (omega arith)) ∙ sym (one_is (byte_at (preceded z d f j)) p b c q)
  preceded_fuel (suc k) zero p b c q l n =
      one_is (byte_at (preceded z d f k)) p b c q ∙ one_same (byte_at (preceded z d f k)) ended p b c q
      (λ e c' h. sym (next_out k c' e (omega arith))) ∙ sym (one_is ended p b c q)
  preceded_fuel (suc k) (suc j) p b c q l n =
      one_is (byte_at (preceded z d f k)) p b c q
      ∙ one_same (byte_at (preceded z d f k)) (byte_at (preceded z d f j)) p b c q
      (λ e c' h. byte_same (preceded z d f k) (preceded z d f j) c' e (λ b'. preceded_fuel k j e b' c' (e + 1)
      (omega arith) (omega arith)))
      ∙ sym (one_is (byte_at (preceded z d f j)) p b c q)

  preceded_is : (k p b : ℕ) (c : Known) (q : ℕ) → length m ≤ k + q → run (preceded z d f k p b) c m q
      ≡ run (preceded_by z d f p b) c m q
  preceded_is k p b c q l =
      preceded_fuel k (length m - q) p b c q l (omega arith) ∙ sym (run_bounded (λ k. preceded z d f k p b) c m q)

  preceded_turn : (c : Known) (p : ℕ) → p < length m → run (byte_at (preceded_by z d f)) c m p
      ≡ one_of (byte_at (preceded_by z d f)) p (get_or m p 0) c (p + 1)
  preceded_turn c p l =
      run_byte (preceded_by z d f) c m p l
      ∙ sym (preceded_is (suc (length m)) p (get_or m p 0) c (p + 1) (omega arith))
      ∙ one_is (byte_at (preceded z d f (length m))) p (get_or m p 0) c (p + 1)
      ∙ one_same (byte_at (preceded z d f (length m))) (byte_at (preceded_by z d f)) p (get_or m p 0) c (p + 1)
      (λ e c' h. byte_same (preceded z d f (length m)) (preceded_by z d f) c' e
      (λ b. preceded_is (length m) e b c' (e + 1) (omega arith)))

  module _ (c : Known) (p : ℕ) where
    -- none stands here
    pub preceded_none : (p < length m → eqb (get_or m p 0) z ≡ false) → run (byte_at (preceded_by z d f)) c m p
        ≡ run (byte_at f) c m p
    preceded_none h = split p (length m)
        (λ l. preceded_turn c p l ∙ pick_false _ _ (h l) ∙ sym (run_byte f c m p l))
        (λ l. run_end (preceded_by z d f) c m p l ∙ sym (run_end f c m p l))

    -- one stands here, and then the same again
    module _ (l : p < length m) (h : eqb (get_or m p 0) z ≡ true) where
      preceded_more : (o : ReadingAt One) → run (d p) c m (p + 1) ≡ o → run (byte_at (preceded_by z d f)) c m p
          ≡ on o (λ e u c'. run (byte_at (preceded_by z d f)) c' m e)
      preceded_more o q = preceded_turn c p l ∙ pick_true _ _ h
          ∙ ap (λ (o : ReadingAt One). on o (λ e u c'. run (byte_at (preceded_by z d f)) c' m e)) q

      pub preceded_got : (e : ℕ) (rs : List Row) (c' : Known) → run (d p) c m (p + 1) ≡ ReadTo e tt rs c'
          → run (byte_at (preceded_by z d f)) c m p ≡ front rs (run (byte_at (preceded_by z d f)) c' m e)
      preceded_got e rs c' q = preceded_more (ReadTo e tt rs c') q

      pub preceded_lost : (x o : ℕ) → run (d p) c m (p + 1) ≡ RefusedAt x o
          → run (byte_at (preceded_by z d f)) c m p ≡ RefusedAt x o
      preceded_lost x o q = preceded_more (RefusedAt x o) q

-- ---- the field names of a class: those left after i of n
module _ (n i : ℕ) (c : Known) (m : List ℕ) (p : ℕ) where
  pub names_stop : i ≡ n → run (names_left n i) c m p ≡ ReadTo p n [] c
  names_stop e = rest_stop (name FieldName) m c (Counted n) i p (eq-eqb i n e) ∙ ap (λ (k : ℕ). ReadTo p k [] c) e

  module _ (h : i < n) (l : p ≤ length m) where
    names_on : (o : Answer Sizes) → measured_at Utf8 m p ≡ o → run (names_left n i) c m p
        ≡ on (laid p (sizes_row 17 p) c o) (λ e u c'. run (names_left n (i + 1)) c' m e)
    names_on o q =
        rest_step (name FieldName) m c (Counted n) i p (ne_eqb i n (λ e. omega arith)) (omega arith)
        ∙ ap (λ (o : ReadingAt One). on o (λ e u c'. run (names_left n (i + 1)) c' m e))
        (name_laid c m p 17 FieldName (λ cs. refl) l o q)

    pub names_step : (z u b w : ℕ) → measured_at Utf8 m p ≡ Done z (sized u b w) [] tt
        → run (names_left n i) c m p ≡ front (row 17 p u b 1 ∷ []) (run (names_left n (i + 1)) c m (p + z))
    names_step z u b w q = names_on (Done z (sized u b w) [] tt) q

    pub names_lost : (x o : ℕ) → measured_at Utf8 m p ≡ Fault x o → run (names_left n i) c m p ≡ RefusedAt x o
    names_lost x o q = names_on (Fault x o) q

-- ---- a class definition after its 43, at p: the name at q, the count after it
module _ (ℓ : Limits) (p : ℕ) (c : Known) (m : List ℕ) (q : ℕ) where
  definition_by_law : run (definition ℓ p) c m q ≡ pick (ltb (length c.classes) ℓ.classes)
      (topped p Definition (run (after (byte_at (name ClassName)) (count (field_names ℓ))) c m q)) (RefusedAt 7 p)
  unfolding definition
  definition_by_law =
      run_asking (λ c. cond (ltb (length c.classes) ℓ.classes) (headed p Definition
      (after (byte_at (name ClassName)) (count (field_names ℓ)))) (fail 7 p)) c m q
      ∙ run_test (ltb (length c.classes) ℓ.classes) (headed p Definition
      (after (byte_at (name ClassName)) (count (field_names ℓ)))) (fail 7 p) c m q
      ∙ ap₂ (λ (x y : ReadingAt One). pick (ltb (length c.classes) ℓ.classes) x y)
      (run_headed p Definition (after (byte_at (name ClassName)) (count (field_names ℓ))) c m q) (run_fail 7 p c m q)

  pub definition_full : ℓ.classes ≤ length c.classes → run (definition ℓ p) c m q ≡ RefusedAt 7 p
  definition_full s = definition_by_law ∙ pick_false _ _ (le-ltb (length c.classes) ℓ.classes s)

  module _ (s : length c.classes < ℓ.classes) (l : q ≤ length m) where
    named : (o : Answer Sizes) → measured_at Utf8 m q ≡ o → run (definition ℓ p) c m q
        ≡ topped p Definition (on (laid q (sizes_row 16 q) c o) (λ e u c'. run (count (field_names ℓ)) c' m e))
    named o h =
        definition_by_law
        ∙ pick_true _ _ (lt-ltb (length c.classes) ℓ.classes s)
        ∙ ap (topped p Definition) (run_bind (byte_at (name ClassName)) (λ u. count (field_names ℓ)) c m q
        ∙ ap (λ (o : ReadingAt One). on o (λ e u c'. run (count (field_names ℓ)) c' m e))
        (name_laid c m q 16 ClassName (λ cs. refl) l o h))

    pub definition_nameless : (x o : ℕ) → measured_at Utf8 m q ≡ Fault x o → run (definition ℓ p) c m q ≡ RefusedAt x o
    definition_nameless x o h = named (Fault x o) h

    -- the name takes z bytes, and w in its shortest form; the count is at r
    module _ (z u b w : ℕ) (h : measured_at Utf8 m q ≡ Done z (sized u b w) [] tt) (r : ℕ) (e : r ≡ q + z)
        (i : r ≤ length m) where
      counts : (o : ReadingAt ℕ) → run (count (field_names ℓ)) c m r ≡ o
          → run (definition ℓ p) c m q ≡ topped p Definition (front (row 16 q u b 1 ∷ []) o)
      counts o y = named (Done z (sized u b w) [] tt) h
          ∙ ap (λ (o : ReadingAt ℕ). topped p Definition (front (row 16 q u b 1 ∷ []) o))
          (ap (run (count (field_names ℓ)) c m) (sym e) ∙ y)

      pub definition_countless : (x o : ℕ) → number_at Int m r ≡ Fault x o → run (definition ℓ p) c m q ≡ RefusedAt x o
      definition_countless x o y = counts (RefusedAt x o) (count_lost (field_names ℓ) c m r i x o y)

      module _ (k n : ℕ) (y : number_at Int m r ≡ Done k n [] tt) where
        pub definition_negative : 2 ^ 63 ≤ n → run (definition ℓ p) c m q ≡ RefusedAt 5 r
        definition_negative v = counts (RefusedAt 5 r) (count_negative (field_names ℓ) c m r i k n y v)

        names_test : n < 2 ^ 63 → run (count (field_names ℓ)) c m r ≡ pick (ltb ℓ.fields n) (RefusedAt 7 r)
            (run (after (many (name FieldName) n) (changing (defined n) (give n))) c m (r + k))
        names_test v =
            count_got (field_names ℓ) c m r i k n y v
            ∙ run_test (ltb ℓ.fields n) (fail 7 r) (after (many (name FieldName) n) (changing (defined n) (give n)))
            c m (r + k)
            ∙ ap (λ (o : ReadingAt ℕ). pick (ltb ℓ.fields n) o (run
            (after (many (name FieldName) n) (changing (defined n) (give n))) c m (r + k)))
            (run_fail 7 r c m (r + k))

        pub definition_wide : n < 2 ^ 63 → ℓ.fields < n → run (definition ℓ p) c m q ≡ RefusedAt 7 r
        definition_wide v x = counts (RefusedAt 7 r) (names_test v ∙ pick_true _ _ (lt-ltb ℓ.fields n x))

        -- the field names, and then the class is given
        names_given : run (after (many (name FieldName) n) (changing (defined n) (give n))) c m (r + k)
            ≡ on (run (names_left n 0) c m (r + k)) (λ e u c'. ReadTo e n [] (defined n c'))
        names_given =
            run_bind (many (name FieldName) n) (λ u. changing (defined n) (give n)) c m (r + k)
            ∙ on_same (run (many (name FieldName) n) c m (r + k)) _ _ (λ e u c'. run_changing (defined n)
            (give n) c' m e ∙ run_give n (defined n c') m e)
            ∙ sym (go (run (many (name FieldName) n) c m (r + k)))
            ∙ ap (λ (o : ReadingAt ℕ). on o (λ e u c'. ReadTo e n [] (defined n c')))
            (sym (run_mapped (λ u. n) (many (name FieldName) n) c m (r + k))
            ∙ rest_many (name FieldName) m n c (r + k))
          where
            go : (o : ReadingAt One) → on (through (λ u. n) o) (λ e u c'. ReadTo e n [] (defined n c'))
                ≡ on o (λ e u c'. ReadTo e n [] (defined n c'))
            go (ReadTo e u rs c) = refl
            go (RefusedAt x o) = refl

        module _ (v : n < 2 ^ 63) (few : n ≤ ℓ.fields) where
          pub names_in : (o : ReadingAt ℕ) → run (names_left n 0) c m (r + k) ≡ o
              → run (definition ℓ p) c m q ≡ topped p Definition (front (row 16 q u b 1 ∷ [])
              (on o (λ e u c'. ReadTo e n [] (defined n c'))))
          names_in o a =
              counts (on o (λ e u c'. ReadTo e n [] (defined n c')))
              (names_test v ∙ pick_false _ _ (le-ltb ℓ.fields n few) ∙ names_given
              ∙ ap (λ (o : ReadingAt ℕ). on o (λ e u c'. ReadTo e n [] (defined n c'))) a)

          pub definition_names_lost : (x o : ℕ) → run (names_left n 0) c m (r + k) ≡ RefusedAt x o
              → run (definition ℓ p) c m q ≡ RefusedAt x o
          definition_names_lost x o a = names_in (RefusedAt x o) a

          pub definition_got : (e j : ℕ) (rs : List Row) → run (names_left n 0) c m (r + k) ≡ ReadTo e j rs c
              → run (definition ℓ p) c m q ≡ ReadTo e tt (row 15 p n 0 (suc (suc (length rs))) ∷ row 16 q u b 1 ∷ rs)
              (defined n c)
          definition_got e j rs a = names_in (ReadTo e j rs c) a
              ∙ ap (λ (l : List Row). ReadTo e tt (row 15 p n 0 (suc (suc (length l))) ∷ row 16 q u b 1 ∷ l)
              (defined n c)) (append-nil rs)

-- ---- a value: any number of definitions, and then what its first byte says
module _ (ℓ : Limits) where
  pub below_none : (d : ℕ) → d ≡ 0 → below ℓ d ≡ none
  unfolding below
  below_none d e = ap (below ℓ) e

  pub below_some : (d : ℕ) → 0 < d → below ℓ d ≡ some (value_from Floats ℓ (d - 1))
  unfolding below
  below_some zero h = absurd (omega arith)
  below_some (suc d) h = let e : d ≡ suc d - 1 = omega arith in ap (λ (k : ℕ). some (value_from Floats ℓ k)) e

  pub value_is : (d : ℕ) → value_from Floats ℓ d ≡ preceded_by 0x43 (definition ℓ) (plain ℓ d)
  unfolding value_from below
  value_is zero = refl
  value_is (suc d) = refl

  module _ (d : ℕ) (c : Known) (m : List ℕ) (p : ℕ) where
    value_by : run (byte_at (value_from Floats ℓ d)) c m p ≡ run (byte_at (preceded_by 0x43 (definition ℓ) (plain ℓ d))) c m p
    value_by = ap (λ (f : Opening One). run (byte_at f) c m p) (value_is d)

    pub value_plain : (p < length m → eqb (get_or m p 0) 0x43 ≡ false) → run (byte_at (value_from Floats ℓ d)) c m p
        ≡ run (byte_at (plain ℓ d)) c m p
    value_plain h = value_by ∙ preceded_none 0x43 (definition ℓ) (plain ℓ d) m c p h

    module _ (l : p < length m) (h : eqb (get_or m p 0) 0x43 ≡ true) where
      pub value_defined : (e : ℕ) (rs : List Row) (c' : Known) → run (definition ℓ p) c m (p + 1) ≡ ReadTo e tt rs c'
          → run (byte_at (value_from Floats ℓ d)) c m p ≡ front rs (run (byte_at (value_from Floats ℓ d)) c' m e)
      value_defined e rs c' q =
          value_by
          ∙ preceded_got 0x43 (definition ℓ) (plain ℓ d) m c p l h e rs c' q
          ∙ ap (λ (f : Opening One). front rs (run (byte_at f) c' m e)) (sym (value_is d))

      pub value_undefined : (x o : ℕ) → run (definition ℓ p) c m (p + 1) ≡ RefusedAt x o
          → run (byte_at (value_from Floats ℓ d)) c m p ≡ RefusedAt x o
      value_undefined x o q = value_by ∙ preceded_lost 0x43 (definition ℓ) (plain ℓ d) m c p l h x o q

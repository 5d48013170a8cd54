-- What is written of a type or a class definition by the items at an index: one law for each way on, and one for each
-- way to be no record.
use Rattle.std.proofs.Math.Path.{◌≡◌, refl, ap}
use Rattle.std.proofs.Common.{◌∙◌, arith, lt-ltb, le-ltb, le-leb, eq-eqb, ne_eqb}
use Rattle.std.specs.Prelude.{Bool, ◌&&◌, ℕ, suc, ◌+◌, ◌^◌, ◌≤◌, ◌<◌, eqb, leb, length}
use Rattle.std.proofs.Math.Bool.{true, false}
use mathlib.Core.List.{List, [], ◌∷◌, ◌++◌, append-nil}
use Rattle.std.proofs.Math.Option.{Option, none, some}
use Rattle.std.proofs.Math.Dec.{ltb}
use Rattle.std.proofs.Math.ListN.{drop}
use Rattle.std.proofs.lemmas.Bool.{lt-leb}
use Rattle.scalar.specs.Scalars.{shortest_int, shortest_text}
use Rattle.record.specs.Model.Items.{Item, Val, Definition, ClassName, FieldName, TypeName, TypeNumber, Known}
use Rattle.record.specs.Model.Items.{typed, defined, Limits}
use Rattle.record.specs.Model.Shortest.{put_then, put_many, put_bytes, put_if, definition?, class_name?}
use Rattle.record.specs.Model.Shortest.{field_name?, put_name, put_type, put_definition}
use Rattle.record.specs.Model.Shortest.{put_defined}
use Rattle.record.specs.ForWriter.WritingAt.{At, End, WritingAt, WrittenTo, NoMessage, writing_of, walk}
use Rattle.record.proofs.ForWriter.WritingAt.{at_within}
use Rattle.record.specs.ForWriter.WritingAt.{behind, on_written}
use Rattle.record.proofs.ForWriter.WritingAt.{behind_behind, walk_then, walk_bytes, walk_none}
use Rattle.record.proofs.ForWriter.WritingAt.{walk_both, walk_unless_one, walk_unless_other, walk_if_none}
use Rattle.record.proofs.ForWriter.WritingAt.{walk_item, walk_other, walk_over, walk_same, walk_within, walk_first}
use Rattle.record.proofs.ForWriter.WritingAt.{walk_first_none}
use Rattle.record.proofs.Laws.Takes.{takes_drops, many_takes, class_takes, field_takes, names_of, count_of, body_of}
use Rattle.record.proofs.Laws.Takes.{definable, definition_by}
use Rattle.record.specs.declared.Contents.TheVariants.{Elements}
use Rattle.record.proofs.ForWriter.WrittenContents.{walk_elements, left_stop, left_over, left_stuck}
use Rattle.record.specs.ForWriter.WrittenNames.{names_left}

-- ---- the type whose number is t
abbrev pub is_type : Item → Bool
is_type (Val v) = false
is_type (Definition n) = false
is_type (ClassName cs) = false
is_type (FieldName cs) = false
is_type (TypeName cs) = true
is_type (TypeNumber j) = true

module _ (ℓ : Limits) (t : ℕ) (c : Known) (is : List Item) (k : ℕ) where
  -- what is written of the type at k
  abbrev TypeHere : WritingAt
  TypeHere = walk (put_type ℓ t) c is k

  pub type_end : End is k → TypeHere ≡ NoMessage
  unfolding put_type walk
  type_end e = ap (λ (s : List Item). writing_of is (put_type ℓ t c s)) e

  pub type_other : (i : Item) → At is k i → is_type i ≡ false → TypeHere ≡ NoMessage
  unfolding put_type walk
  type_other i e h = ap (λ (s : List Item). writing_of is (put_type ℓ t c s)) e ∙ go i h
    where
      go : (i : Item) → is_type i ≡ false → writing_of is (put_type ℓ t c (i ∷ drop (suc k) is)) ≡ NoMessage
      go (Val v) h = refl
      go (Definition n) h = refl
      go (ClassName cs) h = refl
      go (FieldName cs) h = refl
      go (TypeName cs) h = let z : ◌≡◌ {A = ℕ} 0 1 = cc in absurd (omega arith)
      go (TypeNumber j) h = let z : ◌≡◌ {A = ℕ} 0 1 = cc in absurd (omega arith)

  -- a name written out gets the number t
  module _ (cs : List ℕ) (e : At is k (TypeName cs)) where
    named : (o : Option (List ℕ)) → shortest_text cs ≡ o → TypeHere ≡ walk
        (put_if (eqb c.types t && ltb c.types ℓ.types) (λ c r. put_bytes o (typed c) r)) c is (suc k)
    unfolding put_type walk
    named o h =
        ap (λ (s : List Item). writing_of is (put_type ℓ t c s)) e
        ∙ ap (λ (o : Option (List ℕ)). walk (put_if (eqb c.types t && ltb c.types ℓ.types)
        (λ c r. put_bytes o (typed c) r)) c is (suc k)) h

    pub type_spelled : c.types ≡ t → c.types < ℓ.types → (w : List ℕ) → shortest_text cs ≡ some w
        → TypeHere ≡ WrittenTo w (suc k) (typed c)
    unfolding walk
    type_spelled x y w h =
        named (some w) h
        ∙ walk_both c is (suc k) (λ c r. put_bytes (some w) (typed c) r) (eqb c.types t) (ltb c.types ℓ.types)
        (eq-eqb c.types t x) (lt-ltb c.types ℓ.types y)
        ∙ walk_bytes (typed c) is (suc k) w (at_within is k (TypeName cs) e)

    pub type_name_other : (c.types ≡ t → ⊥) → TypeHere ≡ NoMessage
    type_name_other x = named (shortest_text cs) refl ∙ walk_unless_one c is (suc k) _ (eqb c.types t)
        (ltb c.types ℓ.types) (ne_eqb c.types t x)

    pub type_name_full : ℓ.types ≤ c.types → TypeHere ≡ NoMessage
    type_name_full y = named (shortest_text cs) refl ∙ walk_unless_other c is (suc k) _ (eqb c.types t)
        (ltb c.types ℓ.types) (le-ltb c.types ℓ.types y)

    pub type_name_none : shortest_text cs ≡ none → TypeHere ≡ NoMessage
    unfolding walk
    type_name_none h = named none h ∙ go (eqb c.types t && ltb c.types ℓ.types)
      where
        go : (b : Bool) → walk (put_if b (λ c r. put_bytes none (typed c) r)) c is (suc k) ≡ NoMessage
        go true = refl
        go false = refl

  -- a type by number
  module _ (j : ℕ) (e : At is k (TypeNumber j)) where
    numbered : (o : Option (List ℕ)) → shortest_int j ≡ o → TypeHere ≡ walk
        (put_if (eqb j t && ltb j c.types) (put_bytes o)) c is (suc k)
    unfolding put_type walk
    numbered o h =
        ap (λ (s : List Item). writing_of is (put_type ℓ t c s)) e
        ∙ ap (λ (o : Option (List ℕ)). walk (put_if (eqb j t && ltb j c.types) (put_bytes o)) c is (suc k)) h

    pub type_numbered : j ≡ t → j < c.types → (w : List ℕ) → shortest_int j ≡ some w → TypeHere ≡ WrittenTo w (suc k) c
    type_numbered x y w h =
        numbered (some w) h
        ∙ walk_both c is (suc k) (put_bytes (some w)) (eqb j t) (ltb j c.types) (eq-eqb j t x) (lt-ltb j c.types y)
        ∙ walk_bytes c is (suc k) w (at_within is k (TypeNumber j) e)

    pub type_number_other : (j ≡ t → ⊥) → TypeHere ≡ NoMessage
    type_number_other x =
        numbered (shortest_int j) refl ∙ walk_unless_one c is (suc k) _ (eqb j t) (ltb j c.types) (ne_eqb j t x)

    pub type_number_ungiven : c.types ≤ j → TypeHere ≡ NoMessage
    type_number_ungiven y = numbered (shortest_int j) refl ∙ walk_unless_other c is (suc k) _ (eqb j t)
        (ltb j c.types) (le-ltb j c.types y)

    pub type_number_none : shortest_int j ≡ none → TypeHere ≡ NoMessage
    type_number_none h = numbered none h ∙ walk_if_none c is (suc k) (eqb j t && ltb j c.types)

-- ---- a name
module _ (part : Item → Option (List ℕ)) (c : Known) (is : List Item) (k : ℕ) where
  abbrev NameHere : WritingAt
  NameHere = walk (put_name part) c is k

  pub name_end : End is k → NameHere ≡ NoMessage
  name_end e = walk_over c is k part (λ cs. put_bytes (shortest_text cs)) e

  module _ (i : Item) (e : At is k i) where
    pub name_other : part i ≡ none → NameHere ≡ NoMessage
    name_other h = walk_other c is k part (λ cs. put_bytes (shortest_text cs)) i e h

    module _ (cs : List ℕ) (h : part i ≡ some cs) where
      name_is : (o : Option (List ℕ)) → shortest_text cs ≡ o → NameHere ≡ walk (put_bytes o) c is (suc k)
      name_is o x = walk_item c is k part (λ cs. put_bytes (shortest_text cs)) i cs e h
          ∙ ap (λ (o : Option (List ℕ)). walk (put_bytes o) c is (suc k)) x

      pub name_got : (w : List ℕ) → shortest_text cs ≡ some w → NameHere ≡ WrittenTo w (suc k) c
      name_got w x = name_is (some w) x ∙ walk_bytes c is (suc k) w (at_within is k i e)

      pub name_none : shortest_text cs ≡ none → NameHere ≡ NoMessage
      name_none x = name_is none x ∙ walk_none c is (suc k)

-- ---- the field names of a class: those left after j of n
module _ (n j : ℕ) (c : Known) (is : List Item) (k : ℕ) where
  abbrev NamesHere : WritingAt
  NamesHere = walk (names_left n j) c is k

  pub names_stop : j ≡ n → k ≤ length is → NamesHere ≡ WrittenTo [] k c
  names_stop e l = left_stop (put_name field_name?) (takes_drops field_takes) is (Elements n) j (eq-eqb j n e) c k l

  module _ (h : j < n) where
    names_more : eqb j n ≡ false
    names_more = ne_eqb j n (λ e. omega arith)

    pub names_over : (w : List ℕ) → walk (put_name field_name?) c is k ≡ WrittenTo w (suc k) c
        → NamesHere ≡ behind w (walk (names_left n (j + 1)) c is (suc k))
    names_over w x = left_over (put_name field_name?) (takes_drops field_takes) is (Elements n) j names_more
        (omega arith) c k w (suc k) c x

    pub names_stuck : walk (put_name field_name?) c is k ≡ NoMessage → NamesHere ≡ NoMessage
    names_stuck x =
        left_stuck (put_name field_name?) (takes_drops field_takes) is (Elements n) j names_more (omega arith) c k x

-- ---- a class definition: its item at k, its name after it, and then its field names
module _ (ℓ : Limits) (c : Known) (is : List Item) (k : ℕ) where
  abbrev DefinitionHere : WritingAt
  DefinitionHere = walk (put_definition ℓ) c is k

  pub definition_end : End is k → DefinitionHere ≡ NoMessage
  unfolding put_definition
  definition_end e = walk_over c is k definition? (definition_by ℓ) e

  module _ (n : ℕ) (e : At is k (Definition n)) where
    definition_is : DefinitionHere ≡ walk (put_if (definable ℓ c n) (body_of ℓ n)) c is (suc k)
    unfolding put_definition walk
    definition_is = walk_item c is k definition? (definition_by ℓ) (Definition n) n e refl

    pub definition_full : ℓ.classes ≤ length c.classes → DefinitionHere ≡ NoMessage
    definition_full s =
        definition_is ∙ walk_unless_one c is (suc k) (body_of ℓ n) (ltb (length c.classes) ℓ.classes)
        (ltb n (2 ^ 63) && leb n ℓ.fields) (le-ltb (length c.classes) ℓ.classes s)

    pub definition_wide : ℓ.fields < n → DefinitionHere ≡ NoMessage
    definition_wide s =
        definition_is
        ∙ walk_unless_other c is (suc k) (body_of ℓ n) (ltb (length c.classes) ℓ.classes)
        (ltb n (2 ^ 63) && leb n ℓ.fields) (go (ltb n (2 ^ 63)) (lt-leb n ℓ.fields s))
      where
        go : (a : Bool) {b : Bool} → b ≡ false → a && b ≡ false
        go true y = y
        go false y = refl

    -- within the ceilings
    module _ (s : length c.classes < ℓ.classes) (small : n < 2 ^ 63) (fits : n ≤ ℓ.fields) where
      definition_by_law : (o : WritingAt) → walk (put_name class_name?) c is (suc k) ≡ o
          → DefinitionHere ≡ behind (0x43 ∷ []) (on_written o (λ p c'. walk (count_of ℓ n) c' is p))
      definition_by_law o h =
          definition_is
          ∙ walk_both c is (suc k) (body_of ℓ n) (ltb (length c.classes) ℓ.classes)
          (ltb n (2 ^ 63) && leb n ℓ.fields) (lt-ltb (length c.classes) ℓ.classes s)
          (ap (λ (b : Bool). b && leb n ℓ.fields) (lt-ltb n (2 ^ 63) small) ∙ le-leb n ℓ.fields fits)
          ∙ walk_first c is (suc k) (0x43 ∷ []) (put_then (put_name class_name?) (count_of ℓ n))
          (at_within is k (Definition n) e)
          ∙ ap (behind (0x43 ∷ [])) (walk_then c is (suc k) (put_name class_name?) (count_of ℓ n)
          (takes_drops class_takes))
          ∙ ap (λ (o : WritingAt). behind (0x43 ∷ []) (on_written o (λ p c'. walk (count_of ℓ n) c' is p))) h

      pub definition_unnamed : walk (put_name class_name?) c is (suc k) ≡ NoMessage → DefinitionHere ≡ NoMessage
      definition_unnamed h = definition_by_law NoMessage h

      -- the name takes the bytes w
      module _ (w : List ℕ) (h : walk (put_name class_name?) c is (suc k) ≡ WrittenTo w (suc (suc k)) c) where
        counted : (o : Option (List ℕ)) → shortest_int n ≡ o → DefinitionHere
            ≡ behind (0x43 ∷ w) (walk (put_then (put_bytes o) (names_of ℓ n)) c is (suc (suc k)))
        counted o y =
            definition_by_law (WrittenTo w (suc (suc k)) c) h
            ∙ behind_behind (0x43 ∷ []) w (walk (count_of ℓ n) c is (suc (suc k)))
            ∙ ap (λ (o : Option (List ℕ)). behind (0x43 ∷ w) (walk (put_then (put_bytes o) (names_of ℓ n)) c is
            (suc (suc k)))) y

        pub definition_uncounted : shortest_int n ≡ none → DefinitionHere ≡ NoMessage
        definition_uncounted y =
            counted none y ∙ ap (behind (0x43 ∷ w)) (walk_first_none c is (suc (suc k)) (names_of ℓ n))

        -- and the count v
        module _ (v : List ℕ) (y : shortest_int n ≡ some v) where
          given : (p : ℕ) (c' : Known) → p ≤ length is → walk (put_defined n) c' is p ≡ WrittenTo [] p (defined n c')
          unfolding walk
          given p c' l = walk_bytes (defined n c') is p [] l

          names_in : (o : WritingAt) → walk (names_left n 0) c is (suc (suc k)) ≡ o
              → DefinitionHere ≡ behind (0x43 ∷ w) (behind v (on_written o (λ p c'. WrittenTo [] p (defined n c'))))
          names_in o z =
              counted (some v) y
              ∙ ap (behind (0x43 ∷ w)) (walk_first c is (suc (suc k)) v (names_of ℓ n)
              (walk_within c is (suc k) (put_name class_name?) w (suc (suc k)) c h))
              ∙ ap (λ (o : WritingAt). behind (0x43 ∷ w) (behind v o))
              (walk_then c is (suc (suc k)) (put_many (put_name field_name?) n) (put_defined n)
              (takes_drops (many_takes field_takes n))
              ∙ walk_same c is (suc (suc k)) (put_many (put_name field_name?) n) _ _ given
              ∙ ap (λ (o : WritingAt). on_written o (λ p c'. WrittenTo [] p (defined n c')))
              (walk_elements (put_name field_name?) n c is (suc (suc k)) ∙ z))

          pub definition_names_stuck : walk (names_left n 0) c is (suc (suc k)) ≡ NoMessage → DefinitionHere ≡ NoMessage
          definition_names_stuck z = names_in NoMessage z

          -- the field names take the bytes u, up to p
          pub definition_got : (u : List ℕ) (p : ℕ) → walk (names_left n 0) c is (suc (suc k)) ≡ WrittenTo u p c
              → DefinitionHere ≡ WrittenTo (0x43 ∷ (w ++ (v ++ u))) p (defined n c)
          definition_got u p z = names_in (WrittenTo u p c) z
              ∙ ap (λ (l : List ℕ). WrittenTo (0x43 ∷ (w ++ (v ++ l))) p (defined n c)) (append-nil u)

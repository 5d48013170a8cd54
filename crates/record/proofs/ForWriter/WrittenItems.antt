-- What is written of a value by the item at an index: one law for each kind of item, and one for each way to be no
-- record; of a list, map or object with a type, up to the values inside.
use Rattle.std.specs.Prelude.{◌≡◌, Bool, cond, ◌&&◌, List, [], ◌∷◌, ◌++◌, ℕ, suc, ◌+◌, ◌≤◌, ◌<◌, eqb, length, get_or}
use Rattle.std.proofs.Math.Path.{refl, ap}
use Rattle.std.proofs.Common.{◌∙◌, arith, lt-ltb, le-ltb}
use Rattle.std.proofs.Math.Bool.{true, false}
use Rattle.std.proofs.Math.Option.{Option, none, some}
use Rattle.std.proofs.Math.Dec.{ltb}
use Rattle.scalar.specs.Scalars.{Scalar, shortest_scalar, shortest_int}
use Rattle.record.specs.Model.Items.{Value, Leaf, UntypedList, TypedList, UntypedMap, TypedMap, Object, Reference}
use Rattle.record.specs.Model.Items.{Item, Val, Known, opened, Limits}
use Rattle.record.specs.Model.Shortest.{Put, put_then, put_many, put_bytes, put_code, put_if, value?, put_open, put_list}
use Rattle.record.specs.Model.Shortest.{object_code, put_container, put_type, put_plain_by}
use Rattle.record.specs.Model.Shortest.{code_then, put_plain}
use Rattle.record.specs.Laws.Takes.{Drops}
use Rattle.record.specs.ForWriter.WritingAt.{At, End, WritingAt, WrittenTo, NoMessage, walk}
use Rattle.record.specs.ForWriter.WritingAt.{holding}
use Rattle.record.proofs.ForWriter.WritingAt.{at_within}
use Rattle.record.specs.ForWriter.WritingAt.{behind, on_written}
use Rattle.record.proofs.ForWriter.WritingAt.{behind_behind, walk_then, walk_bytes, walk_none}
use Rattle.record.proofs.ForWriter.WritingAt.{walk_if, walk_unless, walk_if_none, walk_item, walk_other, walk_over}
use Rattle.record.proofs.ForWriter.WritingAt.{walk_same, walk_first, walk_first_none}

-- ---- a list of n elements: its type, if it has one, takes the bytes w and goes on at e
module _ (open_from few counted opening n : ℕ) (q body : Put) (drops : Drops q) (c : Known) (is : List Item) (k : ℕ)
    (l : k ≤ length is) where
  abbrev listed : WritingAt
  listed = walk (put_list open_from few counted opening n q body) c is k

  list_as : (a b : Bool) → ltb n 8 ≡ a → ltb n open_from ≡ b
      → listed ≡ walk (cond a (put_then (put_code (few + n)) (put_then q body))
      (cond b (put_then (put_code counted) (put_then q (put_then (put_bytes (shortest_int n)) body)))
      (put_open opening q body))) c is k
  list_as a b x y =
      ap (λ (a : Bool). walk (cond a (put_then (put_code (few + n)) (put_then q body))
      (cond (ltb n open_from) (put_then (put_code counted) (put_then q (put_then (put_bytes (shortest_int n)) body)))
      (put_open opening q body))) c is k) x
      ∙ ap (λ (b : Bool). walk (cond a (put_then (put_code (few + n)) (put_then q body))
      (cond b (put_then (put_code counted) (put_then q (put_then (put_bytes (shortest_int n)) body)))
      (put_open opening q body))) c is k) y

  -- after its code
  behind_code : (b : ℕ) (f : Put) → walk (put_then (put_code b) (put_then q f)) c is k
      ≡ behind (b ∷ []) (on_written (walk q c is k) (λ e c'. walk f c' is e))
  behind_code b f = walk_first c is k (b ∷ []) (put_then q f) l ∙ ap (behind (b ∷ [])) (walk_then c is k q f drops)

  module _ (w : List ℕ) (e : ℕ) (c' : Known) (h : walk q c is k ≡ WrittenTo w e c') (i : e ≤ length is) where
    after_type : (b : ℕ) (f : Put) → walk (put_then (put_code b) (put_then q f)) c is k ≡ behind (b ∷ w) (walk f c' is e)
    after_type b f = behind_code b f ∙ ap (λ (o : WritingAt). behind (b ∷ []) (on_written o (λ e c'. walk f c' is e))) h
        ∙ behind_behind (b ∷ []) w (walk f c' is e)

    pub list_few : n < 8 → listed ≡ behind ((few + n) ∷ w) (walk body c' is e)
    list_few s = list_as true (ltb n open_from) (lt-ltb n 8 s) refl ∙ after_type (few + n) body

    pub list_counted : 8 ≤ n → n < open_from → (v : List ℕ) → shortest_int n ≡ some v
        → listed ≡ behind (counted ∷ (w ++ v)) (walk body c' is e)
    list_counted s t v x =
        list_as false true (le-ltb n 8 s) (lt-ltb n open_from t)
        ∙ after_type counted (put_then (put_bytes (shortest_int n)) body)
        ∙ ap (λ (o : Option (List ℕ)). behind (counted ∷ w) (walk (put_then (put_bytes o) body) c' is e)) x
        ∙ ap (behind (counted ∷ w)) (walk_first c' is e v body i)
        ∙ behind_behind (counted ∷ w) v (walk body c' is e)

    -- no int for the count
    pub list_uncounted : 8 ≤ n → n < open_from → shortest_int n ≡ none → listed ≡ NoMessage
    list_uncounted s t x =
        list_as false true (le-ltb n 8 s) (lt-ltb n open_from t)
        ∙ after_type counted (put_then (put_bytes (shortest_int n)) body)
        ∙ ap (λ (o : Option (List ℕ)). behind (counted ∷ w) (walk (put_then (put_bytes o) body) c' is e)) x
        ∙ ap (behind (counted ∷ w)) (walk_first_none c' is e body)

    pub open_body : (b : ℕ) → Drops body → walk (put_open b q body) c is k
        ≡ behind (b ∷ w) (on_written (walk body c' is e) (λ e c. WrittenTo (0x5a ∷ []) e c))
    open_body b d =
        after_type b (put_then body (put_code 0x5a))
        ∙ ap (behind (b ∷ w)) (walk_then c' is e body (put_code 0x5a) d
        ∙ walk_same c' is e body (λ e c. walk (put_code 0x5a) c is e) (λ e c. WrittenTo (0x5a ∷ []) e c)
        (λ e c j. walk_bytes c is e (0x5a ∷ []) j))

    pub list_open : 8 ≤ n → open_from ≤ n → Drops body → listed ≡ behind (opening ∷ w)
        (on_written (walk body c' is e) (λ e c. WrittenTo (0x5a ∷ []) e c))
    list_open s t d = list_as false false (le-ltb n 8 s) (le-ltb n open_from t) ∙ open_body opening d

  -- no such type
  module _ (h : walk q c is k ≡ NoMessage) where
    untyped : (b : ℕ) (f : Put) → walk (put_then (put_code b) (put_then q f)) c is k ≡ NoMessage
    untyped b f = behind_code b f ∙ ap (λ (o : WritingAt). behind (b ∷ []) (on_written o (λ e c'. walk f c' is e))) h

    pub open_stuck : (b : ℕ) → walk (put_open b q body) c is k ≡ NoMessage
    open_stuck b = untyped b (put_then body (put_code 0x5a))

    pub list_stuck : listed ≡ NoMessage
    list_stuck = go (ltb n 8) (ltb n open_from) refl refl
      where
        go : (a b : Bool) → ltb n 8 ≡ a → ltb n open_from ≡ b → listed ≡ NoMessage
        go true b x y = list_as true b x y ∙ untyped (few + n) body
        go false true x y = list_as false true x y ∙ untyped counted (put_then (put_bytes (shortest_int n)) body)
        go false false x y = list_as false false x y ∙ open_stuck opening

-- ---- an object's code, by its class
pub object_few : (j : ℕ) → j < 16 → object_code j ≡ some ((0x60 + j) ∷ [])
unfolding object_code
object_few j s = ap (λ (t : Bool). cond t (some ((0x60 + j) ∷ [])) (code_then 0x4f (shortest_int j))) (lt-ltb j 16 s)

pub object_many : (j : ℕ) → 16 ≤ j → (o : Option (List ℕ)) → shortest_int j ≡ o → object_code j ≡ code_then 0x4f o
unfolding object_code
object_many j s o r = ap (λ (t : Bool). cond t (some ((0x60 + j) ∷ [])) (code_then 0x4f (shortest_int j))) (le-ltb j 16 s)
    ∙ ap (code_then 0x4f) r

-- ---- a list, map or object
abbrev pub holds : Value → Bool
holds v = holding v

-- ---- a value by its item
module _ (ℓ : Limits) (open_from : ℕ) (below : Option Put) (c : Known) (is : List Item) (k : ℕ) where
  -- what is written of the value at k
  abbrev Here : WritingAt
  Here = walk (put_plain ℓ open_from below) c is k

  pub plain_end : End is k → Here ≡ NoMessage
  plain_end e = walk_over c is k value? (put_plain_by ℓ open_from below) e

  module _ (i : Item) (e : At is k i) where
    present : suc k ≤ length is
    present = at_within is k i e

    pub plain_other : value? i ≡ none → Here ≡ NoMessage
    plain_other h = walk_other c is k value? (put_plain_by ℓ open_from below) i e h

    module _ (v : Value) (h : i ≡ Val v) where
      plain_is : Here ≡ walk (put_plain_by ℓ open_from below v) c is (suc k)
      plain_is = walk_item c is k value? (put_plain_by ℓ open_from below) i v e (ap value? h)

      module _ (x : Scalar) (q : v ≡ Leaf x) where
        leaf_is : (o : Option (List ℕ)) → shortest_scalar x ≡ o → Here ≡ walk (put_bytes o) c is (suc k)
        unfolding put_plain_by
        leaf_is o s = plain_is ∙ ap (λ (v : Value). walk (put_plain_by ℓ open_from below v) c is (suc k)) q
            ∙ ap (λ (o : Option (List ℕ)). walk (put_bytes o) c is (suc k)) s

        pub plain_leaf : (w : List ℕ) → shortest_scalar x ≡ some w → Here ≡ WrittenTo w (suc k) c
        plain_leaf w s = leaf_is (some w) s ∙ walk_bytes c is (suc k) w present

        pub plain_no_leaf : shortest_scalar x ≡ none → Here ≡ NoMessage
        plain_no_leaf s = leaf_is none s ∙ walk_none c is (suc k)

      module _ (n : ℕ) (q : v ≡ Reference n) where
        reference_is : (t : Bool) → ltb n c.references ≡ t → (o : Option (List ℕ))
            → code_then 0x51 (shortest_int n) ≡ o → Here ≡ walk (put_if t (put_bytes o)) c is (suc k)
        unfolding put_plain_by walk
        reference_is t s o r =
            plain_is
            ∙ ap (λ (v : Value). walk (put_plain_by ℓ open_from below v) c is (suc k)) q
            ∙ ap (λ (t : Bool). walk (put_if t (put_bytes (code_then 0x51 (shortest_int n)))) c is (suc k)) s
            ∙ ap (λ (o : Option (List ℕ)). walk (put_if t (put_bytes o)) c is (suc k)) r

        pub plain_reference : n < c.references → (w : List ℕ) → shortest_int n ≡ some w
            → Here ≡ WrittenTo (0x51 ∷ w) (suc k) c
        plain_reference s w r =
            reference_is true (lt-ltb n c.references s) (some (0x51 ∷ w)) (ap (code_then 0x51) r)
            ∙ walk_if c is (suc k) (put_bytes (some (0x51 ∷ w))) true refl
            ∙ walk_bytes c is (suc k) (0x51 ∷ w) present

        pub plain_far : shortest_int n ≡ none → Here ≡ NoMessage
        plain_far r = reference_is (ltb n c.references) refl none (ap (code_then 0x51) r)
            ∙ walk_if_none c is (suc k) (ltb n c.references)

        pub plain_ungiven : c.references ≤ n → Here ≡ NoMessage
        plain_ungiven s =
            reference_is false (le-ltb n c.references s) (code_then 0x51 (shortest_int n)) refl
            ∙ walk_unless c is (suc k) (put_bytes (code_then 0x51 (shortest_int n))) false refl

      -- no more may open
      pub plain_full : below ≡ none → holds v ≡ true → Here ≡ NoMessage
      unfolding put_plain_by walk
      plain_full b t = plain_is ∙ ap (λ (o : Option Put). walk (put_plain_by ℓ open_from o v) c is (suc k)) b ∙ full v t
        where
          unless : (t : Bool) (body : Put → Put) → walk (put_if t (put_container none body)) c is (suc k) ≡ NoMessage
          unless true body = refl
          unless false body = refl

          full : (v : Value) → holds v ≡ true → walk (put_plain_by ℓ open_from none v) c is (suc k) ≡ NoMessage
          full (Leaf x) t = let z : ◌≡◌ {A = ℕ} 0 1 = cc in absurd (omega arith)
          full (UntypedList n) t = refl
          full (TypedList n u) t = refl
          full (UntypedMap n) t = refl
          full (TypedMap n u) t = refl
          full (Object j n) t = unless (eqb (get_or c.classes j 0) n && ltb j (length c.classes))
              (λ g. put_then (put_bytes (object_code j)) (put_many g n))
          full (Reference j) t = let z : ◌≡◌ {A = ℕ} 0 1 = cc in absurd (omega arith)

      -- ---- one more may open, with the values g in it
      module _ (g : Put) (b : below ≡ some g) where
        container_is : (x : Value) → v ≡ x → Here ≡ walk (put_plain_by ℓ open_from (some g) x) c is (suc k)
        container_is x q = plain_is ∙ ap (λ (o : Option Put). walk (put_plain_by ℓ open_from o v) c is (suc k)) b
            ∙ ap (λ (v : Value). walk (put_plain_by ℓ open_from (some g) v) c is (suc k)) q

        -- a list of n elements
        pub plain_list : (n : ℕ) → v ≡ UntypedList n
            → Here ≡ walk (put_list open_from 0x78 0x58 0x57 n (put_bytes (some [])) (put_many g n)) (opened c) is (suc k)
        unfolding put_plain_by walk
        plain_list n q = container_is (UntypedList n) q

        pub plain_typed_list : (n t : ℕ) → v ≡ TypedList n t → Here ≡ walk
            (put_list open_from 0x70 0x56 0x55 n (put_type ℓ t) (put_many g n)) (opened c) is (suc k)
        unfolding put_plain_by walk
        plain_typed_list n t q = container_is (TypedList n t) q

        -- a map of n pairs
        pub plain_map : (n : ℕ) → v ≡ UntypedMap n
            → Here ≡ walk (put_open 0x48 (put_bytes (some [])) (put_many (put_then g g) n)) (opened c) is (suc k)
        unfolding put_plain_by walk
        plain_map n q = container_is (UntypedMap n) q

        pub plain_typed_map : (n t : ℕ) → v ≡ TypedMap n t → Here ≡ walk
            (put_open 0x4d (put_type ℓ t) (put_many (put_then g g) n)) (opened c) is (suc k)
        unfolding put_plain_by walk
        plain_typed_map n t q = container_is (TypedMap n t) q

        -- an object of the class j, with n fields
        pub plain_object : (j n : ℕ) → v ≡ Object j n
            → Here ≡ walk (put_if (eqb (get_or c.classes j 0) n && ltb j (length c.classes))
            (put_then (put_bytes (object_code j)) (put_many g n))) (opened c) is (suc k)
        unfolding put_plain_by walk
        plain_object j n q =
            container_is (Object j n) q ∙ go (eqb (get_or c.classes j 0) n && ltb j (length c.classes))
          where
            go : (t : Bool)
                → walk (put_if t (put_container (some g) (λ g. put_then (put_bytes (object_code j)) (put_many g n)))) c is
                (suc k) ≡ walk (put_if t (put_then (put_bytes (object_code j)) (put_many g n))) (opened c) is (suc k)
            go true = refl
            go false = refl

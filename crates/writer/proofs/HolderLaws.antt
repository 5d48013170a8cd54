-- Lists, maps and objects, up to the values inside: what the contracts ask at each way out, one law for each.
use mathlib.Core.Path.{◌≡◌, refl, sym, ap, ◌∙◌}
use mathlib.Core.Bool.{Bool, true, false}
use mathlib.Core.List.{List, [], ◌∷◌, ◌++◌}
use mathlib.Core.Logic.{◌⊎◌, ⊎_elim}
use mathlib.Core.Option.{Option, none, some}
use Prim.Native.Nat.{ℕ, suc, ◌+◌, ◌%◌, ◌≤◌, ◌<◌}
use native.Mathlib.Numerals.{add-one}
use native.Mathlib.Omega.{arith}
use lib.Dec.{ltb, eqb}
use lib.ListN.{length, get_or}
use borrow.Author.Tests.{lt-ltb, le-ltb, eq-eqb, ne_eqb, eqb-true, eqb-false}
use Rattle.flow.specs.Tests.{pick_true, pick_false, split}
use Rattle.scalar.specs.Scalars.{shortest_int}
use Rattle.record.specs.declared.Contents.TheVariants.{Couples}
use Rattle.record.specs.Model.Items.{Value, UntypedList, TypedList, UntypedMap, TypedMap, Object, Item, Val, Known}
use Rattle.record.specs.Model.Items.{opened}
use Rattle.record.specs.Model.Shortest.{Put, put_then, put_many, put_bytes, object_code}
use Rattle.record.specs.Model.Answers.{base, base_open_from}
use Rattle.record.specs.Model.Shortest.{code_then}
use Rattle.record.specs.Laws.Claimed.{item_at}
use Rattle.record.proofs.ForWriter.RowItems.{untyped_list, untyped_map_law, typed_list_law, typed_map_head, an_object, first_item}
use Rattle.record.proofs.ForWriter.RowItems.{first_none}
use Rattle.record.proofs.ForWriter.RowItems.{both_item}
use Rattle.record.specs.Laws.Takes.{Drops}
use Rattle.record.proofs.Laws.Takes.{takes_drops, bytes_takes, then_takes, many_takes, type_takes}
use Rattle.record.specs.ForWriter.WritingAt.{At, WritingAt, WrittenTo, NoMessage, walk, behind}
use Rattle.record.proofs.ForWriter.WritingAt.{at_within, walk_bytes}
use Rattle.record.proofs.ForWriter.WritingAt.{walk_both}
use Rattle.record.proofs.ForWriter.WritingAt.{walk_unless_one, walk_unless_other, walk_first, walk_first_none}
use Rattle.record.specs.ForWriter.WrittenItems.{ended}
use Rattle.record.proofs.ForWriter.WrittenItems.{list_few, list_counted, list_uncounted, list_open, list_stuck}
use Rattle.record.proofs.ForWriter.WrittenItems.{open_body}
use Rattle.record.proofs.ForWriter.WrittenItems.{open_stuck, object_few, object_many, plain_end, plain_list}
use Rattle.record.proofs.ForWriter.WrittenItems.{plain_typed_list, plain_map}
use Rattle.record.proofs.ForWriter.WrittenItems.{plain_typed_map, plain_object}
use Rattle.record.proofs.ForWriter.WrittenContents.{walk_elements, walk_couples}
use Rattle.record.specs.Laws.KnownLaws.{known_in}
use Rattle.record.proofs.Laws.KnownLaws.{known_opened, kept_opened, one_reference}
use Rattle.record.specs.declared.Row as code
use Rattle.record.specs.declared.known.Known as given
use Rattle.std.specs.Prelude.{Result, Ok, Err, Some, None, not, slice_get}
use Rattle.std.specs.Option.{option_eq}
use Rattle.std.specs.declared.option.Option as option
use Rattle.std.proofs.lemmas.Option.{slice_get_within, get_or_from_slice_get, slice_get-get_or}
use Rattle.writer.specs.declared.size.Size.{Size}
use Rattle.writer.specs.declared.progress.NoRecord.{NoRecord}
use Rattle.writer.specs.declared.progress.Progress.{Progress}
use Rattle.writer.specs.declared.progress.Turn.{Turn}
use Rattle.writer.specs.declared.holders.ValueStart.{ValueStart}
use Rattle.writer.specs.declared.holders.ValueStart.TheVariants.{Past, Within}
use Rattle.writer.specs.Lent.{Lent}
use Rattle.record.specs.ForWriter.BareItems.{NoneIn}
use Rattle.record.proofs.ForWriter.BareItems.{type_none}
use Rattle.record.specs.Laws.RowLaws.{row_of}
use Rattle.record.specs.Model.Claims.{content_at}
use Rattle.writer.specs.Promises.{items_of, Among, TurnIn, RowIs, Puts, PutMet, Writable, WrittenUpTo, StepMet, type_by, has_type}
use Rattle.writer.specs.Promises.{InteriorMet, elements, counted, CountWritten, ListOrMapMet, ObjectMet}
use Rattle.writer.specs.Promises.{HolderMet}
use Rattle.writer.specs.Promises.{HolderKind, few_code, counted_code, open_code, map_code, list_code, holder_code}
use Rattle.writer.specs.Promises.{list_by, map_by, object_by, plain_by}
use Rattle.writer.proofs.PutLaws.{puts_on}

-- ---- a code before a form
pub code_then_law : {out o₁ : List ℕ} {s s₁ : ℕ} (b : ℕ) → Puts out s (b ∷ []) o₁ s₁
    → (o : Option (List ℕ)) (r : Result Size NoRecord) (out' : List ℕ) → PutMet o o₁ s₁ r out'
    → PutMet (code_then b o) out s r out'
code_then_law b p o (Ok z) out' h =
    record { says = (b ∷ h.says.0, ap (code_then b) h.says.1, puts_on p h.says.2) }
code_then_law b p o (Err e) out' h = record { says = ap (code_then b) h.says }

-- an object's code
module _ (j : ℕ) (out : List ℕ) (s : ℕ) where
  pub code_short : j < 16 → (out' : List ℕ) (s' : Size) → Puts out s ((0x60 + j) ∷ []) out' s'.bytes
      → PutMet (object_code j) out s (Ok s') out'
  code_short l out' s' p = record { says = ((0x60 + j) ∷ [], object_few j l, p) }

  pub code_long : 16 ≤ j → (o₁ : List ℕ) (s₁ : ℕ) → Puts out s (0x4f ∷ []) o₁ s₁
      → (r : Result Size NoRecord) (out' : List ℕ) → PutMet (shortest_int j) o₁ s₁ r out'
      → PutMet (object_code j) out s r out'
  code_long l o₁ s₁ p r out' h = rw (object_many j l (shortest_int j) refl) (code_then_law 0x4f p (shortest_int j) r out' h)

-- ---- an object
-- its fields are as many as its class has, or not
module _ (n : ℕ) where
  pub as_many : (o : option.Option ℕ) → not (option_eq (λ x y. eqb x y) o (Some n)) ≡ false → o ≡ Some n
  as_many (Some x) e = go (eqb x n) refl e
    where
      go : (z : Bool) → eqb x n ≡ z → not z ≡ false → Some x ≡ Some n
      go true h e = ap Some (eqb-true x n h)
      go false h e = let q : true ≡ false = e in cc
  as_many None e = let q : true ≡ false = e in cc

  pub not_as_many : (o : option.Option ℕ) → not (option_eq (λ x y. eqb x y) o (Some n)) ≡ true → o ≡ Some n → ⊥
  not_as_many (Some x) e h =
      let q : x ≡ n = cc in let f : not (eqb x n) ≡ true = e in let z : false ≡ true = rw (eq-eqb x n q) at f in cc
  not_as_many None e h = let q : ◌≡◌ {A = option.Option ℕ} None (Some n) = h in cc

module _ (j n : ℕ) (ks : given.Known) (k s : ℕ) (out : List ℕ) where
  -- what follows the tests
  abbrev coded : Put → Put
  coded g = put_then (put_bytes (object_code j)) (put_many g n)

  pub object_misfit : {e : NoRecord} → (slice_get (known_in ks).classes j ≡ Some n → ⊥) → (out' : List ℕ)
      → ObjectMet j n ks k s out (Err e) out'
  object_misfit x out' =
      let c = (known_in ks).classes in
      record {
        says = λ is z. record {
          says = λ g d. split j (length c)
              (λ l. walk_unless_one (known_in ks) is k (coded g) (eqb (get_or c j 0) n) (ltb j (length c))
              (ne_eqb (get_or c j 0) n (λ e. x (slice_get-get_or c j 0 l ∙ ap Some e))))
              (λ l. walk_unless_other (known_in ks) is k (coded g) (eqb (get_or c j 0) n) (ltb j (length c))
              (le-ltb j (length c) l));
          bare = tt;
        };
      }

  module _ (e : slice_get (known_in ks).classes j ≡ Some n) where
    by_code : (is : List Item) (g : Put) (o : Option (List ℕ)) → object_code j ≡ o
        → object_by j n (known_in ks) is k g ≡ walk (put_then (put_bytes o) (put_many g n)) (known_in ks) is k
    by_code is g o x =
        let c = (known_in ks).classes in
        walk_both (known_in ks) is k (coded g) (eqb (get_or c j 0) n) (ltb j (length c))
        (eq-eqb (get_or c j 0) n (get_or_from_slice_get c j n 0 e)) (lt-ltb j (length c) (slice_get_within c j n e))
        ∙ ap (λ (o : Option (List ℕ)). walk (put_then (put_bytes o) (put_many g n)) (known_in ks) is k) x

    pub object_uncoded : {e' e'' : NoRecord} (out' : List ℕ) → PutMet (object_code j) out s (Err e') out'
        → ObjectMet j n ks k s out (Err e'') out'
    object_uncoded out' y = record {
      says = λ is z. record {
        says = λ g d. by_code is g none y.says ∙ walk_first_none (known_in ks) is k (put_many g n);
        bare = tt;
      };
    }

    pub object_opens : (s' : Size) (out' : List ℕ) → PutMet (object_code j) out s (Ok s') out'
        → ObjectMet j n ks k s out (Ok (Within (elements n (record { next = k; size = s' })) false)) out'
    object_opens s' out' y = let v = y.says.0 in record {
      says = λ is z. record {
        says = record {
          written = v;
          says = λ g d. by_code is g (some v) y.says.1
              ∙ walk_first (known_in ks) is k v (put_many g n) z.among.within
              ∙ ap (behind v) (walk_elements g n (known_in ks) is k);
          puts = y.says.2;
          ready = z;
          onward = omega arith;
        };
        bare = λ j a b v x. omega arith;
      };
    }

-- ---- a type, or none
by_drops : (typed : Bool) (t : ℕ) → Drops (type_by typed t)
by_drops true t = takes_drops (type_takes base t)
by_drops false t = bytes_takes (some [])

bare_by : (typed : Bool) (t : ℕ) (c : Known) (is : List Item) (k : ℕ) → k ≤ length is
    → (w : List ℕ) (p : ℕ) (c' : Known) → walk (type_by typed t) c is k ≡ WrittenTo w p c' → NoneIn is k p
bare_by true t c is k l w p c' e = type_none base c is k w p c' t e
bare_by false t c is k l w p c' e = let f = walk_bytes c is k [] l in let q : k ≡ p = cc in λ j a b v x. omega arith

-- a code b, and then a type, which is none
module _ (typed : Bool) (t : ℕ) (ks : given.Known) (is : List Item) (k s : ℕ) (z : Writable is ks k) (out : List ℕ)
    (ks' : given.Known) (lost : walk (type_by typed t) (known_in ks) is k ≡ NoMessage) where
  list_untyped : (n : ℕ) {e : NoRecord} (out' : List ℕ)
      → InteriorMet (list_by typed t n (known_in ks) is k) is k s out (Err e) ks' out'
  list_untyped n out' = record {
    says = λ g d. list_stuck base_open_from (few_code typed) (counted_code typed) (open_code typed) n (type_by typed t)
        (put_many g n) (by_drops typed t) (known_in ks) is k z.among.within lost;
    bare = tt;
  }

  map_untyped : (n : ℕ) {e : NoRecord} (out' : List ℕ)
      → InteriorMet (map_by typed t n (known_in ks) is k) is k s out (Err e) ks' out'
  map_untyped n out' = record {
    says = λ g d. open_stuck 0 0 0 0 n (type_by typed t) (put_many (put_then g g) n) (by_drops typed t) (known_in ks) is k
        z.among.within lost (map_code typed);
    bare = tt;
  }

-- a code b, and then a type, which ends at p
module _ (typed : Bool) (t : ℕ) (ks : given.Known) (is : List Item) (k s : ℕ) (z : Writable is ks k) (out : List ℕ)
    (b : ℕ) (o₁ : List ℕ) (s₁ : ℕ) (y : Puts out s (b ∷ []) o₁ s₁) (p : Progress) (ks' : given.Known) (o₂ : List ℕ)
    (w : WrittenUpTo (walk (type_by typed t) (known_in ks) is k) is k s₁ o₁ p ks' o₂) where
  -- no value stands among the items of a type
  typed_bare : NoneIn is k p.next
  typed_bare = bare_by typed t (known_in ks) is k z.among.within w.written p.next (known_in ks') w.says

  -- ---- a list of n elements
  module _ (n : ℕ) (i : b ≡ list_code typed n) where
    -- the code, where it is x
    coded_as : (x : ℕ) → b ≡ x → Puts out s (x ∷ w.written) o₂ p.size.bytes
    coded_as x q = rw (← q) (puts_on y w.puts)

    list_short : n < 8
        → InteriorMet (list_by typed t n (known_in ks) is k) is k s out (Ok (Within (elements n p) false)) ks' o₂
    list_short l = record {
      says = record {
        written = (few_code typed + n) ∷ w.written;
        says = λ g d.
            list_few base_open_from (few_code typed) (counted_code typed) (open_code typed) n (type_by typed t)
            (put_many g n) (by_drops typed t) (known_in ks) is k z.among.within w.written p.next (known_in ks')
            w.says w.ready.among.within l
            ∙ ap (behind ((few_code typed + n) ∷ w.written)) (walk_elements g n (known_in ks') is p.next);
        puts = coded_as (few_code typed + n) (i ∙ pick_true _ _ (lt-ltb n 8 l));
        ready = w.ready;
        onward = w.onward;
      };
      bare = typed_bare;
    }

    module _ (l : 8 ≤ n) where
      list_long : base_open_from ≤ n
          → InteriorMet (list_by typed t n (known_in ks) is k) is k s out (Ok (Within (elements n p) true)) ks' o₂
      list_long m = record {
        says = record {
          written = open_code typed ∷ w.written;
          says = λ g d.
              list_open base_open_from (few_code typed) (counted_code typed) (open_code typed) n (type_by typed t)
              (put_many g n) (by_drops typed t) (known_in ks) is k z.among.within w.written p.next (known_in ks')
              w.says w.ready.among.within l m (takes_drops (many_takes d n))
              ∙ ap (λ (o : WritingAt). behind (open_code typed ∷ w.written) (ended o))
              (walk_elements g n (known_in ks') is p.next);
          puts = coded_as (open_code typed)
              (i ∙ pick_false _ _ (le-ltb n 8 l) ∙ pick_false _ _ (le-ltb n base_open_from m));
          ready = w.ready;
          onward = w.onward;
        };
        bare = typed_bare;
      }

      -- the count's form put, if there is one
      list_of_count : n < base_open_from → (x : Result Size NoRecord) (out' : List ℕ)
          → PutMet (shortest_int n) o₂ p.size.bytes x out'
          → InteriorMet (list_by typed t n (known_in ks) is k) is k s out (counted n p.next x) ks' out'
      list_of_count m (Ok s') out' v = record {
        says = record {
          written = counted_code typed ∷ (w.written ++ v.says.0);
          says = λ g d.
              list_counted base_open_from (few_code typed) (counted_code typed) (open_code typed) n (type_by typed t)
              (put_many g n) (by_drops typed t) (known_in ks) is k z.among.within w.written p.next (known_in ks')
              w.says w.ready.among.within l m v.says.0 v.says.1
              ∙ ap (behind (counted_code typed ∷ (w.written ++ v.says.0)))
              (walk_elements g n (known_in ks') is p.next);
          puts = puts_on
              (coded_as (counted_code typed)
              (i ∙ pick_false _ _ (le-ltb n 8 l) ∙ pick_true _ _ (lt-ltb n base_open_from m)))
              v.says.2;
          ready = w.ready;
          onward = w.onward;
        };
        bare = typed_bare;
      }
      list_of_count m (Err e) out' v = record {
        says = λ g d. list_uncounted base_open_from (few_code typed) (counted_code typed) (open_code typed) n
            (type_by typed t) (put_many g n) (by_drops typed t) (known_in ks) is k z.among.within w.written p.next
            (known_in ks') w.says w.ready.among.within l m v.says;
        bare = tt;
      }

  -- ---- a map of n pairs
  map_opens : (n : ℕ) → b ≡ map_code typed
      → InteriorMet (map_by typed t n (known_in ks) is k) is k s out
      (Ok (Within (record { contents = Couples n; at = p }) true)) ks' o₂
  map_opens n i = record {
    says = record {
      written = map_code typed ∷ w.written;
      says = λ g d.
          open_body 0 0 0 0 n (type_by typed t) (put_many (put_then g g) n) (by_drops typed t) (known_in ks) is k
          z.among.within w.written p.next (known_in ks') w.says w.ready.among.within (map_code typed)
          (takes_drops (many_takes (then_takes d d) n))
          ∙ ap (λ (o : WritingAt). behind (map_code typed ∷ w.written) (ended o))
          (walk_couples g n (known_in ks') is p.next);
      puts = rw (← i) (puts_on y w.puts);
      ready = w.ready;
      onward = w.onward;
    };
    bare = typed_bare;
  }

-- ---- the count of a list of n elements, where its form has one
module _ (out : List ℕ) (n : ℕ) (at : Progress) where
  pub count_few : n < 8 → CountWritten out n at (Ok (Within (elements n at) false)) out
  count_few l =
      record { few = λ x. (refl, refl); long = λ x y. absurd (omega arith); many = λ x y. absurd (omega arith) }

  module _ (l : 8 ≤ n) where
    pub count_long : base_open_from ≤ n → CountWritten out n at (Ok (Within (elements n at) true)) out
    count_long m =
        record { few = λ x. absurd (omega arith); long = λ x y. (refl, refl); many = λ x y. absurd (omega arith) }

    module _ (m : n < base_open_from) (out' : List ℕ) where
      pub count_none : {e e' : NoRecord} → PutMet (shortest_int n) out at.size.bytes (Err e) out'
          → CountWritten out n at (Err e') out'
      count_none {e} u =
          record { few = λ x. absurd (omega arith); long = λ x y. absurd (omega arith); many = λ y z. (Err e, u, refl) }

      pub count_many : (s : Size) → PutMet (shortest_int n) out at.size.bytes (Ok s) out'
          → CountWritten out n at (Ok (Within (elements n (record { next = at.next; size = s })) false)) out'
      count_many s u =
          record { few = λ x. absurd (omega arith); long = λ x y. absurd (omega arith); many = λ y z. (Ok s, u, refl) }

-- ---- the code of the list or map of the row v
module _ (v : code.Row) (t : Bool) (e : t ≡ has_type v) (x : ℕ) where
  pub code_of_list : v.kind < 11 → x ≡ list_code t v.first → x ≡ holder_code v
  code_of_list l h = h ∙ ap (λ (t : Bool). list_code t v.first) e ∙ sym (pick_true _ _ (lt-ltb v.kind 11 l))

  pub code_of_map : 11 ≤ v.kind → x ≡ map_code t → x ≡ holder_code v
  code_of_map l h = h ∙ ap map_code e ∙ sym (pick_false _ _ (le-ltb v.kind 11 l))

-- ---- the list or map of the row v: its code, then its type, by what was answered of it
module _ (v : code.Row) (ks : given.Known) (is : List Item) (k s : ℕ) (z : Writable is ks k) (out : List ℕ)
    (b : ℕ) (i : b ≡ holder_code v) (o₁ : List ℕ) (s₁ : ℕ) (y : Puts out s (b ∷ []) o₁ s₁) (ks' : given.Known) where
  pub typeless : {e e' : NoRecord} (out' : List ℕ)
      → StepMet (walk (type_by (has_type v) v.second) (known_in ks) is k) is k s₁ o₁ (Err e) ks' out'
      → ListOrMapMet v ks is k s out (Err e') ks' out'
  typeless out' h = record {
    list = λ l. list_untyped (has_type v) v.second ks is k s z out ks' h.says v.first out';
    map = λ l. map_untyped (has_type v) v.second ks is k s z out ks' h.says v.first out';
  }

  module _ (p : Progress) (o₂ : List ℕ)
      (h : StepMet (walk (type_by (has_type v) v.second) (known_in ks) is k) is k s₁ o₁ (Ok p) ks' o₂) where
    pub list_begun : v.kind < 11 → (x : Result ValueStart NoRecord) (out' : List ℕ) → CountWritten o₂ v.first p x out'
        → ListOrMapMet v ks is k s out x ks' out'
    list_begun l x out' c =
        let is_list : b ≡ list_code (has_type v) v.first = i ∙ pick_true _ _ (lt-ltb v.kind 11 l) in
        record {
          list = λ l. split v.first 8
              (λ a. rw ((c.few a).0, (c.few a).1)
              (list_short (has_type v) v.second ks is k s z out b o₁ s₁ y p ks' o₂ h.says v.first is_list a))
              (λ a. split v.first base_open_from
              (λ m. let u = c.many a m in rw u.2
              (list_of_count (has_type v) v.second ks is k s z out b o₁ s₁ y p ks' o₂ h.says v.first is_list a m u.0 out'
              u.1))
              (λ m. rw ((c.long a m).0, (c.long a m).1)
              (list_long (has_type v) v.second ks is k s z out b o₁ s₁ y p ks' o₂ h.says v.first is_list a m)));
          map = λ m. absurd (omega arith);
        }

    pub map_begun : 11 ≤ v.kind
        → ListOrMapMet v ks is k s out (Ok (Within (record { contents = Couples v.first; at = p }) true)) ks' o₂
    map_begun l = record {
      list = λ m. absurd (omega arith);
      map = λ l. map_opens (has_type v) v.second ks is k s z out b o₁ s₁ y p ks' o₂ h.says v.first
          (i ∙ pick_false _ _ (le-ltb v.kind 11 l));
    }

-- ---- the value of the row r, which stands at k
-- what is written is the same by another name
opens_as : {o o' : Put → WritingAt} {is : List Item} {from s : ℕ} {out : List ℕ} (r : Result ValueStart NoRecord)
    {ks' : given.Known} {out' : List ℕ}
    → ((g : Put) → o' g ≡ o g) → InteriorMet o is from s out r ks' out' → InteriorMet o' is from s out r ks' out'
opens_as (Ok (Past p)) e h = record { says = h.says; bare = tt }
opens_as (Ok (Within x t)) e h = let z = h.says in
    record {
      says =
          record {
            written = z.written;
            says = λ g d. e g ∙ z.says g d;
            puts = z.puts;
            ready = z.ready;
            onward =
                z.onward;
          };
      bare = h.bare;
    }
opens_as (Err n) e h = record { says = λ g d. e g ∙ h.says g d; bare = tt }

holder_met : (ks : given.Known) (is : List Item) (k s : ℕ) (out : List ℕ) (r : Result ValueStart NoRecord)
    (ks' : given.Known) (out' : List ℕ) (v : Value) → At is k (Val v)
    → InteriorMet (plain_by (known_in ks) is k) is (k + 1) s out r ks' out' → HolderMet ks is k s out r ks' out'
holder_met ks is k s out (Ok (Past p)) ks' out' v a h = record { opens = h; at = tt }
holder_met ks is k s out (Ok (Within x t)) ks' out' v a h = record { opens = h; at = (v, a) }
holder_met ks is k s out (Err n) ks' out' v a h = record { opens = h; at = tt }

abbrev list_of : Bool → ℕ → ℕ → Value
list_of true n t = TypedList n t
list_of false n t = UntypedList n

abbrev map_of : Bool → ℕ → ℕ → Value
map_of true n t = TypedMap n t
map_of false n t = UntypedMap n

module _ (c : Known) (is : List Item) (k : ℕ) (g : Put) where
  list_is : (typed : Bool) (n t : ℕ) → At is k (Val (list_of typed n t))
      → plain_by c is k g ≡ list_by typed t n (opened c) is (suc k) g
  list_is true n t e =
      plain_typed_list base base_open_from (some g) c is k (Val (TypedList n t)) e (TypedList n t) refl g refl n t refl
  list_is false n t e =
      plain_list base base_open_from (some g) c is k (Val (UntypedList n)) e (UntypedList n) refl g refl n refl

  map_is : (typed : Bool) (n t : ℕ) → At is k (Val (map_of typed n t))
      → plain_by c is k g ≡ map_by typed t n (opened c) is (suc k) g
  map_is true n t e =
      plain_typed_map base base_open_from (some g) c is k (Val (TypedMap n t)) e (TypedMap n t) refl g refl n t refl
  map_is false n t e =
      plain_map base base_open_from (some g) c is k (Val (UntypedMap n)) e (UntypedMap n) refl g refl n refl

  object_is : (j n : ℕ) → At is k (Val (Object j n)) → plain_by c is k g ≡ object_by j n (opened c) is (suc k) g
  object_is j n e = plain_object base base_open_from (some g) c is k (Val (Object j n)) e (Object j n) refl g refl j n refl

-- a list or map has no second number, or a type; as the code tests it
abbrev Fitting : code.Row → Bool → Type 0
Fitting r z = ((z ≡ false) × (r.second ≡ 0)) ⊎ (z ≡ true)

module _ {t : Lent} {ks : given.Known} {v : Turn} (x : TurnIn t ks v) where
  -- what is known then
  abbrev more : given.Known
  more = one_reference ks x.ready.kept

  module _ {z : Bool} (same : z ≡ has_type v.row) (u : Fitting v.row z) where
    second_is : has_type v.row ≡ false → v.row.second ≡ 0
    second_is e = ⊎_elim (λ f. f.1) (λ f. let q : true ≡ false = sym f ∙ same ∙ e in cc) u

    list_at : 9 ≤ v.row.kind → v.row.kind < 11
        → At (items_of t) v.at.next (Val (list_of (has_type v.row) v.row.first v.row.second))
    list_at a b = go (has_type v.row) refl
      where
        go : (z : Bool) → has_type v.row ≡ z → At (items_of t) v.at.next (Val (list_of z v.row.first v.row.second))
        go true e = x.stands.item _
            (both_item t.source typed_list_law (row_of v.row) (omega (arith, eqb-true (v.row.kind % 2) 0 e)))
        go false e = let q = eqb-false (v.row.kind % 2) 0 e in
            x.stands.item _ (first_item t.source untyped_list (row_of v.row) (omega arith) (second_is e))

    map_at : 11 ≤ v.row.kind → v.row.kind < 13
        → At (items_of t) v.at.next (Val (map_of (has_type v.row) v.row.first v.row.second))
    map_at a b = go (has_type v.row) refl
      where
        go : (z : Bool) → has_type v.row ≡ z → At (items_of t) v.at.next (Val (map_of z v.row.first v.row.second))
        go true e = x.stands.item _
            (both_item t.source typed_map_head (row_of v.row) (omega (arith, eqb-true (v.row.kind % 2) 0 e)))
        go false e = let q = eqb-false (v.row.kind % 2) 0 e in
            x.stands.item _ (first_item t.source untyped_map_law (row_of v.row) (omega arith) (second_is e))

  -- no list, map or object at all
  pub held_lost : HolderKind v.row.kind → (v.row.kind ≡ 13 → ⊥) → {z : Bool} → z ≡ has_type v.row → z ≡ false
      → (v.row.second ≡ 0 → ⊥) → {e : NoRecord} (s : ℕ) (out : List ℕ) (ks' : given.Known) (out' : List ℕ)
      → HolderMet ks (items_of t) v.at.next s out (Err e) ks' out'
  held_lost h a {z} same f d s out ks' out' =
      record {
        opens = record {
          says = λ g y. plain_end base base_open_from (some g) (known_in ks) (items_of t) v.at.next
              (x.stands.lost none_there);
          bare = tt;
        };
        at = tt;
      }
    where
      odd : v.row.kind % 2 ≡ 0 → ⊥
      odd = eqb-false (v.row.kind % 2) 0 (sym same ∙ f)

      none_there : item_at (content_at t.source) (row_of v.row) ≡ none
      none_there = split v.row.kind 10
          (λ l. first_none t.source untyped_list (row_of v.row) (omega (arith, h.from)) d)
          (λ l. let q = odd in first_none t.source untyped_map_law (row_of v.row) (omega (arith, h.to)) d)

  ready_past : (i : Item) → At (items_of t) v.at.next i → Writable (items_of t) more (v.at.next + 1)
  ready_past i e = record {
    among = record { within = omega (arith, at_within (items_of t) v.at.next i e); few = x.ready.among.few };
    kept = kept_opened ks x.ready.kept;
    references_few = omega (arith, x.ready.references_few);
  }

  -- what is known then, and the index after the row
  known_as : (o : Known → ℕ → WritingAt) → o (opened (known_in ks)) (suc v.at.next) ≡ o (known_in more) (v.at.next + 1)
  known_as o = sym (λ i. o (known_opened ks x.ready.kept i) (add-one v.at.next i))

  pub ready_opened : HolderKind v.row.kind → (v.row.kind ≡ 13 → ⊥) → {z : Bool} → z ≡ has_type v.row
      → Fitting v.row z → Writable (items_of t) more (v.at.next + 1)
  ready_opened h d same u = split v.row.kind 11
      (λ l. ready_past _ (list_at same u h.from l))
      (λ l. ready_past _ (map_at same u l (omega (arith, h.to))))

  module _ (s : ℕ) (out : List ℕ) (p : Result ValueStart NoRecord) where
    pub object_held : v.row.kind ≡ 13 → (out' : List ℕ)
        → ObjectMet v.row.first v.row.second more (v.at.next + 1) s out p out'
        → HolderMet ks (items_of t) v.at.next s out p more out'
    object_held e out' h =
        let a = x.stands.item (Val (Object v.row.first v.row.second)) (both_item t.source an_object (row_of v.row) e) in
        holder_met ks (items_of t) v.at.next s out p more out' (Object v.row.first v.row.second) a
        (opens_as p (λ g. object_is (known_in ks) (items_of t) v.at.next g v.row.first v.row.second a
        ∙ known_as (λ c k. object_by v.row.first v.row.second c (items_of t) k g)) (h.says (items_of t) (ready_past _ a)))

    pub list_or_map_held : HolderKind v.row.kind → (v.row.kind ≡ 13 → ⊥) → {z : Bool} → z ≡ has_type v.row
        → Fitting v.row z → (ks' : given.Known) (out' : List ℕ)
        → ListOrMapMet v.row more (items_of t) (v.at.next + 1) s out p ks' out'
        → HolderMet ks (items_of t) v.at.next s out p ks' out'
    list_or_map_held h d same u ks' out' m = split v.row.kind 11
        (λ l. let a = list_at same u h.from l in
        holder_met ks (items_of t) v.at.next s out p ks' out' (list_of (has_type v.row) v.row.first v.row.second) a
        (opens_as p
        (λ g. list_is (known_in ks) (items_of t) v.at.next g (has_type v.row) v.row.first v.row.second a
        ∙ known_as (λ c k. list_by (has_type v.row) v.row.second v.row.first c (items_of t) k g)) (m.list l)))
        (λ l. let a = map_at same u l (omega (arith, h.to)) in
        holder_met ks (items_of t) v.at.next s out p ks' out' (map_of (has_type v.row) v.row.first v.row.second) a
        (opens_as p
        (λ g. map_is (known_in ks) (items_of t) v.at.next g (has_type v.row) v.row.first v.row.second a
        ∙ known_as (λ c k. map_by (has_type v.row) v.row.second v.row.first c (items_of t) k g)) (m.map l)))

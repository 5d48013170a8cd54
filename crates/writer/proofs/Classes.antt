-- Names, field names and class definitions, by the rows: what is written of them at each way out.
use mathlib.Core.Path.{◌≡◌, refl, sym, ap, subst, ◌∙◌}
use mathlib.Core.List.{List, [], ◌∷◌, ◌++◌, append-nil, append_assoc}
use mathlib.Core.Option.{Option, none, some}
use Prim.Native.Nat.{ℕ, suc, ◌+◌, ◌-◌, ◌^◌, ◌≤◌, ◌<◌}
use native.Mathlib.Numerals.{add-one}
use native.Mathlib.Omega.{arith}
use lib.Dec.{eqb}
use lib.ListN.{length, get_or}
use borrow.Author.Tests.{eqb-true, eqb-false}
use mir.Syntax.{w64}
use mir.Val.{Fits}
use Rattle.flow.specs.Tests.{by_cases, split}
use Rattle.scalar.specs.declared.Encoding.TheVariants.{Utf8}
use Rattle.scalar.specs.Scalars.{shortest_int}
use Rattle.record.specs.Model.Items.{Item, Val, Definition, ClassName, FieldName, TypeName, TypeNumber, Known, start}
use Rattle.record.specs.Model.Rows.{item_row}
use Rattle.record.specs.Model.Answers.{base}
use Rattle.record.specs.Model.Shortest.{definition?, class_name?, field_name?, put_name, put_definition, put_value}
use Rattle.record.proofs.ForWriter.RowItems.{OfText, first_item, first_none}
use Rattle.record.proofs.ForWriter.RowItems as kinds
use Rattle.record.specs.ForWriter.WritingAt.{At, End, WritingAt, WrittenTo, walk, behind}
use Rattle.record.proofs.ForWriter.WritingAt.{at_within, behind_none}
use Rattle.record.proofs.ForWriter.WritingAt.{behind_behind, walk_within}
use Rattle.record.specs.ForWriter.WrittenNames.{names_left}
use Rattle.record.proofs.ForWriter.WrittenNames.{name_end, name_other, name_got, name_none, names_stop}
use Rattle.record.proofs.ForWriter.WrittenNames.{names_over}
use Rattle.record.proofs.ForWriter.WrittenNames.{names_stuck, definition_end, definition_full, definition_wide}
use Rattle.record.proofs.ForWriter.WrittenNames.{definition_unnamed}
use Rattle.record.proofs.ForWriter.WrittenNames.{definition_uncounted, definition_names_stuck, definition_got}
use Rattle.record.proofs.ForWriter.WrittenItems.{plain_end}
use Rattle.record.specs.ForWriter.WrittenValues.{below}
use Rattle.record.proofs.ForWriter.WrittenValues.{value_end, value_plain, value_defined, value_undefined}
use Rattle.record.specs.ForWriter.BareItems.{NoneIn}
use Rattle.record.proofs.ForWriter.BareItems.{definition_none}
use Rattle.record.specs.Laws.KnownLaws.{known_in, Kept, defined_in}
use Rattle.record.proofs.Laws.KnownLaws.{defined_room, classes_counted, one_class, known_defined, kept_defined}
use Rattle.record.specs.Laws.RowLaws.{row_of}
use Rattle.record.specs.declared.Row as code
use Rattle.record.specs.declared.known.Known as given
use Rattle.std.specs.Prelude.{Result, Ok, Err}
use Rattle.writer.specs.declared.size.Size.{Size}
use Rattle.writer.specs.declared.progress.NoRecord.{NoRecord}
use Rattle.writer.specs.declared.progress.Progress.{Progress}
use Rattle.writer.specs.declared.progress.Turn.{Turn}
use Rattle.writer.specs.Lent.{Lent, over_longest}
use Rattle.writer.specs.Promises.{items_of, RowIs, FetchMet, Puts, PutSays, PutMet, StringMet, WalkSays, Among, TurnIn}
use Rattle.writer.specs.Promises.{NameKind, class_name, field_name, NameMet, NamesMet, Writable, WrittenUpTo}
use Rattle.writer.specs.Promises.{StepMet, ClassSays, ClassMet, FoundMet}
use Rattle.writer.proofs.PutLaws.{puts_none, puts_on}
use Rattle.writer.proofs.FetchLaws.{stands_either}
use Rattle.writer.proofs.Texts.{text_put, text_not}

-- ---- a name
-- the item of a content
naming_text : {kind : ℕ} {part : Item → Option (List ℕ)} → NameKind kind part → (f : List ℕ → Item) × OfText kind f
    × ((cs : List ℕ) → part (f cs) ≡ some cs)
naming_text class_name = ((λ cs. ClassName cs), kinds.class_name, (λ cs. refl))
naming_text field_name = ((λ cs. FieldName cs), kinds.field_name, (λ cs. refl))

-- an item of another kind is no such name
naming_other : {kind : ℕ} {part : Item → Option (List ℕ)} → NameKind kind part → (p e : ℕ) (i : Item)
    → ((item_row p e i).kind ≡ kind → ⊥) → part i ≡ none
naming_other class_name p e (Val v) d = refl
naming_other class_name p e (Definition n) d = refl
naming_other class_name p e (ClassName cs) d = absurd (d refl)
naming_other class_name p e (FieldName cs) d = refl
naming_other class_name p e (TypeName cs) d = refl
naming_other class_name p e (TypeNumber j) d = refl
naming_other field_name p e (Val v) d = refl
naming_other field_name p e (Definition n) d = refl
naming_other field_name p e (ClassName cs) d = refl
naming_other field_name p e (FieldName cs) d = absurd (d refl)
naming_other field_name p e (TypeName cs) d = refl
naming_other field_name p e (TypeNumber j) d = refl

module _ (t : Lent) (k : ℕ) (a : Among (items_of t) k) (kind : ℕ) (out : List ℕ) (s : ℕ) where
  pub name_past : {e n : NoRecord} → FetchMet t k (Err e) → {out' : List ℕ}
      → NameMet kind (items_of t) k out s (Err n) out'
  name_past h = record { says = λ part n c. record { says = name_end part c (items_of t) k (h.says a.within) } }

  module _ {r : code.Row} (h : FetchMet t k (Ok r)) where
    here : RowIs t.source r (items_of t) k
    here = (h.says a.within).2

    pub name_unlike : {n : NoRecord} {out' : List ℕ} → (r.kind ≡ kind → ⊥)
        → NameMet kind (items_of t) k out s (Err n) out'
    name_unlike d = record {
      says = λ part n c. record {
        says = stands_either here
            (λ i q e. name_other part c (items_of t) k i e (naming_other n r.place r.after i (λ z. d (sym q ∙ z))))
            (λ e. name_end part c (items_of t) k e);
      };
    }

    pub name_put : {source : List ℕ} → source ≡ t.source → r.kind ≡ kind → {p : Result Size NoRecord} {out' : List ℕ}
        → StringMet Utf8 source r.place r.first r.second out s p out' → NameMet kind (items_of t) k out s p out'
    name_put e i {p} {out'} y = record { says = λ part n c. record { says = go part n c p (rw e at y) } }
      where
        go : (part : Item → Option (List ℕ)) → NameKind kind part → (c : Known) (p : Result Size NoRecord)
            → StringMet Utf8 t.source r.place r.first r.second out s p out'
            → WalkSays (walk (put_name part) c (items_of t) k) (suc k) c out s p out'
        go part n c (Ok s') y =
            let f = naming_text n in
            let z = text_put f.1 t.source r i y in (
              z.written,
              name_got part c (items_of t) k (f.0 z.content) (here.item _ z.item) z.content
                  (f.2 z.content) z.written z.form,
              z.puts,
            )
        go part n c (Err e') y =
            let f = naming_text n in
            text_not f.1 t.source r i y (λ e. name_end part c (items_of t) k (here.lost e))
            (λ cs e g. name_none part c (items_of t) k (f.0 cs) (here.item _ e) cs (f.2 cs) g)

-- ---- the loop over the names of fields: what is left is written as the whole is, with the bytes so far before it
pub record NamesSoFar (is : List Item) (from count : ℕ) (out₀ : List ℕ) (size : ℕ) (out : List ℕ)
    (k s i : ℕ) : Type 0 where
  pub written : Known → List ℕ
  pub left : (c : Known) → walk (names_left count 0) c is from ≡ behind (written c) (walk (names_left count i) c is k)
  pub puts : (c : Known) → Puts out₀ size (written c) out s
  pub counted : from + i ≡ k
  pub among : Among is k

pub names_begin : {is : List Item} {from : ℕ} → Among is from → (count : ℕ) (out : List ℕ) (size : Size)
    → NamesSoFar is from count out size.bytes out from size.bytes 0
names_begin {is} {from} a count out size = record {
  written = λ c. [];
  left = λ c. sym (behind_none (walk (names_left count 0) c is from));
  puts = λ c. puts_none out size.bytes size.few;
  counted = omega arith;
  among = a;
}

pub names_past : {is : List Item} {from count : ℕ} {out₀ : List ℕ} {size : ℕ} {out : List ℕ} {k i : ℕ} (s : Size)
    → NamesSoFar is from count out₀ size out k s.bytes i → count ≤ i → i ≤ count
    → NamesMet is from count out₀ size (Ok s) out
names_past {is} {from} {count} {k = k} {i = i} s R l h =
    let e : i ≡ count = omega arith in
    let p : k ≡ from + count = omega (arith, R.counted) in
    record {
      says = λ c. record {
        says = (
          R.written c,
          R.left c ∙ ap (behind (R.written c)) (names_stop count i c is k e R.among.within)
              ∙ (λ j. WrittenTo (append-nil (R.written c) j) (p j) c),
          R.puts c,
        );
      };
    }

module _ {is : List Item} {from count : ℕ} {out₀ : List ℕ} {size : ℕ} {out : List ℕ} {k s i : ℕ}
    (R : NamesSoFar is from count out₀ size out k s i) where
  module _ (l : i < count) {out' : List ℕ} where
    pub names_lost : {e n : NoRecord} → NameMet 17 is k out s (Err e) out'
        → NamesMet is from count out₀ size (Err n) out'
    names_lost y = record {
      says = λ c. record {
        says = R.left c ∙ ap (behind (R.written c)) (names_stuck count i c is k l (y.says field_name? field_name c).says);
      };
    }

    module _ {z : Size} (y : NameMet 17 is k out s (Ok z) out') where
      next : (c : Known) → WalkSays (walk (put_name field_name?) c is k) (suc k) c out s (Ok z) out'
      next c = (y.says field_name? field_name c).says

      names_fit : k + 1 ≤ length is
      names_fit = omega (arith, walk_within start is k (put_name field_name?) (next start).0 (suc k) start (next start).1)

      pub names_room : Fits w64 (k + 1)
      names_room = omega (arith, names_fit, R.among.few)

      pub names_more : NamesSoFar is from count out₀ size out' (k + 1) z.bytes (i + 1)
      names_more = record {
        written = λ c. R.written c ++ (next c).0;
        left = λ c.
            R.left c
            ∙ ap (behind (R.written c)) (names_over count i c is k l (next c).0 (next c).1)
            ∙ behind_behind (R.written c) (next c).0 (walk (names_left count (i + 1)) c is (suc k))
            ∙ ap (λ (q : ℕ). behind (R.written c ++ (next c).0) (walk (names_left count (i + 1)) c is q))
            (sym (add-one k));
        puts = λ c. puts_on (R.puts c) (next c).2;
        counted = omega (arith, R.counted);
        among = record { within = names_fit; few = R.among.few };
      }

-- ---- the code, the name and the count of a class of n fields
module _ (is : List Item) (k n : ℕ) {out : List ℕ} {s : ℕ} {o₁ : List ℕ} {s₁ : ℕ} (b : Puts out s (0x43 ∷ []) o₁ s₁)
    (o₂ : List ℕ) where
  named : {p : Result Size NoRecord} → NameMet 16 is (k + 1) o₁ s₁ p o₂ → (c : Known)
      → WalkSays (walk (put_name class_name?) c is (suc k)) (suc (suc k)) c o₁ s₁ p o₂
  named {p} y c = subst (λ (j : ℕ). WalkSays (walk (put_name class_name?) c is j) (suc j) c o₁ s₁ p o₂) (add-one k)
      (y.says class_name? class_name c).says

  pub class_unnamed : {e e' : NoRecord} → NameMet 16 is (k + 1) o₁ s₁ (Err e) o₂ → ClassMet is k n out s (Err e') o₂
  class_unnamed y = record { says = λ c i l f. definition_unnamed base c is k n i l (omega arith) f (named y c) }

  pub class_counted : (s₂ : Size) → NameMet 16 is (k + 1) o₁ s₁ (Ok s₂) o₂ → {q : Result Size NoRecord} {o₃ : List ℕ}
      → PutMet (shortest_int n) o₂ s₂.bytes q o₃ → ClassMet is k n out s q o₃
  class_counted s₂ y {q} {o₃} z = record { says = go q z.says }
    where
      go : (q : Result Size NoRecord) → PutSays (shortest_int n) o₂ s₂.bytes q o₃ → ClassSays is k n out s q o₃
      go (Ok s₃) z = λ c. let w = named y c in (w.0, z.0, w.1, z.1, puts_on (puts_on b w.2) z.2)
      go (Err e) z = λ c i l f. let w = named y c in
          definition_uncounted base c is k n i l (omega arith) f w.0 w.1 z

-- ---- a class definition, whose row r stands at k
module _ {t : Lent} {ks : given.Known} {v : Turn} (x : TurnIn t ks v) (h : v.row.kind ≡ 15) (s : ℕ) (out : List ℕ) where
  abbrev Place : ℕ
  Place = v.at.next

  abbrev Fields : ℕ
  Fields = v.row.first

  abbrev Defined : WritingAt
  Defined = walk (put_definition base) (known_in ks) (items_of t) v.at.next

  pub definition_second : {n : NoRecord} {ks' : given.Known} {out' : List ℕ} → (v.row.second ≡ 0 → ⊥)
      → StepMet Defined (items_of t) (v.at.next + 1) s out (Err n) ks' out'
  definition_second d = record {
    says = definition_end base (known_in ks) (items_of t) Place
        (x.stands.lost (first_none t.source kinds.a_definition (row_of v.row) h d));
  }

  module _ (z : v.row.second ≡ 0) where
    stood : At (items_of t) Place (Definition Fields)
    stood = x.stands.item _ (first_item t.source kinds.a_definition (row_of v.row) h z)

    pub definition_inside : Among (items_of t) (v.at.next + 1)
    definition_inside = record {
      within = omega (arith, at_within (items_of t) Place (Definition Fields) stood);
      few = x.ready.among.few;
    }

    pub definition_most : {n : NoRecord} {ks' : given.Known} {out' : List ℕ} → base.classes ≤ ks.classes
        → StepMet Defined (items_of t) (v.at.next + 1) s out (Err n) ks' out'
    definition_most l = record {
      says = definition_full base (known_in ks) (items_of t) Place Fields stood
          (omega (arith, classes_counted x.ready.kept));
    }

    pub definition_broad : {n : NoRecord} {ks' : given.Known} {out' : List ℕ} → base.fields < v.row.first
        → StepMet Defined (items_of t) (v.at.next + 1) s out (Err n) ks' out'
    definition_broad l = record { says = definition_wide base (known_in ks) (items_of t) Place Fields stood l }

    module _ (room : ks.classes < base.classes) (few : v.row.first ≤ base.fields) (o₁ : List ℕ) where
      counts : length (known_in ks).classes < base.classes
      counts = omega (arith, classes_counted x.ready.kept)

      pub definition_classless : {e n : NoRecord} → ClassMet (items_of t) v.at.next v.row.first out s (Err e) o₁
          → {ks' : given.Known} → StepMet Defined (items_of t) (v.at.next + 1) s out (Err n) ks' o₁
      definition_classless y = record { says = y.says (known_in ks) stood counts few }

      module _ (s₁ : Size) (y : ClassMet (items_of t) v.at.next v.row.first out s (Ok s₁) o₁) where
        head : (w : List ℕ) × (v' : List ℕ)
            × (walk (put_name class_name?) (known_in ks) (items_of t) (suc Place) ≡ WrittenTo w (suc (suc Place)) (known_in ks))
            × (shortest_int Fields ≡ some v') × Puts out s (0x43 ∷ (w ++ v')) o₁ s₁.bytes
        head = y.says (known_in ks)

        pub head_inside : Among (items_of t) (v.at.next + 2)
        head_inside = record {
          within = omega (
            arith,
            walk_within (known_in ks) (items_of t) (suc Place) (put_name class_name?) head.0 (suc (suc Place))
                (known_in ks) head.2,
          );
          few = x.ready.among.few;
        }

        pub head_room : Fits w64 (v.at.next + 2)
        head_room = omega (arith, head_inside.within, head_inside.few)

        module _ (o₂ : List ℕ) where
          names_say : {q : Result Size NoRecord} → NamesMet (items_of t) (v.at.next + 2) v.row.first o₁ s₁.bytes q o₂
              → WalkSays (walk (names_left Fields 0) (known_in ks) (items_of t) (suc (suc Place))) (Place + 2 + Fields)
              (known_in ks) o₁ s₁.bytes q o₂
          names_say {q} named =
              let j : Place + 2 ≡ suc (suc Place) = omega arith in
              subst (λ (j : ℕ). WalkSays (walk (names_left Fields 0) (known_in ks) (items_of t) j) (Place + 2 + Fields)
              (known_in ks) o₁ s₁.bytes q o₂) j (named.says (known_in ks)).says

          pub definition_nameless : {e n : NoRecord}
              → NamesMet (items_of t) (v.at.next + 2) v.row.first o₁ s₁.bytes (Err e) o₂
              → {ks' : given.Known} → StepMet Defined (items_of t) (v.at.next + 1) s out (Err n) ks' o₂
          definition_nameless named = record {
            says = definition_names_stuck base (known_in ks) (items_of t) Place Fields stood counts (omega arith) few
                head.0 head.2 head.1 head.3 (names_say named);
          }

          module _ {s₂ : Size} (named : NamesMet (items_of t) (v.at.next + 2) v.row.first o₁ s₁.bytes (Ok s₂) o₂) where
            names_inside : Place + 2 + Fields ≤ length (items_of t)
            names_inside = let w = names_say named in
                walk_within (known_in ks) (items_of t) (suc (suc Place)) (names_left Fields 0) w.0 (Place + 2 + Fields)
                (known_in ks) w.1

            pub definition_room : Fits w64 (v.at.next + 2 + v.row.first)
            definition_room = omega (arith, names_inside, x.ready.among.few)

            pub definition_done : {ks' : given.Known} → ks' ≡ defined_in ks v.row.first
                → StepMet Defined (items_of t) (v.at.next + 1) s out
                (Ok (record { next = v.at.next + 2 + v.row.first; size = s₂ })) ks' o₂
            definition_done {ks'} g =
                let w = names_say named in
                let one : ks' ≡ one_class ks Fields = g ∙ sym (defined_room ks Fields room) in
                let puts = puts_on head.4 w.2 in
                record {
                  says = record {
                    written = 0x43 ∷ (head.0 ++ (head.1 ++ w.0));
                    says =
                        definition_got base (known_in ks) (items_of t) Place Fields stood counts (omega arith) few
                        head.0 head.2 head.1 head.3 w.0 (Place + 2 + Fields) w.1
                        ∙ ap (λ (c : Known). WrittenTo (0x43 ∷ (head.0 ++ (head.1 ++ w.0))) (Place + 2 + Fields) c)
                        (sym (ap known_in one ∙ known_defined ks x.ready.kept Fields room));
                    puts = rw append_assoc at puts;
                    ready = record {
                      among = record { within = names_inside; few = x.ready.among.few };
                      kept = subst Kept (sym one) (kept_defined ks x.ready.kept Fields room);
                      references_few = omega (
                        arith,
                        ap (λ (k : given.Known). k.references) one,
                        x.ready.references_few,
                      );
                    };
                    onward = omega arith;
                  };
                }

-- ---- the loop over class definitions likewise
pub record DefinitionsSoFar
    (t : Lent) (k size : ℕ) (ks₀ : given.Known) (out₀ : List ℕ) (ks : given.Known) (out : List ℕ) (p s : ℕ) : Type 0
  where
    pub written : List ℕ
    pub left : (open_from d : ℕ)
        → walk (put_value base open_from d) (known_in ks₀) (items_of t) k ≡ behind written
        (walk (put_value base open_from d) (known_in ks) (items_of t) p)
    pub puts : Puts out₀ size written out s
    pub ready : Writable (items_of t) ks p
    pub onward : k ≤ p
    pub bare : NoneIn (items_of t) k p

pub defining_start : {t : Lent} {ks : given.Known} {k : ℕ} → Writable (items_of t) ks k → (size : Size) (out : List ℕ)
    → DefinitionsSoFar t k size.bytes ks out ks out k size.bytes
defining_start {t} {ks} {k} v size out = record {
  written = [];
  left = λ open_from d. sym (behind_none (walk (put_value base open_from d) (known_in ks) (items_of t) k));
  puts = puts_none out size.bytes size.few;
  ready = v;
  onward = omega arith;
  bare = λ j a b w x. omega arith;
}

none_on : {is : List Item} {k p q : ℕ} → NoneIn is k p → NoneIn is p q → NoneIn is k q
none_on {p = p} h g j a b v x = split j p (λ l. h j a l v x) (λ l. g j l b v x)

-- no definition, by the kind
undefining : (p e : ℕ) (i : Item) → ((item_row p e i).kind ≡ 15 → ⊥) → definition? i ≡ none
undefining p e (Val v) d = refl
undefining p e (Definition n) d = absurd (d refl)
undefining p e (ClassName cs) d = refl
undefining p e (FieldName cs) d = refl
undefining p e (TypeName cs) d = refl
undefining p e (TypeNumber j) d = refl

module _ {t : Lent} {k size : ℕ} {ks₀ : given.Known} {out₀ : List ℕ} {ks : given.Known} {out : List ℕ} (at : Progress)
    (R : DefinitionsSoFar t k size ks₀ out₀ ks out at.next at.size.bytes) where
  pub defining_end : {e n : NoRecord} → FetchMet t at.next (Err e) → FoundMet t k size ks₀ out₀ (Err n) ks out
  defining_end h = record {
    says = λ open_from d. R.left open_from d
        ∙ ap (behind R.written)
        (value_end base open_from d (known_in ks) (items_of t) at.next (h.says R.ready.among.within));
  }

  module _ {r : code.Row} (h : FetchMet t at.next (Ok r)) where
    abbrev Here : Turn
    Here = record { row = r; at = at }

    defining_turn : TurnIn t ks Here
    defining_turn = let f = h.says R.ready.among.within in record { ready = R.ready; room = f.0; stands = f.2 }

    pub defining_value : (r.kind ≡ 15 → ⊥) → FoundMet t k size ks₀ out₀ (Ok Here) ks out
    defining_value d = record {
      says = record {
        written = R.written;
        says = λ open_from m. R.left open_from m ∙ ap (behind R.written) (stands_either defining_turn.stands
            (λ i q a. value_plain base open_from m (known_in ks) (items_of t) at.next i a
            (undefining r.place r.after i (λ z. d (sym q ∙ z))))
            (λ a. value_end base open_from m (known_in ks) (items_of t) at.next a
            ∙ sym (plain_end base open_from (below base open_from m) (known_in ks) (items_of t) at.next a)));
        puts = R.puts;
        onward = R.onward;
        turn = defining_turn;
        row_is = (h.says R.ready.among.within).1;
        bare = R.bare;
      };
    }

    module _ (i : r.kind ≡ 15) (ks₁ : given.Known) (out₁ : List ℕ) where
      -- a definition stands there, or none
      either : {P : Type 0} → ((n : ℕ) → At (items_of t) at.next (Definition n) → P) → (End (items_of t) at.next → P) → P
      either f g = by_cases (eqb r.second 0)
          (λ z. f r.first
          (defining_turn.stands.item _ (first_item t.source kinds.a_definition (row_of r) i (eqb-true r.second 0 z))))
          (λ z. g (defining_turn.stands.lost
          (first_none t.source kinds.a_definition (row_of r) i (eqb-false r.second 0 z))))

      -- what is written of it
      abbrev Defining : WritingAt
      Defining = walk (put_definition base) (known_in ks) (items_of t) at.next

      pub defining_lost : {e n : NoRecord}
          → StepMet Defining (items_of t) (at.next + 1) at.size.bytes out (Err e) ks₁ out₁
          → FoundMet t k size ks₀ out₀ (Err n) ks₁ out₁
      defining_lost y = record {
        says = λ open_from d. R.left open_from d ∙ ap (behind R.written) (either
            (λ m a. value_undefined base open_from d (known_in ks) (items_of t) at.next m a y.says)
            (λ a. value_end base open_from d (known_in ks) (items_of t) at.next a));
      }

      module _ {z : Progress} (y : StepMet Defining (items_of t) (at.next + 1) at.size.bytes out (Ok z) ks₁ out₁) where
        went : WrittenUpTo Defining (items_of t) (at.next + 1) at.size.bytes out z ks₁ out₁
        went = y.says

        pub defining_more : DefinitionsSoFar t k size ks₀ out₀ ks₁ out₁ z.next z.size.bytes
        defining_more = record {
          written = R.written ++ went.written;
          left = λ open_from d.
              R.left open_from d
              ∙ ap (behind R.written) (either
              (λ m a. value_defined base open_from d (known_in ks) (items_of t) at.next m a went.written z.next
              (known_in ks₁) went.says)
              (λ a. let u = went.says in let v = definition_end base (known_in ks) (items_of t) at.next a in
              let y : ◌≡◌ {A = ℕ} 0 1 = cc in absurd (omega arith)))
              ∙ behind_behind R.written went.written
              (walk (put_value base open_from d) (known_in ks₁) (items_of t) z.next);
          puts = puts_on R.puts went.puts;
          ready = went.ready;
          onward = omega (arith, R.onward, went.onward);
          bare = none_on R.bare
              (definition_none base (known_in ks) (items_of t) at.next went.written z.next (known_in ks₁) went.says);
        }

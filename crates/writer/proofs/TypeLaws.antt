-- Types by the rows: what is written of them at each way out.
use mathlib.Core.Path.{◌≡◌, refl, sym, ap, subst, ◌∙◌}
use mathlib.Core.Bool.{Bool, true, false}
use mathlib.Core.List.{List, []}
use Prim.Native.Nat.{ℕ, suc, ◌+◌, ◌≤◌, ◌<◌}
use native.Mathlib.Numerals.{add-one}
use native.Mathlib.Omega.{arith}
use lib.ListN.{length}
use mir.Syntax.{w64}
use mir.Val.{Fits}
use Rattle.scalar.specs.declared.Encoding.TheVariants.{Utf8}
use Rattle.scalar.specs.Scalars.{shortest_int}
use Rattle.record.specs.Model.Items.{Item, Val, Definition, ClassName, FieldName, TypeName, TypeNumber, Known}
use Rattle.record.specs.Model.Rows.{item_row}
use Rattle.record.specs.Model.Answers.{base}
use Rattle.record.specs.Model.Shortest.{put_type}
use Rattle.record.proofs.ForWriter.RowItems.{type_spelled, type_numbered, first_item, first_none}
use Rattle.record.specs.ForWriter.WritingAt.{At, WritingAt, WrittenTo, NoMessage, walk}
use Rattle.record.proofs.ForWriter.WritingAt.{walk_bytes, walk_within}
use Rattle.record.proofs.ForWriter.WrittenNames.{is_type, type_end, type_other, type_name_other, type_name_full}
use Rattle.record.proofs.ForWriter.WrittenNames.{type_name_none}
use Rattle.record.proofs.ForWriter.WrittenNames.{type_number_other, type_number_ungiven, type_number_none}
use Rattle.record.proofs.ForWriter.WrittenNames as types
use Rattle.record.specs.Laws.KnownLaws.{known_in, Kept}
use Rattle.record.proofs.Laws.KnownLaws.{known_typed, kept_typed, one_type}
use Rattle.record.specs.declared.known.Known as given
use Rattle.record.specs.declared.Row as code
use Rattle.std.specs.Prelude.{Result, Ok, Err}
use Rattle.writer.specs.declared.size.Size.{Size}
use Rattle.writer.specs.declared.progress.NoRecord.{NoRecord}
use Rattle.writer.specs.declared.progress.Progress.{Progress}
use Rattle.writer.specs.Lent.{Lent}
use Rattle.record.specs.Laws.RowLaws.{row_of}
use Rattle.writer.specs.Promises.{items_of, RowIs, FetchMet, Puts, PutSays, PutMet, StringMet, WalkSays, Writable}
use Rattle.writer.specs.Promises.{StepMet, type_by, TypeRowMet, TypeNumberMet}
use Rattle.writer.proofs.PutLaws.{puts_none}
use Rattle.writer.proofs.FetchLaws.{stands_either}
use Rattle.writer.proofs.Texts.{text_either, text_put, text_not}

-- ---- the row names the type
module _ (source : List ℕ) (r : code.Row) (t : ℕ) (ks : given.Known) (w : Kept ks) (out : List ℕ) (s : ℕ) where
  -- no record, where what is known is left as it is
  unnamed : {n : NoRecord} {out' : List ℕ}
      → ((is : List Item) (k : ℕ) → RowIs source r is k → walk (put_type base t) (known_in ks) is k ≡ NoMessage)
      → TypeRowMet source r t ks out s (Err n) ks out'
  unnamed f = record { says = λ is k x. record { says = f is k x }; kept = w; references = refl }

  module _ (h : r.kind ≡ 18) where
    pub type_misnumbered : {n : NoRecord} {out' : List ℕ} → (ks.types ≡ t → ⊥)
        → TypeRowMet source r t ks out s (Err n) ks out'
    type_misnumbered d = unnamed (λ is k x. text_either type_spelled source r h
        (λ e. type_end base t (known_in ks) is k (x.lost e))
        (λ cs e. type_name_other base t (known_in ks) is k cs (x.item _ e) d))

    pub type_full : {n : NoRecord} {out' : List ℕ} → base.types ≤ ks.types
        → TypeRowMet source r t ks out s (Err n) ks out'
    type_full l = unnamed (λ is k x. text_either type_spelled source r h
        (λ e. type_end base t (known_in ks) is k (x.lost e))
        (λ cs e. type_name_full base t (known_in ks) is k cs (x.item _ e) l))

    pub type_named : {p : Result Size NoRecord} {out' : List ℕ} → ks.types ≡ t → ks.types < base.types
        → StringMet Utf8 source r.place r.first r.second out s p out'
        → TypeRowMet source r t ks out s p (one_type ks w) out'
    type_named {p} {out'} e l y =
        record {
          says = λ is k x. record { says = go is k x p y };
          kept = kept_typed ks w l;
          references = refl;
        }
      where
        go : (is : List Item) (k : ℕ) → RowIs source r is k → (p : Result Size NoRecord)
            → StringMet Utf8 source r.place r.first r.second out s p out'
            → WalkSays (walk (put_type base t) (known_in ks) is k) (suc k)
            (known_in (one_type ks w)) out s p out'
        go is k x (Ok s') y =
            let z = text_put type_spelled source r h y in (
              z.written,
              types.type_spelled base t (known_in ks) is k z.content (x.item _ z.item) e l z.written
                  z.form ∙ ap (λ (c : Known). WrittenTo z.written (suc k) c) (sym (known_typed ks w)),
              z.puts,
            )
        go is k x (Err e') y =
            text_not type_spelled source r h y
            (λ e. type_end base t (known_in ks) is k (x.lost e))
            (λ cs e f. type_name_none base t (known_in ks) is k cs (x.item _ e) f)

  -- ---- the row gives the type's number
  module _ (h : r.kind ≡ 19) where
    pub type_second_law : {n : NoRecord} {out' : List ℕ} → (r.second ≡ 0 → ⊥) → TypeRowMet source r t ks out s (Err n) ks out'
    type_second_law d =
        unnamed (λ is k x. type_end base t (known_in ks) is k (x.lost (first_none source type_numbered (row_of r) h d)))

    module _ (z : r.second ≡ 0) where
      numbered : (is : List Item) (k : ℕ) → RowIs source r is k → At is k (TypeNumber r.first)
      numbered is k x = x.item _ (first_item source type_numbered (row_of r) h z)

      pub type_another : {n : NoRecord} {out' : List ℕ} → (r.first ≡ t → ⊥) → TypeRowMet source r t ks out s (Err n) ks out'
      type_another d = unnamed (λ is k x. type_number_other base t (known_in ks) is k r.first (numbered is k x) d)

      module _ (e : r.first ≡ t) where
        pub type_ungiven : {n : NoRecord} {out' : List ℕ} → ks.types ≤ t
            → TypeRowMet source r t ks out s (Err n) ks out'
        type_ungiven l =
            unnamed (λ is k x. type_number_ungiven base t (known_in ks) is k r.first (numbered is k x) (omega arith))

        pub type_by_number : {p : Result Size NoRecord} {out' : List ℕ} → t < ks.types → PutMet (shortest_int t) out s p out'
            → TypeRowMet source r t ks out s p ks out'
        type_by_number {p} {out'} l y =
            record { says = λ is k x. record { says = go is k x p y.says }; kept = w; references = refl }
          where
            go : (is : List Item) (k : ℕ) → RowIs source r is k → (p : Result Size NoRecord) → PutSays (shortest_int t) out s p out'
                → WalkSays (walk (put_type base t) (known_in ks) is k) (suc k) (known_in ks) out s p out'
            go is k x (Ok s') y = (
              y.0,
              types.type_numbered base t (known_in ks) is k r.first (numbered is k x) e (omega arith) y.0
                  (ap shortest_int e ∙ y.1),
              y.2,
            )
            go is k x (Err e') y = type_number_none base t (known_in ks) is k r.first (numbered is k x)
                (ap shortest_int e ∙ y)

  -- ---- the row gives no type
  pub type_unlike : {n : NoRecord} {out' : List ℕ} → (r.kind ≡ 18 → ⊥) → (r.kind ≡ 19 → ⊥)
      → TypeRowMet source r t ks out s (Err n) ks out'
  type_unlike d f =
      unnamed (λ is k x. stands_either x
      (λ i q e. type_other base t (known_in ks) is k i e (go i (λ z. d (sym q ∙ z)) (λ z. f (sym q ∙ z))))
      (λ e. type_end base t (known_in ks) is k e))
    where
      go : (i : Item) → ((item_row r.place r.after i).kind ≡ 18 → ⊥)
          → ((item_row r.place r.after i).kind ≡ 19 → ⊥) → is_type i ≡ false
      go (Val v) d f = refl
      go (Definition n) d f = refl
      go (ClassName cs) d f = refl
      go (FieldName cs) d f = refl
      go (TypeName cs) d f = absurd (d refl)
      go (TypeNumber j) d f = absurd (f refl)

pub type_of_number : {source : List ℕ} {r : code.Row} {t : ℕ} {ks : given.Known} {out : List ℕ} {s : ℕ} {p : Result Size NoRecord} {out' : List ℕ}
    → TypeNumberMet r t ks out s p out' → TypeRowMet source r t ks out s p ks out'
type_of_number {source} h = h.says source

-- ---- where a type stands
module _ (typed : Bool) (number : ℕ) (t : Lent) (ks : given.Known) (at : Progress) (out : List ℕ)
    (v : Writable (items_of t) ks at.next) (u : Bool) (same : u ≡ typed) where
  -- what is written of it, in a list or map that is typed or not
  abbrev TypeHere : WritingAt
  TypeHere = walk (type_by typed number) (known_in ks) (items_of t) at.next

  pub type_none : {out' : List ℕ} → u ≡ false → out' ≡ out
      → StepMet TypeHere (items_of t) at.next at.size.bytes out (Ok at) ks out'
  type_none {out'} e f = record {
    says = record {
      written = [];
      says = ap (λ (z : Bool). walk (type_by z number) (known_in ks) (items_of t) at.next) (sym same ∙ e)
          ∙ walk_bytes (known_in ks) (items_of t) at.next [] v.among.within;
      puts = subst (λ (o : List ℕ). Puts out at.size.bytes [] o at.size.bytes) (sym f)
          (puts_none out at.size.bytes at.size.few);
      ready = v;
      onward = omega arith;
    };
  }

  module _ (is-typed : u ≡ true) where
    abbrev TypedHere : WritingAt
    TypedHere = walk (put_type base number) (known_in ks) (items_of t) at.next

    typing : TypeHere ≡ TypedHere
    typing = ap (λ (z : Bool). walk (type_by z number) (known_in ks) (items_of t) at.next) (sym same ∙ is-typed)

    pub type_past : {e n : NoRecord} → FetchMet t at.next (Err e) → {ks' : given.Known} {out' : List ℕ}
        → StepMet TypeHere (items_of t) at.next at.size.bytes out (Err n) ks' out'
    type_past h = record {
      says = typing ∙ type_end base number (known_in ks) (items_of t) at.next (h.says v.among.within);
    }

    module _ {r : code.Row} (h : FetchMet t at.next (Ok r)) {source : List ℕ} (e : source ≡ t.source)
        {ks' : given.Known} {out' : List ℕ} {s : Size}
        (y : TypeRowMet source r number ks out at.size.bytes (Ok s) ks' out') where
      went : WalkSays TypedHere (suc at.next) (known_in ks') out at.size.bytes (Ok s) out'
      went = ((rw e at y).says (items_of t) at.next (h.says v.among.within).2).says

      type_inside : at.next + 1 ≤ length (items_of t)
      type_inside = omega (
        arith,
        walk_within (known_in ks) (items_of t) at.next (put_type base number) went.0 (suc at.next)
            (known_in ks') went.1,
      )

      pub type_room : Fits w64 (at.next + 1)
      type_room = omega (arith, type_inside, v.among.few)

      pub type_done :
          StepMet TypeHere (items_of t) at.next at.size.bytes out
          (Ok (record { next = at.next + 1; size = s })) ks' out'
      type_done = record {
        says = record {
          written = went.0;
          says = typing ∙ went.1 ∙ ap (λ (j : ℕ). WrittenTo went.0 j (known_in ks')) (sym (add-one at.next));
          puts = went.2;
          ready = record {
            among = record { within = type_inside; few = v.among.few };
            kept = y.kept;
            references_few = omega (arith, y.references, v.references_few);
          };
          onward = omega arith;
        };
      }

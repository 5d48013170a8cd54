-- What the contracts of values.rt ask at each of their ways out.
use mathlib.Core.Path.{◌≡◌, refl, sym, ap, subst, ◌∙◌}
use mathlib.Core.Bool.{Bool, true, false}
use mathlib.Core.Logic.{inl, inr, ⊎_elim}
use mathlib.Core.List.{List, [], ◌∷◌, ◌++◌}
use mathlib.Core.Option.{Option, none, some}
use Prim.Native.Nat.{ℕ, suc, ◌+◌, ◌-◌, ◌/◌, ◌%◌, ◌^◌, ◌≤◌, ◌<◌}
use native.Mathlib.Numerals.{add-one}
use native.Mathlib.Omega.{arith}
use lib.Dec.{eqb}
use lib.ListN.{length, drop, get_or}
use Rattle.flow.specs.Tests.{split}
use mir.Syntax.{w64}
use mir.Val.{Fits}
use borrow.Author.Tests.{eq-eqb, ne_eqb}
use Rattle.scalar.specs.declared.Sort.TheVariants as sort
use Rattle.scalar.specs.declared.Encoding.TheVariants.{Utf8, Binary}
use Rattle.scalar.specs.Scalars.{Num, Str}
use Rattle.record.specs.declared.Contents.{Contents}
use Rattle.record.specs.declared.Contents.TheVariants.{Elements, Couples}
use Rattle.record.specs.Model.Items.{Value, Leaf, UntypedList, TypedList, UntypedMap, TypedMap, Object, Reference, Item}
use Rattle.record.specs.Model.Items.{Val, Definition, ClassName, FieldName, TypeName, TypeNumber, Known}
use Rattle.record.specs.Model.Rows.{Row, item_row, span}
use Rattle.record.specs.Model.Shortest.{put_value}
use Rattle.record.specs.Model.Answers.{base, base_open_from}
use Rattle.record.specs.Model.Shortest.{put_plain}
use Rattle.record.specs.Model.Shortest as spelling
use Rattle.record.specs.Laws.Claimed.{item_at}
use Rattle.record.proofs.Laws.Claimed.{claims_back}
use Rattle.record.proofs.Laws.Takes.{value_drops}
use Rattle.record.specs.ForWriter.WritingAt.{holding, row_at, At, WritingAt, WrittenTo, NoMessage, walk, behind}
use Rattle.record.proofs.ForWriter.WritingAt.{behind_none, behind_behind}
use Rattle.record.proofs.ForWriter.WritingAt.{walk_within}
use Rattle.record.proofs.ForWriter.WrittenItems.{holds, plain_end, plain_full}
use Rattle.record.specs.ForWriter.WrittenContents.{left, done}
use Rattle.record.proofs.ForWriter.WrittenContents.{Room, room_first, room_next, left_stop, left_over}
use Rattle.record.proofs.ForWriter.WrittenContents.{left_stuck}
use Rattle.record.specs.ForWriter.WrittenValues.{below}
use Rattle.record.proofs.ForWriter.WrittenValues.{below_none, below_some, written_span}
use Rattle.record.specs.ForWriter.WrittenMessages.{Rights}
use Rattle.record.specs.Laws.KnownLaws.{known_in}
use Rattle.record.specs.declared.Row as code
use Rattle.record.specs.declared.known.Known as given
use Rattle.std.specs.Prelude.{Result, Ok, Err}
use Rattle.writer.specs.declared.size.Size.{Size}
use Rattle.writer.specs.declared.progress.NoRecord.{NoRecord}
use Rattle.writer.specs.declared.progress.Progress.{Progress}
use Rattle.writer.specs.declared.progress.Turn.{Turn}
use Rattle.writer.specs.declared.holders.Interior.{Interior}
use Rattle.writer.specs.declared.holders.ValueStart.{ValueStart}
use Rattle.writer.specs.declared.holders.ValueStart.TheVariants.{Past, Within}
use Rattle.writer.specs.declared.values.Entered.{Entered}
use Rattle.record.specs.Laws.RowLaws.{row_of}
use Rattle.record.specs.Model.Claims.{content_at}
use Rattle.writer.specs.Lent.{Lent, over_longest}
use Rattle.writer.specs.Promises.{items_of, Puts, WalkSays, NoHolderKind, LeafMet, Among, Writable, TurnIn, WrittenUpTo}
use Rattle.writer.specs.Promises.{ValueReached, FoundMet, closed, closing, InteriorSays, ValuesLeft, BeginSays}
use Rattle.writer.specs.Promises.{BareIn, HolderAt, HolderMet, HeldIn, RowMet, InteriorOf, EnterSays, EnterMet, ValuesMet}
use Rattle.writer.proofs.PutLaws.{puts_none, puts_on}
use Rattle.writer.proofs.FetchLaws.{stands_either}

-- ---- whether no value is left
module _ (x : Contents) (i n : ℕ) where
  pub done_elements : x ≡ Elements n → eqb i n ≡ done x i
  done_elements e = ap (λ (x : Contents). done x i) (sym e)

  module _ (e : x ≡ Couples n) where
    pub done_even : i % 2 ≡ 0 → eqb (i / 2) n ≡ done x i
    done_even h = rw (e, eq-eqb (i % 2) 0 h)

    pub done_odd : (i % 2 ≡ 0 → ⊥) → eqb (i % 2) 0 ≡ done x i
    done_odd h = rw (e, ne_eqb (i % 2) 0 h)

-- ---- 5a, where it is due
module _ (b : Bool) (out : List ℕ) (s : Size) where
  pub closing_put : b ≡ true → (out' : List ℕ) (r : ℕ) → Puts out s.bytes (0x5a ∷ []) out' r
      → Puts out s.bytes (closing b) out' r
  closing_put e out' r h = rw e h

  pub closing_none : b ≡ false → Puts out s.bytes (closing b) out s.bytes
  closing_none e = rw e (puts_none out s.bytes s.few)

rights_on : (rs : List Row) {is : List Item} {k p q : ℕ} → Rights rs is k p → Rights rs is p q → Rights rs is k q
rights_on rs {p = p} h g j a b v x t = split j p (λ l. h j a l v x t) (λ l. g j l b v x t)

-- a list, map or object has a kind of its own
holding_kind : (p e : ℕ) (v : Value) → holding v ≡ true → (9 ≤ (item_row p e (Val v)).kind)
    × ((item_row p e (Val v)).kind ≤ 13)
holding_kind p e (Leaf x) t = let z : ◌≡◌ {A = ℕ} 0 1 = cc in absurd (omega arith)
holding_kind p e (UntypedList n) t = (omega arith, omega arith)
holding_kind p e (TypedList n u) t = (omega arith, omega arith)
holding_kind p e (UntypedMap n) t = (omega arith, omega arith)
holding_kind p e (TypedMap n u) t = (omega arith, omega arith)
holding_kind p e (Object k n) t = (omega arith, omega arith)
holding_kind p e (Reference k) t = let z : ◌≡◌ {A = ℕ} 0 1 = cc in absurd (omega arith)

-- ---- the row of a value
-- a row of a list, map or object claims one
holder_holds : (p e : ℕ) (i : Item) → 9 ≤ (item_row p e i).kind → (item_row p e i).kind ≤ 13 → (v : Value) × (i ≡ Val v)
    × (holds v ≡ true)
holder_holds p e (Val (Leaf (Num sort.Null v))) l h = absurd (omega arith)
holder_holds p e (Val (Leaf (Num sort.False v))) l h = absurd (omega arith)
holder_holds p e (Val (Leaf (Num sort.True v))) l h = absurd (omega arith)
holder_holds p e (Val (Leaf (Num sort.Int v))) l h = absurd (omega arith)
holder_holds p e (Val (Leaf (Num sort.Long v))) l h = absurd (omega arith)
holder_holds p e (Val (Leaf (Num sort.Double v))) l h = absurd (omega arith)
holder_holds p e (Val (Leaf (Num sort.Date v))) l h = absurd (omega arith)
holder_holds p e (Val (Leaf (Str Utf8 cs))) l h = absurd (omega arith)
holder_holds p e (Val (Leaf (Str Binary cs))) l h = absurd (omega arith)
holder_holds p e (Val (UntypedList n)) l h = (UntypedList n, refl, refl)
holder_holds p e (Val (TypedList n t)) l h = (TypedList n t, refl, refl)
holder_holds p e (Val (UntypedMap n)) l h = (UntypedMap n, refl, refl)
holder_holds p e (Val (TypedMap n t)) l h = (TypedMap n t, refl, refl)
holder_holds p e (Val (Object k n)) l h = (Object k n, refl, refl)
holder_holds p e (Val (Reference k)) l h = absurd (omega arith)
holder_holds p e (Definition n) l h = absurd (omega arith)
holder_holds p e (ClassName cs) l h = absurd (omega arith)
holder_holds p e (FieldName cs) l h = absurd (omega arith)
holder_holds p e (TypeName cs) l h = absurd (omega arith)
holder_holds p e (TypeNumber k) l h = absurd (omega arith)

module _ {t : Lent} {ks : given.Known} {v : Turn} (x : TurnIn t ks v) (d : ℕ) (out : List ℕ) where
  -- what is written of the value of this row
  abbrev RowStanding : WritingAt
  RowStanding =
      walk (put_plain base base_open_from (below base base_open_from d)) (known_in ks) (items_of t) v.at.next

  module _ {source : List ℕ} (e : source ≡ t.source) {out' : List ℕ} where
    leaf_says : {p : Result Size NoRecord} → LeafMet source v.row ks.references out v.at.size.bytes p out'
        → WalkSays RowStanding (suc v.at.next) (known_in ks) out v.at.size.bytes p out'
    leaf_says m =
        let y = rw e at m in
        (y.says base_open_from (below base base_open_from d) (known_in ks) (items_of t) v.at.next x.stands refl).says

    pub row_no_leaf : {n n' : NoRecord} → LeafMet source v.row ks.references out v.at.size.bytes (Err n) out'
        → RowMet d (items_of t) ks v.at.next v.at.size.bytes out (Err n') ks out'
    row_no_leaf m = record { met = record { says = leaf_says m }; held = tt }

    pub row_leaf : NoHolderKind v.row.kind → (s' : Size)
        → LeafMet source v.row ks.references out v.at.size.bytes (Ok s') out'
        → RowMet d (items_of t) ks v.at.next v.at.size.bytes out
        (Ok (Past (record { next = v.at.next + 1; size = s' }))) ks out'
    row_leaf n s' m =
        let g = leaf_says m in
        let w = g.0 in
        let o : RowStanding ≡ WrittenTo w (v.at.next + 1) (known_in ks) = g.1
        ∙ ap (λ (e : ℕ). WrittenTo w e (known_in ks)) (sym (add-one v.at.next)) in
        let l = walk_within (known_in ks) (items_of t) v.at.next
        (put_plain base base_open_from (below base base_open_from d)) w (v.at.next + 1) (known_in ks) o in
        record {
          met = record {
            says = record {
              written = w;
              says = o;
              puts = g.2;
              ready = record {
                among = record { within = l; few = x.ready.among.few };
                kept = x.ready.kept;
                references_few = omega (arith, x.ready.references_few);
              };
              onward = omega arith;
            };
          };
          held = (refl, λ v a t. no_holder n v a t);
        }
      where
        no_holder : NoHolderKind v.row.kind → (y : Value) → At (items_of t) v.at.next (Val y) → holding y ≡ true → ⊥
        no_holder n y a h = stands_either x.stands
            (λ i q b. let z : Val y ≡ i = cc in
            let f = ap (λ (j : Item). (item_row v.row.place v.row.after j).kind) z in
            ⊎_elim (λ l. omega (arith, holding_kind v.row.place v.row.after y h, f))
            (λ l. omega (arith, holding_kind v.row.place v.row.after y h, f)) n.other)
            (λ b. let z : ◌≡◌ {A = ℕ} 0 1 = cc in omega arith)

  -- no more may open
  pub row_full : 9 ≤ v.row.kind → v.row.kind ≤ 13 → d ≡ 0 → {n : NoRecord}
      → RowMet d (items_of t) ks v.at.next v.at.size.bytes out (Err n) ks out
  row_full l h e = record { met = record { says = go (item_at (content_at t.source) (row_of v.row)) refl }; held = tt }
    where
      go : (o : Option Item) → item_at (content_at t.source) (row_of v.row) ≡ o → RowStanding ≡ NoMessage
      go none q = plain_end base base_open_from (below base base_open_from d) (known_in ks) (items_of t) v.at.next
          (x.stands.lost q)
      go (some i) q =
          let z : (item_row v.row.place v.row.after i).kind ≡ v.row.kind =
          ap (λ (y : Row). y.kind) (claims_back (content_at t.source) (row_of v.row) i q).agrees in
          let y = holder_holds v.row.place v.row.after i (omega arith) (omega arith) in
          plain_full base base_open_from (below base base_open_from d) (known_in ks) (items_of t) v.at.next i
          (x.stands.item i q) y.0 y.1 (below_none base base_open_from d e) y.2

  -- a list, map or object
  abbrev Opening : Result ValueStart NoRecord → given.Known → List ℕ → Type 0
  Opening b ks' out' = InteriorSays
      (λ g. walk (put_plain base base_open_from (some g)) (known_in ks) (items_of t) v.at.next)
      (items_of t) (v.at.next + 1) v.at.size.bytes out b ks' out'

  pub row_holder : (d ≡ 0 → ⊥) → (b : Result ValueStart NoRecord) (ks' : given.Known) (out' : List ℕ)
      → HolderMet ks (items_of t) v.at.next v.at.size.bytes out b ks' out'
      → RowMet d (items_of t) ks v.at.next v.at.size.bytes out b ks' out'
  row_holder z b ks' out' m =
      record { met = record { says = go b m.opens.says }; held = held b m.opens.says m.opens.bare m.at }
    where
      held : (b : Result ValueStart NoRecord) → Opening b ks' out' → BareIn (items_of t) (v.at.next + 1) b
          → HolderAt (items_of t) v.at.next b → HeldIn (items_of t) v.at.next b
      held (Ok (Past p)) o n a = absurd o
      held (Ok (Within x c)) o n a = (a, n)
      held (Err e) o n a = tt

      l : 0 < d
      l = omega arith

      inner : spelling.Put
      inner = put_value base base_open_from (d - 1)

      here : RowStanding ≡ walk (put_plain base base_open_from (some inner)) (known_in ks) (items_of t) v.at.next
      here = ap (λ (o : Option spelling.Put). walk (put_plain base base_open_from o) (known_in ks) (items_of t) v.at.next)
          (below_some base base_open_from d l)

      go : (b : Result ValueStart NoRecord) → Opening b ks' out'
          → BeginSays RowStanding d (items_of t) (v.at.next + 1) v.at.size.bytes out b ks' out'
      go (Ok (Past p)) z = absurd z
      go (Ok (Within x c)) z = record {
        written = z.written;
        says = here ∙ z.says inner (value_drops base base_open_from (d - 1));
        puts = z.puts;
        ready = z.ready;
        onward = z.onward;
        open_one = l;
      }
      go (Err e) z = here ∙ z inner (value_drops base base_open_from (d - 1))

closed_over : (c : Bool) (w : List ℕ) (e : ℕ) (a : Known) → closed c (WrittenTo w e a) ≡ WrittenTo (w ++ closing c) e a
closed_over true w e a = refl
closed_over false w e a = ap (λ (l : List ℕ). WrittenTo l e a) (sym (mathlib.Core.List.append-nil w))

-- ---- definitions, and then the row of a value
-- what is written of the value
abbrev ValueHere : (d : ℕ) (t : Lent) (k : ℕ) (ks : given.Known) → WritingAt
ValueHere d t k ks = walk (put_value base base_open_from d) (known_in ks) (items_of t) k

module _ (d : ℕ) {t : Lent} {k s : ℕ} {ks : given.Known} {out : List ℕ} {ks₁ : given.Known} {out₁ : List ℕ} where
  pub enter : {p : Turn} → FoundMet t k s ks out (Ok p) ks₁ out₁ → {ks₂ : given.Known} {out₂ : List ℕ} (b : ValueStart)
      → RowMet d (items_of t) ks₁ p.at.next p.at.size.bytes out₁ (Ok b) ks₂ out₂
      → EnterMet t.rows (ValueHere d t k ks) d (items_of t) k s out
      (Ok (record { start = b; after = p.row.after })) ks₂ out₂
  enter {p} m (Past x) z =
      let reached = m.says in
      let g = z.met.says in
      let h = z.held in
      record {
        says = (
          record {
            written = reached.written ++ g.written;
            says = reached.says base_open_from d ∙ ap (behind reached.written) g.says;
            puts = puts_on reached.puts g.puts;
            ready = g.ready;
            onward = omega (arith, reached.onward, g.onward);
          },
          λ j a l v c h'. split j p.at.next (λ i. absurd (reached.bare j a i v c))
              (λ i. let y : j ≡ p.at.next = omega (arith, h.0) in
              absurd (h.1 v (subst (λ (j : ℕ). At (items_of t) j (Val v)) y c) h')),
        );
      }
  enter {p} m {ks₂} (Within x c) z =
      let reached = m.says in
      let g = z.met.says in
      let h = z.held in
      record {
        says = (
          record {
            written = reached.written ++ g.written;
            says = reached.says base_open_from d ∙ ap (behind reached.written) g.says
                ∙ behind_behind reached.written g.written
                (closed c
                (walk (left (put_value base base_open_from (d - 1)) x.contents 0) (known_in ks₂) (items_of t) x.at.next));
            puts = puts_on reached.puts g.puts;
            ready = g.ready;
            onward = omega (arith, reached.onward, g.onward);
            open_one = g.open_one;
          },
          record {
            row = p.at.next;
            value = h.0.0;
            stands = h.0.1;
            last_is = ap (λ (y : Row). y.after) (sym reached.row_is);
            before = reached.bare;
            between = h.1;
            ends = λ w e' c' o. written_span base base_open_from d (known_in ks₁) (items_of t) p.at.next h.0.0 h.0.1
                (g.written ++ (w ++ closing c)) e' c'
                (g.says ∙ ap (λ (o : WritingAt). behind g.written (closed c o)) o
                ∙ ap (behind g.written) (closed_over c w e' c'));
          },
        );
      }

-- ---- the values of a list, map or object
-- i of them are written, up to the index k: what is left, behind the bytes so far, is the whole
pub record ValuesSoFar (t : Lent) (d : ℕ) (x : Contents) (from s₀ : ℕ) (ks₀ : given.Known) (out₀ : List ℕ)
    (ks : given.Known) (out : List ℕ) (k s i : ℕ) : Type 0 where
  pub written : List ℕ
  pub says : behind written (walk (left (put_value base base_open_from d) x i) (known_in ks) (items_of t) k) ≡ walk
      (left (put_value base base_open_from d) x 0) (known_in ks₀) (items_of t) from
  pub puts : Puts out₀ s₀ written out s
  pub ready : Writable (items_of t) ks k
  pub room : Room x i
  pub steps : from + i ≤ k
  pub rights : Rights t.rows (items_of t) from k

-- what is written of all of them
abbrev All : Lent → ℕ → Contents → ℕ → given.Known → WritingAt
All t d x from ks₀ = walk (left (put_value base base_open_from d) x 0) (known_in ks₀) (items_of t) from

pub running_start : {t : Lent} {ks₀ : given.Known} {from : ℕ} → Writable (items_of t) ks₀ from → (d : ℕ) (x : Contents)
    (s : Size) (out₀ : List ℕ) → ValuesSoFar t d x from s.bytes ks₀ out₀ ks₀ out₀ from s.bytes 0
running_start {t} {ks₀} {from} h d x s out₀ = record {
  written = [];
  says = behind_none (All t d x from ks₀);
  puts = puts_none out₀ s.bytes s.few;
  ready = h;
  room = room_first x;
  steps = omega arith;
  rights = λ j a b v y t. absurd (omega arith);
}

module _ {t : Lent} {d : ℕ} {x : Contents} {from s₀ : ℕ} {ks₀ : given.Known} {out₀ : List ℕ} {ks : given.Known}
    {out : List ℕ} (at : Progress) {i : ℕ} (R : ValuesSoFar t d x from s₀ ks₀ out₀ ks out at.next at.size.bytes i)
    {b : Bool} (e : b ≡ done x i) where
  pub values_stop : b ≡ true → ValuesMet t.rows (All t d x from ks₀) (items_of t) from s₀ out₀ (Ok at) ks out
  values_stop u = record {
    says = (
      record {
        written = R.written ++ [];
        says = sym R.says
            ∙ ap (behind R.written)
            (left_stop (put_value base base_open_from d) (value_drops base base_open_from d) (items_of t) x i
            (sym e ∙ u) (known_in ks) at.next R.ready.among.within);
        puts = puts_on R.puts (puts_none out at.size.bytes at.size.few);
        ready = R.ready;
        onward = omega (arith, R.steps);
      },
      R.rights,
    );
  }

  module _ (u : b ≡ false) where
    -- what is written of the next one
    abbrev Next : WritingAt
    Next = walk (put_value base base_open_from d) (known_in ks) (items_of t) at.next

    more : done x i ≡ false
    more = sym e ∙ u

    stuck : Next ≡ NoMessage → All t d x from ks₀ ≡ NoMessage
    stuck h = sym R.says
        ∙ ap (behind R.written)
        (left_stuck (put_value base base_open_from d) (value_drops base base_open_from d) (items_of t) x i more R.room
        (known_in ks) at.next h)

    -- one more is written, up to p
    next : (w : List ℕ) (p s' : ℕ) (ks' : given.Known) (out' : List ℕ) → Next ≡ WrittenTo w p (known_in ks')
        → Puts out at.size.bytes w out' s' → Writable (items_of t) ks' p → at.next + 1 ≤ p
        → Rights t.rows (items_of t) at.next p
        → ValuesSoFar t d x from s₀ ks₀ out₀ ks' out' p s' (i + 1)
    next w p s' ks' out' h u y l rights = record {
      written = R.written ++ w;
      says =
          sym (behind_behind R.written w
          (walk (left (put_value base base_open_from d) x (i + 1)) (known_in ks') (items_of t) p))
          ∙ ap (behind R.written)
          (sym (left_over (put_value base base_open_from d) (value_drops base base_open_from d) (items_of t) x i more
          R.room (known_in ks) at.next w p (known_in ks') h))
          ∙ R.says;
      puts = puts_on R.puts u;
      ready = y;
      room = room_next x i more R.room;
      steps = omega (arith, R.steps);
      rights = rights_on t.rows R.rights rights;
    }

    module _ {ks₁ : given.Known} {out₁ : List ℕ} where
      pub values_none : {n n' : NoRecord}
          → EnterMet t.rows Next d (items_of t) at.next at.size.bytes out (Err n) ks₁ out₁
          → ValuesMet t.rows (All t d x from ks₀) (items_of t) from s₀ out₀ (Err n') ks₁ out₁
      values_none m = record { says = inl (stuck m.says) }

      module _ (r : Entered) (m : EnterMet t.rows Next d (items_of t) at.next at.size.bytes out (Ok r) ks₁ out₁) where
        started : (b : ValueStart) → r.start ≡ b
            → EnterSays t.rows Next d (items_of t) at.next at.size.bytes out b r.after ks₁ out₁
        started b h = subst
            (λ (b : ValueStart). EnterSays t.rows Next d (items_of t) at.next at.size.bytes out b r.after ks₁ out₁) h m.says

        pub running_past : (p : Progress) → r.start ≡ Past p
            → ValuesSoFar t d x from s₀ ks₀ out₀ ks₁ out₁ p.next p.size.bytes (i + 1)
        running_past p h = let z = started (Past p) h in
            next z.0.written p.next p.size.bytes ks₁ out₁ z.0.says z.0.puts z.0.ready z.0.onward z.1

        module _ (y : Interior) (c : Bool) (h : r.start ≡ Within y c) where
          inner : ValuesLeft Next d (items_of t) (at.next + 1) at.size.bytes out y c ks₁ out₁
          inner = (started (Within y c) h).0

          holder : InteriorOf t.rows (items_of t) d at.next y.contents r.after y.at.next (known_in ks₁)
          holder = (started (Within y c) h).1

          -- what is written of the values inside
          abbrev InsideHere : WritingAt
          InsideHere =
              walk (left (put_value base base_open_from (d - 1)) y.contents 0) (known_in ks₁) (items_of t) y.at.next

          module _ {ks₂ : given.Known} {out₂ : List ℕ} where
            pub values_inner_none : {n n' : NoRecord}
                → ValuesMet t.rows InsideHere (items_of t) y.at.next y.at.size.bytes out₁ (Err n) ks₂ out₂
                → ValuesMet t.rows (All t d x from ks₀) (items_of t) from s₀ out₀ (Err n') ks₂ out₂
            values_inner_none v =
                record {
                  says =
                      ⊎_elim
                      (λ h. inl
                      (stuck (inner.says ∙ ap (λ (o : WritingAt). behind inner.written (closed c o)) h ∙ go c)))
                      (λ h. inr h)
                      v.says;
                }
              where
                go : (c : Bool) → behind inner.written (closed c NoMessage) ≡ NoMessage
                go true = refl
                go false = refl

            module _ (q : Progress)
                (v : ValuesMet t.rows InsideHere (items_of t) y.at.next y.at.size.bytes out₁ (Ok q) ks₂ out₂) where
              inside : WrittenUpTo InsideHere (items_of t) y.at.next y.at.size.bytes out₁ q ks₂ out₂
              inside = v.says.0

              -- where the list, map or object ends
              ends_there : holder.row + span (Val holder.value) (drop (suc holder.row) (items_of t)) ≡ q.next
              ends_there = holder.ends inside.written q.next (known_in ks₂) inside.says

              pub values_wrong : (q.next ≡ r.after → ⊥) → {n : NoRecord} (out₃ : List ℕ)
                  → ValuesMet t.rows (All t d x from ks₀) (items_of t) from s₀ out₀ (Err n) ks₂ out₃
              values_wrong w out₃ = record {
                says = inr (record {
                  row = holder.row;
                  value = holder.value;
                  stands = holder.stands;
                  other = λ e. w (sym ends_there ∙ sym e ∙ sym holder.last_is);
                });
              }

              pub running_within : q.next ≡ r.after → (out₃ : List ℕ) (s₃ : ℕ)
                  → Puts out₂ q.size.bytes (closing c) out₃ s₃
                  → ValuesSoFar t d x from s₀ ks₀ out₀ ks₂ out₃ q.next s₃ (i + 1)
              running_within w out₃ s₃ j =
                  next (inner.written ++ (inside.written ++ closing c)) q.next s₃ ks₂ out₃
                  (inner.says ∙ ap (λ (o : WritingAt). behind inner.written (closed c o)) inside.says
                  ∙ ap (behind inner.written) (closed_over c inside.written q.next (known_in ks₂)))
                  (puts_on inner.puts (puts_on inside.puts j)) inside.ready
                  (omega (arith, inner.onward, inside.onward))
                  (rights_on t.rows {p = holder.row} (λ j a b v x t. absurd (holder.before j a b v x))
                  (rights_on t.rows {p = holder.row + 1} here
                  (rights_on t.rows {p = y.at.next} (λ j a b v x t. absurd (holder.between j a b v x)) v.says.1)))
                where
                  here : Rights t.rows (items_of t) holder.row (holder.row + 1)
                  here j a b v x h =
                      let e : j ≡ holder.row = omega arith in
                      let o : Val v ≡ Val holder.value = let d = subst (λ (j : ℕ). At (items_of t) j (Val v)) e x in
                      let f = holder.stands in cc in
                      ap (λ (j : ℕ). (row_at t.rows j).after) e ∙ sym holder.last_is ∙ sym w ∙ sym ends_there
                      ∙ (λ i. sym e i + span (sym o i) (drop (suc (sym e i)) (items_of t)))

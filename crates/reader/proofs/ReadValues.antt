-- What the contracts of `begin` and `read_values` ask at each of their ways out.
use Rattle.std.proofs.Common.{Fits, w64, ◌≡◌, ℕ, suc, ◌+◌, ◌-◌, ◌≤◌, Bool, true, false, List, [], ◌∷◌, ◌++◌, length, sym, refl, ap, ◌∙◌, subst, ap₂, append-nil, arith, length-append}
use Rattle.std.specs.Prelude.{Result, Ok, Err, Some, None}
use Rattle.std.specs.declared.option.Option as code-option
use Rattle.scalar.specs.Scalars.{Floats}
use Rattle.scalar.specs.declared.refusals.Refused.{Refused}
use Rattle.flow.specs.Flow.{One, byte_at}
use Rattle.record.specs.declared.Group.{Group}
use Rattle.record.specs.declared.kinds.Kind.{Kind}
use Rattle.record.specs.declared.known.Known as code
use Rattle.record.specs.Model.KindNumbers.{kind_number}
use Rattle.record.specs.Model.Items.{Known}
use Rattle.record.specs.Model.Reading.{value_from}
use Rattle.record.specs.Model.Rows.{Row, row, item_row}
use Rattle.record.specs.Model.Answers.{base}
use Rattle.record.specs.ForReader.ReadingAt.{ReadingAt, ReadTo, run, front, on, topped}
use Rattle.record.proofs.ForReader.ReadingAt.{front_none, front_front, from_item}
use Rattle.record.specs.ForReader.ReadLoops.{rest, stops, past, parts}
use Rattle.record.proofs.ForReader.ReadLoops.{Room, room_first, room_next, past_within, rest_stop, rest_step}
use Rattle.record.proofs.ForReader.ReadDefinitions.{value_plain}
use Rattle.record.specs.Laws.KnownLaws.{known_in}
use Rattle.reader.specs.declared.Spot.{Spot}
use Rattle.reader.specs.declared.heads.TypeItem.{TypeItem}
use Rattle.reader.specs.declared.heads.Leaf.{Leaf}
use Rattle.reader.specs.declared.heads.Head.{Head}
use Rattle.reader.specs.declared.heads.Head.TheVariants as head
use Rattle.reader.specs.declared.values.Holder.{Holder}
use Rattle.reader.specs.declared.values.Beginning.{Beginning}
use Rattle.reader.specs.declared.values.ValuesRead.{ValuesRead}
use Rattle.reader.specs.Slots.{Keeping, Swaps}
use Rattle.reader.specs.Promises.{lost, ReadyAt, ReadsRows, ReadsOne, headed_by, type_of, type_rows}
use Rattle.reader.specs.Promises.{leaf_row, LeafFits, KeepsLeaf, holder_read, holder_item, read_by_head, HeadIs, NoDefinition, HeadAtMet}
use Rattle.reader.specs.Promises.{DefinitionReadMet, OpensHolder, ReadsToValues, BegunSays}
use Rattle.reader.specs.Promises.{BeginningMet, ValuesAre, ValuesReadMet}
use Rattle.reader.proofs.ClassDefinitions.{ReadingDefinitions, definitions_refused}
use Rattle.reader.proofs.ClassDefinitions.{definitions_more}
use Rattle.reader.proofs.KeptRows.{stores_single, stores_on, stores_top, reads_none, reads_on}

-- ---- begin, after the definitions up to s
module _ {K : Keeping} {m t₀ : List ℕ} {ks₀ : code.Known} {s₀ : Spot} {t : List ℕ} {ks : code.Known} {s : Spot}
    (R : ReadingDefinitions K m t₀ ks₀ s₀ t ks s) {d : ℕ} where
  -- by the head of the value there
  by_head : (h : Result Head Refused) → HeadIs m (known_in ks) s.at d h → NoDefinition m s.at
      → run (byte_at (value_from Floats base d)) (known_in ks₀) m s₀.at
      ≡ front R.some (read_by_head m (known_in ks) s.at d h)
  by_head h z u = sym (R.says d) ∙ ap (front R.some) (value_plain base d (known_in ks) m s.at u ∙ z.says)

  pub begin_refused : (r : Refused) → HeadAtMet m (known_in ks) s.at d (Err r) → BeginningMet K m t₀ ks₀ s₀ d (Err r) t ks
  begin_refused r z = record { says = by_head (Err r) z.says.0 z.says.1 }

  -- a definition
  module _ (z : HeadAtMet m (known_in ks) s.at d (Ok head.Definition)) {t' : List ℕ} {ks' : code.Known} where
    pub begin_undefined : (r : Refused) → DefinitionReadMet K m t ks s (Err r) t' ks'
        → BeginningMet K m t₀ ks₀ s₀ d (Err r) t' ks'
    begin_undefined r i = record { says = definitions_refused R z.says r i d }

    pub begin_more : {s' : Spot} → DefinitionReadMet K m t ks s (Ok s') t' ks'
        → ReadingDefinitions K m t₀ ks₀ s₀ t' ks' s'
    begin_more i = definitions_more R z.says i

  -- a value that holds no others
  module _ {x : Leaf} (z : HeadAtMet m (known_in ks) s.at d (Ok (head.Leaf x))) where
    pub leaf_fits : Fits w64 (length m) → LeafFits m s x
    leaf_fits f = record {
      row = z.says.0.named (s.row + 1);
      few = let g = z.says.0.goes in omega (arith, g.0, g.1, R.reads.ready.rows_few, f.fits);
    }

    pub begin_leaf : {b : Beginning} {t' : List ℕ} → KeepsLeaf K m t s x b t' → BeginningMet K m t₀ ks₀ s₀ d (Ok b) t' ks
    begin_leaf {t' = t'} h =
        let g = z.says.0.goes in
        let w = R.reads.ready in
        let next : Spot = record { at = x.next; row = s.row + 1 } in
        let leaf = leaf_row s.at x 1 ∷ [] in
        let one : ReadsRows K m t s next t' ks leaf = record {
          counted = omega arith;
          stores = stores_single K m h.keeps;
          onward = omega (arith, g.0);
          ready = record {
            at = record { bytes = w.at.bytes; within = g.1 };
            kept = w.kept;
            rows_few = omega (arith, w.rows_few, g.0);
            references_few = omega (arith, w.references_few, g.0);
          };
        } in
        rw h.is (record {
          says = record {
            rows = R.some ++ leaf;
            says = by_head (Ok (head.Leaf x)) z.says.0 z.says.1;
            reads = reads_on K m R.reads one;
            forward = omega (arith, R.reads.onward, g.0);
          };
        })

  -- a list, map or object
  module _ {g : Group} {q : ℕ} {of : TypeItem} (z : HeadAtMet m (known_in ks) s.at d (Ok (head.Holder g q of))) where
    pub begin_holder : {b : Beginning} {t' : List ℕ} {ks' : code.Known} → OpensHolder K m t ks s g q of b t' ks'
        → BeginningMet K m t₀ ks₀ s₀ d (Ok b) t' ks'
    begin_holder {b} {t'} {ks'} o = record { says = rw (o.holder, o.next) met }
      where
        met : BegunSays K (run (byte_at (value_from Floats base d)) (known_in ks₀) m s₀.at) m t₀ s₀ d
            (Some (record { spot = s; group = g; type_number = type_of ks.types of }))
            (record { at = q; row = s.row + 1 + length (type_rows (s.at + 1) of) }) t' ks'
        met =
            let y = z.says.0.goes in
            let v = R.reads.ready in
            let w = o.entered in
            let number = type_of ks.types of in
            let ys = type_rows (s.at + 1) of in
            record {
              before = R.some;
              inner = ys;
              says =
                  by_head (Ok (head.Holder g q of)) z.says.0 z.says.1
                  ∙ ap (λ (c : Known). front R.some (holder_read m c s.at (d - 1) g q ys number)) (sym w.known);
              first = R.reads.counted;
              counted = refl;
              between = t;
              stores_before = R.reads.stores;
              stores = o.stores;
              onward = R.reads.onward;
              deeper = omega (arith, y.2);
              open_one = y.0;
              ready = record {
                at = record { bytes = v.at.bytes; within = y.3 };
                kept = w.kept;
                rows_few = omega (arith, y.2, v.rows_few);
                references_few = omega (arith, w.references, v.references_few, y.2);
              };
            }

-- ---- a value, when the values inside it are read
module _ {K : Keeping} (S : Swaps K) {o : ReadingAt One} {m t : List ℕ} {s : Spot} {d : ℕ}
    {h : Holder} {s₁ : Spot} {t₁ : List ℕ} {ks₁ : code.Known}
    (x : ReadsToValues K o m t s d h s₁ t₁ ks₁) where
  -- what the values inside read as
  abbrev ValuesInside : ReadingAt ℕ
  ValuesInside = run (rest (value_from Floats base (d - 1)) h.group 0) (known_in ks₁) m s₁.at

  -- what the whole reads as, by them
  abbrev outside : ReadingAt ℕ → ReadingAt One
  outside z = front x.before (topped h.spot.at (headed_by h.group h.type_number) (front x.inner z))

  holder_reads : {v : ValuesRead} {t₂ : List ℕ} {ks₂ : code.Known} → ValuesAre K ValuesInside m t₁ s₁ h.group v t₂ ks₂
      → {t₃ : List ℕ} → t₃ ≡ K m t₂ h.spot.row (item_row h.spot.at v.next.row (holder_item h v.count))
      → ReadsOne K o m t s v.next t₃ ks₂
  holder_reads {v} {t₂} {ks₂} w {t₃} top =
      let rs = x.inner ++ w.rows in
      let head = holder_item h v.count in
      let it = item_row h.spot.at (suc (length rs)) head in
      let all : v.next.row ≡ h.spot.row + suc (length rs) =
      omega (arith, w.reads.counted, x.counted, length-append x.inner w.rows) in
      let within = stores_on K m x.stores x.counted w.reads.stores in
      let same =
      ap (λ (z : ℕ). item_row h.spot.at z head) all ∙ sym (from_item h.spot.row h.spot.at (suc (length rs)) head) in
      record {
        rows = x.before ++ (it ∷ rs);
        says = x.says ∙ ap outside w.says;
        reads = record {
          counted = omega (
            arith,
            w.reads.counted,
            x.counted,
            x.first,
            length-append x.before (it ∷ rs),
            length-append x.inner w.rows,
          );
          stores = stores_on K m x.stores_before x.first
              (stores_top K m S it within (top ∙ ap (K m t₂ h.spot.row) same));
          onward = omega (arith, x.onward, x.deeper, w.reads.onward);
          ready = w.reads.ready;
        };
        forward = omega (arith, x.onward, x.deeper, w.reads.onward);
      }

-- ---- the loop over the values of a group: `rows` are those so far, and with them in front what is left reads as the
-- whole does
pub record ReadingValues
    (K : Keeping) (m t₀ : List ℕ) (ks₀ : code.Known)
    (s₀ : Spot) (g : Group) (d : ℕ)
    (t : List ℕ) (ks : code.Known) (s : Spot) (i : ℕ) : Type 0 where
  pub steps : i ≤ s.at
  pub room : Room g i
  pub rows : List Row
  pub reads : ReadsRows K m t₀ s₀ s t ks rows
  pub left :
      front rows (run (rest (value_from Floats base d) g i) (known_in ks) m s.at)
      ≡ run (rest (value_from Floats base d) g 0) (known_in ks₀) m s₀.at

pub values_start : (K : Keeping) (m t : List ℕ) (ks : code.Known) (s : Spot) (g : Group) (d : ℕ) → ReadyAt m ks s
    → ReadingValues K m t ks s g d t ks s 0
values_start K m t ks s g d w = record {
  steps = omega arith;
  room = room_first g;
  rows = [];
  reads = reads_none K m t ks s w;
  left = front_none (run (rest (value_from Floats base d) g 0) (known_in ks) m s.at);
}

module _ {K : Keeping} {m t₀ : List ℕ} {ks₀ : code.Known} {s₀ : Spot} {g : Group} {d : ℕ}
    {t : List ℕ} {ks : code.Known} {s : Spot} {i : ℕ}
    (R : ReadingValues K m t₀ ks₀ s₀ g d t ks s i)
    {z : Bool} (is : z ≡ stops m g i s.at) where
  -- what all of them read as, and the next one
  abbrev Whole : ReadingAt ℕ
  Whole = run (rest (value_from Floats base d) g 0) (known_in ks₀) m s₀.at

  abbrev Next : ReadingAt One
  Next = run (byte_at (value_from Floats base d)) (known_in ks) m s.at

  -- none is left
  pub values_stop : z ≡ true → (q : ℕ) → q ≡ past g s.at
      → ValuesReadMet K m t₀ ks₀ s₀ g d (Ok (record { next = record { at = q; row = s.row }; count = i })) t ks
  values_stop y q e =
      let w = past_within m g i s.at (sym is ∙ y) R.reads.ready.at.within in
      let v = R.reads.ready in
      record {
        says = record {
          rows = R.rows;
          says =
              sym R.left
              ∙ ap (λ (x : ReadingAt ℕ). front R.rows x)
              (rest_stop (value_from Floats base d) m (known_in ks) g i s.at (sym is ∙ y))
              ∙ ap₂ (λ (x : ℕ) (rs : List Row). ReadTo x (parts g i) rs (known_in ks)) (sym e) (append-nil R.rows);
          reads = record {
            counted = R.reads.counted;
            stores = R.reads.stores;
            onward = omega (arith, R.reads.onward, w.0);
            ready = record {
              at = record { bytes = v.at.bytes; within = omega (arith, w.1) };
              kept = v.kept;
              rows_few = omega (arith, w.0, v.rows_few);
              references_few = omega (arith, w.0, v.references_few);
            };
          };
        };
      }

  module _ (no : z ≡ false) where
    -- one more value, as it was read
    step : (o : ReadingAt One) → Next ≡ o
        → front R.rows (on o (λ e u c. run (rest (value_from Floats base d) g (i + 1)) c m e)) ≡ Whole
    step o q =
        ap (λ (x : ReadingAt One). front R.rows
        (on x (λ e u c. run (rest (value_from Floats base d) g (i + 1)) c m e)))
        (sym q)
        ∙ ap (λ (x : ReadingAt ℕ). front R.rows x)
        (sym (rest_step (value_from Floats base d) m (known_in ks) g i s.at (sym is ∙ no) R.room))
        ∙ R.left

    values_lost : (r : Refused) → Next ≡ lost r
        → (t' : List ℕ) (ks' : code.Known) → ValuesReadMet K m t₀ ks₀ s₀ g d (Err r) t' ks'
    values_lost r e t' ks' = record { says = sym (step (lost r) e) }

    values_next : {s' : Spot} {t' : List ℕ} {ks' : code.Known} → ReadsOne K Next m t s s' t' ks'
        → ReadingValues K m t₀ ks₀ s₀ g d t' ks' s' (i + 1)
    values_next {s'} {ks' = ks'} w =
        let then = run (rest (value_from Floats base d) g (i + 1)) (known_in ks') m s'.at in
        record {
          steps = omega (arith, w.forward, R.steps);
          room = room_next m g i s.at (sym is ∙ no) R.room;
          rows = R.rows ++ w.rows;
          reads = reads_on K m R.reads w.reads;
          left = sym (front_front R.rows w.rows then) ∙ step (ReadTo s'.at tt w.rows (known_in ks')) w.says;
        }

    pub values_refused : {t₁ : List ℕ} {ks₁ : code.Known} (r : Refused) → BeginningMet K m t ks s d (Err r) t₁ ks₁
        → ValuesReadMet K m t₀ ks₀ s₀ g d (Err r) t₁ ks₁
    values_refused {t₁} {ks₁} r a = values_lost r a.says t₁ ks₁

    module _ {b : Beginning} {t₁ : List ℕ} {ks₁ : code.Known} (a : BeginningMet K m t ks s d (Ok b) t₁ ks₁) where
      begun_says : {o : code-option.Option Holder} → b.holder ≡ o → BegunSays K Next m t s d o b.next t₁ ks₁
      begun_says e = subst (λ (o : code-option.Option Holder). BegunSays K Next m t s d o b.next t₁ ks₁) e a.says

      pub values_leaf : b.holder ≡ None → ReadingValues K m t₀ ks₀ s₀ g d t₁ ks₁ b.next (i + 1)
      values_leaf e = values_next (begun_says e)

      module _ {h : Holder} (e : b.holder ≡ Some h) where
        inner_of : ReadsToValues K Next m t s d h b.next t₁ ks₁
        inner_of = begun_says e

        module _ {t₂ : List ℕ} {ks₂ : code.Known} where
          pub values_inner_refused : (r : Refused) → ValuesReadMet K m t₁ ks₁ b.next h.group (d - 1) (Err r) t₂ ks₂
              → ValuesReadMet K m t₀ ks₀ s₀ g d (Err r) t₂ ks₂
          values_inner_refused r w =
              values_lost r (inner_of.says ∙ ap (λ (z : ReadingAt ℕ). front inner_of.before
              (topped h.spot.at (headed_by h.group h.type_number) (front inner_of.inner z))) w.says) t₂ ks₂

          pub values_inner : {v : ValuesRead} → ValuesReadMet K m t₁ ks₁ b.next h.group (d - 1) (Ok v) t₂ ks₂
              → Swaps K → {t₃ : List ℕ}
              → t₃ ≡ K m t₂ h.spot.row (item_row h.spot.at v.next.row (holder_item h v.count))
              → ReadingValues K m t₀ ks₀ s₀ g d t₃ ks₂ v.next (i + 1)
          values_inner w S top = values_next (holder_reads S inner_of w.says top)

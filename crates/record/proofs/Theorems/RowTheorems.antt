-- The theorems over rows: what the writer makes of the rows that it is handed, and of a message's own rows.
use Rattle.std.proofs.Math.Path.{◌≡◌, refl}
use Rattle.std.proofs.Common.{sym, ◌∙◌, ap, ap₂, subst, arith, le-ltb, ltb-false}
use Rattle.std.specs.Prelude.{◌↔◌, List, [], ◌∷◌, ◌++◌, ℕ, suc, ◌+◌, ◌≤◌, min, ltb, length, drop}
use Rattle.std.proofs.Math.Option.{Option, none, some}
use Rattle.flow.specs.Flow.{pick, Bytes, Entry, Outcome, Done, Fault, One, items, byte_at}
use Rattle.flow.specs.Tests.{pick_false, pick_either}
use Rattle.flow.specs.Laws.{leads_byte}
use Rattle.scalar.specs.declared.Sort.TheVariants as sort
use Rattle.scalar.specs.declared.Encoding.{Encoding}
use Rattle.scalar.specs.declared.Encoding.TheVariants.{Utf8, Binary}
use Rattle.scalar.specs.Scalars.{string_from, string_at, Num, Str}
use Rattle.scalar.specs.Answers.{content_read}
use Rattle.scalar.specs.Grammar.{String, a_string}
use Rattle.scalar.proofs.TextLaws.{string_makes}
use Rattle.scalar.specs.Scalars.{DoubleRule, Floats}
use Rattle.record.specs.Model.Items.{Leaf, UntypedList, TypedList, UntypedMap, TypedMap, Object, Reference, Item}
use Rattle.record.specs.Model.Items.{Val, Definition, ClassName, FieldName, TypeName, TypeNumber, Known, start}
use Rattle.record.specs.Model.Items.{Limits}
use Rattle.record.specs.Model.Reading.{message}
use Rattle.record.specs.Model.Rows.{Row, item_row, rows_from, rows}
use Rattle.record.specs.Model.Claims.{content_of, content_at, ClaimItems, no_rows, a_row, ClaimAll}
use Rattle.record.proofs.Laws.RowLaws.{item_moved}
use Rattle.record.specs.Model.Shortest.{spell}
use Rattle.record.specs.Model.Answers.{judged, shortest_of, Wrote}
use Rattle.record.specs.Model.Terms.{write, Has, Accepted, Reads}
use Rattle.record.proofs.Laws.Meaning.{message_all}
use Rattle.record.proofs.Theorems.ItemTheorems.{no_longer, reads_back}
use Rattle.record.proofs.Laws.Forest.{Stands, SpeltByEither, Opens}
use Rattle.record.proofs.Laws.Places.{EntriesOpen, places}
use Rattle.record.proofs.Laws.Spans.{own_fifths}
use Rattle.flow.specs.Flow.{on_some}
use Rattle.record.specs.Laws.Claimed.{record_of}
use Rattle.record.proofs.Laws.Claimed.{all_claimed, claims_exactly}

-- ---- the writer, of any rows
module _ (ℓ : Limits) (open_from : ℕ) (most : open_from ≤ 48) (source : List ℕ) (r : List Row) where
  -- no message that has the record claimed is shorter than the one written
  pub rows_no_longer : (m : List ℕ) → Has ℓ source r m → (w : List ℕ) ×
      (shortest_of ℓ open_from (content_at source) r ≡ some w) × (length w ≤ length m)
  unfolding shortest_of
  rows_no_longer m x = let p = no_longer ℓ open_from most m x.the_record x.read_as in
      (p.0, rw (all_claimed (content_at source) x.claimed) p.1, p.2)

  -- the message written has the record claimed
  pub rows_back : (w : List ℕ) → shortest_of ℓ open_from (content_at source) r ≡ some w → Has ℓ source r w
  unfolding shortest_of
  rows_back w e = go (record_of (content_at source) r) refl e
    where
      go : (o : Option (List Item)) → record_of (content_at source) r ≡ o → on_some (spell ℓ open_from) o ≡ some w
          → Has ℓ source r w
      go none q e = absurd (let z : ◌≡◌ {A = ℕ} 0 1 = cc in omega arith)
      go (some is) q e = record {
        the_record = is;
        claimed = (claims_exactly (content_at source) r is).1 q;
        read_as =
            reads_back ℓ open_from most is w e;
      }

  -- there is none exactly when no message has the record claimed: the cause of refusal 10
  pub rows_none : (shortest_of ℓ open_from (content_at source) r ≡ none) ↔ ((m : List ℕ) → Has ℓ source r m → ⊥)
  rows_none = (
    λ e m x. let p = rows_no_longer m x in let q = p.1 in absurd (let z : ◌≡◌ {A = ℕ} 0 1 = cc in
        omega arith),
    λ h. go h (shortest_of ℓ open_from (content_at source) r) refl,
  )
    where
      go : ((m : List ℕ) → Has ℓ source r m → ⊥) → (o : Option (List ℕ))
          → shortest_of ℓ open_from (content_at source) r ≡ o → o ≡ none
      go h none e = refl
      go h (some w) e = absurd (h w (rows_back w e))

-- ---- a message's own rows claim its record
string_at_law : (k : Encoding) (m : List ℕ) (p : ℕ) (cs : List ℕ) → Stands (λ w. String k w cs) (drop p m)
    → content_read (string_at k m p) ≡ some cs
unfolding string_at
string_at_law k m p cs x =
    go ((leads_byte (string_from k) x.0 (string_makes One k x.3 (tt {0}))).makes (min p (length m)) x.1)
  where
    go : (es : List (Entry One)) × (byte_at (string_from {C = One} {I = One} k) (tt {0}) (min p (length m)) (x.0 ++ x.1)
        ≡ Done (length x.0) cs es (tt {0})) × (items es ≡ [])
        → content_read (byte_at (string_from {C = One} {I = One} k) (tt {0}) (min p (length m)) (drop p m)) ≡ some cs
    go y = rw (x.2, y.1) refl

spelt_string : (k : Encoding) (cs s : List ℕ) → Stands (λ w. SpeltByEither w (Str k cs)) s
    → Stands (λ w. String k w cs) s
spelt_string k cs s x = (x.0, x.1, x.2, go x.3)
  where
    go : {w : List ℕ} → SpeltByEither w (Str k cs) → String k w cs
    go (ρ, a_string y) = y

content_is : (m : List ℕ) (p e : ℕ) (i : Item) → Opens (drop p m) i → content_at m (item_row p e i).kind p
    ≡ some (content_of i)
unfolding content_at pick
content_is m p e (Val (Leaf (Num sort.Null v))) h = refl
content_is m p e (Val (Leaf (Num sort.False v))) h = refl
content_is m p e (Val (Leaf (Num sort.True v))) h = refl
content_is m p e (Val (Leaf (Num sort.Int v))) h = refl
content_is m p e (Val (Leaf (Num sort.Long v))) h = refl
content_is m p e (Val (Leaf (Num sort.Double v))) h = refl
content_is m p e (Val (Leaf (Num sort.Date v))) h = refl
content_is m p e (Val (Leaf (Str Utf8 cs))) h = string_at_law Utf8 m p cs (spelt_string Utf8 cs (drop p m) h)
content_is m p e (Val (Leaf (Str Binary cs))) h = string_at_law Binary m p cs (spelt_string Binary cs (drop p m) h)
content_is m p e (Val (UntypedList n)) h = refl
content_is m p e (Val (TypedList n t)) h = refl
content_is m p e (Val (UntypedMap n)) h = refl
content_is m p e (Val (TypedMap n t)) h = refl
content_is m p e (Val (Object k n)) h = refl
content_is m p e (Val (Reference k)) h = refl
content_is m p e (Definition n) h = refl
content_is m p e (ClassName cs) h = string_at_law Utf8 m p cs h
content_is m p e (FieldName cs) h = string_at_law Utf8 m p cs h
content_is m p e (TypeName cs) h = string_at_law Utf8 m p cs h
content_is m p e (TypeNumber k) h = refl

entries_claim : (m : List ℕ) (k : ℕ) (es : List (Entry Item)) → EntriesOpen m es
    → ClaimItems (content_at m) (rows_from k es) (items es)
entries_claim m k [] h = no_rows
entries_claim m k (e ∷ es) h =
    let s = item_moved e.place (k + e.span) e.place (k + e.span) e.item in
    let q = ap (λ (x : Row). x.place) s in
    a_row (record {
      agrees = ap₂ (λ (p f : ℕ). item_row p f e.item) q (ap (λ (x : Row). x.after) s);
      content = ap (λ (p : ℕ). content_at m (item_row e.place (k + e.span) e.item).kind p) q
          ∙ content_is m e.place (k + e.span) e.item h.1;
    }) (entries_claim m (suc k) es h.2)

-- a message's own rows claim the record that it reads as
module _ (ρ : DoubleRule) (ℓ : Limits) (m : List ℕ) (bytes : Bytes m) (n : ℕ) (es : List (Entry Item)) (c : Known)
    (e : message ρ ℓ start 0 m ≡ Done n tt es c) where
  pub own_rows : ClaimAll (content_at m) (rows es) (items es)
  own_rows = record
      { each = entries_claim m 0 es (places ρ ℓ m bytes n es c e); fifths = own_fifths ρ ℓ m bytes n es c e }

  pub own_record : record_of (content_at m) (rows es) ≡ some (items es)
  own_record = all_claimed (content_at m) own_rows

  pub own_reads : Reads ρ ℓ m (items es)
  own_reads = record { bytes = bytes; accepted = rw e refl }

-- ---- what the writer makes of a message's own rows
-- an accepted message is not longer than the ceiling
pub judged_done : (ρ : DoubleRule) (ℓ : Limits) (m : List ℕ) (n : ℕ) (es : List (Entry Item)) (c : Known)
    → judged ρ ℓ m ≡ Done n tt es c
    → (length m ≤ ℓ.longest) × (message ρ ℓ start 0 m ≡ Done n tt es c)
unfolding judged
judged_done ρ ℓ [] n es c e = absurd (let z : ◌≡◌ {A = ℕ} 0 1 = cc in omega arith)
judged_done ρ ℓ (b ∷ m) n es c e =
    pick_either (λ (o : Outcome Known Item One). o ≡ Done n tt es c → (length (b ∷ m) ≤ ℓ.longest)
    × (message ρ ℓ start 0 (b ∷ m) ≡ Done n tt es c)) (ltb ℓ.longest (length (b ∷ m)))
    (λ t q. absurd (let z : ◌≡◌ {A = ℕ} 0 1 = cc in omega arith)) (λ t q. (
      ltb-false ℓ.longest (length (b ∷ m)) t,
      q,
    )) e

pub done_judged : (ρ : DoubleRule) (ℓ : Limits) (m : List ℕ) (n : ℕ) (es : List (Entry Item)) (c : Known)
    → length m ≤ ℓ.longest
    → message ρ ℓ start 0 m ≡ Done n tt es c
    → judged ρ ℓ m ≡ Done n tt es c
unfolding judged message
done_judged ρ ℓ [] n es c l e = absurd (let z : ◌≡◌ {A = ℕ} 0 1 = cc in omega arith)
done_judged ρ ℓ (b ∷ m) n es c l e = pick_false _ _ (le-ltb ℓ.longest (length (b ∷ m)) l) ∙ e

module _ (ℓ : Limits) (open_from : ℕ) (most : open_from ≤ 48) where
  -- the message m, accepted with the entries es, is written anew from its rows
  pub record Rewritten (m : List ℕ) (es : List (Entry Item)) : Type 0 where
    pub written : List ℕ
    -- wherever there is room for it
    pub wrote : (lent : ℕ) → length written ≤ lent → write ℓ open_from lent m (rows es) ≡ Wrote written
    pub no_longer_than : length written ≤ length m
    -- it is accepted, and has the same record
    pub entries : List (Entry Item)
    pub known : Known
    pub reread : judged Floats ℓ written ≡ Done (length written) tt entries known
    pub same_record : record_of (content_at written) (rows entries) ≡ record_of (content_at m) (rows es)
    -- no message that has the same record is shorter
    pub shortest : (w : List ℕ) → Bytes w → (n : ℕ) (fs : List (Entry Item)) (c : Known)
        → message Floats ℓ start 0 w ≡ Done n tt fs c
        → record_of (content_at w) (rows fs) ≡ record_of (content_at m) (rows es)
        → length written ≤ length w

  -- demand 3: so is every message for which none of refusals 1 to 8 is given
  pub rewrites : (m : List ℕ) → Bytes m → (n : ℕ) (es : List (Entry Item)) (c : Known)
      → judged Floats ℓ m ≡ Done n tt es c
      → Rewritten m es
  unfolding write shortest_of
  rewrites m bytes n es c e = go (message Floats ℓ start 0 w) refl back.accepted
    where
      done : (length m ≤ ℓ.longest) × (message Floats ℓ start 0 m ≡ Done n tt es c)
      done = judged_done Floats ℓ m n es c e

      own : record_of (content_at m) (rows es) ≡ some (items es)
      own = own_record Floats ℓ m bytes n es c done.1

      short : (w : List ℕ) × (spell ℓ open_from (items es) ≡ some w) × (length w ≤ length m)
      short = no_longer ℓ open_from most m (items es) (own_reads Floats ℓ m bytes n es c done.1)

      w : List ℕ
      w = short.0

      back : Reads Floats ℓ w (items es)
      back = reads_back ℓ open_from most (items es) w short.1

      fits : length w ≤ ℓ.longest
      fits = omega (arith, short.2, done.0)

      least : (v : List ℕ) → Bytes v → (k : ℕ) (fs : List (Entry Item)) (c : Known)
          → message Floats ℓ start 0 v ≡ Done k tt fs c
          → record_of (content_at v) (rows fs) ≡ record_of (content_at m) (rows es)
          → length w ≤ length v
      least v b k fs c q same =
          let a = own_record Floats ℓ v b k fs c q in
          let is : items fs ≡ items es = cc (own) in
          let p = no_longer ℓ open_from most v (items fs) (own_reads Floats ℓ v b k fs c q) in
          let i = p.1 in
          let j = short.1 in
          let x : p.0 ≡ w = cc in
          omega (arith, p.2, ap length x)

      go : (o : Outcome Known Item One) → message Floats ℓ start 0 w ≡ o → Accepted (items es) o → Rewritten m es
      go (Fault x o) q a = absurd a
      go (Done k tt fs c') q a =
          let all = message_all Floats ℓ w back.bytes k tt fs c' q in
          record {
            written = w;
            wrote = λ lent l. pick_false _ _ (le-ltb ℓ.longest (length m) done.0)
                ∙ rw (own, short.1) (pick_false _ _ (le-ltb ℓ.longest (length w) fits)
                ∙ pick_false _ _ (le-ltb lent (length w) l));
            no_longer_than = short.2;
            entries = fs;
            known = c';
            reread =
                done_judged Floats ℓ w (length w) fs c' fits
                (subst (λ (z : ℕ). message Floats ℓ start 0 w ≡ Done z tt fs c') all q);
            same_record = own_record Floats ℓ w back.bytes k fs c' q ∙ ap {B = Option (List Item)} some a ∙ sym own;
            shortest = least;
          }

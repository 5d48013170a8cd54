-- Laws of whole files: sound versions, what a file that lists has, one entry more, a new file, where messages stand.
use Rattle.std.specs.Prelude.{◌≡◌, refl, ℕ, zero, suc, ◌+◌, ◌^◌, ◌≤◌, ◌<◌, ltb, drop}
use Rattle.std.proofs.Math.Path.{sym, ap}
use Rattle.std.proofs.Common.{◌∙◌, subst, arith, length-append, length-drop, drop-drop, length-take-le, ltb-false, le-ltb}
use mathlib.Core.List.{List, [], ◌∷◌, ◌++◌, append_assoc, append-nil}
use Rattle.std.proofs.Math.Option.{Option, none, some}
use Rattle.std.proofs.Math.ListN.{length, take, get_elem?}
use Rattle.std.proofs.lemmas.List.{take-append-le, drop-append-le}
use Rattle.std.proofs.Math.Seq.{take-append-add}
use Rattle.flow.specs.Tests.{pick_true, pick_false, pick_either}
use Rattle.flow.specs.OverlayLaws.{stored_in}
use Rattle.flow.specs.Flow.{same_list, stored}
use Rattle.wire.specs.BigEndian.{joined}
use Rattle.record.proofs.Laws.Answering.{never}
use Rattle.holdings.specs.Files.{Rules, Versions, versions, newest_version, rules_of, mark, mark_size, version_size}
use Rattle.holdings.specs.Files.{header_size, length_size, header, entry_of, entry_size, entries_in, Listing, Lists}
use Rattle.holdings.specs.Files.{fault_of, lists_from, version_in, lists_by, listing_of, listing}
use Rattle.holdings.specs.Answers.{Placement, placement, placements, as_pairs, as_pair_bytes}
use Rattle.holdings.specs.Terms.{Messages, Distinct, SoundRules, SoundVersions, SoundLayout, StandsAt}
use Rattle.holdings.specs.EntryLaws.{Entries, wholes}
use Rattle.holdings.proofs.EntryLaws.{same_is, same_self, wholes_append, distinct_none}
use Rattle.holdings.proofs.EntryLaws.{entries_none, entries_empty, EntryFirst, entries_first, entries_append}
use Rattle.holdings.proofs.EntryLaws.{entries_one, lists_are, lists_more, lists_distinct}

-- ---- versions
pub versions_sound : SoundVersions versions
versions_sound = record { each = each; few = omega arith }
  where
    each : (v : ℕ) (R : Rules) → rules_of versions v ≡ some R → SoundRules R
    each zero R e = never cc
    each (suc zero) R e =
        let q : versions.newest ≡ R = cc in
        subst SoundRules q (record { most = omega arith; writable = omega arith })
    each (suc (suc v)) R e = never cc

pub newest_is : (vs : Versions) → rules_of vs (newest_version vs) ≡ some vs.newest
newest_is vs = go vs.older
  where
    go : (l : List Rules) → get_elem? (l ++ (vs.newest ∷ [])) (length l) ≡ some vs.newest
    go [] = refl
    go (R ∷ l) = go l

pub newest_sound : (vs : Versions) → SoundVersions vs → SoundRules vs.newest
newest_sound vs sound = sound.each (newest_version vs) vs.newest (newest_is vs)

-- where there is one version, its rules are the only ones
pub only_version : (vs : Versions) → vs.older ≡ [] → (v : ℕ) (R : Rules) → rules_of vs v ≡ some R → R ≡ vs.newest
only_version vs e zero R h = never cc
only_version vs e (suc v) R h = go v (ap (λ (l : List Rules). get_elem? (l ++ (vs.newest ∷ [])) v) (sym e) ∙ h)
  where
    go : (v : ℕ) → get_elem? (vs.newest ∷ []) v ≡ some R → R ≡ vs.newest
    go zero q = cc
    go (suc v) q = never cc

-- ---- what a file that lists has
pub record Listed (vs : Versions) (f : List ℕ) (R : Rules) (ms : Messages) : Type 0 where
  pub long : header_size ≤ length f
  pub marked : take mark_size f ≡ mark
  pub version : rules_of vs (joined 0 (take version_size (drop mark_size f))) ≡ some R
  pub entries : entries_in (drop header_size f) ≡ wholes ms
  pub lists : lists_from R header_size [] (wholes ms) ≡ Lists R ms

pub version_known : (vs : Versions) (f : List ℕ) (R : Rules) → version_in vs f ≡ some R
    → (header_size ≤ length f) × (rules_of vs (joined 0 (take version_size (drop mark_size f))) ≡ some R)
version_known vs f R = pick_either
    (λ (o : Option Rules). o ≡ some R
    → (header_size ≤ length f) × (rules_of vs (joined 0 (take version_size (drop mark_size f))) ≡ some R))
    (ltb (length f) header_size)
    (λ t g. never cc)
    (λ t g. (ltb-false (length f) header_size t, g))

module _ (vs : Versions) (f : List ℕ) (R : Rules) (ms : Messages) where
  pub listing_listed : listing_of vs f ≡ Lists R ms → Listed vs f R ms
  unfolding listing_of
  listing_listed = pick_either (λ (z : Listing). z ≡ Lists R ms → Listed vs f R ms) (same_list (take mark_size f) mark)
      (λ t. versioned (same_is (take mark_size f) mark t) (version_in vs f) refl)
      (λ t h. never cc)
    where
      versioned : take mark_size f ≡ mark → (o : Option Rules) → version_in vs f ≡ o → lists_by f o ≡ Lists R ms
          → Listed vs f R ms
      versioned e none q h = never cc
      versioned e (some S) q h =
          let x = lists_are S header_size [] (entries_in (drop header_size f)) R ms h in
          let y : wholes ms ≡ entries_in (drop header_size f) = ap wholes x.2 ∙ sym x.1 in
          record {
            long = (version_known vs f S q).0;
            marked = e;
            version = (version_known vs f S q).1 ∙ ap {B = Option Rules} some (sym x.3);
            entries = sym y;
            lists = (λ i. lists_from (x.3 i) header_size [] (y i)) ∙ h;
          }

  pub listed_listing : Listed vs f R ms → listing_of vs f ≡ Lists R ms
  unfolding listing_of
  listed_listing x =
      let v : version_in vs f ≡ some R = pick_false none (rules_of vs (joined 0 (take version_size (drop mark_size f))))
      (le-ltb (length f) header_size x.long) ∙ x.version in
      pick_true _ _ (ap (λ (s : List ℕ). same_list s mark) x.marked ∙ same_self mark)
      ∙ ap (lists_by f) v ∙ ap (lists_from R header_size []) x.entries ∙ x.lists

  -- its messages are all different; its rules are sound
  pub listed_distinct : Listed vs f R ms → Distinct ms
  listed_distinct x = lists_distinct R header_size [] (wholes ms) R ms x.lists distinct_none

  pub listed_sound : SoundVersions vs → Listed vs f R ms → SoundRules R
  listed_sound sound x = sound.each (joined 0 (take version_size (drop mark_size f))) R x.version

  -- one entry more
  pub listed_more : (w : List ℕ) → Listed vs f R ms → fault_of R ms w ≡ 0 → length w < 2 ^ 32
      → Listed vs (f ++ entry_of w) R (ms ++ (w ∷ []))
  listed_more w x h l =
      let n = length-append f (entry_of w) in
      let long = x.long in
      let d = length-drop mark_size f in
      let a : wholes (ms ++ (w ∷ [])) ≡ wholes ms ++ wholes (w ∷ []) = wholes_append ms (w ∷ []) in
      record {
        long = omega arith;
        marked = take-append-le mark_size f (entry_of w) (omega arith) ∙ x.marked;
        version =
            ap (λ (s : List ℕ). rules_of vs (joined 0 (take version_size s)))
            (drop-append-le mark_size f (entry_of w) (omega arith))
            ∙ ap (λ (s : List ℕ). rules_of vs (joined 0 s))
            (take-append-le version_size (drop mark_size f) (entry_of w) (omega arith))
            ∙ x.version;
        entries =
            ap entries_in (drop-append-le header_size f (entry_of w) x.long)
            ∙ entries_append ms (drop header_size f) (entry_of w) x.entries
            ∙ ap (λ (l : Entries). wholes ms ++ l) (entries_one w l)
            ∙ sym a;
        lists = ap (lists_from R header_size []) a ∙ lists_more R header_size [] ms w x.lists h;
      }

-- a new file
pub listed_new : (vs : Versions) → SoundVersions vs → Listed vs (header vs) vs.newest []
listed_new vs sound = record {
  long = omega arith;
  marked = refl;
  version =
      let e : joined 0 (take version_size (drop mark_size (header vs))) ≡ newest_version vs = omega (arith, sound.few) in
      ap (rules_of vs) e ∙ newest_is vs;
  entries = entries_none;
  lists = refl;
}

-- ---- a file, by its buffer and its used length
module _ (vs : Versions) (file : List ℕ) (used : ℕ) (R : Rules) (ms : Messages) where
  pub listing_within : listing vs file used ≡ Lists R ms → (used ≤ length file) × Listed vs (take used file) R ms
  unfolding listing
  listing_within = pick_either
      (λ (z : Listing). z ≡ Lists R ms → (used ≤ length file) × Listed vs (take used file) R ms)
      (ltb (length file) used)
      (λ t h. never cc)
      (λ t h. (ltb-false (length file) used t, listing_listed vs (take used file) R ms h))

  pub within_listing : used ≤ length file → Listed vs (take used file) R ms → listing vs file used ≡ Lists R ms
  unfolding listing
  within_listing l x = pick_false _ _ (le-ltb (length file) used l) ∙ listed_listing vs (take used file) R ms x

  -- it has a header
  pub listing_used : listing vs file used ≡ Lists R ms → header_size ≤ used
  listing_used h =
      let x = listing_within h in
      omega (arith, x.1.long, length-take-le used file x.0)

-- the used bytes after more are stored behind them
pub stored_front : (file : List ℕ) (used : ℕ) (new : List ℕ) → used + length new ≤ length file
    → take (used + length new) (stored file used new) ≡ take used file ++ new
stored_front file used new l =
    let n : length (take used file) ≡ used = length-take-le used file (omega arith) in
    let rest = drop (used + length new) file in
    let e : used + length new ≡ length (take used file ++ new) + 0 =
    omega (arith, length-append (take used file) new) in
    ap (take (used + length new)) (stored_in file used new l ∙ sym (append_assoc (take used file) new rest))
    ∙ ap (λ (k : ℕ). take k (take used file ++ new ++ rest)) e
    ∙ take-append-add (take used file ++ new) rest 0
    ∙ append-nil (take used file ++ new)

-- ---- where each message stands
-- the entries behind the first
pub entries_next : (f : List ℕ) (p : ℕ) (m : List ℕ) (os : Entries) → EntryFirst (drop p f) m os
    → entries_in (drop (p + (length_size + length m)) f) ≡ os
entries_next f p m os x =
    ap (λ (k : ℕ). entries_in (drop (p + (length_size + k)) f)) x.sized
    ∙ ap entries_in (sym (drop-drop (entry_size (drop p f)) p f))
    ∙ x.rest

-- a message stands at the place listed, with the length listed
pub stands : (f : List ℕ) (p : ℕ) (ms : Messages) → entries_in (drop p f) ≡ wholes ms
    → (i : ℕ) (m : List ℕ) → get_elem? ms i ≡ some m
    → (x : Placement) × (get_elem? (placements p ms) i ≡ some x) × StandsAt f x m
stands f p [] e i m q = never cc
stands f p (w ∷ ms) e zero m q =
    let y = entries_first (drop p f) w (wholes ms) e in
    let z : w ≡ m = cc in
    let d = length-drop p f in (
      placement (p + length_size) (length w),
      refl,
      record {
        sized = ap length z;
        inside = omega (arith, y.fits, y.sized);
        there =
            ap (take (length w)) (sym (drop-drop length_size p f))
            ∙ ap (λ (k : ℕ). take k (drop length_size (drop p f))) y.sized
            ∙ y.message
            ∙ z;
      },
    )
stands f p (w ∷ ms) e (suc i) m q =
    let y = entries_first (drop p f) w (wholes ms) e in
    stands f (p + (length_size + length w)) ms (entries_next f p w (wholes ms) y) i m q

-- whole entries take up the bytes
abbrev pub size_of : Messages → ℕ
size_of [] = 0
size_of (m ∷ ms) = length_size + length m + size_of ms

pub entries_size : (s : List ℕ) (ms : Messages) → entries_in s ≡ wholes ms → length s ≡ size_of ms
entries_size s [] e = ap length (entries_empty s e)
entries_size s (m ∷ ms) e =
    let x = entries_first s m (wholes ms) e in
    let n = length-drop (entry_size s) s in
    let rest = entries_size (drop (entry_size s) s) ms x.rest in
    omega (arith, x.fits, x.sized)

pub length_placements : (p : ℕ) (ms : Messages) → length (placements p ms) ≡ length ms
length_placements p [] = refl
length_placements p (m ∷ ms) = ap suc (length_placements (p + (length_size + length m)) ms)

-- the layouts of lists
pub pairs_sound : SoundLayout as_pairs
pairs_sound = record { wide = omega arith; sized = λ x. refl }

pub pair_bytes_sound : SoundLayout as_pair_bytes
pair_bytes_sound = record { wide = omega arith; sized = λ x. refl }

-- earlier messages keep their places when more follow
pub placements_more : (p : ℕ) (ms ns : Messages) (i : ℕ) (m : List ℕ) → get_elem? ms i ≡ some m
    → get_elem? (placements p (ms ++ ns)) i ≡ get_elem? (placements p ms) i
placements_more p [] ns i m e = never cc
placements_more p (x ∷ ms) ns zero m e = refl
placements_more p (x ∷ ms) ns (suc i) m e = placements_more (p + (length_size + length x)) ms ns i m e

-- a message behind whole entries stands at the end of them
pub placements_last : (f : List ℕ) (p : ℕ) (ms : Messages) (m : List ℕ) → p ≤ length f
    → entries_in (drop p f) ≡ wholes ms
    → get_elem? (placements p (ms ++ (m ∷ []))) (length ms) ≡ some (placement (length f + length_size) (length m))
placements_last f p [] m l e =
    let z : length (drop p f) ≡ 0 = ap length (entries_empty (drop p f) e) in
    let q : p ≡ length f = omega (arith, z, length-drop p f) in
    ap (λ (k : ℕ). some (placement (k + length_size) (length m))) q
placements_last f p (x ∷ ms) m l e =
    let y = entries_first (drop p f) x (wholes ms) e in
    placements_last f (p + (length_size + length x)) ms m
    (omega (arith, y.sized, y.fits, length-drop p f))
    (entries_next f p x (wholes ms) y)

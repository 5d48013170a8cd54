-- Laws of a single addition: shortest messages, files that can be added to, what is behind an accepted addition, and
-- what it leaves.
use Rattle.std.specs.Prelude.{◌≡◌, ◌⊎◌, List, [], ◌∷◌, ◌++◌, ℕ, ◌+◌, ◌^◌, ◌≤◌, ◌<◌, eqb, ltb, length, take}
use Rattle.std.proofs.Math.Path.{refl, ap}
use Rattle.std.proofs.Common.{sym, ◌∙◌, subst, inl, inr, append-nil, arith, length-append, ltb-true, ltb-false, le-ltb, lt-ltb, eqb-true, eq-eqb, ne_eqb}
use Rattle.std.proofs.Math.Option.{Option, none, some}
use Rattle.std.proofs.Math.ListN.{get_elem?}
use Rattle.flow.specs.Tests.{split, pick_true, pick_false, pick_either}
use Rattle.flow.specs.OverlayLaws.{stored_before, stored_behind, length_stored, stored_sets}
use Rattle.flow.specs.Flow.{pick, on_some, Bytes, Entry, Outcome, Done, Fault, One, items, stored}
use Rattle.scalar.specs.Scalars.{Floats}
use Rattle.record.specs.Model.Items.{Item, Known}
use Rattle.record.specs.Model.Shortest.{spell}
use Rattle.record.specs.Model.Terms.{Accepts}
use Rattle.record.proofs.Laws.Answering.{never, reads_accepts}
use Rattle.record.proofs.Theorems.ItemTheorems.{no_longer, reads_back}
use Rattle.record.proofs.Theorems.RowTheorems.{judged_done, own_reads}
use Rattle.holdings.specs.Files.{Rules, Versions, reads_by, shortest_by, header_size, header, entry_of, Listing}
use Rattle.holdings.specs.Files.{Lists, Faulty, number_of, is_held, fault_of, listing}
use Rattle.holdings.specs.Answers.{Result, Accept, Refuse, Addition, begun, listing_to_extend, appended, added_short}
use Rattle.holdings.specs.Answers.{added_read, added_listed, addition}
use Rattle.holdings.specs.Terms.{Messages, Distinct, SoundRules, SoundVersions, ShortensTo, Extends}
use Rattle.holdings.proofs.EntryLaws.{number_within, number_found, number_last, distinct_none, Faultless, no_fault}
use Rattle.holdings.proofs.FileLaws.{newest_sound, Listed, listed_distinct, listed_sound, listed_more, listed_new}
use Rattle.holdings.proofs.FileLaws.{listing_within, within_listing, listing_used, stored_front}

-- ---- the shortest message of a record
bounded : (R : Rules) (o : Option (List ℕ)) (w : List ℕ)
    → on_some (λ v. pick (ltb R.limits.longest (length v)) none (some v)) o ≡ some w
    → (o ≡ some w) × (length w ≤ R.limits.longest)
bounded R none w = λ e. never cc
bounded R (some v) w = pick_either
    (λ (o : Option (List ℕ)). o ≡ some w → (some v ≡ some w) × (length w ≤ R.limits.longest))
    (ltb R.limits.longest (length v))
    (λ t e. never cc)
    (λ t e. let q : v ≡ w = cc in (e, omega (arith, ltb-false R.limits.longest (length v) t, ap length q)))

module _ (R : Rules) (r : List Item) (w : List ℕ) where
  -- it is what the writer spells, within the ceiling
  pub shortest_spelled : shortest_by R r ≡ some w
      → (spell R.limits R.open_from r ≡ some w) × (length w ≤ R.limits.longest)
  unfolding shortest_by
  shortest_spelled e = bounded R (spell R.limits R.open_from r) w e

  pub shortest_is : spell R.limits R.open_from r ≡ some w → length w ≤ R.limits.longest
      → shortest_by R r ≡ some w
  unfolding shortest_by
  shortest_is e l = ap (on_some (λ v. pick (ltb R.limits.longest (length v)) none (some v))) e
      ∙ pick_false none (some w) (le-ltb R.limits.longest (length w) l)

  module _ (sound : SoundRules R) (e : shortest_by R r ≡ some w) where
    -- it is accepted by the rules, and reads as the record
    pub shortest_accepts : Accepts Floats R.limits w r
    shortest_accepts =
        let s = shortest_spelled e in
        reads_accepts Floats R.limits w r s.1 (reads_back R.limits R.open_from sound.most r w s.0)

    -- so its entry has no fault where it is new
    pub shortest_faultless : (ms : Messages) → length ms ≤ number_of w ms → Faultless R ms w
    shortest_faultless ms l = record {
      own = record {
        count = length w;
        entries = shortest_accepts.entries;
        known = shortest_accepts.known;
        accepted = shortest_accepts.done;
        short = ap (shortest_by R) shortest_accepts.reads_record ∙ e;
      };
      new = l;
    }

-- the record of an accepted message has one, no longer than the message
pub shortest_some : (R : Rules) → SoundRules R → (m : List ℕ) → Bytes m
    → (n : ℕ) (es : List (Entry Item)) (c : Known) → reads_by R m ≡ Done n tt es c
    → (w : List ℕ) × (shortest_by R (items es) ≡ some w) × (length w ≤ length m)
shortest_some R sound m b n es c e =
    let d = judged_done Floats R.limits m n es c e in
    let reads = own_reads Floats R.limits m b n es c d.1 in
    let p = no_longer R.limits R.open_from sound.most m (items es) reads in
    (p.0, shortest_is R (items es) p.0 p.1 (omega (arith, d.0, p.2)), p.2)

-- none that is accepted and reads as the record is shorter
pub shortest_least : (R : Rules) → SoundRules R → (r : List Item) (w : List ℕ) → shortest_by R r ≡ some w
    → (m : List ℕ) → Bytes m → Accepts Floats R.limits m r → length w ≤ length m
shortest_least R sound r w e m b x =
    let y = shortest_some R sound m b (length m) x.entries x.known x.done in
    let is = ap (shortest_by R) (sym x.reads_record) ∙ y.1 in
    let q : y.0 ≡ w = cc in
    omega (arith, y.2, ap length q)

-- ---- a file that can be added to: a new one, or one that lists
module _ (vs : Versions) (file : List ℕ) (used : ℕ) where
  pub extend_new : used ≡ 0 → listing_to_extend vs file used ≡ Lists vs.newest []
  extend_new z = pick_true _ _ (eq-eqb used 0 z)

  pub extend_listing : (used ≡ 0 → ⊥) → listing_to_extend vs file used ≡ listing vs file used
  extend_listing z = pick_false _ _ (ne_eqb used 0 z)

  -- a file that lists is one
  pub extend_listed : (R : Rules) (ms : Messages) → listing vs file used ≡ Lists R ms
      → listing_to_extend vs file used ≡ Lists R ms
  extend_listed R ms e = extend_listing (λ z. omega (arith, listing_used vs file used R ms e)) ∙ e

  module _ (R : Rules) (ms : Messages) where
    -- what it is
    pub data Extendable : Type 0 where
      New : used ≡ 0 → R ≡ vs.newest → ms ≡ [] → Extendable
      Old : header_size ≤ used → used ≤ length file → Listed vs (take used file) R ms → Extendable

    pub extendable : listing_to_extend vs file used ≡ Lists R ms → Extendable
    extendable = pick_either (λ (l : Listing). l ≡ Lists R ms → Extendable) (eqb used 0)
        (λ t h. New (eqb-true used 0 t) (cc) (cc))
        (λ t h.
        let x = listing_within vs file used R ms h in
        Old (listing_used vs file used R ms h) x.0 x.1)

    module _ (e : listing_to_extend vs file used ≡ Lists R ms) where
      pub extend_within : used ≤ length file
      extend_within = go (extendable e)
        where
          go : Extendable → used ≤ length file
          go (New z q n) = omega arith
          go (Old h l x) = l

      pub extend_distinct : Distinct ms
      extend_distinct = go (extendable e)
        where
          go : Extendable → Distinct ms
          go (New z q n) = subst Distinct (sym n) distinct_none
          go (Old h l x) = listed_distinct vs (take used file) R ms x

      pub extend_sound : SoundVersions vs → SoundRules R
      extend_sound sound = go (extendable e)
        where
          go : Extendable → SoundRules R
          go (New z q n) = subst SoundRules (sym q) (newest_sound vs sound)
          go (Old h l x) = listed_sound vs (take used file) R ms sound x

      -- where a message is held, it is no new file
      pub extend_held : (i : ℕ) → i < length ms → listing vs file used ≡ Lists R ms
      extend_held i k = go (extendable e)
        where
          go : Extendable → listing vs file used ≡ Lists R ms
          go (New z q n) = absurd (omega (arith, ap length n))
          go (Old h l x) = within_listing vs file used R ms l x

      -- an entry more, behind what the file has or behind a new file's header
      pub extend_more : SoundVersions vs → (w : List ℕ) → fault_of R ms w ≡ 0 → length w < 2 ^ 32
          → Listed vs (take used file ++ (begun vs used ++ entry_of w)) R (ms ++ (w ∷ []))
      extend_more sound w h l = go (extendable e)
        where
          go : Extendable → Listed vs (take used file ++ (begun vs used ++ entry_of w)) R (ms ++ (w ∷ []))
          go (New z q n) =
              let b : begun vs used ≡ header vs = pick_true (header vs) [] (eq-eqb used 0 z) in
              let t : take used file ≡ [] = ap (λ (k : ℕ). take k file) z in
              let new : Listed vs (header vs) R ms = rw (q, n) (listed_new vs sound) in
              rw (t, b) (listed_more vs (header vs) R ms w new h l)
          go (Old k u y) =
              let b : begun vs used ≡ [] = pick_false (header vs) [] (ne_eqb used 0 (λ q. omega arith)) in
              rw b (listed_more vs (take used file) R ms w y h l)

      -- what an addition gives, once it is known what the file lists as
      pub addition_listed : (m : List ℕ)
          → addition vs file used m ≡ added_read vs file used R ms (reads_by vs.newest m)
      unfolding addition
      addition_listed m = ap (added_listed vs file used m) e

-- an addition to a file that does not list
pub addition_faulty : (vs : Versions) (file : List ℕ) (used : ℕ) (m : List ℕ) (x p : ℕ)
    → listing_to_extend vs file used ≡ Faulty x p → addition vs file used m ≡ Refuse x 0 p
unfolding addition
addition_faulty vs file used m x p e = ap (added_listed vs file used m) e

-- a longer buffer, used alike
pub extend_same : (vs : Versions) (file : List ℕ) (used : ℕ) (file₂ : List ℕ) (R : Rules) (ms : Messages)
    → take used file₂ ≡ take used file → used ≤ length file₂
    → listing_to_extend vs file used ≡ Lists R ms → listing_to_extend vs file₂ used ≡ Lists R ms
extend_same vs file used file₂ R ms same l e = go (extendable vs file used R ms e)
  where
    go : Extendable vs file used R ms → listing_to_extend vs file₂ used ≡ Lists R ms
    go (New z q n) = extend_new vs file₂ used z ∙ (λ i. Lists (sym q i) (sym n i))
    go (Old h k x) = extend_listed vs file₂ used R ms (within_listing vs file₂ used R ms l (rw same x))

-- ---- what is behind an accepted addition, to a file that listed as the messages before
pub record AcceptedAddition (vs : Versions) (R : Rules) (before : Messages) (file : List ℕ) (used : ℕ) (m : List ℕ)
    (a : Addition) : Type 0 where
  pub lists : listing_to_extend vs file used ≡ Lists R before
  pub written : List ℕ
  pub shortens : ShortensTo vs.newest R m written
  pub number : a.number ≡ number_of written before
  pub new : a.new ≡ appended vs used before written
  pub room : used + length a.new ≤ length file

module _ (vs : Versions) (file : List ℕ) (used : ℕ) (m : List ℕ) (a : Addition) where
  -- the file lists
  pub addition_checks : addition vs file used m ≡ Accept a
      → (R : Rules) × (ms : Messages) × (listing_to_extend vs file used ≡ Lists R ms)
  unfolding addition
  addition_checks = go (listing_to_extend vs file used) refl
    where
      go : (l : Listing) → listing_to_extend vs file used ≡ l → added_listed vs file used m l ≡ Accept a
          → (R : Rules) × (ms : Messages) × (listing_to_extend vs file used ≡ Lists R ms)
      go (Faulty x p) e h = never cc
      go (Lists R ms) e h = (R, ms, e)

  module _ (R : Rules) (ms : Messages) where
    abbrev Behind : Result Addition → Type 0
    Behind z = z ≡ Accept a → AcceptedAddition vs R ms file used m a

    module _ (e : listing_to_extend vs file used ≡ Lists R ms) where
      module _ (n : ℕ) (es : List (Entry Item)) (c : Known) (q : reads_by vs.newest m ≡ Done n tt es c) where
        by_room : (w : List ℕ) → shortest_by R (items es) ≡ some w → Behind (added_short vs file used ms (some w))
        by_room w s = pick_either Behind (ltb (length file) (used + length (appended vs used ms w)))
            (λ t h. never cc)
            (λ t h.
            let g : record { number = number_of w ms; new = appended vs used ms w } ≡ a = cc in
            let gn : appended vs used ms w ≡ a.new = ap (λ (z : Addition). z.new) g in
            let l = ltb-false (length file) (used + length (appended vs used ms w)) t in
            record {
              lists = e;
              written = w;
              shortens = record { count = n; entries = es; known = c; accepted = q; short = s };
              number = ap (λ (z : Addition). z.number) (sym g);
              new = sym gn;
              room = omega (arith, ap length gn);
            })

        by_short : (o : Option (List ℕ)) → shortest_by R (items es) ≡ o → Behind (added_short vs file used ms o)
        by_short none s = λ h. never cc
        by_short (some w) s = by_room w s

      by_record : (o : Outcome Known Item One) → reads_by vs.newest m ≡ o → Behind (added_read vs file used R ms o)
      by_record (Fault x p) q = λ h. never cc
      by_record (Done n u es c) q = by_short n es c q (shortest_by R (items es)) refl

      pub addition_accepted : addition vs file used m ≡ Accept a → AcceptedAddition vs R ms file used m a
      addition_accepted h =
          by_record (reads_by vs.newest m) refl (sym (addition_listed vs file used R ms e m) ∙ h)

    pub accepted_addition : AcceptedAddition vs R ms file used m a → addition vs file used m ≡ Accept a
    accepted_addition x =
        let new = appended vs used ms x.written in
        let n : length new ≡ length a.new = ap length (sym x.new) in
        addition_listed vs file used R ms x.lists m
        ∙ ap (added_read vs file used R ms) x.shortens.accepted
        ∙ ap (added_short vs file used ms) x.shortens.short
        ∙ pick_false _ _ (le-ltb (length file) (used + length new) (omega (arith, x.room)))
        ∙ (λ i. Accept (record { number = sym x.number i; new = sym x.new i }))

-- ---- what is behind one that is refused with a count: k bytes are needed, and the buffer has fewer
pub record CrowdedAddition (vs : Versions) (file : List ℕ) (used : ℕ) (m : List ℕ) (k : ℕ) : Type 0 where
  pub rules : Rules
  pub before : Messages
  pub lists : listing_to_extend vs file used ≡ Lists rules before
  pub written : List ℕ
  pub shortens : ShortensTo vs.newest rules m written
  pub needed : k ≡ used + length (appended vs used before written)
  pub crowded : length file < k

module _ (vs : Versions) (file : List ℕ) (used : ℕ) (m : List ℕ) (x k p : ℕ) (counts : k ≡ 0 → ⊥) where
  abbrev Crowds : Result Addition → Type 0
  Crowds z = z ≡ Refuse x k p → CrowdedAddition vs file used m k

  module _ (R : Rules) (ms : Messages) (e : listing_to_extend vs file used ≡ Lists R ms) where
    crowded_short : (n : ℕ) (es : List (Entry Item)) (c : Known) → reads_by vs.newest m ≡ Done n tt es c
        → (o : Option (List ℕ)) → shortest_by R (items es) ≡ o → Crowds (added_short vs file used ms o)
    crowded_short n es c q none s = λ h. absurd (counts (cc))
    crowded_short n es c q (some w) s = pick_either Crowds (ltb (length file) (used + length (appended vs used ms w)))
        (λ t h.
        let l = ltb-true (length file) (used + length (appended vs used ms w)) t in
        let z : k ≡ used + length (appended vs used ms w) = cc in
        record {
          rules = R;
          before = ms;
          lists = e;
          written = w;
          shortens = record { count = n; entries = es; known = c; accepted = q; short = s };
          needed = z;
          crowded = omega arith;
        })
        (λ t h. never cc)

    crowded_record : (o : Outcome Known Item One) → reads_by vs.newest m ≡ o → Crowds (added_read vs file used R ms o)
    crowded_record (Fault y o) q = λ h. absurd (counts (cc))
    crowded_record (Done n u es c) q = crowded_short n es c q (shortest_by R (items es)) refl

  pub addition_crowded : addition vs file used m ≡ Refuse x k p → CrowdedAddition vs file used m k
  unfolding addition
  addition_crowded = go (listing_to_extend vs file used) refl
    where
      go : (l : Listing) → listing_to_extend vs file used ≡ l → Crowds (added_listed vs file used m l)
      go (Faulty y o) e = λ h. absurd (counts (cc))
      go (Lists R ms) e = crowded_record R ms e (reads_by vs.newest m) refl

-- ---- what it leaves
-- what the message w adds to messages
abbrev pub new_to : Messages → List ℕ → Messages
new_to ms w = pick (is_held w ms) [] (w ∷ [])

abbrev pub with_new : Messages → List ℕ → Messages
with_new ms w = ms ++ new_to ms w

module _ (ms : Messages) (w : List ℕ) where
  pub new_held : number_of w ms < length ms → new_to ms w ≡ []
  new_held l = pick_true [] (w ∷ []) (lt-ltb (number_of w ms) (length ms) l)

  pub new_not_held : length ms ≤ number_of w ms → new_to ms w ≡ w ∷ []
  new_not_held l = pick_false [] (w ∷ []) (le-ltb (number_of w ms) (length ms) l)

  pub at_most_one : (new_to ms w ≡ []) ⊎ (new_to ms w ≡ w ∷ [])
  at_most_one = split (number_of w ms) (length ms) (λ l. inl (new_held l)) (λ l. inr (new_not_held l))

  with_held : number_of w ms < length ms → with_new ms w ≡ ms
  with_held l = ap (λ (ns : Messages). ms ++ ns) (new_held l) ∙ append-nil ms

  with_not_held : length ms ≤ number_of w ms → with_new ms w ≡ ms ++ (w ∷ [])
  with_not_held l = ap (λ (ns : Messages). ms ++ ns) (new_not_held l)

  -- the message is there then, at the number that it had or got
  pub with_number : (number_of w (with_new ms w) ≡ number_of w ms) × (number_of w ms < length (with_new ms w))
  with_number = split (number_of w ms) (length ms)
      (λ l. let e = with_held l in (ap (number_of w) e, omega (arith, ap length e)))
      (λ l.
      let e = with_not_held l in
      let k = number_last w ms l in
      let n = length-append ms (w ∷ []) in
      let z = number_within w ms in
      (ap (number_of w) e ∙ omega arith, omega (arith, ap length e)))

module _ (vs : Versions) (sound : SoundVersions vs) (R : Rules) (ms : Messages) (file : List ℕ) (used : ℕ)
    (m : List ℕ) (a : Addition) (x : AcceptedAddition vs R ms file used m a) where
  abbrev w : List ℕ
  w = x.written

  abbrev file' : List ℕ
  file' = stored file used a.new

  abbrev used' : ℕ
  used' = used + length a.new

  -- the message was there: nothing is stored
  pub addition_held : number_of w ms < length ms → (file' ≡ file) × (used' ≡ used)
  addition_held l =
      let e : a.new ≡ [] = x.new ∙ pick_true _ _ (lt-ltb (number_of w ms) (length ms) l) in (
        ap (stored file used) e ∙ stored_sets file used [] (omega (arith, x.room, ap length e)),
        omega (arith, ap length e),
      )

  old_lists : number_of w ms < length ms → listing vs file' used' ≡ Lists R ms
  old_lists l =
      let same = addition_held l in
      (λ i. listing vs (same.0 i) (same.1 i)) ∙ extend_held vs file used R ms x.lists (number_of w ms) l

  -- it was not
  new_lists : length ms ≤ number_of w ms → listing vs file' used' ≡ Lists R (ms ++ (w ∷ []))
  new_lists l =
      let e : a.new ≡ begun vs used ++ entry_of w =
      x.new ∙ pick_false _ _ (le-ltb (number_of w ms) (length ms) l) in
      let rules = extend_sound vs file used R ms x.lists sound in
      let f : take used' file' ≡ take used file ++ (begun vs used ++ entry_of w) =
      stored_front file used a.new x.room ∙ ap (λ (z : List ℕ). take used file ++ z) e in
      let r = items x.shortens.entries in
      let right = shortest_faultless R r w rules x.shortens.short ms l in
      let small = (shortest_spelled R r w x.shortens.short).1 in
      within_listing vs file' used' R (ms ++ (w ∷ []))
      (omega (arith, x.room, length_stored file used a.new))
      (rw f (extend_more vs file used R ms x.lists sound w (no_fault R ms w right) (omega (arith, rules.writable))))

  -- the file lists afterwards, with at most one message more
  pub addition_lists : listing vs file' used' ≡ Lists R (with_new ms w)
  addition_lists = split (number_of w ms) (length ms)
      (λ l. old_lists l ∙ ap (Lists R) (sym (with_held ms w l)))
      (λ l. new_lists l ∙ ap (Lists R) (sym (with_not_held ms w l)))

  pub addition_extends : Extends vs R ms (new_to ms w) file used file' used'
  addition_extends = record {
    was = x.lists;
    lists = extend_listed vs file' used' R (with_new ms w) addition_lists;
    grown = omega arith;
    within = omega (arith, x.room, length_stored file used a.new);
    front = stored_before file used used a.new (omega arith);
    behind = stored_behind file used used' a.new (omega arith);
    as_long = length_stored file used a.new;
  }

  -- the record's shortest message is at the number answered
  pub addition_found : get_elem? (with_new ms w) a.number ≡ some w
  addition_found =
      let n = with_number ms w in
      ap (get_elem? (with_new ms w)) (x.number ∙ sym n.0) ∙ number_found w (with_new ms w) (omega (arith, n.0, n.1))

  -- the next addition needs no check of the file
  pub addition_next : (m₂ : List ℕ)
      → addition vs file' used' m₂ ≡ added_read vs file' used' R (with_new ms w) (reads_by vs.newest m₂)
  addition_next m₂ = addition_listed vs file' used' R (with_new ms w) addition_extends.lists m₂

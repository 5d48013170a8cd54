-- Files that grow, and calls that add.
use Rattle.std.specs.Prelude.{◌≡◌, refl, List, [], ◌++◌, ℕ, ◌+◌, ◌≤◌, ◌<◌, length, take, drop}
use Rattle.std.proofs.Common.{sym, ◌∙◌, ap, subst, inl, inr, ⊎_elim, arith, lt-ltb}
use Rattle.std.proofs.Math.Option.{some}
use Rattle.std.proofs.Math.ListN.{get_elem?}
use Rattle.flow.specs.RefusalNumbers.{no_room}
use Rattle.flow.specs.Tests.{pick_true}
use Rattle.flow.specs.OverlayLaws.{stored_sets}
use Rattle.flow.specs.Flow.{Bytes, Entry, Done, items, stored, Report}
use Rattle.scalar.specs.Scalars.{Floats}
use Rattle.record.specs.Model.Items.{Item, Known}
use Rattle.record.specs.Model.Rows.{rows}
use Rattle.record.specs.Model.Claims.{content_at}
use Rattle.record.specs.Model.Same.{SameRecord}
use Rattle.record.proofs.Laws.Answering.{never}
use Rattle.record.proofs.Laws.Claimed.{all_claimed}
use Rattle.record.proofs.Theorems.RowTheorems.{own_rows, judged_done}
use Rattle.record.proofs.Theorems.SameTheorems.{same_exactly}
use Rattle.holdings.specs.Files.{Rules, Versions, reads_by, shortest_by, header_size, entries_in, Lists, number_of}
use Rattle.holdings.specs.Answers.{Result, Accept, Refuse, answer, Placement, placements, list_report, list_after}
use Rattle.holdings.specs.Answers.{Addition, listing_to_extend, appended, addition, add_result, add_report, file_after}
use Rattle.holdings.specs.Answers.{AddCall}
use Rattle.holdings.specs.Terms.{ByAddition, Messages, Distinct, FoundOnce, ShortensTo, SoundVersions, Enough}
use Rattle.holdings.specs.Terms.{StandsAt, Extends}
use Rattle.holdings.specs.EntryLaws.{wholes}
use Rattle.holdings.proofs.EntryLaws.{number_first, number_found, elem_inside, elem_more}
use Rattle.holdings.proofs.FileLaws.{listing_used, stands, placements_more}
use Rattle.holdings.proofs.AdditionLaws.{extend_listing, Extendable, New, Old, extendable, extend_distinct}
use Rattle.holdings.proofs.AdditionLaws.{AcceptedAddition, addition_checks, addition_accepted, accepted_addition}
use Rattle.holdings.proofs.AdditionLaws.{new_held, addition_held, new_to, with_new, at_most_one, addition_lists}
use Rattle.holdings.proofs.AdditionLaws.{addition_extends, addition_found, extend_same, CrowdedAddition}
use Rattle.holdings.proofs.AdditionLaws.{addition_crowded}
use Rattle.holdings.proofs.NumberLaws.{addition_numbered, not_accepted}
use Rattle.holdings.specs.Theorems.{EntryKept, Grown, After, OfAdd}
use Rattle.holdings.proofs.Proved.ListCalls.{memory, with_enough, with_little, list_accepts}

-- ---- files that grow
-- the entries that a message is listed among
entries_of : (vs : Versions) (file : List ℕ) (used : ℕ) (R : Rules) (ms : Messages)
    → listing_to_extend vs file used ≡ Lists R ms → (i : ℕ) → i < length ms
    → entries_in (drop header_size (take used file)) ≡ wholes ms
entries_of vs file used R ms e i l = go (extendable vs file used R ms e)
  where
    go : Extendable vs file used R ms → entries_in (drop header_size (take used file)) ≡ wholes ms
    go (New z q n) = absurd (omega (arith, ap length n))
    go (Old h k x) = x.entries

module _ (vs : Versions) (R : Rules) (before more : Messages) (file : List ℕ) (used : ℕ) (file' : List ℕ) (used' : ℕ)
    (x : Extends vs R before more file used file' used') where
  kept : (i : ℕ) (m : List ℕ) → get_elem? before i ≡ some m
      → EntryKept before (before ++ more) (take used file) (take used' file') i m
  kept i m e =
      let after = before ++ more in
      let e' = elem_more before more i m e in
      let was = entries_of vs file used R before x.was i (elem_inside before i m e) in
      let is = entries_of vs file' used' R after x.lists i (elem_inside after i m e') in
      let a = stands (take used file) header_size before was i m e in
      let b = stands (take used' file') header_size after is i m e' in
      let g : get_elem? (placements header_size after) i ≡ some a.0 =
      placements_more header_size before more i m e ∙ a.1 in
      let h = b.1 in
      let q : b.0 ≡ a.0 = cc in
      record {
        placed = a.0;
        was_listed = a.1;
        is_listed = g;
        stood = a.2;
        stands = subst (λ (s : Placement). StandsAt (take used' file') s m) q b.2;
      }

  pub grown_by : Grown vs R before more file used file' used'
  grown_by = record {
    extends = x;
    distinct = extend_distinct vs file' used' R (before ++ more) x.lists;
    earlier = kept;
    lists_again = λ z L work bytes list enough l r list' g.
        let e = sym (extend_listing vs file' used' z) ∙ x.lists in
        let a = list_accepts vs L file' used' work bytes list enough R (before ++ more) e l in
        (g.report ∙ ap (list_report used') a, g.after ∙ ap (list_after L list) a);
  }

-- a message among different ones is found once
pub found_once : (ms : Messages) → Distinct ms → (n : ℕ) (m : List ℕ) → get_elem? ms n ≡ some m → FoundOnce ms n m
found_once ms d n m e = record { found = e; once = λ i q. d i n m q e }

-- ---- messages of the same record
module _ (R : Rules) (m m₂ : List ℕ) (b : Bytes m) (b₂ : Bytes m₂) (n n₂ : ℕ) (es es₂ : List (Entry Item))
    (c c₂ : Known) (e : reads_by R m ≡ Done n tt es c) (e₂ : reads_by R m₂ ≡ Done n₂ tt es₂ c₂) where
  same_items : SameRecord m m₂ (rows es) (rows es₂) → items es₂ ≡ items es
  same_items h =
      let own = own_rows Floats R.limits m b n es c (judged_done Floats R.limits m n es c e).1 in
      let own₂ = own_rows Floats R.limits m₂ b₂ n₂ es₂ c₂
      (judged_done Floats R.limits m₂ n₂ es₂ c₂ e₂).1 in
      let p = all_claimed (content_at m₂) own₂ in
      let q = all_claimed (content_at m₂) ((same_exactly m m₂ own (rows es₂)).0 h) in
      cc

-- ---- an accepted addition
-- a record whose shortest message the file has is found, and nothing is appended
module _ (vs : Versions) (file : List ℕ) (used : ℕ) (R : Rules) (ms : Messages)
    (lists : listing_to_extend vs file used ≡ Lists R ms) (inside : used ≤ length file) where
  pub found_again : (m w : List ℕ) (n : ℕ) → ShortensTo vs.newest R m w → FoundOnce ms n w
      → addition vs file used m ≡ Accept (record { number = n; new = [] })
  found_again m w n s x =
      let l : number_of w ms < length ms =
      omega (arith, number_first w ms n x.found, elem_inside ms n w x.found) in
      accepted_addition vs file used m (record { number = n; new = [] }) R ms (record {
        lists = lists;
        written = w;
        shortens = s;
        number = sym (x.once (number_of w ms) (number_found w ms l));
        new = sym (pick_true _ _ (lt-ltb (number_of w ms) (length ms) l));
        room = omega arith;
      })

module _ (vs : Versions) (sound : SoundVersions vs) (file : List ℕ) (used : ℕ) (m : List ℕ) (r : Report)
    (file' : List ℕ) where
  after_by : (R : Rules) (ms : Messages) (a : Addition) (x : AcceptedAddition vs R ms file used m a)
      → r ≡ answer 0 a.number (used + length a.new) → file' ≡ stored file used a.new
      → After vs file used m r file'
  after_by R ms a x q f = record {
    rules = R;
    before = ms;
    more = new_to ms w;
    grown = grown;
    some_used = λ z.
        let u = listing_used vs (stored file used a.new) (used + length a.new) R (with_new ms w)
        (addition_lists vs sound R ms file used m a x) in
        omega (arith, place);
    written = w;
    shortens = x.shortens;
    at_most_one = at_most_one ms w;
    found_before = λ h.
        let l : number_of w ms < length ms =
        omega (arith, number_first w ms h.0 h.1, elem_inside ms h.0 w h.1) in
        let same = addition_held vs sound R ms file used m a x l in
        (new_held ms w l, f ∙ same.0, place ∙ same.1);
    found = found;
    added_again = λ b m₂ b₂ is y same work bytes enough r₂ file₂ g.
        let i = same_items vs.newest m m₂ b b₂ x.shortens.count (length m₂) x.shortens.entries y.entries
        x.shortens.known y.known x.shortens.accepted y.done same in
        let s : ShortensTo vs.newest R m₂ w = record {
          count = length m₂;
          entries = y.entries;
          known = y.known;
          accepted = y.done;
          short = ap (shortest_by R) i ∙ x.shortens.short;
        } in
        let z : add_result vs file' r.place m₂ work bytes ≡ Accept (record { number = r.count; new = [] }) =
        with_enough vs work bytes (addition vs file' r.place m₂) enough
        ∙ found_again vs file' r.place R (with_new ms w) extends.lists extends.within m₂ w r.count s
        found in
        let p : r.place + 0 ≡ r.place = omega arith in (
          g.report ∙ ap (add_report r.place) z ∙ ap (answer 0 r.count) p,
          g.after ∙ ap (file_after file' r.place) z
              ∙ stored_sets file' r.place [] (omega (arith, extends.within)),
        );
  }
    where
      w : List ℕ
      w = x.written

      place : r.place ≡ used + length a.new
      place = ap (λ (z : Report). z.place) q

      extends : Extends vs R ms (new_to ms x.written) file used file' r.place
      extends = rw (f, place) (addition_extends vs sound R ms file used m a x)

      grown : Grown vs R ms (new_to ms x.written) file used file' r.place
      grown = grown_by vs R ms (new_to ms x.written) file used file' r.place extends

      found : FoundOnce (with_new ms x.written) r.count x.written
      found =
          let n : r.count ≡ a.number = ap (λ (z : Report). z.count) q in
          found_once (with_new ms x.written) grown.distinct r.count x.written
          (rw n (addition_found vs sound R ms file used m a x))

  module _ (work bytes : List ℕ) where
    -- with room enough it is accepted
    more_room : (k : ℕ) → r.count ≡ k → Enough vs work bytes → CrowdedAddition vs file used m k
        → (length file < r.count)
        × ((file₂ : List ℕ) → take used file₂ ≡ take used file → r.count ≤ length file₂
        → (r₂ : Report) (file₂' : List ℕ) → AddCall vs file₂ used m work bytes r₂ file₂'
        → (r₂.number ≡ 0) × (r₂.place ≡ r.count))
    more_room k n enough x = (
      omega (arith, x.crowded),
      λ file₂ same l r₂ file₂' g.
          let R = x.rules in
          let ms = x.before in
          let w = x.written in
          let needed = x.needed in
          let a : Addition = record { number = number_of w ms; new = appended vs used ms w } in
          let lists = extend_same vs file used file₂ R ms same (omega arith) x.lists in
          let z = with_enough vs work bytes (addition vs file₂ used m) enough
          ∙ accepted_addition vs file₂ used m a R ms (record {
            lists = lists;
            written = w;
            shortens = x.shortens;
            number = refl;
            new = refl;
            room = omega arith;
          }) in
          let q : r₂ ≡ add_report used (Accept a) = g.report ∙ ap (add_report used) z in (
            ap (λ (z : Report). z.number) q,
            ap (λ (z : Report). z.place) q ∙ sym (n ∙ needed),
          ),
    )

    of_add_by : (z : Result Addition) → add_result vs file used m work bytes ≡ z
        → r ≡ add_report used z → file' ≡ file_after file used z
        → ((a : Addition) → z ≡ Accept a → addition vs file used m ≡ Accept a)
        → ((x k p : ℕ) → z ≡ Refuse x k p → ByAddition x)
        → ((x k p : ℕ) → z ≡ Refuse x k p → (k ≡ 0 → ⊥) → Enough vs work bytes × CrowdedAddition vs file used m k)
        → OfAdd vs file used m work bytes r file'
    of_add_by (Accept a) e q f accepts refuses crowds =
        let number : r.number ≡ 0 = ap (λ (z : Report). z.number) q in
        record {
          numbered = inl number;
          refused = λ h. absurd (h number);
          accepted = λ h.
              let y = addition_checks vs file used m a (accepts a refl) in
              after_by y.0 y.1 a (addition_accepted vs file used m a y.0 y.1 y.2 (accepts a refl)) q f;
          complete = λ enough R ms g w s l. number;
          needed = λ h. absurd (omega arith);
        }
    of_add_by (Refuse x k p) e q f accepts refuses crowds =
        let number : r.number ≡ x = ap (λ (z : Report). z.number) q in
        let count : r.count ≡ k = ap (λ (z : Report). z.count) q in
        record {
          numbered = inr (subst ByAddition (sym number) (refuses x k p refl));
          refused = λ h. f;
          accepted = λ h. absurd (not_accepted x (refuses x k p refl) (sym number ∙ h));
          complete = λ enough R ms g w s l.
              let a : Addition = record { number = number_of w ms; new = appended vs used ms w } in
              let y = accepted_addition vs file used m a R ms
              (record { lists = g; written = w; shortens = s; number = refl; new = refl; room = l }) in
              let z = with_enough vs work bytes (addition vs file used m) enough ∙ y in
              never cc;
          needed = λ h c. let y = crowds x k p refl (λ z. c (count ∙ z)) in more_room k count y.0 y.1;
        }

    pub of_add : AddCall vs file used m work bytes r file' → OfAdd vs file used m work bytes r file'
    of_add g = ⊎_elim lent little (memory vs work bytes)
      where
        lent : Enough vs work bytes → OfAdd vs file used m work bytes r file'
        lent enough =
            let e = with_enough vs work bytes (addition vs file used m) enough in
            of_add_by (addition vs file used m) e
            (g.report ∙ ap (add_report used) e) (g.after ∙ ap (file_after file used) e)
            (λ a h. h) (λ x k p h. addition_numbered vs file used x k p m h)
            (λ x k p h c. (enough, addition_crowded vs file used m x k p c h))

        little : (Enough vs work bytes → ⊥) → OfAdd vs file used m work bytes r file'
        little h =
            let e = with_little vs work bytes (addition vs file used m) h in
            of_add_by (Refuse no_room 0 0) e
            (g.report ∙ ap (add_report used) e) (g.after ∙ ap (file_after file used) e)
            (λ a q. never cc)
            (λ x k p q. let z : no_room ≡ x = cc in inl (omega arith, omega arith))
            (λ x k p q c. absurd (c (cc)))

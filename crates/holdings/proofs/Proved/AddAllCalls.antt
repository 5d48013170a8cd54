-- Calls that add many records.
use Rattle.std.specs.Prelude.{◌≡◌, refl, ◌⊎◌, ◌↔◌, List, [], ◌∷◌, ◌++◌, ℕ, zero, suc, ◌+◌, ◌*◌, ◌≤◌, ◌<◌, length, take, drop, get_or}
use Rattle.std.proofs.Common.{sym, ◌∙◌, ap, subst, inl, inr, ⊎_elim, mul-one, arith, get_or-take, get_or-set_same}
use Rattle.std.proofs.Math.Option.{Option, some}
use Rattle.std.proofs.Math.ListN.{get_elem?}
use Rattle.flow.specs.RefusalNumbers.{no_room}
use Rattle.flow.specs.OverlayLaws.{stored_sets, stored_before, stored_behind, length_put, length_overlay}
use Rattle.flow.specs.Flow.{Report, put, overlay}
use Rattle.record.proofs.Laws.Answering.{never}
use Rattle.holdings.specs.Files.{Rules, Versions, entries_in, Listing, Lists, Faulty}
use Rattle.holdings.specs.Answers.{Result, Accept, Refuse, answer, listing_to_extend, addition, add_report}
use Rattle.holdings.specs.Answers.{file_after, Batch, additions, batch_listed, batch_result, batch_report, batch_file}
use Rattle.holdings.specs.Answers.{batch_numbers, AddAllCall}
use Rattle.holdings.specs.Terms.{ByFile, ByAddition, Messages, Contains, ShortensTo, ShortestOfOne, SoundVersions}
use Rattle.holdings.specs.Terms.{Enough, Extends}
use Rattle.holdings.specs.EntryLaws.{Entries}
use Rattle.holdings.proofs.EntryLaws.{elem_more}
use Rattle.holdings.proofs.BatchLaws.{Ended, All, AtCut, AtRefused, Added, additions_added}
use Rattle.holdings.proofs.NumberLaws.{extend_numbered, addition_numbered, not_accepted}
use Rattle.holdings.specs.Theorems.{Grown, RecordTaken, RecordRefused, AfterAll, OfAddAll}
use Rattle.holdings.proofs.Proved.ListCalls.{memory, with_enough, with_little}
use Rattle.holdings.proofs.Proved.AddCalls.{grown_by, found_once}

-- ---- numbers laid over a list, as many as it has room for
abbrev one : ℕ → List ℕ
one n = n ∷ []

abbrev over : List ℕ → ℕ → List ℕ → List ℕ
over t k ns = overlay 1 one t k ns

over_past : (t : List ℕ) (k : ℕ) (ns : List ℕ) (n : ℕ) → k + length ns ≤ n → drop n (over t k ns) ≡ drop n t
unfolding overlay put
over_past t k [] n l = refl
over_past t k (x ∷ ns) n l =
    over_past (put 1 one t k x) (suc k) ns n (omega arith)
    ∙ stored_behind t (k * 1) n (one x) (omega (arith, mul-one k))

over_before : (t : List ℕ) (k : ℕ) (ns : List ℕ) (n : ℕ) → n ≤ k → take n (over t k ns) ≡ take n t
unfolding overlay put
over_before t k [] n l = refl
over_before t k (x ∷ ns) n l =
    over_before (put 1 one t k x) (suc k) ns n (omega arith)
    ∙ stored_before t (k * 1) n (one x) (omega (arith, mul-one k))

put_at : (t : List ℕ) (k x : ℕ) → k < length t → get_or (put 1 one t k x) k 0 ≡ x
unfolding put
put_at t k x l =
    let e : k * 1 ≡ k = mul-one k in
    rw (e, stored_sets t k (one x) (omega arith)) (get_or-set_same t k x 0 l)

over_at : (t : List ℕ) (k : ℕ) (ns : List ℕ) (i n : ℕ) → get_elem? ns i ≡ some n → k + i < length t
    → get_or (over t k ns) (k + i) 0 ≡ n
unfolding overlay
over_at t k [] i n e l = never cc
over_at t k (x ∷ ns) zero n e l =
    let q : x ≡ n = cc in
    let z : k + 0 ≡ k = omega arith in
    rw z (
    sym (get_or-take (suc k) (over (put 1 one t k x) (suc k) ns) k 0 (omega arith))
    ∙ ap (λ (s : List ℕ). get_or s k 0) (over_before (put 1 one t k x) (suc k) ns (suc k) (omega arith))
    ∙ get_or-take (suc k) (put 1 one t k x) k 0 (omega arith)
    ∙ put_at t k x (omega arith)
    ∙ q
    )
over_at t k (x ∷ ns) (suc i) n e l =
    let z : k + suc i ≡ suc k + i = omega arith in
    rw z (over_at (put 1 one t k x) (suc k) ns i n e (omega (arith, length_put 1 one (λ y. refl) t k x)))

elem_get : (l : List ℕ) (i : ℕ) → i < length l → get_elem? l i ≡ some (get_or l i 0)
elem_get [] i = λ h. absurd (omega arith)
elem_get (x ∷ l) zero = λ h. refl
elem_get (x ∷ l) (suc i) = λ h. elem_get l i (omega arith)

over_elem : (t ns : List ℕ) (i n : ℕ) → get_elem? ns i ≡ some n → i < length t → get_elem? (over t 0 ns) i ≡ some n
over_elem t ns i n e l =
    let z : 0 + i ≡ i = omega arith in
    elem_get (over t 0 ns) i (omega (arith, length_overlay 1 one (λ y. refl) t 0 ns))
    ∙ ap {B = Option ℕ} some (rw z at (over_at t 0 ns i n e (omega arith)))

-- ---- one of two lists
pub contains_left : (ms ns : Messages) (w : List ℕ) → Contains ms w → Contains (ms ++ ns) w
contains_left ms ns w h = (h.0, elem_more ms ns h.0 w h.1)

contains_cases : (ms ns : Messages) (w : List ℕ) → Contains (ms ++ ns) w → Contains ms w ⊎ Contains ns w
contains_cases [] ns w h = inr h
contains_cases (m ∷ ms) ns w (zero, e) = inl (0, e)
contains_cases (m ∷ ms) ns w (suc i, e) =
    ⊎_elim (λ h. inl (suc h.0, h.1)) (λ h. inr h) (contains_cases ms ns w (i, e))

-- ---- a message has one shortest message
one_shortest : (S R : Rules) (m m₂ w w₂ : List ℕ) → m ≡ m₂ → ShortensTo S R m w → ShortensTo S R m₂ w₂ → w ≡ w₂
one_shortest S R m m₂ w w₂ e x y =
    let a = x.accepted in
    let b = y.accepted in
    let q : x.entries ≡ y.entries = cc in
    let c = x.short in
    let d = y.short in
    cc

-- ---- what a checked batch leaves
module _ (vs : Versions) (sound : SoundVersions vs) (file : List ℕ) (used : ℕ) (records list : List ℕ) (r : Report)
    (file' list' : List ℕ) where
  abbrev os : Entries
  os = entries_in records

  module _ (R : Rules) (ms : Messages) (b : Batch) (y : Added vs R ms file used os b)
      (q : r ≡ answer b.refusal (length b.numbers) b.used) (f : file' ≡ b.file)
      (l : list' ≡ over list 0 b.numbers) where
    number : r.number ≡ b.refusal
    number = ap (λ (z : Report). z.number) q

    count : r.count ≡ length b.numbers
    count = ap (λ (z : Report). z.count) q

    place : r.place ≡ b.used
    place = ap (λ (z : Report). z.place) q

    abbrev after : Messages
    after = ms ++ y.more

    extends : Extends vs R ms y.more file used file' r.place
    extends = rw (f, place) y.extends

    grown : Grown vs R ms y.more file used file' r.place
    grown = grown_by vs R ms y.more file used file' r.place extends

    taken_at : (i : ℕ) → i < r.count → RecordTaken vs R after records list list' i
    taken_at i h =
        let n = get_or b.numbers i 0 in
        let e = elem_get b.numbers i (omega (arith, count)) in
        let x = y.taken i n e in
        record {
          message = x.message;
          entry = x.entry;
          written = x.written;
          shortens = x.shortens;
          number = n;
          found = found_once after grown.distinct n x.written x.found;
          in_list = λ k. rw l (over_elem list b.numbers i n e k);
        }

    all_taken : Ended vs os b → r.number ≡ 0 → r.count ≡ length os
    all_taken (All z e) h = count ∙ e
    all_taken (AtCut e x) h = absurd (omega (arith, number))
    all_taken (AtRefused m e k p x) h =
        absurd (not_accepted b.refusal (addition_numbered vs b.file b.used b.refusal k p m x)
        (sym number ∙ h))

    next_refused : Ended vs os b → (r.number ≡ 0 → ⊥)
        → RecordRefused vs records r.count r.number file' r.place
    next_refused (All z e) h = absurd (h (number ∙ z))
    next_refused (AtCut e x) h = inl (ap (get_elem? os) count ∙ e, number ∙ x)
    next_refused (AtRefused m e k p x) h = inr (
      m,
      ap (get_elem? os) count ∙ e,
      λ work bytes enough r₂ file₂ g.
          let x' : addition vs file' r.place m ≡ Refuse r.number k p = rw (f, place, number) x in
          let z = with_enough vs work bytes (addition vs file' r.place m) enough ∙ x' in (
            ap (λ (s : Report). s.number) (g.report ∙ ap (add_report r.place) z),
            g.after ∙ ap (file_after file' r.place) z,
          ),
    )

    -- where all are taken
    holds_all : r.number ≡ 0 → (w : List ℕ) → Contains after w
        ↔ (Contains ms w ⊎ ShortestOfOne vs R os r.count w)
    holds_all h w = (forth, back)
      where
        forth : Contains after w → Contains ms w ⊎ ShortestOfOne vs R os r.count w
        forth c = ⊎_elim (λ d. inl d) (λ d. inr (rw count (y.origin w d))) (contains_cases ms y.more w c)

        of_record : ShortestOfOne vs R os r.count w → Contains after w
        of_record s =
            let x = taken_at s.index s.below in
            let e = x.entry in
            let e' = s.entry in
            let m : s.message ≡ x.message = cc in
            let same = one_shortest vs.newest R s.message x.message w x.written m s.shortens
            x.shortens in
            (x.number, x.found.found ∙ ap {B = Option (List ℕ)} some (sym same))

        back : Contains ms w ⊎ ShortestOfOne vs R os r.count w → Contains after w
        back c = ⊎_elim (λ d. contains_left ms y.more w d) of_record c

    after_all : AfterAll vs file used records list r file' list'
    after_all = record {
      rules = R;
      before = ms;
      more = y.more;
      grown = grown;
      none_taken = λ h. let n = y.none_changes (sym count ∙ h) in (f ∙ n.0, place ∙ n.1);
      at_most_one = omega (arith, y.few, count);
      origin = λ w h. rw count (y.origin w h);
      taken = taken_at;
      all = all_taken y.ended;
      next = next_refused y.ended;
      holds = holds_all;
      past = rw l (over_past list 0 b.numbers r.count (omega (arith, count)));
      as_long = rw l (length_overlay 1 one (λ x. refl) list 0 b.numbers);
    }

    batch_numbered : Ended vs os b → (r.number ≡ 0) ⊎ ByAddition r.number
    batch_numbered (All z e) = inl (number ∙ z)
    batch_numbered (AtCut e x) = inr (inr (inl (omega (arith, number), omega (arith, number))))
    batch_numbered (AtRefused m e k p x) =
        inr (rw number (addition_numbered vs b.file b.used b.refusal k p m x))

  -- ---- what a call gives
  module _ (work bytes : List ℕ) (g : AddAllCall vs file used records work bytes list r file' list') where
    abbrev checked_batch : Listing → Result Batch
    checked_batch l = batch_listed vs file used records l

    little : (Enough vs work bytes → ⊥) → OfAddAll vs file used records work bytes list r file' list'
    little h =
        let e = with_little vs work bytes (checked_batch (listing_to_extend vs file used)) h in
        let q : r ≡ answer no_room 0 0 = g.report ∙ ap batch_report e in
        record {
          numbered =
              let n = ap (λ (z : Report). z.number) q in
              inr (inl (omega arith, omega arith));
          little_memory = λ k. (q, g.after ∙ ap (batch_file file) e, g.numbers ∙ ap (batch_numbers list) e);
          faulty_file = λ enough. absurd (h enough);
          checked = λ enough. absurd (h enough);
        }

    module _ (enough : Enough vs work bytes) where
      faulty : (x p : ℕ) → listing_to_extend vs file used ≡ Faulty x p
          → OfAddAll vs file used records work bytes list r file' list'
      faulty x p l =
          let e : batch_result vs file used records work bytes ≡ Refuse x 0 p =
          with_enough vs work bytes (checked_batch (listing_to_extend vs file used)) enough ∙ ap checked_batch l in
          let q : r ≡ answer x 0 p = g.report ∙ ap batch_report e in
          record {
            numbered = inr (inr (inl (subst ByFile (sym (ap (λ (z : Report). z.number) q))
                (extend_numbered vs file used x p l))));
            little_memory = λ h. absurd (h enough);
            faulty_file = λ k y o l₂.
                let a : x ≡ y = cc in
                let b : p ≡ o = cc in (
                  q ∙ (λ i. answer (a i) 0 (b i)),
                  g.after ∙ ap (batch_file file) e,
                  g.numbers ∙ ap (batch_numbers list) e,
                );
            checked = λ k R ms l₂. never cc;
          }

      lists : (R : Rules) (ms : Messages) → listing_to_extend vs file used ≡ Lists R ms
          → OfAddAll vs file used records work bytes list r file' list'
      lists R ms l =
          let b = additions vs file used os in
          let e : batch_result vs file used records work bytes ≡ Accept b =
          with_enough vs work bytes (checked_batch (listing_to_extend vs file used)) enough ∙ ap checked_batch l in
          let q = g.report ∙ ap batch_report e in
          let f = g.after ∙ ap (batch_file file) e in
          let n = g.numbers ∙ ap (batch_numbers list) e in
          let y = additions_added vs R sound os ms file used l in
          record {
            numbered = batch_numbered R ms b y q f n y.ended;
            little_memory = λ h. absurd (h enough);
            faulty_file = λ k x p l₂. never cc;
            checked = λ k S ns l₂. after_all R ms b y q f n;
          }

    pub of_add_all : OfAddAll vs file used records work bytes list r file' list'
    of_add_all = ⊎_elim (λ enough. go enough (listing_to_extend vs file used) refl) little (memory vs work bytes)
      where
        go : Enough vs work bytes → (l : Listing) → listing_to_extend vs file used ≡ l
            → OfAddAll vs file used records work bytes list r file' list'
        go enough (Faulty x p) e = faulty enough x p e
        go enough (Lists R ms) e = lists enough R ms e

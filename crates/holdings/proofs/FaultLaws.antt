-- Laws of a file's faults: of its header, or of the first faulty entry, up to which it lists.
use Rattle.std.specs.Prelude.{◌≡◌, refl, ◌⊎◌, ℕ, ◌+◌, ◌-◌, ◌≤◌, eqb, ltb, length, take, drop}
use Rattle.std.proofs.Common.{sym, ◌∙◌, inr, arith, length-drop, drop_of_length-le, take-take, take-add, drop_at, length-take-le, ltb-true, ltb-false, eqb-true}
use Rattle.std.proofs.Math.Path.{ap, subst}
use Rattle.std.proofs.Math.Logic.{inl}
use mathlib.Core.List.{List, [], ◌∷◌, ◌++◌}
use Rattle.std.proofs.Math.Option.{Option, none, some}
use Rattle.std.proofs.lemmas.List.{drop-append-le}
use Rattle.flow.specs.RefusalNumbers.{wrong_mark, unknown_version, cut_entry}
use Rattle.flow.specs.Tests.{pick_either}
use Rattle.flow.specs.Flow.{same_list}
use Rattle.wire.specs.BigEndian.{joined}
use Rattle.record.proofs.Laws.Answering.{never}
use Rattle.holdings.specs.Files.{Rules, Versions, rules_of, mark, mark_size, version_size, header_size, length_size}
use Rattle.holdings.specs.Files.{message_size, entry_size, entries_in, Listing, Lists, Faulty, fault_of, lists_from}
use Rattle.holdings.specs.Files.{version_in, lists_by, listing_of, listing}
use Rattle.holdings.specs.Terms.{Messages, HeaderFaulty, Beyond, Unmarked, Unversioned, entry_fault, EntryFaulty}
use Rattle.holdings.specs.EntryLaws.{Entries, wholes}
use Rattle.holdings.proofs.EntryLaws.{same_is, same_self, wholes_append, entries_none}
use Rattle.holdings.proofs.EntryLaws.{entries_whole, EntryFirst, entries_first, entries_append, lists_more}
use Rattle.holdings.proofs.FileLaws.{Listed, version_known, within_listing, entries_next}

-- ---- the first entry alone
drop_take : (k n : ℕ) (s : List ℕ) → k ≤ length s → drop k (take (k + n) s) ≡ take n (drop k s)
drop_take k n s l = ap (drop k) (take-add k n s) ∙ drop_at (take k s) (take n (drop k s)) k (length-take-le k s l)

entry_alone : (s m : List ℕ) (os : Entries) → EntryFirst s m os → entries_in (take (entry_size s) s) ≡ wholes (m ∷ [])
entry_alone s m os x =
    let t = take (entry_size s) s in
    let fits = x.fits in
    let n : message_size t ≡ message_size s =
    ap (joined 0) (take-take length_size (entry_size s) s (omega arith)) in
    let l : length t ≡ entry_size s = length-take-le (entry_size s) s fits in
    let is : take (message_size s) (drop length_size t) ≡ m =
    ap (take (message_size s)) (drop_take length_size (message_size s) s (omega arith))
    ∙ take-take (message_size s) (message_size s) (drop length_size s) (omega arith)
    ∙ x.message in
    let rest : drop (entry_size t) t ≡ [] = drop_of_length-le t {i = entry_size t} (omega arith) in
    entries_whole t (omega arith)
    ∙ (λ i. some (take (n i) (drop length_size t)) ∷ entries_in (rest i))
    ∙ (λ i. some (is i) ∷ entries_none i)

-- ---- from an entry to the next
module _ (f : List ℕ) (R : Rules) where
  -- up to the place p there are whole entries, which list
  record ListsTo (p : ℕ) (ms : Messages) : Type 0 where
    behind_header : header_size ≤ p
    inside : p ≤ length f
    entries : entries_in (drop header_size (take p f)) ≡ wholes ms
    lists : lists_from R header_size [] (wholes ms) ≡ Lists R ms

  lists_next : (p : ℕ) (ms : Messages) (m : List ℕ) (os : Entries) → ListsTo p ms → EntryFirst (drop p f) m os
      → fault_of R ms m ≡ 0 → ListsTo (p + (length_size + length m)) (ms ++ (m ∷ []))
  lists_next p ms m os x y h =
      let k : length_size + length m ≡ entry_size (drop p f) = omega (arith, y.sized) in
      let n : length (take p f) ≡ p = length-take-le p f x.inside in
      let whole : wholes (ms ++ (m ∷ [])) ≡ wholes ms ++ wholes (m ∷ []) = wholes_append ms (m ∷ []) in
      let behind = x.behind_header in
      record {
        behind_header = omega arith;
        inside = omega (arith, y.fits, length-drop p f, x.inside);
        entries =
            ap (λ (s : List ℕ). entries_in (drop header_size s)) (take-add p (length_size + length m) f)
            ∙ ap entries_in
            (drop-append-le header_size (take p f) (take (length_size + length m) (drop p f)) (omega arith))
            ∙ entries_append ms (drop header_size (take p f)) (take (length_size + length m) (drop p f)) x.entries
            ∙ ap (λ (j : ℕ). wholes ms ++ entries_in (take j (drop p f))) k
            ∙ ap (λ (l : Entries). wholes ms ++ l) (entry_alone (drop p f) m os y)
            ∙ sym whole;
        lists = ap (lists_from R header_size []) whole ∙ lists_more R header_size [] ms m x.lists h;
      }

  -- the entry at q has the fault x, after entries that list
  record FaultsAt (x q : ℕ) : Type 0 where
    messages : Messages
    before : ListsTo q messages
    entry : Option (List ℕ)
    rest : Entries
    entries : entries_in (drop q f) ≡ entry ∷ rest
    fault : x ≡ entry_fault R messages entry

  lists_to_fault : (os : Entries) (p : ℕ) (ms : Messages) (x q : ℕ) → entries_in (drop p f) ≡ os → ListsTo p ms
      → lists_from R p ms os ≡ Faulty x q → FaultsAt x q
  lists_to_fault [] p ms x q e y = λ h. never cc
  lists_to_fault (none ∷ os) p ms x q e y = λ h.
      let z : p ≡ q = cc in
      subst (FaultsAt x) z (record { messages = ms; before = y; entry = none; rest = os; entries = e; fault = cc })
  lists_to_fault (some m ∷ os) p ms x q e y =
      let first = entries_first (drop p f) m os e in
      pick_either (λ (l : Listing). l ≡ Faulty x q → FaultsAt x q) (eqb (fault_of R ms m) 0)
      (λ t h. lists_to_fault os (p + (length_size + length m)) (ms ++ (m ∷ [])) x q (entries_next f p m os first)
      (lists_next p ms m os y first (eqb-true (fault_of R ms m) 0 t)) h)
      (λ t h.
      let z : p ≡ q = cc in
      subst (FaultsAt x) z (record { messages = ms; before = y; entry = some m; rest = os; entries = e; fault = cc }))

-- ---- whole files
module _ (vs : Versions) (f : List ℕ) (R : Rules) where
  front_listed : (q : ℕ) (ms : Messages) → take mark_size f ≡ mark
      → rules_of vs (joined 0 (take version_size (drop mark_size f))) ≡ some R → ListsTo f R q ms
      → Listed vs (take q f) R ms
  front_listed q ms marked version x =
      let behind = x.behind_header in
      let inside = x.inside in
      let k : q ≡ mark_size + (q - mark_size) = omega arith in
      let d : drop mark_size (take q f) ≡ take (q - mark_size) (drop mark_size f) =
      ap (λ (j : ℕ). drop mark_size (take j f)) k ∙ drop_take mark_size (q - mark_size) f (omega arith) in
      let v : take version_size (drop mark_size (take q f)) ≡ take version_size (drop mark_size f) =
      ap (take version_size) d ∙ take-take version_size (q - mark_size) (drop mark_size f) (omega arith) in
      record {
        long = omega (arith, length-take-le q f inside);
        marked = take-take mark_size q f (omega arith) ∙ marked;
        version = ap (λ (s : List ℕ). rules_of vs (joined 0 s)) v ∙ version;
        entries = x.entries;
        lists = x.lists;
      }

  start_lists : header_size ≤ length f → ListsTo f R header_size []
  start_lists l =
      let n = length-take-le header_size f l in
      let d : drop header_size (take header_size f) ≡ [] =
      drop_of_length-le (take header_size f) {i = header_size} (omega arith) in
      record {
        behind_header = omega arith;
        inside = l;
        entries = ap entries_in d ∙ entries_none;
        lists = refl;
      }

module _ (vs : Versions) (file : List ℕ) (used x p : ℕ) where
  abbrev f : List ℕ
  f = take used file

  -- an entry's fault
  of_entry : used ≤ length file → take mark_size f ≡ mark → (R : Rules)
      → (header_size ≤ length f) × (rules_of vs (joined 0 (take version_size (drop mark_size f))) ≡ some R)
      → lists_from R header_size [] (entries_in (drop header_size f)) ≡ Faulty x p → EntryFaulty vs file used x p
  of_entry l marked R version h =
      let y = lists_to_fault f R (entries_in (drop header_size f)) header_size [] x p refl
      (start_lists vs f R version.0) h in
      let inside = y.before.inside in
      let n = length-take-le used file l in
      let front : take p f ≡ take p file = take-take p used file (omega arith) in
      let listed = front_listed vs f R p y.messages marked version.1 y.before in
      record {
        rules = R;
        messages = y.messages;
        lists = within_listing vs file p R y.messages (omega arith)
            (subst (λ (s : List ℕ). Listed vs s R y.messages) front listed);
        entry = y.entry;
        rest = y.rest;
        entries = y.entries;
        fault = y.fault;
      }

  abbrev AtFault : Type 0
  AtFault = (HeaderFaulty vs file used x × (p ≡ 0)) ⊎ EntryFaulty vs file used x p

  by_version : used ≤ length file → take mark_size f ≡ mark → (o : Option Rules) → version_in vs f ≡ o
      → lists_by f o ≡ Faulty x p → AtFault
  by_version l marked none q h =
      let z : unknown_version ≡ x = cc in
      inl (subst (HeaderFaulty vs file used) z (Unversioned marked q), cc)
  by_version l marked (some R) q h = inr (of_entry l marked R (version_known vs f R q) h)

  pub faulty_at : listing vs file used ≡ Faulty x p → AtFault
  unfolding listing listing_of
  faulty_at = pick_either (λ (l : Listing). l ≡ Faulty x p → AtFault) (ltb (length file) used)
      (λ t h.
      let z : cut_entry ≡ x = cc in
      inl (subst (HeaderFaulty vs file used) z (Beyond (ltb-true (length file) used t)), cc))
      (λ t. pick_either (λ (l : Listing). l ≡ Faulty x p → AtFault) (same_list (take mark_size f) mark)
      (λ s. by_version (ltb-false (length file) used t) (same_is (take mark_size f) mark s) (version_in vs f) refl)
      (λ s h.
      let z : wrong_mark ≡ x = cc in
      inl (
        subst (HeaderFaulty vs file used) z (Unmarked (λ e.
            let same = ap (λ (l : List ℕ). same_list l mark) e ∙ same_self mark in never cc)),
        cc,
      )))

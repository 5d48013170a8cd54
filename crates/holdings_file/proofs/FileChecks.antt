-- What the contracts of src/files.rt ask at each way out.
use mathlib.Core.Path.{◌≡◌, refl, sym, ◌∙◌, ap, subst}
use mathlib.Core.Bool.{Bool, true, false, not}
use mathlib.Core.List.{List, [], ◌∷◌, ◌++◌}
use mathlib.Core.Option.{none, some}
use Prim.Native.Nat.{ℕ, zero, suc, ◌+◌, ◌-◌, ◌%◌, ◌^◌, ◌≤◌, ◌<◌}
use native.Mathlib.Omega.{arith}
use lib.ListN.{length, take, drop, get_or, length-take, length-drop, length-append, drop_of_length-le}
use lib.Seq.{length-take-le, take_all, take-take, take-add, drop_at, drop-append-le}
use mir.Syntax.{w8}
use mir.Val.{Fits}
use lib.Dec.{eqb}
use borrow.Author.Tests.{le-ltb, lt-ltb, eq-eqb, ne_eqb, eqb-true, eqb-false}
use Rattle.std.specs.Option.{option_eq}
use Rattle.std.specs.Prelude.{None, Some, Result, Ok, Err}
use Rattle.std.specs.declared.option.Option as code
use Rattle.flow.specs.RefusalNumbers.{wrong_mark, unknown_version, cut_entry, repeated_entry}
use Rattle.flow.specs.Tests.{by_cases, split, pick_true, pick_false, bytes_all, bytes_take, bytes_drop}
use Rattle.flow.specs.Flow.{same_list, One}
use Rattle.wire.specs.BigEndian.{joined}
use Rattle.wire.specs.Laws.{joined_below}
use Rattle.scalar.specs.Refusals.{number_of as number_of_refusal}
use Rattle.scalar.specs.declared.refusals.Refusal.{Refusal}
use Rattle.scalar.specs.declared.refusals.Refusal.TheVariants as refusal
use Rattle.scalar.specs.declared.refusals.Refused.{Refused}
use Rattle.holdings.specs.Files.{versions, rules_of, mark, mark_size, version_size, header_size, length_size, message_size}
use Rattle.holdings.specs.Files.{entry_size, entries_in, Lists, Faulty, number_of, fault_of, lists_from, lists_by, listing_of}
use Rattle.holdings.specs.Terms.{Messages}
use Rattle.holdings.specs.EntryLaws as model
use Rattle.holdings.specs.EntryLaws.{wholes}
use Rattle.holdings.proofs.EntryLaws.{wholes_append, entries_none, entries_whole}
use Rattle.holdings.proofs.EntryLaws.{entries_append, faultless, lists_one, lists_fault}
use Rattle.holdings_file.specs.declared.entries.Entry.{Entry}
use Rattle.holdings_file.specs.declared.index.Index.{Index}
use Rattle.holdings_file.specs.Promises.{held_in, EntryAt, IsCut, FaultAlone, newest_rules, version_of, listing_opened}
use Rattle.holdings_file.specs.Index.{Indexing, WholeIndexed, Fresh, FaultIs, CheckMet}
use Rattle.holdings_file.proofs.EntryWalks.{entry_sized, entry_message, entries_next, entries_ended, entries_cut, held_wholes}

-- ---- the version
module _ (f : List ℕ) where
  abbrev version_bytes : ℕ
  version_bytes = joined 0 (take version_size (drop mark_size f))

  pub version_cut : length f < header_size → None ≡ version_of f
  version_cut h = sym (pick_true {A = code.Option ℕ} None (Some version_bytes) (lt-ltb (length f) header_size h))

  pub version_there : header_size ≤ length f → Some version_bytes ≡ version_of f
  version_there h = sym (pick_false {A = code.Option ℕ} None (Some version_bytes) (le-ltb (length f) header_size h))

  pub version_is : header_size ≤ length f → ((i : ℕ) → Fits w8 (get_or f i 0)) → (v : ℕ)
      → v ≡ joined 0 (take version_size (drop mark_size f)) % 2 ^ 64
      → Some v ≡ version_of f
  version_is l b v e =
      let n : length (take version_size (drop mark_size f)) ≡ version_size =
      length-take-le version_size (drop mark_size f) (omega (arith, length-drop mark_size f)) in
      let s = joined_below (take version_size (drop mark_size f)) version_size 0 1 n
      (bytes_take version_size (drop mark_size f) (bytes_drop mark_size f (bytes_all f (λ i. (b i).fits)))) (omega arith) in
      let q : v ≡ version_bytes = omega arith in
      ap {B = code.Option ℕ} Some q ∙ version_there l

-- a test of it
unlike : (v : code.Option ℕ) (n : ℕ) → not (option_eq eqb v (Some n)) ≡ true → v ≡ Some n → ⊥
unlike None n h e = cc
unlike (Some v) n h e =
    by_cases (eqb v n)
    (λ t. let z : not true ≡ true = ap not (sym t) ∙ h in cc)
    (λ t. let q : v ≡ n = cc in eqb-false v n t q)

alike : (v : code.Option ℕ) (n : ℕ) → not (option_eq eqb v (Some n)) ≡ false → v ≡ Some n
alike None n h = cc
alike (Some v) n h =
    by_cases (eqb v n)
    (λ t. ap {B = code.Option ℕ} Some (eqb-true v n t))
    (λ t. let z : not false ≡ false = ap not (sym t) ∙ h in cc)

-- ---- the fault of an entry
module _ (f m : List ℕ) where
  pub fault_own : (r : Refusal) → FaultAlone m (Err r) → FaultIs (fault_of newest_rules (held_in f) m) (Err r)
  fault_own r h = h (held_in f)

  module _ (h : FaultAlone m (Ok tt)) (n k : ℕ) (c : n ≡ length (held_in f)) (e : k ≡ number_of m (held_in f)) where
    pub fault_again : k < n → FaultIs (fault_of newest_rules (held_in f) m) (Err refusal.RepeatedEntry)
    fault_again l = h (held_in f)
        ∙ pick_true repeated_entry 0 (lt-ltb (number_of m (held_in f)) (length (held_in f)) (omega arith))

    pub fault_none : n ≤ k → FaultIs (fault_of newest_rules (held_in f) m) (Ok tt)
    fault_none l = h (held_in f)
        ∙ pick_false repeated_entry 0 (le-ltb (number_of m (held_in f)) (length (held_in f)) (omega arith))

-- ---- the entries checked so far: those before the place p
pub record Checking (f : List ℕ) (x : Index) (p n : ℕ) : Type 0 where
  pub low : header_size ≤ p
  pub high : p ≤ length f
  pub few : n ≤ p
  pub so_far : WholeIndexed (take p f) n x
  pub lists : lists_from newest_rules header_size [] (entries_in (drop header_size f))
      ≡ lists_from newest_rules p (held_in (take p f)) (entries_in (drop p f))

pub checking_start : (f : List ℕ) (x : Index) → Indexing x [] → header_size ≤ length f → {p : ℕ} → p ≡ header_size
    → Checking f x p 0
checking_start f x i l {p} q = subst (λ (k : ℕ). Checking f x k 0) (sym q) (
    let d : drop header_size (take header_size f) ≡ [] =
    drop_of_length-le (take header_size f) {i = header_size} (omega (arith, length-take header_size f)) in
    let e : entries_in (drop header_size (take header_size f)) ≡ wholes [] = ap entries_in d ∙ entries_none in
    let h : held_in (take header_size f) ≡ [] = held_wholes (take header_size f) [] e in
    record {
      low = omega arith;
      high = l;
      few = omega arith;
      so_far = record {
        whole = e ∙ ap wholes (sym h);
        count = ap length (sym h);
        indexing = subst (Indexing x) (sym h) i;
      };
      lists = ap (λ (ms : Messages). lists_from newest_rules header_size ms (entries_in (drop header_size f))) (sym h);
    })

-- one entry's bytes are its message's entry
one_entry : (s : List ℕ) → entry_size s ≤ length s
    → entries_in (take (entry_size s) s) ≡ wholes (take (message_size s) (drop length_size s) ∷ [])
one_entry s l =
    let n : length (take (entry_size s) s) ≡ entry_size s = length-take-le (entry_size s) s l in
    let c : message_size (take (entry_size s) s) ≡ message_size s =
    ap (joined 0) (take-take length_size (entry_size s) s (omega arith)) in
    let d : drop length_size (take (entry_size s) s) ≡ take (message_size s) (drop length_size s) =
    ap (drop length_size) (take-add length_size (message_size s) s)
    ∙ drop_at (take length_size s) (take (message_size s) (drop length_size s)) length_size
    (length-take-le length_size s (omega arith)) in
    let r : drop (entry_size (take (entry_size s) s)) (take (entry_size s) s) ≡ [] =
    drop_of_length-le (take (entry_size s) s) {i = entry_size (take (entry_size s) s)} (omega arith) in
    entries_whole (take (entry_size s) s) (omega arith)
    ∙ (λ i. some (take (c i) (d i)) ∷ entries_in (r i))
    ∙ (λ i. some (take-take (message_size s) (message_size s) (drop length_size s) (omega arith) i) ∷ entries_none i)

module _ (f : List ℕ) (x : Index) (p n : ℕ) (c : Checking f x p n) where
  abbrev Entered : Result ℕ Refused → Index → Type 0
  Entered r x' = CheckMet (lists_from newest_rules header_size [] (entries_in (drop header_size f))) f r x'

  abbrev before : Messages
  before = held_in (take p f)

  pub check_all : length f ≤ p → Entered (Ok n) x
  check_all l =
      let t : take p f ≡ f = take_all p f l in
      record {
        lists = c.lists
            ∙ ap (lists_from newest_rules p before) (entries_ended f p l)
            ∙ ap (λ (s : List ℕ). Lists newest_rules (held_in s)) t;
        count = c.so_far.count ∙ ap (λ (s : List ℕ). length (held_in s)) t;
        indexing = subst (λ (s : List ℕ). Indexing x (held_in s)) t c.so_far.indexing;
      }

  pub check_cut : p < length f → IsCut f p → (r : Refused) → r ≡ record { refusal = refusal.CutEntry; place = p }
      → (x' : Index) → Entered (Err r) x'
  check_cut h y r q x' = c.lists ∙ ap (lists_from newest_rules p before) (entries_cut f p h y)
      ∙ ap (λ (z : Refused). Faulty (number_of_refusal z.refusal) z.place) (sym q)

  module _ (e : Entry) (y : EntryAt f p e) where
    abbrev m : List ℕ
    m = e.message.now

    next : lists_from newest_rules p before (entries_in (drop p f))
        ≡ lists_from newest_rules p before (some m ∷ entries_in (drop e.end f))
    next = ap (lists_from newest_rules p before) (entries_next y)

    at_place : fault_of newest_rules (held_in (take e.at f)) m ≡ fault_of newest_rules before m
    at_place = ap (λ (k : ℕ). fault_of newest_rules (held_in (take k f)) m) y.at

    pub check_fault : (r : Refusal) → fault_of newest_rules (held_in (take e.at f)) e.message.now ≡ number_of_refusal r
        → (x' : Index) → Entered (Err (record { refusal = r; place = e.at })) x'
    check_fault r q x' =
        let z : fault_of newest_rules before m ≡ number_of_refusal r = sym at_place ∙ q in
        c.lists
        ∙ next
        ∙ lists_fault newest_rules p before m (entries_in (drop e.end f)) (λ v. numbered r (sym z ∙ v))
        ∙ (λ i. Faulty (z i) (sym y.at i))
      where
        numbered : (r : Refusal) → number_of_refusal r ≡ 0 → ⊥
        numbered refusal.Length h = omega arith
        numbered refusal.Cut h = omega arith
        numbered refusal.Byte h = omega arith
        numbered refusal.Utf8 h = omega arith
        numbered refusal.Negative h = omega arith
        numbered refusal.Ungiven h = omega arith
        numbered refusal.Ceiling h = omega arith
        numbered refusal.After h = omega arith
        numbered refusal.Room h = omega arith
        numbered refusal.NoRecord h = omega arith
        numbered refusal.Mark h = omega arith
        numbered refusal.Version h = omega arith
        numbered refusal.CutEntry h = omega arith
        numbered refusal.RefusedEntry h = omega arith
        numbered refusal.NotShortest h = omega arith
        numbered refusal.RepeatedEntry h = omega arith

    -- the entries up to its end
    grown : entries_in (drop header_size (take e.end f)) ≡ wholes (before ++ (m ∷ []))
    grown =
        let s = drop p f in
        let fits : entry_size s ≤ length s = omega (arith, y.ends.is, y.ends.within, length-drop p f) in
        let t : take e.end f ≡ take p f ++ take (entry_size s) s =
        ap (λ (k : ℕ). take k f) y.ends.is ∙ take-add p (entry_size s) f in
        let d : drop header_size (take e.end f) ≡ drop header_size (take p f) ++ take (entry_size s) s =
        ap (drop header_size) t
        ∙ drop-append-le header_size (take p f) (take (entry_size s) s)
        (omega (arith, c.low, length-take-le p f c.high)) in
        ap entries_in d
        ∙ entries_append before (drop header_size (take p f)) (take (entry_size s) s) c.so_far.whole
        ∙ ap (λ (l : model.Entries). wholes before ++ l)
        (one_entry s fits ∙ ap (λ (w : List ℕ). wholes (w ∷ [])) (entry_message y))
        ∙ sym (wholes_append before (m ∷ []))

    held_grown : held_in (take e.end f) ≡ before ++ (m ∷ [])
    held_grown = held_wholes (take e.end f) (before ++ (m ∷ [])) grown

    module _ (q : fault_of newest_rules (held_in (take e.at f)) e.message.now ≡ 0) where
      z : fault_of newest_rules before m ≡ 0
      z = sym at_place ∙ q

      pub check_fresh : Fresh (take e.end f) e.message.now n x
      check_fresh = record {
        before = before;
        entries = grown;
        long = omega (arith, length-take-le e.end f y.ends.within, entry_sized y);
        number = c.so_far.count;
        new = (faultless newest_rules before m z).new;
        indexing = c.so_far.indexing;
      }

      pub checking_next : (x' : Index) → Indexing x' (held_in (take e.end f)) → {k : ℕ} → k ≡ e.end
          → Checking f x' k (n + 1)
      checking_next x' i u =
          let g = held_grown in
          let count = c.so_far.count in
          subst (λ (j : ℕ). Checking f x' j (n + 1)) (sym u) (record {
            low = omega (arith, c.low, entry_sized y);
            high = y.ends.within;
            few = omega (arith, c.few, entry_sized y);
            so_far = record {
              whole = grown ∙ ap wholes (sym g);
              count = omega (arith, ap length g, length-append before (m ∷ []));
              indexing = i;
            };
            lists =
                c.lists
                ∙ next
                ∙ lists_one newest_rules p before m (entries_in (drop e.end f)) z
                ∙ (λ j. lists_from newest_rules (entry_sized y j) (sym g j) (entries_in (drop e.end f)));
          })

-- ---- the whole file
rules_none : (v : ℕ) → (v ≡ 1 → ⊥) → rules_of versions v ≡ none
rules_none zero h = refl
rules_none (suc zero) h = absurd (h refl)
rules_none (suc (suc v)) h = refl

module _ (f : List ℕ) (r : Bool) (e : r ≡ same_list (take mark_size f) mark) where
  pub check_unmarked : r ≡ false → (x' : Index)
      → CheckMet (listing_of versions f) f (Err (record { refusal = refusal.Mark; place = 0 })) x'
  unfolding listing_of
  check_unmarked h x' = pick_false _ _ (sym e ∙ h)

  module _ (h : r ≡ true) (v : code.Option ℕ) (q : v ≡ version_of f) where
    pub check_unknown : not (option_eq eqb v (Some 1)) ≡ true → (x' : Index)
        → CheckMet (listing_of versions f) f (Err (record { refusal = refusal.Version; place = 0 })) x'
    unfolding listing_of
    check_unknown z x' = pick_true _ _ (sym e ∙ h) ∙ ap (lists_by f) (split (length f) header_size
        (λ l. pick_true none (rules_of versions (version_bytes f)) (lt-ltb (length f) header_size l))
        (λ l. pick_false none (rules_of versions (version_bytes f)) (le-ltb (length f) header_size l)
        ∙ rules_none (version_bytes f) (λ y. unlike v 1 z (q ∙ sym (version_there f l) ∙ ap {B = code.Option ℕ} Some y))))

    pub check_long : not (option_eq eqb v (Some 1)) ≡ false → header_size ≤ length f
    check_long z = split (length f) header_size
        (λ l. let z : ◌≡◌ {A = code.Option ℕ} (Some 1) None = sym (alike v 1 z) ∙ q ∙ sym (version_cut f l) in cc)
        (λ l. l)

    pub check_known : not (option_eq eqb v (Some 1)) ≡ false → (s : Result ℕ Refused) (x' : Index)
        → CheckMet (lists_from newest_rules header_size [] (entries_in (drop header_size f))) f s x'
        → CheckMet (listing_of versions f) f s x'
    unfolding listing_of
    check_known z s x' k =
        let l = check_long z in
        let a : Some (version_bytes f) ≡ Some 1 = version_there f l ∙ sym q ∙ alike v 1 z in
        let j : version_bytes f ≡ 1 = cc in
        subst (λ l. CheckMet l f s x')
        (sym (pick_true _ _ (sym e ∙ h) ∙ ap (lists_by f)
        (pick_false none (rules_of versions (version_bytes f)) (le-ltb (length f) header_size l)
        ∙ ap (rules_of versions) j)))
        k

-- ---- a file to extend
pub opened_new : (f : List ℕ) (x : Index) → length f ≡ 0 → Indexing x [] → CheckMet (listing_opened f) f (Ok 0) x
opened_new f x z i =
    let h = held_none f z in
    record {
      lists = pick_true _ _ (eq-eqb (length f) 0 z) ∙ ap (Lists newest_rules) (sym h);
      count = ap length (sym h);
      indexing = subst (Indexing x) (sym h) i;
    }
  where
    held_none : (f : List ℕ) → length f ≡ 0 → held_in f ≡ []
    held_none [] z = held_wholes [] [] entries_none
    held_none (b ∷ f) z = absurd (omega arith)

pub opened_old : (f : List ℕ) → (length f ≡ 0 → ⊥) → (s : Result ℕ Refused) (x' : Index)
    → CheckMet (listing_of versions f) f s x' → CheckMet (listing_opened f) f s x'
opened_old f z s x' k = subst (λ l. CheckMet l f s x') (sym (pick_false _ _ (ne_eqb (length f) 0 z))) k

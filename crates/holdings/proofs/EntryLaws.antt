-- Laws of entries: numbers of messages, the entries that bytes consist of, faults of entries, what entries list as.
use Rattle.std.specs.Prelude.{◌≡◌, Bool, true, false, ◌⊎◌, List, [], ◌∷◌, ◌++◌, ℕ, zero, suc, ◌+◌, ◌^◌, ◌≤◌, ◌<◌, T, eqb, leb, length, take, drop}
use Rattle.std.proofs.Math.Path.{refl, ap}
use Rattle.std.proofs.Common.{sym, ◌∙◌, subst, inl, inr, ⊎_elim, append_assoc, append-nil, arith, length-append, length-drop, drop_of_length-le, take_all, length-take-le}
use Rattle.std.proofs.Math.Option.{Option, none, some}
use Rattle.std.proofs.Math.ListN.{get_elem?}
use Rattle.std.proofs.lemmas.List.{take-append-le, drop-append-le}
use borrow.Author.Tests.{ltb-false, le-ltb, lt-ltb, le-leb, lt-leb, eq-eqb, ne_eqb, eqb-true}
use Rattle.flow.specs.RefusalNumbers.{refused_entry, not_shortest, repeated_entry}
use Rattle.flow.specs.Tests.{by_cases, split, pick_true, pick_false, pick_either, same_eq, same_refl, bytes_take}
use Rattle.flow.specs.Tests.{bytes_drop}
use Rattle.flow.specs.Flow.{pick, Bytes, same_list, Entry, Outcome, Done, Fault, One, items}
use Rattle.wire.specs.BigEndian.{joined}
use Rattle.record.specs.Model.Items.{Item, Known}
use Rattle.record.proofs.Laws.Answering.{never}
use Rattle.holdings.specs.Files.{Rules, reads_by, shortest_by, length_size, entry_of, message_size, entry_size}
use Rattle.holdings.specs.Files.{entries_up_to, entries_in, Listing, Lists, Faulty, number_of, is_held, is_message}
use Rattle.holdings.specs.Files.{fault_by, fault_of, lists_from}
use Rattle.holdings.specs.Terms.{Messages, Distinct, ShortensTo}
use Rattle.holdings.specs.EntryLaws.{Entries, wholes}

-- ---- equal messages
pub same_is : (s t : List ℕ) → same_list s t ≡ true → s ≡ t
same_is s t e = same_eq s t (subst T (sym e) tt)

pub same_self : (s : List ℕ) → same_list s s ≡ true
same_self s = passed (same_list s s) (same_refl s)
  where
    passed : (b : Bool) → T b → b ≡ true
    passed true h = refl
    passed false h = absurd h

-- ---- the number of a message
pub number_within : (m : List ℕ) (ms : Messages) → number_of m ms ≤ length ms
number_within m [] = omega arith
number_within m (x ∷ ms) = pick_either (λ n. n ≤ suc (length ms)) (same_list m x)
    (λ t. omega arith)
    (λ t. omega (arith, number_within m ms))

-- the message has it
pub number_found : (m : List ℕ) (ms : Messages) → number_of m ms < length ms → get_elem? ms (number_of m ms) ≡ some m
number_found m [] = λ l. absurd (omega arith)
number_found m (x ∷ ms) =
    pick_either (λ n. n < suc (length ms) → get_elem? (x ∷ ms) n ≡ some m) (same_list m x)
    (λ t l. ap {B = Option (List ℕ)} some (sym (same_is m x t)))
    (λ t l. number_found m ms (omega arith))

-- no message before it is the same
pub number_first : (m : List ℕ) (ms : Messages) (i : ℕ) → get_elem? ms i ≡ some m → number_of m ms ≤ i
number_first m [] i e = never cc
number_first m (x ∷ ms) zero e =
    let q : x ≡ m = cc in rw (q, pick_true 0 (suc (number_of m ms)) (same_self m)) (omega arith)
number_first m (x ∷ ms) (suc i) e = pick_either (λ n. n ≤ suc i) (same_list m x)
    (λ t. omega arith)
    (λ t. omega (arith, number_first m ms i e))

-- with more messages behind: of a message that was there
pub number_old : (m : List ℕ) (ms ns : Messages) → number_of m ms < length ms → number_of m (ms ++ ns) ≡ number_of m ms
number_old m [] ns = λ l. absurd (omega arith)
number_old m (x ∷ ms) ns = by_cases (same_list m x)
    (λ t l. pick_true _ _ t ∙ sym (pick_true _ _ t))
    (λ t l. let f = pick_false 0 (suc (number_of m ms)) t in
    pick_false _ _ t ∙ ap suc (number_old m ms ns (omega arith)) ∙ sym f)

-- and of one that was not
pub number_new : (m : List ℕ) (ms ns : Messages) → length ms ≤ number_of m ms
    → number_of m (ms ++ ns) ≡ length ms + number_of m ns
number_new m [] ns = λ l. omega arith
number_new m (x ∷ ms) ns = by_cases (same_list m x)
    (λ t l. absurd (let f = pick_true 0 (suc (number_of m ms)) t in omega arith))
    (λ t l. let f = pick_false 0 (suc (number_of m ms)) t in
    pick_false _ _ t ∙ omega (arith, number_new m ms ns (omega arith)))

pub number_last : (m : List ℕ) (ms : Messages) → length ms ≤ number_of m ms → number_of m (ms ++ (m ∷ [])) ≡ length ms
number_last m ms l =
    number_new m ms (m ∷ []) l ∙ rw (pick_true 0 (suc (number_of m [])) (same_self m)) (omega arith)

-- ---- an index of a list
pub elem_inside : {A : Type 0} (l : List A) (i : ℕ) (x : A) → get_elem? l i ≡ some x → i < length l
elem_inside [] i x = λ e. never cc
elem_inside (y ∷ l) zero x = λ e. omega arith
elem_inside (y ∷ l) (suc i) x = λ e. omega (arith, elem_inside l i x e)

pub elem_more : {A : Type 0} (l ns : List A) (i : ℕ) (x : A) → get_elem? l i ≡ some x → get_elem? (l ++ ns) i ≡ some x
elem_more [] ns i x = λ e. never cc
elem_more (y ∷ l) ns zero x = λ e. e
elem_more (y ∷ l) ns (suc i) x = λ e. elem_more l ns i x e

-- of a list and one more: in the list, or the last
pub elem_last : {A : Type 0} (l : List A) (y x : A) (i : ℕ) → get_elem? (l ++ (y ∷ [])) i ≡ some x
    → ((get_elem? l i ≡ some x) × (i < length l)) ⊎ ((i ≡ length l) × (x ≡ y))
elem_last [] y x zero e = inr (refl, cc)
elem_last [] y x (suc i) e = never cc
elem_last (z ∷ l) y x zero e = inl (e, omega arith)
elem_last (z ∷ l) y x (suc i) e = ⊎_elim
    (λ h. inl (h.0, omega (arith, h.1)))
    (λ h. inr (omega (arith, h.0), h.1))
    (elem_last l y x i e)

-- ---- no two of the messages are the same
pub distinct_none : Distinct []
distinct_none i j m e f = never cc

pub distinct_more : (ms : Messages) (m : List ℕ) → Distinct ms → length ms ≤ number_of m ms → Distinct (ms ++ (m ∷ []))
distinct_more ms m d n i j x e f = go (elem_last ms m x i e) (elem_last ms m x j f)
  where
    apart : (k : ℕ) → get_elem? ms k ≡ some x → k < length ms → x ≡ m → i ≡ j
    apart k e l q = absurd (omega (arith, number_first m ms k (e ∙ ap {B = Option (List ℕ)} some q)))

    go : ((get_elem? ms i ≡ some x) × (i < length ms)) ⊎ ((i ≡ length ms) × (x ≡ m))
        → ((get_elem? ms j ≡ some x) × (j < length ms)) ⊎ ((j ≡ length ms) × (x ≡ m)) → i ≡ j
    go (inl h) (inl k) = d i j x h.0 k.0
    go (inl h) (inr k) = apart i h.0 h.1 k.1
    go (inr h) (inl k) = apart j k.0 k.1 h.1
    go (inr h) (inr k) = omega (arith, h.0, k.0)

-- ---- the entries that bytes consist of
pub wholes_append : (xs ys : Messages) → wholes (xs ++ ys) ≡ wholes xs ++ wholes ys
wholes_append [] ys = refl
wholes_append (x ∷ xs) ys = ap {B = Entries} (λ l. some x ∷ l) (wholes_append xs ys)

-- the bound of the recursion does not matter, where it suffices
up_to_more : (k j : ℕ) (s : List ℕ) → length s ≤ k → length s ≤ j → entries_up_to k s ≡ entries_up_to j s
up_to_more zero zero s l h = refl
up_to_more zero (suc j) [] l h = refl
up_to_more zero (suc j) (b ∷ s) l h = absurd (omega arith)
up_to_more (suc k) zero [] l h = refl
up_to_more (suc k) zero (b ∷ s) l h = absurd (omega arith)
up_to_more (suc k) (suc j) [] l h = refl
up_to_more (suc k) (suc j) (b ∷ s) l h =
    let n = length-drop (entry_size (b ∷ s)) (b ∷ s) in
    ap (λ (r : Entries). pick (leb (entry_size (b ∷ s)) (length (b ∷ s)))
    (some (take (message_size (b ∷ s)) (drop length_size (b ∷ s))) ∷ r) (none ∷ []))
    (up_to_more k j (drop (entry_size (b ∷ s)) (b ∷ s)) (omega arith) (omega arith))

-- bytes that begin with a whole entry; with a cut one; no bytes
pub entries_whole : (s : List ℕ) → entry_size s ≤ length s
    → entries_in s ≡ some (take (message_size s) (drop length_size s)) ∷ entries_in (drop (entry_size s) s)
unfolding entries_in
entries_whole [] l = absurd (omega arith)
entries_whole (b ∷ s) l =
    let rest = drop (entry_size (b ∷ s)) (b ∷ s) in
    let n = length-drop (entry_size (b ∷ s)) (b ∷ s) in
    pick_true _ _ (le-leb (entry_size (b ∷ s)) (length (b ∷ s)) l)
    ∙ rw (up_to_more (length s) (length rest) rest (omega arith) (omega arith))

pub entries_short : (s : List ℕ) → 0 < length s → length s < entry_size s → entries_in s ≡ none ∷ []
unfolding entries_in
entries_short [] l h = absurd (omega arith)
entries_short (b ∷ s) l h = pick_false _ _ (lt-leb (entry_size (b ∷ s)) (length (b ∷ s)) h)

pub entries_none : entries_in [] ≡ []
unfolding entries_in
entries_none = refl

-- what has no entry is empty
pub entries_empty : (s : List ℕ) → entries_in s ≡ [] → s ≡ []
entries_empty [] e = refl
entries_empty (b ∷ s) e = split (length (b ∷ s)) (entry_size (b ∷ s))
    (λ h. let f = entries_short (b ∷ s) (omega arith) h in never cc)
    (λ h. let f = entries_whole (b ∷ s) h in never cc)

-- what has a whole entry first begins with it
pub record EntryFirst (s m : List ℕ) (os : Entries) : Type 0 where
  pub fits : entry_size s ≤ length s
  pub sized : length m ≡ message_size s
  pub message : take (message_size s) (drop length_size s) ≡ m
  pub rest : entries_in (drop (entry_size s) s) ≡ os

pub entries_first : (s m : List ℕ) (os : Entries) → entries_in s ≡ some m ∷ os → EntryFirst s m os
entries_first [] m os e = let f = entries_none in never cc
entries_first (b ∷ s) m os e = split (length (b ∷ s)) (entry_size (b ∷ s))
    (λ h. let f = entries_short (b ∷ s) (omega arith) h in never cc)
    (λ h.
    let f = entries_whole (b ∷ s) h in
    let q : take (message_size (b ∷ s)) (drop length_size (b ∷ s)) ≡ m = cc in
    let d = length-drop length_size (b ∷ s) in
    record {
      fits = h;
      sized = ap length (sym q)
          ∙ length-take-le (message_size (b ∷ s)) (drop length_size (b ∷ s)) (omega arith);
      message = q;
      rest = cc;
    })

-- bytes behind whole entries
pub entries_append : (ms : Messages) (s t : List ℕ) → entries_in s ≡ wholes ms
    → entries_in (s ++ t) ≡ wholes ms ++ entries_in t
entries_append [] s t e = rw (entries_empty s e)
entries_append (m ∷ ms) s t e =
    let x = entries_first s m (wholes ms) e in
    let n : message_size (s ++ t) ≡ message_size s =
    ap (joined 0) (take-append-le length_size s t (omega (arith, x.fits))) in
    let l = length-append s t in
    let d : take (message_size s) (drop length_size (s ++ t)) ≡ m =
    ap (take (message_size s)) (drop-append-le length_size s t (omega (arith, x.fits)))
    ∙ take-append-le (message_size s) (drop length_size s) t (omega (arith, x.fits, length-drop length_size s))
    ∙ x.message in
    let r : entries_in (drop (entry_size s) (s ++ t)) ≡ wholes ms ++ entries_in t =
    ap entries_in (drop-append-le (entry_size s) s t x.fits)
    ∙ entries_append ms (drop (entry_size s) s) t x.rest in
    entries_whole (s ++ t) (omega (arith, x.fits, n))
    ∙ ap (λ (k : ℕ). some (take k (drop length_size (s ++ t))) ∷ entries_in (drop (length_size + k) (s ++ t))) n
    ∙ (λ i. some (d i) ∷ r i)

-- the entry of a message
pub entries_one : (w : List ℕ) → length w < 2 ^ 32 → entries_in (entry_of w) ≡ wholes (w ∷ [])
entries_one w l =
    let n : message_size (entry_of w) ≡ length w = omega arith in
    let a : take (message_size (entry_of w)) w ≡ w = take_all (message_size (entry_of w)) w (omega arith) in
    let b : drop (entry_size (entry_of w)) (entry_of w) ≡ [] =
    drop_of_length-le (entry_of w) {i = entry_size (entry_of w)} (omega arith) in
    entries_whole (entry_of w) (omega arith) ∙ (λ i. some (a i) ∷ entries_in (b i))
    ∙ ap {B = Entries} (λ l. some w ∷ l) entries_none

-- the messages of bytes are bytes
up_to_bytes : (k : ℕ) (s : List ℕ) → Bytes s → (i : ℕ) (m : List ℕ) → get_elem? (entries_up_to k s) i ≡ some (some m)
    → Bytes m
up_to_bytes zero s b i m = λ e. never cc
up_to_bytes (suc k) [] b i m = λ e. never cc
up_to_bytes (suc k) (c ∷ t) b i m =
    let s = c ∷ t in
    let rest = drop (entry_size s) s in
    pick_either (λ (os : Entries). get_elem? os i ≡ some (some m) → Bytes m) (leb (entry_size s) (length s))
    (λ t. first (entries_up_to k rest) (up_to_bytes k rest (bytes_drop (entry_size s) s b)) i)
    (λ t. cut i)
  where
    w : List ℕ
    w = take (message_size (c ∷ t)) (drop length_size (c ∷ t))

    first : (os : Entries) → ((j : ℕ) (v : List ℕ) → get_elem? os j ≡ some (some v) → Bytes v)
        → (i : ℕ) → get_elem? (some w ∷ os) i ≡ some (some m) → Bytes m
    first os rest zero e =
        let q : w ≡ m = cc in
        subst Bytes q (bytes_take (message_size (c ∷ t)) (drop length_size (c ∷ t)) (bytes_drop length_size (c ∷ t) b))
    first os rest (suc j) e = rest j m e

    cut : (i : ℕ) → ◌≡◌ {A = Option (Option (List ℕ))} (get_elem? (none ∷ []) i) (some (some m)) → Bytes m
    cut zero e = never cc
    cut (suc j) e = never cc

pub entries_bytes : (s : List ℕ) → Bytes s → (i : ℕ) (m : List ℕ) → get_elem? (entries_in s) i ≡ some (some m) → Bytes m
unfolding entries_in
entries_bytes s b i m e = up_to_bytes (length s) s b i m e

-- ---- the fault of an entry
-- a message that the rules accept, which is its record's shortest, and is none of those before it
pub record Faultless (R : Rules) (before : Messages) (m : List ℕ) : Type 0 where
  pub own : ShortensTo R R m m
  pub new : length before ≤ number_of m before

message_is : (m : List ℕ) (o : Option (List ℕ)) → is_message m o ≡ true → o ≡ some m
message_is m none e = never cc
message_is m (some w) e = ap {B = Option (List ℕ)} some (same_is w m e)

module _ (R : Rules) (before : Messages) (m : List ℕ) where
  pub faultless : fault_of R before m ≡ 0 → Faultless R before m
  unfolding fault_of
  faultless = go (reads_by R m) refl
    where
      go : (o : Outcome Known Item One) → reads_by R m ≡ o → fault_by R before m o ≡ 0 → Faultless R before m
      go (Fault x p) e = λ h. absurd (omega arith)
      go (Done n u es c) e =
          pick_either (λ (k : ℕ). k ≡ 0 → Faultless R before m) (is_message m (shortest_by R (items es)))
          (λ t. pick_either (λ (k : ℕ). k ≡ 0 → Faultless R before m) (is_held m before)
          (λ s h. absurd (omega arith))
          (λ s h. record {
            own = record {
              count = n;
              entries = es;
              known = c;
              accepted = e;
              short = message_is m (shortest_by R (items es)) t;
            };
            new = ltb-false (number_of m before) (length before) s;
          }))
          (λ t h. absurd (omega arith))

  pub no_fault : Faultless R before m → fault_of R before m ≡ 0
  unfolding fault_of
  no_fault x = ap (fault_by R before m) x.own.accepted
      ∙ ap (λ (o : Option (List ℕ)). pick (is_message m o) (pick (is_held m before) repeated_entry 0) not_shortest)
      x.own.short
      ∙ pick_true _ _ (same_self m)
      ∙ pick_false repeated_entry 0 (le-ltb (number_of m before) (length before) x.new)

  -- each fault
  pub fault_refused : (x p : ℕ) → reads_by R m ≡ Fault x p → fault_of R before m ≡ refused_entry
  unfolding fault_of
  fault_refused x p e = ap (fault_by R before m) e

  module _ (n : ℕ) (es : List (Entry Item)) (c : Known) (accepted : reads_by R m ≡ Done n tt es c) where
    pub fault_not_shortest : is_message m (shortest_by R (items es)) ≡ false → fault_of R before m ≡ not_shortest
    unfolding fault_of
    fault_not_shortest h = ap (fault_by R before m) accepted ∙ pick_false _ not_shortest h

    pub fault_repeated : shortest_by R (items es) ≡ some m → number_of m before < length before
        → fault_of R before m ≡ repeated_entry
    unfolding fault_of
    fault_repeated h l = ap (fault_by R before m) accepted
        ∙ ap (λ (o : Option (List ℕ)). pick (is_message m o) (pick (is_held m before) repeated_entry 0) not_shortest) h
        ∙ pick_true _ _ (same_self m)
        ∙ pick_true repeated_entry 0 (lt-ltb (number_of m before) (length before) l)

-- ---- what entries list as, from the place p on
module _ (R : Rules) where
  -- the first is faultless, or faulty
  pub lists_one : (p : ℕ) (before : Messages) (m : List ℕ) (os : Entries) → fault_of R before m ≡ 0
      → lists_from R p before (some m ∷ os) ≡ lists_from R (p + (length_size + length m)) (before ++ (m ∷ [])) os
  lists_one p before m os h = pick_true _ _ (eq-eqb (fault_of R before m) 0 h)

  pub lists_fault : (p : ℕ) (before : Messages) (m : List ℕ) (os : Entries) → (fault_of R before m ≡ 0 → ⊥)
      → lists_from R p before (some m ∷ os) ≡ Faulty (fault_of R before m) p
  lists_fault p before m os h = pick_false _ _ (ne_eqb (fault_of R before m) 0 h)

  -- where a whole entry and more list, the entry is faultless and the rest lists
  pub lists_first : (p : ℕ) (before : Messages) (m : List ℕ) (os : Entries) (R' : Rules) (ms : Messages)
      → lists_from R p before (some m ∷ os) ≡ Lists R' ms
      → (fault_of R before m ≡ 0)
      × (lists_from R (p + (length_size + length m)) (before ++ (m ∷ [])) os ≡ Lists R' ms)
  lists_first p before m os R' ms = pick_either
      (λ (z : Listing). z ≡ Lists R' ms → (fault_of R before m ≡ 0)
      × (lists_from R (p + (length_size + length m)) (before ++ (m ∷ [])) os ≡ Lists R' ms))
      (eqb (fault_of R before m) 0)
      (λ t h. (eqb-true (fault_of R before m) 0 t, h))
      (λ t h. never cc)

  -- what lists is whole entries
  pub lists_are : (p : ℕ) (before : Messages) (os : Entries) (R' : Rules) (ms : Messages)
      → lists_from R p before os ≡ Lists R' ms
      → (new : Messages) × (os ≡ wholes new) × (ms ≡ before ++ new) × (R' ≡ R)
  lists_are p before [] R' ms h = ([], refl, let e : ms ≡ before = cc in e ∙ sym (append-nil before), cc)
  lists_are p before (none ∷ os) R' ms h = never cc
  lists_are p before (some m ∷ os) R' ms h =
      let x = lists_first p before m os R' ms h in
      let y = lists_are (p + (length_size + length m)) (before ++ (m ∷ [])) os R' ms x.1 in (
        m ∷ y.0,
        ap {B = Entries} (λ l. some m ∷ l) y.1,
        y.2 ∙ append_assoc before (m ∷ []) y.0,
        y.3,
      )

  -- one entry more
  pub lists_more : (p : ℕ) (before new : Messages) (w : List ℕ)
      → lists_from R p before (wholes new) ≡ Lists R (before ++ new) → fault_of R (before ++ new) w ≡ 0
      → lists_from R p before (wholes new ++ (some w ∷ [])) ≡ Lists R (before ++ new ++ (w ∷ []))
  lists_more p before [] w h e =
      let f : fault_of R before w ≡ 0 = rw append-nil at e in
      rw (append-nil before) (lists_one p before w [] f)
  lists_more p before (m ∷ new) w h e =
      let x = lists_first p before m (wholes new) R (before ++ (m ∷ new)) h in
      let a = append_assoc before (m ∷ []) new in
      let next = p + (length_size + length m) in
      lists_one p before m (wholes new ++ (some w ∷ [])) x.0
      ∙ subst
      (λ (l : Messages). lists_from R next (before ++ (m ∷ [])) (wholes new ++ (some w ∷ [])) ≡ Lists R (l ++ (w ∷ [])))
      a (lists_more next (before ++ (m ∷ [])) new w (rw a x.1) (rw a e))

  -- the messages listed are all different
  pub lists_distinct : (p : ℕ) (before : Messages) (os : Entries) (R' : Rules) (ms : Messages)
      → lists_from R p before os ≡ Lists R' ms → Distinct before → Distinct ms
  lists_distinct p before [] R' ms h d = let e : before ≡ ms = cc in subst Distinct e d
  lists_distinct p before (none ∷ os) R' ms h d = never cc
  lists_distinct p before (some m ∷ os) R' ms h d =
      let x = lists_first p before m os R' ms h in
      lists_distinct (p + (length_size + length m)) (before ++ (m ∷ [])) os R' ms x.1
      (distinct_more before m d (faultless R before m x.0).new)

  -- and each is accepted, and its record's shortest
  pub lists_accepted : (p : ℕ) (before : Messages) (os : Entries) (R' : Rules) (ms : Messages)
      → lists_from R p before os ≡ Lists R' ms
      → (i : ℕ) (m : List ℕ) → get_elem? ms i ≡ some m
      → (get_elem? before i ≡ some m) ⊎ ShortensTo R R m m
  lists_accepted p before [] R' ms h i m e = let q : before ≡ ms = cc in inl (rw q e)
  lists_accepted p before (none ∷ os) R' ms h i m e = never cc
  lists_accepted p before (some w ∷ os) R' ms h i m e =
      let x = lists_first p before w os R' ms h in
      ⊎_elim
      (λ f. ⊎_elim (λ k. inl k.0)
      (λ k. inr (subst (λ v. ShortensTo R R v v) (sym k.1) (faultless R before w x.0).own))
      (elem_last before w m i f))
      (λ f. inr f)
      (lists_accepted (p + (length_size + length w)) (before ++ (w ∷ [])) os R' ms x.1 i m e)

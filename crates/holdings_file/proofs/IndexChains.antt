-- What the contracts of src/index.rt ask at each way out: a chain misses no entry.
use mathlib.Core.Path.{◌≡◌, refl, sym, ◌∙◌, ap, subst}
use mathlib.Core.Bool.{Bool, true, false}
use mathlib.Core.Logic.{◌⊎◌, inl, inr}
use mathlib.Core.List.{List, [], ◌∷◌, ◌++◌}
use mathlib.Core.Option.{Option, some}
use Prim.Native.Nat.{ℕ, zero, suc, ◌+◌, ◌-◌, ◌*◌, ◌/◌, ◌%◌, ◌≤◌, ◌<◌}
use native.Mathlib.Omega.{arith}
use native.Mathlib.Nat.{mod-lt}
use lib.Dec.{eqb}
use lib.ListN.{length, take, drop, get_or, get_elem?, set, replicate, length-set, length-append, length-drop}
use Rattle.std.proofs.lemmas.List.{get_or-replicate, length-replicate}
use lib.Seq.{drop-drop, get_or-set_same, get_or-set_other}
use borrow.Author.Tests.{eqb-true, eqb-false}
use Rattle.std.specs.Cmp.Lexicographic.{pointwise}
use Rattle.flow.specs.Tests.{split, by_cases, pick_true, pick_false, pick_either}
use Rattle.flow.specs.Flow.{pick, same_list}
use Rattle.wire.specs.BigEndian.{joined}
use Rattle.holdings.specs.Files.{header_size, length_size, entry_size, number_of, entries_in}
use Rattle.holdings.specs.Answers.{placement, placements}
use Rattle.holdings.specs.Terms.{Messages, StandsAt}
use Rattle.holdings.specs.EntryLaws.{wholes}
use Rattle.holdings.proofs.EntryLaws.{same_is, same_self, number_within, number_found, number_first}
use Rattle.holdings.proofs.EntryLaws.{distinct_none, distinct_more, entries_first, entries_empty}
use Rattle.holdings.proofs.FileLaws.{stands, entries_next, placements_more}
use Rattle.holdings_file.specs.declared.index.Index.{Index}
use Rattle.holdings_file.specs.Promises.{held_in}
use Rattle.holdings_file.specs.Index.{hashed, hash_block, hash_factor, hash_modulus, bucket_of, InBucket}
use Rattle.holdings_file.specs.Index.{entry_numbers, latest, Indexed, Indexing, Whole, WholeIndexed}
use Rattle.holdings_file.specs.Index.{Fresh}
use Rattle.holdings_file.proofs.EntryWalks.{same_as, held_wholes}

-- ---- the hash of a message, where n blocks are in it
pub record Hashing (m : List ℕ) (h n : ℕ) : Type 0 where
  pub left : hashed (length m / hash_block + 1) 0 m ≡ hashed (length m / hash_block + 1 - n) h (drop (hash_block * n) m)
  pub low : h < hash_modulus

module _ (m : List ℕ) (h n : ℕ) (x : Hashing m h n) where
  pub hash_next : n < length m / hash_block + 1 → (v : ℕ) → v ≡ joined 0 (take hash_block (drop (hash_block * n) m))
      → Hashing m ((h * hash_factor + v % hash_modulus) % hash_modulus) (n + 1)
  hash_next l v e =
      let k : length m / hash_block + 1 - n ≡ suc (length m / hash_block + 1 - (n + 1)) = omega arith in
      let g = h * hash_factor + v % hash_modulus in
      let d : drop hash_block (drop (hash_block * n) m) ≡ drop (hash_block * (n + 1)) m =
      drop-drop hash_block (hash_block * n) m
      ∙ ap (λ (j : ℕ). drop j m) {x = hash_block * n + hash_block} {y = hash_block * (n + 1)} (omega arith) in
      record {
        left =
            x.left
            ∙ ap (λ (j : ℕ). hashed j h (drop (hash_block * n) m)) k
            ∙ (λ i. hashed (length m / hash_block + 1 - (n + 1)) ((h * hash_factor + sym e i % hash_modulus) % hash_modulus) (d i));
        low = mod-lt g (omega arith);
      }

  pub hash_done : length m / hash_block + 1 ≤ n → (H : ℕ) → 0 < H → InBucket H m (h % H)
  unfolding bucket_of
  hash_done l H q =
      let z : length m / hash_block + 1 - n ≡ 0 = omega arith in
      record {
        is = ap (λ (k : ℕ). k % H) (sym (x.left ∙ ap (λ (j : ℕ). hashed j h (drop (hash_block * n) m)) z));
        below = mod-lt h q;
      }

-- ---- the newest entry below n in a bucket
module _ (H : ℕ) (ms : Messages) (b : ℕ) where
  latest_within : (n : ℕ) → latest H ms b n ≤ n
  unfolding latest
  latest_within zero = omega arith
  latest_within (suc n) = pick_either (λ (k : ℕ). k ≤ suc n) (eqb (bucket_of H (get_or ms n [])) b)
      (λ t. omega arith)
      (λ t. omega (arith, latest_within n))

  -- its message is in the bucket, and none above it is
  latest_in : (n k : ℕ) → latest H ms b n ≡ suc k → bucket_of H (get_or ms k []) ≡ b
  unfolding latest
  latest_in zero k = λ e. absurd (omega arith)
  latest_in (suc n) k =
      pick_either (λ (j : ℕ). j ≡ suc k → bucket_of H (get_or ms k []) ≡ b) (eqb (bucket_of H (get_or ms n [])) b)
      (λ t e.
      let q : n ≡ k = omega (arith, e) in
      ap (λ (j : ℕ). bucket_of H (get_or ms j [])) (sym q) ∙ eqb-true (bucket_of H (get_or ms n [])) b t)
      (λ t e. latest_in n k e)

  latest_above : (n i : ℕ) → latest H ms b n ≤ i → i < n → bucket_of H (get_or ms i []) ≡ b → ⊥
  unfolding latest
  latest_above zero i = λ l h q. omega arith
  latest_above (suc n) i =
      pick_either (λ (j : ℕ). j ≤ i → i < suc n → bucket_of H (get_or ms i []) ≡ b → ⊥) (eqb (bucket_of H (get_or ms n [])) b)
      (λ t l h q. omega arith)
      (λ t l h q. split i n (λ z. latest_above n i l z q)
      (λ z.
      let y : i ≡ n = omega arith in
      eqb-false (bucket_of H (get_or ms n [])) b t (ap (λ (j : ℕ). bucket_of H (get_or ms j [])) (sym y) ∙ q)))

elem_get : (ms : Messages) (i : ℕ) → i < length ms → get_elem? ms i ≡ some (get_or ms i [])
elem_get [] i = λ h. absurd (omega arith)
elem_get (m ∷ ms) zero = λ h. refl
elem_get (m ∷ ms) (suc i) = λ h. elem_get ms i (omega arith)

-- ---- a walk along a chain: no entry from c on has the message, and entry c - 1 is in its bucket
pub record Walking (H : ℕ) (ms : Messages) (m : List ℕ) (c : ℕ) : Type 0 where
  pub low : c ≤ length ms
  pub chained : (k : ℕ) → c ≡ suc k → bucket_of H (get_or ms k []) ≡ bucket_of H m
  pub passed : (i : ℕ) → c ≤ i → i < length ms → get_or ms i [] ≡ m → ⊥

pub walking_at : {H : ℕ} {ms : Messages} {m : List ℕ} {c k : ℕ} → Walking H ms m c → (1 ≤ c) × (k ≡ c - 1)
    → Walking H ms m (k + 1)
walking_at {H} {ms} {m} {c} {k} w x = subst (Walking H ms m) {x = c} {y = k + 1} (omega (arith, x.0, x.1)) w

module _ (f hs cs m : List ℕ) (whole : Whole f) (x : Indexed hs cs (held_in f)) where
  abbrev H : ℕ
  H = length hs

  abbrev ms : Messages
  ms = held_in f

  pub walk_start : (b : ℕ) → InBucket (length hs) m b → Walking (length hs) (held_in f) m (get_or hs b 0)
  walk_start b q = subst (Walking H ms m) (sym (x.heads b q.below)) (record {
    low = latest_within H ms b (length ms);
    chained = λ k e. latest_in H ms b (length ms) k e ∙ q.is;
    passed = λ i h k e. latest_above H ms b (length ms) i h k (ap (bucket_of H) e ∙ sym q.is);
  })

  pub walk_end : (c n : ℕ) → Walking (length hs) (held_in f) m c → c ≤ 0 → n ≡ length (held_in f)
      → n ≡ number_of m (held_in f)
  walk_end c n w z q = split (number_of m ms) (length ms)
      (λ l.
      let e = number_found m ms l in
      let g = elem_get ms (number_of m ms) l in
      let y : some (get_or ms (number_of m ms) []) ≡ some m = sym g ∙ e in
      absurd (w.passed (number_of m ms) (omega arith) l (cc)))
      (λ l. omega (arith, number_within m ms))

  module _ (k : ℕ) (w : Walking (length hs) (held_in f) m (k + 1)) where
    abbrev place : ℕ
    place = get_or cs (entry_numbers * k) 0

    abbrev size : ℕ
    size = get_or cs (entry_numbers * k + 1) 0

    abbrev there : List ℕ
    there = get_or ms k []

    inside : k < length ms
    inside = omega (arith, w.low)

    pub slot_inside : entry_numbers * k + 2 < length cs
    slot_inside = omega (arith, inside, x.room)

    pub stands_there : StandsAt f (placement (get_or cs (entry_numbers * k) 0) (get_or cs (entry_numbers * k + 1) 0))
        (get_or (held_in f) k [])
    stands_there =
        let y = stands f header_size ms whole k there (elem_get ms k inside) in
        let p = x.places k inside in
        let e = y.1 in
        let q : y.0 ≡ placement place size = cc in
        subst (λ s. StandsAt f s there) q y.2

    part_is : take (place + size - place) (drop place f) ≡ there
    part_is =
        let n : place + size - place ≡ size = omega arith in
        ap (λ (k : ℕ). take k (drop place f)) n ∙ stands_there.there

    module _ (r : Bool) (e : r ≡ pointwise eqb m (take (place + size - place) (drop place f))) where
      same : r ≡ same_list m (take (place + size - place) (drop place f))
      same = same_as m (take (place + size - place) (drop place f)) e

      pub walk_found : r ≡ true → k ≡ number_of m (held_in f)
      walk_found t =
          let q : there ≡ m = sym part_is ∙ sym (same_is m (take (place + size - place) (drop place f)) (sym same ∙ t)) in
          let g : get_elem? ms k ≡ some m = elem_get ms k inside ∙ ap {B = Option (List ℕ)} some q in
          let l : number_of m ms < length ms = omega (arith, number_first m ms k g, inside) in
          x.distinct k (number_of m ms) m g (number_found m ms l)

      other : r ≡ false → there ≡ m → ⊥
      other t q =
          let z : same_list m (take (place + size - place) (drop place f)) ≡ true =
          ap (λ (s : List ℕ). same_list m s) (part_is ∙ q) ∙ same_self m in
          let w : ◌≡◌ {A = Bool} true false = sym z ∙ sym same ∙ t in
          let v : ◌≡◌ {A = ℕ} 0 1 = cc in
          omega arith

      pub walk_next : r ≡ false → Walking (length hs) (held_in f) m (get_or cs (entry_numbers * k + 2) 0)
      walk_next t =
          let b = bucket_of H there in
          let q : bucket_of H there ≡ bucket_of H m = w.chained k (omega arith) in
          subst (Walking H ms m) (sym (x.nexts k inside)) (record {
            low = omega (arith, latest_within H ms b k, w.low);
            chained = λ j e. latest_in H ms b k j e ∙ q;
            passed = λ i l r e. split i k
                (λ z. latest_above H ms b k i l z (ap (bucket_of H) e ∙ sym q))
                (λ z. split i (k + 1)
                (λ y. let v : i ≡ k = omega arith in other t (ap (λ (j : ℕ). get_or ms j []) (sym v) ∙ e))
                (λ y. w.passed i y r e));
          })

    pub walk_less : get_or cs (entry_numbers * k + 2) 0 < k + 1
    walk_less = omega (arith, x.nexts k inside, latest_within H ms (bucket_of H there) k)

-- ---- by the index, where it is complete
pub complete_index : (f : List ℕ) (x : Index) (n : ℕ) → WholeIndexed f n x → 0 < length x.heads.now
    → n ≤ length x.chains.now / entry_numbers → Indexed x.heads.now x.chains.now (held_in f)
complete_index f x n y h l = y.indexing.complete h (omega (arith, y.count))

-- ---- one entry more
get_append : (ms : Messages) (m : List ℕ) (k : ℕ) → k < length ms → get_or (ms ++ (m ∷ [])) k [] ≡ get_or ms k []
get_append [] m k = λ h. absurd (omega arith)
get_append (x ∷ ms) m zero = λ h. refl
get_append (x ∷ ms) m (suc k) = λ h. get_append ms m k (omega arith)

get_last : (ms : Messages) (m : List ℕ) → get_or (ms ++ (m ∷ [])) (length ms) [] ≡ m
get_last [] m = refl
get_last (x ∷ ms) m = get_last ms m

elem_last_is : (ms : Messages) (m : List ℕ) → get_elem? (ms ++ (m ∷ [])) (length ms) ≡ some m
elem_last_is [] m = refl
elem_last_is (x ∷ ms) m = elem_last_is ms m

latest_append : (H : ℕ) (ms : Messages) (m : List ℕ) (b n : ℕ) → n ≤ length ms
    → latest H (ms ++ (m ∷ [])) b n ≡ latest H ms b n
unfolding latest
latest_append H ms m b zero l = refl
latest_append H ms m b (suc n) l =
    λ i. pick (eqb (bucket_of H (get_append ms m n l i)) b) (suc n) (latest_append H ms m b n (omega arith) i)

-- three numbers set
module _ (l : List ℕ) (at p q r : ℕ) (h : at + 2 < length l) where
  abbrev pub three : List ℕ
  three = set (set (set l at p) (at + 1) q) (at + 2) r

  three_length : length three ≡ length l
  three_length = simp length-set

  three_other : (j : ℕ) → j < at → get_or three j 0 ≡ get_or l j 0
  three_other j y =
      get_or-set_other (set (set l at p) (at + 1) q) (at + 2) j r 0 (λ e. omega arith)
      ∙ get_or-set_other (set l at p) (at + 1) j q 0 (λ e. omega arith)
      ∙ get_or-set_other l at j p 0 (λ e. omega arith)

  three_at : get_or three at 0 ≡ p
  three_at =
      get_or-set_other (set (set l at p) (at + 1) q) (at + 2) at r 0 (λ e. omega arith)
      ∙ get_or-set_other (set l at p) (at + 1) at q 0 (λ e. omega arith)
      ∙ get_or-set_same l at p 0 (omega arith)

  three_one : get_or three (at + 1) 0 ≡ q
  three_one =
      get_or-set_other (set (set l at p) (at + 1) q) (at + 2) (at + 1) r 0 (λ e. omega arith)
      ∙ get_or-set_same (set l at p) (at + 1) q 0 (simp length-set (omega arith))

  three_two : get_or three (at + 2) 0 ≡ r
  three_two = get_or-set_same (set (set l at p) (at + 1) q) (at + 2) r 0 (simp length-set (omega arith))

-- the last message stands at the file's end
last_place : (f : List ℕ) (at : ℕ) (ms : Messages) (m : List ℕ) → entries_in (drop at f) ≡ wholes (ms ++ (m ∷ []))
    → (p : ℕ) → p + length m ≡ length f
    → get_elem? (placements at (ms ++ (m ∷ []))) (length ms) ≡ some (placement p (length m))
last_place f at [] m e p q =
    let x = entries_first (drop at f) m [] e in
    let z = ap length (entries_empty (drop (entry_size (drop at f)) (drop at f)) x.rest) in
    let d = length-drop at f in
    let d' = length-drop (entry_size (drop at f)) (drop at f) in
    let s = x.sized in
    let k : at + length_size ≡ p = omega (arith, x.fits) in
    ap (λ (j : ℕ). some (placement j (length m))) k
last_place f at (y ∷ ms) m e p q =
    let x = entries_first (drop at f) y (wholes (ms ++ (m ∷ []))) e in
    last_place f (at + (length_size + length y)) ms m (entries_next f at y (wholes (ms ++ (m ∷ []))) x) p q

module _ (f w : List ℕ) (n : ℕ) (i : Index) (x : Fresh f w n i) where
  abbrev N : ℕ
  N = length i.heads.now

  abbrev before : Messages
  before = x.before

  abbrev after : Messages
  after = before ++ (w ∷ [])

  fresh_held : held_in f ≡ after
  fresh_held = held_wholes f after x.entries

  more : length after ≡ suc (length before)
  more = length-append before (w ∷ []) ∙ omega arith

  last_stands : get_elem? (placements header_size after) (length before)
      ≡ some (placement (length f - length w) (length w))
  last_stands = last_place f header_size before w x.entries (length f - length w) (omega (arith, x.long))

  -- with no buckets, and with no room, nothing is promised
  pub insert_none : length i.heads.now ≡ 0 → Indexing i (held_in f)
  insert_none z = record { complete = λ h l. absurd (omega arith) }

  pub insert_full : length i.chains.now / entry_numbers ≤ n → Indexing i (held_in f)
  insert_full l = record { complete = λ h k. absurd (omega (arith, ap length fresh_held, more, x.number)) }

  module _ (some_buckets : 0 < length i.heads.now) (room : n < length i.chains.now / entry_numbers) (b : ℕ)
      (q : InBucket (length i.heads.now) w b) where
    pub big : entry_numbers * n + 2 < length i.chains.now
    big = omega arith

    abbrev chains : List ℕ
    chains = three i.chains.now (entry_numbers * n) (length f - length w) (length w) (get_or i.heads.now b 0) big

    abbrev heads : List ℕ
    heads = set i.heads.now b (n + 1)

    was : Indexed i.heads.now i.chains.now before
    was = x.indexing.complete some_buckets (omega (arith, x.number))

    as_many : length heads ≡ N
    as_many = length-set i.heads.now b (n + 1)

    heads_after : (c : ℕ) → c < N → get_or heads c 0 ≡ latest N after c (length after)
    unfolding latest
    heads_after c l =
        let k = x.number in
        let y : latest N after c (length after)
        ≡ pick (eqb (bucket_of N w) c) (suc (length before)) (latest N before c (length before)) =
        ap (latest N after c) more
        ∙ (λ t. pick (eqb (bucket_of N (get_last before w t)) c) (suc (length before))
        (latest_append N before w c (length before) (omega arith) t)) in
        by_cases (eqb (bucket_of N w) c)
        (λ t.
        let e : c ≡ b = sym (eqb-true (bucket_of N w) c t) ∙ sym q.is in
        ap (λ (j : ℕ). get_or heads j 0) e
        ∙ get_or-set_same i.heads.now b (n + 1) 0 q.below
        ∙ omega (arith, y, pick_true (suc (length before)) (latest N before c (length before)) t))
        (λ t.
        let e : c ≡ b → ⊥ = λ v. eqb-false (bucket_of N w) c t (sym q.is ∙ sym v) in
        get_or-set_other i.heads.now b c (n + 1) 0 e ∙ was.heads c l
        ∙ sym (y ∙ pick_false (suc (length before)) (latest N before c (length before)) t))

    places_after : (k : ℕ) → k < length after → get_elem? (placements header_size after) k
        ≡ some (placement (get_or chains (entry_numbers * k) 0) (get_or chains (entry_numbers * k + 1) 0))
    places_after k h = split k (length before)
        (λ y.
        let j = x.number in
        let a = three_other i.chains.now (entry_numbers * n) (length f - length w) (length w) (get_or i.heads.now b 0) big
        (entry_numbers * k) (omega arith) in
        let a' = three_other i.chains.now (entry_numbers * n) (length f - length w) (length w) (get_or i.heads.now b 0) big
        (entry_numbers * k + 1) (omega arith) in
        placements_more header_size before (w ∷ []) k (get_or before k []) (elem_get before k y)
        ∙ was.places k y
        ∙ (λ t. some (placement (sym a t) (sym a' t))))
        (λ y.
        let e : k ≡ length before = omega (arith, more) in
        let g : entry_numbers * k ≡ entry_numbers * n = omega (arith, x.number) in
        let a = ap (λ (j : ℕ). get_or chains j 0) g
        ∙ three_at i.chains.now (entry_numbers * n) (length f - length w) (length w) (get_or i.heads.now b 0) big in
        let a' = ap (λ (j : ℕ). get_or chains (j + 1) 0) g
        ∙ three_one i.chains.now (entry_numbers * n) (length f - length w) (length w) (get_or i.heads.now b 0) big in
        ap (get_elem? (placements header_size after)) e ∙ last_stands ∙ (λ t. some (placement (sym a t) (sym a' t))))

    nexts_after : (k : ℕ) → k < length after
        → get_or chains (entry_numbers * k + 2) 0 ≡ latest N after (bucket_of N (get_or after k [])) k
    nexts_after k h = split k (length before)
        (λ y.
        let j = x.number in
        three_other i.chains.now (entry_numbers * n) (length f - length w) (length w) (get_or i.heads.now b 0) big
        (entry_numbers * k + 2) (omega arith)
        ∙ was.nexts k y
        ∙ sym (ap (λ (v : List ℕ). latest N after (bucket_of N v) k) (get_append before w k y)
        ∙ latest_append N before w (bucket_of N (get_or before k [])) k (omega arith)))
        (λ y.
        let e : k ≡ length before = omega (arith, more) in
        let g : entry_numbers * k ≡ entry_numbers * n = omega (arith, x.number) in
        ap (λ (j : ℕ). get_or chains (j + 2) 0) g
        ∙ three_two i.chains.now (entry_numbers * n) (length f - length w) (length w) (get_or i.heads.now b 0) big
        ∙ was.heads b q.below
        ∙ sym (ap (λ (j : ℕ). latest N after (bucket_of N (get_or after j [])) j) e
        ∙ ap (λ (v : List ℕ). latest N after (bucket_of N v) (length before)) (get_last before w)
        ∙ latest_append N before w (bucket_of N w) (length before) (omega arith)
        ∙ ap (λ (j : ℕ). latest N before j (length before)) (sym q.is)))

    index_after : Indexed heads chains after
    index_after =
        let l = three_length i.chains.now (entry_numbers * n) (length f - length w) (length w) (get_or i.heads.now b 0) big in
        let k = x.number in
        record {
          buckets = omega (arith, as_many);
          room = omega (arith, more);
          heads = λ c h. heads_after c (omega (arith, as_many))
              ∙ ap (λ (j : ℕ). latest j after c (length after)) (sym as_many);
          places = places_after;
          nexts = λ j h. nexts_after j h ∙ ap (λ (v : ℕ). latest v after (bucket_of v (get_or after j [])) j) (sym as_many);
          distinct = distinct_more before w was.distinct x.new;
        }

    pub inserted : (i' : Index)
        → i'.heads.now ≡ set i.heads.now b (n + 1)
        → i'.chains.now ≡ three i.chains.now (entry_numbers * n) (length f - length w) (length w) (get_or i.heads.now b 0) big
        → Indexing i' (held_in f)
    inserted i' u v = record {
      complete = λ h l. subst (λ (ms : Messages). Indexed i'.heads.now i'.chains.now ms) (sym fresh_held)
          (subst (λ (s : List ℕ). Indexed s i'.chains.now after) (sym u)
          (subst (λ (s : List ℕ). Indexed heads s after) (sym v) index_after));
    }

-- ---- the empty index
pub empty_index : (i : Index) → (n : ℕ) → i.heads.now ≡ replicate n 0 → Indexing i []
unfolding latest
empty_index i n e = record {
  complete = λ p h. record {
    buckets = p;
    room = omega arith;
    heads = λ b h. ap (λ (s : List ℕ). get_or s b 0) e ∙ get_or-replicate n b 0 0 (omega (arith, ap length e, length-replicate {A = ℕ} n 0));
    places = λ k h. absurd (omega arith);
    nexts = λ k h. absurd (omega arith);
    distinct = distinct_none;
  };
}

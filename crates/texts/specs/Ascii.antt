-- Bytes below 80, each a character of one unit: how many stand at a place, and the test of several at once.
use Rattle.std.specs.Prelude.{◌≡◌, ℕ, zero, suc, ◌+◌, ◌-◌, ◌*◌, ◌/◌, ◌%◌, ◌<◌, ◌≤◌, min, Bool, true, false, ◌&&◌, List, [], ◌∷◌, ◌++◌, length, take, drop, nat_eq, nat_lt, bit_and, slice_index, slice_index_or, refl}
use Rattle.std.specs.List.{list_all, fold, prefix_len}
use Rattle.std.specs.Int.{w32, w64, from_le_bytes}
use Rattle.std.specs.Simd.{first_chunks}
use Rattle.std.proofs.Math.Path.{sym, ap}
use Rattle.std.proofs.Common.{◌∙◌, add-zero, arith, drop_of_length-le, get_or-take, take_all, ltb-true, lt-ltb, le-ltb, eqb-true, eq-eqb, take-append-drop}
use Rattle.std.proofs.Math.Nat.{mod-eq_of_lt, add-div_left, div-eq_of_lt, div-mul-le_self, lt-div-mul-add}
use Rattle.std.proofs.lemmas.Nat.{and_block, div-add-mod'}
use Rattle.std.proofs.lemmas.Nat.Bits.{and_high}
use Rattle.std.proofs.lemmas.Bool.{ne_eqb, eqb-false}
use Rattle.std.proofs.lemmas.List.Sums.{prefix_len-le-length, prefix_len_passes, AllPass-from_list_all}
use Rattle.std.proofs.lemmas.List.Folds.{list_all-append}
use Rattle.std.proofs.Math.ListN.{length-take, length-drop}
use Rattle.std.proofs.Math.Seq.{get_or-drop, length-take-le, take-nil}
use Rattle.flow.specs.Tests.{by_cases, split}

-- the n bytes of m from p on are ASCII
pub record Ascii (m : List ℕ) (p n : ℕ) : Type 0 where
  pub below : (i : ℕ) → i < n → slice_index m (p + i) < 0x80

-- the byte at p counts the n ASCII bytes of a short text after it
pub record ShortText (m : List ℕ) (p n : ℕ) : Type 0 where
  pub counted : n ≡ slice_index m p
  pub short : n < 0x20
  pub inside : p + 1 + n ≤ length m
  pub ascii : Ascii m (p + 1) n

-- whether all bytes of s are ASCII, and how many s begins with
abbrev pub is_ascii : ℕ → Bool
is_ascii b = nat_lt b 0x80

abbrev pub all_ascii : List ℕ → Bool
all_ascii s = list_all is_ascii s

abbrev pub ascii_run : List ℕ → ℕ
ascii_run s = prefix_len is_ascii s

-- how many m has from p on, of so many bytes at most
unfoldable pub ascii_at : List ℕ → ℕ → ℕ → ℕ
ascii_at m p most = ascii_run (take most (drop p m))

-- ---- the test of several: all are ASCII exactly where the highest bit of each is clear
-- the bytes as one number, the lowest first; the highest bits of so many bytes
abbrev pub low_first : List ℕ → ℕ
low_first [] = 0
low_first (b ∷ s) = low_first s * 256 + b

abbrev pub top_bits : List ℕ → ℕ
top_bits [] = 0
top_bits (b ∷ s) = top_bits s * 256 + 0x80

abbrev pub AreBytes : List ℕ → Type 0
AreBytes s = (i : ℕ) → slice_index_or s i 0 < 256

top_bit : (b : ℕ) → b < 256 → bit_and b 0x80 ≡ b / 128 * 128
top_bit b l =
    let q : b / 128 < 2 = omega arith in
    and_high b 1 7 ∙ ap (λ (x : ℕ). x * 128) (mod-eq_of_lt q)

-- x: the highest bits of the bytes after b
one_more : (b x : ℕ) → b < 256 → nat_eq (x * 256 + b / 128 * 128) 0 ≡ (is_ascii b && nat_eq x 0)
one_more b x l = split b 0x80
    (λ h. let q : x * 256 + b / 128 * 128 ≡ x * 256 = omega arith in rw (lt-ltb _ _ h, q) (times x))
    (λ h. rw (le-ltb _ _ h) (ne (x * 256 + b / 128 * 128) (omega arith)))
  where
    ne : (n : ℕ) → 0 < n → nat_eq n 0 ≡ false
    ne n h = ne_eqb n 0 (λ e. absurd (omega arith))

    times : (x : ℕ) → nat_eq (x * 256) 0 ≡ nat_eq x 0
    times zero = refl
    times (suc x) = ne (suc x * 256) (omega arith) ∙ sym (ne (suc x) (omega arith))

pub tells_bits : (s : List ℕ) → AreBytes s → nat_eq (bit_and (low_first s) (top_bits s)) 0 ≡ all_ascii s
tells_bits [] f = refl
tells_bits (b ∷ s) f =
    ap (λ (n : ℕ). nat_eq n 0)
    (and_block 8 (low_first s) (top_bits s) b 0x80 (f 0) (omega arith)
    ∙ ap (λ (x : ℕ). bit_and (low_first s) (top_bits s) * 256 + x) (top_bit b (f 0)))
    ∙ one_more b (bit_and (low_first s) (top_bits s)) (f 0)
    ∙ ap (λ (t : Bool). is_ascii b && t) (tells_bits s (λ i. f (suc i)))

-- a list by its n bytes from the place i on
abbrev by_place : ℕ → ℕ → List ℕ → List ℕ
by_place zero i s = []
by_place (suc n) i s = slice_index s i ∷ by_place n (suc i) s

by_place_next : (n i b : ℕ) (s : List ℕ) → by_place n (suc i) (b ∷ s) ≡ by_place n i s
by_place_next zero i b s = refl
by_place_next (suc n) i b s = ap (λ (t : List ℕ). slice_index s i ∷ t) (by_place_next n (suc i) b s)

by_place_all : (s : List ℕ) → by_place (length s) 0 s ≡ s
by_place_all [] = refl
by_place_all (b ∷ s) = ap (λ (t : List ℕ). b ∷ t) (by_place_next (length s) 0 b s ∙ by_place_all s)

by_places : (n : ℕ) (s : List ℕ) → length s ≡ n → by_place n 0 s ≡ s
by_places n s l = rw l at (by_place_all s)

module _ (s : List ℕ) (f : AreBytes s) {w : ℕ} where
  by_word : (n b : ℕ) → length s ≡ n → w ≡ low_first (by_place n 0 s) → top_bits (by_place n 0 s) ≡ b
      → nat_eq (bit_and w b) 0 ≡ all_ascii s
  by_word n b l e t = rw (e, ← t, by_places n s l) (tells_bits s f)

  pub tells_four : length s ≡ 4 → w ≡ from_le_bytes w32 s → nat_eq (bit_and w 0x8080_8080) 0 ≡ all_ascii s
  tells_four l e = by_word 4 0x8080_8080 l (omega arith) refl

  pub tells_eight : length s ≡ 8 → w ≡ from_le_bytes w64 s → nat_eq (bit_and w 0x8080_8080_8080_8080) 0 ≡ all_ascii s
  tells_eight l e = by_word 8 0x8080_8080_8080_8080 l (omega arith) refl

-- ---- bytes in blocks
-- all of k blocks
pub all_blocks : (n k : ℕ) (s : List ℕ) → length s ≡ k * n → list_all all_ascii (first_chunks n k s) ≡ all_ascii s
all_blocks n zero [] l = refl
all_blocks n zero (b ∷ s) l = absurd (omega arith)
all_blocks n (suc k) s l =
    ap (λ (t : Bool). all_ascii (take n s) && t) (all_blocks n k (drop n s) (omega (arith, length-drop n s)))
    ∙ sym (list_all-append is_ascii (take n s) (drop n s))
    ∙ ap all_ascii (take-append-drop n s)

-- all of several words by a fold, after others that gave t
pub fold_all : (ws : List (List ℕ)) (t : Bool) → fold (λ a w. a && all_ascii w) t ws ≡ (t && list_all all_ascii ws)
fold_all [] true = refl
fold_all [] false = refl
fold_all (w ∷ ws) true = fold_all ws (all_ascii w)
fold_all (w ∷ ws) false = fold_all ws false

-- a block that is ASCII, or not, and what follows
run_on : (s t : List ℕ) → all_ascii s ≡ true → ascii_run (s ++ t) ≡ length s + ascii_run t
run_on [] t e = omega arith
run_on (b ∷ s) t e = by_cases (is_ascii b)
    (λ h. let r : all_ascii s ≡ true = rw h at e in rw h (omega (arith, run_on s t r)))
    (λ h. let r : false ≡ true = rw h at e in cc)

run_ends : (s t : List ℕ) → all_ascii s ≡ false → ascii_run (s ++ t) < length s
run_ends [] t e = cc
run_ends (b ∷ s) t e = by_cases (is_ascii b)
    (λ h. let r : all_ascii s ≡ false = rw h at e in rw h (omega (arith, run_ends s t r)))
    (λ h. rw h (omega arith))

module _ (n : ℕ) (s : List ℕ) (l : n ≤ length s) where
  block_on : all_ascii (take n s) ≡ true → ascii_run s ≡ n + ascii_run (drop n s)
  block_on e =
      ap ascii_run (sym (take-append-drop n s)) ∙ run_on (take n s) (drop n s) e
      ∙ ap (λ (j : ℕ). j + ascii_run (drop n s)) (length-take-le n s l)

  block_ends : all_ascii (take n s) ≡ false → ascii_run s < n
  block_ends e =
      let r = rw take-append-drop at (run_ends (take n s) (drop n s) e) in omega (arith, length-take-le n s l)

pub run_blocks : (n k : ℕ) (s : List ℕ) → 0 < n → k * n ≤ length s → length s < k * n + n
    → prefix_len all_ascii (first_chunks n k s) ≡ ascii_run s / n
run_blocks n zero s z l h = sym (div-eq_of_lt (omega (arith, prefix_len-le-length is_ascii s)))
run_blocks n (suc k) s z l h =
    let few : n ≤ length s = omega arith in
    let d = length-drop n s in
    let rest = run_blocks n k (drop n s) z (omega arith) (omega arith) in
    by_cases (all_ascii (take n s))
    (λ e. rw (e, block_on n s few e, add-div_left (ascii_run (drop n s)) z) (omega arith))
    (λ e. rw e (sym (div-eq_of_lt (block_ends n s few e))))

-- ws: what a list is cut into
module _ (n : ℕ) (s : List ℕ) {ws : List (List ℕ)} (e : ws ≡ first_chunks n (length s / n) s) where
  pub chunks_all : length s % n ≡ 0 → list_all all_ascii ws ≡ all_ascii s
  chunks_all z = rw e (all_blocks n (length s / n) s (omega (arith, div-add-mod' (length s) n)))

  pub chunks_run : 0 < n → prefix_len all_ascii ws ≡ ascii_run s / n
  chunks_run z = rw e (run_blocks n (length s / n) s z (div-mul-le_self (length s) n) (lt-div-mul-add z))

-- n bytes of the run, and the rest of it
pub run_rest : (s : List ℕ) (n : ℕ) → n ≤ ascii_run s → n + ascii_run (take (length s - n) (drop n s)) ≡ ascii_run s
run_rest s n l = rw (take_all (length s - n) (drop n s) (omega (arith, length-drop n s))) (go s n l)
  where
    go : (s : List ℕ) (n : ℕ) → n ≤ ascii_run s → n + ascii_run (drop n s) ≡ ascii_run s
    go s zero l = omega arith
    go [] (suc n) l = absurd (omega arith)
    go (b ∷ s) (suc n) l = by_cases (is_ascii b)
        (λ h. let k : suc n ≤ 1 + ascii_run s = rw h at l in rw h (omega (arith, go s n (omega arith))))
        (λ h. let k : suc n ≤ 0 = rw h at l in absurd (omega arith))

-- all are ASCII where the run is the whole
pub run_whole : (s : List ℕ) {n : ℕ} → n ≡ ascii_run s → nat_eq n (length s) ≡ all_ascii s
run_whole s e = rw e (go s)
  where
    same : (a b : ℕ) → nat_eq (1 + a) (suc b) ≡ nat_eq a b
    same a b = by_cases (nat_eq a b)
        (λ h. rw (h, eqb-true a b h) (eq-eqb (1 + b) (suc b) (omega arith)))
        (λ h. rw h (ne_eqb (1 + a) (suc b) (λ z. eqb-false a b h (omega arith))))

    go : (s : List ℕ) → nat_eq (ascii_run s) (length s) ≡ all_ascii s
    go [] = refl
    go (b ∷ s) = by_cases (is_ascii b)
        (λ h. rw h (same (prefix_len is_ascii s) (length s) ∙ go s))
        (λ h. rw h (ne_eqb 0 (suc (length s)) (λ z. absurd (omega arith))))

-- n bytes of m from p on, all ASCII
pub ascii_all : (m : List ℕ) (p n : ℕ) → p + n ≤ length m → all_ascii (take (p + n - p) (drop p m)) ≡ true → Ascii m p n
ascii_all m p n l e =
    let d : p + n - p ≡ n = omega arith in
    let k = length-take-le n (drop p m) (omega (arith, length-drop p m)) in
    record {
      below = λ i h.
          rw (get_or-take n (drop p m) i 0 h, get_or-drop p m i 0)
          at (ltb-true _ _ (AllPass-from_list_all is_ascii (take n (drop p m)) (rw d at e) i 0 (omega arith)));
    }

-- ---- the run: n of its bytes are ASCII exactly where it is no shorter
module _ (m : List ℕ) (p most : ℕ) where
  pub run_few : ascii_at m p most ≤ most
  unfolding ascii_at
  run_few = omega (arith, prefix_len-le-length is_ascii (take most (drop p m)), length-take most (drop p m))

  pub run_inside : p ≤ length m → p + ascii_at m p most ≤ length m
  unfolding ascii_at
  run_inside l =
      omega
      (arith, prefix_len-le-length is_ascii (take most (drop p m)), length-take most (drop p m), length-drop p m)

  pub run_ascii : (n : ℕ) → n ≤ ascii_at m p most → Ascii m p n
  unfolding ascii_at
  run_ascii n h = record {
    below = λ i l.
        rw (get_or-take most (drop p m) i 0 (omega (arith, run_few)), get_or-drop p m i 0)
        at (ltb-true _ _ (prefix_len_passes is_ascii (take most (drop p m)) i 0 (omega arith)));
  }

  -- past the end, where another byte stands, and up to the end
  pub run_past : length m ≤ p → 0 ≡ ascii_at m p most
  unfolding ascii_at
  run_past l = rw (drop_of_length-le m l, take-nil most)

  pub run_other : 0x80 ≤ slice_index m p → 0 ≡ ascii_at m p most
  run_other h = split 0 (ascii_at m p most)
      (λ z. absurd (omega (arith, rw (add-zero p) at ((run_ascii 1 (omega arith)).below 0 (omega arith)))))
      (λ z. omega arith)

  -- j: as many as the message has room for
  pub run_room : {j : ℕ} → j ≡ min most (length m - p) → ascii_run (take (p + j - p) (drop p m)) ≡ ascii_at m p most
  unfolding ascii_at
  run_room {j} e =
      let d = length-drop p m in
      split (length m - p) most
      (λ l. ap ascii_run (take_all (p + j - p) (drop p m) (omega arith) ∙ sym (take_all most (drop p m) (omega arith))))
      (λ l. ap (λ (i : ℕ). ascii_run (take i (drop p m))) (omega arith))

-- of what is said to be a run
module _ (m : List ℕ) (p most : ℕ) {r : ℕ} (e : r ≡ ascii_at m p most) where
  pub few_are : r ≤ most
  few_are = omega (arith, run_few m p most)

  pub inside_are : p ≤ length m → p + r ≤ length m
  inside_are l = omega (arith, run_inside m p most l)

  pub ascii_are : Ascii m p r
  ascii_are = run_ascii m p most r (omega arith)

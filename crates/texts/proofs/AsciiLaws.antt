-- Laws of bytes below 80 by their places: parts of a run, tests of several bytes at once, and counting in steps.
use Rattle.std.specs.Prelude.{◌≡◌, ℕ, zero, suc, ◌+◌, ◌-◌, ◌*◌, ◌/◌, ◌%◌, ◌<◌, ◌≤◌, Bool, true, false, ◌↔◌, List, []}
use Rattle.std.specs.Prelude.{◌∷◌, length, take, drop, ◌==◌, bit_and, nat_le, nat_lt, slice_index, slice_index_or, refl}
use Rattle.std.proofs.Math.Path.{sym, ap}
use Rattle.std.proofs.Common.{◌∙◌, add-zero, add-mul, one-mul, mod-eq_of_lt, div-add-mod', arith, get_or-take, take_all}
use Rattle.std.proofs.Common.{eqb-true, eq-eqb, leb-true, le-leb, ltb-true, lt-ltb, Fits}
use Rattle.std.proofs.Math.Nat.{zero-mod, add-mod_right, div-eq_of_lt-le}
use Rattle.std.proofs.lemmas.Nat.{and_block}
use Rattle.std.proofs.lemmas.Nat.Bits.{and_high}
use Rattle.std.proofs.lemmas.List.Sums.{prefix_len-le-length, prefix_len_passes}
use Rattle.std.proofs.Math.ListN.{length-drop}
use Rattle.std.proofs.Math.Seq.{get_or-drop, length-take-le}
use Rattle.std.specs.Int.{w8}
use Rattle.flow.specs.Tests.{by_test, split, tests}
use Rattle.texts.specs.Ascii.{Ascii, is_ascii, ascii_run, ascii_at, run_few, run_ascii}

-- the bytes of m from p on as one number, the lowest first; the highest bits of so many bytes
abbrev pub low_first : List ℕ → ℕ → ℕ → ℕ
low_first m p zero = 0
low_first m p (suc k) = low_first m (p + 1) k * 256 + slice_index m p

abbrev pub top_bits : ℕ → ℕ
top_bits zero = 0
top_bits (suc k) = top_bits k * 256 + 0x80

-- ---- none, one, more after others, fewer
module _ (m : List ℕ) (p : ℕ) where
  pub ascii_none : Ascii m p 0
  ascii_none = record { below = λ i l. absurd (omega arith) }

  pub ascii_one : slice_index_or m p 0 < 0x80 → Ascii m p 1
  ascii_one h = record { below = λ i l. let e : p + i ≡ p = omega arith in rw e h }

  -- j of them from i on
  pub ascii_part : (n i j q : ℕ) → q ≡ p + i → i + j ≤ n → Ascii m p n → Ascii m q j
  ascii_part n i j q s h x = record {
    below = λ k l. let e : p + (i + k) ≡ q + k = omega arith in rw e at (x.below (i + k) (omega arith));
  }

  -- the first i and the last j of them, where these are all
  pub ascii_ends : (n i j q : ℕ) → q + j ≡ p + n → j ≤ n → n ≤ i + j → Ascii m p i → Ascii m q j → Ascii m p n
  ascii_ends n i j q s l h x y = record {
    below = λ k r. split k i (λ z. x.below k z)
        (λ z. let e : q + (k + j - n) ≡ p + k = omega arith in rw e at (y.below (k + j - n) (omega arith)));
  }

-- ---- the test: all of k bytes are ASCII exactly where the highest bit of each is clear
top_bit : (b : ℕ) → b < 256 → bit_and b 0x80 ≡ b / 128 * 128
top_bit b l =
    let q : b / 128 < 2 = omega arith in
    and_high b 1 7 ∙ ap (λ (x : ℕ). x * 128) (mod-eq_of_lt q)

module _ (m : List ℕ) (bytes : (i : ℕ) → Fits w8 (slice_index m i)) where
  -- a byte, and the others
  bits : (k p : ℕ)
      → bit_and (low_first m p (suc k)) (top_bits (suc k))
      ≡ bit_and (low_first m (p + 1) k) (top_bits k) * 256 + slice_index m p / 128 * 128
  bits k p =
      and_block 8 (low_first m (p + 1) k) (top_bits k) (slice_index m p) 0x80 (bytes p).fits (omega arith)
      ∙ ap (λ (x : ℕ). bit_and (low_first m (p + 1) k) (top_bits k) * 256 + x)
      (top_bit (slice_index m p) (bytes p).fits)

  pub test_ascii : (k p : ℕ) → bit_and (low_first m p k) (top_bits k) ≡ 0 → Ascii m p k
  test_ascii zero p e = ascii_none m p
  test_ascii (suc k) p e =
      let s = sym (bits k p) ∙ e in
      let b = (bytes p).fits in
      ascii_ends m p (suc k) 1 k (p + 1) (omega arith) (omega arith) (omega arith)
      (ascii_one m p (omega arith)) (test_ascii k (p + 1) (omega arith))

  pub ascii_test : (k p : ℕ) → Ascii m p k → bit_and (low_first m p k) (top_bits k) ≡ 0
  ascii_test zero p x = refl
  ascii_test (suc k) p x =
      let h : slice_index_or m p 0 < 0x80 = rw (add-zero p) at (x.below 0 (omega arith)) in
      let r = ascii_test k (p + 1) (ascii_part m p (suc k) 1 k (p + 1) (omega arith) (omega arith) x) in
      bits k p ∙ omega arith

-- ---- the run: n of its bytes are ASCII exactly where it is no shorter
run_below : (s : List ℕ) (i : ℕ) → i < ascii_run s → slice_index s i < 0x80
run_below s i l = ltb-true _ _ (prefix_len_passes is_ascii s i 0 l)

below_run : (s : List ℕ) (n : ℕ) → n ≤ length s → ((i : ℕ) → i < n → slice_index s i < 0x80) → n ≤ ascii_run s
below_run s zero l f = omega arith
below_run [] (suc n) l f = absurd (omega arith)
below_run (b ∷ s) (suc n) l f =
    by_test (λ (r : ℕ). suc n ≤ r) (nat_lt b 0x80)
    (λ t. omega (arith, below_run s n (omega arith) (λ i h. f (suc i) (omega arith))))
    (λ t. absurd (omega (arith, tests, f 0 (omega arith))))

run_length : (s : List ℕ) → ascii_run s ≤ length s
run_length s = prefix_len-le-length is_ascii s

module _ (m : List ℕ) (p most : ℕ) where
  pub ascii_run_law : p + most ≤ length m → (n : ℕ) → n ≤ most → Ascii m p n → n ≤ ascii_at m p most
  unfolding ascii_at
  ascii_run_law l n h x =
      let e = length-take-le most (drop p m) (omega (arith, length-drop p m)) in
      below_run (take most (drop p m)) n (omega arith)
      (λ i j. rw (get_or-take most (drop p m) i 0 (omega arith), get_or-drop p m i 0) (x.below i j))

  -- up to the end
  pub run_end : (n : ℕ) → n ≡ length m - p → n ≤ most → ascii_at m p n ≡ ascii_at m p most
  unfolding ascii_at
  run_end n e l =
      let d = length-drop p m in
      ap ascii_run (take_all n (drop p m) (omega arith) ∙ sym (take_all most (drop p m) (omega arith)))

-- ---- what a test of n bytes says
abbrev pub Tells : Bool → List ℕ → ℕ → ℕ → Type 0
Tells r m p n = r ≡ true ↔ Ascii m p n

-- by the highest bits
module _ (m : List ℕ) (bytes : (i : ℕ) → Fits w8 (slice_index m i)) (p : ℕ) where
  pub tells_bits : (k w : ℕ) → w ≡ low_first m p k → Tells (bit_and w (top_bits k) == 0) m p k
  tells_bits k w e = rw e (λ t. test_ascii m bytes k p (eqb-true _ _ t), λ x. eq-eqb _ _ (ascii_test m bytes k p x))

  abbrev four : ℕ → ℕ → ℕ → ℕ → ℕ
  four a b c d = ((slice_index m d * 256 + slice_index m c) * 256 + slice_index m b) * 256 + slice_index m a

  pub tells_four : {w : ℕ} → w ≡ four p (p + 1) (p + 2) (p + 3) → Tells (bit_and w 0x8080_8080 == 0) m p 4
  tells_four {w} e =
      let a : p + 1 + 1 ≡ p + 2 = omega arith in
      let b : p + 2 + 1 ≡ p + 3 = omega arith in
      tells_bits 4 w (rw (a, b) (omega arith))

  pub tells_eight : {low high : ℕ} → low ≡ four p (p + 1) (p + 2) (p + 3) → high ≡ four (p + 4) (p + 5) (p + 6) (p + 7)
      → Tells (bit_and (high * 0x1_0000_0000 + low) 0x8080_8080_8080_8080 == 0) m p 8
  tells_eight {low} {high} e f =
      let a : p + 1 + 1 ≡ p + 2 = omega arith in
      let b : p + 2 + 1 ≡ p + 3 = omega arith in
      let c : p + 3 + 1 ≡ p + 4 = omega arith in
      let d : p + 4 + 1 ≡ p + 5 = omega arith in
      let g : p + 5 + 1 ≡ p + 6 = omega arith in
      let h : p + 6 + 1 ≡ p + 7 = omega arith in
      tells_bits 8 (high * 0x1_0000_0000 + low) (rw (a, b, c, d, g, h) (omega arith))

module _ (m : List ℕ) (p n : ℕ) where
  -- a test of some of the bytes fails
  pub tells_no : (j q : ℕ) {t : Bool} → Tells t m q j → t ≡ false → p ≤ q → q + j ≤ p + n → Tells false m p n
  tells_no j q {t} f e h l = (
    λ y. let z : ◌≡◌ {A = ℕ} 0 1 = cc in absurd (omega arith),
    λ x. sym e ∙ f.1 (ascii_part m p n (q - p) j q (omega arith) (omega arith) x),
  )

  -- the last j are tested, and those before them are ASCII
  pub tells_last : (i j q : ℕ) {r : Bool} → Ascii m p i → Tells r m q j
      → q + j ≡ p + n → j ≤ n → i ≤ n → n ≤ i + j → Tells r m p n
  tells_last i j q {r} f g s l k h = (
    λ y. ascii_ends m p n i j q s l h f (g.0 y),
    λ x. g.1 (ascii_part m p n (q - p) j q (omega arith) (omega arith) x),
  )

  -- the run has them
  pub tells_run : {r : ℕ} → p + n ≤ length m → r ≡ ascii_at m p n → Tells (nat_le n r) m p n
  tells_run {r} l e = (
    λ y. run_ascii m p n n (omega (arith, leb-true n r y)),
    λ x. le-leb n r (omega (arith, ascii_run_law m p n l n (omega arith) x)),
  )

-- one byte more, as a test of one
pub tells_byte : (m : List ℕ) (p : ℕ) → Tells (nat_lt (slice_index m p) 0x80) m p 1
tells_byte m p = (λ t. ascii_one m p (ltb-true _ _ t), λ x. lt-ltb _ _ (rw (add-zero p) at (x.below 0 (omega arith))))

-- ---- counting a run by w bytes at a time: n bytes of it so far
pub record Counting (w : ℕ) (m : List ℕ) (p most n : ℕ) : Type 0 where
  pub room : p + most ≤ length m
  pub whole : n % w ≡ 0
  pub within : n ≤ ascii_at m p most

pub counting_start : (w : ℕ) (m : List ℕ) (p most : ℕ) → p + most ≤ length m → Counting w m p most 0
counting_start w m p most l = record { room = l; whole = zero-mod w; within = omega arith }

module _ {w : ℕ} {m : List ℕ} {p most n : ℕ} (R : Counting w m p most n) where
  pub counting_few : n ≤ most
  counting_few = omega (arith, R.within, run_few m p most)

  rounded : 0 < w → ascii_at m p most < n + w → n ≡ ascii_at m p most / w * w
  rounded z h =
      let r = ascii_at m p most in
      let e : n / w * w ≡ n = omega (arith, div-add-mod' n w, R.whole) in
      let f : (n / w + 1) * w ≡ n / w * w + w = add-mul (n / w) 1 w ∙ ap (λ (x : ℕ). n / w * w + x) (one-mul w) in
      let q : r / w ≡ n / w = div-eq_of_lt-le {k = n / w} w {m = r} (omega (arith, R.within)) (omega arith) in
      sym e ∙ ap (λ (x : ℕ). x * w) (sym q)

  -- too few are left
  pub counting_end : 0 < w → most < n + w → n ≡ ascii_at m p most / w * w
  counting_end z h = rounded z (omega (arith, run_few m p most))

  module _ {t : Bool} (f : Tells t m (p + n) w) where
    -- all of the next are ASCII, or not all
    pub counting_more : t ≡ true → n + w ≤ most → Counting w m p most (n + w)
    counting_more e h = record {
      room = R.room;
      whole = add-mod_right n w ∙ R.whole;
      within = ascii_run_law m p most R.room (n + w) h
          (ascii_ends m p (n + w) n w (p + n) (omega arith) (omega arith) (omega arith)
          (run_ascii m p most n R.within) (f.0 e));
    }

    pub counting_stop : 0 < w → t ≡ false → n ≡ ascii_at m p most / w * w
    counting_stop z e = rounded z (split (ascii_at m p most) (n + w) (λ h. h) (λ h.
        let x = ascii_part m p (n + w) n w (p + n) (omega arith) (omega arith) (run_ascii m p most (n + w) h) in
        let y : true ≡ false = sym (f.1 x) ∙ e in
        let o : ◌≡◌ {A = ℕ} 0 1 = cc in
        absurd (omega arith)))

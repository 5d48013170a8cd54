-- Whole numbers and widened floats are the doubles of `lib.Ieee`, IEEE 754's account.
use lib.Ieee.{nan}
use Rattle.std.specs.Prelude.{◌≡◌, refl, Bool, true, false, not, cond, ◌&&◌, T, leb, ltb, eqb, ℤ, pos, negsuc, Float}
use Rattle.std.proofs.Common.{sym, ap, ◌∙◌, lt_of_lt_of_le, lt_irrefl, mul-div_cancel, mul_assoc, mul-one, mul_right_comm, mul_comm, mul-le-mul_right, le_trans, add_assoc, zero-add, arith, pow-add, pow_mono, shl_lt, leb-true, leb-false, eqb-true, eq-eqb, ne_eqb}
use Prim.Native.Nat.{ℕ, zero, suc, ◌+◌, ◌-◌, ◌*◌, ◌/◌, ◌%◌, ◌^◌, ◌≤◌, ◌<◌, compare}
use Rattle.std.specs.Int.Count.{count_leading_zeros, leading_unique}
use Rattle.std.proofs.lemmas.Nat.{leading_top, shl-shr}
use Rattle.std.specs.Float.{inf, fin, Format, binary32, binary64}
use Rattle.std.specs.Float.Ieee.{up, down, size, odd, units, round, nearest, of_int, is_nan, nan_bits, of_bits, of_fields, to_bits, low, prec, emax}
use Rattle.std.specs.Float.Ieee.Back.{round_whole}
use Rattle.std.specs.Float.Ieee.Digits.{size-lt, size-le}
use Rattle.std.specs.Float.Ieee.Exact.{HasValue, odd_sign}
use Rattle.std.specs.Float.Ieee.Fits.{down_pos}
use Rattle.std.specs.Int.Signed.{mag}
use Rattle.flow.specs.Tests.{by_cases, split}
use Rattle.scalar.specs.Scalars.{scaled, whole, magnitude, widened}
use Rattle.scalar.proofs.DoubleLaws.{powers, by_magnitude}

-- ---- an integer's float is no NaN

units_no_nan : (f : Format) (s : Bool) (q k : ℕ) → T (not (is_nan (units f s q k)))
unfolding units odd is_nan
units_no_nan f s q k = go (ltb (q * 2 ^ k) (2 ^ (low f + suc (emax f)))) q
  where
    go : (b : Bool) (q : ℕ) → T (not (is_nan (cond b (odd (suc (prec f)) s q k (low f)) (inf s))))
    go true zero = tt
    go true (suc q) = tt
    go false q = tt

pub round_no_nan : (f : Format) (s : Bool) (a c : ℕ) → T (not (is_nan (round f s a c)))
unfolding round
round_no_nan f s a c =
    let n = a * 2 ^ low f in
    let k = size (n / c) - prec f in
    let u = c * 2 ^ k in
    units_no_nan f s (nearest (n / u) (compare (n % u * 2) u)) k

pub of_int_no_nan : (f : Format) (z : ℤ) → T (not (is_nan (of_int f z)))
unfolding of_int
of_int_no_nan f (pos n) = round_no_nan f false n 1
of_int_no_nan f (negsuc n) = round_no_nan f true (suc n) 1

-- ---- the bits of a float of a known value

size_is : (a b n : ℕ) → 2 ^ a ≤ n → n < 2 ^ b → b ≡ suc a → size n ≡ b
size_is a b n lo hi e =
    split a (size n) (λ l. omega (arith, size-le n b hi))
    (λ l. absurd (lt_irrefl n (lt_of_lt_of_le (size-lt n) (le_trans (pow_mono l) lo))))

-- m * 2 ^ c: how many digits it has past the first 53, and these 53
digits : (m c : ℕ) → 0 < m → m < 2 ^ 32 → 52 ≤ c
    → (size (m * 2 ^ c) - 53 ≡ c - 21 - count_leading_zeros 32 m)
    × (m * 2 ^ c / 2 ^ (c - 21 - count_leading_zeros 32 m) ≡ m * 2 ^ (21 + count_leading_zeros 32 m))
digits m c h k l =
    let p = leading_top 32 m h k in
    let j = p.0 in
    let z = count_leading_zeros 32 m in
    let r = c - 21 - z in
    let s =
    size_is (j + c) (suc j + c) (m * 2 ^ c) (rw (pow-add 2 j c) (mul-le-mul_right (2 ^ c) p.2))
    (shl_lt (suc j) c p.3) (omega arith) in
    let d : m * 2 ^ c ≡ m * 2 ^ (21 + z) * 2 ^ r =
    rw (powers c (21 + z) r (omega (arith, p.1))) (sym (mul_assoc m (2 ^ (21 + z)) (2 ^ r))) in
    (omega (arith, s, p.1), rw d (shl-shr (m * 2 ^ (21 + z)) r))

-- m * 2 ^ (c - 1074) has the bits `scaled c m`
scaled_bits : (x : Float) (s : Bool) (c m : ℕ) → 0 < m → m < 2 ^ 32 → 52 ≤ c → HasValue x s (m * 2 ^ c) (2 ^ 1074)
    → cond s (2 ^ 63) 0 + scaled c m ≡ to_bits binary64 x
unfolding scaled to_bits
scaled_bits (fin t q e) s c m h k l v =
    let p = digits m c h k l in
    let n : q * up e * 2 ^ 1074 / down e ≡ m * 2 ^ c =
    ap (λ (x : ℕ). x / down e) v.1 ∙ mul-div_cancel (m * 2 ^ c) (down_pos e) in
    rw (n, v.0, p.0, p.1)
    (sym (add_assoc (cond s (2 ^ 63) 0) ((c - 21 - count_leading_zeros 32 m) * 2 ^ 52) (m * 2 ^ (21 + count_leading_zeros 32 m))))
scaled_bits nan s c m h k l v = elim v [ ]
scaled_bits (inf _) s c m h k l v = elim v [ ]

-- a value as another fraction
rescale : (x : Float) (s : Bool) (a c u : ℕ) → HasValue x s a c → HasValue x s (a * u) (c * u)
rescale (fin t q e) s a c u v =
    (v.0, sym (mul_assoc (q * up e) c u) ∙ ap (λ (y : ℕ). y * u) v.1 ∙ mul_right_comm a (down e) u)
rescale nan s a c u v = elim v [ ]
rescale (inf _) s a c u v = elim v [ ]

-- ---- whole numbers

round_bits : (s : Bool) (n : ℕ) → 0 < n → n < 2 ^ 32
    → cond s (2 ^ 63) 0 + scaled 1074 n ≡ to_bits binary64 (round binary64 s n 1)
round_bits s n h k =
    let x = round binary64 s n 1 in
    scaled_bits x s 1074 n h k (omega arith) (rescale x s n 1 (2 ^ 1074) (round_whole binary64 s n (omega arith)))

pub whole_agrees : (z : ℤ) → mag z < 2 ^ 31 → whole z ≡ to_bits binary64 (of_int binary64 z)
unfolding whole of_int to_bits round
whole_agrees (pos zero) h = refl
whole_agrees (pos (suc n)) h =
    sym (zero-add (scaled 1074 (suc n))) ∙ round_bits false (suc n) (omega arith) (omega arith)
whole_agrees (negsuc n) h = round_bits true (suc n) (omega arith) (omega arith)

-- ---- floats

-- zero and infinity
ends : (s : Bool)
    → (cond s (2 ^ 63) 0 + 0 ≡ to_bits binary64 (of_fields binary32 s 0 0))
    × (cond s (2 ^ 63) 0 + (2047 * 2 ^ 52 + 0 * 2 ^ 29) ≡ to_bits binary64 (of_fields binary32 s 255 0))
unfolding of_fields to_bits
ends true = (refl, refl)
ends false = (refl, refl)

low_value : (s : Bool) (t : ℕ) → HasValue (of_fields binary32 s 0 t) s (t * 2 ^ 925) (2 ^ 1074)
unfolding of_fields
low_value s t = rescale (odd 24 s t 0 149) s t (2 ^ 149) (2 ^ 925) (rw (mul-one t) at (odd_sign 24 s t 0 149))

normal_value : (s : Bool) (x t : ℕ) → suc x < 255
    → HasValue (of_fields binary32 s (suc x) t) s ((2 ^ 23 + t) * 2 ^ (925 + x)) (2 ^ 1074)
unfolding of_fields
normal_value s x t h =
    rw (ne_eqb (suc x) 255 (λ e. omega arith))
    (rw (pow-add 2 925 x, mul_comm (2 ^ 925) (2 ^ x), ← mul_assoc (2 ^ 23 + t) (2 ^ x) (2 ^ 925))
    (rescale (odd 24 s (2 ^ 23 + t) x 149) s ((2 ^ 23 + t) * 2 ^ x) (2 ^ 149) (2 ^ 925)
    (odd_sign 24 s (2 ^ 23 + t) x 149)))

scaled_normal : (x t : ℕ) → t < 2 ^ 23 → (suc x + 896) * 2 ^ 52 + t * 2 ^ 29 ≡ scaled (925 + x) (2 ^ 23 + t)
unfolding scaled
scaled_normal x t h = rw (← leading_unique 32 (2 ^ 23 + t) 8 24 refl (omega arith) (omega arith)) (omega arith)

normal_bits : (s : Bool) (x t : ℕ) → 0 < x → x < 255 → t < 2 ^ 23
    → cond s (2 ^ 63) 0 + ((x + 896) * 2 ^ 52 + t * 2 ^ 29) ≡ to_bits binary64 (of_fields binary32 s x t)
normal_bits s zero t p h k = absurd (lt_irrefl 0 p)
normal_bits s (suc x) t p h k =
    rw (scaled_normal x t k)
    (scaled_bits (of_fields binary32 s (suc x) t) s (925 + x) (2 ^ 23 + t) (omega arith) (omega arith) (omega arith)
    (normal_value s x t h))

-- any float that is no NaN, by its fields
fields_agree : (s : Bool) (x t : ℕ) → x < 2 ^ 8 → t < 2 ^ 23 → (x ≡ 255 → t ≡ 0)
    → cond s (2 ^ 63) 0 + magnitude x t ≡ to_bits binary64 (of_fields binary32 s x t)
fields_agree s x t hx ht n =
    by_magnitude (λ (v : ℕ). cond s (2 ^ 63) 0 + v ≡ to_bits binary64 (of_fields binary32 s x t)) x t
    (λ e. let z = n e in rw (e, z) (ends s).1)
    (λ m h. normal_bits s x t h (omega arith) ht)
    (λ e z. rw (e, z) (ends s).0)
    (λ e m.
    rw e (scaled_bits (of_fields binary32 s 0 t) s 925 t (omega arith) (omega arith) (omega arith) (low_value s t)))

pub widened_agrees : (u : ℕ) → u < 2 ^ 32 → nan_bits binary32 u ≡ false → widened u ≡ to_bits binary64 (of_bits binary32 u)
unfolding widened of_bits nan_bits
widened_agrees u h k =
    let x : u % 2 ^ 31 / 2 ^ 23 ≡ u / 2 ^ 23 % 2 ^ 8 = omega arith in
    rw (x, sign)
    (fields_agree (leb (2 ^ 31) u) (u / 2 ^ 23 % 2 ^ 8) (u % 2 ^ 23) (omega arith) (omega arith)
    (λ e. no_digits (rw x at k) e))
  where
    sign : u / 2 ^ 31 * 2 ^ 63 ≡ cond (leb (2 ^ 31) u) (2 ^ 63) 0
    sign =
        by_cases (leb (2 ^ 31) u) (λ e. rw e (omega (arith, leb-true (2 ^ 31) u e)))
        (λ e. rw e (omega (arith, leb-false (2 ^ 31) u e)))

    no_digits : eqb (u / 2 ^ 23 % 2 ^ 8) 255 && not (eqb (u % 2 ^ 23) 0) ≡ false → u / 2 ^ 23 % 2 ^ 8 ≡ 255
        → u % 2 ^ 23 ≡ 0
    no_digits f e = by_cases (eqb (u % 2 ^ 23) 0) (λ t. eqb-true (u % 2 ^ 23) 0 t)
        (λ t. let z : true ≡ false = rw (eq-eqb (u / 2 ^ 23 % 2 ^ 8) 255 e, t) at f in cc)

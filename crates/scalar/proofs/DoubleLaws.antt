-- Doubles by their bits: what the shift keeps, each definition by its cases, and that the candidates give back what
-- became a double.
use Rattle.std.specs.Prelude.{◌≡◌, ℕ, zero, suc, ◌+◌, ◌-◌, ◌*◌, ◌/◌, ◌%◌, ◌^◌, ◌≤◌, ◌<◌, eqb, ℤ, pos, negsuc, ◌-ℤ◌}
use Rattle.std.proofs.Math.Path.{refl}
use Rattle.std.proofs.Common.{sym, ◌∙◌, mod-eq_of_lt, lt_of_lt_of_le, mul-lt-mul_of_pos_right, mul-le-mul_right, lt_irrefl, le_trans, mul_left_comm, arith, pow-add, pow_pos, pow_mono, shr_lt}
use Rattle.std.proofs.Math.Nat.{add-mod_right}
use Rattle.std.proofs.Math.Arith.{digits_div, digits_mod}
use Rattle.std.specs.Int.Count.{count_leading_zeros}
use Rattle.std.proofs.lemmas.Nat.{leading_top, shl-shr}
use Rattle.std.specs.Int.Signed.{mag}
use borrow.Author.Tests.{lt-ltb, le-ltb, eq-eqb, ne_eqb, eqb-true, eqb-false}
use Rattle.std.specs.Int.{Width, w8, w16, w32}
use mir.Val.{SFits, bits, hbits, to_z, of_z}
use mir.ValLaws.{bits-suc, pow-bits, to_z_pos, to_z-of_z}
use Rattle.flow.specs.Tests.{by_cases, split}
use Rattle.scalar.specs.Scalars.{scaled, whole, magnitude, widened}
use Rattle.scalar.specs.Guesses.{unscaled, whole_size, whole_guess, narrow_magnitude, narrowed}

-- ---- m shifted so that its first one bit is bit 52

pub lz_lt : (m : ℕ) → 0 < m → m < 2 ^ 32 → count_leading_zeros 32 m < 32
lz_lt m h k = let p = leading_top 32 m h k in omega (arith, p.1)

-- a number of 23 bits has 9 leading zeros or more
lz_ge : (m : ℕ) → 0 < m → m < 2 ^ 23 → 9 ≤ count_leading_zeros 32 m
lz_ge m h k =
    let p = leading_top 32 m h (omega arith) in
    split p.0 23 (λ l. omega (arith, p.1))
    (λ l. absurd (lt_irrefl m (lt_of_lt_of_le k (le_trans (pow_mono {i = 23} {j = p.0} l) p.2))))

-- a power in two parts
pub powers : (n i j : ℕ) → i + j ≡ n → 2 ^ n ≡ 2 ^ i * 2 ^ j
powers n i j e = rw (← e) (pow-add 2 i j)

pub moved : (m : ℕ) → 0 < m → m < 2 ^ 32
    → (2 ^ 52 ≤ m * 2 ^ (21 + count_leading_zeros 32 m)) × (m * 2 ^ (21 + count_leading_zeros 32 m) < 2 ^ 53)
moved m h k =
    let p = leading_top 32 m h k in
    let z = count_leading_zeros 32 m in (
      rw (powers 52 p.0 (21 + z) (omega (arith, p.1))) (mul-le-mul_right (2 ^ (21 + z)) p.2),
      rw (powers 53 (suc p.0) (21 + z) (omega (arith, p.1))) (mul-lt-mul_of_pos_right p.3 (pow_pos (21 + z))),
    )

-- 64 bits hold it
pub shifted : (m : ℕ) → 0 < m → m < 2 ^ 32
    → (m * 2 ^ (21 + count_leading_zeros 32 m)) % 2 ^ 64 ≡ m * 2 ^ (21 + count_leading_zeros 32 m)
shifted m h k = mod-eq_of_lt (omega (arith, (moved m h k).1))

pub scaled_is : (c m : ℕ) → 0 < m → m < 2 ^ 32
    → (c - 21 - count_leading_zeros 32 m) * 2 ^ 52 + (m * 2 ^ (21 + count_leading_zeros 32 m)) % 2 ^ 64 ≡ scaled c m
unfolding scaled
scaled_is c m h k = rw (shifted m h k)

pub scaled_lt : (c m : ℕ) → 0 < m → m < 2 ^ 32 → c ≤ 2000 → scaled c m < 2 ^ 63
unfolding scaled
scaled_lt c m h k l = omega (arith, (moved m h k).1)

-- m again, from the exponent and the fraction of `scaled c m`; and that exponent
unscale : (c m : ℕ) → 0 < m → m < 2 ^ 32 → 52 ≤ c
    → (unscaled c (scaled c m / 2 ^ 52) (scaled c m % 2 ^ 52) ≡ m)
    × (scaled c m / 2 ^ 52 ≡ suc (c - 21 - count_leading_zeros 32 m))
unfolding scaled
unscale c m h k l =
    let z = count_leading_zeros 32 m in
    let M = m * 2 ^ (21 + z) in
    let p = moved m h k in
    let y = lz_lt m h k in
    let v : (c - 21 - z) * 2 ^ 52 + M ≡ suc (c - 21 - z) * 2 ^ 52 + (M - 2 ^ 52) = omega (arith, p.0) in
    let x : ((c - 21 - z) * 2 ^ 52 + M) / 2 ^ 52 ≡ suc (c - 21 - z) =
    rw v (digits_div (suc (c - 21 - z)) (omega (arith, p.1))) in
    let t : 2 ^ 52 + ((c - 21 - z) * 2 ^ 52 + M) % 2 ^ 52 ≡ M =
    rw (v, digits_mod (suc (c - 21 - z)) {m = 2 ^ 52} {r = M - 2 ^ 52} (omega (arith, p.1)))
    (omega (arith, p.0)) in
    let s : c + 1 - suc (c - 21 - z) ≡ 21 + z = omega arith in
    (rw (t, x, s) (shl-shr m (21 + z)), x)

-- ---- magnitude and widened, by the float's exponent

pub by_magnitude : (P : ℕ → Type 0) (x t : ℕ) → (x ≡ 255 → P (2047 * 2 ^ 52 + t * 2 ^ 29))
    → ((x ≡ 255 → ⊥) → 0 < x → P ((x + 896) * 2 ^ 52 + t * 2 ^ 29))
    → (x ≡ 0 → t ≡ 0 → P 0) → (x ≡ 0 → (t ≡ 0 → ⊥) → P (scaled 925 t)) → P (magnitude x t)
unfolding magnitude
by_magnitude P x t top normal none low =
    by_cases (eqb x 255) (λ e. rw e (top (eqb-true x 255 e)))
    (λ n. split 0 x (λ h. rw (n, lt-ltb 0 x h) (normal (eqb-false x 255 n) h))
    (λ h.
    let e : x ≡ 0 = omega arith in
    by_cases (eqb t 0) (λ z. rw (n, le-ltb 0 x h, z) (none e (eqb-true t 0 z)))
    (λ z. rw (n, le-ltb 0 x h, z) (low e (eqb-false t 0 z)))))

module _ (u : ℕ) where
  pub widened_top : u / 2 ^ 23 % 2 ^ 8 ≡ 255 → widened u ≡ u / 2 ^ 31 * 2 ^ 63 + (2047 * 2 ^ 52 + u % 2 ^ 23 * 2 ^ 29)
  unfolding widened magnitude
  widened_top e = rw (eq-eqb (u / 2 ^ 23 % 2 ^ 8) 255 e)

  pub widened_normal : (u / 2 ^ 23 % 2 ^ 8 ≡ 255 → ⊥) → 0 < u / 2 ^ 23 % 2 ^ 8
      → widened u ≡ u / 2 ^ 31 * 2 ^ 63 + ((u / 2 ^ 23 % 2 ^ 8 + 896) * 2 ^ 52 + u % 2 ^ 23 * 2 ^ 29)
  unfolding widened magnitude
  widened_normal n h = rw (ne_eqb (u / 2 ^ 23 % 2 ^ 8) 255 n, lt-ltb 0 (u / 2 ^ 23 % 2 ^ 8) h)

  pub widened_zero : u / 2 ^ 23 % 2 ^ 8 ≡ 0 → u % 2 ^ 23 ≡ 0 → widened u ≡ u / 2 ^ 31 * 2 ^ 63
  unfolding widened magnitude
  widened_zero e t = rw (e, t) (omega arith)

  pub widened_low : u / 2 ^ 23 % 2 ^ 8 ≡ 0 → (u % 2 ^ 23 ≡ 0 → ⊥)
      → widened u ≡ u / 2 ^ 31 * 2 ^ 63 + scaled 925 (u % 2 ^ 23)
  unfolding widened magnitude
  widened_low e t = rw (e, ne_eqb (u % 2 ^ 23) 0 t)

-- ---- narrow_magnitude, by the double's exponent

module _ (x t : ℕ) where
  pub narrow_top : x ≡ 2047 → narrow_magnitude x t ≡ 255 * 2 ^ 23 + t / 2 ^ 29
  unfolding narrow_magnitude
  narrow_top e = rw (eq-eqb x 2047 e)

  pub narrow_normal : 896 < x → x < 1151 → narrow_magnitude x t ≡ (x - 896) * 2 ^ 23 + t / 2 ^ 29
  unfolding narrow_magnitude
  narrow_normal h k = rw (ne_eqb x 2047 (λ e. omega arith), lt-ltb 896 x h, lt-ltb x 1151 k)

  pub narrow_high : (x ≡ 2047 → ⊥) → 1151 ≤ x → narrow_magnitude x t ≡ 0
  unfolding narrow_magnitude
  narrow_high n h = rw (ne_eqb x 2047 n, lt-ltb 896 x (omega arith), le-ltb x 1151 h)

  pub narrow_low : x ≤ 896 → 873 < x → narrow_magnitude x t ≡ unscaled 925 x t
  unfolding narrow_magnitude
  narrow_low h k = rw (ne_eqb x 2047 (λ e. omega arith), le-ltb 896 x h, lt-ltb 873 x k)

  pub narrow_none : x ≤ 873 → narrow_magnitude x t ≡ 0
  unfolding narrow_magnitude
  narrow_none h = rw (ne_eqb x 2047 (λ e. omega arith), le-ltb 896 x (omega arith), le-ltb 873 x h)

-- ---- whole_size, by the double's exponent

module _ (x t : ℕ) where
  pub size_in : 1022 < x → x < 1055 → whole_size x t ≡ unscaled 1074 x t
  unfolding whole_size
  size_in h k = rw (lt-ltb 1022 x h, lt-ltb x 1055 k)

  pub size_low : x ≤ 1022 → whole_size x t ≡ 0
  unfolding whole_size
  size_low h = rw (le-ltb 1022 x h)

  pub size_high : 1055 ≤ x → whole_size x t ≡ 0
  unfolding whole_size
  size_high h = rw (lt-ltb 1022 x (omega arith), le-ltb x 1055 h)

-- ---- how many bits the candidates have

unscaled_lt : (n c x t : ℕ) → t < 2 ^ 52 → 53 ≤ n + (c + 1 - x) → unscaled c x t < 2 ^ n
unscaled_lt n c x t h k =
    let a : 2 ^ 52 + t < 2 ^ 53 = omega arith in
    shr_lt n (c + 1 - x) (lt_of_lt_of_le a (pow_mono {i = 53} {j = n + (c + 1 - x)} k))

pub narrow_low_lt : (x t : ℕ) → t < 2 ^ 52 → x ≤ 896 → unscaled 925 x t < 2 ^ 23
narrow_low_lt x t h k = unscaled_lt 23 925 x t h (omega arith)

pub size_lt : (x t : ℕ) → t < 2 ^ 52 → whole_size x t < 2 ^ 32
size_lt x t h =
    split 1022 x
    (λ l.
    split x 1055 (λ k. rw (size_in x t l k) (unscaled_lt 32 1074 x t h (omega arith)))
    (λ k. rw (size_high x t k) (omega arith)))
    (λ l. rw (size_low x t l) (omega arith))

-- ---- a double's fields, from its sign and the 63 bits below it

below : (s r v : ℕ) → r < 2 ^ 63 → v ≡ s * 2 ^ 63 + r
    → (v / 2 ^ 63 ≡ s) × (v / 2 ^ 52 % 2 ^ 11 ≡ r / 2 ^ 52) × (v % 2 ^ 52 ≡ r % 2 ^ 52)
below s r v h e = (omega arith, omega arith, omega arith)

-- ---- floats

magnitude_lt : (x t : ℕ) → x < 2 ^ 8 → t < 2 ^ 23 → magnitude x t < 2 ^ 63
magnitude_lt x t hx ht =
    by_magnitude (λ (v : ℕ). v < 2 ^ 63) x t (λ e. omega arith) (λ n h. omega arith) (λ e z. omega arith)
    (λ e n. scaled_lt 925 t (omega arith) (omega arith) (omega arith))

-- the double's exponent and fraction give those of the float
magnitude_back : (x t : ℕ) → x < 2 ^ 8 → t < 2 ^ 23
    → narrow_magnitude (magnitude x t / 2 ^ 52) (magnitude x t % 2 ^ 52) ≡ x * 2 ^ 23 + t
magnitude_back x t hx ht =
    by_magnitude (λ (v : ℕ). narrow_magnitude (v / 2 ^ 52) (v % 2 ^ 52) ≡ x * 2 ^ 23 + t) x t
    (λ e. fields 2047 ∙ narrow_top 2047 (t * 2 ^ 29) refl ∙ omega arith)
    (λ n h. fields (x + 896) ∙ narrow_normal (x + 896) (t * 2 ^ 29) (omega arith) (omega arith) ∙ omega arith)
    (λ e z. narrow_none 0 0 (omega arith) ∙ omega arith)
    (λ e n.
    let v = scaled 925 t in
    let p = unscale 925 t (omega arith) (omega arith) (omega arith) in
    let g = lz_ge t (omega arith) ht in
    let l = lz_lt t (omega arith) (omega arith) in
    narrow_low (v / 2 ^ 52) (v % 2 ^ 52) (omega (arith, p.1)) (omega (arith, p.1)) ∙ p.0 ∙ omega arith)
  where
    fields : (k : ℕ)
        → narrow_magnitude ((k * 2 ^ 52 + t * 2 ^ 29) / 2 ^ 52) ((k * 2 ^ 52 + t * 2 ^ 29) % 2 ^ 52)
        ≡ narrow_magnitude k (t * 2 ^ 29)
    fields k =
        rw (
          digits_div k {m = 2 ^ 52} {r = t * 2 ^ 29} (omega arith),
          digits_mod k {m = 2 ^ 52} {r = t * 2 ^ 29} (omega arith),
        )

module _ (u : ℕ) (h : u < 2 ^ 32) where
  -- the sign, the exponent and the fraction of what u widens to
  widened_fields : (widened u / 2 ^ 63 ≡ u / 2 ^ 31)
      × (widened u / 2 ^ 52 % 2 ^ 11 ≡ magnitude (u / 2 ^ 23 % 2 ^ 8) (u % 2 ^ 23) / 2 ^ 52)
      × (widened u % 2 ^ 52 ≡ magnitude (u / 2 ^ 23 % 2 ^ 8) (u % 2 ^ 23) % 2 ^ 52)
  unfolding widened
  widened_fields =
      below (u / 2 ^ 31) (magnitude (u / 2 ^ 23 % 2 ^ 8) (u % 2 ^ 23)) (widened u)
      (magnitude_lt (u / 2 ^ 23 % 2 ^ 8) (u % 2 ^ 23) (omega arith) (omega arith)) refl

  pub widened_lt : widened u < 2 ^ 64
  unfolding widened
  widened_lt = omega (arith, magnitude_lt (u / 2 ^ 23 % 2 ^ 8) (u % 2 ^ 23) (omega arith) (omega arith))

  -- what a float widens to gives the float again
  pub float_back : narrowed (widened u) ≡ u
  unfolding narrowed
  float_back =
      rw (
        widened_fields.0,
        widened_fields.1,
        widened_fields.2,
        magnitude_back (u / 2 ^ 23 % 2 ^ 8) (u % 2 ^ 23) (omega arith) (omega arith),
      )
      (omega arith)

  -- a NaN keeps its sign and its fraction, with the quiet bit untouched
  pub quiet_bit : u / 2 ^ 23 % 2 ^ 8 ≡ 255
      → (widened u / 2 ^ 63 ≡ u / 2 ^ 31) × (widened u % 2 ^ 52 ≡ u % 2 ^ 23 * 2 ^ 29)
      × (widened u / 2 ^ 52 % 2 ^ 11 ≡ 2047)
  quiet_bit e = rw (widened_top u e) (omega arith, omega arith, omega arith)

-- ---- whole numbers

pub whole_lt : (z : ℤ) → mag z < 2 ^ 31 → whole z < 2 ^ 64
unfolding whole
whole_lt (pos zero) h = omega arith
whole_lt (pos (suc n)) h = omega (arith, scaled_lt 1074 (suc n) (omega arith) (omega arith) (omega arith))
whole_lt (negsuc n) h = omega (arith, scaled_lt 1074 (suc n) (omega arith) (omega arith) (omega arith))

-- -0.0 is no whole number's double
pub negative_zero : (z : ℤ) → mag z < 2 ^ 31 → whole z ≡ 2 ^ 63 → ⊥
unfolding whole scaled
negative_zero (pos zero) h e = omega arith
negative_zero (pos (suc n)) h e = omega (arith, scaled_lt 1074 (suc n) (omega arith) (omega arith) (omega arith))
negative_zero (negsuc n) h e = omega (arith, (moved (suc n) (omega arith) (omega arith)).0)

-- the size of a number from its double, whatever the sign
size_back : (s m v : ℕ) → 0 < m → m < 2 ^ 32 → v ≡ s * 2 ^ 63 + scaled 1074 m
    → whole_size (v / 2 ^ 52 % 2 ^ 11) (v % 2 ^ 52) ≡ m
size_back s m v h k e =
    let r = scaled 1074 m in
    let f = below s r v (scaled_lt 1074 m h k (omega arith)) e in
    let p = unscale 1074 m h k (omega arith) in
    let l = lz_lt m h k in
    rw (f.1, f.2) (size_in (r / 2 ^ 52) (r % 2 ^ 52) (omega (arith, p.1)) (omega (arith, p.1)) ∙ p.0)

-- the guess: the number in two's complement of 32 bits, of which it keeps the lower ones
guess_is : (n : ℕ) (z : ℤ) → mag z < 2 ^ 31 → whole_guess n (whole z) ≡ of_z w32 z % n
unfolding whole_guess whole
guess_is n (pos zero) h = rw (size_low 0 0 (omega arith))
guess_is n (pos (suc m)) h =
    let v = scaled 1074 (suc m) in
    rw (
      lt-ltb v (2 ^ 63) (scaled_lt 1074 (suc m) (omega arith) (omega arith) (omega arith)),
      size_back 0 (suc m) v (omega arith) (omega arith) (omega arith),
    )
guess_is n (negsuc m) h =
    let v = 2 ^ 63 + scaled 1074 (suc m) in
    rw (le-ltb v (2 ^ 63) (omega arith), size_back 1 (suc m) v (omega arith) (omega arith) (omega arith))

-- the double of a number of up to 32 bits gives the number again
pub whole_back : (w : Width) (u : ℕ) → bits w ≤ 32 → u < 2 ^ bits w → whole_guess (2 ^ bits w) (whole (to_z w u)) ≡ u
whole_back w u h k =
    let n = 2 ^ bits w in
    let half : 2 ^ hbits w ≤ 2 ^ 31 = pow_mono {i = hbits w} {j = 31} (omega (arith, bits-suc w)) in
    let full = pow-bits w in
    let q = 2 ^ (32 - bits w) in
    split u (2 ^ hbits w)
    (λ l. rw (to_z_pos w u l) (guess_is n (pos u) (omega arith) ∙ mod-eq_of_lt k))
    (λ l.
    let x = 2 ^ 32 - suc (n - suc u) in
    let e : x + n ≡ q * n + u = omega (arith, powers 32 (32 - bits w) (bits w) (omega arith)) in
    rw (le-ltb u (2 ^ hbits w) l)
    (guess_is n (negsuc (n - suc u)) (omega arith) ∙ sym (add-mod_right x n) ∙ rw e (digits_mod q k)))

-- a number of w bits whose first bit is set is u less 2 ^ bits w, which a wider v holds
pub lowered : (v w : Width) (u : ℕ) → bits w < bits v → 2 ^ hbits w ≤ u → u < 2 ^ bits w
    → SFits v (to_z v u -ℤ pos (2 ^ bits w)) × (to_z v (of_z v (to_z v u -ℤ pos (2 ^ bits w))) ≡ to_z w u)
lowered v w u h l k =
    let room : 2 ^ bits w ≤ 2 ^ hbits v = pow_mono {i = bits w} {j = hbits v} (omega (arith, bits-suc v)) in
    let f : SFits v (negsuc (2 ^ bits w - suc u)) = record { sfits = omega arith } in
    let e : to_z v u -ℤ pos (2 ^ bits w) ≡ negsuc (2 ^ bits w - suc u) =
    rw (to_z_pos v u (omega arith)) (less (2 ^ bits w) k) in
    rw (e, le-ltb u (2 ^ hbits w) l) (f, to_z-of_z v (negsuc (2 ^ bits w - suc u)) f)
  where
    less : (n : ℕ) → u < n → pos u -ℤ pos n ≡ negsuc (n - suc u)
    less zero h = absurd (omega arith)
    less (suc n) h = rw (lt-ltb u (suc n) h)

pub byte_back : (u : ℕ) → u < 2 ^ 8 → whole_guess (2 ^ 8) (whole (to_z w8 u)) ≡ u
byte_back u h = whole_back w8 u (omega arith) h

pub pair_back : (u : ℕ) → u < 2 ^ 16 → whole_guess (2 ^ 16) (whole (to_z w16 u)) ≡ u
pair_back u h = whole_back w16 u (omega arith) h

-- ---- the doubles of the forms shorter than nine bytes are multiples of 2 ^ 21
scaled_multiple : (c m : ℕ) → scaled c m % 2 ^ 21 ≡ 0
unfolding scaled
scaled_multiple c m =
    let z = count_leading_zeros 32 m in
    let e : 2 ^ (21 + z) ≡ 2 ^ 21 * 2 ^ z = powers (21 + z) 21 z refl in
    let f : m * (2 ^ 21 * 2 ^ z) ≡ 2 ^ 21 * (m * 2 ^ z) = mul_left_comm m (2 ^ 21) (2 ^ z) in
    rw (e, f) (omega arith)

pub whole_multiple : (z : ℤ) → whole z % 2 ^ 21 ≡ 0
unfolding whole
whole_multiple (pos zero) = refl
whole_multiple (pos (suc n)) = scaled_multiple 1074 (suc n)
whole_multiple (negsuc n) = omega (arith, scaled_multiple 1074 (suc n))

pub widened_multiple : (u : ℕ) → widened u % 2 ^ 21 ≡ 0
unfolding widened
widened_multiple u =
    by_magnitude (λ (n : ℕ). (u / 2 ^ 31 * 2 ^ 63 + n) % 2 ^ 21 ≡ 0) (u / 2 ^ 23 % 2 ^ 8) (u % 2 ^ 23)
    (λ e. omega arith) (λ e l. omega arith) (λ e f. omega arith)
    (λ e f. omega (arith, scaled_multiple 925 (u % 2 ^ 23)))

-- How long the shortest form of a value is (2026-06): of the value that was read; which values a form of 32 bits with a
-- sign holds; what divides the doubles that the shorter forms hold; and which whole numbers each of these holds.
use Rattle.std.specs.Prelude.{◌≡◌, refl, List, ℕ, zero, suc, ◌+◌, ◌-◌, ◌*◌, ◌/◌, ◌%◌, ◌^◌, ◌≤◌, ◌<◌, ℤ, pos, negsuc, ◌-ℤ◌}
use Rattle.std.proofs.Math.Path.{sym, ap}
use Rattle.std.proofs.Common.{◌∙◌, lt_of_lt_of_le, lt_irrefl, le_trans, mul_left_comm, mul-add, mod-lt, pow_mono, le-ltb, to_z, of_z}
use Rattle.std.proofs.Math.Nat.{mul-mod_right}
use native.Mathlib.Omega.{arith}
use Rattle.std.specs.Int.Count.{count_leading_zeros}
use Rattle.std.proofs.lemmas.Nat.{leading_top}
use Rattle.std.specs.Int.Signed.{mag}
use Rattle.std.specs.Int.{w8, w16, w32, w64}
use Rattle.std.proofs.lemmas.Int.{to_z_pos}
use Rattle.flow.specs.Tests.{split}
use Rattle.flow.specs.Steps.{Answer}
use Rattle.scalar.specs.declared.Sort.{Sort}
use Rattle.scalar.specs.declared.Rule.TheVariants.{Signed, WholeByte, WholePair, Float}
use Rattle.scalar.proofs.Signed.{minus_bits, low_32, high_32}
use Rattle.scalar.specs.Scalars.{value, scaled, whole, widened}
use Rattle.scalar.specs.Guesses.{whole_guess, guess}
use Rattle.scalar.proofs.RuleLaws.{whole_guess_from_zero, whole_guess_below_zero}
use Rattle.scalar.proofs.DoubleLaws.{powers, by_magnitude, byte_back, pair_back, float_back}
use Rattle.scalar.specs.Answers.{number_at, length_read, number_length_at}

-- the length by what was read
pub length_read_law : (s : Sort) (m : List ℕ) (p : ℕ) {o : Answer ℕ} → o ≡ number_at s m p
    → length_read s o ≡ number_length_at s m p
unfolding number_length_at
length_read_law s m p e = ap (length_read s) e

-- ---- numbers less a zero, and of 32 bits with a sign: v holds the number again
pub offset_again : (u k v : ℕ) → u < 2 ^ 63 → k < 2 ^ 63 → v ≡ of_z w64 (pos u -ℤ pos k) → (v + k) % 2 ^ 64 ≡ u
offset_again u k v l h e = let b = minus_bits u k l (omega arith) in omega arith

signed_bits : (n : ℕ) → n < 2 ^ 32 → of_z w64 (to_z w32 n) ≡ ((n + 2 ^ 31) % 2 ^ 32 + (2 ^ 64 - 2 ^ 31)) % 2 ^ 64
signed_bits n k = split n (2 ^ 31) (λ h. rw (low_32 n h) (omega arith)) (λ h. rw (high_32 n h k) (omega arith))

-- it is one from −2 ^ 31 to 2 ^ 31 − 1
pub signed_within : (n v : ℕ) → n < 2 ^ 32 → v ≡ of_z w64 (to_z w32 n) → (v + 2 ^ 31) % 2 ^ 64 < 2 ^ 32
signed_within n v k e = let b = signed_bits n k in omega arith

module _ (v : ℕ) (l : v < 2 ^ 64) where
  pub signed_held : (v + 2 ^ 31) % 2 ^ 64 < 2 ^ 32 → value Signed (guess Signed v) ≡ v
  unfolding guess value
  signed_held h = signed_bits (v % 2 ^ 32) (omega arith) ∙ omega arith

  pub signed_other : 2 ^ 32 ≤ (v + 2 ^ 31) % 2 ^ 64 → value Signed (guess Signed v) ≡ v → ⊥
  unfolding guess value
  signed_other h e = let i = signed_within (v % 2 ^ 32) v (omega arith) (sym e) in omega arith

-- ---- doubles: what divides those of a form
-- a number of n bits has 32 − n leading zeros or more
leading_ge : (n m : ℕ) → n ≤ 32 → 0 < m → m < 2 ^ n → 32 ≤ n + count_leading_zeros 32 m
leading_ge n m h p l =
    let t = leading_top 32 m p (lt_of_lt_of_le l (pow_mono {i = n} {j = 32} h)) in
    split t.0 n (λ k. omega (arith, t.1))
    (λ k. absurd (lt_irrefl m (lt_of_lt_of_le l (le_trans (pow_mono {i = n} {j = t.0} k) t.2))))

-- so it is shifted by 53 − n bits or more
scaled_low : (n j c m : ℕ) → n ≤ 32 → 0 < n → n + j ≡ 53 → 0 < m → m < 2 ^ n → scaled c m % 2 ^ j ≡ 0
unfolding scaled
scaled_low n j c m h i s p l =
    let z = count_leading_zeros 32 m in
    let g = leading_ge n m h p l in
    let a = c - 21 - z in
    let x = 2 ^ (52 - j) in
    let y = 2 ^ (21 + z - j) in
    let e : 2 ^ 52 ≡ 2 ^ j * x = powers 52 j (52 - j) (omega arith) in
    let f : 2 ^ (21 + z) ≡ 2 ^ j * y = powers (21 + z) j (21 + z - j) (omega arith) in
    let q : a * 2 ^ 52 + m * 2 ^ (21 + z) ≡ 2 ^ j * (a * x + m * y) =
    rw (ap (λ (n : ℕ). a * n) e, f, mul_left_comm a (2 ^ j) x, mul_left_comm m (2 ^ j) y)
    (sym (mul-add (2 ^ j) (a * x) (m * y))) in
    rw q (mul-mod_right (2 ^ j) (a * x + m * y))

-- whole numbers of 16 bits are multiples of 2 ^ 37
number_low : (z : ℤ) → mag z < 2 ^ 15 → whole z % 2 ^ 37 ≡ 0
unfolding whole
number_low (pos zero) h = refl
number_low (pos (suc n)) h = scaled_low 16 37 1074 (suc n) (omega arith) (omega arith) refl (omega arith) (omega arith)
number_low (negsuc n) h =
    let l = scaled_low 16 37 1074 (suc n) (omega arith) (omega arith) refl (omega arith) (omega arith) in omega arith

pub pair_low : (u : ℕ) → whole (to_z w16 u) % 2 ^ 37 ≡ 0
pair_low u =
    split u (2 ^ 15) (λ l. rw (to_z_pos w16 u l) (number_low (pos u) l))
    (λ l. rw (le-ltb u (2 ^ 15) l) (number_low (negsuc (2 ^ 16 - suc u)) (omega arith)))

-- floats are multiples of 2 ^ 29
pub widened_low : (u : ℕ) → widened u % 2 ^ 29 ≡ 0
unfolding widened
widened_low u =
    by_magnitude (λ (n : ℕ). (u / 2 ^ 31 * 2 ^ 63 + n) % 2 ^ 29 ≡ 0) (u / 2 ^ 23 % 2 ^ 8) (u % 2 ^ 23)
    (λ e. omega arith) (λ e l. omega arith) (λ e f. omega arith)
    (λ e f.
    let l = scaled_low 24 29 925 (u % 2 ^ 23) (omega arith) (omega arith) refl (omega arith) (omega arith) in
    omega arith)

-- a float is found again in its double
pub float_guessed : (u v : ℕ) → u < 2 ^ 32 → v ≡ widened u → guess Float v ≡ u
unfolding guess
float_guessed u v h e = rw e (float_back u h)

-- ---- doubles that are whole numbers of 16 bits, by these bits
module _ (u v : ℕ) (l : u < 2 ^ 16) (e : v ≡ whole (to_z w16 u)) where
  pub pair_guessed : guess WholePair v ≡ u
  unfolding guess
  pair_guessed = rw e (pair_back u l)

  pub pair_held : value WholePair (guess WholePair v) ≡ v
  unfolding value
  pair_held = rw pair_guessed (sym e)

-- 0 and 1
pub zero_pair : 0 ≡ whole (to_z w16 0)
unfolding whole
zero_pair = refl

pub one_pair : 0x3ff0_0000_0000_0000 ≡ whole (to_z w16 1)
unfolding whole scaled count_leading_zeros
one_pair = refl

-- those of 8 bits
low_byte : (u : ℕ) → u < 0x80 → to_z w8 (u % 256) ≡ to_z w16 u
low_byte u h =
    let e : u % 256 ≡ u = omega arith in rw (e, to_z_pos w8 u h, to_z_pos w16 u (omega arith))

high_byte : (u : ℕ) → 0xff80 ≤ u → u < 2 ^ 16 → to_z w8 (u % 256) ≡ to_z w16 u
high_byte u h l =
    rw (le-ltb (u % 256) (2 ^ 7) (omega arith), le-ltb u (2 ^ 15) (omega arith)) (ap negsuc (omega arith))

guess_below : (n v : ℕ) → 0 < n → whole_guess n v < n
guess_below n v h = split v (2 ^ 63)
    (λ l. rw (whole_guess_from_zero v n l) (mod-lt _ h)) (λ l. rw (whole_guess_below_zero v n l) (mod-lt _ h))

-- v is one of 8 bits: its 16 bits, which are below 80 or from ff80 on
module _ (v : ℕ) (e : value WholeByte (guess WholeByte v) ≡ v) where
  pub byte_as_pair : (u : ℕ) × (u < 2 ^ 16) × (v ≡ whole (to_z w16 u)) × (0x80 ≤ u → u < 0xff80 → ⊥)
  unfolding value guess
  byte_as_pair =
      let b = whole_guess (2 ^ 8) v in
      let l = guess_below (2 ^ 8) v (omega arith) in
      let low : b % 256 ≡ b = omega arith in
      let high : (0xff00 + b) % 256 ≡ b = omega arith in
      split b 0x80
      (λ h. (b, omega arith, sym e ∙ ap whole (rw low at (low_byte b h)), λ g f. omega arith))
      (λ h. (
        0xff00 + b,
        omega arith,
        sym e ∙ ap whole (rw high at (high_byte (0xff00 + b) (omega arith) (omega arith))),
        λ g f. omega arith,
      ))

-- and the other way round
module _ (u v : ℕ) (l : u < 2 ^ 16) (e : v ≡ whole (to_z w16 u)) (outside : 0x80 ≤ u → u < 0xff80 → ⊥) where
  same_number : to_z w8 (u % 256) ≡ to_z w16 u
  same_number = split u 0x80 (low_byte u)
      (λ h. split u 0xff80 (λ k. absurd (outside h k)) (λ k. high_byte u k l))

  pub byte_guessed : guess WholeByte v ≡ u % 256
  unfolding guess
  byte_guessed = rw (e, ← same_number) (byte_back (u % 256) (omega arith))

  pub byte_held : value WholeByte (u % 256) ≡ v
  unfolding value
  byte_held = rw same_number (sym e)

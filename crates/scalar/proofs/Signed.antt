-- Numbers with a sign, in two's complement: what the definitions say in ℤ, said in ℕ.
use Rattle.std.specs.Prelude.{◌≡◌, refl, true, false, ℕ, zero, suc, ◌+◌, ◌-◌, ◌*◌, ◌/◌, ◌^◌, ◌%◌, ◌≤◌, ◌<◌, ltb, ℤ, pos, negsuc, neg_ℤ, ◌-ℤ◌, ◌*ℤ◌}
use Rattle.std.proofs.Common.{sym, ap, subst, arith, ltb→lt, nltb→le, ltb-true}
use Rattle.std.proofs.Math.IntN.{sub_ℕ}
use Rattle.std.specs.Int.Signed.{mag, lt_z, quot_z}
use Rattle.std.specs.Int.{w32, w64}
use mir.Val.{SFits, of_z, to_z}
use mir.ValLaws.{to_z-of_z, to_z-neg, to_z_pos}
use Rattle.flow.specs.Tests.{by_test, split}

-- ---- differences
sub_is : (a b : ℕ) → pos a -ℤ pos b ≡ sub_ℕ a b
sub_is a zero =
    by_test (λ (z : ℤ). pos (a + zero) ≡ z) (ltb a zero) (λ t. absurd (none (ltb→lt a zero t)))
    (λ t. ap pos (omega arith))
  where
    none : a < zero → ⊥
    none h = omega arith
sub_is a (suc b) = refl

-- what holds of both readings of a difference holds of it
pub minus_case : (a b : ℕ) (P : ℤ → Type 0) → ((n : ℕ) → a + suc n ≡ b → P (negsuc n))
    → ((n : ℕ) → b + n ≡ a → P (pos n)) → P (pos a -ℤ pos b)
minus_case a b P f g =
    subst P (sym (sub_is a b))
    (by_test P (ltb a b) (λ t. f (b - suc a) (low (ltb→lt a b t))) (λ t. g (a - b) (above (nltb→le a b t))))
  where
    low : a < b → a + suc (b - suc a) ≡ b
    low h = omega arith

    above : b ≤ a → b + (a - b) ≡ a
    above h = omega arith

pub minus_fits : (a b : ℕ) → a < 2 ^ 63 → b ≤ 2 ^ 63 → SFits w64 (pos a -ℤ pos b)
minus_fits a b ha hb =
    minus_case a b (λ z. SFits w64 z) (λ n e. record { sfits = omega arith }) (λ n e. record { sfits = omega arith })

pub minus_bits : (a b : ℕ) → a < 2 ^ 63 → b ≤ 2 ^ 63 → of_z w64 (pos a -ℤ pos b) ≡ (a + (2 ^ 64 - b)) % 2 ^ 64
minus_bits a b ha hb =
    minus_case a b (λ z. of_z w64 z ≡ (a + (2 ^ 64 - b)) % 2 ^ 64) (λ n e. omega arith) (λ n e. omega arith)

-- ---- a number's bits
-- of a negative number, −1 − v is its magnitude less one
pub flip : (v : ℤ) → lt_z v (pos 0) ≡ true → negsuc 0 -ℤ v ≡ pos (mag v)
flip (negsuc n) h = minus_case (suc n) 1 (λ z. z ≡ pos n) (λ m e. absurd (clash m e)) (λ m e. ap pos (same m e))
  where
    clash : (m : ℕ) → suc n + suc m ≡ 1 → ⊥
    clash m e = omega arith

    same : (m : ℕ) → 1 + m ≡ suc n → m ≡ n
    same m e = omega arith
flip (pos n) h = absurd (not_below (ltb-true n 0 h))
  where
    not_below : n < 0 → ⊥
    not_below h = omega arith

pub neg_bits : (v : ℤ) → SFits w64 v → lt_z v (pos 0) ≡ true → 18446744073709551615 - mag v ≡ of_z w64 v
neg_bits (negsuc n) f h = omega arith
neg_bits (pos n) f h = absurd (not_below (ltb-true n 0 h))
  where
    not_below : n < 0 → ⊥
    not_below h = omega arith

pub pos_view : (v : ℤ) → lt_z v (pos 0) ≡ false → v ≡ pos (mag v)
pos_view (pos n) h = refl
pos_view (negsuc n) h = let z : true ≡ false = h in cc

-- the upper half of the patterns is negative
pub upper : (n : ℕ) → 2 ^ 63 ≤ n → n < 2 ^ 64 → to_z w64 n ≡ negsuc (18446744073709551615 - n)
upper n h k =
    subst (λ (x : ℕ). to_z w64 x ≡ negsuc (18446744073709551615 - n)) (back n k)
    (to_z-neg w64 (18446744073709551615 - n) (small n h k))
  where
    small : (n : ℕ) → 2 ^ 63 ≤ n → n < 2 ^ 64 → 18446744073709551615 - n < 2 ^ 63
    small n h k = omega arith

    back : (n : ℕ) → n < 2 ^ 64 → 2 ^ 64 - suc (18446744073709551615 - n) ≡ n
    back n k = omega arith

pub unflip : (m : ℕ) → negsuc 0 -ℤ pos m ≡ negsuc m
unflip zero = refl
unflip (suc m) = ap negsuc (omega arith)

pub of_to : (n : ℕ) → n < 2 ^ 64 → of_z w64 (to_z w64 n) ≡ n
of_to n k = split n (2 ^ 63) (λ h. rw (to_z_pos w64 n h)) (λ h. rw (upper n h k) (omega arith))

-- ---- a number of 32 bits, with its sign
pub low_32 : (n : ℕ) → n < 2 ^ 31 → to_z w32 n ≡ pos n
low_32 n h = to_z_pos w32 n h

pub high_32 : (n : ℕ) → 2 ^ 31 ≤ n → n < 2 ^ 32 → to_z w32 n ≡ negsuc (0xffff_ffff - n)
high_32 n h k =
    subst (λ (x : ℕ). to_z w32 x ≡ negsuc (0xffff_ffff - n)) (back n k) (to_z-neg w32 (0xffff_ffff - n) (small n h k))
  where
    small : (n : ℕ) → 2 ^ 31 ≤ n → n < 2 ^ 32 → 0xffff_ffff - n < 2 ^ 31
    small n h k = omega arith

    back : (n : ℕ) → n < 2 ^ 32 → 2 ^ 32 - suc (0xffff_ffff - n) ≡ n
    back n k = omega arith

-- a number of the upper half stands for itself less 2 ^ 32
pub less_32 : (n : ℕ) → 2 ^ 31 ≤ n → n < 2 ^ 32 → pos n -ℤ pos 0x1_0000_0000 ≡ to_z w32 n
less_32 n h k =
    rw (high_32 n h k)
    (minus_case n 0x1_0000_0000 (λ z. z ≡ negsuc (0xffff_ffff - n)) (λ m e. ap negsuc (omega arith))
    (λ m e. absurd (clash m e)))
  where
    clash : (m : ℕ) → 0x1_0000_0000 + m ≡ n → ⊥
    clash m e = omega arith

pub fits_32 : (n : ℕ) → n < 2 ^ 32 → SFits w32 (to_z w32 n)
fits_32 n k =
    split n (2 ^ 31) (λ h. rw (low_32 n h) (record { sfits = h }))
    (λ h. rw (high_32 n h k) (record { sfits = small n h k }))
  where
    small : (n : ℕ) → 2 ^ 31 ≤ n → n < 2 ^ 32 → 0xffff_ffff - n < 2 ^ 31
    small n h k = omega arith

pub signed_back : (n : ℕ) → n < 2 ^ 32 → of_z w64 (to_z w32 n) % 2 ^ 32 ≡ n
signed_back n k = split n (2 ^ 31) (λ h. rw (low_32 n h) (omega arith)) (λ h. rw (high_32 n h k) (omega arith))

-- ---- minutes and milliseconds
mag_neg : (r : ℕ) → mag (neg_ℤ (pos r)) ≤ r
mag_neg zero = omega arith
mag_neg (suc r) = omega arith

pub widen_fits : (m : ℤ) → SFits w32 m → SFits w64 m
widen_fits m h = record { sfits = omega (arith, h.sfits) }

pub mul_fits : (m : ℤ) → SFits w32 m → SFits w64 (m *ℤ pos 60000)
mul_fits (pos a) h = record { sfits = omega (arith, h.sfits) }
mul_fits (negsuc a) h = record { sfits = omega (arith, h.sfits, mag_neg (suc a * 60000)) }

pub quot_fits : (v : ℤ) → SFits w64 v → SFits w64 (quot_z v (pos 60000))
quot_fits (pos a) h = record { sfits = omega (arith, h.sfits) }
quot_fits (negsuc a) h = record { sfits = omega (arith, h.sfits, mag_neg (suc a / 60000)) }

quot_mul : (m : ℤ) → quot_z (m *ℤ pos 60000) (pos 60000) ≡ m
quot_mul (pos a) = ap pos (omega arith)
quot_mul (negsuc a) = subst (λ (n : ℕ). quot_z (neg_ℤ (pos n)) (pos 60000) ≡ negsuc a) e (ap (λ (n : ℕ). neg_ℤ (pos n)) d)
  where
    e : suc (a * 60000 + 59999) ≡ suc a * 60000
    e = omega arith

    d : suc (a * 60000 + 59999) / 60000 ≡ suc a
    d = omega arith

-- minutes are found again in their milliseconds
pub minutes_back : (n : ℕ) → n < 2 ^ 32
    → of_z w64 (quot_z (to_z w64 (of_z w64 (to_z w32 n *ℤ pos 60000))) (pos 60000)) % 2 ^ 32 ≡ n
minutes_back n k =
    rw (to_z-of_z w64 (to_z w32 n *ℤ pos 60000) (mul_fits (to_z w32 n) (fits_32 n k)), quot_mul (to_z w32 n))
    (signed_back n k)

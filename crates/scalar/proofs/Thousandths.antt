-- 2026-11: whole thousandths as doubles.
use lib.Ieee.{nan}
use lib.Ieee.{inf}
use Rattle.std.specs.Prelude.{◌≡◌, Bool, false, not, ℕ, ◌<◌, ◌^◌, T, Float, ℤ, pos, negsuc}
use Rattle.std.proofs.Math.Path.{refl}
use Rattle.std.proofs.Common.{subst, arith, le→leb, lt→ltb, leb→le, ltb→lt}
use Rattle.std.specs.Float.{fin, Format, binary64}
use Rattle.std.specs.Float.Ieee.{to_bits, of_bits, of_int, mul, round, in_float, is_nan}
use Rattle.std.specs.Float.Ieee.Back.{round_whole}
use Rattle.std.specs.Float.Ieee.Bits.{to_bits-lt}
use Rattle.std.specs.Float.Ieee.Exact.{HasValue}
use Rattle.std.specs.Float.Ieee.Fits.{mul-fits}
use Rattle.std.specs.Int.Signed.{mag}
use mir.ValLaws.{top-pow}
use Rattle.scalar.specs.Scalars.{thousandth, thousandths}
use Rattle.scalar.proofs.Ieee.{round_no_nan}

-- 'the f64 nearest to 0.001'
pub nearest_thousandth : of_bits binary64 thousandth ≡ round binary64 false 1 1000
unfolding thousandth of_bits round
nearest_thousandth = refl

-- what they come to: 0, 0.009, 1.5 and -0.001; 9 times that double is not the double nearest to 9/1000
module _ where
  pub of_zero : thousandths (pos 0) ≡ 0
  unfolding thousandths thousandth of_bits mul of_int round to_bits
  of_zero = refl

  pub of_nine : thousandths (pos 9) ≡ 0x3f82_6e97_8d4f_df3c
  unfolding thousandths thousandth of_bits mul of_int round to_bits
  of_nine = refl

  pub nine_divided : to_bits binary64 (round binary64 false 9 1000) ≡ 0x3f82_6e97_8d4f_df3b
  unfolding round to_bits
  nine_divided = refl

  pub of_1500 : thousandths (pos 1_500) ≡ 0x3ff8_0000_0000_0000
  unfolding thousandths thousandth of_bits mul of_int round to_bits
  of_1500 = refl

  pub of_minus_one : thousandths (negsuc 0) ≡ 0xbf50_624d_d2f1_a9fc
  unfolding thousandths thousandth of_bits mul of_int round to_bits
  of_minus_one = refl

-- they have 64 bits
pub thousandths_lt : (m : ℤ) → thousandths m < 2 ^ 64
unfolding thousandths
thousandths_lt m =
    subst (λ (k : ℕ). thousandths m < k) (top-pow binary64) (to_bits-lt binary64 _ (mul-fits binary64 _ _))

-- ---- for code: the product of an integer of 32 bits is no NaN, so that its bits are known
of_int_value : (z : ℤ) → T (in_float binary64 z) → (s : Bool) × ((n : ℕ) × HasValue (of_int binary64 z) s n 1)
unfolding of_int in_float
of_int_value (pos n) h = (_, (n, round_whole binary64 _ n (leb→le n (2 ^ 53) h)))
of_int_value (negsuc n) h = (_, (_, round_whole binary64 _ _ (ltb→lt n (2 ^ 53) h)))

mul_no_nan : (f : Format) (x : Float) (s : Bool) (a c : ℕ) (t : Bool) (n : ℕ) (d : ℤ) → HasValue x s a c
    → T (not (is_nan (mul f x (fin t n d))))
unfolding mul
mul_no_nan f (fin s m e) s' a c t n d h = round_no_nan f _ _ _
mul_no_nan f nan s' a c t n d h = elim h [ ]
mul_no_nan f (inf _) s' a c t n d h = elim h [ ]

in_32 : (z : ℤ) → mag z < 2 ^ 31 → T (in_float binary64 z)
unfolding in_float
in_32 (pos n) h = le→leb n (2 ^ 53) (omega arith)
in_32 (negsuc n) h = lt→ltb n (2 ^ 53) (omega arith)

pub product_no_nan : (z : ℤ) → mag z < 2 ^ 31
    → T (not (is_nan (mul binary64 (of_int binary64 z) (of_bits binary64 0x3f50_624d_d2f1_a9fc))))
unfolding of_bits
product_no_nan z h =
    let v = of_int_value z (in_32 z h) in mul_no_nan binary64 (of_int binary64 z) v.0 v.1.0 1 _ _ _ v.1.1

pub thousandths_is : (z : ℤ)
    → thousandths z ≡ to_bits binary64 (mul binary64 (of_int binary64 z) (of_bits binary64 0x3f50_624d_d2f1_a9fc))
unfolding thousandths thousandth
thousandths_is z = refl

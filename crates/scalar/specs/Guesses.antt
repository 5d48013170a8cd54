-- The other way: for a value, a number that a form of a rule might hold. A candidate: it is right where it stands for
-- the value again.
use Rattle.std.specs.Prelude.{cond, ◌&&◌, ℕ, ◌+◌, ◌-◌, ◌*◌, ◌/◌, ◌%◌, ◌^◌, ltb, eqb, pos}
use Rattle.std.specs.Int.Signed.{quot_z}
use Rattle.std.specs.Int.{w64}
use Rattle.std.proofs.Common.{of_z, to_z}
use Rattle.scalar.specs.declared.Rule.{Rule}
use Rattle.scalar.specs.declared.Rule.TheVariants.{Exactly, Plain, Offset, Signed, Minutes}
use Rattle.scalar.specs.declared.Rule.TheVariants.{WholeByte, WholePair, Float}

-- the m of `scaled c m`, from the double's exponent x and fraction t
abbrev pub unscaled : ℕ → ℕ → ℕ → ℕ
unscaled c x t = (2 ^ 52 + t) / 2 ^ (c + 1 - x)

-- the size of a whole number of up to 32 bits
unfoldable pub whole_size : ℕ → ℕ → ℕ
whole_size x t = cond (ltb 1022 x && ltb x 1055) (unscaled 1074 x t) 0

-- the whole number in two's complement, of n values
unfoldable pub whole_guess : ℕ → ℕ → ℕ
whole_guess n v =
    let size = whole_size (v / 2 ^ 52 % 2 ^ 11) (v % 2 ^ 52) in
    cond (ltb v (2 ^ 63)) (size % n) ((2 ^ 32 - size) % n)

unfoldable pub narrow_magnitude : ℕ → ℕ → ℕ
narrow_magnitude x t =
    cond (eqb x 2047) (255 * 2 ^ 23 + t / 2 ^ 29)
    (cond (ltb 896 x) (cond (ltb x 1151) ((x - 896) * 2 ^ 23 + t / 2 ^ 29) 0)
    (cond (ltb 873 x) (unscaled 925 x t)
    0))

-- the float of 32 bits
unfoldable pub narrowed : ℕ → ℕ
narrowed v = v / 2 ^ 63 * 2 ^ 31 + narrow_magnitude (v / 2 ^ 52 % 2 ^ 11) (v % 2 ^ 52)

-- a number to hold for the value v: a candidate, which is right where it stands for v
unfoldable pub guess : Rule → ℕ → ℕ
guess (Exactly x) v = 0
guess Plain v = v
guess (Offset k) v = (v + k) % 2 ^ 64
guess Signed v = v % 2 ^ 32
guess Minutes v = of_z w64 (quot_z (to_z w64 v) (pos 60_000)) % 2 ^ 32
guess WholeByte v = whole_guess (2 ^ 8) v
guess WholePair v = whole_guess (2 ^ 16) v
guess Float v = narrowed v

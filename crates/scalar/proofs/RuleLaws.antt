-- What a form stands for, and a number for it to hold, rule by rule, so that the crates above need not open `value` and
-- `guess`.
use Rattle.std.specs.Prelude.{◌≡◌, ℕ, ◌+◌, ◌-◌, ◌*◌, ◌/◌, ◌%◌, ◌^◌, ◌≤◌, ◌<◌, pos, ◌-ℤ◌, ◌*ℤ◌}
use Rattle.std.proofs.Math.Path.{refl}
use Rattle.std.proofs.Common.{lt-ltb, le-ltb, of_z, to_z}
use Rattle.std.specs.Int.Signed.{quot_z}
use Rattle.std.specs.Int.{w8, w16, w32, w64}
use Rattle.scalar.specs.declared.Rule.TheVariants.{Exactly, Plain, Offset, Signed, Minutes}
use Rattle.scalar.specs.declared.Rule.TheVariants.{WholeByte, WholePair, Float}
use Rattle.scalar.specs.Scalars.{whole, widened, value}
use Rattle.scalar.specs.Guesses.{whole_size, whole_guess, narrow_magnitude, narrowed, guess}

-- ---- the value that a form stands for, where its bytes hold u
module _ (u : ℕ) where
  pub value_exactly : (v : ℕ) → value (Exactly v) u ≡ v
  unfolding value
  value_exactly v = refl

  pub value_plain : value Plain u ≡ u
  unfolding value
  value_plain = refl

  pub value_offset : (k : ℕ) → value (Offset k) u ≡ of_z w64 (pos u -ℤ pos k)
  unfolding value
  value_offset k = refl

  pub value_signed : value Signed u ≡ of_z w64 (to_z w32 u)
  unfolding value
  value_signed = refl

  pub value_minutes : value Minutes u ≡ of_z w64 (to_z w32 u *ℤ pos 60_000)
  unfolding value
  value_minutes = refl

  pub value_byte : value WholeByte u ≡ whole (to_z w8 u)
  unfolding value
  value_byte = refl

  pub value_pair : value WholePair u ≡ whole (to_z w16 u)
  unfolding value
  value_pair = refl

  pub value_float : value Float u ≡ widened u
  unfolding value
  value_float = refl

-- ---- a number to hold for the value v
module _ (v : ℕ) where
  pub guess_exactly : (x : ℕ) → guess (Exactly x) v ≡ 0
  unfolding guess
  guess_exactly x = refl

  pub guess_plain : guess Plain v ≡ v
  unfolding guess
  guess_plain = refl

  pub guess_offset : (k : ℕ) → guess (Offset k) v ≡ (v + k) % 2 ^ 64
  unfolding guess
  guess_offset k = refl

  pub guess_signed : guess Signed v ≡ v % 2 ^ 32
  unfolding guess
  guess_signed = refl

  pub guess_minutes : guess Minutes v ≡ of_z w64 (quot_z (to_z w64 v) (pos 60_000)) % 2 ^ 32
  unfolding guess
  guess_minutes = refl

  pub guess_byte : guess WholeByte v ≡ whole_guess (2 ^ 8) v
  unfolding guess
  guess_byte = refl

  pub guess_pair : guess WholePair v ≡ whole_guess (2 ^ 16) v
  unfolding guess
  guess_pair = refl

  pub guess_float : guess Float v ≡ narrowed v
  unfolding guess
  guess_float = refl

  -- a whole number from 0 on, and one below
  module _ (n : ℕ) where
    pub whole_guess_from_zero : v < 2 ^ 63 → whole_guess n v ≡ whole_size (v / 2 ^ 52 % 2 ^ 11) (v % 2 ^ 52) % n
    unfolding whole_guess
    whole_guess_from_zero h = rw (lt-ltb v (2 ^ 63) h)

    pub whole_guess_below_zero : 2 ^ 63 ≤ v
        → whole_guess n v ≡ (2 ^ 32 - whole_size (v / 2 ^ 52 % 2 ^ 11) (v % 2 ^ 52)) % n
    unfolding whole_guess
    whole_guess_below_zero h = rw (le-ltb v (2 ^ 63) h)

  -- a float of 32 bits: its sign, and the rest
  pub narrowed_is : narrowed v ≡ v / 2 ^ 63 * 2 ^ 31 + narrow_magnitude (v / 2 ^ 52 % 2 ^ 11) (v % 2 ^ 52)
  unfolding narrowed
  narrowed_is = refl

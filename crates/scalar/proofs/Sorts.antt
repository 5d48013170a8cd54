-- The forms of each kind of value: their first bytes lie apart, and each value that a form holds is found again.
use Rattle.std.specs.Prelude.{◌≡◌, refl, Bool, true, false, ◌&&◌, List, ℕ, zero, suc, ◌+◌, ◌-◌, ◌/◌, ◌^◌, ◌%◌, ◌≤◌, ◌<◌, T, ltb, leb, eqb, length, ℤ, pos, negsuc, ◌-ℤ◌}
use Rattle.std.proofs.Common.{sym, ◌∙◌, arith, lt-ltb, le-ltb, ltb-true, le-leb, leb-true, eq-eqb, SFits, of_z}
use Rattle.std.specs.Int.{w64}
use Rattle.flow.specs.Tests.{split}
use Rattle.wire.specs.BigEndian.{high, wider}
use Rattle.wire.specs.Laws.{high_below}
use Rattle.scalar.specs.declared.Sort.{Sort}
use Rattle.scalar.specs.declared.Sort.TheVariants.{Null, False, True, Int, Long, Double, Date}
use Rattle.scalar.specs.declared.Rule.TheVariants.{Exactly, Plain, Offset, Signed, Minutes}
use Rattle.scalar.specs.declared.Rule.TheVariants.{WholeByte, WholePair, Float}
use Rattle.scalar.proofs.Signed.{minus_bits, signed_back, minutes_back}
use Rattle.scalar.proofs.DoubleLaws.{byte_back, pair_back, float_back}
use Rattle.scalar.specs.Scalars.{value, Form, form, compact, forms_of, fits}
use Rattle.scalar.specs.Grammar.{Number}
use Rattle.scalar.specs.Guesses.{guess}
use Rattle.scalar.proofs.NumberLaws.{proper, Sane, Sanes, Shorter, number_short}

pub properly : (s : Sort) → T (proper (forms_of s))
unfolding forms_of
properly Null = tt
properly False = tt
properly True = tt
properly Int = tt
properly Long = tt
properly Double = tt
properly Date = tt

-- ---- what a form holds is found again: one law over the form
offset_back : (k u : ℕ) → u < 2 ^ 63 → k < 2 ^ 63 → guess (Offset k) (value (Offset k) u) ≡ u
unfolding guess value
offset_back k u l h = rw (minus_bits u k l (omega arith)) (omega arith)

-- a compact form, of any first bytes, zero and size
pub compact_sane : (head codes extra zero-code : ℕ) → wider extra codes ≤ 2 ^ 63
    → wider extra (zero-code - head) < 2 ^ 63 → Sane (compact head codes extra zero-code)
compact_sane head codes extra zero-code a b u l = offset_back (wider extra (zero-code - head)) u (omega arith) b

exact_sane : (head v : ℕ) → Sane (form head 1 0 (Exactly v))
unfolding guess value
exact_sane head v u l = omega arith

plain_sane : (head : ℕ) → Sane (form head 1 8 Plain)
unfolding guess value
plain_sane head u l = refl

signed_sane : (head : ℕ) → Sane (form head 1 4 Signed)
unfolding guess value
signed_sane head u l = signed_back u (omega arith)

rest_sane : Sane (form 0x4b 1 4 Minutes) × Sane (form 0x5d 1 1 WholeByte) × Sane (form 0x5e 1 2 WholePair)
    × Sane (form 0x5f 1 4 Float)
unfolding guess value
rest_sane = (
  (λ u l. minutes_back u (omega arith)),
  (λ u l. byte_back u (omega arith)),
  (λ u l. pair_back u (omega arith)),
  (λ u l. float_back u (omega arith)),
)

pub sane : (s : Sort) → Sanes 0 (forms_of s)
unfolding forms_of
sane Null = (omega arith, exact_sane 0x4e 0, tt)
sane False = (omega arith, exact_sane 0x46 0, tt)
sane True = (omega arith, exact_sane 0x54 0, tt)
sane Int = (
  omega arith,
  compact_sane 0x80 64 0 0x90 (omega arith) (omega arith),
  (
    omega arith,
    compact_sane 0xc0 16 1 0xc8 (omega arith) (omega arith),
    (omega arith, compact_sane 0xd0 8 2 0xd4 (omega arith) (omega arith), (omega arith, signed_sane 0x49, tt)),
  ),
)
sane Long = (
  omega arith,
  compact_sane 0xd8 24 0 0xe0 (omega arith) (omega arith),
  (
    omega arith,
    compact_sane 0xf0 16 1 0xf8 (omega arith) (omega arith),
    (
      omega arith,
      compact_sane 0x38 8 2 0x3c (omega arith) (omega arith),
      (omega arith, signed_sane 0x59, (omega arith, plain_sane 0x4c, tt)),
    ),
  ),
)
sane Double = (
  omega arith,
  exact_sane 0x5b 0,
  (
    omega arith,
    exact_sane 0x5c 0x3ff0_0000_0000_0000,
    (
      omega arith,
      rest_sane.1,
      (omega arith, rest_sane.2, (omega arith, rest_sane.3, (omega arith, plain_sane 0x44, tt))),
    ),
  ),
)
sane Date = (omega arith, rest_sane.0, (omega arith, plain_sane 0x4a, tt))

-- no form of a value is shorter than its shortest
pub none_shorter : (s : Sort) {t : List ℕ} {v : ℕ} → Number (forms_of s) t v → Shorter (forms_of s) v (length t)
none_shorter s n = number_short 0 n (sane s)

-- ---- the range of a compact form: one law over the form, and its six instances
-- from −d to u
abbrev pub in_range : ℕ → ℕ → ℤ → Bool
in_range d u (pos n) = leb n u
in_range d u (negsuc n) = ltb n d

below_high : (k u c : ℕ) → high k u < c → u < wider k c
below_high zero u c h = h
below_high (suc k) u c h = let l = below_high k (u / 256) c h in omega arith

same_test : (a b : Bool) → (a ≡ true → b ≡ true) → (b ≡ true → a ≡ true) → a ≡ b
same_test true b f g = sym (f refl)
same_test false true f g = g refl
same_test false false f g = refl

module _ (head codes extra zero-code d u : ℕ) (low : wider extra (zero-code - head) ≡ d)
    (all : wider extra codes ≡ d + suc u) (few : d + suc u < 2 ^ 63) where
  -- the form holds v where the number for v is one of its numbers
  holds : (g v : ℕ) → v < 2 ^ 64 → g ≡ (v + d) % 2 ^ 64
      → ltb (high extra g) codes && eqb (of_z w64 (pos g -ℤ pos d)) v ≡ ltb g (d + suc u)
  holds g v l q = split g (d + suc u)
      (λ h.
      let t = lt-ltb (high extra g) codes (high_below extra g codes (rw all h)) in
      let e : of_z w64 (pos g -ℤ pos d) ≡ v = minus_bits g d (omega arith) (omega arith) ∙ omega arith in
      rw (t, eq-eqb _ v e, lt-ltb g (d + suc u) h))
      (λ h.
      rw (
        le-ltb (high extra g) codes
            (split (high extra g) codes (λ x. let y = rw all at (below_high extra g codes x) in absurd (omega arith))
            (λ x. x)),
        le-ltb g (d + suc u) h,
      ))

  fits_by : (v : ℕ) → v < 2 ^ 64 → fits (compact head codes extra zero-code) v ≡ ltb ((v + d) % 2 ^ 64) (d + suc u)
  unfolding guess value
  fits_by v l = rw low (holds ((v + d) % 2 ^ 64) v l refl)

  pub compact_range : (z : ℤ) → SFits w64 z → fits (compact head codes extra zero-code) (of_z w64 z) ≡ in_range d u z
  compact_range (pos n) h =
      fits_by n (omega (arith, h.sfits)) ∙ same_test (ltb ((n + d) % 2 ^ 64) (d + suc u)) (leb n u)
      (λ t. le-leb n u (omega (arith, h.sfits, ltb-true ((n + d) % 2 ^ 64) (d + suc u) t)))
      (λ t. lt-ltb ((n + d) % 2 ^ 64) (d + suc u) (omega (arith, h.sfits, leb-true n u t)))
  compact_range (negsuc n) h =
      fits_by (2 ^ 64 - suc n) (omega (arith, h.sfits))
      ∙ same_test (ltb ((2 ^ 64 - suc n + d) % 2 ^ 64) (d + suc u)) (ltb n d)
      (λ t. lt-ltb n d (omega (arith, h.sfits, ltb-true ((2 ^ 64 - suc n + d) % 2 ^ 64) (d + suc u) t)))
      (λ t. lt-ltb ((2 ^ 64 - suc n + d) % 2 ^ 64) (d + suc u) (omega (arith, h.sfits, ltb-true n d t)))

-- ints: −16..47, −2,048..2,047, −262,144..262,143; longs: −8..15, and the same two
abbrev pub Covers : Form → ℕ → ℕ → Type 0
Covers w d u = (z : ℤ) → SFits w64 z → fits w (of_z w64 z) ≡ in_range d u z

pub int_ranges : Covers (compact 0x80 64 0 0x90) 16 47 × Covers (compact 0xc0 16 1 0xc8) 2048 2047
    × Covers (compact 0xd0 8 2 0xd4) 262144 262143
int_ranges = (
  compact_range 0x80 64 0 0x90 16 47 refl refl (omega arith),
  compact_range 0xc0 16 1 0xc8 2048 2047 refl refl (omega arith),
  compact_range 0xd0 8 2 0xd4 262144 262143 refl refl (omega arith),
)

pub long_ranges : Covers (compact 0xd8 24 0 0xe0) 8 15 × Covers (compact 0xf0 16 1 0xf8) 2048 2047
    × Covers (compact 0x38 8 2 0x3c) 262144 262143
long_ranges = (
  compact_range 0xd8 24 0 0xe0 8 15 refl refl (omega arith),
  compact_range 0xf0 16 1 0xf8 2048 2047 refl refl (omega arith),
  compact_range 0x38 8 2 0x3c 262144 262143 refl refl (omega arith),
)

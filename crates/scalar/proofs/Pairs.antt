-- Pairs of halves and supplementary characters correspond one to one, by Unicode's formula: `pair_char`, `char_pair`,
-- `pair_one`, `pair_point`.
use Rattle.std.specs.Prelude.{◌≡◌, refl, List, [], ◌∷◌, ℕ, ◌+◌, ◌-◌, ◌*◌, ◌/◌, ◌%◌, ◌≤◌, ◌<◌, length, get_or}
use Rattle.std.proofs.Common.{sym, ◌∙◌, ap, arith}
use Rattle.flow.specs.Tests.{split}
use Rattle.flow.specs.Flow.{pick}
use Rattle.wire.specs.BigEndian.{be}
use Rattle.wire.specs.Laws.{be_four}
use Rattle.scalar.specs.declared.Encoding.TheVariants.{Utf8}
use Rattle.scalar.specs.declared.CharLead.TheVariants.{Supplementary}
use Rattle.scalar.specs.Scalars.{char_lead, paired}
use Rattle.scalar.specs.Grammar.{no_more, follows, Char, two_units, Half, IsHigh, IsLow}
use Rattle.scalar.proofs.CharLeads.{says}

-- a pair of halves, ed d x and ed y z, whose four bytes are w
pub record Pair (w : List ℕ) : Type 0 where
  pub d : ℕ
  pub x : ℕ
  pub y : ℕ
  pub z : ℕ
  pub high : IsHigh d x
  pub low : IsLow y z
  pub is : paired d x y z ≡ w

pub paired_length : (d x y z : ℕ) → length (paired d x y z) ≡ 4
unfolding paired
paired_length d x y z = refl

-- the four bytes, one by one
pub paired_bytes : (d x y z : ℕ) → paired d x y z
    ≡ (0xf0 + (d % 16 + 1) / 4) ∷ (0x80 + (d % 16 + 1) % 4 * 16 + x % 64 / 4) ∷ (0x80 + x % 4 * 16 + y % 16)
    ∷ (0x80 + z % 64) ∷ []
unfolding paired
paired_bytes d x y z = refl

-- the four bytes as one number
pub paired_be : (d x y z : ℕ) → be 4 (
    (((0xf0 + (d % 16 + 1) / 4) * 256
    + (0x80 + (d % 16 + 1) % 4 * 16 + x % 64 / 4)) * 256
    + (0x80 + x % 4 * 16 + y % 16)) * 256
    + (0x80 + z % 64)) ≡ paired d x y z
unfolding paired
paired_be d x y z = be_four _ _ _ _ (omega arith) (omega arith) (omega arith) (omega arith)

-- ---- pair-char: the four bytes of a pair are a supplementary character
pub pair_char : {w : List ℕ} → Pair w → Char Utf8 2 w
unfolding char_lead pick paired
pair_char p = rw p.is at (by_second_law p.d p.x p.y p.z p.high)
  where
    led : (d x y z b lo hi : ℕ) → char_lead b ≡ Supplementary lo hi → 0xf0 + (d % 16 + 1) / 4 ≡ b
        → lo ≤ 0x80 + (d % 16 + 1) % 4 * 16 + x % 64 / 4 → 0x80 + (d % 16 + 1) % 4 * 16 + x % 64 / 4 < hi
        → Char Utf8 2 (paired d x y z)
    led d x y z b lo hi e f p q =
        two_units (ap char_lead f ∙ e) (follows p q
        (follows {lo = 0x80} {hi = 0xc0} {b = 0x80 + x % 4 * 16 + y % 16} (omega arith) (omega arith)
        (follows {lo = 0x80} {hi = 0xc0} {b = 0x80 + z % 64} (omega arith) (omega arith) no_more)))

    by_second_law : (d x y z : ℕ) → IsHigh d x → Char Utf8 2 (paired d x y z)
    by_second_law d x y z h =
        split d 0xa3 (λ i. led d x y z 0xf0 0x90 0xc0 refl (omega arith) (omega arith) (omega arith))
        (λ i. split d 0xa7 (λ j. led d x y z 0xf1 0x80 0xc0 refl (omega arith) (omega arith) (omega arith))
        (λ j. split d 0xab (λ k. led d x y z 0xf2 0x80 0xc0 refl (omega arith) (omega arith) (omega arith))
        (λ k. split d 0xaf (λ m. led d x y z 0xf3 0x80 0xc0 refl (omega arith) (omega arith) (omega arith))
        (λ m. led d x y z 0xf4 0x80 0x90 refl (omega arith) (omega arith) (omega arith)))))

-- ---- char-pair: each supplementary character is that of a pair
pub char_pair : {w : List ℕ} → Char Utf8 2 w → Pair w
unfolding paired
char_pair (two_units {b = a} e (follows {b = b} p q (follows {b = c} p₁ q₁ (follows {b = z} p₂ q₂ no_more)))) =
    let f = rw e at (says a) in
    of ((a - 0xf0) * 64 + (b - 0x80)) (c - 0x80)
    (omega arith) (omega arith) (omega arith) (omega arith) (omega arith) (omega arith)
  where
    -- n: what the first two bytes hold; m: what the third holds
    of : (n m : ℕ) → 0xf0 + n / 64 ≡ a → 0x80 + n % 64 ≡ b → 0x80 + m ≡ c → 0x10 ≤ n → n < 0x110 → m < 64
        → Pair (a ∷ b ∷ c ∷ z ∷ [])
    of n m f g h i j k =
        let high : (0x9f + n / 16) % 16 + 1 ≡ n / 16 = omega arith in
        let front : (0x80 + n % 16 * 4 + m / 16) % 64 / 4 ≡ n % 16 = omega arith in
        let back : (0x80 + n % 16 * 4 + m / 16) % 4 ≡ m / 16 = omega arith in
        let first : 0xf0 + n / 16 / 4 ≡ a = omega arith in
        let second : 0x80 + n / 16 % 4 * 16 + n % 16 ≡ b = omega arith in
        let third : 0x80 + m / 16 * 16 + (0xb0 + m % 16) % 16 ≡ c = omega arith in
        let fourth : 0x80 + z % 64 ≡ z = omega arith in
        record {
          d = 0x9f + n / 16;
          x = 0x80 + n % 16 * 4 + m / 16;
          y = 0xb0 + m % 16;
          z = z;
          high = omega arith;
          low = omega arith;
          is = rw (high, front, back, first, second, third, fourth) refl;
        }

-- ---- the code point, by the ten bits of each half
abbrev pub point_of : List ℕ → ℕ  -- what four bytes of UTF-8 stand for: three bits of the first, six of each other
point_of w = get_or w 0 0 % 8 * 0x40000 + get_or w 1 0 % 64 * 0x1000 + get_or w 2 0 % 64 * 0x40 + get_or w 3 0 % 64

abbrev bits_of : ℕ → ℕ → ℕ
bits_of d x = d % 16 * 64 + x % 64

point_bits : {w : List ℕ} (p : Pair w) → point_of w ≡ 0x10000 + bits_of p.d p.x * 0x400 + bits_of p.y p.z
unfolding paired
point_bits p = ap point_of (sym p.is) ∙ of p.d p.x p.y p.z
  where
    sum : (i x k m : ℕ)
        → (i + 1) / 4 * 0x40000 + ((i + 1) % 4 * 16 + x % 64 / 4) * 0x1000 + (x % 4 * 16 + k) * 0x40 + m
        ≡ 0x10000 + (i * 64 + x % 64) * 0x400 + (k * 64 + m)
    sum i x k m = omega arith

    of : (d x y z : ℕ) → point_of (paired d x y z) ≡ 0x10000 + bits_of d x * 0x400 + bits_of y z
    of d x y z =
        let first : (0xf0 + (d % 16 + 1) / 4) % 8 ≡ (d % 16 + 1) / 4 = omega arith in
        let high = (d % 16 + 1) % 4 * 16 + x % 64 / 4 in
        let second : (0x80 + (d % 16 + 1) % 4 * 16 + x % 64 / 4) % 64 ≡ high = omega arith in
        let third : (0x80 + x % 4 * 16 + y % 16) % 64 ≡ x % 4 * 16 + y % 16 = omega arith in
        let fourth : (0x80 + z % 64) % 64 ≡ z % 64 = omega arith in
        rw (first, second, third, fourth) (sum (d % 16) x (y % 16) (z % 64))

-- ---- pair_one: two pairs with the same four bytes are the same pair
pub pair_one : {w : List ℕ} (p q : Pair w) → (p.d ≡ q.d) × (p.x ≡ q.x) × (p.y ≡ q.y) × (p.z ≡ q.z)
pair_one p q =
    let f = apart (bits_of p.d p.x) (bits_of p.y p.z) (bits_of q.d q.x) (bits_of q.y q.z)
    (omega arith) (omega arith) (sym (point_bits p) ∙ point_bits q) in
    let high = half p.high q.high (omega arith) f.0 in
    let low = half p.low q.low (omega arith) f.1 in
    (high.0, high.1, low.0, low.1)
  where
    apart : (i j i' j' : ℕ) → j < 0x400 → j' < 0x400 → 0x10000 + i * 0x400 + j ≡ 0x10000 + i' * 0x400 + j'
        → (i ≡ i') × (j ≡ j')
    apart i j i' j' h k e = omega arith

    half : {lo hi d x d' x' : ℕ} → Half lo hi d x → Half lo hi d' x' → hi ≡ lo + 16 → bits_of d x ≡ bits_of d' x'
        → (d ≡ d') × (x ≡ x')
    half h h' e f = omega arith

-- ---- pair-point: Unicode's formula for the code point of a pair
abbrev pub unit_of : ℕ → ℕ → ℕ  -- what the three bytes ed d x of UTF-8 stand for: four bits of ed, six of each other
unit_of d x = 0xed % 16 * 0x1000 + d % 64 * 0x40 + x % 64

pub pair_point : {w : List ℕ} (p : Pair w)
    → point_of w ≡ 0x10000 + (unit_of p.d p.x - 0xd800) * 0x400 + (unit_of p.y p.z - 0xdc00)
pair_point p =
    let high : unit_of p.d p.x - 0xd800 ≡ bits_of p.d p.x = omega (arith, p.high) in
    let low : unit_of p.y p.z - 0xdc00 ≡ bits_of p.y p.z = omega (arith, p.low) in
    rw (high, low) (point_bits p)

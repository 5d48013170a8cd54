-- What the functions on cases answer.
use Rattle.std.specs.Prelude.{◌≡◌, Bool, true, false, List, [], ◌∷◌, ◌⊎◌, ℕ, zero, suc, ◌+◌, ◌-◌, ◌*◌, ◌/◌, ◌%◌, ◌^◌, ◌≤◌, ◌<◌, length, get_or, HoldsAt}
use Rattle.std.specs.Prelude.{take, drop, Option, Some, None}
use Rattle.std.specs.Borrow.{Bor}
use Rattle.flow.specs.Flow.{pick, within}
use Rattle.vectors.specs.declared.Scanned.{Scanned}

-- from `at` on there is no newline before `end`, where there is one, or the input ends
pub record LineEnds (input : List ℕ) (at end : ℕ) : Type 0 where
  pub before : (k : ℕ) → at ≤ k → k < end → get_or input k 0 ≡ 0x0a → ⊥
  pub here : end < length input → get_or input end 0 ≡ 0x0a

-- the line at the front of the input, and what the input goes on with after its newline; no line where nothing is left
abbrev pub NextLine : List ℕ → Option (Bor (List ℕ)) → List ℕ → Type 0
NextLine input (Some line) rest =
    (0 < length input) × (line.now ≡ take (length line.now) input) × LineEnds input 0 (length line.now)
    × (rest ≡ drop (length line.now + 1) input)
NextLine input None rest = length input ≡ 0

-- the worth of a hexadecimal digit; 16 for any other byte
unfoldable pub digit_of : ℕ → ℕ
digit_of b = pick (within 0x30 0x3a b) (b - 0x30) (pick (within 0x61 0x67 b) (b - 0x61 + 10) 16)

abbrev pub digit_at : List ℕ → ℕ → ℕ
digit_at line k = digit_of (get_or line k 0)

-- the digit of this worth, which is 16 where there is none
abbrev pub DigitMet : ℕ → Option ℕ → Type 0
DigitMet worth (Some d) = (d ≡ worth) × (d < 16)
DigitMet worth None = worth ≡ 16

-- the number that so many decimal digits from `at` on are
unfoldable pub worth : List ℕ → ℕ → ℕ → ℕ
worth line at zero = 0
worth line at (suc n) = worth line at n * 10 + digit_at line (at + n)

-- so many decimal digits stand from `at` on
abbrev pub Digits : List ℕ → ℕ → ℕ → Type 0
Digits line at n = (k : ℕ) → k < n → digit_at line (at + k) ≤ 9

-- the n digits from `at` on, and no more, are this number
pub record IsNumber (line : List ℕ) (at n value : ℕ) : Type 0 where
  pub some : 0 < n
  pub digits : Digits line at n
  pub ends : 9 < digit_at line (at + n)
  pub worth_is : value ≡ worth line at n

-- no digit, or a number that takes more than 64 bits
abbrev pub IsNone : List ℕ → ℕ → Type 0
IsNone line at = (9 < digit_at line at) ⊎ ((n : ℕ) × Digits line at n × (2 ^ 64 ≤ worth line at n))

abbrev pub number : ℕ → ℕ → Scanned
number value next = record { value = value; next = next }

unfoldable pub DecimalMet : List ℕ → ℕ → Option Scanned → Type 0
DecimalMet line at (Some s) = (at ≤ s.next) × (s.next ≤ length line) × IsNumber line at (s.next - at) s.value
DecimalMet line at None = IsNone line at

unfoldable pub TimesMet : List ℕ → ℕ → Option Scanned → Type 0
TimesMet line at r =
    (get_or line at 0 ≡ 0x2a → DecimalMet line (at + 1) r) × ((get_or line at 0 ≡ 0x2a → ⊥) → r ≡ Some (number 1 at))

-- ---- lent bytes
unfoldable pub filling_at : ℕ → ℕ
filling_at i = (i % 251 * 7 + 3) % 251

unfoldable pub number_filling_at : ℕ → ℕ
number_filling_at i = 0xb1a0_0000_0000_0000 + i % 2 ^ 32

-- each from `from` on is what stands at its place
abbrev pub Filled : {A : Type 0} → (ℕ → A) → List A → ℕ → Type 0
Filled filling lent from = (k : ℕ) → from ≤ k → k < length lent → HoldsAt (λ x. x ≡ filling k) lent k

abbrev pub UnchangedMet : {A : Type 0} → (ℕ → A) → List A → ℕ → Bool → Type 0
UnchangedMet filling lent from true = Filled filling lent from
UnchangedMet filling lent from false = Filled filling lent from → ⊥

-- a checksum s with 32 bits more; with the two halves of a number more; with all of a list more
unfoldable pub sum_with : ℕ → ℕ → ℕ
sum_with s bits = (s % 0x7fff_ffff * 1_000_003 + bits % 2 ^ 32) % 0x7fff_ffff

abbrev pub sum_with_number : ℕ → ℕ → ℕ
sum_with_number s n = sum_with (sum_with s (n / 2 ^ 32)) n

unfoldable pub sum_from : {A : Type 0} → (ℕ → A → ℕ) → ℕ → List A → ℕ
sum_from counted s [] = s
sum_from counted s (x ∷ t) = sum_from counted (counted s x) t

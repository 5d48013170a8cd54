-- The groups of a line, and what is stored of them.
use mathlib.Core.{Bool.{Bool, ◌&&◌}, List.{List, [], ◌∷◌, ◌++◌}}
use Rattle.std.specs.Prelude.{ℕ, zero, suc, ◌+◌, ◌-◌, ◌*◌, ◌/◌, ◌%◌, ◌^◌, ◌≡◌, ◌≤◌, ◌<◌, max, Option, Some, None}
use lib.{Dec.{eqb, ltb, leb}, ListN.{length, drop, get_or}, Seq.{sets, slice}}
use Rattle.flow.specs.Flow.{pick}
use Rattle.vectors.specs.declared.Scanned.{Scanned}
use Rattle.vectors.specs.declared.Step.{Step}
use Rattle.vectors.specs.Cases.{digit_of, digit_at, worth, number}

-- where the line goes on, and how much of the bytes is stored
abbrev pub step : ℕ → ℕ → Step
step next size = record { next = next; size = size }

-- how many digits below a base stand at the front
unfoldable pub digits : ℕ → List ℕ → ℕ
digits base [] = 0
digits base (b ∷ s) = pick (ltb (digit_of b) base) (suc (digits base s)) 0

-- the number below 2^64 that the decimal digits from `at` on are, and where the line goes on
unfoldable pub decimal_of : List ℕ → ℕ → Option Scanned
decimal_of line at =
    let n = digits 10 (drop at line) in
    pick (ltb 0 n && ltb (worth line at n) (2 ^ 64)) (Some (number (worth line at n) (at + n))) None

-- how often there is what ends at `at`: the number after `*`, or once
unfoldable pub times_of : List ℕ → ℕ → Option Scanned
times_of line at = pick (eqb (get_or line at 0) 0x2a) (decimal_of line (at + 1)) (Some (number 1 at))

-- n bytes, two hexadecimal digits each, from `at` on
unfoldable pub hex_bytes : List ℕ → ℕ → ℕ → List ℕ
hex_bytes line at zero = []
hex_bytes line at (suc n) = (digit_at line at * 16 + digit_at line (at + 1)) ∷ hex_bytes line (at + 2) n

unfoldable pub copies : ℕ → List ℕ → List ℕ
copies zero bs = []
copies (suc n) bs = bs ++ copies n bs

-- bytes put into a slice from `from` on (sets: one by one, past the end none), as often as a number says. They are put
-- there at least once, and 0 times count as none. Without a number, or without room, there is no step
unfoldable pub store_times : List ℕ → ℕ → List ℕ → Option Scanned → Option Step × List ℕ
store_times bytes from once None = (None, sets bytes from once)
store_times bytes from once (Some s) = (
  pick (leb (from + max s.value 1 * length once) (length bytes))
      (Some (step s.next (from + s.value * length once))) None,
  sets bytes from (copies (max s.value 1) once),
)

-- the group at `at`, stored from `from` on: digits, two a byte, and how often. A digit too many, and there is no step
unfoldable pub group_at : List ℕ → ℕ → List ℕ → ℕ → Option Step × List ℕ
group_at line at bytes from =
    let n = digits 16 (drop at line) in
    store_times bytes from (hex_bytes line at (n / 2)) (pick (eqb (n % 2) 0) (times_of line (at + n)) None)

-- a space and a digit stand at `at`
abbrev pub group_stands : List ℕ → ℕ → Bool
group_stands line at = eqb (get_or line at 0) 0x20 && ltb (digit_at line (at + 1)) 16

abbrev pub onward : Option Step × List ℕ → (ℕ → ℕ → List ℕ → Option Step × List ℕ) → Option Step × List ℕ
onward (Some s, bytes) f = f s.next s.size bytes
onward (None, bytes) f = (None, bytes)

-- the groups from `at` on, stored from `held` on. Each takes some of the line, so that the first number only bounds the
-- recursion
unfoldable pub groups_from : ℕ → List ℕ → ℕ → ℕ → List ℕ → Option Step × List ℕ
groups_from zero line at held bytes = (Some (step at held), bytes)
groups_from (suc k) line at held bytes =
    pick (group_stands line at) (onward (group_at line (at + 1) bytes held) (groups_from k line)) (Some (step at held), bytes)

-- what `groups` answers, and the bytes at its exit
abbrev pub groups_of : List ℕ → ℕ → List ℕ → Option Step × List ℕ
groups_of line at bytes = groups_from (length line) line at 0 bytes

-- ---- the two parts of a group
-- its bytes once
unfoldable pub took_bytes : List ℕ → ℕ → List ℕ → ℕ → Option Step × List ℕ
took_bytes line at bytes from =
    let n = digits 16 (drop at line) in (
      pick (eqb (n % 2) 0 && leb (from + n / 2) (length bytes)) (Some (step (at + n) (from + n / 2))) None,
      sets bytes from (hex_bytes line at (n / 2)),
    )

-- the end, if there is room up to it
abbrev pub EndMet : ℕ → ℕ → Option ℕ → Type 0
EndMet end room (Some e) = (e ≡ end) × (e ≤ room)
EndMet end room None = room < end

-- the bytes from `from` to below `size`, t times in all
unfoldable pub repeated : List ℕ → ℕ → ℕ → ℕ → ℕ → Option Step × List ℕ
repeated bytes from size t next = (
  pick (leb (size + (t - 1) * (size - from)) (length bytes))
      (Some (step next (from + t * (size - from)))) None,
  sets bytes size (copies (t - 1) (slice from size bytes)),
)

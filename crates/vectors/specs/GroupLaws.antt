-- What follows of the groups for a caller: groups-within, the line goes on within it, and no more is stored than there
-- is room.
use mathlib.Core.{Path.{◌≡◌, refl, sym, ◌∙◌, ap, subst}, Bool.{Bool, true, false, ◌&&◌}, List.{List, [], ◌∷◌}}
use Rattle.std.specs.Prelude.{ℕ, zero, suc, ◌+◌, ◌*◌, ◌/◌, ◌%◌, ◌^◌, ◌≤◌, ◌<◌, max, Option, Some, None}
use native.Mathlib.{Nat.zero-mul, Omega.arith}
use lib.{Dec.{ltb, leb, eqb}, ListN.{length, drop, get_or, length-drop, get_or-eq_default}, Seq.length-sets}
use Rattle.std.proofs.Common.{leb-true, eqb-true}
use Rattle.flow.specs.{Flow.pick, Tests.split}
use Rattle.vectors.specs.declared.Scanned.{Scanned}
use Rattle.vectors.specs.declared.Step.{Step}
use Rattle.vectors.specs.Cases.{digit_of, digit_at, worth, number}
use Rattle.vectors.specs.Groups.{digits, decimal_of, times_of, hex_bytes, copies, store_times, group_at, group_stands, step}
use Rattle.vectors.specs.Groups.{onward, groups_from, groups_of}

digits_within : (base : ℕ) (s : List ℕ) → digits base s ≤ length s
unfolding digits pick
digits_within base [] = omega arith
digits_within base (b ∷ s) = go (ltb (digit_of b) base) (digits_within base s)
  where
    go : (t : Bool) → digits base s ≤ length s → pick t (suc (digits base s)) 0 ≤ suc (length s)
    go true h = omega arith
    go false h = omega arith

-- a step goes on within the line, and so does a number
abbrev Within : List ℕ → ℕ → ℕ → Option Step → Type 0
Within line at room (Some s) = (at ≤ s.next) × (at ≤ length line → s.next ≤ length line) × (s.size ≤ room)
Within line at room None = Unit {0}

abbrev ScanMet : List ℕ → ℕ → Option Scanned → Type 0
ScanMet line at (Some s) = (at ≤ s.next) × (at ≤ length line → s.next ≤ length line)
ScanMet line at None = Unit {0}

decimal_within : (line : List ℕ) (at : ℕ) → ScanMet line at (decimal_of line at)
unfolding decimal_of pick
decimal_within line at = let n = digits 10 (drop at line) in go n (digits_within 10 (drop at line))
    (ltb 0 n && ltb (worth line at n) (2 ^ 64))
  where
    go : (n : ℕ) → n ≤ length (drop at line) → (t : Bool) → ScanMet line at
        (pick t (Some (number (worth line at n) (at + n))) None)
    go n i true = (omega arith, λ h. omega (arith, length-drop at line))
    go n i false = tt

-- a byte other than 0 stands in the line
pub stands_within : (line : List ℕ) (at b : ℕ) → 0 < b → get_or line at 0 ≡ b → at < length line
stands_within line at b h e =
    split at (length line) (λ l. l) (λ l. absurd (omega (arith, e, get_or-eq_default line 0 l)))

times_within : (line : List ℕ) (at : ℕ) → ScanMet line at (times_of line at)
unfolding times_of pick
times_within line at = go (eqb (get_or line at 0) 0x2a) refl
  where
    further : (r : Option Scanned) → at < length line → ScanMet line (at + 1) r → ScanMet line at r
    further (Some s) h m = (omega (arith, m.0), λ k. m.1 (omega arith))
    further None h m = tt

    go : (t : Bool) → eqb (get_or line at 0) 0x2a ≡ t → ScanMet line at (pick t (decimal_of line (at + 1)) (Some (number 1 at)))
    go true e = further (decimal_of line (at + 1)) (stands_within line at 0x2a (omega arith)
        (eqb-true (get_or line at 0) 0x2a e)) (decimal_within line (at + 1))
    go false e = (omega arith, λ h. h)

at_least_once : (t k : ℕ) → t * k ≤ max t 1 * k
at_least_once zero k = omega (arith, zero-mul k)
at_least_once (suc t) k = let e : max (suc t) 1 ≡ suc t = omega arith in omega (arith, ap (λ (n : ℕ). n * k) e)

store_within : (line : List ℕ) (at : ℕ) (bytes : List ℕ) (from : ℕ) (once : List ℕ) (q : Option Scanned) → ScanMet line at q
    → Within line at (length bytes) (store_times bytes from once q).0
unfolding store_times pick
store_within line at bytes from once None m = tt
store_within line at bytes from once (Some s) m = go (leb (from + max s.value 1 * length once) (length bytes)) refl
  where
    go : (b : Bool) → leb (from + max s.value 1 * length once) (length bytes) ≡ b
        → Within line at (length bytes) (pick b (Some (step s.next (from + s.value * length once))) None)
    go true e = (
      m.0,
      m.1,
      omega (
        arith,
        leb-true (from + max s.value 1 * length once) (length bytes) e,
        at_least_once s.value (length once),
      ),
    )
    go false e = tt

store_length : (bytes : List ℕ) (from : ℕ) (once : List ℕ) (q : Option Scanned)
    → length (store_times bytes from once q).1 ≡ length bytes
unfolding store_times
store_length bytes from once None = length-sets bytes from once
store_length bytes from once (Some s) = length-sets bytes from (copies (max s.value 1) once)

module _ (line : List ℕ) (at : ℕ) (bytes : List ℕ) (from : ℕ) where
  abbrev n : ℕ
  n = digits 16 (drop at line)

  group_within : Within line at (length bytes) (group_at line at bytes from).0
  unfolding group_at pick
  group_within = store_within line at bytes from (hex_bytes line at (n / 2))
      (pick (eqb (n % 2) 0) (times_of line (at + n)) None) (go (eqb (n % 2) 0))
    where
      further : (r : Option Scanned) → ScanMet line (at + n) r → ScanMet line at r
      further (Some s) m =
          (omega (arith, m.0), λ h. m.1 (omega (arith, digits_within 16 (drop at line), length-drop at line)))
      further None m = tt

      go : (t : Bool) → ScanMet line at (pick t (times_of line (at + n)) None)
      go true = further (times_of line (at + n)) (times_within line (at + n))
      go false = tt

  group_length : length (group_at line at bytes from).1 ≡ length bytes
  unfolding group_at
  group_length =
      store_length bytes from (hex_bytes line at (n / 2)) (pick (eqb (n % 2) 0) (times_of line (at + n)) None)

  pub group_on : {p : Option Step} {b : List ℕ} {next size : ℕ} → group_at line at bytes from ≡ (p, b) → p ≡ Some (step next size)
      → (at ≤ next) × (size ≤ length bytes) × (length b ≡ length bytes)
  group_on e f =
      let w = subst (Within line at (length bytes)) (ap (λ (x : Option Step × List ℕ). x.0) e ∙ f) group_within in
      (w.0, w.2, sym (ap (λ (x : Option Step × List ℕ). length x.1) e) ∙ group_length)

-- a space before it, the line has not ended
group_stands_law : (line : List ℕ) (at : ℕ) → group_stands line at ≡ true → at < length line
group_stands_law line at e = stands_within line at 0x20 (omega arith) (eqb-true (get_or line at 0) 0x20
    (first (eqb (get_or line at 0) 0x20) (ltb (digit_at line (at + 1)) 16) e))
  where
    first : (a b : Bool) → a && b ≡ true → a ≡ true
    first true b e = refl
    first false b e = e

from_within : (k : ℕ) (line : List ℕ) (at held : ℕ) (bytes : List ℕ) → held ≤ length bytes
    → Within line at (length bytes) (groups_from k line at held bytes).0
unfolding groups_from pick
from_within zero line at held bytes h = (omega arith, λ l. l, h)
from_within (suc k) line at held bytes h = go (from_within k line) (group_stands line at) refl
  where
    sooner : (r : Option Step) (next : ℕ) → at ≤ next → (at ≤ length line → next ≤ length line)
        → Within line next (length bytes) r → Within line at (length bytes) r
    sooner (Some s) next a b m = (omega (arith, m.0), λ l. m.1 (b l), m.2)
    sooner None next a b m = tt

    Rest : Type 0
    Rest =
        (next size : ℕ) (b : List ℕ) → size ≤ length b → Within line next (length b) (groups_from k line next size b).0

    on : Rest → (x : Option Step × List ℕ) → at < length line → Within line (at + 1) (length bytes) x.0
        → length x.1 ≡ length bytes → Within line at (length bytes) (onward x (groups_from k line)).0
    on f (Some s, b) l m e = sooner (groups_from k line s.next s.size b).0 s.next (omega (arith, m.0))
        (λ i. m.1 (omega arith)) (subst (λ (n : ℕ). Within line s.next n (groups_from k line s.next s.size b).0) e
        (f s.next s.size b (omega (arith, m.2))))
    on f (None, b) l m e = tt

    go : Rest → (t : Bool) → group_stands line at ≡ t → Within line at (length bytes)
        (pick t (onward (group_at line (at + 1) bytes held) (groups_from k line)) (Some (step at held), bytes)).0
    go f true e = on f (group_at line (at + 1) bytes held) (group_stands_law line at e)
        (group_within line (at + 1) bytes held) (group_length line (at + 1) bytes held)
    go f false e = (omega arith, λ l. l, h)

pub groups_within : (line : List ℕ) (at : ℕ) (bytes : List ℕ) {r : Option Step} {b : List ℕ} {next size : ℕ}
    → groups_of line at bytes ≡ (r, b) → r ≡ Some (step next size) → (at ≤ next) × (at ≤ length line → next ≤ length line)
    × (size ≤ length bytes)
groups_within line at bytes e f = subst (Within line at (length bytes)) (ap (λ (x : Option Step × List ℕ). x.0) e ∙ f)
    (from_within (length line) line at 0 bytes (omega arith))

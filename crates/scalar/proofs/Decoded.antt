-- A body's content as a walk over its bytes: a pair of halves becomes four bytes, any other byte stands as it is. What
-- is no body is walked too.
use Rattle.std.specs.Prelude.{◌≡◌, refl, Bool, true, false, ◌&&◌, List, [], ◌∷◌, ◌++◌, ℕ, zero, suc, ◌+◌, ◌-◌, ◌*◌, ◌/◌, ◌%◌, ◌≤◌, ◌<◌, eqb, leb, length, take, drop, get_or}
use Rattle.std.proofs.Common.{sym, ◌∙◌, ap, arith, length-append, take-append-drop, ne_eqb, le-leb, leb-true}
use Rattle.flow.specs.Tests.{by_cases, within_yes, within_below}
use Rattle.flow.specs.Flow.{within}
use Rattle.scalar.specs.declared.Encoding.{Encoding}
use Rattle.scalar.specs.declared.Encoding.TheVariants.{Utf8, Binary}
use Rattle.scalar.specs.Scalars.{paired}
use Rattle.scalar.specs.Grammar.{Continued, no_more, follows, Char, one_byte, one_unit, below_halves, two_units}
use Rattle.scalar.specs.Grammar.{Sent, as_it_is, as_a_pair, Body, empty, with_char}
use Rattle.scalar.proofs.CharLeads.{says}
use Rattle.scalar.specs.TextUnits.{weights}
use Rattle.scalar.proofs.TextUnits.{light, double}
use Rattle.scalar.proofs.Pairs.{paired_length}
use Rattle.scalar.specs.Decoded.{halves, four_of, decoded_from, decoded, pair_in, four_in}

-- ---- by the first byte: it begins a pair, or stands as it is
decoded_drop : (k : Encoding) (n : ℕ) (w : List ℕ) → decoded_from k n w ≡ decoded k (drop n w)
decoded_drop k zero w = refl
decoded_drop k (suc n) [] = refl
decoded_drop k (suc n) (a ∷ w) = decoded_drop k n w

decoded_pair : (k : Encoding) (a : ℕ) (s : List ℕ) → halves k a s ≡ true
    → decoded k (a ∷ s) ≡ four_of s ++ decoded k (drop 5 s)
decoded_pair k a s e = rw (e, decoded_drop k 5 s) refl

decoded_byte : (k : Encoding) (a : ℕ) (s : List ℕ) {t : List ℕ} → halves k a s ≡ false → decoded k s ≡ t
    → decoded k (a ∷ s) ≡ a ∷ t
decoded_byte k a s e f = rw (e, f) refl

pub other_byte : (k : Encoding) (a : ℕ) (s : List ℕ) → (a ≡ 0xed → ⊥) → halves k a s ≡ false
other_byte Binary a s h = refl
other_byte Utf8 a s h = rw (ne_eqb a 0xed h) refl

second_low : (a d : ℕ) (s : List ℕ) → d < 0xa0 → halves Utf8 a (d ∷ s) ≡ false
second_low a d s h = go (eqb a 0xed)
  where
    go : (t : Bool) → t && (within 0xa0 0xb0 d && leb 5 (length (d ∷ s))) ≡ false
    go true = rw (within_below 0xa0 0xb0 d h) refl
    go false = refl

-- what the test says
halves_are : (k : Encoding) (a : ℕ) (s : List ℕ) → halves k a s ≡ true → (k ≡ Utf8) × (5 ≤ length s)
halves_are Binary a s e = let z : ◌≡◌ {A = ℕ} 0 1 = cc in absurd (omega arith)
halves_are Utf8 a s e =
    (refl, leb-true 5 (length s) (second (within 0xa0 0xb0 (get_or s 0 0)) (leb 5 (length s)) (second (eqb a 0xed) _ e)))
  where
    second : (a b : Bool) → a && b ≡ true → b ≡ true
    second true b e = e
    second false b e = let z : ◌≡◌ {A = ℕ} 0 1 = cc in absurd (omega arith)

pub pair_first : (k : Encoding) (w : List ℕ) → pair_in k w ≡ true
    → (k ≡ Utf8) × (6 ≤ length w) × (decoded k w ≡ four_in w ++ decoded k (drop 6 w))
pair_first k [] e = let z : ◌≡◌ {A = ℕ} 0 1 = cc in absurd (omega arith)
pair_first k (a ∷ s) e = let f = halves_are k a s e in (f.0, omega (arith, f.1), decoded_pair k a s e)

pub byte_first : (k : Encoding) (w : List ℕ) → pair_in k w ≡ false → 0 < length w
    → decoded k w ≡ get_or w 0 0 ∷ decoded k (drop 1 w)
byte_first k [] e l = absurd (omega arith)
byte_first k (a ∷ s) e l = decoded_byte k a s e refl

-- ---- a body's content is what its bytes are decoded to
-- bytes after a character's first
continued_decoded : {n lo hi : ℕ} {cs : List ℕ} → hi ≤ 0xc0 → Continued n lo hi cs → (v : List ℕ)
    → decoded Utf8 (cs ++ v) ≡ cs ++ decoded Utf8 v
continued_decoded l no_more v = refl
continued_decoded l (follows {b = b} {cs = cs} p q r) v =
    decoded_byte Utf8 b (cs ++ v) (other_byte Utf8 b (cs ++ v) (λ e. omega arith)) (continued_decoded (omega arith) r v)

char_decoded : {k : Encoding} {u : ℕ} {w : List ℕ} → Char k u w → (v : List ℕ) → decoded k (w ++ v) ≡ w ++ decoded k v
char_decoded (one_byte l) v = refl
char_decoded (one_unit {b = b} {cs = cs} e x) v =
    let f = rw e at (says b) in
    decoded_byte Utf8 b (cs ++ v) (other_byte Utf8 b (cs ++ v) f.1.1) (continued_decoded f.1.3 x v)
char_decoded (below_halves {b = b} e (follows {b = d} {cs = cs} p q x)) v =
    decoded_byte Utf8 b (d ∷ (cs ++ v)) (second_low b d (cs ++ v) q)
    (continued_decoded (omega arith) (follows {lo = 0x80} {hi = 0xa0} p q x) v)
char_decoded (two_units {b = b} {cs = cs} e x) v =
    let f = rw e at (says b) in
    decoded_byte Utf8 b (cs ++ v) (other_byte Utf8 b (cs ++ v) (λ d. omega arith)) (continued_decoded f.3 x v)

sent_decoded : {k : Encoding} {u : ℕ} {w cs : List ℕ} → Sent k u w cs → (v : List ℕ)
    → decoded k (w ++ v) ≡ cs ++ decoded k v
sent_decoded (as_it_is x) v = char_decoded x v
sent_decoded (as_a_pair {d = d} {x = x} {y = y} {z = z} h l) v =
    decoded_pair Utf8 0xed (d ∷ x ∷ 0xed ∷ y ∷ z ∷ v) here
  where
    here : halves Utf8 0xed (d ∷ x ∷ 0xed ∷ y ∷ z ∷ v) ≡ true
    here = rw (within_yes 0xa0 0xb0 d h.0 h.1, le-leb 5 (length (d ∷ x ∷ 0xed ∷ y ∷ z ∷ v)) (omega arith)) refl

pub body_decoded : {k : Encoding} {n : ℕ} {w cs : List ℕ} → Body k n w cs → decoded k w ≡ cs
body_decoded empty = refl
body_decoded (with_char {v = v} {cs = cs} x r) = sent_decoded x v ∙ ap (λ (z : List ℕ). cs ++ z) (body_decoded r)

-- ---- lengths: no longer than the bytes; and where as long, the bytes themselves
pub four_length : (s : List ℕ) → length (four_of s) ≡ 4
four_length s = paired_length (get_or s 0 0) (get_or s 1 0) (get_or s 3 0) (get_or s 4 0)

-- a pair's four bytes, and what follows, are fewer than its six and what follows
pair_shorter : (k : Encoding) (a : ℕ) (s : List ℕ) → halves k a s ≡ true → length (decoded_from k 5 s) ≤ length s - 5
    → length (decoded k (a ∷ s)) < length (a ∷ s)
pair_shorter k a s e l =
    rw e (omega (arith, (halves_are k a s e).1, length-append (four_of s) (decoded_from k 5 s), four_length s))

from_length : (k : Encoding) (n : ℕ) (w : List ℕ) → length (decoded_from k n w) ≤ length w - n
from_length k zero [] = omega arith
from_length k (suc n) [] = omega arith
from_length k (suc n) (a ∷ w) = omega (arith, from_length k n w)
from_length k zero (a ∷ s) = by_cases (halves k a s)
    (λ e. omega (arith, pair_shorter k a s e (from_length k 5 s)))
    (λ e. rw e (omega (arith, from_length k 0 s)))

-- the first byte of what is its own content
plain_first : (k : Encoding) (a : ℕ) (s : List ℕ) → length (decoded k (a ∷ s)) ≡ length (a ∷ s)
    → (halves k a s ≡ false) × (length (decoded k s) ≡ length s)
plain_first k a s e = by_cases (halves k a s)
    (λ t. absurd (omega (arith, pair_shorter k a s t (from_length k 5 s))))
    (λ t. (t, omega (arith, rw t at e)))

pub plain_same : (k : Encoding) (w : List ℕ) → length (decoded k w) ≡ length w → decoded k w ≡ w
plain_same k [] e = refl
plain_same k (a ∷ s) e = let f = plain_first k a s e in decoded_byte k a s f.0 (plain_same k s f.1)

pub plain_drop : (k : Encoding) (n : ℕ) (w : List ℕ) → length (decoded k w) ≡ length w
    → length (decoded k (drop n w)) ≡ length (drop n w)
plain_drop k zero w e = e
plain_drop k (suc n) [] e = refl
plain_drop k (suc n) (a ∷ s) e = plain_drop k n s (plain_first k a s e).1

-- ---- runs
-- bytes other than ed stand as they are
pub run_decoded : (k : Encoding) (w v : List ℕ) → ((i : ℕ) → i < length w → get_or w i 0 ≡ 0xed → ⊥)
    → decoded k (w ++ v) ≡ w ++ decoded k v
run_decoded k [] v h = refl
run_decoded k (a ∷ w) v h =
    decoded_byte k a (w ++ v) (other_byte k a (w ++ v) (h 0 (omega arith)))
    (run_decoded k w v (λ i l. h (suc i) (omega arith)))

-- what is its own content, cut anywhere
pub plain_run : (k : Encoding) (w : List ℕ) (n : ℕ) → length (decoded k w) ≡ length w
    → decoded k w ≡ take n w ++ decoded k (drop n w)
plain_run k w n e =
    plain_same k w e ∙ sym (take-append-drop n w)
    ∙ ap (λ (z : List ℕ). take n w ++ z) (sym (plain_same k (drop n w) (plain_drop k n w e)))

-- ---- what the four bytes weigh
pub four_weights : (s : List ℕ) → weights Utf8 (four_of s) ≡ 2 ∷ 0 ∷ 0 ∷ 0 ∷ []
unfolding paired
four_weights s = rw (
  double (0xf0 + (get_or s 0 0 % 16 + 1) / 4) (omega arith),
  light (0x80 + (get_or s 0 0 % 16 + 1) % 4 * 16 + get_or s 1 0 % 64 / 4) (omega arith) (omega arith),
  light (0x80 + get_or s 1 0 % 4 * 16 + get_or s 3 0 % 16) (omega arith) (omega arith),
  light (0x80 + get_or s 4 0 % 64) (omega arith) (omega arith),
) refl

-- The laws of single values by name, for every kind: null, false, true, int, long, double, date.
use Rattle.std.specs.Prelude.{◌≡◌, refl, List, [], ◌∷◌, ◌++◌, ℕ, ◌+◌, ◌≤◌, ◌<◌, min, length, take, drop}
use Rattle.std.proofs.Common.{◌∙◌, ap, subst, arith, length-drop, length-take-le}
use Rattle.std.proofs.Math.Option.{some}
use Rattle.std.proofs.Math.Seq.{drop-append_seam}
use Rattle.flow.specs.Flow.{Bytes, Entry, Done, One, items, byte_at}
use Rattle.flow.specs.Steps.{Answer}
use Rattle.flow.specs.Tests.{bytes_drop}
use Rattle.flow.specs.Laws.{Parsed, takes, quietly, Makes, byte_makes}
use Rattle.scalar.specs.declared.Sort.{Sort}
use Rattle.scalar.specs.Scalars.{Floats, forms_of, number_from, shortest}
use Rattle.scalar.specs.Grammar.{Number}
use Rattle.scalar.specs.Answers.{number_at}
use Rattle.scalar.proofs.NumberLaws.{number_scans, number_makes, NumberLed, number_some, shortest_is}
use Rattle.scalar.proofs.NumberLaws.{IsNumber, Shorter}
use Rattle.scalar.proofs.Sorts.{properly, none_shorter}

-- ---- reading and the grammar
-- what is read is a form of the value, and lies within the message
pub number_parsed : (s : Sort) (m : List ℕ) → Bytes m → (p n v : ℕ) (es : List (Entry One))
    → number_at s m p ≡ Done n v es tt → (n ≤ length (drop p m)) × Number (forms_of s) (take n (drop p m)) v
unfolding number_at
number_parsed s m b p n v es e =
    subst (λ (o : Answer ℕ). Parsed (λ w a is c. Number (forms_of s) w a) (drop p m) o) e
    (takes (λ w a is c. Number (forms_of s) w a) (number_from (forms_of s)) tt (min p (length m)) (drop p m)
    (bytes_drop p m b)
    (λ x t h k.
    quietly (λ w a. Number (forms_of s) (x ∷ w) a) (λ w a is c. Number (forms_of s) (x ∷ w) a) tt t (λ w a y. y)
    (number_from (forms_of s) (min p (length m)) x tt (min p (length m) + 1) t)
    (number_scans One Floats (forms_of s) (min p (length m)) x tt (min p (length m) + 1) t k)))

pub no_entries : (es : List (Entry One)) → items es ≡ [] → es ≡ []
no_entries [] e = refl
no_entries (x ∷ es) e = cc

-- and a form of the value is read as it, whatever stands before and after it
led : (s : Sort) (w : List ℕ) (v : ℕ) → NumberLed One (forms_of s) w v (tt {0})
    → Makes {I = One} (byte_at (number_from (forms_of s))) (tt {0}) w v [] (tt {0})
led s [] v h = absurd h
led s (b ∷ w) v h = byte_makes (number_from (forms_of s)) b h

pub number_derived : (s : Sort) (w : List ℕ) (v : ℕ) → Number (forms_of s) w v → (front tail : List ℕ)
    → number_at s (front ++ (w ++ tail)) (length front) ≡ Done (length w) v [] tt
unfolding number_at
number_derived s w v n front tail =
    let q =
    (led s w v (number_makes One n (properly s) tt)).makes
    (min (length front) (length (front ++ (w ++ tail)))) tail in
    rw (drop-append_seam front (w ++ tail))
    (q.1 ∙ ap (λ (es : List (Entry One)). Done (length w) v es tt) (no_entries q.0 q.2))

-- ---- (a) the shortest form reads back as the value, whatever stands before and after it
pub reads_back : (s : Sort) (v : ℕ) (w : List ℕ) → shortest (forms_of s) v ≡ some w → (front tail : List ℕ)
    → number_at s (front ++ (w ++ tail)) (length front) ≡ Done (length w) v [] tt
reads_back s v w e front tail =
    number_derived s w v (subst (IsNumber (forms_of s) v) e (shortest_is (forms_of s) v)) front tail

-- ---- (b) no bytes that read as the value are shorter
pub no_shorter : (s : Sort) (m : List ℕ) → Bytes m → (p n v : ℕ) (es : List (Entry One))
    → number_at s m p ≡ Done n v es tt → (w : List ℕ) × (shortest (forms_of s) v ≡ some w) × (length w ≤ n)
no_shorter s m b p n v es e =
    let q = number_parsed s m b p n v es e in
    subst (λ (k : ℕ). Shorter (forms_of s) v k) (length-take-le n (drop p m) q.0) (none_shorter s q.1)

-- ---- (c) what is read takes at least one byte, and lies within the message
pub within_message : (s : Sort) (m : List ℕ) → Bytes m → (p n v : ℕ) (es : List (Entry One))
    → number_at s m p ≡ Done n v es tt → (0 < n) × (p + n ≤ length m)
within_message s m b p n v es e =
    let q = number_parsed s m b p n v es e in
    let l = length-take-le n (drop p m) q.0 in
    let k = number_some q.1 in
    (omega arith, omega (arith, length-drop p m))

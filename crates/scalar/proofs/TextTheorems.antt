-- The laws of texts and byte strings by name, for both kinds.
use Rattle.std.specs.Prelude.{◌≡◌, List, [], ◌∷◌, ◌++◌, ℕ, ◌+◌, ◌≤◌, ◌<◌, min, length, take, drop}
use Rattle.std.proofs.Common.{◌∙◌, ap, subst, append_assoc, arith, length-drop, length-take-le, take-add}
use Rattle.std.proofs.Math.Option.{some}
use Rattle.std.proofs.Math.Seq.{drop-append_seam}
use Rattle.flow.specs.Flow.{Bytes, Entry, Done, One}
use Rattle.flow.specs.Steps.{Answer}
use Rattle.flow.specs.Tests.{bytes_drop}
use Rattle.flow.specs.Laws.{Parsed, takes, quietly, leads_byte}
use Rattle.scalar.specs.declared.Encoding.{Encoding}
use Rattle.scalar.proofs.NumberTheorems.{no_entries}
use Rattle.scalar.specs.Scalars.{string_from, string_at, shortest_string}
use Rattle.scalar.specs.Grammar.{String}
use Rattle.scalar.proofs.TextLaws.{string_scans, string_makes, string_some}
use Rattle.scalar.proofs.TextShort.{string_short, string_is, IsString}

-- ---- reading and the grammar
-- what is read is a string of the grammar, and lies within the message
pub string_parsed : (k : Encoding) (m : List ℕ) → Bytes m → (p n : ℕ) (cs : List ℕ) (es : List (Entry One))
    → string_at k m p ≡ Done n cs es tt → (n ≤ length (drop p m)) × String k (take n (drop p m)) cs
unfolding string_at
string_parsed k m b p n cs es e =
    subst (λ (o : Answer (List ℕ)). Parsed (λ w a is c. String k w a) (drop p m) o) e
    (takes (λ w a is c. String k w a) (string_from k) tt (min p (length m)) (drop p m) (bytes_drop p m b)
    (λ x t h i. quietly (λ w a. String k (x ∷ w) a) (λ w a is c. String k (x ∷ w) a) tt t (λ w a y. y)
    (string_from k (min p (length m)) x tt (min p (length m) + 1) t)
    (string_scans One k (min p (length m)) x tt (min p (length m) + 1) t i)))

-- and a string of the grammar is read as its content, whatever stands before and after it
pub string_derived : (k : Encoding) (w cs : List ℕ) → String k w cs → (front tail : List ℕ)
    → string_at k (front ++ (w ++ tail)) (length front) ≡ Done (length w) cs [] tt
unfolding string_at
string_derived k w cs x front tail =
    let q =
    (leads_byte (string_from k) w (string_makes One k x (tt {0}))).makes
    (min (length front) (length (front ++ (w ++ tail)))) tail in
    rw (drop-append_seam front (w ++ tail))
    (q.1 ∙ ap (λ (es : List (Entry One)). Done (length w) cs es tt) (no_entries q.0 q.2))

-- ---- (a) the shortest form of a content reads back as it, whatever stands before and after it
pub text_reads_back : (k : Encoding) (cs w : List ℕ) → shortest_string k cs ≡ some w → (front tail : List ℕ)
    → string_at k (front ++ (w ++ tail)) (length front) ≡ Done (length w) cs [] tt
text_reads_back k cs w e front tail = string_derived k w cs (subst (IsString k cs) e (string_is k cs)) front tail

module _ (k : Encoding) (m : List ℕ) (b : Bytes m) (p n : ℕ) (cs : List ℕ) (es : List (Entry One))
    (e : string_at k m p ≡ Done n cs es tt) where
  -- ---- (b) no chunks, of any number and size, that read as the content are shorter
  pub text_no_shorter : (w : List ℕ) × (shortest_string k cs ≡ some w) × (length w ≤ n)
  text_no_shorter =
      let q = string_parsed k m b p n cs es e in
      let z = string_short q.1 in
      (z.0, z.1, omega (arith, z.2, length-take-le n (drop p m) q.0))

  -- ---- (c) what is read takes at least one byte, and lies within the message
  pub text_within : (0 < n) × (p + n ≤ length m)
  text_within =
      let q = string_parsed k m b p n cs es e in
      let l = length-take-le n (drop p m) q.0 in
      let s = string_some q.1 in
      (omega arith, omega (arith, length-drop p m))

  -- ---- (d) the content and the sizes do not depend on what follows
  pub text_local : (tail : List ℕ) → string_at k (take (p + n) m ++ tail) p ≡ Done n cs [] tt
  text_local tail =
      let q = string_parsed k m b p n cs es e in
      let l = length-take-le n (drop p m) q.0 in
      let i = text_within in
      let f = length-take-le p m (omega arith) in
      rw (take-add p n m, append_assoc (take p m) (take n (drop p m)) tail)
      (subst (λ (j : ℕ). string_at k (take p m ++ (take n (drop p m) ++ tail)) j ≡ Done n cs [] tt) f
      (subst (λ (j : ℕ). string_at k (take p m ++ (take n (drop p m) ++ tail)) (length (take p m)) ≡ Done j cs [] tt) l
      (string_derived k (take n (drop p m)) cs q.1 (take p m) tail)))

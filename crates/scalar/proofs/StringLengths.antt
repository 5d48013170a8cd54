-- How many bytes the shortest form of a text or byte string takes: where its parts are cut, in one walk over what the
-- content's bytes weigh.
use Rattle.std.specs.Prelude.{◌≡◌, refl, List, [], ◌∷◌, ◌++◌, ℕ, zero, suc, ◌+◌, ◌-◌, ◌*◌, ◌≤◌, ◌<◌, ltb, length, get_or, take, drop}
use Rattle.std.proofs.Common.{sym, ◌∙◌, ap, arith, ltb→lt, nltb→le, length-append, take-append-drop, lt-ltb, le-ltb}
use Rattle.std.proofs.Math.Option.{Option, none, some}
use Rattle.flow.specs.Tests.{by_test, split}
use Rattle.scalar.specs.declared.Encoding.{Encoding}
use Rattle.scalar.specs.declared.Encoding.TheVariants.{Utf8, Binary}
use Rattle.scalar.specs.Scalars.{total, units, fitting, part_head, last_heads, shortest_head, spelled}
use Rattle.scalar.specs.Scalars.{longest_chunk, Form, form, shortest, shortest_string}
use Rattle.scalar.specs.declared.Rule.TheVariants.{Plain}
use Rattle.wire.specs.BigEndian.{high}
use Rattle.scalar.proofs.FormLaws.{head_codes, last_heads_law, shortest_none}
use Rattle.scalar.specs.Guesses.{guess}
use Rattle.scalar.specs.Answers.{length_of}
use Rattle.scalar.proofs.AnswerLaws.{length_some}
use Rattle.scalar.proofs.Greedy.{Chars}
use Rattle.scalar.specs.Grammar.{Char, one_byte, one_unit, below_halves, two_units}
use Rattle.scalar.specs.TextUnits.{weights}
use Rattle.scalar.proofs.TextUnits.{weights_chars, weights_append, Content, no_chars, more_chars}
use Rattle.scalar.proofs.TextUnits.{char_weighs}
use Rattle.scalar.proofs.TextShort.{longest_is, front_fits, rest_shorter, weights_drop, part_length}
use Rattle.scalar.proofs.TextShort.{shortest_spelled}
use Rattle.scalar.specs.StringLengths.{Parts, parts, parts_after}

-- ---- by the first weight: it fits, or it does not
module _ (n u w : ℕ) (ws : List ℕ) where
  parts_here : u + w ≤ 65535 → parts_after n u (w ∷ ws) ≡ parts_after n (u + w) ws
  parts_here h = rw (le-ltb 65535 (u + w) h)

  parts_next : 65535 < u + w → parts_after n u (w ∷ ws) ≡ parts_after (suc n) w ws
  parts_next h = rw (lt-ltb 65535 (u + w) h)

-- ---- the walk over lists joined is one walk after the other
pub parts_append : (n u : ℕ) (ws vs : List ℕ)
    → parts_after n u (ws ++ vs) ≡ parts_after (parts_after n u ws).cuts (parts_after n u ws).filled vs
parts_append n u [] vs = refl
parts_append n u (w ∷ ws) vs = split 65535 (u + w)
    (λ h. rw (lt-ltb 65535 (u + w) h) (parts_append (suc n) w ws vs))
    (λ h. rw (le-ltb 65535 (u + w) h) (parts_append n (u + w) ws vs))

-- ---- all fit the open part; the first fits no more, and all of them fit one part
pub parts_within : (n u : ℕ) (ws : List ℕ) → u + total ws ≤ 65535 → parts_after n u ws ≡ parts n (u + total ws)
parts_within n u [] h = ap (parts n) (omega arith)
parts_within n u (w ∷ ws) h =
    parts_here n u w ws (omega arith) ∙ parts_within n (u + w) ws (omega arith) ∙ ap (parts n) (omega arith)

pub parts_cut : (n u : ℕ) (ws : List ℕ) → 65535 < u + get_or ws 0 0 → u ≤ 65535 → total ws ≤ 65535
    → parts_after n u ws ≡ parts (suc n) (total ws)
parts_cut n u [] h i l = absurd (omega arith)
parts_cut n u (w ∷ ws) h i l = parts_next n u w ws h ∙ parts_within (suc n) w ws l

-- ---- the open part is no longer than the longest, and there are no more cuts than units
pub parts_few : (n u : ℕ) (ws : List ℕ) → Chars ws → u ≤ 65535 → (parts_after n u ws).filled ≤ 65535
parts_few n u [] c h = h
parts_few n u (w ∷ ws) c h = split 65535 (u + w)
    (λ i. rw (lt-ltb 65535 (u + w) i) (parts_few (suc n) w ws c.1 (omega (arith, c.0))))
    (λ i. rw (le-ltb 65535 (u + w) i) (parts_few n (u + w) ws c.1 i))

pub cuts_few : (n u : ℕ) (ws : List ℕ) → Chars ws → u ≤ 65535 → (parts_after n u ws).cuts ≤ n + total ws
cuts_few n u [] c h = omega arith
cuts_few n u (w ∷ ws) c h = split 65535 (u + w)
    (λ i. rw (lt-ltb 65535 (u + w) i) (omega (arith, cuts_few (suc n) w ws c.1 (omega (arith, c.0)))))
    (λ i. rw (le-ltb 65535 (u + w) i) (omega (arith, cuts_few n (u + w) ws c.1 i)))

-- ---- more than fit: the walk goes on after what fits, with an empty part
parts_full : (n u : ℕ) (ws : List ℕ) → Chars ws → u ≤ 65535 → 65535 < u + total ws
    → parts_after n u ws ≡ parts_after (suc n) 0 (drop (fitting (65535 - u) ws) ws)
parts_full n u [] c h l = absurd (omega arith)
parts_full n u (w ∷ ws) c h l = split 65535 (u + w)
    (λ i.
    let e : 0 + w ≡ w = omega arith in
    rw (lt-ltb (65535 - u) w (omega arith))
    (parts_next n u w ws i ∙ sym (parts_here (suc n) 0 w ws (omega (arith, c.0)) ∙ rw e refl)))
    (λ i.
    let e : 65535 - u - w ≡ 65535 - (u + w) = omega arith in
    rw (le-ltb (65535 - u) w (omega arith), e)
    (parts_here n u w ws i ∙ parts_full n (u + w) ws c.1 i (omega arith)))

-- ---- contents joined: the walk over the second goes on from where the first led
pub parts_on : (k : Encoding) (cs ds : List ℕ) (n u : ℕ) (x : Parts) → parts_after n u (weights k cs) ≡ x
    → parts_after n u (weights k (cs ++ ds)) ≡ parts_after x.cuts x.filled (weights k ds)
parts_on k cs ds n u x e =
    ap (parts_after n u) (weights_append k cs ds)
    ∙ parts_append n u (weights k cs) (weights k ds)
    ∙ ap (λ (y : Parts). parts_after y.cuts y.filled (weights k ds)) e

-- the first fits the open part; the second begins with a character that no longer does, and fits one part
pub parts_split : (k : Encoding) (cs ds : List ℕ) (n u : ℕ) → u + units k cs ≤ 65535
    → 65535 < u + units k cs + get_or (weights k ds) 0 0 → units k ds ≤ 65535
    → parts_after n u (weights k (cs ++ ds)) ≡ parts (suc n) (units k ds)
parts_split k cs ds n u h i l =
    parts_on k cs ds n u (parts n (u + units k cs)) (parts_within n u (weights k cs) h)
    ∙ parts_cut n (u + units k cs) (weights k ds) i h l

-- a content's first byte weighs
char_some : {k : Encoding} {u : ℕ} {w : List ℕ} → Char k u w → 0 < u
char_some (one_byte l) = omega arith
char_some (one_unit e x) = omega arith
char_some (below_halves e x) = omega arith
char_some (two_units e x) = omega arith

pub content_first : {k : Encoding} {n : ℕ} {cs : List ℕ} → Content k n cs → 0 < n → 0 < get_or (weights k cs) 0 0
content_first no_chars l = absurd (omega arith)
content_first {k} (more_chars {w = w} {v = v} x r) l =
    let z = char_weighs x in
    rw (weights_append k w v, z.weighs) (char_some x)

-- ---- the length of the shortest form: the content, three bytes for each cut, the head of the open part, which is last
abbrev pub form_length : Encoding → ℕ → Parts → ℕ
form_length k b x = b + 3 * x.cuts + length (shortest_head (last_heads k) x.filled)

spelled_length : (k : Encoding) (f n : ℕ) (cs : List ℕ) → length cs < f
    → length (spelled k f cs) + 3 * n ≡ form_length k (length cs) (parts_after n 0 (weights k cs))
spelled_length k zero n cs l = absurd (omega arith)
spelled_length k (suc f) n cs l =
    by_test (λ (w : List ℕ). length w + 3 * n ≡ form_length k (length cs) (parts_after n 0 (weights k cs)))
    (ltb longest_chunk (units k cs))
    (λ t. long (rw longest_is at (ltb→lt longest_chunk (units k cs) t)) (λ ds i. spelled_length k f (suc n) ds i))
    (λ t. short (rw longest_is at (nltb→le longest_chunk (units k cs) t)))
  where
    long : 65535 < units k cs
        → ((ds : List ℕ) → length ds < f
        → length (spelled k f ds) + 3 * suc n ≡ form_length k (length ds) (parts_after (suc n) 0 (weights k ds)))
        → length
        (shortest_head (part_head k ∷ []) (units k (take (fitting longest_chunk (weights k cs)) cs)) ++
        (take (fitting longest_chunk (weights k cs)) cs ++ spelled k f (drop (fitting longest_chunk (weights k cs)) cs)))
        + 3 * n
        ≡ form_length k (length cs) (parts_after n 0 (weights k cs))
    long h ih =
        let j = fitting longest_chunk (weights k cs) in
        let front : List ℕ = take j cs in
        let behind : List ℕ = drop j cs in
        let head : List ℕ = shortest_head (part_head k ∷ []) (units k front) in
        let a = length-append head (front ++ spelled k f behind) in
        let b = length-append front (spelled k f behind) in
        let d = sym (length-append front behind) ∙ ap length (take-append-drop j cs) in
        let p : parts_after n 0 (weights k cs) ≡ parts_after (suc n) 0 (weights k behind) =
        parts_full n 0 (weights k cs) (weights_chars k cs) (omega arith) (omega arith)
        ∙ rw (longest_is, weights_drop) refl in
        let three = part_length k (units k front) (front_fits k cs h) in
        rw p (omega (arith, ih behind (rest_shorter k cs h f l)))

    short : units k cs ≤ 65535
        → length (shortest_head (last_heads k) (units k cs) ++ cs) + 3 * n
        ≡ form_length k (length cs) (parts_after n 0 (weights k cs))
    short h =
        let e : 0 + units k cs ≡ units k cs = omega arith in
        let p : parts_after n 0 (weights k cs) ≡ parts n (units k cs) =
        parts_within n 0 (weights k cs) (omega arith) ∙ ap (parts n) e in
        rw p (omega (arith, length-append (shortest_head (last_heads k) (units k cs)) cs))

-- of a content, which has a shortest form
pub shortest_length_law : (k : Encoding) (cs w : List ℕ) → shortest_string k cs ≡ some w
    → length_of (shortest_string k cs) ≡ form_length k (length cs) (parts_after 0 0 (weights k cs))
shortest_length_law k cs w e =
    let s = spelled_length k (suc (length cs)) 0 cs (omega arith) in
    ap length_of e ∙ length_some w ∙ ap length (shortest_spelled k cs w e) ∙ omega arith

-- ---- a last chunk of more units than the longest has no head
skip_form : (h c e n : ℕ) (ws : List Form) → c ≤ high e n → shortest (form h c e Plain ∷ ws) n ≡ shortest ws n
unfolding shortest guess
skip_form h c e n ws l = rw (le-ltb (high e n) c l) refl

pub last_none : (k : Encoding) (n : ℕ) → 65535 < n → length (shortest_head (last_heads k) n) ≡ 0
last_none k n l = ap (λ (o : Option (List ℕ)). length {A = ℕ} (elim o [ none ↦ [] | some w ↦ w ]))
    (ap (λ (ws : List Form). shortest ws n) (last_heads_law k)
    ∙ skip_form _ _ 0 n _ (few k)
    ∙ skip_form _ 4 1 n _ (omega arith)
    ∙ skip_form _ 1 2 n [] (omega arith)
    ∙ shortest_none n)
  where
    few : (k : Encoding) → (head_codes k).few ≤ n
    few Utf8 = omega arith
    few Binary = omega arith

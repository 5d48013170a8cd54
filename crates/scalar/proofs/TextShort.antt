-- Texts and byte strings: no form is shorter than the spelling, and the spelling is a form.
use Rattle.std.specs.Prelude.{◌≡◌, refl, Bool, true, false, cond, List, [], ◌∷◌, ◌++◌, ℕ, zero, suc, ◌+◌, ◌-◌, ◌≤◌, ◌<◌, min, T, ltb, length, take, drop}
use Rattle.std.proofs.Common.{sym, ◌∙◌, ap, append_assoc, append-nil, arith, ltb→lt, nltb→le, lt→ltb, length-append, length-drop, take-append-drop}
use Rattle.std.proofs.Math.Option.{Option, none, some}
use Rattle.std.proofs.Math.Pow.{are_bytes}
use Rattle.std.proofs.lemmas.List.{length-map}
use Rattle.std.proofs.Math.Seq.{take-append_seam, drop-append_seam}
use Rattle.flow.specs.Tests.{by_test, pass, skip, tests, split, and_left, and_right, and_both, same_refl, same_eq}
use Rattle.flow.specs.Flow.{Bytes, One, Done, Fault}
use Rattle.flow.specs.Steps.{Answer}
use Rattle.flow.specs.Laws.{Parsed, quiet}
use Rattle.wire.specs.BigEndian.{high}
use Rattle.scalar.specs.declared.Rule.TheVariants.{Plain}
use Rattle.scalar.specs.declared.Encoding.{Encoding}
use Rattle.scalar.specs.declared.Encoding.TheVariants.{Utf8, Binary}
use Rattle.scalar.specs.Scalars.{value, Form, form, shortest, part_head, last_heads, weight, units, body}
use Rattle.scalar.specs.Scalars.{longest_chunk, fitting, shortest_head, spelled, reads_as, content, shortest_string}
use Rattle.scalar.specs.Grammar.{Held, Number, here, later, String, last_chunk, chunk_before}
use Rattle.scalar.specs.Guesses.{guess}
use Rattle.scalar.proofs.NumberLaws.{number_fact, Sane, Sanes, number_short, shortest_is, IsNumber}
use Rattle.scalar.proofs.NumberLaws.{held_by, spelling_length}
use Rattle.scalar.specs.TextUnits.{weights}
use Rattle.scalar.proofs.TextUnits.{weights_chars, weights_append}
use Rattle.scalar.proofs.TextUnits.{Content, no_chars, more_chars, content_units, content_counted, content_bytes}
use Rattle.scalar.proofs.TextUnits.{content_body, content_cut, body_content, body_units, body_length}
use Rattle.scalar.proofs.TextLaws.{body_read, body_make, Whole}
use Rattle.scalar.proofs.Greedy.{best, chunk_more, shorter, span_fits}
use Rattle.scalar.specs.TextShort.{short_to}

abbrev pub or_empty : Option (List ℕ) → List ℕ
or_empty o = elim o [ none ↦ [] | some w ↦ w ]

-- ---- heads: the last chunk's takes one byte up to `short_to` units, two up to 1,023, three up to 65,535; another's
-- takes three
abbrev pub last : Encoding → ℕ → ℕ
last k n = 1 + min 1 (n - short_to k) + min 1 (n - 1023)

last_grows : (k : Encoding) (m n : ℕ) → m ≤ n → last k m ≤ last k n
last_grows k m n h =
    sum (min 1 (m - short_to k)) (min 1 (n - short_to k)) (min 1 (m - 1023)) (min 1 (n - 1023)) (part (short_to k))
    (part 1023)
  where
    part : (c : ℕ) → min 1 (m - c) ≤ min 1 (n - c)
    part c = omega arith

    sum : (a b c d : ℕ) → a ≤ b → c ≤ d → 1 + a + c ≤ 1 + b + d
    sum a b c d p q = omega arith

last_three : (k : Encoding) (n : ℕ) → n ≤ 65535 → last k n ≤ 3
last_three k n h = omega arith

-- a head of j bytes counts n
abbrev LastFact : Encoding → ℕ → ℕ → Type 0
LastFact k j n = (n ≤ 65535) × (last k n ≤ j)

abbrev PartFact : ℕ → ℕ → Type 0
PartFact j n = (n ≤ 65535) × (3 ≤ j)

last_head : (k : Encoding) {h : List ℕ} {n : ℕ} → Number (last_heads k) h n → LastFact k (length h) n
unfolding last_heads value
last_head Binary y = number_fact (LastFact Binary) y (omega arith, (omega arith, (omega arith, tt)))
last_head Utf8 y = number_fact (LastFact Utf8) y (omega arith, (omega arith, (omega arith, tt)))

part_head_law : (k : Encoding) {h : List ℕ} {n : ℕ} → Number (part_head k ∷ []) h n → PartFact (length h) n
unfolding part_head value
part_head_law Binary y = number_fact PartFact y (omega arith, tt)
part_head_law Utf8 y = number_fact PartFact y (omega arith, tt)

plain_sane : (head codes extra : ℕ) → Sane (form head codes extra Plain)
unfolding guess value
plain_sane head codes extra u l = refl

last_sane : (k : Encoding) → Sanes 0 (last_heads k)
unfolding last_heads
last_sane Binary =
    (omega arith, plain_sane 0x20 16 0, (omega arith, plain_sane 0x34 4 1, (omega arith, plain_sane 0x42 1 2, tt)))
last_sane Utf8 =
    (omega arith, plain_sane 0x00 32 0, (omega arith, plain_sane 0x30 4 1, (omega arith, plain_sane 0x53 1 2, tt)))

part_sane : (k : Encoding) → Sanes 0 (part_head k ∷ [])
unfolding part_head
part_sane Binary = (omega arith, plain_sane 0x41 1 2, tt)
part_sane Utf8 = (omega arith, plain_sane 0x52 1 2, tt)

-- some head counts n in so many bytes
abbrev SomeHead : List Form → ℕ → ℕ → Type 0
SomeHead ws n j = (h : List ℕ) × Number ws h n × (length h ≤ j)

plain_head : (head codes extra n : ℕ) → high extra n < codes → SomeHead (form head codes extra Plain ∷ []) n (suc extra)
unfolding value
plain_head head codes extra n l = (
  _,
  here (held_by (form head codes extra Plain) n l),
  omega (arith, spelling_length (form head codes extra Plain) n),
)

-- of three heads in a row, the first that counts n
three_heads : (a b c m few n : ℕ) → n ≤ 65535 → suc few ≡ m
    → SomeHead (form a m 0 Plain ∷ form b 4 1 Plain ∷ form c 1 2 Plain ∷ []) n (1 + min 1 (n - few) + min 1 (n - 1023))
three_heads a b c m few n l e = split n m
    (λ h. let x = plain_head a m 0 n h in (x.0, here (only x), omega (arith, x.2)))
    (λ h. split n 1024
    (λ h₁. let x = plain_head b 4 1 n (omega arith) in (x.0, later (here (only x)), omega (arith, x.2)))
    (λ h₁. let x = plain_head c 1 2 n (omega arith) in (x.0, later (later (here (only x))), omega (arith, x.2))))
  where
    only : {w : Form} {j : ℕ} → (x : SomeHead (w ∷ []) n j) → Held w x.0 n
    only x = held_of x.1
      where
        held_of : {w : Form} {h : List ℕ} → Number (w ∷ []) h n → Held w h n
        held_of (here y) = y
        held_of {h = h} (later x6) = elim x6 [ ]

last_some : (k : Encoding) (n : ℕ) → n ≤ 65535 → SomeHead (last_heads k) n (last k n)
unfolding last_heads
last_some Binary n l = three_heads 0x20 0x34 0x42 16 15 n l refl
last_some Utf8 n l = three_heads 0x00 0x30 0x53 32 31 n l refl

part_some : (k : Encoding) (n : ℕ) → n ≤ 65535 → SomeHead (part_head k ∷ []) n 3
unfolding part_head
part_some Binary n l = plain_head 0x41 1 2 n (omega arith)
part_some Utf8 n l = plain_head 0x52 1 2 n (omega arith)

-- so the shortest head is one, and no longer
head_is : (ws : List Form) (n j : ℕ) → Sanes 0 ws → SomeHead ws n j
    → Number ws (shortest_head ws n) n × (length (shortest_head ws n) ≤ j)
head_is ws n j s y = go (shortest ws n) (shortest_is ws n) (number_short 0 y.1 s)
  where
    go : (o : Option (List ℕ)) → IsNumber ws n o → (b : List ℕ) × (o ≡ some b) × (length b ≤ length y.0)
        → Number ws (or_empty o) n × (length (or_empty o) ≤ j)
    go none h z = let e = z.1 in absurd (let q : ◌≡◌ {A = ℕ} 0 1 = cc in omega arith)
    go (some w) h z = let e : w ≡ z.0 = cc z.1 in (h, omega (arith, ap length e, y.2))

pub part_length : (k : Encoding) (n : ℕ) → n ≤ 65535 → length (shortest_head (part_head k ∷ []) n) ≡ 3
part_length k n l =
    let h = head_is (part_head k ∷ []) n 3 (part_sane k) (part_some k n l) in omega (arith, h.1, (part_head_law k h.0).1)

pub short_few : (k : Encoding) → short_to k ≤ 31
short_few Binary = omega arith
short_few Utf8 = omega arith

pub last_length : (k : Encoding) (n : ℕ) → n ≤ 65535 → length (shortest_head (last_heads k) n) ≡ last k n
last_length k n l =
    let h = head_is (last_heads k) n (last k n) (last_sane k) (last_some k n l) in
    omega (arith, h.1, (last_head k h.0).1)

-- ---- no form is shorter: a content's price is no more than what any form's heads take
abbrev price : Encoding → ℕ → List ℕ → ℕ
price k f cs = best 65535 (last k) f (weights k cs)

last_price : (k : Encoding) (f : ℕ) (cs : List ℕ) → length cs < f → units k cs ≤ 65535
    → price k f cs ≡ last k (units k cs)
last_price k zero cs l h = absurd (omega arith)
last_price k (suc f) cs l h = skip (ltb 65535 (units k cs)) _ _ (omega (arith, tests)) refl

part_price : (k : Encoding) (f : ℕ) (cs ds : List ℕ) → length (cs ++ ds) < f → units k cs ≤ 65535
    → price k f (cs ++ ds) ≤ 3 + price k f ds
part_price k f cs ds l h =
    rw e at
    (chunk_more 65535 (omega arith) (last k) (last_grows k) (last_three k) f (weights k (cs ++ ds))
    (weights_chars k (cs ++ ds)) (rw length-map l) (length (weights k cs))
    (rw (weights_append, length-append) (omega arith)) (rw (weights_append, take-append_seam) h))
  where
    e : drop (length (weights k cs)) (weights k (cs ++ ds)) ≡ weights k ds
    e = rw (weights_append, drop-append_seam) refl

string_priced : {k : Encoding} {w cs : List ℕ} → String k w cs → (f : ℕ) → length cs < f
    → price k f cs + length cs ≤ length w
string_priced {k} (last_chunk {n = n} {h = h} {w = w} {cs = cs} y r) f l =
    let p = last_head k y in
    let e = body_units r in
    rw (last_price k f cs l (omega arith), e) (omega (arith, length-append h w, body_length r))
string_priced {k} (chunk_before {n = n} {h = h} {w = w} {cs = cs} {v = v} {ds = ds} y r x) f l =
    let p = part_head_law k y in
    let e = body_units r in
    let q = string_priced x f (omega (arith, length-append cs ds)) in
    let m = part_price k f cs ds l (omega arith) in
    omega (arith, length-append h (w ++ v), length-append w v, length-append cs ds, body_length r)

-- ---- the spelling: its length, and that it is a form
pub longest_is : longest_chunk ≡ 65535
unfolding longest_chunk
longest_is = refl

pub weights_drop : (k : Encoding) (n : ℕ) (cs : List ℕ) → weights k (drop n cs) ≡ drop n (weights k cs)
weights_drop k zero cs = refl
weights_drop k (suc n) [] = refl
weights_drop k (suc n) (b ∷ cs) = weights_drop k n cs

weights_take : (k : Encoding) (n : ℕ) (cs : List ℕ) → weights k (take n cs) ≡ take n (weights k cs)
weights_take k zero cs = refl
weights_take k (suc n) [] = refl
weights_take k (suc n) (b ∷ cs) = ap {B = List ℕ} (λ z. weight k b ∷ z) (weights_take k n cs)

-- a content longer than a chunk: its first chunk fits, and what is after is shorter
module _ (k : Encoding) (cs : List ℕ) (h : 65535 < units k cs) where
  pub front_fits : units k (take (fitting longest_chunk (weights k cs)) cs) ≤ 65535
  front_fits = rw (weights_take, longest_is) (span_fits 65535 (weights k cs)).1

  pub rest_shorter : (f : ℕ) → length cs < suc f → length (drop (fitting longest_chunk (weights k cs)) cs) < f
  rest_shorter f l = rw (longest_is, length-drop) (simp (length-drop, length-map) at
      (shorter 65535 (omega arith) (last k) (last_grows k) (last_three k) (weights k cs) (weights_chars k cs) h f
      (rw length-map l)))

  long_price : (f : ℕ) → price k (suc f) cs ≡ 3 + price k f (drop (fitting longest_chunk (weights k cs)) cs)
  long_price f = pass (ltb 65535 (units k cs)) _ _ (omega (arith, tests)) (rw (longest_is, weights_drop) refl)

abbrev Spelt : Encoding → ℕ → List ℕ → List ℕ → Type 0
Spelt k f cs w = String k w cs × (length w ≤ price k f cs + length cs)

spelled_is : (k : Encoding) (f : ℕ) {n : ℕ} {cs : List ℕ} → Content k n cs → length cs < f
    → Spelt k f cs (spelled k f cs)
spelled_is k zero r l = absurd (omega arith)
spelled_is k (suc f) {n} {cs} r l = by_test (Spelt k (suc f) cs) (ltb longest_chunk (units k cs))
    (λ t. long (rw longest_is at (ltb→lt longest_chunk (units k cs) t)) (λ m ds x i. spelled_is k f x i))
    (λ t. short (rw longest_is at (nltb→le longest_chunk (units k cs) t)))
  where
    long : 65535 < units k cs → ((m : ℕ) (ds : List ℕ) → Content k m ds → length ds < f → Spelt k f ds (spelled k f ds))
        → Spelt k (suc f) cs
        (shortest_head (part_head k ∷ []) (units k (take (fitting longest_chunk (weights k cs)) cs)) ++
        (take (fitting longest_chunk (weights k cs)) cs ++ spelled k f (drop (fitting longest_chunk (weights k cs)) cs)))
    long h ih =
        let j = fitting longest_chunk (weights k cs) in
        let c = content_cut r longest_chunk in
        let a =
        head_is (part_head k ∷ []) (units k (take (fitting longest_chunk (weights k cs)) cs)) 3 (part_sane k)
        (part_some k (units k (take (fitting longest_chunk (weights k cs)) cs)) (front_fits k cs h)) in
        let z =
        ih (units k (drop (fitting longest_chunk (weights k cs)) cs)) (drop (fitting longest_chunk (weights k cs)) cs)
        c.1
        (rest_shorter k cs h f l) in
        let e = take-append-drop (fitting longest_chunk (weights k cs)) cs in (
          rw e at (chunk_before a.0 (content_body c.0) z.0),
          rw (long_price k cs h f, length-append, length-append)
              (omega (
                arith,
                a.1,
                z.1,
                sym (length-append (take (fitting longest_chunk (weights k cs)) cs)
                    (drop (fitting longest_chunk (weights k cs)) cs))
                    ∙ ap length e,
              )),
        )

    short : units k cs ≤ 65535 → Spelt k (suc f) cs (shortest_head (last_heads k) (units k cs) ++ cs)
    short h =
        let a = head_is (last_heads k) (units k cs) (last k (units k cs)) (last_sane k) (last_some k (units k cs) h) in
        let p = last_price k (suc f) cs l h in
        (last_chunk a.0 (content_body (content_counted r)), rw (p, length-append) (omega (arith, a.1)))

-- ---- contents
content_append : {k : Encoding} {n m : ℕ} {cs ds : List ℕ} → Content k n cs → Content k m ds
    → Content k (units k (cs ++ ds)) (cs ++ ds)
content_append no_chars r = content_counted r
content_append {ds = ds} (more_chars {w = w} {v = v} x q) r =
    rw (append_assoc w v ds) (content_counted (more_chars x (content_append q r)))

-- what a string holds is a content
string_content : {k : Encoding} {w cs : List ℕ} → String k w cs → Content k (units k cs) cs
string_content (last_chunk y r) = content_counted (body_content r)
string_content (chunk_before y r x) = content_append (body_content r) (string_content x)

bytes_test : (cs : List ℕ) → Bytes cs → T (are_bytes cs)
bytes_test [] h = tt
bytes_test (b ∷ cs) h = and_both (ltb b 256) (are_bytes cs) (lt→ltb b 256 h.0) (bytes_test cs h.1)

bytes_are : (cs : List ℕ) → T (are_bytes cs) → Bytes cs
bytes_are [] h = tt
bytes_are (b ∷ cs) h =
    (ltb→lt b 256 (and_left (ltb b 256) (are_bytes cs) h), bytes_are cs (and_right (ltb b 256) (are_bytes cs) h))

-- `content` accepts exactly characters as they are
pub content_passes : {k : Encoding} {n : ℕ} {cs : List ℕ} → Content k n cs → T (content k cs)
unfolding content
content_passes {k} {n} {cs} r =
    let q = (body_make One k (content_body r) (tt {0})).makes 0 [] in
    let e : body k n tt 0 cs ≡ Done (length cs) cs q.0 tt = rw append-nil at q.1 in
    and_both (are_bytes cs) (reads_as cs (body k (units k cs) tt 0 cs)) (bytes_test cs (content_bytes r))
    (rw (content_units r, e) (same_refl cs))

pub content_is : (k : Encoding) (cs : List ℕ) → T (content k cs) → Content k (units k cs) cs
unfolding content
content_is k cs t =
    let o = body {I = One} k (units k cs) (tt {0}) 0 cs in
    let b = bytes_are cs (and_left (are_bytes cs) (reads_as cs o) t) in
    go o (body_read One k (units k cs) (tt {0}) 0 cs b) (and_right (are_bytes cs) (reads_as cs o) t)
  where
    holds : {w ds : List ℕ} {is : List One} {c : One} → Whole One k (units k cs) (tt {0}) w ds is c → ds ≡ cs
        → Content k (units k cs) cs
    holds (quiet x) e = rw e at (body_content x)

    go : (o : Answer (List ℕ)) → Parsed {I = One} (Whole One k (units k cs) (tt {0})) cs o → T (reads_as cs o)
        → Content k (units k cs) cs
    go (Done m ds es c) p t = holds p.1 (same_eq ds cs t)
    go (Fault x o) p t = absurd t

-- ---- no form of a text or byte string is shorter than its spelling, and the spelling is a form
pub string_short : {k : Encoding} {w cs : List ℕ} → String k w cs
    → (b : List ℕ) × (shortest_string k cs ≡ some b) × (length b ≤ length w)
unfolding shortest_string
string_short {k} {w} {cs} x =
    let r = string_content x in
    let z = spelled_is k (suc (length cs)) r (omega arith) in
    let l = string_priced x (suc (length cs)) (omega arith) in
    (spelled k (suc (length cs)) cs, pass (content k cs) _ _ (content_passes r) refl, omega (arith, z.1))

abbrev pub IsString : Encoding → List ℕ → Option (List ℕ) → Type 0
IsString k cs none = Unit {0}
IsString k cs (some w) = String k w cs

pub string_is : (k : Encoding) (cs : List ℕ) → IsString k cs (shortest_string k cs)
unfolding shortest_string
string_is k cs = by_test (IsString k cs) (content k cs)
    (λ t. (spelled_is k (suc (length cs)) (content_is k cs t) (omega arith)).0) (λ t. tt)

-- where there is a shortest form, it is the one spelled
pub shortest_spelled : (k : Encoding) (cs w : List ℕ) → shortest_string k cs ≡ some w
    → w ≡ spelled k (suc (length cs)) cs
unfolding shortest_string
shortest_spelled k cs w = go (content k cs) (spelled k (suc (length cs)) cs)
  where
    go : (t : Bool) (v : List ℕ) → cond t (some v) none ≡ some w → w ≡ v
    go true v e = cc
    go false v e = cc

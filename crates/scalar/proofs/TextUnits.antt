-- Characters and their units, contents, and where a content may be cut.
use Rattle.std.specs.Prelude.{◌≡◌, refl, cond, false, List, [], ◌∷◌, ◌++◌, ℕ, suc, ◌+◌, ◌-◌, ◌≤◌, ◌<◌, ltb, length, get_or, take, drop}
use Rattle.std.proofs.Common.{◌∙◌, ap, arith, lt-ltb, le-ltb, length-append}
use Rattle.std.proofs.Math.Seq.{take-append-add, drop-append-add}
use Rattle.flow.specs.Tests.{by_test, within_yes, within_below, within_above, bytes_append}
use Rattle.flow.specs.Flow.{within, Bytes}
use Rattle.scalar.specs.declared.Encoding.{Encoding}
use Rattle.scalar.specs.declared.Encoding.TheVariants.{Utf8, Binary}
use Rattle.scalar.specs.Scalars.{weight, total, units, fitting}
use Rattle.scalar.specs.Grammar.{Continued, no_more, follows, Char, one_byte, one_unit, below_halves, two_units}
use Rattle.scalar.specs.Grammar.{Sent, as_it_is, as_a_pair, Body, empty, with_char}
use Rattle.scalar.proofs.CharLeads.{says}
use Rattle.scalar.proofs.Pairs.{pair_char, paired_length}
use Rattle.scalar.proofs.Greedy.{Chars}
use Rattle.scalar.specs.TextUnits.{weights}

-- ---- what a byte of a text weighs
pub light : (b : ℕ) → 0x80 ≤ b → b < 0xc0 → weight Utf8 b ≡ 0
light b h k = rw (within_yes 0x80 0xc0 b h k)

single : (b : ℕ) → within 0x80 0xc0 b ≡ false → b < 0xf0 → weight Utf8 b ≡ 1
single b e h = rw (e, lt-ltb b 0xf0 h)

pub single_low : (b : ℕ) → b < 0x80 → weight Utf8 b ≡ 1
single_low b h = single b (within_below 0x80 0xc0 b h) (omega arith)

pub single_high : (b : ℕ) → 0xc0 ≤ b → b < 0xf0 → weight Utf8 b ≡ 1
single_high b h k = single b (within_above 0x80 0xc0 b h) k

pub double : (b : ℕ) → 0xf0 ≤ b → weight Utf8 b ≡ 2
double b h = rw (within_above 0x80 0xc0 b (omega arith), le-ltb b 0xf0 h)

pub weight_few : (k : Encoding) (b : ℕ) → weight k b ≤ 2
weight_few Binary b = omega arith
weight_few Utf8 b =
    by_test (λ (n : ℕ). n ≤ 2) (within 0x80 0xc0 b) (λ t. omega arith)
    (λ t. by_test (λ (n : ℕ). n ≤ 2) (ltb b 0xf0) (λ t. omega arith) (λ t. omega arith))

pub weights_chars : (k : Encoding) (cs : List ℕ) → Chars (weights k cs)
weights_chars k [] = tt
weights_chars k (b ∷ cs) = (weight_few k b, weights_chars k cs)

-- bytes that weigh one each
pub singles : (k : Encoding) (cs : List ℕ) → ((i : ℕ) → i < length cs → weight k (get_or cs i 0) ≡ 1)
    → units k cs ≡ length cs
singles k [] h = refl
singles k (b ∷ cs) h = omega (arith, h 0 (omega arith), singles k cs (λ i l. h (suc i) (omega arith)))

-- ---- a character's bytes after the first are bytes, and weigh nothing
abbrev Nothing : List ℕ → Type 0
Nothing [] = Unit {0}
Nothing (u ∷ us) = (u ≡ 0) × Nothing us

continued_is : {n lo hi : ℕ} {cs : List ℕ} → hi ≤ 0xc0 → (0 < n → 0x80 ≤ lo) → Continued n lo hi cs
    → Bytes cs × Nothing (weights Utf8 cs)
continued_is l m no_more = (tt, tt)
continued_is l m (follows {b = b} p q r) =
    let z = continued_is (omega arith) (λ h. omega arith) r in
    let low = m (omega arith) in
    ((omega arith, z.0), (light b (omega arith) (omega arith), z.1))

-- a character: its first byte weighs its units, the others nothing
pub record Weighs (k : Encoding) (u : ℕ) (w : List ℕ) : Type 0 where
  pub rest : List ℕ
  pub weighs : weights k w ≡ u ∷ rest
  pub nothing : Nothing rest
  pub bytes : Bytes w

led_weighs : {n lo hi : ℕ} {cs : List ℕ} (u b : ℕ) → b < 256 → weight Utf8 b ≡ u → hi ≤ 0xc0 → (0 < n → 0x80 ≤ lo)
    → Continued n lo hi cs → Weighs Utf8 u (b ∷ cs)
led_weighs {cs = cs} u b l e h i x =
    let z = continued_is h i x in
    let f = ap {B = List ℕ} (λ v. v ∷ weights Utf8 cs) e in
    record { rest = weights Utf8 cs; weighs = f; nothing = z.1; bytes = (l, z.0) }

pub char_weighs : {k : Encoding} {u : ℕ} {w : List ℕ} → Char k u w → Weighs k u w
char_weighs (one_byte {b = b} l) = record { rest = []; weighs = refl; nothing = tt; bytes = (l, tt) }
char_weighs (one_unit {b = b} e x) =
    let f = rw e at (says b) in led_weighs 1 b (omega arith) (single b f.0 f.1.0) f.1.3 f.1.2 x
char_weighs (below_halves {b = b} e x) =
    let f = rw e at (says b) in
    led_weighs 1 b (omega arith) (single_high b (omega arith) (omega arith)) (omega arith) (λ h. omega arith) x
char_weighs (two_units {b = b} e x) =
    let f = rw e at (says b) in led_weighs 2 b (omega arith) (double b f.0) f.3 (λ h. f.2) x

-- ---- units of contents joined
pub weights_append : (k : Encoding) (cs ds : List ℕ) → weights k (cs ++ ds) ≡ weights k cs ++ weights k ds
weights_append k [] ds = refl
weights_append k (b ∷ cs) ds = ap {B = List ℕ} (λ us. weight k b ∷ us) (weights_append k cs ds)

pub total_append : (us vs : List ℕ) → total (us ++ vs) ≡ total us + total vs
total_append [] vs = omega arith
total_append (u ∷ us) vs = omega (arith, total_append us vs)

pub units_append : (k : Encoding) (cs ds : List ℕ) → units k (cs ++ ds) ≡ units k cs + units k ds
units_append k cs ds = ap total (weights_append k cs ds) ∙ total_append (weights k cs) (weights k ds)

nothing_total : (us : List ℕ) → Nothing us → total us ≡ 0
nothing_total [] n = refl
nothing_total (u ∷ us) n = omega (arith, n.0, nothing_total us n.1)

pub char_units : {k : Encoding} {u : ℕ} {w : List ℕ} → Char k u w → units k w ≡ u
char_units {u = u} x =
    let z = char_weighs x in ap total z.weighs ∙ omega (arith, nothing_total z.rest z.nothing)

-- ---- a content: characters as they are, of so many units
pub data Content (k : Encoding) : ℕ → List ℕ → Type 0 where
  no_chars : Content k 0 []
  more_chars : {u n : ℕ} {w v : List ℕ} → Char k u w → Content k n v → Content k (u + n) (w ++ v)

pub content_units : {k : Encoding} {n : ℕ} {cs : List ℕ} → Content k n cs → units k cs ≡ n
content_units no_chars = refl
content_units {k} (more_chars {w = w} {v = v} x r) = units_append k w v ∙ omega (arith, char_units x, content_units r)

pub content_counted : {k : Encoding} {n : ℕ} {cs : List ℕ} → Content k n cs → Content k (units k cs) cs
content_counted r = rw (content_units r) r

pub content_bytes : {k : Encoding} {n : ℕ} {cs : List ℕ} → Content k n cs → Bytes cs
content_bytes no_chars = tt
content_bytes (more_chars {w = w} {v = v} x r) = bytes_append w v (char_weighs x).bytes (content_bytes r)

-- what a character or a body is in a content; and a content is a body as it is
sent_char : {k : Encoding} {u : ℕ} {w cs : List ℕ} → Sent k u w cs → Char k u cs
sent_char (as_it_is x) = x
sent_char (as_a_pair {d = d} {x = x} {y = y} {z = z} h l) =
    pair_char (record { d = d; x = x; y = y; z = z; high = h; low = l; is = refl })

pub body_content : {k : Encoding} {n : ℕ} {w cs : List ℕ} → Body k n w cs → Content k n cs
body_content empty = no_chars
body_content (with_char x r) = more_chars (sent_char x) (body_content r)

pub content_body : {k : Encoding} {n : ℕ} {cs : List ℕ} → Content k n cs → Body k n cs cs
content_body no_chars = empty
content_body (more_chars x r) = with_char (as_it_is x) (content_body r)

pub body_units : {k : Encoding} {n : ℕ} {w cs : List ℕ} → Body k n w cs → units k cs ≡ n
body_units r = content_units (body_content r)

-- a body is bytes, and its content is no longer
sent_bytes : {k : Encoding} {u : ℕ} {w cs : List ℕ} → Sent k u w cs → Bytes w
sent_bytes (as_it_is x) = (char_weighs x).bytes
sent_bytes (as_a_pair h l) =
    (omega arith, (omega arith, (omega arith, (omega arith, (omega arith, (omega arith, tt))))))

sent_length : {k : Encoding} {u : ℕ} {w cs : List ℕ} → Sent k u w cs → length cs ≤ length w
sent_length (as_it_is x) = omega arith
sent_length (as_a_pair {d = d} {x = x} {y = y} {z = z} h l) = omega (arith, paired_length d x y z)

pub body_bytes : {k : Encoding} {n : ℕ} {w cs : List ℕ} → Body k n w cs → Bytes w
body_bytes empty = tt
body_bytes (with_char {w = w} {v = v} x r) = bytes_append w v (sent_bytes x) (body_bytes r)

pub body_length : {k : Encoding} {n : ℕ} {w cs : List ℕ} → Body k n w cs → length cs ≤ length w
body_length empty = omega arith
body_length (with_char {w = w} {v = v} {cs = cs} {ds = ds} x r) =
    omega (arith, length-append w v, length-append cs ds, sent_length x, body_length r)

-- ---- a content is cut at characters: what fits, and the rest, are contents
nothing_span : (us vs : List ℕ) (cap : ℕ) → Nothing us → fitting cap (us ++ vs) ≡ length us + fitting cap vs
nothing_span [] vs cap n = omega arith
nothing_span (u ∷ us) vs cap n =
    rw n.0
    (rw (le-ltb cap 0 (omega arith))
    (ap suc (ap (λ (c : ℕ). fitting c (us ++ vs)) (omega arith) ∙ nothing_span us vs cap n.1) ∙ omega arith))

pub weights_length : (k : Encoding) (cs : List ℕ) → length (weights k cs) ≡ length cs
weights_length k [] = refl
weights_length k (b ∷ cs) = ap suc (weights_length k cs)

-- bytes of which only the first weighs
first_span : (k : Encoding) (u : ℕ) (w v us : List ℕ) (cap : ℕ) → weights k w ≡ u ∷ us → Nothing us
    → fitting cap (weights k (w ++ v)) ≡ cond (ltb cap u) 0 (length w + fitting (cap - u) (weights k v))
first_span k u w v us cap e z =
    rw (weights_append k w v, e, nothing_span us (weights k v) (cap - u) z)
    (ap (λ (n : ℕ). cond (ltb cap u) 0 n) (omega (arith, weights_length k w, ap length e)))

-- the first j bytes of cs, and the others, are contents
abbrev CutAt : Encoding → List ℕ → ℕ → Type 0
CutAt k cs j = Content k (units k (take j cs)) (take j cs) × Content k (units k (drop j cs)) (drop j cs)

pub content_cut : {k : Encoding} {n : ℕ} {cs : List ℕ} → Content k n cs → (cap : ℕ)
    → CutAt k cs (fitting cap (weights k cs))
content_cut no_chars cap = (no_chars, no_chars)
content_cut {k} (more_chars {u = u} {w = w} {v = v} x r) cap =
    let z = char_weighs x in
    rw (first_span k u w v z.rest cap z.weighs z.nothing)
    (by_test (CutAt k (w ++ v)) (ltb cap u)
    (λ t. (no_chars, content_counted (more_chars x r)))
    (λ t. later (fitting (cap - u) (weights k v)) (content_cut r (cap - u))))
  where
    later : (j : ℕ) → CutAt k v j → CutAt k (w ++ v) (length w + j)
    later j y = rw (take-append-add w v j, drop-append-add w v j) (content_counted (more_chars x y.0), y.1)

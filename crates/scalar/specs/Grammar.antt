-- The grammar of scalars: their bytes, and what they are.
use mathlib.Core.{Path.◌≡◌, List.List, List.[], List.◌∷◌, List.◌++◌}
use Rattle.std.specs.Prelude.{ℕ, suc, ◌+◌, ◌≤◌, ◌<◌, length}
use Rattle.flow.specs.Flow.{Bytes}
use Rattle.wire.specs.BigEndian.{joined}
use Rattle.scalar.specs.declared.Sort.TheVariants as sort
use Rattle.scalar.specs.declared.{Sort.Sort, Encoding.Encoding, Encoding.TheVariants.{Utf8, Binary}}
use Rattle.scalar.specs.declared.CharLead.TheVariants.{Basic, Supplementary, Halved}
use Rattle.scalar.specs.Scalars.{DoubleRule, Floats, value_under, Form, forms_of, part_head, last_heads, char_lead}
use Rattle.scalar.specs.Scalars.{paired, Scalar, Num, Str}

-- ---- a form's bytes, and the value, by the rule of 5f
pub data HeldUnder (ρ : DoubleRule) (w : Form) : List ℕ → ℕ → Type 0 where
  held : (q : ℕ) (t : List ℕ) → q < w.codes → length t ≡ w.extra → Bytes t
      → HeldUnder ρ w ((w.head + q) ∷ t) (value_under ρ w.rule (joined q t))

pub data NumberUnder (ρ : DoubleRule) : List Form → List ℕ → ℕ → Type 0 where
  here : {w : Form} {ws : List Form} {t : List ℕ} {v : ℕ} → HeldUnder ρ w t v → NumberUnder ρ (w ∷ ws) t v
  later : {w : Form} {ws : List Form} {t : List ℕ} {v : ℕ} → NumberUnder ρ ws t v → NumberUnder ρ (w ∷ ws) t v

-- by the main rule
abbrev pub Held : Form → List ℕ → ℕ → Type 0
Held = HeldUnder Floats

abbrev pub Number : List Form → List ℕ → ℕ → Type 0
Number = NumberUnder Floats

-- ---- texts and byte strings
-- n bytes more of a character, the first from lo to below hi, the others from 80 to bf
pub data Continued : ℕ → ℕ → ℕ → List ℕ → Type 0 where
  no_more : {lo hi : ℕ} → Continued 0 lo hi []
  follows : {n lo hi b : ℕ} {cs : List ℕ} → lo ≤ b → b < hi → Continued n 0x80 0xc0 cs
      → Continued (suc n) lo hi (b ∷ cs)

-- a byte of a byte string; a character of a text in UTF-8, with the units that it counts
pub data Char : Encoding → ℕ → List ℕ → Type 0 where
  one_byte : {b : ℕ} → b < 256 → Char Binary 1 (b ∷ [])
  one_unit : {b k lo hi : ℕ} {cs : List ℕ} → char_lead b ≡ Basic k lo hi → Continued k lo hi cs → Char Utf8 1 (b ∷ cs)
  -- ed, 80..9f, 80..bf: from a0 on the second byte is that of a half
  below_halves : {b : ℕ} {cs : List ℕ} → char_lead b ≡ Halved → Continued 2 0x80 0xa0 cs → Char Utf8 1 (b ∷ cs)
  two_units : {b lo hi : ℕ} {cs : List ℕ} → char_lead b ≡ Supplementary lo hi → Continued 3 lo hi cs
      → Char Utf8 2 (b ∷ cs)

-- ed d x is a half whose second byte, d, lies from lo to below hi
abbrev pub Half : ℕ → ℕ → ℕ → ℕ → Type 0
Half lo hi d x = (lo ≤ d) × (d < hi) × (0x80 ≤ x) × (x < 0xc0)

abbrev pub IsHigh : ℕ → ℕ → Type 0  -- ed d x is a high half: ed, a0..af, 80..bf
IsHigh d x = Half 0xa0 0xb0 d x

abbrev pub IsLow : ℕ → ℕ → Type 0  -- ed y z is a low half: ed, b0..bf, 80..bf
IsLow y z = Half 0xb0 0xc0 y z

-- a character, with its units: the bytes that stand in the message, and those that stand in the content
pub data Sent : Encoding → ℕ → List ℕ → List ℕ → Type 0 where
  as_it_is : {k : Encoding} {u : ℕ} {w : List ℕ} → Char k u w → Sent k u w w
  -- 2026-04: a high half and a low half, for the one character in four bytes
  as_a_pair : {d x y z : ℕ} → IsHigh d x → IsLow y z
      → Sent Utf8 2 (0xed ∷ d ∷ x ∷ 0xed ∷ y ∷ z ∷ []) (paired d x y z)

-- what a chunk holds after its head, of so many units: the bytes, and the content
pub data Body (k : Encoding) : ℕ → List ℕ → List ℕ → Type 0 where
  empty : Body k 0 [] []
  with_char : {u n : ℕ} {w v cs ds : List ℕ} → Sent k u w cs → Body k n v ds → Body k (u + n) (w ++ v) (cs ++ ds)

-- the bytes of a text or byte string, and its content
pub data String (k : Encoding) : List ℕ → List ℕ → Type 0 where
  last_chunk : {n : ℕ} {h w cs : List ℕ} → Number (last_heads k) h n → Body k n w cs → String k (h ++ w) cs
  chunk_before : {n : ℕ} {h w cs v ds : List ℕ} → Number (part_head k ∷ []) h n → Body k n w cs → String k v ds
      → String k (h ++ (w ++ v)) (cs ++ ds)

pub data SpeltUnder (ρ : DoubleRule) : List ℕ → Scalar → Type 0 where
  a_number : {s : Sort} {w : List ℕ} {v : ℕ} → NumberUnder ρ (forms_of s) w v → SpeltUnder ρ w (Num s v)
  a_string : {k : Encoding} {w cs : List ℕ} → String k w cs → SpeltUnder ρ w (Str k cs)

abbrev pub Spelt : List ℕ → Scalar → Type 0
Spelt = SpeltUnder Floats

abbrev pub Int : List ℕ → ℕ → Type 0
Int w v = Number (forms_of sort.Int) w v

abbrev pub Text : List ℕ → List ℕ → Type 0
Text w cs = String Utf8 w cs

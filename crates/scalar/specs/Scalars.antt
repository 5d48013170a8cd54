-- Scalars: single values, which are null, false, true, int, long, double, date; texts and byte strings.
use mathlib.Core.{Bool.Bool, Bool.true, Bool.false, Bool.cond, Bool.◌&&◌}
use mathlib.Core.{List.List, List.[], List.◌∷◌, List.◌++◌, List.map, Option.Option, Option.none, Option.some}
use Rattle.std.specs.Prelude.{ℕ, zero, suc, ◌+◌, ◌*◌, ◌-◌, ◌/◌, ◌%◌, ◌^◌, min, ℤ, pos, negsuc, ◌-ℤ◌, ◌*ℤ◌}
use lib.{Dec.ltb, Dec.eqb, ListN.length, ListN.take, ListN.drop, Count.count_leading_zeros, Pow.are_bytes}
use Rattle.std.specs.Float.{binary64}
use Rattle.std.specs.Float.Ieee.{to_bits, of_bits, of_int, mul}
use mir.{Syntax.w8, Syntax.w16, Syntax.w32, Syntax.w64, Val.of_z, Val.to_z}
use Rattle.flow.specs.RefusalNumbers.{cut, wrong_byte, not_utf8}
use Rattle.flow.specs.Flow.{pick, within, same_list, Outcome, Done, Fault, Read, From, One}
use Rattle.flow.specs.Flow.{give, fail, byte_at, mapped, bind}
use Rattle.wire.specs.BigEndian.{be, high, wider}
use Rattle.std.specs.Prelude.{Some, None}
use Rattle.std.specs.declared.option.Option as code
use Rattle.scalar.specs.declared.{Sort.Sort, Rule.Rule, Begun.Begun, Encoding.Encoding}
use Rattle.scalar.specs.declared.Encoding.TheVariants.{Utf8, Binary}
use Rattle.scalar.specs.declared.Sort.TheVariants.{Null, False, True, Int, Long, Double, Date}
use Rattle.scalar.specs.declared.Rule.TheVariants.{Exactly, Plain, Offset, Signed, Minutes}
use Rattle.scalar.specs.declared.Rule.TheVariants.{WholeByte, WholePair, Float}
use Rattle.scalar.specs.declared.CharLead.{CharLead}
use Rattle.scalar.specs.declared.CharLead.TheVariants.{Basic, Supplementary, Halved, NoChar}
use Rattle.scalar.specs.Guesses.{guess}

-- ---- doubles by their 64 bits: a sign, 11 bits of exponent, 52 of fraction
-- the bits of the double m · 2 ^ (c − 1074), for an m of 1 to 32 bits: its leading zeros say how far to shift, so that
-- its first one bit, which adds one to the exponent, is bit 52
unfoldable pub scaled : ℕ → ℕ → ℕ
scaled c m = (c - 21 - count_leading_zeros 32 m) * 2 ^ 52 + m * 2 ^ (21 + count_leading_zeros 32 m)

-- 5d, 5e: the double whose exact worth is the whole number; 0 is +0.0
unfoldable pub whole : ℤ → ℕ
whole (pos zero) = 0
whole (pos (suc n)) = scaled 1074 (suc n)
whole (negsuc n) = 2 ^ 63 + scaled 1074 (suc n)

-- a float's exponent x and fraction t: infinities and NaNs keep their fraction · 2 ^ 29; normal numbers; zero; those
-- below the normal range
unfoldable pub magnitude : ℕ → ℕ → ℕ
magnitude x t =
    cond (eqb x 255) (2047 * 2 ^ 52 + t * 2 ^ 29)
    (cond (ltb 0 x) ((x + 896) * 2 ^ 52 + t * 2 ^ 29)
    (cond (eqb t 0) 0
    (scaled 925 t)))

unfoldable pub widened : ℕ → ℕ  -- 5f: the double that a float of 32 bits is, widened bit by bit
widened u = u / 2 ^ 31 * 2 ^ 63 + magnitude (u / 2 ^ 23 % 2 ^ 8) (u % 2 ^ 23)

-- 2026-11: 'm made an f64, multiplied once by the f64 nearest to 0.001'. That the bits are those of the double nearest
-- to 1/1000: proofs/Thousandths.antt
unfoldable pub thousandth : ℕ
thousandth = 0x3f50_624d_d2f1_a9fc

unfoldable pub thousandths : ℤ → ℕ
thousandths m = to_bits binary64 (mul binary64 (of_int binary64 m) (of_bits binary64 thousandth))

-- ---- the value that a form stands for, by the number u that its bytes hold
unfoldable pub value : Rule → ℕ → ℕ
value (Exactly v) u = v
value Plain u = u
value (Offset k) u = of_z w64 (pos u -ℤ pos k)
value Signed u = of_z w64 (to_z w32 u)
value Minutes u = of_z w64 (to_z w32 u *ℤ pos 60_000)
value WholeByte u = whole (to_z w8 u)
value WholePair u = whole (to_z w16 u)
value Float u = widened u

-- the rule of 5f: its four bytes are a float, as 01 has it, which is the main rule; or whole thousandths (2026-11)
pub data DoubleRule : Type 0 where
  Floats Thousandths : DoubleRule

-- by the second, 5f alone has another value
abbrev pub value_in_thousandths : Rule → ℕ → ℕ
value_in_thousandths r u = elim r [
  | Exactly v ↦ value (Exactly v) u
  | Plain ↦ value Plain u
  | Offset k ↦ value (Offset k) u
  | Signed ↦ value Signed u
  | Minutes ↦ value Minutes u
  | WholeByte ↦ value WholeByte u
  | WholePair ↦ value WholePair u
  | Float ↦ thousandths (to_z w32 u)
]

abbrev pub value_under : DoubleRule → Rule → ℕ → ℕ
value_under Floats r u = value r u
value_under Thousandths r u = value_in_thousandths r u

-- `codes` first bytes from `head` on, and `extra` bytes more. They hold (code − head) · 256 ^ extra + the bytes,
-- highest first
abbrev pub Form : Type 0
Form = record { head : ℕ; codes : ℕ; extra : ℕ; rule : Rule }

abbrev pub form : ℕ → ℕ → ℕ → Rule → Form
form head codes extra rule = record { head = head; codes = codes; extra = extra; rule = rule }

-- ints and longs of one to three bytes: (code − zero) · 256 ^ extra + the bytes
abbrev pub compact : ℕ → ℕ → ℕ → ℕ → Form
compact head codes extra zero-code = form head codes extra (Offset (wider extra (zero-code - head)))

unfoldable pub forms_of : Sort → List Form  -- the forms of each kind of value, the shorter first
forms_of Null = form 0x4e 1 0 (Exactly 0) ∷ []
forms_of False = form 0x46 1 0 (Exactly 0) ∷ []
forms_of True = form 0x54 1 0 (Exactly 0) ∷ []
forms_of Int =
    compact 0x80 64 0 0x90
    ∷ compact 0xc0 16 1 0xc8
    ∷ compact 0xd0 8 2 0xd4
    ∷ form 0x49 1 4 Signed
    ∷ []
forms_of Long =
    compact 0xd8 24 0 0xe0
    ∷ compact 0xf0 16 1 0xf8
    ∷ compact 0x38 8 2 0x3c
    ∷ form 0x59 1 4 Signed
    ∷ form 0x4c 1 8 Plain
    ∷ []
forms_of Double =
    form 0x5b 1 0 (Exactly 0)
    ∷ form 0x5c 1 0 (Exactly 0x3ff0_0000_0000_0000)
    ∷ form 0x5d 1 1 WholeByte
    ∷ form 0x5e 1 2 WholePair
    ∷ form 0x5f 1 4 Float
    ∷ form 0x44 1 8 Plain
    ∷ []
forms_of Date = form 0x4b 1 4 Minutes ∷ form 0x4a 1 8 Plain ∷ []

abbrev pub sort_kind : Sort → ℕ  -- the kind of the row of such a value
sort_kind s = elim s [ Null ↦ 0 | False ↦ 1 | True ↦ 2 | Int ↦ 3 | Long ↦ 4 | Double ↦ 5 | Date ↦ 6 ]

abbrev pub inside : Form → ℕ → Bool  -- the byte b is one of the form's first bytes
inside w b = within w.head (w.head + w.codes) b

abbrev pub begun : ℕ → ℕ → Rule → Begun
begun k u r = record { more = k; held = u; rule = r }

unfoldable pub form_at : List Form → ℕ → code.Option Begun  -- what the byte b begins, if anything
form_at [] b = None
form_at (w ∷ ws) b = pick (inside w b) (Some (begun w.extra (b - w.head) w.rule)) (form_at ws b)

module _ {C I : Type 0} where
  abbrev pub bytes_of : ℕ → ℕ → Read C I ℕ  -- k bytes more, the highest first, after u
  bytes_of zero u c at s = give u c at s
  bytes_of (suc k) u c at s = byte_at (λ p b. bytes_of k (256 * u + b)) c at s

  -- a value of one of these forms, whose first byte is b, at p; any other is a wrong byte
  abbrev pub number_under : DoubleRule → List Form → From C I ℕ
  number_under ρ ws p b =
      elim (form_at ws b) [
        | None ↦ fail wrong_byte p
        | Some x ↦ mapped (value_under ρ x.rule) (bytes_of x.more x.held)
      ]

  -- by the main rule: also the counts, numbers and lengths, which are no doubles
  abbrev pub number_from : List Form → From C I ℕ
  number_from = number_under Floats

-- ---- spelling: the first form that holds the value. `guess` is a candidate for what it holds, right where it stands
-- for v
abbrev pub spelling : Form → ℕ → List ℕ  -- the bytes of a form that holds u
spelling w u = (w.head + high w.extra u) ∷ be w.extra u

abbrev pub fits : Form → ℕ → Bool  -- the form holds the value
fits w v = ltb (high w.extra (guess w.rule v)) w.codes && eqb (value w.rule (guess w.rule v)) v

unfoldable pub shortest : List Form → ℕ → Option (List ℕ)
shortest [] v = none
shortest (w ∷ ws) v = cond (fits w v) (some (spelling w (guess w.rule v))) (shortest ws v)

-- ---- texts and byte strings: chunks, each with its length before it. A text's length counts UTF-16 units, a byte
-- string's bytes
unfoldable pub part_head : Encoding → Form  -- the head of a chunk that is not the last: its code and length
part_head Utf8 = form 0x52 1 2 Plain
part_head Binary = form 0x41 1 2 Plain

unfoldable pub last_heads : Encoding → List Form  -- the heads of the last chunk, the shorter first
last_heads Utf8 = form 0x00 32 0 Plain ∷ form 0x30 4 1 Plain ∷ form 0x53 1 2 Plain ∷ []
last_heads Binary = form 0x20 16 0 Plain ∷ form 0x34 4 1 Plain ∷ form 0x42 1 2 Plain ∷ []

-- well-formed UTF-8, by the first byte: Unicode's table of byte sequences, row by row. After ed the second byte
-- decides, since halves begin with ed as well: `by_second`
unfoldable pub char_lead : ℕ → CharLead
char_lead b =
    pick (within 0x00 0x80 b) (Basic 0 0 0)
    (pick (within 0xc2 0xe0 b) (Basic 1 0x80 0xc0)
    (pick (within 0xe0 0xe1 b) (Basic 2 0xa0 0xc0)
    (pick (within 0xe1 0xed b) (Basic 2 0x80 0xc0)
    (pick (within 0xed 0xee b) Halved
    (pick (within 0xee 0xf0 b) (Basic 2 0x80 0xc0)
    (pick (within 0xf0 0xf1 b) (Supplementary 0x90 0xc0)
    (pick (within 0xf1 0xf4 b) (Supplementary 0x80 0xc0)
    (pick (within 0xf4 0xf5 b) (Supplementary 0x80 0x90)
    NoChar))))))))

-- 2026-04: the character of the halves ed d x and ed y z, in four bytes. Its code point has 21 bits: the five of
-- d % 16 + 1 (the 1 is the 0x10000 of Unicode's formula), six of x, four of y, six of z; the bytes hold three, six, six
-- and six of them. That this is Unicode's formula, and one to one: proofs/Pairs.antt
unfoldable pub paired : ℕ → ℕ → ℕ → ℕ → List ℕ
paired d x y z =
    (0xf0 + (d % 16 + 1) / 4)
    ∷ (0x80 + (d % 16 + 1) % 4 * 16 + x % 64 / 4)
    ∷ (0x80 + x % 4 * 16 + y % 16)
    ∷ (0x80 + z % 64)
    ∷ []

-- what a content's byte adds to its length: in a text a character's first byte one unit, or two if supplementary; in a
-- byte string one
abbrev pub weight : Encoding → ℕ → ℕ
weight Binary b = 1
weight Utf8 b = cond (within 0x80 0xc0 b) 0 (cond (ltb b 0xf0) 1 2)

abbrev pub total : List ℕ → ℕ
total [] = 0
total (u ∷ us) = u + total us

abbrev pub units : Encoding → List ℕ → ℕ  -- a content's length, as its head counts it
units k cs = total (map (weight k) cs)

-- ---- reading: the result is the content, the chunks joined
module _ {C I : Type 0} where
  -- a byte of the character at o, from lo to below hi, and then f by it; any other byte is refusal 4 at o
  abbrev pub ranged : {A : Type 0} → ℕ → ℕ → ℕ → (ℕ → Read C I A) → Read C I A
  ranged o lo hi f = byte_at (λ p b. cond (within lo hi b) (f b) (fail not_utf8 o))

  -- n bytes more of the character at o, the first from lo to below hi, the others from 80 to bf
  abbrev pub continued : ℕ → ℕ → ℕ → ℕ → Read C I (List ℕ)
  continued o zero lo hi c at s = give [] c at s
  continued o (suc n) lo hi c at s = ranged o lo hi (λ b. mapped (λ cs. b ∷ cs) (continued o n 0x80 0xc0)) c at s

  -- the bytes `front`, which are read already, then what f reads, then what g reads, as one list
  abbrev pub chained : List ℕ → Read C I (List ℕ) → Read C I (List ℕ) → Read C I (List ℕ)
  chained front f g = bind f (λ cs. mapped (λ ds. front ++ (cs ++ ds)) g)

  -- after the high half ed d x at the place o, a low half: ed, b0..bf, 80..bf. The result is the one character. Another
  -- byte is refusal 4 at o: the high half is lone, or the pair, which is one character, is ill-formed
  abbrev pub low_of : ℕ → ℕ → ℕ → Read C I (List ℕ)
  low_of o d x =
      ranged o 0xed 0xee (λ e.
      ranged o 0xb0 0xc0 (λ y.
      ranged o 0x80 0xc0 (λ z. give (paired d x y z))))

  -- after the first two bytes, ed and d, of a high half at the place o: its third, 80..bf, and the low half
  abbrev pub pair_of : ℕ → ℕ → Read C I (List ℕ)
  pair_of o d = ranged o 0x80 0xc0 (λ x. low_of o d x)

  -- 'A high half followed directly, in the same chunk, by a low half shall be read as the one character, two units':
  -- then g. 'A high half with one unit left in its chunk is such a lone half': there is no g, and no byte more is read
  abbrev pub pair_then : ℕ → ℕ → Option (Read C I (List ℕ)) → Read C I (List ℕ)
  pair_then o d none = fail not_utf8 o
  pair_then o d (some g) = chained [] (pair_of o d) g

  -- 'A half is known by its second byte': after the byte b = ed at the place p, by the next byte d
  --   80..9f  a character of three bytes, one unit; then f
  --   a0..af  a high half
  --   b0..bf  a low half that follows no high half, so a lone one: refusal 4 at p, its first byte
  --   others  continue no character: refusal 4 at p
  abbrev pub by_second : Read C I (List ℕ) → Option (Read C I (List ℕ)) → ℕ → ℕ → From C I (List ℕ)
  by_second f g p b q d =
      cond (within 0x80 0xa0 d) (chained (b ∷ d ∷ []) (continued p 1 0x80 0xc0) f)
      (cond (within 0xa0 0xb0 d) (pair_then p d g)
      (fail not_utf8 p))

  -- a character after its first byte b, at p, then f where it counts one unit, g where it counts two; no g: one unit is
  -- left
  abbrev pub character : CharLead → Read C I (List ℕ) → Option (Read C I (List ℕ)) → From C I (List ℕ)
  character (Basic k lo hi) f g p b c at s = chained (b ∷ []) (continued p k lo hi) f c at s
  character (Supplementary lo hi) f none p b c at s = fail not_utf8 p c at s
  character (Supplementary lo hi) f (some g) p b c at s = chained (b ∷ []) (continued p 3 lo hi) g c at s
  character Halved f g p b c at s = byte_at (by_second f g p b) c at s
  character NoChar f g p b c at s = fail not_utf8 p c at s

  abbrev pub characters : ℕ → Read C I (List ℕ)  -- characters of n units
  characters zero c at s = give [] c at s
  characters (suc zero) c at s = byte_at (λ p b. character (char_lead b) (characters zero) none p b) c at s
  characters (suc (suc n)) c at s =
      byte_at (λ p b. character (char_lead b) (characters (suc n)) (some (characters n)) p b) c at s

  abbrev pub octets : ℕ → Read C I (List ℕ)  -- n bytes
  octets zero c at s = give [] c at s
  octets (suc n) c at s = byte_at (λ p b. mapped (λ cs. b ∷ cs) (octets n)) c at s

  abbrev pub body : Encoding → ℕ → Read C I (List ℕ)
  body Binary n = octets n
  body Utf8 n = characters n

  -- a chunk after its first byte b, at p; `next` reads the chunks after it, if it is not the last
  abbrev pub chunk : Encoding → Read C I (List ℕ) → From C I (List ℕ)
  chunk k next p b = cond (inside (part_head k) b)
      (bind (number_from (part_head k ∷ []) p b) (λ n. bind (body k n) (λ cs. mapped (λ ds. cs ++ ds) next)))
      (bind (number_from (last_heads k) p b) (body k))

  abbrev pub chunks : Encoding → ℕ → Read C I (List ℕ)  -- the number only bounds the recursion
  chunks k zero c at s = Fault cut at
  chunks k (suc j) c at s = byte_at (chunk k (chunks k j)) c at s

  unfoldable pub string_from : Encoding → From C I (List ℕ)  -- a text or byte string, whose first byte is b, at p
  string_from k p b c at s = chunk k (chunks k (length s)) p b c at s

-- what stands at the place p of the message m, read as a text or as a byte string: its content. A place past the end is
-- the end
unfoldable pub string_at : Encoding → List ℕ → ℕ → Outcome One One (List ℕ)
string_at k m p = byte_at (string_from k) tt (min p (length m)) (drop p m)

-- ---- spelling: chunks as long as may be, the rest last in its shortest form
unfoldable pub longest_chunk : ℕ
longest_chunk = 65_535

-- how many bytes of these weights fit cap units: whole characters, since the bytes after a character's first weigh
-- nothing
abbrev pub fitting : ℕ → List ℕ → ℕ
fitting cap [] = 0
fitting cap (u ∷ us) = cond (ltb cap u) 0 (suc (fitting (cap - u) us))

abbrev pub shortest_head : List Form → ℕ → List ℕ
shortest_head ws n = elim (shortest ws n) [ none ↦ [] | some w ↦ w ]

-- while more than the longest chunk is left, what fits one; then the rest. The number only bounds the recursion
abbrev pub spelled : Encoding → ℕ → List ℕ → List ℕ
spelled k zero cs = []
spelled k (suc f) cs =
    let n = fitting longest_chunk (map (weight k) cs) in
    cond (ltb longest_chunk (units k cs))
    (shortest_head (part_head k ∷ []) (units k (take n cs)) ++ (take n cs ++ spelled k f (drop n cs)))
    (shortest_head (last_heads k) (units k cs) ++ cs)

abbrev pub reads_as : List ℕ → Outcome One One (List ℕ) → Bool  -- something is read, and it is cs
reads_as cs o = elim o [ Done m ds es c ↦ same_list ds cs | Fault x p ↦ false ]

-- cs is a content: bytes that, read as a body of so many units as they count, are read as themselves. So in a text each
-- character has one spelling: what has a pair of halves in it is read as other bytes, and is no content
unfoldable pub content : Encoding → List ℕ → Bool
content k cs = are_bytes cs && reads_as cs (body k (units k cs) tt 0 cs)

unfoldable pub shortest_string : Encoding → List ℕ → Option (List ℕ)  -- the shortest form of a content, or none
shortest_string k cs = cond (content k cs) (some (spelled k (suc (length cs)) cs)) none

-- ---- scalars: single values, texts and byte strings, as the layer above sees them
pub data Scalar : Type 0 where
  Num : Sort → ℕ → Scalar
  Str : Encoding → List ℕ → Scalar

abbrev pub begins : List Form → ℕ → Bool  -- the byte begins one of the forms
begins [] b = false
begins (w ∷ ws) b = cond (inside w b) true (begins ws b)

abbrev pub is_text : ℕ → Bool  -- the byte opens a text
is_text b = begins (part_head Utf8 ∷ last_heads Utf8) b

module _ {C I : Type 0} where
  -- a text or byte string, where b begins one, or what g reads
  abbrev pub or_string : Encoding → From C I Scalar → From C I Scalar
  or_string k g p b = pick (begins (part_head k ∷ last_heads k) b) (mapped (Str k) (string_from k p b)) (g p b)

  -- a single value, where b begins one of its kind, or what g reads
  abbrev pub or_number : DoubleRule → Sort → From C I Scalar → From C I Scalar
  or_number ρ s g p b = pick (begins (forms_of s) b) (mapped (Num s) (number_under ρ (forms_of s) p b)) (g p b)

  -- a scalar whose first byte is b, at p, in the order of 01's table of first bytes; any other is a wrong byte
  unfoldable pub scalar_from : DoubleRule → From C I Scalar
  scalar_from ρ = or_string Utf8 (or_string Binary
      (or_number ρ Int (or_number ρ Long (or_number ρ Date (or_number ρ Double
      (or_number ρ Null (or_number ρ False (or_number ρ True (λ p b. fail wrong_byte p)))))))))

  unfoldable pub int_from : From C I ℕ  -- an int: for counts and numbers
  int_from p b = number_from (forms_of Int) p b

  unfoldable pub text_from : From C I (List ℕ)  -- a text: for names
  text_from p b = string_from Utf8 p b

unfoldable pub shortest_scalar : Scalar → Option (List ℕ)  -- the shortest forms
shortest_scalar (Num s v) = shortest (forms_of s) v
shortest_scalar (Str k cs) = shortest_string k cs

abbrev pub shortest_int : ℕ → Option (List ℕ)
shortest_int v = shortest (forms_of Int) v

abbrev pub shortest_text : List ℕ → Option (List ℕ)
shortest_text cs = shortest_string Utf8 cs

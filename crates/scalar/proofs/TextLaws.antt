-- Texts and byte strings: what is read is a string of the grammar, and a string of the grammar is read; its bytes.
use Rattle.scalar.specs.Grammar.{later}
use Rattle.flow.specs.RefusalNumbers.{not_utf8}
use Rattle.std.specs.Prelude.{◌≡◌, true, false, cond, T, length}
use Rattle.std.proofs.Math.Path.{refl}
use mathlib.Core.List.{List, [], ◌∷◌, ◌++◌, append_assoc}
use Rattle.std.proofs.Math.Option.{Option, none, some}
use Prim.Native.Nat.{ℕ, zero, suc, ◌+◌, ◌≤◌, ◌<◌}
use native.Mathlib.Omega.{arith}
use Rattle.std.proofs.Common.{length-append}
use Rattle.flow.specs.Tests.{by_test, within_yes, within_above, within_is, bytes_append, First}
use Rattle.flow.specs.Flow.{pick, within, Bytes, Read, One, give, fail, mapped, bind}
use Rattle.flow.specs.Lifts.{Lifts, give_lifts, fail_lifts, byte_lifts, map_lifts, bind_lifts, test_lifts}
use Rattle.flow.specs.Laws.{Goal, Parsed, gives, takes, maps, Quiet, quiet, quietly, binds_quiet}
use Rattle.flow.specs.Laws.{Makes, give_makes, byte_makes, bind_makes, map_makes, pass_makes, skip_makes, bound_makes}
use Rattle.flow.specs.Laws.{Leads}
use Rattle.scalar.specs.declared.Encoding.{Encoding}
use Rattle.scalar.specs.declared.Encoding.TheVariants.{Utf8, Binary}
use Rattle.scalar.specs.declared.CharLead.{CharLead}
use Rattle.scalar.specs.declared.CharLead.TheVariants.{Basic, Supplementary, Halved, NoChar}
use Rattle.scalar.specs.Scalars.{Floats, Form, inside, number_from, part_head, last_heads}
use Rattle.scalar.specs.Scalars.{char_lead, paired, ranged, continued, chained, low_of, pair_of, pair_then, by_second}
use Rattle.scalar.specs.Scalars.{character, characters, octets, body, chunk, chunks, string_from}
use Rattle.scalar.specs.Grammar.{Number, here, held, Continued, no_more, follows}
use Rattle.scalar.specs.Grammar.{Char, one_byte, one_unit, below_halves, two_units}
use Rattle.scalar.specs.Grammar.{IsHigh, IsLow, Sent, as_it_is, as_a_pair, Body, empty, with_char}
use Rattle.scalar.specs.Grammar.{String, last_chunk, chunk_before}
use Rattle.scalar.proofs.NumberLaws.{proper, clear, number_apart, number_scans, NumberLed, number_makes}
use Rattle.scalar.proofs.NumberLaws.{number_bytes, number_some}
use Rattle.scalar.proofs.NumberAt.{number_lifts}
use Rattle.scalar.proofs.CharLeads.{says}
use Rattle.scalar.proofs.TextUnits.{body_bytes}

-- ---- heads: no first byte is of two of them, and all are bytes
pub heads_proper : (k : Encoding) → T (proper (last_heads k)) × T (proper (part_head k ∷ []))
unfolding last_heads part_head
heads_proper Utf8 = (tt, tt)
heads_proper Binary = (tt, tt)

heads_apart : (k : Encoding) → T (clear (part_head k) (last_heads k))
unfolding last_heads part_head
heads_apart Utf8 = tt
heads_apart Binary = tt

-- the first byte tells a last chunk from another
last_first : (k : Encoding) {h : List ℕ} {n : ℕ} → Number (last_heads k) h n
    → First (λ b. inside (part_head k) b ≡ false) h
last_first k y = number_apart (part_head k) y (heads_apart k)

part_first : (w : Form) {h : List ℕ} {n : ℕ} → Number (w ∷ []) h n → First (λ b. inside w b ≡ true) h
part_first w (here (held q t l e i)) =
    within_yes w.head (w.head + w.codes) (w.head + q) (omega arith) (omega arith)
part_first w {h = h} {n = n} (later x5) = elim x5 [ ]

-- ---- reading: what is read is a string
module _ {C : Type 0} (I : Type 0) where
  -- a byte in a range, and what f reads by it
  ranged_read : {A : Type 0} (H : Goal C I A) (o lo hi : ℕ) (f : ℕ → Read C I A) (c : C) (at : ℕ) (s : List ℕ) → Bytes s
      → ((b : ℕ) (t : List ℕ) → Bytes t → lo ≤ b → b < hi
      → Parsed (λ w a is c'. H (b ∷ w) a is c') t (f b c (at + 1) t)) → Parsed H s (ranged o lo hi f c at s)
  ranged_read {A} H o lo hi f c at s l h = takes H (λ x x'. cond {0} {A = Read C I A} (within lo hi x') (f x') (fail {C = C} {I = I} {A = A} not_utf8 o)) c at s l (λ b t m i.
      by_test (λ (g : Read C I A). Parsed (λ w a is c'. H (b ∷ w) a is c') t (g c (at + 1) t)) (within lo hi b)
      (λ x. let r = within_is lo hi b x in h b t i r.0 r.1) (λ x. tt))

  continued_read : (H : Goal C I (List ℕ)) (o n lo hi : ℕ) (c : C) (at : ℕ) (s : List ℕ) → Bytes s
      → ((cs : List ℕ) → Continued n lo hi cs → H cs cs [] c) → Parsed H s (continued o n lo hi c at s)
  continued_read H o zero lo hi c at s l h = gives H [] c at s (h [] no_more)
  continued_read H o (suc n) lo hi c at s l h = ranged_read H o lo hi _ c at s l (λ b t i p q.
      maps (λ w a is c'. H (b ∷ w) a is c') (λ cs. b ∷ cs) t (continued o n 0x80 0xc0 c (at + 1) t)
      (continued_read (λ w a is c'. H (b ∷ w) (b ∷ a) is c') o n 0x80 0xc0 c (at + 1) t i
      (λ cs y. h (b ∷ cs) (follows p q y))))

  -- a pair, after ed and d
  pair_read : (H : Goal C I (List ℕ)) (o d : ℕ) (c : C) (at : ℕ) (s : List ℕ) → Bytes s
      → ((x y z : ℕ) → 0x80 ≤ x → x < 0xc0 → IsLow y z → H (x ∷ 0xed ∷ y ∷ z ∷ []) (paired d x y z) [] c)
      → Parsed H s (pair_of o d c at s)
  pair_read H o d c at s l h =
      ranged_read H o 0x80 0xc0 _ c at s l (λ x t i p q.
      ranged_read (λ w a is c'. H (x ∷ w) a is c') o 0xed 0xee _ c (at + 1) t i (λ e t₁ i₁ p₁ q₁.
      let same : e ≡ 0xed = omega arith in
      ranged_read (λ w a is c'. H (x ∷ e ∷ w) a is c') o 0xb0 0xc0 _ c (at + 1 + 1) t₁ i₁ (λ y t₂ i₂ p₂ q₂.
      ranged_read (λ w a is c'. H (x ∷ e ∷ y ∷ w) a is c') o 0x80 0xc0 _ c (at + 1 + 1 + 1) t₂ i₂ (λ z t₃ i₃ p₃ q₃.
      gives (λ w a is c'. H (x ∷ e ∷ y ∷ z ∷ w) a is c') (paired d x y z) c (at + 1 + 1 + 1 + 1) t₃
      (rw same (h x y z p q (p₂, q₂, p₃, q₃)))))))

  -- f reads characters, or bytes, of n units
  abbrev pub Whole : Encoding → ℕ → C → Goal C I (List ℕ)
  Whole k n c = Quiet (Body k n) c

  abbrev pub Fills : Encoding → ℕ → C → Read C I (List ℕ) → Type 0
  Fills k n c f = (at : ℕ) (s : List ℕ) → Bytes s → Parsed (Whole k n c) s (f c at s)

  -- the same, the bytes `front` being read already
  abbrev FillsAfter : List ℕ → ℕ → C → Read C I (List ℕ) → Type 0
  FillsAfter front n c f = (at : ℕ) (s : List ℕ) → Bytes s
      → Parsed (λ w a is c'. Whole Utf8 n c (front ++ w) a is c') s (f c at s)

  -- a character of u units, whose first bytes are `front`, in the content `shown`, and the rest what f reads; then g
  chained_read : (front shown : List ℕ) (f g : Read C I (List ℕ)) (u n m : ℕ) (c : C)
      → ((at : ℕ) (s : List ℕ) → Bytes s
      → Parsed (Quiet (λ w cs. Sent Utf8 u (front ++ w) (shown ++ cs)) c) s (f c at s))
      → u + n ≡ m → Fills Utf8 n c g → FillsAfter front m c (chained shown f g)
  chained_read front shown f g u n m c hf e hg at s l =
      binds_quiet (λ w cs. Sent Utf8 u (front ++ w) (shown ++ cs)) (λ w a is c'. Whole Utf8 m c (front ++ w) a is c')
      f (λ cs. mapped (λ ds. shown ++ (cs ++ ds)) g) c at s l (hf at s l)
      (λ v cs at₁ t i y.
      maps (λ w a is c'. Whole Utf8 m c (front ++ (v ++ w)) a is c') (λ ds. shown ++ (cs ++ ds)) t (g c at₁ t)
      (quietly (Body Utf8 n) (λ w a is c'. Whole Utf8 m c (front ++ (v ++ w)) (shown ++ (cs ++ a)) is c') c t
      (λ w ds z. rw (← (append_assoc front v w), ← (append_assoc shown cs ds), ← e) (quiet (with_char y z)))
      (g c at₁ t) (hg at₁ t i)))

  -- a character as it is
  as_is_read : (front : List ℕ) (o j lo hi : ℕ) (g : Read C I (List ℕ)) (u n m : ℕ) (c : C)
      → ((cs : List ℕ) → Continued j lo hi cs → Char Utf8 u (front ++ cs)) → u + n ≡ m → Fills Utf8 n c g
      → FillsAfter front m c (chained front (continued o j lo hi) g)
  as_is_read front o j lo hi g u n m c x = chained_read front front (continued o j lo hi) g u n m c
      (λ at s l. continued_read (Quiet (λ w cs. Sent Utf8 u (front ++ w) (front ++ cs)) c) o j lo hi c at s l
      (λ cs r. quiet (as_it_is (x cs r))))

  -- after a character of two units one unit less is read
  abbrev Less : ℕ → C → Option (Read C I (List ℕ)) → Type 0
  Less n c none = Unit {0}
  Less n c (some g) = (j : ℕ) × (suc j ≡ n) × Fills Utf8 j c g

  -- after ed, by the second byte
  second_read : (n : ℕ) (c : C) (f : Read C I (List ℕ)) (g : Option (Read C I (List ℕ))) → Fills Utf8 n c f → Less n c g
      → (p q d : ℕ) → char_lead 0xed ≡ Halved → FillsAfter (0xed ∷ d ∷ []) (suc n) c (by_second f g p 0xed q d)
  second_read n c f g hf hg p q d e =
      by_test (FillsAfter (0xed ∷ d ∷ []) (suc n) c) (within 0x80 0xa0 d)
      (λ x. let r = within_is 0x80 0xa0 d x in
      as_is_read (0xed ∷ d ∷ []) p 1 0x80 0xc0 f 1 n (suc n) c (λ cs y. below_halves e (follows r.0 r.1 y))
      (omega arith) hf)
      (λ x. by_test (FillsAfter (0xed ∷ d ∷ []) (suc n) c) (within 0xa0 0xb0 d)
      (λ y. high g hg (within_is 0xa0 0xb0 d y)) (λ y at s l. tt))
    where
      high : (g : Option (Read C I (List ℕ))) → Less n c g → (0xa0 ≤ d) × (d < 0xb0)
          → FillsAfter (0xed ∷ d ∷ []) (suc n) c (pair_then p d g)
      high none hg r = λ at s l. tt
      high (some g) hg r = chained_read (0xed ∷ d ∷ []) [] (pair_of p d) g 2 hg.0 (suc n) c
          (λ at s l. pair_read (Quiet (λ w cs. Sent Utf8 2 (0xed ∷ d ∷ w) cs) c) p d c at s l (λ x y z i j k. quiet (as_a_pair (r.0, r.1, i, j) k)))
          (omega (arith, hg.1)) hg.2

  character_read : (n : ℕ) (c : C) (f : Read C I (List ℕ)) (g : Option (Read C I (List ℕ))) → Fills Utf8 n c f
      → Less n c g → (p b : ℕ) (l : CharLead) → char_lead b ≡ l → FillsAfter (b ∷ []) (suc n) c (character l f g p b)
  character_read n c f g hf hg p b (Basic j lo hi) e =
      as_is_read (b ∷ []) p j lo hi f 1 n (suc n) c (λ cs x. one_unit e x) (omega arith) hf
  character_read n c f none hf hg p b (Supplementary lo hi) e = λ at s l. tt
  character_read n c f (some g) hf hg p b (Supplementary lo hi) e =
      as_is_read (b ∷ []) p 3 lo hi g 2 hg.0 (suc n) c (λ cs x. two_units e x) (omega (arith, hg.1)) hg.2
  character_read n c f g hf hg p b Halved e = λ at s l.
      let ed : b ≡ 0xed = rw e at (says b) in
      rw ed (takes (λ w a is c'. Whole Utf8 (suc n) c (0xed ∷ w) a is c') (by_second f g p 0xed) c at s l
      (λ d t m i. second_read n c f g hf hg p at d (rw ed at e) (at + 1) t i))
  character_read n c f g hf hg p b NoChar e = λ at s l. tt

  characters_read : (n : ℕ) (c : C) → Fills Utf8 n c (characters n)
  characters_read zero c at s l = gives (Whole Utf8 0 c) [] c at s (quiet empty)
  characters_read (suc zero) c at s l =
      takes (Whole Utf8 1 c) (λ p b. character (char_lead b) (characters zero) none p b) c at s l (λ b t m i.
      character_read 0 c (characters zero) none (characters_read zero c) tt at b (char_lead b) refl (at + 1) t i)
  characters_read (suc (suc n)) c at s l =
      takes (Whole Utf8 (suc (suc n)) c)
      (λ p b. character (char_lead b) (characters (suc n)) (some (characters n)) p b) c at s l (λ b t m i.
      character_read (suc n) c (characters (suc n)) (some (characters n)) (characters_read (suc n) c)
      (n, refl, characters_read n c) at b (char_lead b) refl (at + 1) t i)

  octets_read : (n : ℕ) (c : C) → Fills Binary n c (octets n)
  octets_read zero c at s l = gives (Whole Binary 0 c) [] c at s (quiet empty)
  octets_read (suc n) c at s l =
      let e : 1 + n ≡ suc n = omega arith in
      takes (Whole Binary (suc n) c) (λ x x'. mapped {C = C} {I = I} {A = List ℕ} {B = List ℕ} (λ cs. x' ∷ cs) (λ x'' x3 x4. octets {C = C} {I = I} n x'' x3 x4)) c at s l (λ b t m i.
      maps (λ w a is c'. Whole Binary (suc n) c (b ∷ w) a is c') (λ cs. b ∷ cs) t (octets n c (at + 1) t)
      (quietly (Body Binary n) (λ w a is c'. Whole Binary (suc n) c (b ∷ w) (b ∷ a) is c') c t
      (λ w cs z. rw (← e) (quiet (with_char (as_it_is (one_byte m)) z)))
      (octets n c (at + 1) t) (octets_read n c (at + 1) t i)))

  pub body_read : (k : Encoding) (n : ℕ) (c : C) → Fills k n c (body k n)
  body_read Utf8 n = characters_read n
  body_read Binary n = octets_read n

  -- a string, and what stands after its first byte b
  abbrev Text : Encoding → C → Goal C I (List ℕ)
  Text k c = Quiet (String k) c

  abbrev Rest : Encoding → ℕ → C → Goal C I (List ℕ)
  Rest k b c = Quiet (λ w cs. String k (b ∷ w) cs) c

  -- a chunk, where `next` reads what stands after one that is not the last
  chunk_read : (k : Encoding) (next : Read C I (List ℕ)) (c : C)
      → ((at : ℕ) (s : List ℕ) → Bytes s → Parsed (Text k c) s (next c at s)) → (p b at : ℕ) (s : List ℕ) → Bytes s
      → Parsed (Rest k b c) s (chunk k next p b c at s)
  chunk_read k next c hn p b at s l =
      by_test (λ (g : Read C I (List ℕ)). Parsed (Rest k b c) s (g c at s)) (inside (part_head k) b)
      (λ x. part) (λ x. last)
    where
      then_next : List ℕ → Read C I (List ℕ)
      then_next cs = mapped (λ ds. cs ++ ds) next

      part : Parsed (Rest k b c) s (bind (number_from (part_head k ∷ []) p b) (λ n. bind (body k n) then_next) c at s)
      part = binds_quiet (λ h n. Number (part_head k ∷ []) (b ∷ h) n) (Rest k b c)
          (number_from (part_head k ∷ []) p b) (λ n. bind (body k n) then_next) c at s l
          (number_scans I Floats (part_head k ∷ []) p b c at s l)
          (λ h n at₁ t m y.
          binds_quiet (Body k n) (λ w a is c'. Rest k b c (h ++ w) a is c') (body k n) then_next c at₁ t m
          (body_read k n c at₁ t m)
          (λ w cs at₂ t₂ m₂ z.
          maps (λ v a is c'. Rest k b c (h ++ (w ++ v)) a is c') (λ ds. cs ++ ds) t₂ (next c at₂ t₂)
          (quietly (String k) (λ v a is c'. Rest k b c (h ++ (w ++ v)) (cs ++ a) is c') c t₂
          (λ v ds r. quiet (chunk_before y z r)) (next c at₂ t₂) (hn at₂ t₂ m₂))))

      last : Parsed (Rest k b c) s (bind (number_from (last_heads k) p b) (body k) c at s)
      last =
          binds_quiet (λ h n. Number (last_heads k) (b ∷ h) n) (Rest k b c) (number_from (last_heads k) p b)
          (body k) c at s l
          (number_scans I Floats (last_heads k) p b c at s l)
          (λ h n at₁ t m y. quietly (Body k n) (λ w a is c'. Rest k b c (h ++ w) a is c') c t
          (λ w cs z. quiet (last_chunk y z)) (body k n c at₁ t) (body_read k n c at₁ t m))

  chunks_read : (k : Encoding) (j : ℕ) (c : C) (at : ℕ) (s : List ℕ) → Bytes s → Parsed (Text k c) s (chunks k j c at s)
  chunks_read k zero c at s l = tt
  chunks_read k (suc j) c at s l = takes (Text k c) (chunk k (chunks k j)) c at s l
      (λ b t m i.
      quietly (λ w cs. String k (b ∷ w) cs) (λ w a is c'. Text k c (b ∷ w) a is c') c t (λ w cs x. quiet x)
      (chunk k (chunks k j) at b c (at + 1) t)
      (chunk_read k (chunks k j) c (chunks_read k j c) at b (at + 1) t i))

-- what is read as a text or byte string is one of its forms
pub string_scans : {C : Type 0} (I : Type 0) (k : Encoding) (p b : ℕ) (c : C) (at : ℕ) (s : List ℕ) → Bytes s
    → Parsed {I = I} (Quiet (λ w cs. String k (b ∷ w) cs) c) s (string_from k p b c at s)
unfolding string_from
string_scans I k p b c at s l = chunk_read I k (chunks k (length s)) c (chunks_read I k (length s) c) p b at s l

-- ---- and a string is read
module _ {C : Type 0} (I : Type 0) where
  -- f makes the content cs of the bytes w, and nothing else
  abbrev Gives : Read C I (List ℕ) → C → List ℕ → List ℕ → Type 0
  Gives f c w cs = Makes f c w cs [] c

  ranged_make : (o lo hi b : ℕ) (f : ℕ → Read C I (List ℕ)) {c : C} {w cs : List ℕ} → lo ≤ b → b < hi
      → Gives (f b) c w cs → Gives (ranged o lo hi f) c (b ∷ w) cs
  ranged_make o lo hi b f l m h = byte_makes {I = I} (λ p b. cond (within lo hi b) (f b) (fail 4 o)) b
      (λ p. pass_makes (within lo hi b) _ _ (rw (within_yes lo hi b l m) tt) h)

  continued_make : {n lo hi : ℕ} {cs : List ℕ} → Continued n lo hi cs → (o : ℕ) (c : C)
      → Gives (continued o n lo hi) c cs cs
  continued_make no_more o c = record { makes = λ at tail. ([], refl, refl) }
  continued_make (follows {n = n} {lo = lo} {hi = hi} {b = b} l m r) o c =
      ranged_make o lo hi b (λ b. mapped (λ cs. b ∷ cs) (continued o n 0x80 0xc0)) l m
      (map_makes (λ cs. b ∷ cs) (continued o n 0x80 0xc0) (continued_make r o c))

  pair_make : (o d x y z : ℕ) (c : C) → 0x80 ≤ x → x < 0xc0 → IsLow y z
      → Gives (pair_of o d) c (x ∷ 0xed ∷ y ∷ z ∷ []) (paired d x y z)
  pair_make o d x y z c p q l =
      ranged_make o 0x80 0xc0 x (low_of o d) p q
      (ranged_make o 0xed 0xee 0xed _ (omega arith) (omega arith)
      (ranged_make o 0xb0 0xc0 y _ l.0 l.1
      (ranged_make o 0x80 0xc0 z (λ z. give (paired d x y z)) l.2 l.3 (give_makes (paired d x y z) c))))

  chained_make : (front : List ℕ) (f g : Read C I (List ℕ)) {w cs v ds : List ℕ} (c : C) → Gives f c w cs
      → Gives g c v ds → Gives (chained front f g) c (w ++ v) (front ++ (cs ++ ds))
  chained_make front f g {cs = cs} c h k =
      bind_makes f (λ cs. mapped (λ ds. front ++ (cs ++ ds)) g) h (map_makes (λ ds. front ++ (cs ++ ds)) g k)

  -- a character by its first byte: where two units or more are left, and of one unit wherever one is left
  lead_make : (n b : ℕ) (l : CharLead) {w cs : List ℕ} (c : C) → char_lead b ≡ l
      → ((p : ℕ) → Gives (character l (characters (suc n)) (some (characters n)) p b) c w cs)
      → Gives (characters (suc (suc n))) c (b ∷ w) cs
  lead_make n b l c e h =
      byte_makes {I = I} (λ p b. character (char_lead b) (characters (suc n)) (some (characters n)) p b) b
      (λ p. rw e (h p))

  one_make : (n b : ℕ) (l : CharLead) {w cs : List ℕ} (c : C) → char_lead b ≡ l
      → ((g : Option (Read C I (List ℕ))) (p : ℕ) → Gives (character l (characters n) g p b) c w cs)
      → Gives (characters (suc n)) c (b ∷ w) cs
  one_make zero b l c e h =
      byte_makes {I = I} (λ p b. character (char_lead b) (characters zero) none p b) b (λ p. rw e (h none p))
  one_make (suc n) b l c e h = lead_make n b l c e (h (some (characters n)))

  -- after ed: a second byte below those of halves, and one of a high half
  below_make : (f : Read C I (List ℕ)) (g : Option (Read C I (List ℕ))) (p b : ℕ) {cs v ds : List ℕ} (c : C)
      → Continued 2 0x80 0xa0 cs → Gives f c v ds → Gives (character Halved f g p b) c (cs ++ v) (b ∷ (cs ++ ds))
  below_make f g p b c (follows {b = d} l m x) h = byte_makes {I = I} (by_second f g p b) d
      (λ q. pass_makes (within 0x80 0xa0 d) _ _ (rw (within_yes 0x80 0xa0 d l m) tt)
      (chained_make (b ∷ d ∷ []) (continued p 1 0x80 0xc0) f c (continued_make x p c) h))

  high_make : (f g : Read C I (List ℕ)) (p b : ℕ) {d x y z : ℕ} {v ds : List ℕ} (c : C) → IsHigh d x → IsLow y z
      → Gives g c v ds → Gives (character Halved f (some g) p b) c (d ∷ x ∷ 0xed ∷ y ∷ z ∷ v) (paired d x y z ++ ds)
  high_make f g p b {d} {x} {y} {z} c h l k = byte_makes {I = I} (by_second f (some g) p b) d
      (λ q. skip_makes (within 0x80 0xa0 d) _ _ (rw (within_above 0x80 0xa0 d h.0) tt)
      (pass_makes (within 0xa0 0xb0 d) _ _ (rw (within_yes 0xa0 0xb0 d h.0 h.1) tt)
      (chained_make [] (pair_of p d) g c (pair_make p d x y z c h.2 h.3 l) k)))

  char_make : (k : Encoding) {u : ℕ} {w : List ℕ} → Char k u w → (n : ℕ) {v ds : List ℕ} (c : C)
      → Gives (body k n) c v ds
      → Gives (body k (u + n)) c (w ++ v) (w ++ ds)
  char_make Binary (one_byte {b = b} l) n c h =
      let e : 1 + n ≡ suc n = omega arith in
      rw e (byte_makes {I = I} (λ p b. mapped (λ cs. b ∷ cs) (octets n)) b (λ p. map_makes (λ cs. b ∷ cs) (octets n) h))
  char_make Utf8 (one_unit {b = b} {k = k} {lo = lo} {hi = hi} e x) n c h =
      let i : 1 + n ≡ suc n = omega arith in
      rw i (one_make n b (Basic k lo hi) c e
      (λ g p. chained_make (b ∷ []) (continued p k lo hi) (characters n) c (continued_make x p c) h))
  char_make Utf8 (below_halves {b = b} e x) n c h =
      let i : 1 + n ≡ suc n = omega arith in
      rw i (one_make n b Halved c e (λ g p. below_make (characters n) g p b c x h))
  char_make Utf8 (two_units {b = b} {lo = lo} {hi = hi} e x) n c h =
      let i : 2 + n ≡ suc (suc n) = omega arith in
      rw i (lead_make n b (Supplementary lo hi) c e
      (λ p. chained_make (b ∷ []) (continued p 3 lo hi) (characters n) c (continued_make x p c) h))

  sent_make : (k : Encoding) {u : ℕ} {w cs : List ℕ} → Sent k u w cs → (n : ℕ) {v ds : List ℕ} (c : C)
      → Gives (body k n) c v ds → Gives (body k (u + n)) c (w ++ v) (cs ++ ds)
  unfolding char_lead pick
  sent_make k (as_it_is x) n c h = char_make k x n c h
  sent_make Utf8 (as_a_pair i j) n c h =
      let e : 2 + n ≡ suc (suc n) = omega arith in
      rw e (lead_make n 0xed Halved c refl (λ p. high_make (characters (suc n)) (characters n) p 0xed c i j h))

  body_none : (k : Encoding) (c : C) → Gives (body k 0) c [] []
  body_none Utf8 c = record { makes = λ at tail. ([], refl, refl) }
  body_none Binary c = record { makes = λ at tail. ([], refl, refl) }

  pub body_make : (k : Encoding) {n : ℕ} {w cs : List ℕ} → Body k n w cs → (c : C)
      → Makes {I = I} (body k n) c w cs [] c
  body_make k empty c = body_none k c
  body_make k (with_char {n = n} x r) c = sent_make k x n c (body_make k r c)

-- a string after its first byte, read with any bound of the recursion that is not less than its bytes
module _ {C : Type 0} (I : Type 0) (k : Encoding) where
  abbrev LedBy : List ℕ → List ℕ → C → Type 0
  LedBy [] cs c = ⊥
  LedBy (b ∷ t) cs c = (j : ℕ) → length t ≤ j → (p : ℕ) → Makes {I = I} (chunk k (chunks k j) p b) c t cs [] c

  last_make : (h : List ℕ) (n : ℕ) (w cs : List ℕ) (c : C) → NumberLed I (last_heads k) h n c
      → First (λ b. inside (part_head k) b ≡ false) h → Body k n w cs → LedBy (h ++ w) cs c
  last_make [] n w cs c y x r = absurd y
  last_make (b ∷ h) n w cs c y x r = λ j l p. skip_makes (inside (part_head k) b) _ _ (rw x tt)
      (bind_makes (number_from (last_heads k) p b) (body k) (y p) (body_make I k r c))

  part_make : (h : List ℕ) (n : ℕ) (w cs v ds : List ℕ) (c : C) → NumberLed I (part_head k ∷ []) h n c
      → First (λ b. inside (part_head k) b ≡ true) h → Body k n w cs → LedBy v ds c → LedBy (h ++ (w ++ v)) (cs ++ ds) c
  part_make [] n w cs v ds c y x r z = absurd y
  part_make (b ∷ h) n w cs [] ds c y x r z = absurd z
  part_make (b ∷ h) n w cs (d ∷ v) ds c y x r z = go
    where
      then_next : ℕ → List ℕ → Read C I (List ℕ)
      then_next j cs = mapped (λ ds. cs ++ ds) (chunks k (suc j))

      go : (j : ℕ) → length (h ++ (w ++ (d ∷ v))) ≤ j → (p : ℕ)
          → Makes {I = I} (chunk k (chunks k j) p b) c (h ++ (w ++ (d ∷ v))) (cs ++ ds) [] c
      go zero l p = absurd (omega (arith, length-append h (w ++ (d ∷ v)), length-append w (d ∷ v)))
      go (suc j) l p =
          let i : length v ≤ j = omega (arith, length-append h (w ++ (d ∷ v)), length-append w (d ∷ v)) in
          pass_makes (inside (part_head k) b) _ _ (rw x tt)
          (bind_makes (number_from (part_head k ∷ []) p b) (λ n. bind (body k n) (then_next j)) (y p)
          (bind_makes (body k n) (then_next j) (body_make I k r c)
          (map_makes (λ ds. cs ++ ds) (chunks k (suc j)) (byte_makes (chunk k (chunks k j)) d (z j i)))))

  string_by : {w cs : List ℕ} → String k w cs → (c : C) → LedBy w cs c
  string_by (last_chunk {n = n} {h = h} {w = w} {cs = cs} y r) c =
      last_make h n w cs c (number_makes I y (heads_proper k).0 c) (last_first k y) r
  string_by (chunk_before {n = n} {h = h} {w = w} {cs = cs} {v = v} {ds = ds} y r z) c =
      part_make h n w cs v ds c (number_makes I y (heads_proper k).1 c) (part_first (part_head k) y) r (string_by z c)

  -- a string is read as its content, whatever stands after it
  abbrev pub StringLed : List ℕ → List ℕ → C → Type 0
  StringLed w cs c = Leads {I = I} (string_from k) c w cs [] c

  pub string_makes : {w cs : List ℕ} → String k w cs → (c : C) → StringLed w cs c
  unfolding string_from
  string_makes {w} {cs} x c = go w (string_by x c)
    where
      go : (w : List ℕ) → LedBy w cs c → StringLed w cs c
      go [] h = h
      go (b ∷ t) h = λ p. bound_makes (λ j. chunk k (chunks k j) p b) (λ j l. h j l p)

-- ---- a string's bytes
-- a string is bytes, and at least one
pub string_bytes : {k : Encoding} {w cs : List ℕ} → String k w cs → Bytes w
string_bytes {k} (last_chunk {h = h} {w = w} y r) = bytes_append h w (number_bytes y (heads_proper k).0) (body_bytes r)
string_bytes {k} (chunk_before {h = h} {w = w} {v = v} y r x) =
    bytes_append h (w ++ v) (number_bytes y (heads_proper k).1) (bytes_append w v (body_bytes r) (string_bytes x))

pub string_some : {k : Encoding} {w cs : List ℕ} → String k w cs → 0 < length w
string_some (last_chunk y r) = rw length-append (omega (arith, number_some y))
string_some (chunk_before y r x) = rw length-append (omega (arith, number_some y))

-- ---- what is known, and what the items are, does not matter
module _ {C I : Type 0} (c : C) where
  ranged_lifts : {A : Type 0} (o lo hi : ℕ) {f : ℕ → Read C I A} {g : ℕ → Read One One A}
      → ((b : ℕ) → Lifts c (f b) (g b)) → Lifts {I = I} c (ranged o lo hi f) (ranged o lo hi g)
  ranged_lifts o lo hi h = byte_lifts c (λ p b. test_lifts c (within lo hi b) (h b) (fail_lifts c 4 o))

  continued_lifts : (o n lo hi : ℕ) → Lifts {I = I} c (continued o n lo hi) (continued o n lo hi)
  continued_lifts o zero lo hi = give_lifts c []
  continued_lifts o (suc n) lo hi =
      ranged_lifts o lo hi (λ b. map_lifts c (λ cs. b ∷ cs) (continued_lifts o n 0x80 0xc0))

  pair_lifts : (o d : ℕ) → Lifts {I = I} c (pair_of o d) (pair_of o d)
  pair_lifts o d =
      ranged_lifts o 0x80 0xc0 (λ x. ranged_lifts o 0xed 0xee (λ e.
      ranged_lifts o 0xb0 0xc0 (λ y. ranged_lifts o 0x80 0xc0 (λ z. give_lifts c (paired d x y z)))))

  chained_lifts : (front : List ℕ) {f g : Read C I (List ℕ)} {f' g' : Read One One (List ℕ)} → Lifts c f f'
      → Lifts c g g' → Lifts c (chained front f g) (chained front f' g')
  chained_lifts front h k = bind_lifts c h (λ cs. map_lifts c (λ ds. front ++ (cs ++ ds)) k)

  -- after a character of two units, if it may stand there
  data LiftsIf : Option (Read C I (List ℕ)) → Option (Read One One (List ℕ)) → Type 0 where
    neither : LiftsIf none none
    both : {f : Read C I (List ℕ)} {g : Read One One (List ℕ)} → Lifts c f g → LiftsIf (some f) (some g)

  high_lifts : (p d : ℕ) {f : Option (Read C I (List ℕ))} {g : Option (Read One One (List ℕ))} → LiftsIf f g
      → Lifts c (pair_then p d f) (pair_then p d g)
  high_lifts p d neither = fail_lifts c 4 p
  high_lifts p d (both k) = chained_lifts [] (pair_lifts p d) k

  character_lifts : (l : CharLead) {f : Read C I (List ℕ)} {g : Read One One (List ℕ)}
      {f' : Option (Read C I (List ℕ))} {g' : Option (Read One One (List ℕ))} → Lifts c f g → LiftsIf f' g' → (p b : ℕ)
      → Lifts c (character l f f' p b) (character l g g' p b)
  character_lifts (Basic j lo hi) h k p b = chained_lifts (b ∷ []) (continued_lifts p j lo hi) h
  character_lifts (Supplementary lo hi) h neither p b = fail_lifts c 4 p
  character_lifts (Supplementary lo hi) h (both k) p b = chained_lifts (b ∷ []) (continued_lifts p 3 lo hi) k
  character_lifts Halved h k p b = byte_lifts c (λ q d.
      test_lifts c (within 0x80 0xa0 d) (chained_lifts (b ∷ d ∷ []) (continued_lifts p 1 0x80 0xc0) h)
      (test_lifts c (within 0xa0 0xb0 d) (high_lifts p d k) (fail_lifts c 4 p)))
  character_lifts NoChar h k p b = fail_lifts c 4 p

  characters_lifts : (n : ℕ) → Lifts {I = I} c (characters n) (characters n)
  characters_lifts zero = give_lifts c []
  characters_lifts (suc zero) = byte_lifts c (λ p b. character_lifts (char_lead b) (characters_lifts zero) neither p b)
  characters_lifts (suc (suc n)) =
      byte_lifts c (λ p b. character_lifts (char_lead b) (characters_lifts (suc n)) (both (characters_lifts n)) p b)

  octets_lifts : (n : ℕ) → Lifts {I = I} c (octets n) (octets n)
  octets_lifts zero = give_lifts c []
  octets_lifts (suc n) = byte_lifts c (λ p b. map_lifts c (λ cs. b ∷ cs) (octets_lifts n))

  pub body_lifts : (k : Encoding) (n : ℕ) → Lifts {I = I} c (body k n) (body k n)
  body_lifts Utf8 n = characters_lifts n
  body_lifts Binary n = octets_lifts n

  chunk_lifts : (k : Encoding) {f : Read C I (List ℕ)} {g : Read One One (List ℕ)} → Lifts c f g → (p b : ℕ)
      → Lifts c (chunk k f p b) (chunk k g p b)
  chunk_lifts k h p b =
      test_lifts c (inside (part_head k) b)
      (bind_lifts c (number_lifts c (part_head k ∷ []) p b)
      (λ n. bind_lifts c (body_lifts k n) (λ cs. map_lifts c (λ ds. cs ++ ds) h)))
      (bind_lifts c (number_lifts c (last_heads k) p b) (body_lifts k))

  chunks_lifts : (k : Encoding) (j : ℕ) → Lifts {I = I} c (chunks k j) (chunks k j)
  chunks_lifts k zero = record { lifts = λ at s. refl }
  chunks_lifts k (suc j) = byte_lifts c (chunk_lifts k (chunks_lifts k j))

  pub string_lifts : (k : Encoding) (p b : ℕ) → Lifts {I = I} c (string_from k p b) (string_from k p b)
  unfolding string_from
  string_lifts k p b = record { lifts = λ at s. (chunk_lifts k (chunks_lifts k (length s)) p b).lifts at s }

-- Scalars: what the layer above uses of their forms.
use Rattle.std.specs.Prelude.{◌≡◌, Bool, true, false, cond, not, ℕ, ◌+◌, ◌≤◌, ◌<◌, T, ltb, eqb, pos, length}
use Rattle.std.proofs.Math.Path.{refl}
use Rattle.std.proofs.Common.{sym, ◌∙◌, ap, subst, arith, eqb→eq, le-leb}
use mathlib.Core.List.{List, [], ◌∷◌, ◌++◌}
use Rattle.std.proofs.Math.Option.{Option, none, some}
use Rattle.flow.specs.Tests.{by_test, pass, every, every_at, implies, implied, within_yes, First}
use Rattle.flow.specs.Flow.{pick, Bytes, Read, Fault, mapped}
use Rattle.flow.specs.Laws.{Parsed, maps, Quiet, quiet, quietly, Makes, map_makes, Leads}
use Rattle.scalar.specs.declared.Sort.{Sort}
use Rattle.scalar.specs.declared.Sort.TheVariants as sort
use Rattle.scalar.specs.declared.Encoding.{Encoding}
use Rattle.scalar.specs.declared.Encoding.TheVariants.{Utf8, Binary}
use Rattle.scalar.specs.declared.Lead.{Lead}
use Rattle.scalar.specs.declared.Lead.TheVariants as lead
use Rattle.scalar.specs.Scalars.{DoubleRule, Floats, Form, compact, inside, forms_of, number_under, number_from}
use Rattle.scalar.specs.Scalars.{fits}
use Rattle.scalar.specs.Scalars.{shortest, part_head}
use Rattle.scalar.specs.Scalars.{last_heads, string_from, shortest_string, Scalar, Num, Str, begins}
use Rattle.scalar.specs.Scalars.{is_text, scalar_from, int_from, text_from, shortest_scalar, shortest_int}
use Rattle.scalar.specs.Scalars.{shortest_text}
use Rattle.scalar.specs.Chart.{ranges, range_of, lead_of, kind_of}
use Rattle.scalar.specs.Grammar.{held, NumberUnder, here, later, String, last_chunk, chunk_before}
use Rattle.scalar.specs.Grammar.{SpeltUnder, Spelt}
use Rattle.scalar.specs.Grammar.{a_number, a_string, Int, Text}
use Rattle.scalar.proofs.ChartLaws.{kind_is}
use Rattle.scalar.proofs.ByChart.{scalar_by, kind_shut, scalar_by_law, text_told}
use Rattle.scalar.specs.Guesses.{guess}
use Rattle.scalar.proofs.NumberLaws.{LedUnder, number_bytes, number_some, number_scans, number_makes, NumberLed}
use Rattle.scalar.proofs.NumberLaws.{shortest_is, IsNumber}
use Rattle.scalar.proofs.Sorts.{properly, none_shorter, int_ranges}
use Rattle.scalar.proofs.TextLaws.{string_bytes, string_scans, string_makes, StringLed}
use Rattle.scalar.proofs.TextShort.{string_short, string_is, IsString}

-- the byte opens a scalar
abbrev pub is_scalar : ℕ → Bool
is_scalar b = ltb (kind_of (lead_of b)) 9

-- 5a and the reserved bytes open none
module _ (b : ℕ) where
  pub close_shut : lead_of b ≡ lead.Close → is_scalar b ≡ false
  unfolding kind_of
  close_shut e = rw e refl

  pub reserved_shut : lead_of b ≡ lead.Reserved → is_scalar b ≡ false
  unfolding kind_of
  reserved_shut e = rw e refl

-- ---- the first byte says what the scalar is
number_begins : {ρ : DoubleRule} {ws : List Form} {t : List ℕ} {v : ℕ} → NumberUnder ρ ws t v
    → First (λ b. T (begins ws b)) t
number_begins (here {w = w} (held q t l e i)) =
    rw (within_yes w.head (w.head + w.codes) (w.head + q) (omega arith) (omega arith)) tt
number_begins (later {w = w} {ws = ws} {t = t} n) = go t (number_begins n)
  where
    go : (t : List ℕ) → First (λ b. T (begins ws b)) t → First (λ b. T (begins (w ∷ ws) b)) t
    go [] h = h
    go (b ∷ t) h = by_test T (inside w b) (λ x. tt) (λ x. h)

-- what a scalar's first byte opens, and the forms it may begin
abbrev pub lead_for : Scalar → Lead
lead_for (Num s v) = lead.Number s
lead_for (Str Utf8 cs) = lead.Text
lead_for (Str Binary cs) = lead.Bytes

abbrev kind_lead : Encoding → Lead
kind_lead Utf8 = lead.Text
kind_lead Binary = lead.Bytes

abbrev agrees : Lead → List Form → ℕ → Bool
agrees x ws b = implies (begins ws b) (eqb (kind_of (lead_of b)) (kind_of x))

sorts_agree : (s : Sort) → T (every 256 (agrees (lead.Number s) (forms_of s)))
unfolding forms_of kind_of lead_of range_of ranges pick
sorts_agree sort.Null = tt
sorts_agree sort.False = tt
sorts_agree sort.True = tt
sorts_agree sort.Int = tt
sorts_agree sort.Long = tt
sorts_agree sort.Double = tt
sorts_agree sort.Date = tt

kinds_agree : (k : Encoding) → T (every 256 (agrees (kind_lead k) (part_head k ∷ last_heads k)))
unfolding part_head last_heads kind_of lead_of range_of ranges pick
kinds_agree Utf8 = tt
kinds_agree Binary = tt

agreed : (x : Lead) (ws : List Form) → T (every 256 (agrees x ws)) → (b : ℕ) → b < 256 → T (begins ws b) → lead_of b ≡ x
agreed x ws h b l t =
    kind_is (lead_of b) x
    (eqb→eq (kind_of (lead_of b)) (kind_of x)
    (implied (begins ws b) (eqb (kind_of (lead_of b)) (kind_of x)) (every_at 256 (agrees x ws) h b l) t))

first_lead : (x : Lead) (ws : List Form) → T (every 256 (agrees x ws)) → (w : List ℕ) → Bytes w
    → First (λ b. T (begins ws b)) w → First (λ b. (b < 256) × (lead_of b ≡ x)) w
first_lead x ws h [] l t = t
first_lead x ws h (b ∷ w) l t = (l.0, agreed x ws h b l.0 t)

-- a chunk's head begins with one of the heads of its kind
heads_begin : (k : Encoding) (h rest : List ℕ) → First (λ b. T (begins (last_heads k) b)) h
    → First (λ b. T (begins (part_head k ∷ last_heads k) b)) (h ++ rest)
heads_begin k [] rest t = absurd t
heads_begin k (b ∷ h) rest t = by_test T (inside (part_head k) b) (λ x. tt) (λ x. t)

part_begins : (k : Encoding) (h rest : List ℕ) → First (λ b. T (begins (part_head k ∷ []) b)) h
    → First (λ b. T (begins (part_head k ∷ last_heads k) b)) (h ++ rest)
part_begins k [] rest t = absurd t
part_begins k (b ∷ h) rest t = go (inside (part_head k) b) t
  where
    go : (x : Bool) → T (cond x true false) → T (cond x true (begins (last_heads k) b))
    go true t = tt
    go false t = absurd t

string_begins : {k : Encoding} {w cs : List ℕ} → String k w cs → First (λ b. T (begins (part_head k ∷ last_heads k) b)) w
string_begins {k} (last_chunk {h = h} {w = w} y r) = heads_begin k h w (number_begins y)
string_begins {k} (chunk_before {h = h} {w = w} {v = v} y r x) = part_begins k h (w ++ v) (number_begins y)

-- a form of a scalar is bytes
pub int_bytes : {w : List ℕ} {v : ℕ} → Int w v → Bytes w
int_bytes n = number_bytes n (properly sort.Int)

pub text_bytes : {w cs : List ℕ} → Text w cs → Bytes w
text_bytes x = string_bytes x

pub scalar_bytes : {ρ : DoubleRule} {w : List ℕ} {x : Scalar} → SpeltUnder ρ w x → Bytes w
scalar_bytes (a_number {s = s} n) = number_bytes n (properly s)
scalar_bytes (a_string x) = string_bytes x

lead_of_string : (k : Encoding) (cs : List ℕ) → kind_lead k ≡ lead_for (Str k cs)
lead_of_string Utf8 cs = refl
lead_of_string Binary cs = refl

-- and its first byte says what it is
pub scalar_first : {ρ : DoubleRule} {w : List ℕ} {x : Scalar} → SpeltUnder ρ w x
    → First (λ b. (b < 256) × (lead_of b ≡ lead_for x)) w
scalar_first (a_number {s = s} {w = w} n) =
    first_lead (lead.Number s) (forms_of s) (sorts_agree s) w (number_bytes n (properly s)) (number_begins n)
scalar_first (a_string {k = k} {w = w} {cs = cs} x) =
    subst (λ (y : Lead). First (λ b. (b < 256) × (lead_of b ≡ y)) w) (lead_of_string k cs)
    (first_lead (kind_lead k) (part_head k ∷ last_heads k) (kinds_agree k) w (string_bytes x) (string_begins x))

first_only : (P Q : ℕ → Type 0) → ((b : ℕ) → P b → Q b) → (w : List ℕ) → First P w → First Q w
first_only P Q h [] p = p
first_only P Q h (b ∷ w) p = h b p

scalar_kind_law : (x : Scalar) → T (ltb (kind_of (lead_for x)) 9)
unfolding kind_of
scalar_kind_law (Num sort.Null v) = tt
scalar_kind_law (Num sort.False v) = tt
scalar_kind_law (Num sort.True v) = tt
scalar_kind_law (Num sort.Int v) = tt
scalar_kind_law (Num sort.Long v) = tt
scalar_kind_law (Num sort.Double v) = tt
scalar_kind_law (Num sort.Date v) = tt
scalar_kind_law (Str Utf8 cs) = tt
scalar_kind_law (Str Binary cs) = tt

pub scalar_owned : {ρ : DoubleRule} {w : List ℕ} {x : Scalar} → SpeltUnder ρ w x
    → First (λ b. (b < 256) × T (is_scalar b)) w
scalar_owned {w} {x} y =
    first_only (λ b. (b < 256) × (lead_of b ≡ lead_for x)) (λ b. (b < 256) × T (is_scalar b))
    (λ b h. (h.0, rw h.1 (scalar_kind_law x))) w (scalar_first y)

pub text_first : {w cs : List ℕ} → Text w cs → First (λ b. T (is_text b)) w
text_first x = string_begins x

pub int_first : {w : List ℕ} {v : ℕ} → Int w v → First (λ b. T (not (is_text b))) w
unfolding kind_of
int_first {w} n =
    first_only (λ b. (b < 256) × (lead_of b ≡ lead.Number sort.Int)) (λ b. T (not (is_text b)))
    (λ b h. rw (text_told b, h.1) tt) w (scalar_first (a_number {s = sort.Int} n))

-- ---- reading and the grammar
module _ {C : Type 0} (I : Type 0) where
  number_part : (ρ : DoubleRule) (s : Sort) (p b : ℕ) (c : C) (at : ℕ) (t : List ℕ) → Bytes t
      → Parsed {I = I} (Quiet (λ w x. SpeltUnder ρ (b ∷ w) x) c) t
      (mapped (Num s) (number_under ρ (forms_of s) p b) c at t)
  number_part ρ s p b c at t l = maps (Quiet (λ w x. SpeltUnder ρ (b ∷ w) x) c) (Num s) t
      (number_under ρ (forms_of s) p b c at t)
      (quietly (λ w v. NumberUnder ρ (forms_of s) (b ∷ w) v)
      (λ w v is c'. Quiet (λ w x. SpeltUnder ρ (b ∷ w) x) c w (Num s v) is c') c t (λ w v n. quiet (a_number n))
      (number_under ρ (forms_of s) p b c at t) (number_scans I ρ (forms_of s) p b c at t l))

  string_part : (ρ : DoubleRule) (k : Encoding) (p b : ℕ) (c : C) (at : ℕ) (t : List ℕ) → Bytes t
      → Parsed {I = I} (Quiet (λ w x. SpeltUnder ρ (b ∷ w) x) c) t (mapped (Str k) (string_from k p b) c at t)
  string_part ρ k p b c at t l = maps (Quiet (λ w x. SpeltUnder ρ (b ∷ w) x) c) (Str k) t (string_from k p b c at t)
      (quietly (λ w cs. String k (b ∷ w) cs)
      (λ w cs is c'. Quiet (λ w x. SpeltUnder ρ (b ∷ w) x) c w (Str k cs) is c') c t
      (λ w cs n. quiet (a_string n)) (string_from k p b c at t) (string_scans I k p b c at t l))

  pub scalar_scans : (ρ : DoubleRule) (p b : ℕ) (c : C) (at : ℕ) (s : List ℕ) → Bytes s
      → Parsed {I = I} (Quiet (λ w x. SpeltUnder ρ (b ∷ w) x) c) s (scalar_from ρ p b c at s)
  scalar_scans ρ p b c at s l =
      subst (Parsed {I = I} (Quiet (λ w x. SpeltUnder ρ (b ∷ w) x) c) s) (sym (scalar_by_law ρ p b c at s)) (go (lead_of b))
    where
      go : (x : Lead) → Parsed {I = I} (Quiet (λ w x. SpeltUnder ρ (b ∷ w) x) c) s (scalar_by ρ x p b c at s)
      go (lead.Number t) = number_part ρ t p b c at s l
      go lead.Text = string_part ρ Utf8 p b c at s l
      go lead.Bytes = string_part ρ Binary p b c at s l
      go lead.List = tt
      go lead.TypedList = tt
      go lead.Map = tt
      go lead.TypedMap = tt
      go lead.Object = tt
      go lead.Reference = tt
      go lead.Definition = tt
      go lead.Close = tt
      go lead.Reserved = tt

  pub int_scans : (p b : ℕ) (c : C) (at : ℕ) (s : List ℕ) → Bytes s
      → Parsed {I = I} (Quiet (λ w v. Int (b ∷ w) v) c) s (int_from p b c at s)
  unfolding int_from
  int_scans p b c at s l = number_scans I Floats (forms_of sort.Int) p b c at s l

  pub text_scans : (p b : ℕ) (c : C) (at : ℕ) (s : List ℕ) → Bytes s
      → Parsed {I = I} (Quiet (λ w cs. Text (b ∷ w) cs) c) s (text_from p b c at s)
  unfolding text_from
  text_scans p b c at s l = string_scans I Utf8 p b c at s l

  made_as : (f g : Read C I Scalar) {c c' : C} {w : List ℕ} {x : Scalar} {is : List I}
      → ((at : ℕ) (s : List ℕ) → f c at s ≡ g c at s) → Makes g c w x is c' → Makes f c w x is c'
  made_as f g {c} {c'} {w} e h =
      record { makes = λ at s. ((h.makes at s).0, e at (w ++ s) ∙ (h.makes at s).1, (h.makes at s).2) }

  -- by the lead that its first byte has
  by_lead : (ρ : DoubleRule) (x : Scalar) (c : C) (w : List ℕ) → First (λ b. (b < 256) × (lead_of b ≡ lead_for x)) w
      → Leads {I = I} (scalar_by ρ (lead_for x)) c w x [] c → Leads {I = I} (scalar_from ρ) c w x [] c
  by_lead ρ x c [] f h = h
  by_lead ρ x c (b ∷ w) f h =
      λ p. made_as (scalar_from ρ p b) (scalar_by ρ (lead_for x) p b)
      (λ at s. scalar_by_law ρ p b c at s ∙ ap (λ (y : Lead). scalar_by ρ y p b c at s) f.1) (h p)

  number_leads : (ρ : DoubleRule) (s : Sort) (v : ℕ) (c : C) (w : List ℕ) → LedUnder I ρ (forms_of s) w v c
      → Leads {I = I} (scalar_by ρ (lead.Number s)) c w (Num s v) [] c
  number_leads ρ s v c [] h = h
  number_leads ρ s v c (b ∷ w) h = λ p. map_makes (Num s) (number_under ρ (forms_of s) p b) (h p)

  string_leads : (ρ : DoubleRule) (k : Encoding) (cs : List ℕ) (c : C) (w : List ℕ) → StringLed I k w cs c
      → Leads {I = I} (scalar_by ρ (lead_for (Str k cs))) c w (Str k cs) [] c
  string_leads ρ Utf8 cs c [] h = h
  string_leads ρ Utf8 cs c (b ∷ w) h = λ p. map_makes (Str Utf8) (string_from Utf8 p b) (h p)
  string_leads ρ Binary cs c [] h = h
  string_leads ρ Binary cs c (b ∷ w) h = λ p. map_makes (Str Binary) (string_from Binary p b) (h p)

  pub scalar_makes : {ρ : DoubleRule} {w : List ℕ} {x : Scalar} → SpeltUnder ρ w x → (c : C)
      → Leads {I = I} (scalar_from ρ) c w x [] c
  scalar_makes {ρ} (a_number {s = s} {w = w} {v = v} n) c =
      by_lead ρ (Num s v) c w (scalar_first (a_number n)) (number_leads ρ s v c w (number_makes I n (properly s) c))
  scalar_makes {ρ} (a_string {k = k} {w = w} {cs = cs} x) c =
      by_lead ρ (Str k cs) c w (scalar_first {ρ = ρ} (a_string x)) (string_leads ρ k cs c w (string_makes I k x c))

  pub int_makes : {w : List ℕ} {v : ℕ} → Int w v → (c : C) → Leads {I = I} int_from c w v [] c
  unfolding int_from
  int_makes {w} {v} n c = go w (number_makes I n (properly sort.Int) c)
    where
      go : (w : List ℕ) → NumberLed I (forms_of sort.Int) w v c
          → Leads {I = I} (λ p b. number_from (forms_of sort.Int) p b) c w v [] c
      go [] h = h
      go (b ∷ w) h = h

  pub text_makes : {w cs : List ℕ} → Text w cs → (c : C) → Leads {I = I} text_from c w cs [] c
  unfolding text_from
  text_makes {w} {cs} n c = go w (string_makes I Utf8 n c)
    where
      go : (w : List ℕ) → StringLed I Utf8 w cs c → Leads {I = I} (λ p b. string_from Utf8 p b) c w cs [] c
      go [] h = h
      go (b ∷ w) h = h

  -- a byte that opens no scalar
  pub scalar_shut : (ρ : DoubleRule) (e : ℕ) → T (not (is_scalar e)) → (p : ℕ) (c : C) (at : ℕ) (s : List ℕ)
      → scalar_from {I = I} ρ p e c at s ≡ Fault 3 p
  scalar_shut ρ e h p c at s = scalar_by_law ρ p e c at s ∙ kind_shut ρ p e c at s (lead_of e) h

-- ---- the shortest form, by what the scalar is
pub number_shortest : (s : Sort) (v : ℕ) → shortest_scalar (Num s v) ≡ shortest (forms_of s) v
unfolding shortest_scalar
number_shortest s v = refl

pub string_shortest : (k : Encoding) (cs : List ℕ) → shortest_scalar (Str k cs) ≡ shortest_string k cs
unfolding shortest_scalar
string_shortest k cs = refl

-- ---- no form is shorter than the shortest, and the shortest is a form
abbrev pub Is : (List ℕ → Type 0) → Option (List ℕ) → Type 0
Is P none = Unit {0}
Is P (some w) = P w

pub scalar_short : {w : List ℕ} {x : Scalar} → Spelt w x
    → (b : List ℕ) × (shortest_scalar x ≡ some b) × (length b ≤ length w)
unfolding shortest_scalar
scalar_short (a_number {s = s} n) = none_shorter s n
scalar_short (a_string x) = string_short x

pub scalar_is : (x : Scalar) → Is (λ w. Spelt w x) (shortest_scalar x)
unfolding shortest_scalar
scalar_is (Num s v) = go (shortest (forms_of s) v) (shortest_is (forms_of s) v)
  where
    go : (o : Option (List ℕ)) → IsNumber (forms_of s) v o → Is (λ w. Spelt w (Num s v)) o
    go none h = tt
    go (some w) h = a_number h
scalar_is (Str k cs) = go (shortest_string k cs) (string_is k cs)
  where
    go : (o : Option (List ℕ)) → IsString k cs o → Is (λ w. Spelt w (Str k cs)) o
    go none h = tt
    go (some w) h = a_string h

pub int_some : {w : List ℕ} {v : ℕ} → Int w v → 0 < length w
int_some n = number_some n

pub int_short : {w : List ℕ} {v : ℕ} → Int w v → (b : List ℕ) × (shortest_int v ≡ some b) × (length b ≤ length w)
int_short n = none_shorter sort.Int n

pub int_is : (v : ℕ) → Is (λ w. Int w v) (shortest_int v)
int_is v = go (shortest_int v) (shortest_is (forms_of sort.Int) v)
  where
    go : (o : Option (List ℕ)) → IsNumber (forms_of sort.Int) v o → Is (λ w. Int w v) o
    go none h = tt
    go (some w) h = h

pub text_short : {w cs : List ℕ} → Text w cs → (b : List ℕ) × (shortest_text cs ≡ some b) × (length b ≤ length w)
text_short x = string_short x

pub text_is : (cs : List ℕ) → Is (λ w. Text w cs) (shortest_text cs)
text_is cs = go (shortest_text cs) (string_is Utf8 cs)
  where
    go : (o : Option (List ℕ)) → IsString Utf8 cs o → Is (λ w. Text w cs) o
    go none h = tt
    go (some w) h = h

-- a small count takes one byte
pub small_count : (n : ℕ) → n < 48 → shortest_int n ≡ some ((0x90 + n) ∷ [])
unfolding shortest forms_of guess
small_count n l =
    let t : fits (compact 0x80 64 0 0x90) n ≡ true =
    int_ranges.0 (pos n) (record { sfits = omega arith }) ∙ le-leb n 47 (omega arith) in
    pass (fits (compact 0x80 64 0 0x90) n) _ _ (rw t tt) (ap {B = Option (List ℕ)} (λ z. some (z ∷ [])) (omega arith))

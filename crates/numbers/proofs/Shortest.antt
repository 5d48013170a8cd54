-- Which form of a value is its shortest: by the ranges of ints and longs, and by what divides doubles and dates.
use Rattle.std.proofs.Common.{◌≡◌, ℕ, suc, ◌+◌, ◌-◌, ◌*◌, ◌/◌, ◌%◌, ◌^◌, ◌<◌, ◌≤◌, Bool, true, false, ◌&&◌, ltb, List, [], ◌∷◌, ℤ, pos, negsuc, ◌*ℤ◌, neg_ℤ, sym, refl, ap, ◌∙◌, subst, add-zero, arith, w16, w32, w64, Fits, to_z, of_z, le-ltb, lt-ltb, eq-eqb, ne_eqb}
use mathlib.Core.Option.{none, some}
use Rattle.flow.specs.Tests.{split}
use Rattle.wire.specs.BigEndian.{be, high, wider}
use Rattle.wire.specs.Laws.{high_below}
use Rattle.scalar.specs.declared.Sort.TheVariants.{Int, Long, Double, Date}
use Rattle.scalar.specs.declared.Rule.{Rule}
use Rattle.scalar.specs.declared.Rule.TheVariants.{Exactly, Plain, Offset, Signed, Minutes}
use Rattle.scalar.specs.declared.Rule.TheVariants.{WholeByte, WholePair, Float}
use Rattle.scalar.proofs.Signed.{minus_bits}
use Rattle.scalar.proofs.NumberLengths.{signed_held, signed_other, pair_low, widened_low, zero_pair, one_pair}
use Rattle.scalar.proofs.NumberLengths.{pair_guessed, pair_held, byte_as_pair, byte_guessed, byte_held}
use Rattle.scalar.specs.Scalars.{whole, widened, value, Form, form, forms_of, shortest}
use Rattle.scalar.proofs.RuleLaws.{value_exactly, value_offset, value_minutes, value_pair, value_float}
use Rattle.scalar.proofs.RuleLaws.{guess_exactly, guess_offset, guess_signed}
use Rattle.scalar.proofs.FormLaws.{forms_int, forms_long, forms_double, forms_date, shortest_first}
use Rattle.scalar.specs.Guesses.{guess}
use Rattle.numbers.specs.declared.stores.Codes.{Codes}
use Rattle.numbers.specs.Answers.{single_form, HasCodes}
use Rattle.numbers.proofs.Writing.{below, held_yes, held_not, plain_holds, last_found}

-- ---- null, false and true
module _ (code v : ℕ) where
  pub single_held : v ≡ 0 → shortest (single_form code) v ≡ some (code ∷ [])
  single_held e = sym (last_found (form code 1 0 (Exactly 0)) v
      (held_yes code 0 (Exactly 0) v 0 0 (sym (guess_exactly v 0)) (sym (value_exactly 0 0)) (omega arith) (sym e)))

  pub single_other : (v ≡ 0 → ⊥) → shortest (single_form code) v ≡ none
  single_other e = sym (last_found (form code 1 0 (Exactly 0)) v
      (held_not code 0 (Exactly 0) v 0 0 (sym (guess_exactly v 0)) (sym (value_exactly 0 0)) (omega arith)
      (λ q. e (sym q))))

-- ---- ints and longs: a form of a number less a zero holds v, or it does not
module _ (head codes extra zero v u : ℕ) (ws : List Form) (e : u ≡ (v + zero) % 2 ^ 64) where
  offset_not : wider extra codes ≤ u → shortest (form head codes extra (Offset zero) ∷ ws) v ≡ shortest ws v
  offset_not h =
      let past = split (high extra u) codes (λ x. let y = below extra u codes x in absurd (omega arith)) (λ x. x) in
      shortest_first v (form head codes extra (Offset zero)) ws
      ∙ rw (guess_offset v zero, ← e, le-ltb (high extra u) codes past)

  offset_is : v < 2 ^ 64 → zero ≤ 2 ^ 18 → wider extra codes ≤ 2 ^ 19 → u < wider extra codes
      → shortest (form head codes extra (Offset zero) ∷ ws) v ≡ some ((head + high extra u) ∷ be extra u)
  offset_is l z f h =
      let q : value (Offset zero) u ≡ v =
      value_offset u zero ∙ minus_bits u zero (omega arith) (omega arith) ∙ omega arith in
      shortest_first v (form head codes extra (Offset zero)) ws
      ∙ rw (guess_offset v zero, ← e, lt-ltb (high extra u) codes (high_below extra u codes h), eq-eqb _ v q)

-- which codes they have
abbrev pub int_codes : HasCodes
    (record { sort = Int; one = 0x80; count = 64; zero = 0x10; two = 0xc0; three = 0xd0; five = 0x49 })
int_codes = record {
  others = [];
  forms = forms_int;
  one_fits = omega arith;
  zero_fits = omega arith;
  two_fits = omega arith;
  three_fits = omega arith;
}

abbrev pub long_codes : HasCodes
    (record { sort = Long; one = 0xd8; count = 24; zero = 8; two = 0xf0; three = 0x38; five = 0x59 })
long_codes = record {
  others = form 0x4c 1 8 Plain ∷ [];
  forms = forms_long;
  one_fits = omega arith;
  zero_fits = omega arith;
  two_fits = omega arith;
  three_fits = omega arith;
}

-- ---- a form that stands for another value
and_false : (t : Bool) → (t && false) ≡ false
and_false true = refl
and_false false = refl

not_held : (w : Form) (ws : List Form) (v : ℕ) → (value w.rule (guess w.rule v) ≡ v → ⊥)
    → shortest (w ∷ ws) v ≡ shortest ws v
not_held w ws v n =
    let u = guess w.rule v in
    shortest_first v w ws
    ∙ rw (ne_eqb (value w.rule u) v n, and_false (ltb (high w.extra u) w.codes))

-- the form of all 64 bits
pub plain_held : (head v : ℕ) → v < 2 ^ 64 → shortest (form head 1 8 Plain ∷ []) v ≡ some (head ∷ be 8 v)
plain_held head v l = sym (last_found (form head 1 8 Plain) v (plain_holds head v l))

-- a form of one code that stands for v
is_held : (head extra : ℕ) (r : Rule) (ws : List Form) (v u : ℕ) → guess r v ≡ u → value r u ≡ v → high extra u ≡ 0
    → shortest (form head 1 extra r ∷ ws) v ≡ some (head ∷ be extra u)
is_held head extra r ws v u g e z =
    shortest_first v (form head 1 extra r) ws ∙ rw (g, z, eq-eqb (value r u) v e, add-zero head)

-- ---- ints and longs: one form after the other
module _ {c : Codes} (k : HasCodes c) (v : ℕ) (l : Fits w64 v) {x : ℕ} (ex : x ≡ (v + c.zero) % 2 ^ 64) where
  pub whole_one : x < c.count → shortest (forms_of c.sort) v ≡ some ((c.one + x) ∷ [])
  whole_one h =
      let few = k.one_fits in
      let low = k.zero_fits in
      rw k.forms (offset_is c.one c.count 0 c.zero v x _ ex l.fits (omega arith) (omega arith) h)

  not_one : (ws : List Form) → c.count ≤ x
      → shortest (form c.one c.count 0 (Offset c.zero) ∷ ws) v ≡ shortest ws v
  not_one ws n = offset_not c.one c.count 0 c.zero v x ws ex n

  module _ (nx : c.count ≤ x) {y : ℕ} (ey : y ≡ (v + 0x800) % 2 ^ 64) where
    pub whole_two : y < 0x1000 → shortest (forms_of c.sort) v ≡ some ((c.two + y / 256) ∷ (y % 256) ∷ [])
    whole_two h = rw (k.forms, not_one _ nx)
        (offset_is c.two 16 1 0x800 v y _ ey l.fits (omega arith) (omega arith) h)

    module _ (ny : 0x1000 ≤ y) {z : ℕ} (ez : z ≡ (v + 0x4_0000) % 2 ^ 64) where
      pub whole_three : z < 0x8_0000
          → shortest (forms_of c.sort) v ≡ some ((c.three + z / 256 / 256) ∷ (z / 256 % 256) ∷ (z % 256) ∷ [])
      whole_three h = rw (k.forms, not_one _ nx, offset_not c.two 16 1 0x800 v y _ ey ny)
          (offset_is c.three 8 2 0x4_0000 v z _ ez l.fits (omega arith) (omega arith) h)

      not_three : 0x8_0000 ≤ z → shortest (forms_of c.sort) v ≡ shortest (form c.five 1 4 Signed ∷ k.others) v
      not_three nz = rw (k.forms, not_one _ nx, offset_not c.two 16 1 0x800 v y _ ey ny)
          (offset_not c.three 8 2 0x4_0000 v z _ ez nz)

      module _ (nz : 0x8_0000 ≤ z) where
        pub whole_five : (v + 2 ^ 31) % 2 ^ 64 < 2 ^ 32 → shortest (forms_of c.sort) v ≡ some (c.five ∷ be 4 (v % 2 ^ 32))
        whole_five h =
            let e = rw (guess_signed v) at (signed_held v l.fits h) in
            let above : high 4 (v % 2 ^ 32) ≡ 0 = omega arith in
            not_three nz ∙ is_held c.five 4 Signed k.others v (v % 2 ^ 32) (guess_signed v) e above

        pub not_five : 2 ^ 32 ≤ (v + 2 ^ 31) % 2 ^ 64 → shortest (forms_of c.sort) v ≡ shortest k.others v
        not_five h =
            not_three nz ∙ not_held (form c.five 1 4 Signed) k.others v (signed_other v l.fits h)

-- a long that 32 bits with a sign don't hold
pub long_wide : (v : ℕ) → Fits w64 v → 2 ^ 32 ≤ (v + 2 ^ 31) % 2 ^ 64 → shortest (forms_of Long) v ≡ some (0x4c ∷ be 8 v)
long_wide v l h =
    not_five long_codes v l refl (omega (arith, l.fits)) refl (omega (arith, l.fits)) refl (omega (arith, l.fits)) h
    ∙ plain_held 0x4c v l.fits

-- ---- dates: minutes are multiples of 32 milliseconds
minutes_low : (z : ℤ) → of_z w64 (z *ℤ pos 60_000) % 32 ≡ 0
minutes_low (pos a) = omega arith
minutes_low (negsuc a) = subst (λ (n : ℕ). of_z w64 (neg_ℤ (pos n)) % 32 ≡ 0) e (low (a * 60_000 + 59_999) (omega arith))
  where
    e : suc (a * 60_000 + 59_999) ≡ suc a * 60_000
    e = omega arith

    low : (m : ℕ) → suc m % 32 ≡ 0 → (2 ^ 64 - suc m) % 32 ≡ 0
    low m h = omega arith

module _ (v : ℕ) where
  pub date_minutes : (u : ℕ) → guess Minutes v ≡ u → u < 2 ^ 32 → value Minutes u ≡ v
      → shortest (forms_of Date) v ≡ some (0x4b ∷ be 4 u)
  date_minutes u g l e = rw forms_date (is_held 0x4b 4 Minutes _ v u g e (omega arith))

  pub date_plain : Fits w64 v → (value Minutes (guess Minutes v) ≡ v → ⊥)
      → shortest (forms_of Date) v ≡ some (0x4a ∷ be 8 v)
  date_plain l h =
      rw forms_date (not_held (form 0x4b 1 4 Minutes) (form 0x4a 1 8 Plain ∷ []) v h ∙ plain_held 0x4a v l.fits)

  pub date_wide : Fits w64 v → (v % 32 ≡ 0 → ⊥) → shortest (forms_of Date) v ≡ some (0x4a ∷ be 8 v)
  date_wide l h =
      let low = minutes_low (to_z w32 (guess Minutes v)) in
      date_plain l (λ q. h (ap (λ (x : ℕ). x % 32) (sym q ∙ value_minutes (guess Minutes v)) ∙ low))

-- ---- doubles: those of one to three bytes are the whole numbers of 16 bits
module _ (v : ℕ) where
  not_pair : (value WholePair (guess WholePair v) ≡ v → ⊥)
      → shortest (forms_of Double) v ≡ shortest (form 0x5f 1 4 Float ∷ form 0x44 1 8 Plain ∷ []) v
  not_pair h =
      rw forms_double
      (not_held (form 0x5b 1 0 (Exactly 0)) _ v
      (λ q. h (pair_held 0 v (omega arith) (sym q ∙ value_exactly _ 0 ∙ zero_pair)))
      ∙ not_held (form 0x5c 1 0 (Exactly one)) _ v
      (λ q. h (pair_held 1 v (omega arith) (sym q ∙ value_exactly _ one ∙ one_pair)))
      ∙ not_held (form 0x5d 1 1 WholeByte) _ v
      (λ q. let p = byte_as_pair v q in h (pair_held p.0 v p.1 p.2))
      ∙ not_held (form 0x5e 1 2 WholePair) _ v h)
    where
      one : ℕ
      one = 0x3ff0_0000_0000_0000

  -- a float; neither
  module _ (h : value WholePair (guess WholePair v) ≡ v → ⊥) where
    pub double_float : (u : ℕ) → guess Float v ≡ u → u < 2 ^ 32 → v ≡ widened u
        → shortest (forms_of Double) v ≡ some (0x5f ∷ be 4 u)
    double_float u g l e = not_pair h ∙ is_held 0x5f 4 Float _ v u g (value_float u ∙ sym e) (omega arith)

    pub double_plain : Fits w64 v → (value Float (guess Float v) ≡ v → ⊥)
        → shortest (forms_of Double) v ≡ some (0x44 ∷ be 8 v)
    double_plain l n = not_pair h ∙ not_held (form 0x5f 1 4 Float) _ v n ∙ plain_held 0x44 v l.fits

  -- multiples: whole numbers of 16 bits of 2 ^ 37, floats of 2 ^ 29
  pub pair_not : (v % 2 ^ 37 ≡ 0 → ⊥) → value WholePair (guess WholePair v) ≡ v → ⊥
  pair_not h q = h (ap (λ (x : ℕ). x % 2 ^ 37) (sym q ∙ value_pair _) ∙ pair_low (guess WholePair v))

  pub double_wide : Fits w64 v → (v % 2 ^ 29 ≡ 0 → ⊥) → shortest (forms_of Double) v ≡ some (0x44 ∷ be 8 v)
  double_wide l h = double_plain (pair_not (λ q. h (omega arith))) l
      (λ q. h (ap (λ (x : ℕ). x % 2 ^ 29) (sym q ∙ value_float _) ∙ widened_low (guess Float v)))

-- the whole number of 16 bits u
module _ (u v : ℕ) (l : u < 2 ^ 16) (e : v ≡ whole (to_z w16 u)) where
  -- a value that is no other of such a number
  other_value : (r : Rule) (x : ℕ) {n : ℕ} → value r (guess r v) ≡ n → n ≡ whole (to_z w16 x) → x < 2 ^ 16
      → (u ≡ x → ⊥) → value r (guess r v) ≡ v → ⊥
  other_value r x f g k h q = h (sym (pair_guessed u v l e) ∙ pair_guessed x v k (sym q ∙ f ∙ g))

  pub pair_zero : u ≡ 0 → shortest (forms_of Double) v ≡ some (0x5b ∷ [])
  pair_zero h =
      let z : v ≡ 0 = e ∙ ap (λ (x : ℕ). whole (to_z w16 x)) h ∙ sym zero_pair in
      rw forms_double (is_held 0x5b 0 (Exactly 0) _ v 0 (guess_exactly v 0) (value_exactly 0 0 ∙ sym z) refl)

  not_zero : (ws : List Form) → (u ≡ 0 → ⊥) → shortest (form 0x5b 1 0 (Exactly 0) ∷ ws) v ≡ shortest ws v
  not_zero ws h = not_held _ ws v (other_value (Exactly 0) 0 (value_exactly _ 0) zero_pair (omega arith) h)

  pub pair_one : u ≡ 1 → shortest (forms_of Double) v ≡ some (0x5c ∷ [])
  pair_one h =
      let z : v ≡ 0x3ff0_0000_0000_0000 = e ∙ ap (λ (x : ℕ). whole (to_z w16 x)) h ∙ sym one_pair in
      rw forms_double
      (not_zero _ (λ q. omega arith)
      ∙ is_held 0x5c 0 (Exactly _) _ v 0 (guess_exactly v _) (value_exactly 0 _ ∙ sym z) refl)

  module _ (h : 2 ≤ u) where
    not_exact : (ws : List Form)
        → shortest (form 0x5b 1 0 (Exactly 0) ∷ form 0x5c 1 0 (Exactly 0x3ff0_0000_0000_0000) ∷ ws) v ≡ shortest ws v
    not_exact ws =
        not_zero _ (λ q. omega arith)
        ∙ not_held _ ws v (other_value (Exactly _) 1 (value_exactly _ _) one_pair (omega arith) (λ q. omega arith))

    pub pair_byte : (0x80 ≤ u → u < 0xff80 → ⊥) → shortest (forms_of Double) v ≡ some (0x5d ∷ be 1 (u % 256))
    pair_byte o =
        rw forms_double
        (not_exact _
        ∙ is_held 0x5d 1 WholeByte _ v (u % 256) (byte_guessed u v l e o) (byte_held u v l e o) (omega arith))

    pub pair_only : 0x80 ≤ u → u < 0xff80 → shortest (forms_of Double) v ≡ some (0x5e ∷ be 2 u)
    pair_only i k =
        let g = pair_guessed u v l e in
        rw forms_double
        (not_exact _
        ∙ not_held (form 0x5d 1 1 WholeByte) _ v
        (λ q. let p = byte_as_pair v q in
        let same = sym g ∙ pair_guessed p.0 v p.1 p.2 in p.3 (omega arith) (omega arith))
        ∙ is_held 0x5e 2 WholePair _ v u g (value_pair u ∙ sym e) (omega arith))

-- A value has 64 bits; a content is no longer than the bytes of its form; it has at most two units a byte, and in a
-- form no more units than bytes.
use Rattle.std.specs.Prelude.{List, [], ◌∷◌, ◌++◌, ℕ, ◌*◌, ◌^◌, ◌≤◌, ◌<◌, length, pos, ◌-ℤ◌, ◌*ℤ◌}
use Rattle.std.proofs.Common.{arith, length-append, to_z}
use Rattle.std.specs.Int.{w8, w16, w32, w64}
use mir.ValLaws.{of_z_fits, to_z-Fits}
use Rattle.scalar.specs.declared.Sort.{Sort}
use Rattle.scalar.specs.declared.Sort.TheVariants.{Null, False, True, Int, Long, Double, Date}
use Rattle.scalar.specs.declared.Rule.TheVariants.{Offset, Signed}
use Rattle.scalar.specs.declared.Encoding.{Encoding}
use Rattle.scalar.proofs.Signed.{minus_fits, fits_32, widen_fits, mul_fits}
use Rattle.scalar.proofs.DoubleLaws.{whole_lt, widened_lt}
use Rattle.scalar.specs.Scalars.{value, DoubleRule, Floats, Thousandths, forms_of, units}
use Rattle.scalar.specs.Grammar.{NumberUnder, follows, Char, one_byte, one_unit, below_halves, two_units}
use Rattle.scalar.specs.Grammar.{String, last_chunk, chunk_before}
use Rattle.scalar.proofs.Thousandths.{thousandths_lt}
use Rattle.scalar.proofs.NumberLaws.{EachUnder, EachForm, number_fact}
use Rattle.scalar.proofs.TextUnits.{weight_few, units_append, Content, no_chars, more_chars}
use Rattle.scalar.proofs.TextUnits.{body_content, body_units, body_length}

offset_bits : (k u : ℕ) → u < 2 ^ 63 → k < 2 ^ 63 → value (Offset k) u < 2 ^ 64
unfolding value
offset_bits k u l h = (of_z_fits w64 (pos u -ℤ pos k) (minus_fits u k l (omega arith))).fits

signed_bits : (u : ℕ) → u < 2 ^ 32 → value Signed u < 2 ^ 64
unfolding value
signed_bits u l = (of_z_fits w64 (to_z w32 u) (widen_fits (to_z w32 u) (fits_32 u l))).fits

each_bits : (s : Sort) → EachForm (λ n v. v < 2 ^ 64) (forms_of s)
unfolding forms_of value
each_bits Null = (λ u l. omega arith, tt)
each_bits False = (λ u l. omega arith, tt)
each_bits True = (λ u l. omega arith, tt)
each_bits Int = (
  λ u l. offset_bits 16 u (omega arith) (omega arith),
  (
    λ u l. offset_bits 2048 u (omega arith) (omega arith),
    (λ u l. offset_bits 262144 u (omega arith) (omega arith), (λ u l. signed_bits u (omega arith), tt)),
  ),
)
each_bits Long = (
  λ u l. offset_bits 8 u (omega arith) (omega arith),
  (
    λ u l. offset_bits 2048 u (omega arith) (omega arith),
    (
      λ u l. offset_bits 262144 u (omega arith) (omega arith),
      (λ u l. signed_bits u (omega arith), (λ u l. omega arith, tt)),
    ),
  ),
)
each_bits Double = (
  λ u l. omega arith,
  (
    λ u l. omega arith,
    (
      λ u l. whole_lt (to_z w8 u) (omega (arith, (to_z-Fits w8 u (record { fits = omega arith })).sfits)),
      (
        λ u l. whole_lt (to_z w16 u) (omega (arith, (to_z-Fits w16 u (record { fits = omega arith })).sfits)),
        (λ u l. widened_lt u (omega arith), (λ u l. omega arith, tt)),
      ),
    ),
  ),
)
each_bits Date = (
  λ u l. (of_z_fits w64 (to_z w32 u *ℤ pos 60_000) (mul_fits (to_z w32 u) (fits_32 u (omega arith)))).fits,
  (λ u l. omega arith, tt),
)

each_under : (ρ : DoubleRule) (s : Sort) → EachUnder ρ (λ n v. v < 2 ^ 64) (forms_of s)
unfolding forms_of
each_under Floats s = each_bits s
each_under Thousandths Null = each_bits Null
each_under Thousandths False = each_bits False
each_under Thousandths True = each_bits True
each_under Thousandths Int = each_bits Int
each_under Thousandths Long = each_bits Long
each_under Thousandths Double =
    let b = each_bits Double in (
      b.0,
      (b.1.0, (b.1.1.0, (b.1.1.1.0, (λ u l. thousandths_lt (to_z w32 u), b.1.1.1.1.1)))),
    )
each_under Thousandths Date = each_bits Date

pub number_bits : {ρ : DoubleRule} (s : Sort) {w : List ℕ} {v : ℕ} → NumberUnder ρ (forms_of s) w v → v < 2 ^ 64
number_bits {ρ} s n = number_fact (λ k v. v < 2 ^ 64) n (each_under ρ s)

pub content_length : {k : Encoding} {w cs : List ℕ} → String k w cs → length cs ≤ length w
content_length (last_chunk {h = h} {w = w} n b) = omega (arith, length-append h w, body_length b)
content_length (chunk_before {h = h} {w = w} {cs = cs} {v = v} {ds = ds} n b r) =
    let l = content_length r in
    omega (arith, length-append h (w ++ v), length-append w v, length-append cs ds, body_length b)

pub units_few : (k : Encoding) (cs : List ℕ) → units k cs ≤ 2 * length cs
units_few k [] = omega arith
units_few k (b ∷ cs) = omega (arith, weight_few k b, units_few k cs)

-- what a form holds has no more units than bytes
char_few : {k : Encoding} {u : ℕ} {w : List ℕ} → Char k u w → u ≤ length w
char_few (one_byte l) = omega arith
char_few (one_unit e c) = omega arith
char_few (below_halves e c) = omega arith
char_few (two_units e (follows l h c)) = omega arith

pub content_few : {k : Encoding} {n : ℕ} {cs : List ℕ} → Content k n cs → n ≤ length cs
content_few no_chars = omega arith
content_few (more_chars {w = w} {v = v} c b) = omega (arith, length-append w v, char_few c, content_few b)

pub string_few : {k : Encoding} {w cs : List ℕ} → String k w cs → units k cs ≤ length cs
string_few {k} (last_chunk n b) = omega (arith, body_units b, content_few (body_content b))
string_few {k} (chunk_before {cs = cs} {ds = ds} n b r) =
    let l = content_few (body_content b) in
    omega (arith, units_append k cs ds, length-append cs ds, body_units b, string_few r)

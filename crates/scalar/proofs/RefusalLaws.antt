-- The refusals of single values, texts and byte strings: 2 at the end of the message, `end`; 3 and 4 before it. P holds
-- of these, and so of each refusal that is given. At most `bound` bytes are left, as in flow's laws: so the number that
-- only bounds the recursion of `chunks` runs out only at the end.
use Rattle.std.specs.Prelude.{List, [], ◌∷◌, ◌++◌, ℕ, zero, suc, ◌+◌, ◌*◌, ◌<◌, length}
use Rattle.std.specs.Prelude.{Some, None}
use Rattle.std.specs.declared.option.Option as code
use Rattle.std.proofs.Math.Option.{Option, none, some}
use Rattle.std.proofs.Common.{arith}
use Rattle.flow.specs.RefusalNumbers.{cut, wrong_byte, not_utf8}
use Rattle.flow.specs.Flow.{within, Read, From}
use Rattle.flow.specs.Tests.{pick_either}
use Rattle.flow.specs.Refusals.{Tells, TellsFrom, give_tells, fail_tells, cond_tells, mapped_tells, bind_tells}
use Rattle.flow.specs.Refusals.{cut_tells, next_tells, byte_tells}
use Rattle.scalar.specs.declared.Sort.{Sort}
use Rattle.scalar.specs.declared.Sort.TheVariants as sort
use Rattle.scalar.specs.declared.Begun.{Begun}
use Rattle.scalar.specs.declared.Encoding.{Encoding}
use Rattle.scalar.specs.declared.Encoding.TheVariants.{Utf8, Binary}
use Rattle.scalar.specs.declared.CharLead.{CharLead}
use Rattle.scalar.specs.declared.CharLead.TheVariants.{Basic, Supplementary, Halved, NoChar}
use Rattle.scalar.specs.Scalars.{DoubleRule, Floats, Form, forms_of, form_at, inside, value_under, bytes_of}
use Rattle.scalar.specs.Scalars.{number_under, part_head}
use Rattle.scalar.specs.Scalars.{last_heads}
use Rattle.scalar.specs.Scalars.{char_lead, paired, ranged, continued, chained, pair_of, pair_then}
use Rattle.scalar.specs.Scalars.{character, characters, octets, body, chunk, chunks, string_from}
use Rattle.scalar.specs.Scalars.{Scalar, Num, Str, begins, or_string, or_number, scalar_from, int_from, text_from}
use Rattle.scalar.proofs.NumberLaws.{begun_under}

-- of the reader that there is, if there is one
data TellsIf {C I : Type 0} (P : ℕ → ℕ → Type 0) (end bound : ℕ) : Option (Read C I (List ℕ)) → Type 0 where
  no_reader : TellsIf P end bound none
  a_reader : {f : Read C I (List ℕ)} → Tells P end bound f → TellsIf P end bound (some f)

module _ {C I : Type 0} {P : ℕ → ℕ → Type 0} {end : ℕ} (ends : P cut end)
    (wrong : (o : ℕ) → o < end → P wrong_byte o) (ill : (o : ℕ) → o < end → P not_utf8 o) where
  module _ {bound : ℕ} where
    -- ---- numbers
    bytes_tell : (k u : ℕ) → Tells {C = C} {I = I} P end bound (bytes_of k u)
    bytes_tell zero u = give_tells u
    bytes_tell (suc k) u = byte_tells ends (λ p b m. bytes_tell k (256 * u + b))

    by_tells : (ρ : DoubleRule) (x : code.Option Begun) (p : ℕ) → p < end → Tells {C = C} {I = I} P end bound (begun_under ρ x p)
    by_tells ρ None p m = fail_tells (wrong p m)
    by_tells ρ (Some z) p m = mapped_tells (value_under ρ z.rule) (bytes_tell z.more z.held)

    number_tells : (ρ : DoubleRule) (ws : List Form) → TellsFrom {C = C} {I = I} P end bound (number_under ρ ws)
    number_tells ρ ws p b m = by_tells ρ (form_at ws b) p m

    -- ---- texts and byte strings
    module _ (o : ℕ) (m : o < end) where
      ranged_tells : {A : Type 0} (lo hi : ℕ) {f : ℕ → Read C I A} → ((b : ℕ) → Tells P end bound (f b))
          → Tells P end bound (ranged o lo hi f)
      ranged_tells lo hi h = byte_tells ends (λ p b l. cond_tells (within lo hi b) (h b) (fail_tells (ill o m)))

      continued_tells : (n lo hi : ℕ) → Tells {C = C} {I = I} P end bound (continued o n lo hi)
      continued_tells zero lo hi = give_tells []
      continued_tells (suc n) lo hi =
          ranged_tells lo hi (λ b. mapped_tells (λ cs. b ∷ cs) (continued_tells n 0x80 0xc0))

      pair_tells : (d : ℕ) → Tells {C = C} {I = I} P end bound (pair_of o d)
      pair_tells d =
          ranged_tells 0x80 0xc0 (λ x.
          ranged_tells 0xed 0xee (λ e.
          ranged_tells 0xb0 0xc0 (λ y.
          ranged_tells 0x80 0xc0 (λ z. give_tells (paired d x y z)))))

    chained_tells : (front : List ℕ) {f g : Read C I (List ℕ)} → Tells P end bound f → Tells P end bound g
        → Tells P end bound (chained front f g)
    chained_tells front h k = bind_tells h (λ cs. mapped_tells (λ ds. front ++ (cs ++ ds)) k)

    high_tells : (p d : ℕ) {g : Option (Read C I (List ℕ))} → p < end → TellsIf P end bound g
        → Tells P end bound (pair_then p d g)
    high_tells p d m no_reader = fail_tells (ill p m)
    high_tells p d m (a_reader k) = chained_tells [] (pair_tells p m d) k

    character_tells : (x : CharLead) {f : Read C I (List ℕ)} {g : Option (Read C I (List ℕ))} → Tells P end bound f
        → TellsIf P end bound g → TellsFrom P end bound (character x f g)
    character_tells (Basic j lo hi) h k p b m = chained_tells (b ∷ []) (continued_tells p m j lo hi) h
    character_tells (Supplementary lo hi) h no_reader p b m = fail_tells (ill p m)
    character_tells (Supplementary lo hi) h (a_reader k) p b m =
        chained_tells (b ∷ []) (continued_tells p m 3 lo hi) k
    character_tells Halved h k p b m = byte_tells ends (λ q d l.
        cond_tells (within 0x80 0xa0 d) (chained_tells (b ∷ d ∷ []) (continued_tells p m 1 0x80 0xc0) h)
        (cond_tells (within 0xa0 0xb0 d) (high_tells p d m k) (fail_tells (ill p m))))
    character_tells NoChar h k p b m = fail_tells (ill p m)

    characters_tell : (n : ℕ) → Tells {C = C} {I = I} P end bound (characters n)
    characters_tell zero = give_tells []
    characters_tell (suc zero) =
        byte_tells ends (λ p b. character_tells (char_lead b) (characters_tell zero) no_reader p b)
    characters_tell (suc (suc n)) = byte_tells ends (λ p b.
        character_tells (char_lead b) (characters_tell (suc n)) (a_reader (characters_tell n)) p b)

    octets_tell : (n : ℕ) → Tells {C = C} {I = I} P end bound (octets n)
    octets_tell zero = give_tells []
    octets_tell (suc n) = byte_tells ends (λ p b m. mapped_tells (λ cs. b ∷ cs) (octets_tell n))

    pub body_tells : (k : Encoding) (n : ℕ) → Tells {C = C} {I = I} P end bound (body k n)
    body_tells Binary n = octets_tell n
    body_tells Utf8 n = characters_tell n

    chunk_tells : (k : Encoding) {next : Read C I (List ℕ)} → Tells P end bound next
        → TellsFrom P end bound (chunk k next)
    chunk_tells k h p b m = cond_tells (inside (part_head k) b)
        (bind_tells (number_tells Floats (part_head k ∷ []) p b m) (λ n.
        bind_tells (body_tells k n) (λ cs. mapped_tells (λ ds. cs ++ ds) h)))
        (bind_tells (number_tells Floats (last_heads k) p b m) (body_tells k))

  chunks_tell : (k : Encoding) (j : ℕ) → Tells {C = C} {I = I} P end j (chunks k j)
  chunks_tell k zero = cut_tells ends
  chunks_tell k (suc j) = next_tells ends (chunk_tells k (chunks_tell k j))

  module _ {bound : ℕ} where
    string_tells : (k : Encoding) → TellsFrom {C = C} {I = I} P end bound (string_from k)
    unfolding string_from
    string_tells k p b m = record {
      tells = λ c at s e i. (chunk_tells k (chunks_tell k (length s)) p b m).tells c at s e (omega arith);
    }

    -- ---- what the layer above reads
    string_or : (k : Encoding) {g : From C I Scalar} → TellsFrom P end bound g → TellsFrom P end bound (or_string k g)
    string_or k h p b m = pick_either (Tells P end bound) (begins (part_head k ∷ last_heads k) b)
        (λ e. mapped_tells (Str k) (string_tells k p b m)) (λ e. h p b m)

    number_or : (ρ : DoubleRule) (s : Sort) {g : From C I Scalar} → TellsFrom P end bound g
        → TellsFrom P end bound (or_number ρ s g)
    number_or ρ s h p b m = pick_either (Tells P end bound) (begins (forms_of s) b)
        (λ e. mapped_tells (Num s) (number_tells ρ (forms_of s) p b m)) (λ e. h p b m)

    pub scalar_tells : (ρ : DoubleRule) → TellsFrom {C = C} {I = I} P end bound (scalar_from ρ)
    unfolding scalar_from
    scalar_tells ρ = string_or Utf8 (string_or Binary
        (number_or ρ sort.Int (number_or ρ sort.Long (number_or ρ sort.Date (number_or ρ sort.Double
        (number_or ρ sort.Null (number_or ρ sort.False (number_or ρ sort.True (λ p b m. fail_tells (wrong p m))))))))))

    pub int_tells : TellsFrom {C = C} {I = I} P end bound int_from
    unfolding int_from
    int_tells p b = number_tells Floats (forms_of sort.Int) p b

    pub text_tells : TellsFrom {C = C} {I = I} P end bound text_from
    unfolding text_from
    text_tells p b = string_tells Utf8 p b

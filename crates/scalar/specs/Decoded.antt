-- A body's content as a walk over its bytes: a pair of halves becomes four bytes, any other byte stands as it is. What
-- is no body is walked too. That it is what the grammar says is proved in proofs/Decoded.antt (`body_decoded`).
use Rattle.std.specs.Prelude.{Bool, false, cond, ◌&&◌, List, [], ◌∷◌, ◌++◌, ℕ, zero, suc, eqb, leb, length, drop, get_or}
use Rattle.flow.specs.Flow.{within}
use Rattle.scalar.specs.declared.Encoding.{Encoding}
use Rattle.scalar.specs.declared.Encoding.TheVariants.{Utf8, Binary}
use Rattle.scalar.specs.Scalars.{paired}

-- the byte a, with s after it, begins a pair of halves, judged by the first two bytes and how many there are: in a body
-- that is enough
abbrev pub halves : Encoding → ℕ → List ℕ → Bool
halves Binary a s = false
halves Utf8 a s = eqb a 0xed && (within 0xa0 0xb0 (get_or s 0 0) && leb 5 (length s))

-- its four bytes, by the five after the first
abbrev pub four_of : List ℕ → List ℕ
four_of s = paired (get_or s 0 0) (get_or s 1 0) (get_or s 3 0) (get_or s 4 0)

-- n bytes are passed over first
abbrev pub decoded_from : Encoding → ℕ → List ℕ → List ℕ
decoded_from k n [] = []
decoded_from k zero (a ∷ s) = cond (halves k a s) (four_of s ++ decoded_from k 5 s) (a ∷ decoded_from k zero s)
decoded_from k (suc n) (a ∷ s) = decoded_from k n s

abbrev pub decoded : Encoding → List ℕ → List ℕ
decoded k w = decoded_from k 0 w

-- ---- by a window of bytes
abbrev pub pair_in : Encoding → List ℕ → Bool  -- it begins with a pair of halves
pair_in k [] = false
pair_in k (a ∷ s) = halves k a s

abbrev pub four_in : List ℕ → List ℕ  -- the pair's four bytes
four_in w = four_of (drop 1 w)

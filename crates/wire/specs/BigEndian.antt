-- Numbers as bytes, the highest byte first.
use Rattle.std.specs.Prelude.{List, [], ◌∷◌, ◌++◌, ℕ, zero, suc, ◌+◌, ◌*◌, ◌/◌, ◌%◌, take, drop}

abbrev pub joined : ℕ → List ℕ → ℕ  -- the number that the bytes s go on with, where those before them are u
joined u [] = u
joined u (b ∷ s) = joined (256 * u + b) s

abbrev pub eight_at : List ℕ → ℕ → ℕ  -- the number of the eight bytes from the index i on
eight_at s i = joined 0 (take 8 (drop i s))

abbrev pub be : ℕ → ℕ → List ℕ  -- the k lowest bytes of u
be zero u = []
be (suc k) u = be k (u / 256) ++ ((u % 256) ∷ [])

abbrev pub high : ℕ → ℕ → ℕ  -- what is left of u without its k lowest bytes
high zero u = u
high (suc k) u = high k (u / 256)

abbrev pub wider : ℕ → ℕ → ℕ  -- how many numbers k bytes make after one of c
wider zero c = c
wider (suc k) c = 256 * wider k c

-- A text or byte string at a place of a whole message, by what is left of the message.
use Rattle.std.proofs.Math.Path.{◌≡◌, refl}
use mathlib.Core.List.{List, [], ◌∷◌}
use Rattle.std.specs.Prelude.{ℕ, ◌≤◌, drop}
use Rattle.std.proofs.Math.Nat.{min-eq_left, min-eq_right}
use Rattle.std.proofs.Math.ListN.{length}
use Rattle.std.proofs.Common.{drop_of_length-le}
use Rattle.flow.specs.Flow.{Fault, byte_at}
use Rattle.flow.specs.Steps.{Answer}
use Rattle.scalar.specs.declared.Encoding.{Encoding}
use Rattle.scalar.specs.Scalars.{chunks, string_from, string_at}

-- the message ends there; or there are chunks
module _ (k : Encoding) (m : List ℕ) (p : ℕ) where
  pub string_ends : length m ≤ p → string_at k m p ≡ Fault 2 (length m)
  unfolding string_at
  string_ends l = rw (drop_of_length-le m l, min-eq_right l)

  pub string_at_law : p ≤ length m → string_at k m p ≡ chunks k (length (drop p m)) tt p (drop p m)
  unfolding string_at string_from
  string_at_law l = rw (min-eq_left {n = p} {m = length m} l) (as_chunks p (drop p m))
    where
      as_chunks : (at : ℕ) (s : List ℕ)
          → ◌≡◌ {A = Answer (List ℕ)} (byte_at (string_from k) tt at s) (chunks k (length s) tt at s)
      as_chunks at [] = refl
      as_chunks at (b ∷ s) = refl

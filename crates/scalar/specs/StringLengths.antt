-- How many bytes the shortest form of a text or byte string takes: where its parts are cut, in one walk over what the
-- content's bytes weigh. That they are so many is proved in proofs/StringLengths.antt.
use Rattle.std.specs.Prelude.{cond, List, [], ◌∷◌, ℕ, suc, ◌+◌, ltb}

-- the parts of the shortest form so far: how many are cut off, each before a character that no longer fit, and the
-- units of the one that is open
pub record Parts : Type 0 where
  pub cuts : ℕ
  pub filled : ℕ

abbrev pub parts : ℕ → ℕ → Parts
parts n u = record { cuts = n; filled = u }

abbrev pub parts_after : ℕ → ℕ → List ℕ → Parts  -- bytes of these weights, after n cuts and u units
parts_after n u [] = parts n u
parts_after n u (w ∷ ws) = cond (ltb 65535 (u + w)) (parts_after (suc n) w ws) (parts_after n (u + w) ws)

-- What is written of a value at an index of the items: a term. The laws are in proofs/ForWriter/WrittenValues.antt.
use Rattle.std.proofs.Math.Option.{Option, none, some}
use Prim.Native.Nat.{ℕ, zero, suc}
use Rattle.record.specs.Model.Items.{Limits}
use Rattle.record.specs.Model.Shortest.{Put}
use Rattle.record.specs.Model.Shortest.{put_value}

-- a value, where d more containers may open
module _ (ℓ : Limits) (open_from : ℕ) where
  -- what writes the values in a value
  unfoldable pub below : ℕ → Option Put
  below zero = none
  below (suc d) = some (put_value ℓ open_from d)

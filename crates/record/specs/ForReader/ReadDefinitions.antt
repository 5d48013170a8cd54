-- Class definitions, and a value after them, at a place of the whole message: the terms. The laws are in
-- proofs/ForReader/ReadDefinitions.antt.
use Rattle.std.proofs.Math.Option.{Option, none, some}
use Prim.Native.Nat.{ℕ, zero, suc}
use Rattle.flow.specs.Flow.{One}
use Rattle.scalar.specs.Scalars.{Floats}
use Rattle.record.specs.declared.Group.TheVariants.{Counted}
use Rattle.record.specs.Model.Items.{FieldName, Limits}
use Rattle.record.specs.Model.Reading.{Reader, Opening, name, plain_from, value_from}
use Rattle.record.specs.ForReader.ReadLoops.{rest}

-- the field names of a class: those left after i of n
abbrev pub names_left : ℕ → ℕ → Reader ℕ
names_left n i = rest (name FieldName) (Counted n) i

-- a value: any number of definitions, and then what its first byte says
module _ (ℓ : Limits) where
  -- what reads the values in a value, where d more containers may open
  unfoldable pub below : ℕ → Option (Opening One)
  below zero = none
  below (suc d) = some (value_from Floats ℓ d)

  -- a value with no definition before it
  abbrev pub plain : ℕ → Opening One
  plain d = plain_from Floats ℓ (below d)

-- What the bytes of a content weigh. The laws are in proofs/TextUnits.antt.
use Rattle.std.specs.Prelude.{List, map, ℕ}
use Rattle.scalar.specs.declared.Encoding.{Encoding}
use Rattle.scalar.specs.Scalars.{weight}

abbrev pub weights : Encoding → List ℕ → List ℕ
weights k cs = map (weight k) cs

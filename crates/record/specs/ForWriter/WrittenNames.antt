-- What is written of a type or a class definition by the items at an index: a term. The laws are in
-- proofs/ForWriter/WrittenNames.antt.
use Rattle.std.specs.Prelude.{ℕ}
use Rattle.record.specs.Model.Shortest.{Put}
use Rattle.record.specs.Model.Shortest.{field_name?, put_name}
use Rattle.record.specs.declared.Contents.TheVariants.{Elements}
use Rattle.record.specs.ForWriter.WrittenContents.{left}

-- the field names of a class: those left after j of n
abbrev pub names_left : ℕ → ℕ → Put
names_left n j = left (put_name field_name?) (Elements n) j

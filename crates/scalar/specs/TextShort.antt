-- Texts and byte strings: how many units a head of one byte counts. The laws are in proofs/TextShort.antt.
use Rattle.std.specs.Prelude.{ℕ}
use Rattle.scalar.specs.declared.Encoding.{Encoding}
use Rattle.scalar.specs.declared.Encoding.TheVariants.{Utf8, Binary}

-- the last chunk's head takes one byte up to `short_to` units, two up to 1,023, three up to 65,535; another's
-- takes three
abbrev pub short_to : Encoding → ℕ
short_to Binary = 15
short_to Utf8 = 31

-- What is written of a value by the item at an index: a term. The laws are in proofs/ForWriter/WrittenItems.antt.
use Rattle.std.specs.Prelude.{[], ◌∷◌}
use Rattle.record.specs.ForWriter.WritingAt.{WritingAt, WrittenTo}
use Rattle.record.specs.ForWriter.WritingAt.{on_written}

-- the end of an open form
abbrev pub ended : WritingAt → WritingAt
ended o = on_written o (λ e c. WrittenTo (0x5a ∷ []) e c)

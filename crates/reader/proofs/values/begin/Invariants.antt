-- The loop's invariant: what is left is the whole, with the rows of the definitions so far in front. The measure is how
-- many bytes are left.
use Rattle.reader.proofs.ClassDefinitions.{ReadingDefinitions}
use Rattle.std.proofs.Common.{length, ◌-◌}
use Rattle.reader.proofs.values.begin.Given as goal

abbrev pub invariant-loop-leaf : goal.invariant-loop-leaf
invariant-loop-leaf g l =
    ReadingDefinitions g.S.Slot.kept l.message (g.S.Slot.numbers l.initial.slots) l.initial.known l.initial.here
    (g.S.Slot.numbers l.slots) l.known l.here

abbrev pub decreases-loop-leaf : goal.decreases-loop-leaf
decreases-loop-leaf g l = length l.message - l.here.at

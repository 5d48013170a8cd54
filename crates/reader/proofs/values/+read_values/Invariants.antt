-- One function that calls itself: the measure is the allowance of open containers. The loop's invariant and the law of
-- each way out are in proofs/ReadValues.antt.
use Rattle.reader.proofs.ReadValues.{ReadingValues}
use Rattle.std.proofs.Common.{length, ◌-◌}
use Rattle.reader.proofs.values.+read_values.Given as goal

abbrev pub decreases-read_values : goal.decreases-read_values
decreases-read_values g l = l.allowed

abbrev pub invariant-loop-slots : goal.invariant-loop-slots
invariant-loop-slots g l =
    ReadingValues g.S.Slot.kept l.message (g.S.Slot.numbers l.initial.slots) l.initial.known l.initial.here l.group
    l.allowed (g.S.Slot.numbers l.slots) l.known l.here l.i

abbrev pub decreases-loop-slots : goal.decreases-loop-slots
decreases-loop-slots g l = length l.message - l.here.at

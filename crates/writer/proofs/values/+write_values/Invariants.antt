-- One function that calls itself: the measure is the allowance of open containers. The loop's invariant and the law of
-- each way out are in proofs/ValueLaws.antt.
use Prim.Native.Nat.{◌-◌}
use lib.ListN.{length}
use Rattle.writer.specs.Promises.{items_of}
use Rattle.writer.proofs.ValueLaws.{ValuesSoFar}
use Rattle.writer.proofs.values.+write_values.Given as goal

abbrev pub decreases-write_values : goal.decreases-write_values
decreases-write_values g l = l.allowed

abbrev pub invariant-loop-values : goal.invariant-loop-values
invariant-loop-values g l =
    ValuesSoFar
    l.table l.allowed l.values.contents l.initial.at.next l.initial.at.size.bytes l.initial.known l.initial.out
    l.known l.out l.at.next l.at.size.bytes l.i

abbrev pub decreases-loop-values : goal.decreases-loop-values
decreases-loop-values g l = length (items_of l.table) - l.at.next

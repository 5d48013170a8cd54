-- The loop's invariant: what is left is written as the whole is, with the bytes so far before it. The measure is how
-- many items are left.
use Prim.Native.Nat.{◌-◌}
use lib.ListN.{length}
use Rattle.writer.specs.Promises.{items_of}
use Rattle.writer.proofs.Classes.{DefinitionsSoFar}
use Rattle.writer.proofs.definitions.put_definitions.Given as goal

abbrev pub invariant-loop-row : goal.invariant-loop-row
invariant-loop-row g l =
    DefinitionsSoFar
    l.table l.initial.at.next l.initial.at.size.bytes l.initial.known l.initial.out
    l.known l.out l.at.next l.at.size.bytes

abbrev pub decreases-loop-row : goal.decreases-loop-row
decreases-loop-row g l = length (items_of l.table) - l.at.next

-- The loop's invariant: what was passed is stored, where it fits, and what fits is that and what fits of the rest. The
-- measure is how many bytes are left in the source.
use Prim.Native.Nat.{◌-◌}
use lib.ListN.{length}
use Rattle.text_writer.specs.Cursor.{Copying}
use Rattle.text_writer.proofs.copy.Given as goal

abbrev pub invariant-loop-copied : goal.invariant-loop-copied
invariant-loop-copied l = Copying l.kind l.source l.initial.next l.cap l.initial.out l.to l.next l.bytes l.units l.out

abbrev pub decreases-loop-copied : goal.decreases-loop-copied
decreases-loop-copied l = length l.source - l.next.here

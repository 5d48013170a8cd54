-- `groups` meets its contract. The measure is what is left of the line.
use Rattle.std.proofs.Common.{◌-◌, length}
use Rattle.vectors.proofs.Stores.{Gathers}
use Rattle.vectors.proofs.groups.Given as goal

abbrev pub invariant-loop-bytes : goal.invariant-loop-bytes
invariant-loop-bytes l = Gathers l.line l.at l.initial.bytes l.bytes l.held.next l.held.size

abbrev pub decreases-loop-bytes : goal.decreases-loop-bytes
decreases-loop-bytes l = length l.line - l.held.next

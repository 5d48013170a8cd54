-- `take_bytes` meets its contract. The measure is what is left of the line.
use Rattle.std.proofs.Common.{◌-◌, length}
use Rattle.vectors.proofs.Stores.{Takes}
use Rattle.vectors.proofs.take_bytes.Given as goal

abbrev pub invariant-loop-high : goal.invariant-loop-high
invariant-loop-high l = Takes l.line l.at l.initial.bytes l.from l.bytes l.here l.size

abbrev pub decreases-loop-high : goal.decreases-loop-high
decreases-loop-high l = length l.line - l.here

-- `decimal` meets its contract. What is read so far is the worth of the digits passed. The measure is what is left of
-- the line.
use Rattle.std.proofs.Common.{◌-◌, length}
use Rattle.vectors.proofs.Laws.{Reads}
use Rattle.vectors.proofs.decimal.Given as goal

abbrev pub invariant-loop-d : goal.invariant-loop-d
invariant-loop-d l = Reads l.line l.at l.here l.value

abbrev pub decreases-loop-d : goal.decreases-loop-d
decreases-loop-d l = length l.line - l.here

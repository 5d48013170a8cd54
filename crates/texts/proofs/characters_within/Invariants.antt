-- The loop's invariant: the characters so far are passed, and fit the room. The measure is how many units of the room
-- are left.
use Rattle.std.proofs.Common.{◌-◌, ◌≤◌}
use Rattle.texts.specs.Answers.{Passing}
use Rattle.texts.proofs.characters_within.Given as goal

abbrev pub invariant-loop-used : goal.invariant-loop-used
invariant-loop-used l = Passing l.units l.message l.at l.here (l.units - l.used) l.bytes × (l.used ≤ l.room)

abbrev pub decreases-loop-used : goal.decreases-loop-used
decreases-loop-used l = l.room - l.used

-- The loop's invariant: the characters so far are passed. The measure is how many units are left to read.
use Rattle.texts.specs.Answers.{Passing}
use Rattle.texts.proofs.characters.Given as goal

abbrev pub invariant-loop-left : goal.invariant-loop-left
invariant-loop-left l = Passing l.units l.message l.at l.here l.left l.bytes

abbrev pub decreases-loop-left : goal.decreases-loop-left
decreases-loop-left l = l.left

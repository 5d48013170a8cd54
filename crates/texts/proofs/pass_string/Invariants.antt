-- The loop's invariant: what is left reads as the whole does, but for the content so far. The measure is how many bytes
-- are left.
use Rattle.std.proofs.Common.{◌-◌, length}
use Rattle.texts.specs.Answers.{Joining}
use Rattle.texts.proofs.pass_string.Given as goal

abbrev pub invariant-loop-c : goal.invariant-loop-c
invariant-loop-c l = Joining l.kind l.message l.at l.here l.units l.bytes

abbrev pub decreases-loop-c : goal.decreases-loop-c
decreases-loop-c l = length l.message - l.here

-- The loop's invariant: what is left reads as the whole does, but for the content so far, of which the parts of the
-- shortest form are known. The measure is how many bytes are left.
use Rattle.std.proofs.Common.{◌-◌, length}
use Rattle.scalar.specs.StringLengths.{parts}
use Rattle.texts.specs.Answers.{Cutting}
use Rattle.texts.proofs.heads_length.Given as goal

abbrev pub invariant-loop-c : goal.invariant-loop-c
invariant-loop-c l = Cutting l.kind l.message l.at l.here (parts l.parts.cuts l.parts.filled)

abbrev pub decreases-loop-c : goal.decreases-loop-c
decreases-loop-c l = length l.message - l.here

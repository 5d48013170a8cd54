-- The loop's invariant: what is left reads as the whole does, but for the bytes so far.
use Rattle.std.proofs.Common.{◌+◌, ◌-◌}
use Rattle.scalar.specs.Scalars.{continued}
use Rattle.texts.specs.Answers.{extent_at}
use Rattle.texts.proofs.Strings.{Along}
use Rattle.texts.proofs.continued.Given as goal

abbrev pub invariant-loop-k : goal.invariant-loop-k
invariant-loop-k l = Along (extent_at (continued l.place l.more l.from l.below) l.message l.at)
    (extent_at (continued l.place (l.more - l.k) l.lo l.hi) l.message (l.at + l.k)) l.message l.at (l.at + l.k) l.k

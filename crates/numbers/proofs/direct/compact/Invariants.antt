-- The number that the bytes so far go on with.
use Rattle.std.proofs.Common.{◌≡◌, take}
use Rattle.wire.specs.BigEndian.{joined}
use Rattle.numbers.proofs.direct.compact.Given as goal

abbrev pub invariant-loop-b : goal.invariant-loop-b
invariant-loop-b g l = l.u ≡ joined l.fn.held (take l.b-index l.b-items)

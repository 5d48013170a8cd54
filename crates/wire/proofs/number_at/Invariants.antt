-- In 64 bits, it is the number that the bytes before the index go on with.
use Rattle.std.proofs.Common.{◌≡◌, ◌%◌, ◌^◌, take}
use Rattle.wire.specs.BigEndian.{joined}
use Rattle.wire.proofs.number_at.Given as goal

abbrev pub invariant-loop-b : goal.invariant-loop-b
invariant-loop-b l = l.v ≡ joined l.held (take l.b-index l.b-items) % 2 ^ 64

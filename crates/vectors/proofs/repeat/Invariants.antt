-- `repeat` meets its contract: the bytes are still to be stored as often as the counter has turns left.
use Rattle.std.proofs.Common.{◌-◌}
use Rattle.vectors.proofs.Stores.{Repeats}
use Rattle.vectors.proofs.repeat.Given as goal

abbrev pub invariant-loop : goal.invariant-loop
invariant-loop l = Repeats l.initial.bytes l.from l.size l.times l.bytes (l.times - l.counter) l.here

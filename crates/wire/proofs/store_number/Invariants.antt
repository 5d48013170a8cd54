-- With the k bytes that are left stored, the list is as with all of them stored at the start.
use Rattle.std.proofs.Common.{◌≡◌}
use Rattle.std.proofs.lemmas.List.Edits.{sets}
use Rattle.wire.specs.BigEndian.{be}
use Rattle.wire.proofs.store_number.Given as goal

abbrev pub invariant-loop-k : goal.invariant-loop-k
invariant-loop-k l = sets l.bytes l.at (be l.k l.rest) ≡ sets l.initial.bytes l.at (be l.count l.value)

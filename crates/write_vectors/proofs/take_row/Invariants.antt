-- `take_row` meets its contract: each number takes some of the line.
use Rattle.std.proofs.Common.{◌+◌, ◌≤◌}
use Rattle.write_vectors.proofs.take_row.Given as goal

abbrev pub invariant-loop-i : goal.invariant-loop-i
invariant-loop-i l = l.at + l.i ≤ l.next

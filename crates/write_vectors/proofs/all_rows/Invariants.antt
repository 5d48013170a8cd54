-- `all_rows` is safe and ends. The measure is what is left of the line.
use Rattle.std.proofs.Common.{◌-◌, length}
use Rattle.write_vectors.proofs.all_rows.Given as goal

abbrev pub decreases-loop-here : goal.decreases-loop-here
decreases-loop-here l = length l.line - l.here

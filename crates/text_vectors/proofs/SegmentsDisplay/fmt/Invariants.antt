-- `fmt` of Segments is safe and ends. The measure is what is left of the bytes.
use Rattle.std.proofs.Common.{length}
use Rattle.text_vectors.proofs.SegmentsDisplay.fmt.Given as goal

abbrev pub decreases-loop-left : goal.decreases-loop-left
decreases-loop-left g l = length l.left

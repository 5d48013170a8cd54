use Rattle.std.proofs.Common.{arith}
use Rattle.vectors.specs.CaseLaws.{times_says}
use Rattle.write_vectors.proofs.all_rows.Goals as goal

pub loop-here-smaller : goal.loop-here-smaller
loop-here-smaller c =
    omega (arith, times_says _ _ c.times.ensures c.in_ok-often.was, c.in_ok-taken.ensures)

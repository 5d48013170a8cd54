-- `fill` meets its contract. What was passed is filled.
use Rattle.vectors.proofs.Laws.{FilledBelow}
use Rattle.vectors.proofs.fill.Given as goal

abbrev pub invariant-loop-i : goal.invariant-loop-i
invariant-loop-i g l = FilledBelow g.L.Lent.filled l.lent l.i

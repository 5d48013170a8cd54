use Rattle.std.proofs.Common.{arith, rules}
use Rattle.flow.specs.Tests.{within_below, within_above}
use Rattle.texts.specs.At.{continued_ends, continued_out, continued_next}
use Rattle.texts.proofs.Strings.{along_fault, bytes_more}
use Rattle.texts.proofs.continued.Goals as goal
use Rattle.texts.proofs.continued.Goals.{then-b-lo-via-then-b-lo, then-b-lo-via-else-b-lo+then-hi-b}

pub returns-then-len-at : goal.returns-then-len-at
returns-then-len-at c = search (along_fault, continued_ends, rules)

pub returns-then-b-lo : goal.returns-then-b-lo
returns-then-b-lo c = elim c.then-b-lo.branch [
  | then-b-lo-via-then-b-lo w ↦ search (along_fault, continued_out, within_below, rules)
  | then-b-lo-via-else-b-lo+then-hi-b w ↦ search (along_fault, continued_out, within_above, rules)
]

pub loop-k-preserved : goal.loop-k-preserved
loop-k-preserved c = bytes_more c.loop-k.invariant _ (search (continued_next, rules)) (omega arith)

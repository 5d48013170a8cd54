use Rattle.std.proofs.Common.{arith, rules}
use Rattle.wire.proofs.Bytes.{joined_more}
use Rattle.wire.proofs.number_at.Goals as goal

pub loop-b-preserved : goal.loop-b-preserved
loop-b-preserved c =
    joined_more _ _ _ _ _ _ c.loop-b-test.true c.wide.ensures (search rules) c.loop-b.invariant (omega arith)

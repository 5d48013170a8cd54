use Rattle.holdings_file.proofs.IndexChains.{hash_next, hash_done}
use Rattle.holdings_file.proofs.index.bucket.Goals as goal

pub loop-block-preserved : goal.loop-block-preserved
loop-block-preserved c = let loop = c.loop-block in
    hash_next c.args.message.now loop.hash loop.block loop.invariant c.loop-block-test.true _ c.eight_at.ensures

pub returns : goal.returns
returns c = let loop = c.loop-block in
    hash_done c.args.message.now loop.hash loop.block loop.invariant c.loop-block-test.false c.args.buckets c.requires

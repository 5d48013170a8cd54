-- The loop's invariant: the hash sought goes on from here with the blocks left.
use Rattle.holdings_file.proofs.IndexChains.{Hashing}
use Rattle.holdings_file.proofs.index.bucket.Given as goal

abbrev pub invariant-loop-block : goal.invariant-loop-block
invariant-loop-block l = Hashing l.message l.hash l.block

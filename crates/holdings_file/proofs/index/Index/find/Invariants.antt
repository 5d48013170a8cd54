-- The loop's invariant: no entry from the one at hand on has the message. The measure is that entry's number.
use Rattle.std.proofs.Common.{length}
use Rattle.holdings_file.specs.Promises.{held_in}
use Rattle.holdings_file.proofs.IndexChains.{Walking}
use Rattle.holdings_file.proofs.index.Index.find.Given as goal

abbrev pub invariant-loop-entry : goal.invariant-loop-entry
invariant-loop-entry l = Walking (length l.self.heads.now) (held_in l.file) l.message l.next

abbrev pub decreases-loop-entry : goal.decreases-loop-entry
decreases-loop-entry l = l.next

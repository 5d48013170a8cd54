-- The loop's invariant: the additions left give what is sought.
use mathlib.Core.Path.{◌≡◌}
use Prim.Native.Nat.{◌≤◌}
use lib.ListN.{length}
use Rattle.holdings_file.proofs.Batches.{Batching}
use Rattle.holdings_file.proofs.additions.add_records.Given as goal

abbrev pub invariant-loop-entry : goal.invariant-loop-entry
invariant-loop-entry l = record {
  bytes : l.entry-iterator.bytes.now ≡ l.records;
  batching : Batching l.initial.file l.fn.extent.used l.records l.initial.numbers l.file l.numbers l.index l.used l.count
      l.entry-iterator.at l.taken;
}

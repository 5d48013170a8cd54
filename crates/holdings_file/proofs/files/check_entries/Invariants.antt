-- The loop's invariant: the entries passed list, and are in the index while it has room.
use mathlib.Core.Path.{◌≡◌}
use Rattle.holdings_file.proofs.FileChecks.{Checking}
use Rattle.holdings_file.proofs.files.check_entries.Given as goal

abbrev pub invariant-loop-entry : goal.invariant-loop-entry
invariant-loop-entry l = record {
  bytes : l.entry-iterator.bytes.now ≡ l.file;
  checking : Checking l.file l.index l.entry-iterator.at l.n;
}

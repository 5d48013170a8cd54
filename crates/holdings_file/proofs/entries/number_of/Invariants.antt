-- The loop's invariant: the number sought is that among the messages left, after those passed.
use mathlib.Core.Path.{◌≡◌}
use Rattle.holdings_file.proofs.EntryWalks.{Counting}
use Rattle.holdings_file.proofs.entries.number_of.Given as goal

abbrev pub invariant-loop-entry : goal.invariant-loop-entry
invariant-loop-entry l = record {
  bytes : l.entry-iterator.bytes.now ≡ l.file;
  counting : Counting l.file l.message l.n l.entry-iterator.at;
}

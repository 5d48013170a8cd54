-- The loop's invariant: the list with the placements left laid over it is the one sought.
use mathlib.Core.Path.{◌≡◌}
use Rattle.holdings_file.specs.Promises.{filled_by}
use Rattle.holdings_file.proofs.EntryWalks.{Filling}
use Rattle.holdings_file.proofs.entries.fill.Given as goal

abbrev pub invariant-loop-entry : goal.invariant-loop-entry
invariant-loop-entry g l = let numbers = g.C.PairCell.numbers in let layout = g.C.PairCell.layout in record {
  bytes : l.entry-iterator.bytes.now ≡ l.file;
  filling : Filling layout l.file (filled_by layout l.file (numbers l.initial.list)) (numbers l.list) l.n l.entry-iterator.at;
}

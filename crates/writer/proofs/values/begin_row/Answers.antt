-- Each way out has its law in proofs/ValueLaws.antt.
use mathlib.Core.Logic.{inl, inr}
use borrow.Author.Rules.{rules}
use Rattle.writer.proofs.ValueLaws.{row_leaf, row_full, row_holder}
use Rattle.writer.proofs.values.begin_row.Goals as goal
use Rattle.writer.proofs.values.begin_row.Goals.{then-row-via-then-row, then-row-via-else-row+then-row-2}

pub returns-then-row : goal.returns-then-row
returns-then-row g c = row_leaf c.requires c.args.allowed _ c.source.ensures (elim c.then-row.branch [
  | then-row-via-then-row w ↦ record { other = inl w.if-row.true }
  | then-row-via-else-row+then-row-2 w ↦ record { other = inr w.if-row-2.true }
]) _ c.in_ok-size.ensures

pub returns-then-allowed-eq0 : goal.returns-then-allowed-eq0
returns-then-allowed-eq0 g c = search (row_full, rules)

pub returns : goal.returns
returns g c = search (row_holder, rules)

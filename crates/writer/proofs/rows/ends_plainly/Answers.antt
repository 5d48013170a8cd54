-- Each way out has its law in proofs/FetchLaws.antt.
use mathlib.Core.Logic.{inl, inr}
use borrow.Author.Rules.{rules}
use Rattle.writer.proofs.FetchLaws.{plainly_held, plainly_single, plainly_short, plainly_defined}
use Rattle.writer.proofs.rows.ends_plainly.Goals as goal
use Rattle.writer.proofs.rows.ends_plainly.Goals.{else-r-via-then-r+else-r-2, else-r-via-else-r}

pub returns-then-r-2 : goal.returns-then-r-2
returns-then-r-2 c = search (plainly_held, rules)

pub returns-then-next-r : goal.returns-then-next-r
returns-then-next-r c = search (plainly_defined, rules)

pub returns-else-next-r : goal.returns-else-next-r
returns-else-next-r c = search (plainly_short, rules)

pub returns : goal.returns
returns c = elim c.else-r.branch [
  | else-r-via-then-r+else-r-2 w ↦ plainly_single c.args.r _ (inr w.if-r-2.false) c.if-r-3.false
  | else-r-via-else-r w ↦ plainly_single c.args.r _ (inl w.if-r.false) c.if-r-3.false
]

-- Each way out has its law in proofs/FetchLaws.antt.
use borrow.Author.Rules.{rules}
use Rattle.writer.proofs.FetchLaws.{fetch_end, fetch_row, fetch_wrong}
use Rattle.writer.proofs.rows.fetch.Goals as goal

pub returns-then-table-k : goal.returns-then-table-k
returns-then-table-k g c = rw (← c.table.view_is) (search (fetch_end, rules))

pub returns-in-Some : goal.returns-in-Some
returns-in-Some g c = let at = c.in-Some.ensures in
    rw (← c.table.view_is) (search (fetch_row, at.1, rules))

pub returns-in_default : goal.returns-in_default
returns-in_default g c = let at = c.in-Some.ensures in
    rw (← c.table.view_is) (search (fetch_wrong, at.1, rules))

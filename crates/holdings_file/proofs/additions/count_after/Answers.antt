use borrow.Author.Rules.{rules}
use Rattle.holdings_file.proofs.Stores.{count_old, count_new}
use Rattle.holdings_file.proofs.additions.count_after.Goals as goal

pub returns-then-number-count : goal.returns-then-number-count
returns-then-number-count c = search (count_old, rules)

pub returns : goal.returns
returns c = search (count_new, rules)

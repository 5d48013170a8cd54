use borrow.Author.Rules.{rules}
use Rattle.holdings_file.proofs.Stores.{number_in, number_out}
use Rattle.holdings_file.proofs.additions.store_number.Goals as goal

pub returns-then-index-list : goal.returns-then-index-list
returns-then-index-list c = search (number_in, rules)

pub returns-else-index-list : goal.returns-else-index-list
returns-else-index-list c = search (number_out, rules)

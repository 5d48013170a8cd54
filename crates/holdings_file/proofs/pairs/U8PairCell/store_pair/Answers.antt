use borrow.Author.Rules.{rules}
use Rattle.holdings_file.proofs.Stores.{bytes_out, bytes_in}
use Rattle.holdings_file.proofs.pairs.U8PairCell.store_pair.Goals as goal

pub returns-then-index-list : goal.returns-then-index-list
returns-then-index-list c = search (bytes_in, rules)

pub returns-else-index-list : goal.returns-else-index-list
returns-else-index-list c = search (bytes_out, rules)

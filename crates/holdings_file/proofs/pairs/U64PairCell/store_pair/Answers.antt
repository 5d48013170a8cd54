use borrow.Author.Rules.{rules}
use Rattle.holdings_file.proofs.Stores.{pair_out, pair_in_law}
use Rattle.holdings_file.proofs.pairs.U64PairCell.store_pair.Goals as goal

pub returns-then-index-list : goal.returns-then-index-list
returns-then-index-list c = search (pair_in_law, rules)

pub returns-else-index-list : goal.returns-else-index-list
returns-else-index-list c = search (pair_out, rules)

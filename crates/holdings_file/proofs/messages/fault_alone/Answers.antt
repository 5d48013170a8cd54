use borrow.Author.Rules.{rules}
use Rattle.holdings_file.proofs.ShortMessages.{alone_refused, alone_longer, alone_none}
use Rattle.holdings_file.proofs.messages.fault_alone.Goals as goal

pub returns-in_default : goal.returns-in_default
returns-in_default c = search (alone_refused, rules)

pub returns-then-ne : goal.returns-then-ne
returns-then-ne c = search (alone_longer, rules)

pub returns : goal.returns
returns c = search (alone_none, rules)

use borrow.Author.Rules.{rules}
use Rattle.holdings_file.proofs.ShortMessages.{written_is, written_always}
use Rattle.holdings_file.proofs.messages.write_short.Goals as goal

pub unreachable-requires : goal.unreachable-requires
unreachable-requires c = search (written_always, rules)

pub returns : goal.returns
returns c = search (written_is, rules)

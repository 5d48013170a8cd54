use borrow.Author.Rules.{rules}
use Rattle.holdings_file.proofs.ShortMessages.{read_rows, read_refused, read_few}
use Rattle.holdings_file.proofs.messages.shorten.Goals as goal

pub write_short-requires : goal.write_short-requires
write_short-requires c = search (read_rows, rules)

pub unreachable-requires : goal.unreachable-requires
unreachable-requires c = search (read_few, rules)

pub returns-in-Err-Refused : goal.returns-in-Err-Refused
returns-in-Err-Refused c = search (read_refused, rules)

-- Both ways through the test have their laws in proofs/ValueLaws.antt.
use borrow.Author.Rules.{rules}
use Rattle.writer.proofs.ValueLaws.{closing_put, closing_none}
use Rattle.writer.proofs.values.close.Goals as goal

pub returns-then-closes : goal.returns-then-closes
returns-then-closes c = search (closing_put, rules)

pub returns : goal.returns
returns c = search (closing_none, rules)

-- Each way out has its law in proofs/Messages.antt.
use borrow.Author.Rules.{rules}
use Rattle.writer.proofs.Messages.{call_long, call_claim, call_rows}
use Rattle.writer.proofs.write_table.Goals as goal

pub returns-then-source-gt-LONGEST : goal.returns-then-source-gt-LONGEST
returns-then-source-gt-LONGEST g c = search (call_long, rules)

pub returns-then-rows : goal.returns-then-rows
returns-then-rows g c = search (call_claim, rules)

pub returns : goal.returns
returns g c = search (call_rows, rules)

-- Each way out has its law in proofs/LeafLaws.antt.
use borrow.Author.Rules.{rules}
use Rattle.writer.proofs.LeafLaws.{number_lost, number_put}
use Rattle.writer.proofs.leaves.put_value.Goals as goal

pub returns-then-r-ne0 : goal.returns-then-r-ne0
returns-then-r-ne0 c = search (number_lost, rules)

pub returns : goal.returns
returns c = search (number_put, rules)

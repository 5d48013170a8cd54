-- Each way out has its law in proofs/LeafLaws.antt.
use borrow.Author.Rules.{rules}
use Rattle.writer.proofs.LeafLaws.{reference_lost, reference_ungiven, reference_put}
use Rattle.writer.proofs.leaves.put_reference.Goals as goal

pub returns-then-r-ne0 : goal.returns-then-r-ne0
returns-then-r-ne0 c = search (reference_lost, rules)

pub returns-then-references-r : goal.returns-then-references-r
returns-then-references-r c = search (reference_ungiven, rules)

pub returns : goal.returns
returns c = search (reference_put, rules)

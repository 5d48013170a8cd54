-- Each way out has its law in proofs/LeafLaws.antt.
use borrow.Author.Rules.{rules}
use Rattle.writer.proofs.LeafLaws.{content_lost, content_put}
use Rattle.writer.proofs.leaves.put_content.Goals as goal

pub returns-then-r-ne0 : goal.returns-then-r-ne0
returns-then-r-ne0 c = search (content_lost, rules)

pub returns : goal.returns
returns c = search (content_put, rules)

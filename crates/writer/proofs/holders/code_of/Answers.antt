-- Each way out has its law in proofs/HolderLaws.antt.
use borrow.Author.Rules.{rules}
use Rattle.writer.proofs.HolderLaws.{code_of_list, code_of_map}
use Rattle.writer.proofs.holders.code_of.Goals as goal

pub returns-then-r : goal.returns-then-r
returns-then-r c = search (code_of_list, rules)

pub returns : goal.returns
returns c = search (code_of_map, rules)

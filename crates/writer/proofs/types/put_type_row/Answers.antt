-- Each way out has its law in proofs/TypeLaws.antt.
use borrow.Author.Rules.{rules}
use Rattle.writer.proofs.TypeLaws.{type_of_number, type_unlike}
use Rattle.writer.proofs.types.put_type_row.Goals as goal

pub returns-then-r-2 : goal.returns-then-r-2
returns-then-r-2 c = search (type_of_number, rules)

pub returns : goal.returns
returns c = search (type_unlike, rules)

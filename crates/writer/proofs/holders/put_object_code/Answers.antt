-- Each way out has its law in proofs/HolderLaws.antt.
use borrow.Author.Rules.{rules}
use Rattle.writer.proofs.HolderLaws.{code_short, code_long}
use Rattle.writer.proofs.holders.put_object_code.Goals as goal

pub returns-then-class-lt16 : goal.returns-then-class-lt16
returns-then-class-lt16 c = search (code_short, rules)

pub returns : goal.returns
returns c = search (code_long, rules)

-- Each way out has its law in proofs/Holders.antt.
use Rattle.reader.proofs.Holders.{list_few, list_opens}
use Rattle.std.proofs.Common.{rules}
use Rattle.reader.proofs.heads.list_of.Goals as goal

pub returns-then-b-open_code : goal.returns-then-b-open_code
returns-then-b-open_code c = search (list_opens, rules)

pub overflow_sub-b : goal.overflow_sub-b
overflow_sub-b c = search (list_few, rules)

-- Each way out has its law in proofs/Holders.antt.
use Rattle.reader.proofs.Holders.{list_at, list_is}
use Rattle.std.proofs.Common.{rules}
use Rattle.reader.proofs.heads.list_head.Goals as goal

pub list_of-requires : goal.list_of-requires
list_of-requires c = search (list_at, rules)

pub returns : goal.returns
returns c = search (list_is, rules)

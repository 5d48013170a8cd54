-- The way out has its law in proofs/NameLaws.antt.
use borrow.Author.Rules.{rules}
use Rattle.writer.proofs.NameLaws.{string_put}
use Rattle.writer.proofs.names.put_bytes.Goals as goal

pub returns : goal.returns
returns c = search (string_put, rules)

-- Each way out has its law in proofs/TypeLaws.antt.
use borrow.Author.Rules.{rules}
use Rattle.writer.proofs.TypeLaws.{type_misnumbered, type_full, type_named}
use Rattle.writer.proofs.types.put_type_name.Goals as goal

pub returns-then-known-number : goal.returns-then-known-number
returns-then-known-number c = search (type_misnumbered, rules)

pub returns-then-known-ge-TYPES : goal.returns-then-known-ge-TYPES
returns-then-known-ge-TYPES c = search (type_full, rules)

pub returns : goal.returns
returns c = search (type_named, rules)

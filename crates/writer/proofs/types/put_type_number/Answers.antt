-- Each way out has its law in proofs/TypeLaws.antt.
use borrow.Author.Rules.{rules}
use Rattle.writer.proofs.TypeLaws.{type_second_law, type_another, type_ungiven, type_by_number}
use Rattle.writer.proofs.types.put_type_number.Goals as goal

pub returns-then-r-ne0 : goal.returns-then-r-ne0
returns-then-r-ne0 c = record { says = λ source. search (type_second_law, rules) }

pub returns-then-r-number : goal.returns-then-r-number
returns-then-r-number c = record { says = λ source. search (type_another, rules) }

pub returns-then-known-number : goal.returns-then-known-number
returns-then-known-number c = record { says = λ source. search (type_ungiven, rules) }

pub returns : goal.returns
returns c = record { says = λ source. search (type_by_number, rules) }

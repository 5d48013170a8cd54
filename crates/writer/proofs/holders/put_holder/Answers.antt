-- Each way out has its law in proofs/HolderLaws.antt.
use borrow.Author.Rules.{rules}
use Rattle.writer.proofs.HolderLaws.{held_lost, ready_opened, object_held, list_or_map_held}
use Rattle.writer.proofs.holders.put_holder.Goals as goal

pub returns-then-row : goal.returns-then-row
returns-then-row g c = search (object_held, rules)

pub returns-then-row-ne0 : goal.returns-then-row-ne0
returns-then-row-ne0 g c = search (held_lost, rules)

pub put_list_or_map-requires : goal.put_list_or_map-requires
put_list_or_map-requires g c = search (ready_opened, rules)

pub returns : goal.returns
returns g c = search (list_or_map_held, rules)

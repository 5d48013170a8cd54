-- The loop's invariant: what is left is written as the whole is, with the bytes so far before it.
use Rattle.writer.specs.Promises.{items_of}
use Rattle.writer.proofs.Classes.{NamesSoFar}
use Rattle.writer.proofs.names.put_field_names.Given as goal

abbrev pub invariant-loop : goal.invariant-loop
invariant-loop g l =
    NamesSoFar
    (items_of l.table) l.fn.from.next l.count l.fn.out l.fn.from.size.bytes
    l.out l.at.next l.at.size.bytes l.counter

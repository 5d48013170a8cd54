-- The rows before the index are told.
use Rattle.reader.proofs.ThousandthLaws.{Retelling}
use Rattle.reader.proofs.thousandths.retell.Given as goal

abbrev pub invariant-loop-index : goal.invariant-loop-index
invariant-loop-index g l =
    Retelling g.C.Cell.layout g.met.C.Cell.keeps l.message (g.C.Cell.numbers l.initial.table) l.rows
    (g.C.Cell.numbers l.table) l.index

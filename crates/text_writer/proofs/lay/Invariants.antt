-- The loop's invariant: what is stored so far, with the form of the rest after it, is the whole form. The measure is
-- how many bytes of content are left.
use lib.ListN.{length}
use Rattle.text_writer.specs.Writing.{rest}
use Rattle.text_writer.specs.Laying.{Laying}
use Rattle.text_writer.proofs.lay.Given as goal

abbrev pub invariant-loop-rest : goal.invariant-loop-rest
invariant-loop-rest l = Laying l.kind l.source l.fn.item.first l.initial.out l.to l.c l.rest l.place l.out

abbrev pub decreases-loop-rest : goal.decreases-loop-rest
decreases-loop-rest l = length (rest l.kind l.source l.c)

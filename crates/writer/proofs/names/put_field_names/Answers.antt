-- Each step has its law in proofs/Classes.antt.
use Rattle.std.proofs.lemmas.Result.{err_from_is_err_and}
use Rattle.writer.proofs.Classes.{names_begin, names_lost, names_room, names_more, names_past}
use Rattle.writer.proofs.names.put_field_names.Goals as goal

pub loop-init : goal.loop-init
loop-init g c = names_begin c.requires c.args.count c.args.out.now c.args.from.size

pub returns-in_err-size : goal.returns-in_err-size
returns-in_err-size g c = let p = err_from_is_err_and c.from_residual.result c.from_residual.ensures.1 in
    rw p.1 (names_lost c.loop.invariant c.loop-test.true c.in_err-size.ensures)

pub overflow_add-at : goal.overflow_add-at
overflow_add-at g c = names_room c.loop.invariant c.loop-test.true c.in_ok-size.ensures

pub loop-preserved : goal.loop-preserved
loop-preserved g c = names_more c.loop.invariant c.loop-test.true c.in_ok-size.ensures

pub returns : goal.returns
returns g c = names_past c.loop.at.size c.loop.invariant c.loop-test.false c.loop.auto.counter-end

-- Each step has its law in proofs/Classes.antt.
use Rattle.std.proofs.lemmas.Result.{err_from_is_err_and}
use Rattle.writer.proofs.Classes.{defining_start, defining_end, defining_value, defining_lost, defining_more}
use Rattle.writer.proofs.definitions.put_definitions.Goals as goal

pub loop-row-init : goal.loop-row-init
loop-row-init g c = defining_start c.requires c.args.from.size c.args.out.now

pub returns-in_err-row : goal.returns-in_err-row
returns-in_err-row g c = let p = err_from_is_err_and c.from_residual.result c.from_residual.ensures.1 in
    rw p.1 (defining_end c.loop-row.at c.loop-row.invariant c.in_err-row.ensures)

pub returns-then-row : goal.returns-then-row
returns-then-row g c = defining_value c.loop-row.at c.loop-row.invariant c.in_ok-row.ensures c.if-row.true

pub returns-in_err-at : goal.returns-in_err-at
returns-in_err-at g c = let p = err_from_is_err_and c.from_residual-in_err-at.result c.from_residual-in_err-at.ensures.1 in
    rw p.1 (defining_lost c.loop-row.at c.loop-row.invariant c.in_ok-row.ensures c.if-row.false _ _ c.in_err-at.ensures)

pub loop-row-preserved : goal.loop-row-preserved
loop-row-preserved g c =
    defining_more c.loop-row.at c.loop-row.invariant c.in_ok-row.ensures c.if-row.false _ _ c.in_ok-at.ensures

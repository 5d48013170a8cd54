-- Each way out has its law in proofs/Messages.antt.
use Rattle.std.proofs.Common.{◌<◌, ◌^◌, ◌≡◌, length}
use native.Mathlib.Omega.{arith}
use borrow.Author.Rules.{rules}
use Rattle.std.proofs.lemmas.Result.{err_from_is_err_and}
use Rattle.writer.proofs.Messages.{rows_as_many, ready_first, put_none, put_short, put_done}
use Rattle.writer.proofs.put_rows.Goals as goal

pub write_values-requires : goal.write_values-requires
write_values-requires g c =
    let f : c.table.inside.rows < 2 ^ 64 = omega arith in
    ready_first c.args.table.now (rw (rows_as_many g.C.Cell.layout c.table.inside.source.now (g.C.Cell.numbers c.table.inside.cells.now) c.table.inside.rows c.table.view_is) f) c.new-known.ensures.starts c.new-known.ensures.kept

pub returns-in_err-end : goal.returns-in_err-end
returns-in_err-end g c = let p = err_from_is_err_and c.from_residual.result c.from_residual.ensures.1 in
    rw p.1 (put_none c.args.table.now c.new-known.result c.new-known.ensures.starts c.in_err-end.ensures)

pub returns-then-end-rows : goal.returns-then-end-rows
returns-then-end-rows g c =
    put_short c.args.table.now c.new-known.result c.new-known.ensures.starts c.in_ok-end.end c.in_ok-end.ensures
    (rw (rows_as_many g.C.Cell.layout c.table.inside.source.now (g.C.Cell.numbers c.table.inside.cells.now) c.table.inside.rows c.table.view_is) c.if-end-rows.true)

pub returns : goal.returns
returns g c =
    put_done c.args.table.now c.new-known.result c.new-known.ensures.starts c.in_ok-end.end c.in_ok-end.ensures
    (rw (rows_as_many g.C.Cell.layout c.table.inside.source.now (g.C.Cell.numbers c.table.inside.cells.now) c.table.inside.rows c.table.view_is) c.if-end-rows.false)

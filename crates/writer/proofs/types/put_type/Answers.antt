-- Each way out has its law in proofs/TypeLaws.antt.
use borrow.Author.Tests.{not-false}
use borrow.Author.Rules.{rules}
use Rattle.std.proofs.lemmas.Result.{err_from_is_err_and}
use Rattle.writer.specs.Promises.{has_type}
use Rattle.writer.proofs.TypeLaws.{type_none, type_past, type_room, type_done}
use Rattle.writer.proofs.types.put_type.Goals as goal

pub returns-then-not-has_type : goal.returns-then-not-has_type
returns-then-not-has_type g c = let r = c.args.holder.row in
    search (type_none (has_type r) r.second, rules)

pub returns-in_err-row : goal.returns-in_err-row
returns-in_err-row g c = let r = c.args.holder.row in
    let p = err_from_is_err_and c.from_residual.result c.from_residual.ensures.1 in
    rw p.1 (search (type_past (has_type r) r.second, c.in_err-row.ensures, rules))

pub overflow_add-next : goal.overflow_add-next
overflow_add-next g c = let r = c.args.holder.row in
    search (type_room (has_type r) r.second, c.in_ok-row.ensures, c.in_ok-size.ensures, not-false, rules)

pub returns : goal.returns
returns g c = let r = c.args.holder.row in
    search (type_done (has_type r) r.second, c.in_ok-row.ensures, c.in_ok-size.ensures, rules)

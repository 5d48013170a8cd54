-- Each way out has its law in proofs/Classes.antt.
use borrow.Author.Rules.{rules}
use Rattle.std.proofs.lemmas.Result.{err_from_is_err_and}
use Rattle.writer.proofs.Classes.{name_past, name_unlike, name_put}
use Rattle.writer.proofs.names.put_name.Goals as goal

pub returns-in_err-row : goal.returns-in_err-row
returns-in_err-row g c = let p = err_from_is_err_and c.from_residual.result c.from_residual.ensures.1 in
    rw p.1 (search (name_past, c.in_err-row.ensures, rules))

pub returns-then-row-number : goal.returns-then-row-number
returns-then-row-number g c = search (name_unlike, c.in_ok-row.ensures, c.number.ensures, rules)

pub returns : goal.returns
returns g c = search (name_put, c.in_ok-row.ensures, c.number.ensures, rules)

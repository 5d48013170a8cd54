-- Each way out has its law in proofs/Classes.antt.
use borrow.Author.Rules.{rules}
use Rattle.std.proofs.lemmas.Result.{err_from_is_err_and}
use Rattle.writer.proofs.Classes.{class_unnamed, class_counted}
use Rattle.writer.proofs.definitions.put_class.Goals as goal

pub returns-in_err-named : goal.returns-in_err-named
returns-in_err-named g c = let p = err_from_is_err_and c.from_residual.result c.from_residual.ensures.1 in
    rw p.1 (search (class_unnamed, c.in_err-named.ensures, rules))

pub returns : goal.returns
returns g c = search (class_counted, c.in_ok-named.ensures, rules)

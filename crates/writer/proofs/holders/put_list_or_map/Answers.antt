-- Each way out has its law in proofs/HolderLaws.antt.
use borrow.Author.Rules.{rules}
use Rattle.std.proofs.lemmas.Result.{err_from_is_err_and}
use Rattle.writer.proofs.HolderLaws.{typeless, list_begun, map_begun}
use Rattle.writer.proofs.holders.put_list_or_map.Goals as goal

pub returns-in_err-at : goal.returns-in_err-at
returns-in_err-at g c = let p = err_from_is_err_and c.from_residual.result c.from_residual.ensures.1 in
    rw p.1 (search (typeless, c.in_err-at.ensures, rules))

pub returns-then-row : goal.returns-then-row
returns-then-row g c = search (list_begun, c.in_ok-at.ensures, rules)

pub returns : goal.returns
returns g c = search (map_begun, c.in_ok-at.ensures, rules)

-- Each way out has its law in proofs/HolderLaws.antt.
use borrow.Author.Rules.{rules}
use Rattle.std.proofs.lemmas.Result.{err_from_is_err_and}
use Rattle.writer.proofs.HolderLaws.{count_few, count_long, count_none, count_many}
use Rattle.writer.proofs.holders.put_count.Goals as goal

pub returns-in_err-size : goal.returns-in_err-size
returns-in_err-size c = let p = err_from_is_err_and c.from_residual.result c.from_residual.ensures.1 in
    rw p.1 (search (count_none, c.in_err-size.ensures, rules))

pub returns : goal.returns
returns c = search (count_many, c.in_ok-size.ensures, rules)

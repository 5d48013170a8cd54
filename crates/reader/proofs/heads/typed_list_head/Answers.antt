-- Each way out has its law in proofs/Holders.antt.
use Rattle.reader.proofs.Holders.{typed_list_at, typed_list_bad, typed_list_is}
use Rattle.std.proofs.lemmas.Result.{err_from_is_err_and}
use Rattle.reader.proofs.heads.typed_list_head.Goals as goal

pub returns-in_err-read : goal.returns-in_err-read
returns-in_err-read c = let p = err_from_is_err_and c.from_residual.result c.from_residual.ensures.1 in
    rw (p.1, p.2) (typed_list_bad _ _ _ c.requires _ c.in_err-read.ensures)

pub list_of-requires : goal.list_of-requires
list_of-requires c = typed_list_at _ _ c.requires _ _ c.in_ok-read.ensures

pub returns : goal.returns
returns c = typed_list_is _ _ _ _ c.in_ok-read.ensures c.requires _ c.list_of.ensures

-- Each way out has its law in proofs/Holders.antt.
use Rattle.reader.proofs.Holders.{typed_map_bad, typed_map_is}
use Rattle.std.proofs.Common.{rules}
use Rattle.std.proofs.lemmas.Result.{err_from_is_err_and}
use Rattle.reader.proofs.heads.typed_map_head.Goals as goal

pub returns-in_err-read : goal.returns-in_err-read
returns-in_err-read c = let p = err_from_is_err_and c.from_residual.result c.from_residual.ensures.1 in
    rw (p.1, p.2) (typed_map_bad _ _ _ c.requires _ c.in_err-read.ensures)

pub returns : goal.returns
returns c = search (typed_map_is, rules)

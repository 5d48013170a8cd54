-- Each way out has its law in proofs/Holders.antt.
use Rattle.reader.proofs.Holders.{object_bad, object_few, object_is, object_short}
use Rattle.reader.proofs.Leaves.{number_fits}
use Rattle.std.proofs.Common.{rules}
use Rattle.std.proofs.lemmas.Result.{err_from_is_err_and}
use Rattle.reader.proofs.heads.object_head.Goals as goal

pub returns-in_err-class : goal.returns-in_err-class
returns-in_err-class c = let p = err_from_is_err_and c.from_residual.result c.from_residual.ensures.1 in
    rw (p.1, p.2) (object_bad _ _ _ c.requires c.if-b-eq79.true _ c.in_err-class.ensures)

pub overflow_add-at-then-b-eq79-2 : goal.overflow_add-at-then-b-eq79-2
overflow_add-at-then-b-eq79-2 c = search (number_fits, rules)

pub returns-then-b-eq79 : goal.returns-then-b-eq79
returns-then-b-eq79 c = object_is _ _ _ c.requires c.if-b-eq79.true _ c.in_ok-class.ensures _ c.instance.ensures

pub overflow_sub-b : goal.overflow_sub-b
overflow_sub-b c = search (object_few, rules)

pub returns : goal.returns
returns c = search (object_short, rules)

-- Each way out has its law in proofs/Types.antt.
use Rattle.reader.proofs.Leaves.{number_fits}
use Rattle.reader.proofs.Types.{numbered_bad, numbered_is, numbered_none}
use Rattle.std.proofs.Common.{rules}
use Rattle.std.proofs.lemmas.Result.{err_from_is_err_and}
use Rattle.reader.proofs.heads.numbered_type.Goals as goal

pub returns-in_err-number : goal.returns-in_err-number
returns-in_err-number c = let p = err_from_is_err_and c.from_residual.result c.from_residual.ensures.1 in
    rw (p.1, p.2) (numbered_bad _ _ _ c.requires _ c.in_err-number.ensures)

pub returns-then-given-number : goal.returns-then-given-number
returns-then-given-number c = numbered_none _ _ _ c.requires _ c.in_ok-number.ensures c.if-given-number.true

pub overflow_add-result : goal.overflow_add-result
overflow_add-result c = search (number_fits, rules)

pub returns : goal.returns
returns c = search (numbered_is, rules)

-- Each way out has its law in proofs/Types.antt.
use Rattle.reader.proofs.Sizes.{string_fits}
use Rattle.reader.proofs.Types.{named_bad, named_full, named_is}
use Rattle.std.proofs.Common.{rules}
use Rattle.std.proofs.lemmas.Result.{err_from_is_err_and}
use Rattle.reader.proofs.heads.named_type.Goals as goal

pub returns-then-given-ge-TYPES : goal.returns-then-given-ge-TYPES
returns-then-given-ge-TYPES c = search (named_full, rules)

pub returns-in_err-name : goal.returns-in_err-name
returns-in_err-name c = let p = err_from_is_err_and c.from_residual.result c.from_residual.ensures.1 in
    rw (p.1, p.2) (named_bad _ _ _ c.requires c.if-given-ge-TYPES.false _ c.in_err-name.ensures)

pub overflow_add-result : goal.overflow_add-result
overflow_add-result c = search (string_fits, rules)

pub returns : goal.returns
returns c = search (named_is, rules)

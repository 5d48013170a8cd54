-- Each way out has its law in proofs/Leaves.antt.
use Rattle.reader.proofs.Leaves.{number_fits, reference_bad, reference_is, reference_none}
use Rattle.std.proofs.Common.{rules}
use Rattle.reader.proofs.heads.reference_head.Goals as goal

pub returns-in_err-number : goal.returns-in_err-number
returns-in_err-number c = search (reference_bad, rules)

pub returns-then-known-number : goal.returns-then-known-number
returns-then-known-number c = reference_none _ _ _ c.requires _ c.in_ok-number.ensures c.if-known-number.true

pub overflow_add-result-2 : goal.overflow_add-result-2
overflow_add-result-2 c = search (number_fits, rules)

pub returns : goal.returns
returns c = search (reference_is, rules)

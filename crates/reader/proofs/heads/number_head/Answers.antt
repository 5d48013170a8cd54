-- Each way out has its law in proofs/Leaves.antt.
use Rattle.reader.proofs.Leaves.{number_fits, number_head_bad, number_head_is}
use Rattle.std.proofs.Common.{rules}
use Rattle.reader.proofs.heads.number_head.Goals as goal

pub returns-in_err-number : goal.returns-in_err-number
returns-in_err-number c = search (number_head_bad, rules)

pub overflow_add-result : goal.overflow_add-result
overflow_add-result c = search (number_fits, rules)

pub returns : goal.returns
returns c = search (number_head_is, rules)

-- Each way out has its law in proofs/Leaves.antt.
use Rattle.reader.proofs.Leaves.{bytes_head_bad, bytes_head_is}
use Rattle.reader.proofs.Sizes.{string_fits}
use Rattle.std.proofs.Common.{rules}
use Rattle.reader.proofs.heads.bytes_head.Goals as goal

pub returns-in_err-string : goal.returns-in_err-string
returns-in_err-string c = search (bytes_head_bad, rules)

pub overflow_add-result : goal.overflow_add-result
overflow_add-result c = search (string_fits, rules)

pub returns : goal.returns
returns c = search (bytes_head_is, rules)

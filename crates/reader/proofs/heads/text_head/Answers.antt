-- Each way out has its law in proofs/Leaves.antt.
use Rattle.reader.proofs.Leaves.{text_head_bad, text_head_is}
use Rattle.reader.proofs.Sizes.{string_fits}
use Rattle.std.proofs.Common.{rules}
use Rattle.reader.proofs.heads.text_head.Goals as goal

pub returns-in_err-text : goal.returns-in_err-text
returns-in_err-text c = search (text_head_bad, rules)

pub overflow_add-result : goal.overflow_add-result
overflow_add-result c = search (string_fits, rules)

pub returns : goal.returns
returns c = search (text_head_is, rules)

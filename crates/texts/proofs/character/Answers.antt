-- Each way out has its law in proofs/Strings.antt.
use Rattle.std.proofs.Common.{arith, rules}
use Rattle.texts.proofs.Strings.{opens_one, opens_two, opens_half, char_ends, char_other, char_half}
use Rattle.texts.proofs.character.Goals as goal

pub returns-then-len-at : goal.returns-then-len-at
returns-then-len-at c = search (char_ends, rules)

pub opened-requires : goal.opened-requires
opened-requires c = search (opens_one, rules)

pub opened-requires-in-Supplementary : goal.opened-requires-in-Supplementary
opened-requires-in-Supplementary c = search (opens_two, rules)

pub opened-requires-in-Basic : goal.opened-requires-in-Basic
opened-requires-in-Basic c = search (opens_one, rules)

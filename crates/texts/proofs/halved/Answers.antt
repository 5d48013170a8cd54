-- Each way out has its law in proofs/Strings.antt.
use Rattle.std.proofs.Common.{arith, rules}
use Rattle.texts.proofs.Strings.{below_low, below_end}
use Rattle.texts.proofs.halved.Goals as goal

pub opened-requires : goal.opened-requires
opened-requires c = search (below_end, rules)

pub returns-then-message-next : goal.returns-then-message-next
returns-then-message-next c = c.opened.ensures _ (omega arith)

pub opened-requires-then-d-lt160 : goal.opened-requires-then-d-lt160
opened-requires-then-d-lt160 c = search (below_low, rules)

pub returns-then-d-lt160 : goal.returns-then-d-lt160
returns-then-d-lt160 c = c.opened-then-d-lt160.ensures _ (omega arith)

pub returns : goal.returns
returns c = c.pair.ensures _ (omega arith)

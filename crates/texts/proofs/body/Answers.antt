-- Each way out has its law in proofs/Strings.antt.
use Rattle.std.proofs.Common.{rules}
use Rattle.texts.proofs.Strings.{content_there, content_cut}
use Rattle.texts.proofs.body.Goals as goal

pub returns-then-len-at : goal.returns-then-len-at
returns-then-len-at c = search (content_cut, rules)

pub returns-else-len-at : goal.returns-else-len-at
returns-else-len-at c = search (content_there, rules)

-- Each way out has its law in proofs/ValueLaws.antt.
use borrow.Author.Rules.{rules}
use Rattle.writer.proofs.ValueLaws.{done_elements, done_even, done_odd}
use Rattle.writer.proofs.values.finished.Goals as goal

pub returns-in-Elements : goal.returns-in-Elements
returns-in-Elements c = search (done_elements, rules)

pub returns-then-i-eq0 : goal.returns-then-i-eq0
returns-then-i-eq0 c = search (done_even, rules)

pub returns-else-i-eq0 : goal.returns-else-i-eq0
returns-else-i-eq0 c = search (done_odd, rules)

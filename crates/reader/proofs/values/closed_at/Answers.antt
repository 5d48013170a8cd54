-- Past the end nothing closes.
use Rattle.flow.specs.Tests.{pick_false, pick_true}
use Rattle.std.proofs.Common.{le-leb, le-ltb, sym, ◌∙◌}
use borrow.Author.Tests.{lt-leb}
use Rattle.reader.proofs.values.closed_at.Goals as goal

pub returns-then-at-message : goal.returns-then-at-message
returns-then-at-message c = sym (pick_false _ _ (lt-leb _ _ c.if-at-message.true))

pub returns-else-at-message : goal.returns-else-at-message
returns-else-at-message c = le-ltb _ _ c.if-at-message.false ∙ sym (pick_true _ _ (le-leb _ _ c.if-at-message.false))

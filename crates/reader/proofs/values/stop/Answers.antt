-- Where a map's value is due, 5a is no end.
use Rattle.flow.specs.Tests.{pick_false, pick_true}
use Rattle.std.proofs.Common.{eq-eqb, ne_eqb, sym, ◌∙◌}
use Rattle.reader.proofs.values.stop.Goals as goal

pub returns-then-i-eq0 : goal.returns-then-i-eq0
returns-then-i-eq0 c = rw c.in-Pairs.is (c.closed_at-then-i-eq0.ensures ∙ sym (pick_true _ _ (eq-eqb _ _ c.if-i-eq0.true)))

pub returns-else-i-eq0 : goal.returns-else-i-eq0
returns-else-i-eq0 c = rw c.in-Pairs.is (ne_eqb _ _ c.if-i-eq0.false ∙ sym (pick_false _ _ (ne_eqb _ _ c.if-i-eq0.false)))

-- Fewer are there.
use Rattle.std.proofs.Common.{rules}
use Rattle.wire.specs.Laws.{eight_few}
use Rattle.wire.proofs.eight_at.Goals as goal

pub returns-2 : goal.returns-2
returns-2 c = search (eight_few, rules)

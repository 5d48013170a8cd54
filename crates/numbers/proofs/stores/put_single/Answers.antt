-- Each way out has its law in proofs/Shortest.antt.
use Rattle.std.proofs.Common.{refl, arith, rules}
use Rattle.numbers.proofs.Writing.{put_none, put_as}
use Rattle.numbers.proofs.Shortest.{single_held, single_other}
use Rattle.numbers.proofs.stores.put_single.Goals as goal

pub returns-then-value-ne0 : goal.returns-then-value-ne0
returns-then-value-ne0 c = put_none _ _ (single_other _ _ c.if-value-ne0.true)

pub returns : goal.returns
returns c = put_as _ _ c.store.ensures refl (omega arith) (single_held _ _ (search rules))

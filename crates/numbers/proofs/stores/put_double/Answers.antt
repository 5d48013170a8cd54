-- A double that no shorter form holds has its law in proofs/Shortest.antt.
use Rattle.std.proofs.Common.{refl, arith, rules}
use Rattle.numbers.proofs.Writing.{put_as}
use Rattle.numbers.proofs.Shortest.{double_wide}
use Rattle.numbers.proofs.stores.put_double.Goals as goal

pub returns : goal.returns
returns c = put_as _ _ c.store_nine.ensures refl (omega arith) (search (double_wide, rules))

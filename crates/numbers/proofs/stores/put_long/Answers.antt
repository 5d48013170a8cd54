-- A long of more than 32 bits has its law in proofs/Shortest.antt.
use Rattle.std.proofs.Common.{refl, arith, rules}
use Rattle.numbers.proofs.Writing.{put_as}
use Rattle.numbers.proofs.Shortest.{long_codes, long_wide}
use Rattle.numbers.proofs.stores.put_long.Goals as goal

pub put_whole-requires : goal.put_whole-requires
put_whole-requires c = long_codes

pub returns : goal.returns
returns c = put_as _ _ c.store_nine.ensures refl (omega arith) (search (long_wide, rules))

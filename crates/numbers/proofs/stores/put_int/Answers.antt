-- The forms are those of ints.
use Rattle.numbers.proofs.Shortest.{int_codes}
use Rattle.numbers.proofs.stores.put_int.Goals as goal

pub put_whole-requires : goal.put_whole-requires
put_whole-requires c = int_codes

-- Each way out has its law in proofs/Shortest.antt.
use Rattle.std.proofs.Common.{refl, arith, rules}
use Rattle.numbers.proofs.Writing.{put_as}
use Rattle.numbers.proofs.Shortest.{whole_one, whole_two, whole_three, whole_five}
use Rattle.numbers.proofs.stores.put_whole.Goals as goal

pub returns-then-u-codes : goal.returns-then-u-codes
returns-then-u-codes c = put_as _ _ c.store.ensures refl (omega arith) (search (whole_one, rules))

pub returns-then-u-lt4096 : goal.returns-then-u-lt4096
returns-then-u-lt4096 c = put_as _ _ c.store-then-u-lt4096.ensures refl (omega arith) (search (whole_two, rules))

pub returns-then-u-lt524288 : goal.returns-then-u-lt524288
returns-then-u-lt524288 c = put_as _ _ c.store-then-u-lt524288.ensures refl (omega arith) (search (whole_three, rules))

pub returns-then-within : goal.returns-then-within
returns-then-within c = put_as _ _ c.store_five.ensures refl (omega arith) (search (whole_five, rules))

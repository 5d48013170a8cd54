-- `repeat_byte` meets its contract: a fill stores as much as fits.
use Rattle.std.proofs.Common.{arith, rules}
use Rattle.vectors.proofs.Stores.{filled_up}
use Rattle.vectors.proofs.repeat_byte.Goals as goal

pub returns-then-room-more-clause-bytes_after : goal.returns-then-room-more-clause-bytes_after
returns-then-room-more-clause-bytes_after c =
    let filled = c.fill.ensures.after (λ y e. e) in
    filled_up _ _ _ c.args.more c.min-room.result _ _ filled (omega arith) (search rules) (search rules)

pub returns-clause-bytes_after : goal.returns-clause-bytes_after
returns-clause-bytes_after c =
    let filled = c.fill.ensures.after (λ y e. e) in
    filled_up _ _ _ c.args.more c.min-room.result _ _ filled (omega arith) (search rules) (search rules)

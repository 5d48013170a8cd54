-- They fit, or they do not.
use Rattle.std.proofs.Common.{◌≡◌, ◌+◌, ◌-◌, sym, length, arith, rules}
use Rattle.flow.specs.OverlayLaws.{stored_out}
use Rattle.numbers.proofs.Writing.{part_stored}
use Rattle.numbers.proofs.stores.store.Goals as goal

pub returns-in-Ok : goal.returns-in-Ok
returns-in-Ok g c =
    let n : g.row.N ≡ length c.args.bytes = search rules in
    let room = c.in-Ok.ensures in
    rw c.copy_from_slice.ensures.after
    (part_stored _ c.args.bytes c.args.at (c.args.at + g.row.N - c.args.at) (omega arith) (omega arith))

pub returns-in_default : goal.returns-in_default
returns-in_default g c =
    let n : g.row.N ≡ length c.args.bytes = search rules in
    sym (stored_out _ c.args.at c.args.bytes (omega (arith, n, c.in_default.ensures)))

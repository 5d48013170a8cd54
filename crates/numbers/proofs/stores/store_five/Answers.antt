-- They fit, or they do not.
use Rattle.std.proofs.Common.{◌∷◌, ◌∙◌, sym, arith}
use Rattle.flow.specs.OverlayLaws.{stored_out}
use Rattle.wire.specs.BigEndian.{be}
use Rattle.numbers.proofs.Writing.{wide_stored, be_four}
use Rattle.numbers.proofs.stores.store_five.Goals as goal

pub returns-in-Ok : goal.returns-in-Ok
returns-in-Ok c =
    wide_stored 4 _ _ _ _ _ c.in-Ok.ensures (c.copy_from_slice.ensures.after ∙ c.to_be_bytes.ensures ∙ be_four _)

pub returns-in_default : goal.returns-in_default
returns-in_default c =
    sym (stored_out _ c.args.at (c.args.code ∷ be 4 c.args.v) (omega (arith, c.in_default.ensures)))

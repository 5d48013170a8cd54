-- They fit, or they do not.
use Rattle.std.proofs.Common.{◌∷◌, ◌∙◌, sym, arith}
use Rattle.flow.specs.OverlayLaws.{stored_out}
use Rattle.wire.specs.BigEndian.{be}
use Rattle.wire.specs.Laws.{be_length}
use Rattle.numbers.proofs.Writing.{code_stored}
use Rattle.numbers.proofs.stores.store_spelling.Goals as goal

pub returns-in-Ok : goal.returns-in-Ok
returns-in-Ok c = c.store_number.ensures.1 ∙ code_stored _ _ _ _ _ c.in-Ok.ensures

pub returns-in_default : goal.returns-in_default
returns-in_default c =
    let f = c.args.form in
    sym (stored_out _ c.args.at (f.code ∷ be f.more f.rest) (omega (arith, be_length f.more f.rest, c.in_default.ensures)))

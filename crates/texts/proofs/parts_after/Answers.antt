-- Each way out has its law in proofs/Strings.antt.
use Rattle.texts.proofs.Strings.{parts_filled, cut_bytes, cut_there}
use Rattle.texts.proofs.parts_after.Goals as goal
use Rattle.texts.proofs.parts_after.Goals.{in-Binary, in-Utf8+in_ok-front-in-Utf8}

pub returns-then-units-room : goal.returns-then-units-room
returns-then-units-room c =
    parts_filled _ _ _ _ _ c.type_inv.message c.requires.inside.0 c.requires.open.0 c.if-units-room.true

pub returns : goal.returns
returns c =
    let h = c.if-units-room.false in
    let r = c.requires in
    elim c.match-kind.branch [
      | in-Binary w ↦ cut_bytes _ _ _ _ _ c.type_inv.message r.inside.0 r.open.0 h r.inside.1 w.in-Binary.is w.front-is
      | in-Utf8+in_ok-front-in-Utf8 w ↦ cut_there _ _ _ _ _ c.type_inv.message r.inside.0 r.open.0 h r.inside.1 w.in-Utf8.is _ w.in_ok-front-in-Utf8.ensures w.front-is
    ]

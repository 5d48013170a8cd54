-- Each way out has its law in proofs/Pieces.antt.
use native.Mathlib.Omega.{arith}
use Rattle.text_writer.proofs.Pieces.{pair_stops, piece_pair, byte_stops, piece_byte}
use Rattle.text_writer.proofs.put_character.Goals as goal

pub returns-then-cap-lt2 : goal.returns-then-cap-lt2
returns-then-cap-lt2 c = pair_stops _ _ _ _ _ c.in-Some.ensures.there (omega arith)

pub returns-in-Some : goal.returns-in-Some
returns-in-Some c =
    piece_pair _ _ _ _ _ c.in-Some.ensures.there (omega arith) _ _ c.in-Some.ensures.character c.put_bytes.ensures

pub returns-then-cap-units : goal.returns-then-cap-units
returns-then-cap-units c =
    byte_stops _ _ _ _ _ c.in_default.ensures.there c.requires _ c.weight-units.ensures (omega arith)

pub returns : goal.returns
returns c =
    piece_byte _ _ _ _ _ c.in_default.ensures.there c.requires _ c.weight-units.ensures (omega arith) _
    c.put_bytes-2.ensures

-- Where the bytes do not all fit, nothing is stored.
use mathlib.Core.Path.{sym}
use native.Mathlib.Omega.{arith}
use Rattle.flow.specs.OverlayLaws.{stored_out}
use Rattle.text_writer.proofs.Pieces.{part_stored}
use Rattle.text_writer.proofs.put_bytes.Goals as goal

pub returns-then-out-to : goal.returns-then-out-to
returns-then-out-to c = sym (stored_out _ _ _ (omega arith))

pub returns : goal.returns
returns c = part_stored _ _ _ _ (omega arith) c.copy_from_slice.ensures.after

-- `put_part_head` meets its contract.
use native.Mathlib.Omega.{arith}
use Rattle.text_writer.specs.Heads.{part_three}
use Rattle.text_writer.proofs.Laying.{head_stored}
use Rattle.text_writer.proofs.put_part_head.Goals as goal

pub returns : goal.returns
returns c = head_stored _ _ _ _ _ (part_three c.heads_of-h.ensures _ (omega arith)) c.store_number.ensures.1

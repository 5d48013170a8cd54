-- `put_last_head` meets its contract.
use native.Mathlib.Omega.{arith}
use Rattle.text_writer.specs.Heads.{last_one, last_two, last_three}
use Rattle.text_writer.proofs.Laying.{head_stored}
use Rattle.text_writer.proofs.put_last_head.Goals as goal

pub returns-then-units-h : goal.returns-then-units-h
returns-then-units-h c = head_stored _ _ _ _ _ (last_one c.heads_of-h.ensures _ (omega arith)) c.store_number.ensures.1

pub returns-then-units-lt1024 : goal.returns-then-units-lt1024
returns-then-units-lt1024 c =
    head_stored _ _ _ _ _ (last_two c.heads_of-h.ensures _ (omega arith) (omega arith))
    c.store_number-then-units-lt1024.ensures.1

pub returns : goal.returns
returns c =
    head_stored _ _ _ _ _ (last_three c.heads_of-h.ensures _ (omega arith) (omega arith) (omega arith))
    c.store_number-2.ensures.1

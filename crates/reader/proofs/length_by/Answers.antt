-- Each way out has its law in proofs/Message.antt.
use Rattle.flow.specs.Tests.{bytes_all}
use Rattle.reader.proofs.Message.{first_number, length_lost, record_length}
use Rattle.reader.proofs.length_by.Goals as goal

pub returns-in-Ok : goal.returns-in-Ok
returns-in-Ok g c = first_number (λ x. x.sum) _ c.judge.new.slots _
    (record_length _ (bytes_all _ (λ i. (c.type_inv.message i).fits)) c.in-Ok.ensures.says)

pub returns-in-Err : goal.returns-in-Err
returns-in-Err g c = length_lost _ _ c.in-Err.ensures

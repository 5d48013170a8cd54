-- Each way out has its law in proofs/Message.antt.
use Rattle.reader.proofs.Message.{measured_ok}
use Rattle.reader.proofs.measured.Goals as goal

pub returns : goal.returns
returns g c = measured_ok (λ x. x.sum) _ c.read_into.new.sums c.in_ok-filled.ensures

-- Each way out has its law in proofs/ValueLaws.antt.
use Rattle.writer.proofs.ValueLaws.{enter}
use Rattle.writer.proofs.values.begin.Goals as goal

pub returns : goal.returns
returns g c = enter c.args.allowed c.in_ok-value.ensures _ c.in_ok-start.ensures

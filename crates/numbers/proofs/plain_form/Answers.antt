-- Its bytes are all of the value.
use Rattle.std.proofs.Common.{arith}
use Rattle.numbers.proofs.Writing.{plain_holds}
use Rattle.numbers.proofs.plain_form.Goals as goal

pub returns : goal.returns
returns c = plain_holds _ _ (omega arith)

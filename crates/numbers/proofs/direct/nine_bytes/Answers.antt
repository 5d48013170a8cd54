-- Each way out has its law in proofs/Loads.antt.
use Rattle.numbers.proofs.Loads.{passed_cut, nine_is}
use Rattle.numbers.proofs.direct.nine_bytes.Goals as goal

pub returns-in_err-followed : goal.returns-in_err-followed
returns-in_err-followed c = passed_cut _ _ _ _ _ _ _ c.from_residual.ensures.1 c.in_err-followed.ensures

pub returns : goal.returns
returns c = nine_is _ _ _ c.in_ok-followed.ensures c.eight_at.ensures

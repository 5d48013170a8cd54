-- The form by its byte; any other byte is read as any number.
use Rattle.numbers.proofs.Reading.{passed_end}
use Rattle.numbers.proofs.Loads.{single_is}
use Rattle.numbers.proofs.direct.single.Goals as goal

pub returns-in_err-b : goal.returns-in_err-b
returns-in_err-b c = passed_end _ _ _ _ _ c.from_residual.ensures.1 c.in_err-b.ensures

pub returns-then-b-code : goal.returns-then-b-code
returns-then-b-code c =
    let b = c.in_ok-b.ensures in single_is _ _ _ _ c.requires b.0 _ b.1 c.if-b-code.true

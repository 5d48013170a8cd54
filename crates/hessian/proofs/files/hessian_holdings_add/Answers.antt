use Rattle.std.proofs.Common.{rules}
use Rattle.hessian.proofs.HoldingsAnswers.{add_gives}
use Rattle.hessian.proofs.files.hessian_holdings_add.Goals as goal

pub returns : goal.returns
returns c = add_gives _ _ _ _ c.from.ensures _ _ _ _ c.add.ensures

use Rattle.std.proofs.Common.{rules}
use Rattle.hessian.proofs.HoldingsAnswers.{add_all_gives}
use Rattle.hessian.proofs.files.hessian_holdings_add_all.Goals as goal

pub returns : goal.returns
returns c = add_all_gives _ _ _ _ c.from.ensures _ _ _ _ _ _ c.add_all.ensures

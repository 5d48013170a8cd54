use Rattle.std.proofs.Common.{rules}
use Rattle.hessian.proofs.HoldingsAnswers.{list_gives}
use Rattle.hessian.proofs.files.hessian_holdings_list.Goals as goal

pub returns : goal.returns
returns c = list_gives _ _ _ _ c.from.ensures _ _ _ _ c.list_bytes.ensures

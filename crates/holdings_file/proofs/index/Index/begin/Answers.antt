use Rattle.holdings_file.proofs.IndexChains.{empty_index}
use Rattle.holdings_file.proofs.index.Index.begin.Goals as goal

pub returns : goal.returns
returns c = empty_index _ _ (c.fill.ensures.after (λ y e. e))

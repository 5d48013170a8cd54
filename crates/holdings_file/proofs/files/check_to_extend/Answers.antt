use mathlib.Core.Path.{sym, ◌∙◌}
use borrow.Author.Tests.{eqb-true, eqb-false}
use Rattle.holdings_file.proofs.FileChecks.{opened_new, opened_old}
use Rattle.holdings_file.proofs.files.check_to_extend.Goals as goal

pub returns-then-is_empty : goal.returns-then-is_empty
returns-then-is_empty c = opened_new c.args.file.now c.args.index.now
    (eqb-true _ _ (sym c.is_empty.ensures ∙ c.if-is_empty.true)) c.requires

pub returns : goal.returns
returns c = opened_old c.args.file.now (eqb-false _ _ (sym c.is_empty.ensures ∙ c.if-is_empty.false)) _ _ c.check.ensures

use mathlib.Core.Path.{sym, ◌∙◌}
use borrow.Author.Rules.{rules}
use Rattle.holdings_file.proofs.FileChecks.{check_unmarked, check_unknown, check_long, check_known}
use Rattle.holdings_file.proofs.files.check.Goals as goal

pub returns-then-not-is_marked : goal.returns-then-not-is_marked
returns-then-not-is_marked c =
    check_unmarked c.args.file.now _ c.is_marked.ensures c.if-not-is_marked.true c.args.index.now

pub returns-then-ne : goal.returns-then-ne
returns-then-ne c = check_unknown c.args.file.now _ c.is_marked.ensures c.if-not-is_marked.false _ c.version.ensures
    (sym c.ne.ensures ∙ c.if-ne.true) c.args.index.now

pub check_entries-requires : goal.check_entries-requires
check_entries-requires c = (
  search rules,
  check_long c.args.file.now _ c.is_marked.ensures c.if-not-is_marked.false _ c.version.ensures
      (sym c.ne.ensures ∙ c.if-ne.false),
)

pub returns : goal.returns
returns c = check_known c.args.file.now _ c.is_marked.ensures c.if-not-is_marked.false _ c.version.ensures
    (sym c.ne.ensures ∙ c.if-ne.false) _ _ c.check_entries.ensures

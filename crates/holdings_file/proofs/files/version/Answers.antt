use borrow.Author.Rules.{rules}
use Rattle.holdings_file.proofs.FileChecks.{version_cut, version_is}
use Rattle.holdings_file.proofs.files.version.Goals as goal

pub returns-then-file-lt-HEADER_SIZE : goal.returns-then-file-lt-HEADER_SIZE
returns-then-file-lt-HEADER_SIZE c = search (version_cut, rules)

pub returns : goal.returns
returns c = search (version_is, rules)

-- Each way out has its law in proofs/Leaves.antt.
use Rattle.reader.proofs.Leaves.{count_is}
use Rattle.std.proofs.Common.{rules}
use Rattle.reader.proofs.heads.count_at.Goals as goal

pub returns-then-count-lt9223372036854775808 : goal.returns-then-count-lt9223372036854775808
returns-then-count-lt9223372036854775808 c = search (count_is, rules)

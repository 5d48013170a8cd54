-- Each way out has its law in proofs/ValueHeads.antt.
use Rattle.reader.proofs.ValueHeads.{opens_map, opens_none}
use Rattle.std.proofs.Common.{rules}
use Rattle.reader.proofs.heads.opening.Goals as goal

pub returns-then-allowed-eq0 : goal.returns-then-allowed-eq0
returns-then-allowed-eq0 c = search (opens_none, rules)

pub returns-in-Map : goal.returns-in-Map
returns-in-Map c = search (opens_map, rules)

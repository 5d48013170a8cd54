-- The first byte says which: proofs/ValueHeads.antt.
use Rattle.reader.proofs.ValueHeads.{usual_int, usual_long, usual_text}
use Rattle.std.proofs.Common.{rules}
use Rattle.reader.proofs.heads.usual_leaf.Goals as goal

pub whole_number-requires : goal.whole_number-requires
whole_number-requires c = (search (usual_long, rules), c.pass_long.ensures)

pub whole_number-requires-then-b-ge128 : goal.whole_number-requires-then-b-ge128
whole_number-requires-then-b-ge128 c = (search (usual_int, rules), c.pass_int.ensures)

pub whole_text-requires : goal.whole_text-requires
whole_text-requires c = (search (usual_text, rules), c.pass_text.ensures)

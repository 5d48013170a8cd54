-- A form by how many bytes it has: proofs/PutLaws.antt.
use Rattle.writer.proofs.PutLaws.{size_put}
use Rattle.writer.proofs.puts.put_int.Goals as goal

pub returns-in_default : goal.returns-in_default
returns-in_default c = record { says = c.in_default.ensures.0 }

pub returns : goal.returns
returns c = size_put _ _ _ _ _ _ c.in-Some.ensures c.grown.ensures

-- Both ways through the test have their laws in proofs/PutLaws.antt.
use borrow.Author.Rules.{rules}
use Rattle.writer.proofs.PutLaws.{puts_in, puts_out}
use Rattle.writer.proofs.puts.put_byte.Goals as goal
use Rattle.writer.proofs.puts.put_byte.Goals.{then-size-out, else-size-out}

pub returns : goal.returns
returns c = elim c.if-size-out.branch [
  | then-size-out w ↦ search (puts_in, rules)
  | else-size-out w ↦ search (puts_out, rules)
]

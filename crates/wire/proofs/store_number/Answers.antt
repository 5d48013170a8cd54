use Rattle.std.proofs.Common.{◌∙◌, rules, arith}
use Rattle.wire.specs.Laws.{sets_be}
use Rattle.wire.proofs.Bytes.{none_stored, all_stored}
use Rattle.wire.proofs.store_number.Goals as goal

pub returns-then-len-at : goal.returns-then-len-at
returns-then-len-at c = search (none_stored, rules)

pub loop-k-preserved : goal.loop-k-preserved
loop-k-preserved c = sets_be c.loop-k.bytes c.args.at c.loop-k.k c.loop-k.rest (omega arith) ∙ c.loop-k.invariant

pub returns : goal.returns
returns c = all_stored _ _ _ _ _ c.loop-k.k c.loop-k.rest (omega arith) c.loop-k-test.false c.loop-k.invariant

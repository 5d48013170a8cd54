use Rattle.std.proofs.Common.{arith, rules, refl}
use Rattle.vectors.proofs.Laws.{reads_more, too_large}
use Rattle.vectors.proofs.decimal.Goals as goal

pub returns-in_err-checked_mul : goal.returns-in_err-checked_mul
returns-in_err-checked_mul c = let d = c.in-Some-0-to-9.ensures in too_large _ c.loop-d.invariant d.value.0 (omega arith) (search rules) (search rules)

pub returns-in_err-value : goal.returns-in_err-value
returns-in_err-value c = let d = c.in-Some-0-to-9.ensures in too_large _ c.loop-d.invariant d.value.0 (omega arith) (search rules) (search rules)

pub loop-d-preserved : goal.loop-d-preserved
loop-d-preserved c = let d = c.in-Some-0-to-9.ensures in reads_more _ c.loop-d.invariant d.value.0 (omega arith) (d.at_in_bounds refl) (search rules)

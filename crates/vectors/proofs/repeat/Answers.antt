use Rattle.std.proofs.Common.{arith, refl, rules}
use Rattle.vectors.proofs.Stores.{repeats_more, repeats_full, repeats_byte, repeats_byte_full}
use Rattle.vectors.proofs.repeat.Goals as goal

pub returns-in_err-here : goal.returns-in_err-here
returns-in_err-here c =
    let a = c.in_err-here.ensures in
    repeats_full c.loop.invariant _ (omega arith) a.value a.bytes_after (search rules)

pub loop-preserved : goal.loop-preserved
loop-preserved c =
    let a = c.in_ok-here.ensures in
    repeats_more c.loop.invariant (omega arith) a.value.0 a.value.1 a.bytes_after (omega arith)

pub returns-in_err-end : goal.returns-in_err-end
returns-in_err-end c =
    let a = c.in_err-end.ensures in
    repeats_byte_full _ _ _ _ _ _ (omega arith) (omega arith) refl (omega arith) a.value a.bytes_after (search rules)

pub returns-then-size-from-eq1 : goal.returns-then-size-from-eq1
returns-then-size-from-eq1 c =
    let a = c.in_ok-end.ensures in
    repeats_byte _ _ _ _ _ _ (omega arith) (omega arith) refl (omega arith) a.value.0 a.value.1 a.bytes_after

use Rattle.std.proofs.Common.{arith, refl, rules}
use Rattle.vectors.proofs.Stores.{takes_end, takes_odd, takes_full, takes_more}
use Rattle.vectors.proofs.take_bytes.Goals as goal

pub returns-in_err-low : goal.returns-in_err-low
returns-in_err-low c =
    let d = c.in-Some.ensures in
    takes_odd c.loop-high.invariant d.value.0 d.value.1 (d.at_in_bounds refl) c.in_err-low.ensures.value (search rules)

pub returns-then-bytes-size : goal.returns-then-bytes-size
returns-then-bytes-size c =
    let d = c.in-Some.ensures in
    let e = c.in_ok-low.ensures in
    takes_full c.loop-high.invariant d.value.0 d.value.1 (d.at_in_bounds refl) e.value.0 e.value.1 (e.at_in_bounds refl)
    c.if-bytes-size.true

pub loop-high-preserved : goal.loop-high-preserved
loop-high-preserved c =
    let d = c.in-Some.ensures in
    let e = c.in_ok-low.ensures in
    takes_more c.loop-high.invariant d.value.0 d.value.1 (d.at_in_bounds refl) e.value.0 e.value.1 (e.at_in_bounds refl)
    c.if-bytes-size.false (omega arith)

pub returns : goal.returns
returns c = takes_end c.loop-high.invariant (search rules)

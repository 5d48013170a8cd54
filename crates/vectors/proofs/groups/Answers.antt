use Rattle.std.proofs.Common.{arith, rules}
use Rattle.vectors.proofs.Laws.{digit_found, digit_missed}
use Rattle.vectors.proofs.Stores.{gathers_none, gathers_end, gathers_break, gathers_stuck, gathers_more}
use Rattle.vectors.proofs.groups.Goals as goal

pub loop-bytes-init : goal.loop-bytes-init
loop-bytes-init c = gathers_none _ _ _

pub returns-in_err-held : goal.returns-in_err-held
returns-in_err-held c =
    let d = digit_found _ c.digit_at.ensures.value c.is_some.ensures c.if-is_some.true in
    gathers_stuck c.loop-bytes.invariant c.stands.ensures c.loop-bytes-test.true d c.group.ensures c.in_err-held.was
    (search rules)

pub loop-bytes-smaller : goal.loop-bytes-smaller
loop-bytes-smaller c =
    let d = digit_found _ c.digit_at.ensures.value c.is_some.ensures c.if-is_some.true in
    let g = gathers_more c.loop-bytes.invariant c.stands.ensures c.loop-bytes-test.true d c.group.ensures
    c.in_ok-held.was in
    omega (arith, g.0, g.1)

pub loop-bytes-preserved : goal.loop-bytes-preserved
loop-bytes-preserved c =
    let d = digit_found _ c.digit_at.ensures.value c.is_some.ensures c.if-is_some.true in
    let g = gathers_more c.loop-bytes.invariant c.stands.ensures c.loop-bytes-test.true d c.group.ensures
    c.in_ok-held.was in
    g.2

pub returns-else-is_some : goal.returns-else-is_some
returns-else-is_some c =
    gathers_break c.loop-bytes.invariant (digit_missed _ c.digit_at.ensures.value c.is_some.ensures c.if-is_some.false)

pub returns-after-loop-bytes : goal.returns-after-loop-bytes
returns-after-loop-bytes c = gathers_end c.loop-bytes.invariant c.stands.ensures c.loop-bytes-test.false

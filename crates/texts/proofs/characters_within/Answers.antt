use Rattle.std.proofs.Common.{◌≡◌, ◌-◌, arith}
use Rattle.texts.specs.Ascii.{few_are, inside_are}
use Rattle.texts.proofs.Strings.{passing_start, within_more, within_over, within_all}
use Rattle.texts.proofs.AsciiRuns.{within_run}
use Rattle.texts.proofs.characters_within.Goals as goal
use Rattle.texts.proofs.characters_within.Goals.{else-loop-used-test, then-loop-used-test+else-n-gt0+in_ok-c+then-room-used}

pub loop-used-init : goal.loop-used-init
loop-used-init c = let e : c.args.units - 0 ≡ c.args.units = omega arith in
    (rw e (passing_start _ _ _ c.requires.0), omega arith)

pub overflow_add-here : goal.overflow_add-here
overflow_add-here c = omega (arith, inside_are _ _ _ c.ascii-n.ensures c.loop-used.invariant.0.inside)

pub overflow_add-used : goal.overflow_add-used
overflow_add-used c = omega (arith, few_are _ _ _ c.ascii-n.ensures)

pub overflow_add-bytes : goal.overflow_add-bytes
overflow_add-bytes c = let R = c.loop-used.invariant.0 in
    omega (arith, inside_are _ _ _ c.ascii-n.ensures R.inside, R.onward)

pub loop-used-preserved-then-n-gt0 : goal.loop-used-preserved-then-n-gt0
loop-used-preserved-then-n-gt0 c = let R = c.loop-used.invariant in
    within_run _ _ _ c.requires.1 R.1 R.0 c.ascii-n.ensures

pub loop-used-preserved : goal.loop-used-preserved
loop-used-preserved c = let R = c.loop-used.invariant in
    within_more _ _ _ c.requires.1 R.1 R.0 _ c.in_ok-c.ensures (omega arith)

pub returns : goal.returns
returns c = let R = c.loop-used.invariant in
    elim c.loop-used-test.branch [
      | else-loop-used-test w ↦ within_all _ _ _ c.requires.1 R.1 R.0 c.type_inv.message w.loop-used-test.false
      | then-loop-used-test+else-n-gt0+in_ok-c+then-room-used w ↦ within_over _ _ _ c.requires.1 R.1 R.0 _ w.in_ok-c.ensures w.if-room-used.true
    ]

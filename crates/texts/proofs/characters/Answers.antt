use Rattle.std.proofs.Common.{arith, rules}
use Rattle.texts.specs.Ascii.{few_are, inside_are}
use Rattle.texts.specs.Answers.{extent_at, told_extent}
use Rattle.texts.proofs.Strings.{passing_end, passing_fault, passing_more}
use Rattle.texts.proofs.AsciiRuns.{passing_run, steps_few, passing_steps}
use Rattle.texts.proofs.characters.Goals as goal

pub overflow_add-here : goal.overflow_add-here
overflow_add-here c = omega (arith, (steps_few _ _ _ c.requires c.ascii_start-start.ensures).1)

pub overflow_sub-left : goal.overflow_sub-left
overflow_sub-left c = (steps_few _ _ _ c.requires c.ascii_start-start.ensures).0

pub loop-left-init : goal.loop-left-init
loop-left-init c = passing_steps _ _ _ c.requires c.ascii_start-start.ensures

pub overflow_add-here-then-n-gt0 : goal.overflow_add-here-then-n-gt0
overflow_add-here-then-n-gt0 c = omega (arith, inside_are _ _ _ c.ascii-n.ensures c.loop-left.invariant.inside)

pub overflow_add-bytes : goal.overflow_add-bytes
overflow_add-bytes c = let R = c.loop-left.invariant in
    omega (arith, inside_are _ _ _ c.ascii-n.ensures R.inside, R.onward)

pub overflow_sub-left-then-n-gt0 : goal.overflow_sub-left-then-n-gt0
overflow_sub-left-then-n-gt0 c = few_are _ _ _ c.ascii-n.ensures

pub loop-left-preserved-then-n-gt0 : goal.loop-left-preserved-then-n-gt0
loop-left-preserved-then-n-gt0 c = passing_run c.loop-left.invariant (omega arith) c.ascii-n.ensures

pub loop-left-preserved : goal.loop-left-preserved
loop-left-preserved c =
    let s = c.in_ok-c.ensures.says in
    passing_more c.loop-left.invariant _ _ _ s.0 s.4 s.5 s.2

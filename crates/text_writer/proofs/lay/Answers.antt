-- Each step has its law in specs/Laying.antt.
use native.Mathlib.Omega.{arith}
use Rattle.text_writer.specs.Laying.{laying_start, part_few, rest_falls, part_less, part_first, part_start, part_end}
use Rattle.text_writer.specs.Laying.{part_room, laying_on, last_start, last_room, last_copied, laying_copied}
use Rattle.text_writer.proofs.lay.Goals as goal

pub loop-rest-init : goal.loop-rest-init
loop-rest-init c = laying_start _ _ _ c.requires.0 _ _

pub copy-part-requires : goal.copy-part-requires
copy-part-requires c = part_first c.loop-rest.invariant c.loop-rest-test.true c.requires.1

pub put_part_head-requires : goal.put_part_head-requires
put_part_head-requires c = part_few c.loop-rest.invariant c.loop-rest-test.true _ c.copy-part.ensures.spans

pub overflow_add-place : goal.overflow_add-place
overflow_add-place c =
    let R = c.loop-rest.invariant in
    part_start R c.loop-rest-test.true _ c.copy-part.ensures.spans c.put_part_head.ensures.0 c.requires.1

pub copy-requires : goal.copy-requires
copy-requires c =
    let R = c.loop-rest.invariant in
    part_room R c.loop-rest-test.true _ c.copy-part.ensures.spans c.put_part_head.ensures.0 c.requires.1

pub overflow_sub-rest : goal.overflow_sub-rest
overflow_sub-rest c = part_less c.loop-rest.invariant c.loop-rest-test.true _ c.copy-part.ensures.spans

pub overflow_add-place-in-loop-rest : goal.overflow_add-place-in-loop-rest
overflow_add-place-in-loop-rest c =
    let R = c.loop-rest.invariant in
    part_start R c.loop-rest-test.true _ c.copy-part.ensures.spans c.put_part_head.ensures.0 c.requires.1

pub overflow_add-place-in-loop-rest-2 : goal.overflow_add-place-in-loop-rest-2
overflow_add-place-in-loop-rest-2 c =
    let R = c.loop-rest.invariant in
    part_end R c.loop-rest-test.true _ c.copy-part.ensures.spans c.put_part_head.ensures.0 c.requires.1

pub loop-rest-smaller : goal.loop-rest-smaller
loop-rest-smaller c =
    let part = c.copy-part.ensures in
    rest_falls c.loop-rest.invariant c.loop-rest-test.true _ part.spans _ part.copies.behind

pub loop-rest-preserved : goal.loop-rest-preserved
loop-rest-preserved c =
    let part = c.copy-part.ensures in
    let head = c.put_part_head.ensures in
    laying_on c.loop-rest.invariant c.loop-rest-test.true _ part.spans head.0 _ head.1 _ _ c.copy.ensures
    part.copies.going part.copies.behind

pub overflow_add-place-2 : goal.overflow_add-place-2
overflow_add-place-2 c =
    last_start c.loop-rest.invariant c.loop-rest-test.false _ c.put_last_head-place.ensures.0 c.requires.1

pub copy-last-requires : goal.copy-last-requires
copy-last-requires c =
    last_room c.loop-rest.invariant c.loop-rest-test.false _ c.put_last_head-place.ensures.0 c.requires.1

pub overflow_add-result : goal.overflow_add-result
overflow_add-result c =
    let head = c.put_last_head-place.ensures in
    let e = last_copied c.loop-rest.invariant c.loop-rest-test.false _ head.0 _ _ _ c.copy-last.ensures in
    record { fits = omega (arith, e, c.requires.1) }

pub returns : goal.returns
returns c =
    let head = c.put_last_head-place.ensures in
    laying_copied c.loop-rest.invariant c.loop-rest-test.false _ head.0 _ _ _ c.copy-last.ensures head.1

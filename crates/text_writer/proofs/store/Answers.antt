-- A form of one chunk has its laws in specs/Laying.antt.
use Rattle.std.proofs.Common.{◌≡◌, ◌+◌, ◌-◌, arith}
use Rattle.text_writer.specs.Laying.{one_start, one_fits, plain_room, laying_plain}
use Rattle.text_writer.proofs.store.Goals as goal

pub overflow_add-first : goal.overflow_add-first
overflow_add-first c =
    let short = c.if-item-le-LONGEST_CHUNK.true in
    let inside = plain_room c.requires.0 short _ c.put_last_head-head.ensures.0 0 c.if-first.true c.if-first-2.true in
    record { fits = omega (arith, inside) }

pub slice_bounds-put_bytes-end : goal.slice_bounds-put_bytes-end
slice_bounds-put_bytes-end c =
    let short = c.if-item-le-LONGEST_CHUNK.true in
    plain_room c.requires.0 short _ c.put_last_head-head.ensures.0 0 c.if-first.true c.if-first-2.true

pub overflow_add-to : goal.overflow_add-to
overflow_add-to c =
    one_start c.requires.0 c.if-item-le-LONGEST_CHUNK.true _ c.put_last_head-head.ensures.0 _ c.requires.1

pub overflow_add-result : goal.overflow_add-result
overflow_add-result c =
    one_fits c.requires.0 c.if-item-le-LONGEST_CHUNK.true _ c.put_last_head-head.ensures.0 _ c.requires.1

pub returns-then-first-2 : goal.returns-then-first-2
returns-then-first-2 c =
    let short = c.if-item-le-LONGEST_CHUNK.true in
    let head = c.put_last_head-head.ensures in
    let x = c.args.item in
    let n : x.first.here + x.bytes - x.first.here ≡ x.bytes = omega arith in
    laying_plain c.requires.0 short _ head.0 _ c.if-first.true c.if-first-2.true _ _ head.1 _
    (rw n at c.put_bytes.ensures)

pub returns : goal.returns
returns c = c.lay.ensures

-- Each way out has its law in proofs/ReadValues.antt.
use Rattle.reader.proofs.ReadValues.{begin_holder, begin_leaf, begin_more, leaf_fits, begin_refused, begin_undefined}
use Rattle.std.proofs.Common.{rules}
use Rattle.std.proofs.lemmas.Result.{err_from_is_err_and}
use Rattle.reader.proofs.values.begin.Goals as goal

pub returns-in_err-head_at : goal.returns-in_err-head_at
returns-in_err-head_at g c = let p = err_from_is_err_and c.from_residual.result c.from_residual.ensures.1 in
    rw (p.1, p.2) (begin_refused c.loop-leaf.invariant _ c.in_err-head_at.ensures)

pub returns-in_err-here-in-Definition : goal.returns-in_err-here-in-Definition
returns-in_err-here-in-Definition g c = let p = err_from_is_err_and c.from_residual-in_err-here-in-Definition.result c.from_residual-in_err-here-in-Definition.ensures.1 in
    rw (p.1, p.2) (begin_undefined c.loop-leaf.invariant (rw c.in-Definition.is at c.in_ok-head_at.ensures)
    _ c.in_err-here-in-Definition.ensures)

pub loop-leaf-preserved : goal.loop-leaf-preserved
loop-leaf-preserved g c = begin_more c.loop-leaf.invariant (rw c.in-Definition.is at c.in_ok-head_at.ensures)
    c.in_ok-here-in-Definition.ensures

pub keep_leaf-requires : goal.keep_leaf-requires
keep_leaf-requires g c = leaf_fits c.loop-leaf.invariant (c.in-Some.ensures.heads _ 0) (search rules)

pub returns-in-Some : goal.returns-in-Some
returns-in-Some g c = begin_leaf c.loop-leaf.invariant (c.in-Some.ensures.heads _ _) c.keep_leaf.ensures

pub keep_leaf-requires-in-Leaf : goal.keep_leaf-requires-in-Leaf
keep_leaf-requires-in-Leaf g c =
    leaf_fits c.loop-leaf.invariant (rw c.in-Leaf.is at c.in_ok-head_at.ensures) (search rules)

pub returns-in-Leaf : goal.returns-in-Leaf
returns-in-Leaf g c = begin_leaf c.loop-leaf.invariant (rw c.in-Leaf.is at c.in_ok-head_at.ensures)
    c.keep_leaf-in-Leaf.ensures

pub returns-in-Holder : goal.returns-in-Holder
returns-in-Holder g c = begin_holder c.loop-leaf.invariant (rw c.in-Holder.is at c.in_ok-head_at.ensures)
    c.open_holder.ensures

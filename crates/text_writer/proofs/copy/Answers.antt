-- Each way out has its law in specs/Cursor.antt.
use native.Mathlib.Omega.{arith}
use Rattle.text_writer.specs.Cursor.{copying_start, copying_below, copying_on}
use Rattle.text_writer.proofs.copy.Goals as goal

pub loop-copied-init : goal.loop-copied-init
loop-copied-init c = copying_start _ _ _ _ _ _ c.requires.going

pub overflow_add-bytes : goal.overflow_add-bytes
overflow_add-bytes c =
    let R = copying_on c.loop-copied.invariant _ _ c.in-Some.ensures.says.1 in
    record { fits = omega (arith, copying_below R c.requires.below) }

pub loop-copied-preserved : goal.loop-copied-preserved
loop-copied-preserved c = copying_on c.loop-copied.invariant _ _ c.in-Some.ensures.says.1

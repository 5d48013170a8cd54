-- Each way out has its law in proofs/Laying.antt.
use native.Mathlib.Omega.{arith}
use Rattle.text_writer.proofs.Laying.{form_not, form_whole}
use Rattle.text_writer.proofs.write_item.Goals as goal

pub returns-then-out-to : goal.returns-then-out-to
returns-then-out-to c = form_not _ _ c.form_size-needed.ensures _ _ (omega arith)

pub returns : goal.returns
returns c =
    form_whole _ _ c.form_size-needed.ensures _ _ (omega arith) _
    (c.store.ensures.holds (omega (arith, c.store.ensures.long)))

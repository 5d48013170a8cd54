-- Each way out has its law in proofs/Laying.antt.
use native.Mathlib.Omega.{arith}
use Rattle.text_writer.proofs.Laying.{nothing_length, item_counted, item_length}
use Rattle.text_writer.proofs.string_length.Goals as goal

pub form_size-requires : goal.form_size-requires
form_size-requires c =
    item_counted _ _ _ _ c.in-Some.ensures.says c.type_inv.source (record { fits = omega arith })

pub returns-in-Some : goal.returns-in-Some
returns-in-Some c = item_length _ _ _ _ c.in-Some.ensures.says c.type_inv.source _ c.form_size.ensures

pub returns-in-None : goal.returns-in-None
returns-in-None c = nothing_length _ _ _ c.in-None.ensures.says

-- Each way out has its law in proofs/Laying.antt.
use native.Mathlib.Omega.{arith}
use Rattle.text_writer.proofs.Laying.{nothing_written, item_counted, item_written}
use Rattle.text_writer.proofs.write_string.Goals as goal

pub returns-in_default : goal.returns-in_default
returns-in_default c = nothing_written _ _ _ c.in_default.ensures.says _ _

pub write_item-requires : goal.write_item-requires
write_item-requires c =
    item_counted _ _ _ _ c.in-Some.ensures.says c.type_inv.source (record { fits = omega arith })

pub returns : goal.returns
returns c = item_written _ _ _ _ c.in-Some.ensures.says c.type_inv.source _ _ _ _ c.write_item.ensures

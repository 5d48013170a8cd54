-- Each way out has its law in proofs/Laying.antt.
use native.Mathlib.Omega.{arith}
use Rattle.text_writer.proofs.Laying.{nothing_sized, item_counted, other_sizes, sized_written}
use Rattle.text_writer.proofs.write_sized.Goals as goal

pub returns-in_default : goal.returns-in_default
returns-in_default c = nothing_sized _ _ _ c.in_default.ensures.says _ _ _ _

pub returns-then-item-units : goal.returns-then-item-units
returns-then-item-units c = other_sizes _ _ _ _ c.in-Some.ensures.says _ _ _ _ c.then-item-units.either

pub write_item-requires : goal.write_item-requires
write_item-requires c =
    item_counted _ _ _ _ c.in-Some.ensures.says c.type_inv.source (record { fits = omega arith })

pub returns : goal.returns
returns c =
    sized_written _ _ _ _ c.in-Some.ensures.says c.type_inv.source _ _ _ _ c.write_item.ensures _ _
    c.if-item-units.false c.if-item-bytes.false

-- Each way out has its law in proofs/Message.antt.
use Rattle.reader.proofs.Message.{into_few, into_record, into_refused, into_told, into_under}
use Rattle.std.proofs.Common.{arith, eq-eqb, ne_eqb}
use Rattle.std.proofs.lemmas.Result.{err_from_is_err_and}
use Rattle.reader.proofs.read_into.Goals as goal

pub returns-in_err-rows : goal.returns-in_err-rows
returns-in_err-rows g c = let p = err_from_is_err_and c.from_residual.result c.from_residual.ensures.1 in
    rw (p.1, p.2) (into_under g.met.C.Cell.keeps _ _ (into_refused c.type_inv.message _ c.in_err-rows.ensures))

pub returns-then-rows : goal.returns-then-rows
returns-then-rows g c = into_under g.met.C.Cell.keeps _ _
    (into_few c.type_inv.message c.in_ok-rows.ensures (omega (arith, c.rows.ensures)))

pub returns-then-this-ne0 : goal.returns-then-this-ne0
returns-then-this-ne0 g c = rw (ne_eqb g.row.IN_THOUSANDTHS 0 c.if-this-ne0.true)
    (into_told g.met.C.Cell.keeps (into_record c.type_inv.message c.in_ok-rows.ensures (omega (arith, c.rows.ensures))
    c.read_value.ensures) c.retell.ensures)

pub returns-else-this-ne0 : goal.returns-else-this-ne0
returns-else-this-ne0 g c = rw (eq-eqb g.row.IN_THOUSANDTHS 0 c.if-this-ne0.false)
    (into_record c.type_inv.message c.in_ok-rows.ensures (omega (arith, c.rows.ensures)) c.read_value.ensures)

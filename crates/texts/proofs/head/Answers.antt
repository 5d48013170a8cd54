-- Each way out has its law in proofs/Strings.antt.
use Rattle.std.proofs.Common.{◌≡◌, ◌+◌, ◌-◌, ◌≤◌, length-take, arith, rules}
use Rattle.texts.proofs.Strings.{head_ends, head_other, head_cut, head_few, head_there}
use Rattle.texts.proofs.head.Goals as goal

pub returns-then-len-at : goal.returns-then-len-at
returns-then-len-at c = head_ends _ _ _ c.if-len-at.true

pub returns-in_default : goal.returns-in_default
returns-in_default c = head_other _ _ _ c.if-len-at.false c.in_default.ensures

pub returns-then-len-at-2 : goal.returns-then-len-at-2
returns-then-len-at-2 c = head_cut _ _ _ c.if-len-at.false _ c.in-Some.ensures c.if-len-at-2.true

pub head_units-requires : goal.head_units-requires
head_units-requires c =
    let few : c.in-Some.form.more ≤ 2 = head_few _ _ _ c.if-len-at.false _ c.in-Some.ensures in
    simp length-take (omega arith)

pub returns : goal.returns
returns c =
    let d : c.args.at + 1 + c.in-Some.form.more - (c.args.at + 1) ≡ c.in-Some.form.more = omega arith in
    head_there _ _ _ c.if-len-at.false _ c.in-Some.ensures c.type_inv.message c.if-len-at-2.false _
    (rw d at c.head_units.ensures)

-- Each way out has its law in proofs/Reading.antt.
use Rattle.numbers.proofs.Reading.{refused, passed_end, reads_none, reads_cut, reads_takes, reads_value}
use Rattle.numbers.proofs.pass_number.Goals as goal

pub returns-in_err-b : goal.returns-in_err-b
returns-in_err-b c = passed_end _ _ _ _ _ c.from_residual.ensures.1 c.in_err-b.ensures

pub returns-in_default : goal.returns-in_default
returns-in_default c = reads_none _ _ _ _ c.in_ok-b.ensures.0 c.in_ok-b.ensures.1 _ c.form_at.ensures c.in_default.is

pub returns-in_err-followed : goal.returns-in_err-followed
returns-in_err-followed c =
    let b = c.in_ok-b.ensures in
    let e = c.in_err-followed.ensures in
    refused _ _ c.from_residual-in_err-followed.ensures.1
    (reads_cut _ _ _ _ b.0 b.1 _ c.form_at.ensures _ c.in-Some.is _ e.0 e.1)

pub value_of-requires : goal.value_of-requires
value_of-requires c =
    let b = c.in_ok-b.ensures in
    reads_takes _ _ _ _ b.0 b.1 _ c.form_at.ensures _ c.in-Some.is c.type_inv.message c.in_ok-followed.ensures _
    c.number_at-u.ensures

pub returns : goal.returns
returns c =
    let b = c.in_ok-b.ensures in
    reads_value _ _ _ _ b.0 b.1 _ c.form_at.ensures _ c.in-Some.is c.type_inv.message c.in_ok-followed.ensures _
    c.number_at-u.ensures _ c.value_of.ensures

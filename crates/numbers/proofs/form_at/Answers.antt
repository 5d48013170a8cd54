-- Each arm's callee goes over the forms of its kind.
use Rattle.scalar.proofs.FormLaws.{forms_null, forms_false, forms_true}
use Rattle.numbers.proofs.form_at.Goals as goal

pub returns-in-Null : goal.returns-in-Null
returns-in-Null c = rw (c.in-Null.is, forms_null) c.single_form.ensures

pub returns-in-False : goal.returns-in-False
returns-in-False c = rw (c.in-False.is, forms_false) c.single_form-in-False.ensures

pub returns-in-True : goal.returns-in-True
returns-in-True c = rw (c.in-True.is, forms_true) c.single_form-in-True.ensures

pub returns-in-Int : goal.returns-in-Int
returns-in-Int c = rw c.in-Int.is c.int_form.ensures

pub returns-in-Long : goal.returns-in-Long
returns-in-Long c = rw c.in-Long.is c.long_form.ensures

pub returns-in-Double : goal.returns-in-Double
returns-in-Double c = rw c.in-Double.is c.double_form.ensures

pub returns-in-Date : goal.returns-in-Date
returns-in-Date c = rw c.in-Date.is c.date_form.ensures

-- `numbers::spell` meets its contract: kind by kind.
use Rattle.scalar.proofs.FormLaws.{forms_null, forms_false, forms_true}
use Rattle.numbers.proofs.Writing.{last_found}
use Rattle.numbers.proofs.spell.Goals as goal

pub returns-in-Null : goal.returns-in-Null
returns-in-Null c = rw (c.in-Null.is, forms_null) (last_found _ _ c.try_form.ensures)

pub returns-in-False : goal.returns-in-False
returns-in-False c = rw (c.in-False.is, forms_false) (last_found _ _ c.try_form-in-False.ensures)

pub returns-in-True : goal.returns-in-True
returns-in-True c = rw (c.in-True.is, forms_true) (last_found _ _ c.try_form-in-True.ensures)

pub returns-in-Int : goal.returns-in-Int
returns-in-Int c = rw c.in-Int.is c.spell_int.ensures

pub returns-in-Long : goal.returns-in-Long
returns-in-Long c = rw c.in-Long.is c.spell_long.ensures

pub returns-in-Double : goal.returns-in-Double
returns-in-Double c = rw c.in-Double.is c.spell_double.ensures

pub returns-in-Date : goal.returns-in-Date
returns-in-Date c = rw c.in-Date.is c.spell_date.ensures

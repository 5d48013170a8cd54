-- Null, false and true have one form each.
use Rattle.scalar.proofs.FormLaws.{forms_null, forms_false, forms_true}
use Rattle.numbers.proofs.Writing.{put_forms}
use Rattle.numbers.proofs.put_number.Goals as goal

pub returns-in-Null : goal.returns-in-Null
returns-in-Null c = put_forms _ _ _ _ c.in-Null.is forms_null c.put_single.ensures

pub returns-in-False : goal.returns-in-False
returns-in-False c = put_forms _ _ _ _ c.in-False.is forms_false c.put_single-in-False.ensures

pub returns-in-True : goal.returns-in-True
returns-in-True c = put_forms _ _ _ _ c.in-True.is forms_true c.put_single-in-True.ensures

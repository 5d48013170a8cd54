-- `numbers::number_length` meets its contract: kind by kind.
use Rattle.scalar.proofs.FormLaws.{forms_null, forms_false, forms_true}
use Rattle.numbers.proofs.LengthLaws.{length_kind, length_forms}
use Rattle.numbers.proofs.number_length.Goals as goal

pub returns-in-Null : goal.returns-in-Null
returns-in-Null c = length_forms _ c.in-Null.is forms_null c.single_length.ensures

pub returns-in-False : goal.returns-in-False
returns-in-False c = length_forms _ c.in-False.is forms_false c.single_length-in-False.ensures

pub returns-in-True : goal.returns-in-True
returns-in-True c = length_forms _ c.in-True.is forms_true c.single_length-in-True.ensures

pub returns-in-Int : goal.returns-in-Int
returns-in-Int c = length_kind _ c.in-Int.is c.int_length.ensures

pub returns-in-Long : goal.returns-in-Long
returns-in-Long c = length_kind _ c.in-Long.is c.long_length.ensures

pub returns-in-Double : goal.returns-in-Double
returns-in-Double c = length_kind _ c.in-Double.is c.double_length.ensures

pub returns-in-Date : goal.returns-in-Date
returns-in-Date c = length_kind _ c.in-Date.is c.date_length.ensures

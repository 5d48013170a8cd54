-- An arm's bytes are those of one form; the others are of none.
use Rattle.std.proofs.Common.{◌∙◌, arith, rules}
use Rattle.scalar.specs.declared.Sort.TheVariants.{Date}
use Rattle.scalar.proofs.FormLaws.{forms_date}
use Rattle.numbers.proofs.Reading.{begins, begins_none}
use Rattle.numbers.proofs.date_form.Goals as goal

pub returns-in-75 : goal.returns-in-75
returns-in-75 c = c.begun.ensures ∙ begins Date forms_date 0 (omega arith) (omega arith)

pub returns-in-74 : goal.returns-in-74
returns-in-74 c = c.begun-in-74.ensures ∙ begins Date forms_date 1 (omega arith) (omega arith)

pub returns-in_default : goal.returns-in_default
returns-in_default c = begins_none Date forms_date _ (search rules)

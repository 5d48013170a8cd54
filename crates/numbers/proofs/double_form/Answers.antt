-- An arm's bytes are those of one form; the others are of none.
use Rattle.std.proofs.Common.{◌∙◌, arith, rules}
use Rattle.scalar.specs.declared.Sort.TheVariants.{Double}
use Rattle.scalar.proofs.FormLaws.{forms_double}
use Rattle.numbers.proofs.Reading.{begins, begins_none}
use Rattle.numbers.proofs.double_form.Goals as goal

pub returns-in-91 : goal.returns-in-91
returns-in-91 c = c.begun.ensures ∙ begins Double forms_double 0 (omega arith) (omega arith)

pub returns-in-92 : goal.returns-in-92
returns-in-92 c = c.begun-in-92.ensures ∙ begins Double forms_double 1 (omega arith) (omega arith)

pub returns-in-93 : goal.returns-in-93
returns-in-93 c = c.begun-in-93.ensures ∙ begins Double forms_double 2 (omega arith) (omega arith)

pub returns-in-94 : goal.returns-in-94
returns-in-94 c = c.begun-in-94.ensures ∙ begins Double forms_double 3 (omega arith) (omega arith)

pub returns-in-95 : goal.returns-in-95
returns-in-95 c = c.begun-in-95.ensures ∙ begins Double forms_double 4 (omega arith) (omega arith)

pub returns-in-68 : goal.returns-in-68
returns-in-68 c = c.begun-in-68.ensures ∙ begins Double forms_double 5 (omega arith) (omega arith)

pub returns-in_default : goal.returns-in_default
returns-in_default c = begins_none Double forms_double _ (search rules)

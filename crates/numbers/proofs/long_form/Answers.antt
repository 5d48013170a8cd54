-- An arm's bytes are those of one form; the others are of none.
use Rattle.std.proofs.Common.{◌∙◌, arith, rules}
use Rattle.scalar.specs.declared.Sort.TheVariants.{Long}
use Rattle.scalar.proofs.FormLaws.{forms_long}
use Rattle.numbers.proofs.Reading.{begins, begins_none}
use Rattle.numbers.proofs.long_form.Goals as goal

pub returns-in-89 : goal.returns-in-89
returns-in-89 c = c.begun.ensures ∙ begins Long forms_long 3 (omega arith) (omega arith)

pub returns-in-76 : goal.returns-in-76
returns-in-76 c = c.begun-in-76.ensures ∙ begins Long forms_long 4 (omega arith) (omega arith)

pub returns-in-56-to-63 : goal.returns-in-56-to-63
returns-in-56-to-63 c = c.begun-in-56-to-63.ensures ∙ begins Long forms_long 2 (omega arith) (omega arith)

pub returns-in-216-to-239 : goal.returns-in-216-to-239
returns-in-216-to-239 c = c.begun-in-216-to-239.ensures ∙ begins Long forms_long 0 (omega arith) (omega arith)

pub returns-in-240-to-255 : goal.returns-in-240-to-255
returns-in-240-to-255 c = c.begun-in-240-to-255.ensures ∙ begins Long forms_long 1 (omega arith) (omega arith)

pub returns-in_default : goal.returns-in_default
returns-in_default c = begins_none Long forms_long _ (search rules)

pub returns-in_default-2 : goal.returns-in_default-2
returns-in_default-2 c = begins_none Long forms_long _ (search rules)

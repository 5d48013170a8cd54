-- An arm's bytes are those of one form; the others are of none.
use Rattle.std.proofs.Common.{◌∙◌, arith, rules}
use Rattle.scalar.specs.declared.Sort.TheVariants.{Int}
use Rattle.scalar.proofs.FormLaws.{forms_int}
use Rattle.numbers.proofs.Reading.{begins, begins_none}
use Rattle.numbers.proofs.int_form.Goals as goal

pub returns-in-73 : goal.returns-in-73
returns-in-73 c = c.begun.ensures ∙ begins Int forms_int 3 (omega arith) (omega arith)

pub returns-in-128-to-191 : goal.returns-in-128-to-191
returns-in-128-to-191 c = c.begun-in-128-to-191.ensures ∙ begins Int forms_int 0 (omega arith) (omega arith)

pub returns-in-192-to-207 : goal.returns-in-192-to-207
returns-in-192-to-207 c = c.begun-in-192-to-207.ensures ∙ begins Int forms_int 1 (omega arith) (omega arith)

pub returns-in-208-to-215 : goal.returns-in-208-to-215
returns-in-208-to-215 c = c.begun-in-208-to-215.ensures ∙ begins Int forms_int 2 (omega arith) (omega arith)

pub returns-in_default : goal.returns-in_default
returns-in_default c = begins_none Int forms_int _ (search rules)

pub returns-in_default-2 : goal.returns-in_default-2
returns-in_default-2 c = begins_none Int forms_int _ (search rules)

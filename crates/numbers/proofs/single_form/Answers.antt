-- The one byte begins the form, and no other does.
use Rattle.std.proofs.Common.{◌+◌, [], sym, ◌∙◌, arith, rules}
use Rattle.flow.specs.Tests.{within_yes}
use Rattle.scalar.specs.declared.Rule.TheVariants.{Exactly}
use Rattle.scalar.specs.Scalars.{form}
use Rattle.scalar.proofs.NumberLaws.{form_here}
use Rattle.numbers.proofs.Reading.{starts, no_form}
use Rattle.numbers.proofs.single_form.Goals as goal

pub returns-then-b-code : goal.returns-then-b-code
returns-then-b-code c = let a = c.args in
    let here = within_yes a.code (a.code + 1) a.b (omega arith) (omega arith) in
    c.begun.ensures ∙ starts (omega arith) ∙ sym (form_here (form a.code 1 0 (Exactly a.value)) [] a.b here)

pub returns-else-b-code : goal.returns-else-b-code
returns-else-b-code c = no_form _ _ (search rules)

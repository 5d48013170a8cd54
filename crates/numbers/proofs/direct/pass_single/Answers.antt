-- The only form of each kind.
use Rattle.std.proofs.Common.{ap, ◌∙◌}
use Rattle.scalar.specs.Scalars.{forms_of}
use Rattle.scalar.proofs.FormLaws.{forms_null, forms_false, forms_true}
use Rattle.numbers.proofs.direct.pass_single.Goals as goal

pub single-requires : goal.single-requires
single-requires c = ap forms_of c.in-Null.is ∙ forms_null

pub single-requires-in-False : goal.single-requires-in-False
single-requires-in-False c = ap forms_of c.in-False.is ∙ forms_false

pub single-requires-in-True : goal.single-requires-in-True
single-requires-in-True c = ap forms_of c.in-True.is ∙ forms_true

-- Each way out has its law in proofs/ValueHeads.antt.
use Rattle.reader.proofs.Leaves.{number_fits}
use Rattle.reader.proofs.ValueHeads.{number_is_usual}
use Rattle.numbers.specs.Answers.{passed}
use Rattle.scalar.specs.Answers.{number_at}
use Rattle.std.proofs.Common.{◌≡◌, rules}
use Rattle.std.specs.Prelude.{Ok}
use Rattle.reader.proofs.heads.whole_number.Goals as goal

pub overflow_add-result : goal.overflow_add-result
overflow_add-result c = search (number_fits, rules)

pub returns-in-Ok : goal.returns-in-Ok
returns-in-Ok c = search (number_is_usual, rules)

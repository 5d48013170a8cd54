-- `numbers::try_form` meets its contract: each way out is a case of `tried`.
use Rattle.std.proofs.Common.{rules}
use Rattle.numbers.proofs.Writing.{tried_past, tried_takes, tried_not, tried_yes}
use Rattle.numbers.proofs.try_form.Goals.{else-top-codes-via-then-top-codes+else-value_of-v, else-top-codes-via-else-top-codes}
use Rattle.numbers.proofs.try_form.Goals as goal

pub value_of-requires : goal.value_of-requires
value_of-requires c = search (tried_takes, rules)

pub returns-then-value_of-v : goal.returns-then-value_of-v
returns-then-value_of-v c = search (tried_yes, rules)

pub returns-else-top-codes : goal.returns-else-top-codes
returns-else-top-codes c = elim c.else-top-codes.branch [
  | else-top-codes-via-then-top-codes+else-value_of-v w ↦ search (tried_not, rules)
  | else-top-codes-via-else-top-codes w ↦ search (tried_past, rules)
]

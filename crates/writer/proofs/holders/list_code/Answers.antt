-- Each way out takes one of the choices of `list_code`.
use borrow.Author.Rules.{rules}
use Rattle.flow.specs.Tests.{picks}
use Rattle.writer.proofs.holders.list_code.Goals as goal

pub returns-then-typed : goal.returns-then-typed
returns-then-typed c = rw c.if-typed.true (search (picks, rules))

pub returns-else-typed : goal.returns-else-typed
returns-else-typed c = rw c.if-typed.false (search (picks, rules))

pub returns-then-typed-2 : goal.returns-then-typed-2
returns-then-typed-2 c = rw c.if-typed-2.true (search (picks, rules))

pub returns-else-typed-2 : goal.returns-else-typed-2
returns-else-typed-2 c = rw c.if-typed-2.false (search (picks, rules))

pub returns-then-typed-3 : goal.returns-then-typed-3
returns-then-typed-3 c = rw c.if-typed-3.true (search (picks, rules))

pub returns-else-typed-3 : goal.returns-else-typed-3
returns-else-typed-3 c = rw c.if-typed-3.false (search (picks, rules))

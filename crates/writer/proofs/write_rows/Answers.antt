-- Each way out has its law in proofs/Messages.antt.
use borrow.Author.Rules.{rules}
use Rattle.writer.proofs.Messages.{into_long, into_few, into_done}
use Rattle.writer.proofs.write_rows.Goals as goal

pub returns-then-size-gt-LONGEST : goal.returns-then-size-gt-LONGEST
returns-then-size-gt-LONGEST g c = search (into_long, c.in_ok-size.ensures, rules)

pub returns-then-out-size : goal.returns-then-out-size
returns-then-out-size g c = search (into_few, c.in_ok-size.ensures, rules)

pub returns : goal.returns
returns g c =
    into_done _ _ c.in_ok-size.field-0 c.in_ok-size.ensures c.if-size-gt-LONGEST.false c.if-out-size.false
    _ _ c.put_rows-2.ensures

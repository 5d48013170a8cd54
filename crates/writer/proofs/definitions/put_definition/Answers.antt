-- Each way out has its law in proofs/Classes.antt.
use borrow.Author.Rules.{rules}
use Rattle.std.proofs.lemmas.Result.{err_from_is_err_and}
use Rattle.writer.proofs.Classes.{definition_second, definition_inside, definition_most, definition_broad}
use Rattle.writer.proofs.Classes.{definition_classless, head_inside, head_room}
use Rattle.writer.proofs.Classes.{definition_nameless, definition_room, definition_done}
use Rattle.writer.proofs.definitions.put_definition.Goals as goal

pub returns-then-class-ne0 : goal.returns-then-class-ne0
returns-then-class-ne0 g c = search (definition_second, rules)

pub returns-then-known-ge-CLASSES : goal.returns-then-known-ge-CLASSES
returns-then-known-ge-CLASSES g c = search (definition_most, rules)

pub returns-then-fields-gt-FIELDS : goal.returns-then-fields-gt-FIELDS
returns-then-fields-gt-FIELDS g c = search (definition_broad, rules)

pub put_class-requires : goal.put_class-requires
put_class-requires g c = search (definition_inside, rules)

pub returns-in_err-named : goal.returns-in_err-named
returns-in_err-named g c = let p = err_from_is_err_and c.from_residual.result c.from_residual.ensures.1 in
    rw p.1 (search (definition_classless, c.in_err-named.ensures, rules))

pub overflow_add-first : goal.overflow_add-first
overflow_add-first g c = search (head_room, c.in_ok-named.ensures, rules)

pub put_field_names-requires : goal.put_field_names-requires
put_field_names-requires g c = search (head_inside, c.in_ok-named.ensures, rules)

pub returns-in_err-size : goal.returns-in_err-size
returns-in_err-size g c = let p = err_from_is_err_and c.from_residual-in_err-size.result c.from_residual-in_err-size.ensures.1 in
    rw p.1 (search (definition_nameless, c.in_ok-named.ensures, c.in_err-size.ensures, rules))

pub overflow_add-next : goal.overflow_add-next
overflow_add-next g c = search (definition_room, c.in_ok-named.ensures, c.in_ok-size.ensures, rules)

pub returns : goal.returns
returns g c = search (definition_done, c.in_ok-named.ensures, c.in_ok-size.ensures, c.define.ensures, rules)

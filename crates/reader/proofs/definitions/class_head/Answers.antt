-- Each way out has its law in proofs/ClassDefinitions.antt.
use Rattle.reader.proofs.ClassDefinitions.{class_counted, class_full, class_named, class_nameless, class_uncounted}
use Rattle.reader.proofs.Sizes.{string_fits}
use Rattle.std.proofs.Common.{rules}
use Rattle.std.proofs.lemmas.Result.{err_from_is_err_and}
use Rattle.reader.proofs.definitions.class_head.Goals as goal

pub returns-then-known-ge-CLASSES : goal.returns-then-known-ge-CLASSES
returns-then-known-ge-CLASSES c = search (class_full, rules)

pub returns-in_err-name : goal.returns-in_err-name
returns-in_err-name c = let p = err_from_is_err_and c.from_residual.result c.from_residual.ensures.1 in
    rw (p.1, p.2) (class_nameless c.requires.0 c.requires.1 c.if-known-ge-CLASSES.false _ c.in_err-name.ensures)

pub overflow_add-past-2 : goal.overflow_add-past-2
overflow_add-past-2 c = search (string_fits, rules)

pub field_count-requires : goal.field_count-requires
field_count-requires c = class_named c.requires.0 c.requires.1 c.if-known-ge-CLASSES.false c.in_ok-name.ensures

pub returns-in_err-count : goal.returns-in_err-count
returns-in_err-count c = let p = err_from_is_err_and c.from_residual-in_err-count.result c.from_residual-in_err-count.ensures.1 in
    rw (p.1, p.2) (class_uncounted c.requires.0 c.requires.1 c.if-known-ge-CLASSES.false
    c.in_ok-name.ensures _ c.in_err-count.ensures)

pub returns : goal.returns
returns c = class_counted c.requires.0 c.requires.1 c.if-known-ge-CLASSES.false
    c.in_ok-name.ensures _ c.in_ok-count.ensures

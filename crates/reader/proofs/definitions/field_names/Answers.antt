use Rattle.reader.proofs.ClassDefinitions.{name_row, names_done, names_more, names_refused, names_start}
use Rattle.reader.proofs.Sizes.{string_fits}
use Rattle.std.proofs.Common.{arith, rules}
use Rattle.std.proofs.lemmas.Result.{err_from_is_err_and}
use Rattle.reader.proofs.definitions.field_names.Goals as goal

pub loop-row-init : goal.loop-row-init
loop-row-init g c = names_start _ _ _ _ _ c.requires.0

pub returns-in_err-name : goal.returns-in_err-name
returns-in_err-name g c = let p = err_from_is_err_and c.from_residual.result c.from_residual.ensures.1 in
    rw (p.1, p.2) (names_refused c.loop-row.invariant (omega arith) _ c.in_err-name.ensures)

pub keep-requires : goal.keep-requires
keep-requires g c = name_row c.loop-row.invariant (omega arith) c.in_ok-name.ensures _

pub overflow_add-here : goal.overflow_add-here
overflow_add-here g c = search (string_fits, rules)

pub loop-row-preserved : goal.loop-row-preserved
loop-row-preserved g c = names_more c.loop-row.invariant (omega arith) c.in_ok-name.ensures c.requires.0 _ c.keep.ensures

pub returns : goal.returns
returns g c = names_done c.loop-row.invariant (omega arith)

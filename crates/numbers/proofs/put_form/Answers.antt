-- There is no form, or it is stored.
use Rattle.std.proofs.Common.{◌∙◌, sym, ap, arith}
use Rattle.wire.specs.Laws.{be_length}
use Rattle.numbers.specs.Answers.{spelled}
use Rattle.numbers.proofs.Writing.{few_more, unspelled, put_as}
use Rattle.numbers.proofs.put_form.Goals as goal

pub returns-in_err-spelling : goal.returns-in_err-spelling
returns-in_err-spelling c =
    rw c.from_residual.ensures (unspelled _ _ _ c.in_err-spelling.was c.spell.ensures)

pub store_spelling-requires : goal.store_spelling-requires
store_spelling-requires c = few_more _ _ _ c.spell.ensures c.in_ok-spelling.was

pub overflow_add-result : goal.overflow_add-result
overflow_add-result c = record { fits = omega (arith, few_more _ _ _ c.spell.ensures c.in_ok-spelling.was) }

pub returns : goal.returns
returns c =
    let f = c.in_ok-spelling.spelling in
    put_as _ _ c.store_spelling.ensures (omega (arith, be_length f.more f.rest)) (omega arith)
    (sym c.spell.ensures ∙ ap spelled c.in_ok-spelling.was)

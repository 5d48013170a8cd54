-- Each way out has its law in proofs/HolderLaws.antt.
use mathlib.Core.Path.{sym, ◌∙◌}
use borrow.Author.Rules.{rules}
use Rattle.std.proofs.lemmas.Result.{err_from_is_err_and}
use Rattle.writer.proofs.HolderLaws.{as_many, not_as_many, object_misfit, object_uncoded, object_opens}
use Rattle.writer.proofs.holders.put_object.Goals as goal

pub returns-then-ne : goal.returns-then-ne
returns-then-ne c = object_misfit _ _ _ _ _ _
    (λ e. not_as_many _ _ (sym c.ne.ensures ∙ c.if-ne.true) (c.fields_of.ensures ∙ e)) _

pub returns-in_err-size : goal.returns-in_err-size
returns-in_err-size c =
    let p = err_from_is_err_and c.from_residual.result c.from_residual.ensures.1 in
    let e = as_many _ _ (sym c.ne.ensures ∙ c.if-ne.false) in
    rw p.1 (object_uncoded _ _ _ _ _ _ (sym c.fields_of.ensures ∙ e) _ c.in_err-size.ensures)

pub returns : goal.returns
returns c =
    let e = as_many _ _ (sym c.ne.ensures ∙ c.if-ne.false) in
    object_opens _ _ _ _ _ _ (sym c.fields_of.ensures ∙ e) _ _ c.in_ok-size.ensures

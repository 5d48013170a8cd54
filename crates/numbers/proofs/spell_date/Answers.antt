-- The forms are those of dates.
use Rattle.scalar.proofs.FormLaws.{forms_date}
use Rattle.numbers.proofs.Writing.{last_found, plain_after}
use Rattle.numbers.proofs.spell_date.Goals as goal

pub returns : goal.returns
returns c = rw forms_date
    (plain_after _ _ _ _ _ _ (last_found _ _ c.try_form.ensures) c.or.ensures c.plain_form.ensures)

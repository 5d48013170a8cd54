-- The forms are those of longs.
use Rattle.scalar.proofs.FormLaws.{forms_long}
use Rattle.numbers.proofs.Shortest.{long_codes}
use Rattle.numbers.proofs.Writing.{plain_after}
use Rattle.numbers.proofs.spell_long.Goals as goal

pub spell_whole-requires : goal.spell_whole-requires
spell_whole-requires c = long_codes

pub returns : goal.returns
returns c = rw forms_long (plain_after _ _ _ _ _ _ c.spell_whole.ensures c.or.ensures c.plain_form.ensures)

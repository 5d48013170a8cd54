-- The forms are those of ints.
use Rattle.scalar.proofs.FormLaws.{forms_int}
use Rattle.numbers.proofs.Shortest.{int_codes}
use Rattle.numbers.proofs.spell_int.Goals as goal

pub spell_whole-requires : goal.spell_whole-requires
spell_whole-requires c = int_codes

pub returns : goal.returns
returns c = rw forms_int c.spell_whole.ensures

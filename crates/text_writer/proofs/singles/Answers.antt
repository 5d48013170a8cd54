-- What `texts::ascii` promises, or all of the bytes.
use mathlib.Core.Path.{refl}
use Rattle.text_writer.specs.Writing.{singles_at}
use Rattle.text_writer.proofs.singles.Goals as goal

pub returns-in-Utf8 : goal.returns-in-Utf8
unfolding singles_at
returns-in-Utf8 c = rw c.in-Utf8.is c.ascii.ensures

pub returns-in-Binary : goal.returns-in-Binary
unfolding singles_at
returns-in-Binary c = rw c.in-Binary.is refl

-- A short text has its law in proofs/AsciiRuns.antt.
use Rattle.texts.proofs.AsciiRuns.{pass_short}
use Rattle.texts.proofs.pass_text.Goals as goal

pub returns-in-Some : goal.returns-in-Some
returns-in-Some c = pass_short _ _ _ c.type_inv.message c.in-Some.ensures

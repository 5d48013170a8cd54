-- A short text has its law in proofs/AsciiRuns.antt.
use Rattle.texts.proofs.AsciiRuns.{chunk_short}
use Rattle.texts.proofs.first_chunk.Goals as goal

pub returns-in-Some : goal.returns-in-Some
returns-in-Some c = chunk_short _ _ _ c.type_inv.message c.in-Some.ensures _ c.in-Utf8.is

-- The first and the last four or eight bytes are all of them; or all are counted.
use Rattle.texts.specs.Ascii.{run_whole}
use Rattle.texts.proofs.short_ascii.Goals as goal

pub returns : goal.returns
returns c = run_whole _ c.ascii_bytes.ensures

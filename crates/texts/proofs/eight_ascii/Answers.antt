-- A bit of each byte is tested, its highest.
use Rattle.std.proofs.Common.{rules}
use Rattle.texts.specs.Ascii.{tells_eight}
use Rattle.texts.proofs.eight_ascii.Goals as goal

pub returns : goal.returns
returns c = tells_eight c.args.bytes (search rules) (search rules) c.from_le_bytes-word.ensures

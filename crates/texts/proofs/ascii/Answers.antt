-- No byte is there, the first is no ASCII, or the run is counted as far as the message goes.
use Rattle.std.proofs.Common.{◌∙◌}
use Rattle.texts.specs.Ascii.{run_past, run_other, run_room}
use Rattle.texts.proofs.ascii.Goals as goal
use Rattle.texts.proofs.ascii.Goals.{then-len-at-via-then-len-at, then-len-at-via-else-len-at+then-message-at-ge128}

pub returns-then-len-at : goal.returns-then-len-at
returns-then-len-at c = elim c.then-len-at.branch [
  | then-len-at-via-then-len-at w ↦ run_past _ _ _ w.if-len-at.true
  | then-len-at-via-else-len-at+then-message-at-ge128 w ↦ run_other _ _ _ w.if-message-at-ge128.true
]

pub returns : goal.returns
returns c = c.ascii_bytes.ensures ∙ run_room _ _ _ c.min.ensures

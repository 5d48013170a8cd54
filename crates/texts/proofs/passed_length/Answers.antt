-- By whether the content fits a chunk.
use Rattle.std.proofs.Common.{refl, ◌∙◌, rules}
use Rattle.texts.proofs.Strings.{length_in_one, length_in_more}
use Rattle.texts.proofs.passed_length.Goals as goal
use Rattle.texts.proofs.passed_length.Goals.{then-units-le-LONGEST_CHUNK, else-units-le-LONGEST_CHUNK}

pub returns : goal.returns
returns c = elim c.if-units-le-LONGEST_CHUNK.branch [
  | then-units-le-LONGEST_CHUNK w ↦ length_in_one _ _ _ _ _ c.type_inv.message (search rules) _ _ refl w.if-units-le-LONGEST_CHUNK.true (w.heads-is ∙ w.last_head_size-heads.ensures)
  | else-units-le-LONGEST_CHUNK w ↦ length_in_more _ _ _ _ _ c.type_inv.message (search rules) _ _ refl _ w.heads_length.ensures (w.heads-is ∙ w.unwrap_or-heads.ensures)
]

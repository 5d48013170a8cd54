-- `form_size` meets its contract.
use Rattle.text_writer.specs.Laying.{laid_one, laid_fits}
use Rattle.text_writer.proofs.form_size.Goals as goal

pub overflow_add-result : goal.overflow_add-result
overflow_add-result c =
    laid_fits _ _ _ c.requires.0 c.if-item-le-LONGEST_CHUNK.true _ c.last_head_size.ensures c.requires.1

pub returns-then-item-le-LONGEST_CHUNK : goal.returns-then-item-le-LONGEST_CHUNK
returns-then-item-le-LONGEST_CHUNK c =
    laid_one _ _ _ c.requires.0 c.if-item-le-LONGEST_CHUNK.true _ c.last_head_size.ensures

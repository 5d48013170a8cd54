-- Each way out has its law in proofs/Strings.antt.
use Rattle.texts.specs.Answers.{ChunkMet}
use Rattle.texts.proofs.Strings.{raised, chunk_headless, chunk_cut, chunk_there}
use Rattle.texts.proofs.chunk.Goals as goal

pub returns-in_err-h : goal.returns-in_err-h
returns-in_err-h c =
    raised (ChunkMet _ _ _) _ _ c.from_residual.ensures.1 (chunk_headless _ _ _ _ c.in_err-h.ensures)

pub returns-in_err-content : goal.returns-in_err-content
returns-in_err-content c =
    raised (ChunkMet _ _ _) _ _ c.from_residual-in_err-content.ensures.1
    (chunk_cut _ _ _ _ c.in_ok-h.ensures _ c.in_err-content.ensures)

pub returns : goal.returns
returns c = chunk_there _ _ _ _ c.in_ok-h.ensures c.type_inv.message _ _ c.in_ok-content.ensures

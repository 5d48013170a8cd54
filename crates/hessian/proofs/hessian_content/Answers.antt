use Rattle.hessian.proofs.Contents.{gives_content, gives_none}
use Rattle.hessian.proofs.hessian_content.Goals as goal
use Rattle.hessian.proofs.hessian_content.Goals.{in-Some, in-None}

pub returns : goal.returns
returns c =
    let a = c.args in
    elim c.match-encoding_of.branch [
      | in-Some w ↦
          gives_content _ _ _ _ _ _ _ (w.in-Some.ensures a.source.now a.place) _ c.from.ensures
          (rw (w.copied-is, w.output-is) w.write_content-copied.ensures)
      | in-None w ↦
          gives_none _ _ _ _ _ _ (w.in-None.ensures a.source.now a.place) (rw w.copied-is at c.from.ensures) w.output-is
    ]

-- Each way out has its law in proofs/Pieces.antt.
use Rattle.text_writer.proofs.Pieces.{part_singles, next_plain, next_singles}
use Rattle.text_writer.proofs.put_piece.Goals as goal

pub returns-then-c-cap : goal.returns-then-c-cap
returns-then-c-cap c =
    next_plain c.requires.0 _ _ _ c.requires.1 c.if-c.true c.if-c-cap.true c.put_bytes.ensures

pub slice_bounds-put_bytes-end : goal.slice_bounds-put_bytes-end
slice_bounds-put_bytes-end c = part_singles c.requires.0 _ _ _ c.singles-n.ensures c.min.ensures

pub returns-then-n-gt0 : goal.returns-then-n-gt0
returns-then-n-gt0 c =
    next_singles c.requires.0 _ _ _ c.singles-n.ensures c.min.ensures c.if-n-gt0.true _ _ _
    c.put_bytes-then-n-gt0.ensures

-- Each way out has its law in specs/Cursor.antt.
use mathlib.Core.Path.{sym, ◌∙◌}
use native.Mathlib.Omega.{arith}
use Rattle.text_writer.specs.Cursor.{chunk_there, chunk_none, rest_ends, rest_stops, next_done, next_opens}
use Rattle.text_writer.specs.Cursor.{opens_chunk, piece_units, piece_goes}
use Rattle.text_writer.proofs.put_next.Goals as goal

pub returns-then-c : goal.returns-then-c
returns-then-c c = record { says = rest_ends _ _ _ c.if-c-eq0.true c.if-c.true _ _ }

pub returns-in_err-chunk : goal.returns-in_err-chunk
returns-in_err-chunk c =
    let e = sym c.ok.ensures.value ∙ c.in_err-chunk.was in
    absurd (chunk_none _ c.chunk.ensures e (next_done _ _ _ c.if-c-eq0.true c.if-c.false c.requires))

pub opened-requires : goal.opened-requires
opened-requires c =
    let s = chunk_there _ c.chunk.ensures _ (sym c.ok.ensures.value ∙ c.in_ok-chunk.was) in
    omega (arith, s.2)

pub returns-then-c-eq0 : goal.returns-then-c-eq0
returns-then-c-eq0 c =
    let s = chunk_there _ c.chunk.ensures _ (sym c.ok.ensures.value ∙ c.in_ok-chunk.was) in
    let o = opens_chunk _ _ _ _ s in
    record { says = rw c.opened.ensures (next_opens _ _ _ c.if-c-eq0.true c.if-c.false c.requires _ o _ _ _) }

pub returns-in_err-piece : goal.returns-in_err-piece
returns-in_err-piece c =
    rw c.from_residual-in_err-piece.ensures (record { says = rest_stops _ _ _ c.in_err-piece.ensures.says })

pub overflow_sub-result-2 : goal.overflow_sub-result-2
overflow_sub-result-2 c = piece_units c.requires c.in_ok-piece.ensures.says.1

pub returns : goal.returns
returns c =
    let x = c.in_ok-piece.ensures.says in record { says = (omega (arith, x.0), piece_goes c.requires x.1) }

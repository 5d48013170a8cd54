-- Each way out has its law in proofs/Laying.antt.
use mathlib.Core.Path.{refl, sym, ◌∙◌}
use native.Mathlib.Omega.{arith}
use Rattle.text_writer.specs.Cursor.{chunk_there}
use Rattle.text_writer.proofs.Laying.{find_last, find_broken, find_on, find_few}
use Rattle.text_writer.proofs.find.Goals as goal

pub returns-then-chunk : goal.returns-then-chunk
returns-then-chunk c =
    let s = chunk_there _ c.first_chunk.ensures _ (sym c.ok.ensures.value ∙ c.in_ok-chunk.was) in
    rw c.opened-first.ensures (find_last _ _ _ _ s c.if-chunk.true)

pub returns-in_err-others : goal.returns-in_err-others
returns-in_err-others c =
    let s = chunk_there _ c.first_chunk.ensures _ (sym c.ok.ensures.value ∙ c.in_ok-chunk.was) in
    let e = sym c.ok-2.ensures.value ∙ c.in_err-others.was in
    rw c.from_residual-in_err-others.ensures
    (find_broken _ _ _ _ s c.if-chunk.false _ (rw c.opened-first.ensures refl) _ c.read_string.ensures e)

pub overflow_add-result : goal.overflow_add-result
overflow_add-result c =
    let s = chunk_there _ c.first_chunk.ensures _ (sym c.ok.ensures.value ∙ c.in_ok-chunk.was) in
    let e = sym c.ok-2.ensures.value ∙ c.in_ok-others.was in
    let x = find_on _ _ _ _ s c.if-chunk.false _ (rw c.opened-first.ensures refl) _ c.read_string.ensures _ e in
    (find_few _ _ _ _ x c.type_inv.source (record { fits = omega arith })).0

pub overflow_add-result-2 : goal.overflow_add-result-2
overflow_add-result-2 c =
    let s = chunk_there _ c.first_chunk.ensures _ (sym c.ok.ensures.value ∙ c.in_ok-chunk.was) in
    let e = sym c.ok-2.ensures.value ∙ c.in_ok-others.was in
    let x = find_on _ _ _ _ s c.if-chunk.false _ (rw c.opened-first.ensures refl) _ c.read_string.ensures _ e in
    (find_few _ _ _ _ x c.type_inv.source (record { fits = omega arith })).1

pub returns : goal.returns
returns c =
    let s = chunk_there _ c.first_chunk.ensures _ (sym c.ok.ensures.value ∙ c.in_ok-chunk.was) in
    let e = sym c.ok-2.ensures.value ∙ c.in_ok-others.was in
    let x = find_on _ _ _ _ s c.if-chunk.false _ (rw c.opened-first.ensures refl) _ c.read_string.ensures _ e in
    rw c.opened-first.ensures x

-- Each way out has its law in proofs/FileExtents.antt.
use Rattle.std.proofs.lemmas.Result.{err_from_is_err_and}
use Rattle.holdings_file.proofs.FileExtents.{extent_indexed, place_found, place_few, place_fresh, place_new}
use Rattle.holdings_file.proofs.additions.place_in.Goals as goal

pub number_of-number-requires : goal.number_of-number-requires
number_of-number-requires c = extent_indexed c.args.file.now c.args.extent c.args.index.now c.requires.0

pub returns-then-number-count : goal.returns-then-number-count
returns-then-number-count c = let args = c.args in
    place_found args.file.now args.extent args.index.now c.requires.0 args.message.now c.requires.1 _
    c.number_of-number.ensures c.if-number-count.true

pub returns-in_err-end : goal.returns-in_err-end
returns-in_err-end c = let args = c.args in
    let p = err_from_is_err_and c.from_residual.result c.from_residual.ensures.1 in
    rw (p.1, p.2) (place_few args.file.now args.extent args.index.now c.requires.0 args.message.now c.requires.1 _
    c.number_of-number.ensures c.if-number-count.false _ _ c.in_err-end.ensures args.index.now)

pub insert-requires : goal.insert-requires
insert-requires c = let args = c.args in
    place_fresh args.file.now args.extent args.index.now c.requires.0 args.message.now c.requires.1 _
    c.number_of-number.ensures c.if-number-count.false _ _ c.in_ok-end.ensures

pub returns : goal.returns
returns c = let args = c.args in
    place_new args.file.now args.extent args.index.now c.requires.0 args.message.now c.requires.1 _
    c.number_of-number.ensures c.if-number-count.false _ _ c.in_ok-end.ensures _ c.insert.ensures

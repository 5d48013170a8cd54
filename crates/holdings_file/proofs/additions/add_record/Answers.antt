-- Each way out has its law in proofs/FileExtents.antt.
use borrow.Author.Rules.{rules}
use Rattle.std.proofs.lemmas.Result.{err_from_is_err_and}
use Rattle.holdings_file.proofs.FileExtents.{add_refused, short_message, add_placed}
use Rattle.holdings_file.proofs.additions.add_record.Goals as goal

pub returns-in_err-size : goal.returns-in_err-size
returns-in_err-size c = let args = c.args in
    let p = err_from_is_err_and c.from_residual.result c.from_residual.ensures.1 in
    rw (p.1, p.2) (add_refused args.file.now args.extent args.index.now c.requires args.«record».now _
    c.in_err-size.ensures args.index.now)

pub place_in-requires : goal.place_in-requires
place_in-requires c = let args = c.args in (
  c.requires,
  short_message args.file.now args.extent args.index.now c.requires args.«record».now _ _ c.in_ok-size.ensures,
)

pub returns : goal.returns
returns c = let args = c.args in
    add_placed args.file.now args.extent args.index.now c.requires args.«record».now _ _ c.in_ok-size.ensures _ _ _
    c.place_in.ensures

-- Each way out has its law in proofs/Calls.antt.
use Rattle.std.proofs.lemmas.Result.{err_from_is_err_and}
use Rattle.holdings_file.proofs.Calls.{extended_file, add_unlent, add_beyond, add_faulty, add_within}
use Rattle.holdings_file.proofs.add.Goals as goal

pub returns-in_default : goal.returns-in_default
returns-in_default c = let args = c.args in
    add_unlent args.file.now args.used args.«record».now args.rows.now args.bytes.now c.in_default.ensures

pub returns-in_err-used : goal.returns-in_err-used
returns-in_err-used c = let args = c.args in
    let p = err_from_is_err_and c.from_residual.result c.from_residual.ensures.1 in
    rw (p.1, p.2) (add_beyond args.file.now args.used args.«record».now args.rows.now args.bytes.now c.in-Some.ensures _
    c.in_err-used.ensures)

pub returns-in_err-count : goal.returns-in_err-count
returns-in_err-count c = let args = c.args in
    let p = err_from_is_err_and c.from_residual-in_err-count.result c.from_residual-in_err-count.ensures.1 in
    rw (p.1, p.2) (add_faulty args.file.now args.used args.«record».now args.rows.now args.bytes.now c.in-Some.ensures _
    c.in_ok-used.ensures _ c.check_to_extend.new.index c.in_err-count.ensures)

pub add_record-requires : goal.add_record-requires
add_record-requires c = extended_file c.args.file.now c.args.used _ c.in_ok-used.ensures _ _ c.in_ok-count.ensures

pub returns : goal.returns
returns c = let args = c.args in
    add_within args.file.now args.used args.«record».now args.rows.now args.bytes.now c.in-Some.ensures _
    c.in_ok-used.ensures c.in_ok-count.count _ _ c.add_record.new.index c.add_record.ensures

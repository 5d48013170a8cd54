-- Each way out has its law in proofs/Calls.antt.
use Rattle.std.proofs.lemmas.Result.{err_from_is_err_and}
use Rattle.holdings_file.proofs.Calls.{extended_file, batch_unlent, batch_beyond, batch_faulty, batch_within}
use Rattle.holdings_file.proofs.add_all.Goals as goal

pub returns-in_default : goal.returns-in_default
returns-in_default c = let args = c.args in
    batch_unlent args.file.now args.used args.records.now args.rows.now args.bytes.now args.numbers.now
    c.in_default.ensures

pub returns-in_err-used : goal.returns-in_err-used
returns-in_err-used c = let args = c.args in
    let p = err_from_is_err_and c.from_residual.result c.from_residual.ensures.1 in
    rw (p.1, p.2) (batch_beyond args.file.now args.used args.records.now args.rows.now args.bytes.now args.numbers.now
    c.in-Some.ensures _ c.in_err-used.ensures)

pub returns-in_err-count : goal.returns-in_err-count
returns-in_err-count c = let args = c.args in
    let p = err_from_is_err_and c.from_residual-in_err-count.result c.from_residual-in_err-count.ensures.1 in
    rw (p.1, p.2) (batch_faulty args.file.now args.used args.records.now args.rows.now args.bytes.now args.numbers.now
    c.in-Some.ensures _ c.in_ok-used.ensures _ c.check_to_extend.new.index c.in_err-count.ensures)

pub add_records-requires : goal.add_records-requires
add_records-requires c = extended_file c.args.file.now c.args.used _ c.in_ok-used.ensures _ _ c.in_ok-count.ensures

pub returns : goal.returns
returns c = let args = c.args in
    batch_within args.file.now args.used args.records.now args.rows.now args.bytes.now args.numbers.now c.in-Some.ensures _
    c.in_ok-used.ensures _ _ c.in_ok-count.ensures _ _ _ c.add_records.ensures

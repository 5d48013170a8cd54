-- Each way out has its law in proofs/Calls.antt.
use native.Mathlib.Omega.{arith}
use Rattle.std.proofs.lemmas.Result.{err_from_is_err_and}
use Rattle.holdings_file.proofs.Calls.{list_unlent, list_beyond, list_faulty, list_few, list_all}
use Rattle.holdings_file.proofs.list_in.Goals as goal

pub returns-in_default : goal.returns-in_default
returns-in_default g c = let args = c.args in
    list_unlent g.C.PairCell.layout args.file.now args.used args.rows.now args.bytes.now
    (g.C.PairCell.numbers args.list.now) c.in_default.ensures

pub returns-in_err-used : goal.returns-in_err-used
returns-in_err-used g c = let args = c.args in
    let p = err_from_is_err_and c.from_residual.result c.from_residual.ensures.1 in
    rw (p.1, p.2) (list_beyond g.C.PairCell.layout args.file.now args.used args.rows.now args.bytes.now
    (g.C.PairCell.numbers args.list.now) c.in-Some.ensures _ c.in_err-used.ensures)

pub returns-in_err-count : goal.returns-in_err-count
returns-in_err-count g c = let args = c.args in
    let p = err_from_is_err_and c.from_residual-in_err-count.result c.from_residual-in_err-count.ensures.1 in
    rw (p.1, p.2) (list_faulty g.C.PairCell.layout args.file.now args.used args.rows.now args.bytes.now
    (g.C.PairCell.numbers args.list.now) c.in-Some.ensures _ c.in_ok-used.ensures _ c.check.new.index
    c.in_err-count.ensures)

pub returns-then-pairs-count : goal.returns-then-pairs-count
returns-then-pairs-count g c = let args = c.args in
    list_few g.C.PairCell.layout args.file.now args.used args.rows.now args.bytes.now (g.C.PairCell.numbers args.list.now)
    c.in-Some.ensures _ c.in_ok-used.ensures _ c.check.new.index c.in_ok-count.ensures
    (omega (arith, c.pairs.ensures, c.if-pairs-count.true))

pub returns : goal.returns
returns g c = let args = c.args in
    list_all g.C.PairCell.layout args.file.now args.used args.rows.now args.bytes.now (g.C.PairCell.numbers args.list.now)
    c.in-Some.ensures _ c.in_ok-used.ensures _ c.check.new.index c.in_ok-count.ensures
    (omega (arith, c.pairs.ensures, c.if-pairs-count.false)) _ c.fill.ensures

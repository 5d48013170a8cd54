use Rattle.holdings_file.proofs.FileChecks.{fault_again, fault_none}
use Rattle.holdings_file.proofs.files.entry_fault.Goals as goal

pub returns-then-number_of-count : goal.returns-then-number_of-count
returns-then-number_of-count c = let args = c.args in
    fault_again args.earlier.now args.message.now c.in_ok-fault_alone.ensures args.count _ c.requires.count
    c.number_of.ensures c.if-number_of-count.true

pub returns : goal.returns
returns c = let args = c.args in
    fault_none args.earlier.now args.message.now c.in_ok-fault_alone.ensures args.count _ c.requires.count
    c.number_of.ensures c.if-number_of-count.false

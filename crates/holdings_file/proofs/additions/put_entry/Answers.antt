use Rattle.holdings_file.proofs.Stores.{copied, entry_in}
use native.Mathlib.Omega.{arith}
use Rattle.holdings_file.proofs.additions.put_entry.Goals as goal

pub returns : goal.returns
returns c = let args = c.args in
    entry_in args.file.now args.at args.message.now c.if-file-end.false _ _ c.store_number.ensures.1
    (copied c.store_number.new.bytes c.copy_from_slice.new.self args.message.now c.copy_from_slice.ensures.after
    _ _ (omega arith) (omega arith))

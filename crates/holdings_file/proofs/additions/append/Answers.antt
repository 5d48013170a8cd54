use mathlib.Core.Path.{refl}
use borrow.Author.Rules.{rules}
use native.Mathlib.Omega.{arith}
use Rattle.holdings_file.proofs.Stores.{copied_front, append_old, append_out, append_new}
use Rattle.holdings_file.proofs.additions.append.Goals as goal

pub returns-then-used-ne0 : goal.returns-then-used-ne0
returns-then-used-ne0 c = search (append_old, rules)

pub returns-then-file-end : goal.returns-then-file-end
returns-then-file-end c = search (append_out, rules)

pub returns : goal.returns
returns c = let args = c.args in
    append_new args.file.now args.used args.message.now c.if-used-ne0.false c.if-file-end.false _ _
    (copied_front args.file.now c.copy_from_slice.new.self _ c.copy_from_slice.ensures.after 3 refl (omega arith))
    c.store_number.ensures.1 _ _ c.put_entry-2.ensures

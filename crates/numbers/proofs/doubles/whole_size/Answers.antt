-- `doubles::whole_size` meets its contract.
use Rattle.std.proofs.Common.{sym, arith}
use Rattle.scalar.proofs.DoubleLaws.{size_in, size_high, size_low, size_lt}
use Rattle.numbers.proofs.doubles.whole_size.Goals as goal

pub returns-in-1023-to-1054 : goal.returns-in-1023-to-1054
returns-in-1023-to-1054 c = let a = c.args in
    let e = size_in a.x a.t (omega arith) (omega arith) in
    (sym e, rw e at (size_lt a.x a.t c.requires))

pub returns-in_default : goal.returns-in_default
returns-in_default c = (sym (size_low _ _ (omega arith)), omega arith)

pub returns-in_default-2 : goal.returns-in_default-2
returns-in_default-2 c = (sym (size_high _ _ (omega arith)), omega arith)

-- `doubles::narrow_magnitude` meets its contract.
use Rattle.std.proofs.Common.{sym, arith}
use Rattle.scalar.proofs.DoubleLaws.{narrow_top, narrow_normal, narrow_high, narrow_low, narrow_none, narrow_low_lt}
use Rattle.numbers.proofs.doubles.narrow_magnitude.Goals as goal

pub returns-in-2047 : goal.returns-in-2047
returns-in-2047 c = (sym (narrow_top _ _ c.in-2047.is), omega arith)

pub returns-in-874-to-896 : goal.returns-in-874-to-896
returns-in-874-to-896 c = let a = c.args in
    (sym (narrow_low _ _ (omega arith) (omega arith)), omega (arith, narrow_low_lt a.x a.t (omega arith) (omega arith)))

pub returns-in-897-to-1150 : goal.returns-in-897-to-1150
returns-in-897-to-1150 c = (sym (narrow_normal _ _ (omega arith) (omega arith)), omega arith)

pub returns-in_default : goal.returns-in_default
returns-in_default c = (sym (narrow_none _ _ (omega arith)), omega arith)

pub returns-in_default-2 : goal.returns-in_default-2
returns-in_default-2 c = (sym (narrow_high _ _ (λ e. omega arith) (omega arith)), omega arith)

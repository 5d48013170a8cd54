-- `doubles::widened` meets its contract.
use Rattle.std.proofs.Common.{◌%◌, ◌^◌, sym, arith}
use Rattle.scalar.proofs.DoubleLaws.{widened_top, widened_normal, widened_zero, widened_low, scaled_lt}
use Rattle.numbers.proofs.doubles.widened.Goals as goal

pub returns-then-x-eq255 : goal.returns-then-x-eq255
returns-then-x-eq255 c = omega (arith, widened_top c.args.u c.if-x-eq255.true)

pub returns-then-x-gt0 : goal.returns-then-x-gt0
returns-then-x-gt0 c = omega (arith, widened_normal c.args.u c.if-x-eq255.false c.if-x-gt0.true)

pub returns-then-t-eq0 : goal.returns-then-t-eq0
returns-then-t-eq0 c = sym (widened_zero c.args.u (omega arith) c.if-t-eq0.true)

pub overflow_add-result-2 : goal.overflow_add-result-2
overflow_add-result-2 c = omega (arith, scaled_lt 925 (c.args.u % 2 ^ 23) (omega arith) (omega arith) (omega arith))

pub returns : goal.returns
returns c = omega (arith, c.scaled.ensures, widened_low c.args.u (omega arith) c.if-t-eq0.false)

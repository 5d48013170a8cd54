-- `weight` meets its contract.
use mathlib.Core.Path.{sym}
use native.Mathlib.Omega.{arith}
use Rattle.scalar.proofs.TextUnits.{light, single_low, single_high, double}
use Rattle.text_writer.proofs.weight.Goals as goal

pub returns-in-128-to-191 : goal.returns-in-128-to-191
returns-in-128-to-191 c = rw c.in-Utf8.is (sym (light c.args.b (omega arith) (omega arith)))

pub returns-in-240-to-255 : goal.returns-in-240-to-255
returns-in-240-to-255 c = rw c.in-Utf8.is (sym (double c.args.b (omega arith)))

pub returns-in_default : goal.returns-in_default
returns-in_default c = rw c.in-Utf8.is (sym (single_low c.args.b (omega arith)))

pub returns-in_default-2 : goal.returns-in_default-2
returns-in_default-2 c = rw c.in-Utf8.is (sym (single_high c.args.b (omega arith) (omega arith)))

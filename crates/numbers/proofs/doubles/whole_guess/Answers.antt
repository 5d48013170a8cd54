-- `doubles::whole_guess` meets its contract.
use Rattle.std.proofs.Common.{mod-lt, arith}
use Rattle.scalar.proofs.RuleLaws.{whole_guess_from_zero, whole_guess_below_zero}
use Rattle.numbers.proofs.doubles.whole_guess.Goals as goal

pub returns-then-v-lt9223372036854775808 : goal.returns-then-v-lt9223372036854775808
returns-then-v-lt9223372036854775808 c = (
  rw (whole_guess_from_zero c.args.v c.args.n c.if-v-lt9223372036854775808.true, ← c.whole_size-m.ensures.0),
  mod-lt _ c.requires,
)

pub returns-else-v-lt9223372036854775808 : goal.returns-else-v-lt9223372036854775808
returns-else-v-lt9223372036854775808 c = (
  rw (whole_guess_below_zero c.args.v c.args.n (omega arith), ← c.whole_size-m.ensures.0),
  mod-lt _ c.requires,
)

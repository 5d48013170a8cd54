-- Each arm's callee computes the value of its rule.
use Rattle.std.proofs.Common.{w64}
use borrow.Author.Rules.{sfits_of}
use mir.ValLaws.{to_z-of_z}
use Rattle.scalar.proofs.RuleLaws.{value_exactly, value_plain, value_offset, value_signed}
use Rattle.scalar.proofs.RuleLaws.{value_minutes, value_byte, value_pair, value_float}
use Rattle.numbers.proofs.value_of.Goals as goal

pub less-requires : goal.less-requires
less-requires c = rw c.in-Offset.is at c.requires

pub signed_32-requires : goal.signed_32-requires
signed_32-requires c = rw c.in-Signed.is at c.requires

pub milliseconds-requires : goal.milliseconds-requires
milliseconds-requires c = rw c.in-Minutes.is at c.requires

pub whole_byte-requires : goal.whole_byte-requires
whole_byte-requires c = rw c.in-WholeByte.is at c.requires

pub whole_pair-requires : goal.whole_pair-requires
whole_pair-requires c = rw c.in-WholePair.is at c.requires

pub overflow_cast-u : goal.overflow_cast-u
overflow_cast-u c = record { fits = rw c.in-Float.is at c.requires }

pub returns-in-Exactly : goal.returns-in-Exactly
returns-in-Exactly c = rw (c.in-Exactly.is, value_exactly)

pub returns-in-Plain : goal.returns-in-Plain
returns-in-Plain c = rw (c.in-Plain.is, value_plain)

pub returns-in-Offset : goal.returns-in-Offset
returns-in-Offset c = rw (c.in-Offset.is, value_offset) c.less.ensures

pub returns-in-Signed : goal.returns-in-Signed
returns-in-Signed c = rw (
  c.in-Signed.is,
  value_signed,
  ← c.signed_32.ensures,
  ← to_z-of_z w64 c.signed_32.result (sfits_of c.signed_32.type_inv),
)
    c.cast_unsigned.ensures

pub returns-in-Minutes : goal.returns-in-Minutes
returns-in-Minutes c = rw (c.in-Minutes.is, value_minutes) c.milliseconds.ensures

pub returns-in-WholeByte : goal.returns-in-WholeByte
returns-in-WholeByte c = rw (c.in-WholeByte.is, value_byte) c.whole_byte.ensures

pub returns-in-WholePair : goal.returns-in-WholePair
returns-in-WholePair c = rw (c.in-WholePair.is, value_pair) c.whole_pair.ensures

pub returns-in-Float : goal.returns-in-Float
returns-in-Float c = rw (c.in-Float.is, value_float) c.widened.ensures

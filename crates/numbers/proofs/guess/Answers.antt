-- `numbers::guess` meets its contract: rule by rule.
use Rattle.scalar.proofs.RuleLaws.{guess_exactly, guess_plain, guess_offset, guess_signed}
use Rattle.scalar.proofs.RuleLaws.{guess_minutes, guess_byte, guess_pair, guess_float}
use Rattle.numbers.proofs.guess.Goals as goal

pub returns-in-Exactly : goal.returns-in-Exactly
returns-in-Exactly c = rw (c.in-Exactly.is, guess_exactly)

pub returns-in-Plain : goal.returns-in-Plain
returns-in-Plain c = rw (c.in-Plain.is, guess_plain)

pub returns-in-Offset : goal.returns-in-Offset
returns-in-Offset c = rw (c.in-Offset.is, guess_offset)

pub returns-in-Signed : goal.returns-in-Signed
returns-in-Signed c = rw (c.in-Signed.is, guess_signed)

pub returns-in-Minutes : goal.returns-in-Minutes
returns-in-Minutes c = rw (c.in-Minutes.is, guess_minutes) c.minutes.ensures

pub returns-in-WholeByte : goal.returns-in-WholeByte
returns-in-WholeByte c = rw (c.in-WholeByte.is, guess_byte) c.whole_guess.ensures.0

pub returns-in-WholePair : goal.returns-in-WholePair
returns-in-WholePair c = rw (c.in-WholePair.is, guess_pair) c.whole_guess-in-WholePair.ensures.0

pub returns-in-Float : goal.returns-in-Float
returns-in-Float c = rw (c.in-Float.is, guess_float) c.narrowed.ensures.0

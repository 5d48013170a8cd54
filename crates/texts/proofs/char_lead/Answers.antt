-- Each arm's bytes are a row of the table.
use Rattle.std.proofs.Common.{refl, arith, rules}
use Rattle.texts.proofs.Strings.{leads_at, leads_none}
use Rattle.texts.proofs.char_lead.Goals as goal

pub returns-in-0-to-127 : goal.returns-in-0-to-127
returns-in-0-to-127 c = leads_at 0 tt (omega arith) (omega arith) refl

pub returns-in-194-to-223 : goal.returns-in-194-to-223
returns-in-194-to-223 c = leads_at 1 tt (omega arith) (omega arith) refl

pub returns-in_default : goal.returns-in_default
returns-in_default c = leads_none _ (search rules)

pub returns-in_default-2 : goal.returns-in_default-2
returns-in_default-2 c = leads_none _ (search rules)

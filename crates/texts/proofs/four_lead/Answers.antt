-- Each arm's bytes are a row of the table.
use Rattle.std.proofs.Common.{refl, arith}
use Rattle.texts.proofs.Strings.{leads_at}
use Rattle.texts.proofs.four_lead.Goals as goal

pub returns-in-240 : goal.returns-in-240
returns-in-240 c = leads_at 6 tt (omega arith) (omega arith) refl

pub returns-in-244 : goal.returns-in-244
returns-in-244 c = leads_at 8 tt (omega arith) (omega arith) refl

pub returns-in_default : goal.returns-in_default
returns-in_default c = leads_at 7 tt (omega arith) (omega arith) refl

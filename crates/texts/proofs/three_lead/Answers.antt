-- Each arm's bytes are a row of the table; the last arm's are those of two.
use Rattle.std.proofs.Common.{refl, arith}
use Rattle.flow.specs.Tests.{split}
use Rattle.texts.proofs.Strings.{leads_at}
use Rattle.texts.proofs.three_lead.Goals as goal

pub returns-in-224 : goal.returns-in-224
returns-in-224 c = leads_at 2 tt (omega arith) (omega arith) refl

pub returns-in-237 : goal.returns-in-237
returns-in-237 c = leads_at 4 tt (omega arith) (omega arith) refl

pub returns-in_default : goal.returns-in_default
returns-in_default c = split _ 0xed (λ h. leads_at 3 tt (omega arith) h refl) (λ h. leads_at 5 tt (omega arith) (omega arith) refl)

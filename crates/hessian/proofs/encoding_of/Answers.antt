use Rattle.std.proofs.Common.{arith}
use Rattle.record.proofs.Laws.NamedContents.{named_bytes, named_text, named_other}
use Rattle.hessian.proofs.encoding_of.Goals as goal

pub returns-in-Ok : goal.returns-in-Ok
returns-in-Ok c = λ s p. grind (arith, named_bytes, named_text, named_other)

pub returns-in-Err : goal.returns-in-Err
returns-in-Err c = λ s p. grind (arith, named_other)

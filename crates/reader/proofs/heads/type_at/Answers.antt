-- Each way out has its law in proofs/Types.antt.
use Rattle.reader.proofs.Types.{lead_at_text, no_name, type_off}
use Rattle.std.proofs.Common.{rules}
use Rattle.reader.proofs.heads.type_at.Goals as goal

pub returns-then-message-at : goal.returns-then-message-at
returns-then-message-at c = search (type_off, rules)

pub named_type-requires : goal.named_type-requires
named_type-requires c = search (lead_at_text, rules)

pub numbered_type-requires : goal.numbered_type-requires
numbered_type-requires c = search (no_name, rules)

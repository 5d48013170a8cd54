-- Each way out has its law in proofs/ValueHeads.antt.
use Rattle.reader.proofs.ValueHeads.{head_bytes, head_full, head_none, head_number, head_object, head_off, head_opening, head_reference, head_text}
use Rattle.std.proofs.Common.{rules}
use Rattle.reader.proofs.heads.head_at.Goals as goal

pub returns-then-message-at : goal.returns-then-message-at
returns-then-message-at c = search (head_off, rules)

pub returns-then-allowed-eq0 : goal.returns-then-allowed-eq0
returns-then-allowed-eq0 c = search (head_full, rules)

pub returns-in-Number : goal.returns-in-Number
returns-in-Number c = search (head_number, rules)

pub returns-in-Text : goal.returns-in-Text
returns-in-Text c = search (head_text, rules)

pub returns-in-Bytes : goal.returns-in-Bytes
returns-in-Bytes c = search (head_bytes, rules)

pub returns-in-Reference : goal.returns-in-Reference
returns-in-Reference c = search (head_reference, rules)

pub returns-in-Close : goal.returns-in-Close
returns-in-Close c = search (head_none, rules)

pub returns-else-allowed-eq0 : goal.returns-else-allowed-eq0
returns-else-allowed-eq0 c = search (head_object, rules)

pub returns-in_default : goal.returns-in_default
returns-in_default c = search (head_opening, rules)

-- `heads_of` meets its contract.
use borrow.Author.Rules.{rules}
use Rattle.scalar.specs.declared.Encoding.TheVariants.{Utf8, Binary}
use Rattle.scalar.proofs.FormLaws.{part_head_law, last_heads_law}
use Rattle.text_writer.proofs.heads_of.Goals as goal

pub returns-in-Utf8 : goal.returns-in-Utf8
returns-in-Utf8 c =
    rw c.in-Utf8.is (record { last = last_heads_law Utf8; part = part_head_law Utf8; bytes = search rules })

pub returns-in-Binary : goal.returns-in-Binary
returns-in-Binary c =
    rw c.in-Binary.is (record { last = last_heads_law Binary; part = part_head_law Binary; bytes = search rules })

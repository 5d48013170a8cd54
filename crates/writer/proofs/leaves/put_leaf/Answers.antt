-- Each way out has its law in proofs/LeafLaws.antt.
use native.Mathlib.Omega.{arith}
use borrow.Author.Rules.{rules}
use Rattle.writer.proofs.LeafLaws.{leaf_text, leaf_none, kind_above}
use Rattle.writer.proofs.leaves.put_leaf.Goals as goal

pub returns-in_default : goal.returns-in_default
returns-in_default c = search (leaf_none, rules)

pub returns-in-Text : goal.returns-in-Text
returns-in-Text c = search (leaf_text, rules)

pub returns-in_default-kind : goal.returns-in_default-kind
returns-in_default-kind c = leaf_none _ _ _ _ _
    (kind_above c.in-Ok.kind c.in-Ok.ensures c.in_default-sort_of.ensures
    c.in_default-kind.not-Text c.in_default-kind.not-Bytes c.in_default-kind.not-Reference c.requires) _

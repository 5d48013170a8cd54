-- Each way out has its law in proofs/Contents.antt.
use native.Mathlib.Omega.{arith}
use Rattle.text_writer.proofs.Contents.{content_none, content_over, content_room, content_whole}
use Rattle.text_writer.proofs.write_content.Goals as goal

pub returns-in_default : goal.returns-in_default
returns-in_default c = content_none _ _ _ _ c.in_default.ensures.says

pub returns-then-out-item : goal.returns-then-out-item
returns-then-out-item c = content_over _ _ _ _ _ c.in-Some.ensures.says c.if-out-item.true

pub copy-requires : goal.copy-requires
copy-requires c = content_room _ _ _ _ _ c.in-Some.ensures.says c.if-out-item.false (omega arith)

pub returns : goal.returns
returns c = content_whole _ _ _ _ _ c.in-Some.ensures.says c.if-out-item.false _ _ c.copy.ensures

-- `group` meets its contract: the repeats go on where the bytes end.
use Rattle.std.proofs.Common.{◌∙◌, arith, rules}
use Rattle.vectors.proofs.Stores.{times_number, times_none, took_some, group_stuck, group_unread, group_repeats}
use Rattle.vectors.proofs.group.Goals as goal

pub repeat-requires : goal.repeat-requires
repeat-requires c = took_some _ _ _ _ c.take_bytes.ensures c.in_ok-once.was (search rules)

pub returns-in_err-once : goal.returns-in_err-once
returns-in_err-once c = group_stuck _ _ _ _ c.take_bytes.ensures c.in_err-once.was (search rules)

pub returns-in_err-often : goal.returns-in_err-often
returns-in_err-often c =
    group_unread _ _ _ _ c.take_bytes.ensures c.in_ok-once.was (times_none _ _ c.times.ensures c.in_err-often.was)
    (search rules)

pub returns : goal.returns
returns c =
    group_repeats _ _ _ _ c.take_bytes.ensures c.in_ok-once.was
    (times_number _ _ c.times.ensures c.in_ok-often.was (omega arith)) ∙ c.repeat.ensures

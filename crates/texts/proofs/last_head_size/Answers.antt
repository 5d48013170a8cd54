-- By the units: heads of one, two and three bytes, and none.
use Rattle.std.proofs.Common.{arith}
use Rattle.scalar.proofs.TextShort.{last_length, short_few}
use Rattle.scalar.proofs.StringLengths.{last_none}
use Rattle.texts.proofs.last_head_size.Goals as goal

pub returns-then-units-two_from : goal.returns-then-units-two_from
returns-then-units-two_from c = let n = c.args in
    let few = short_few n.kind in
    omega (arith, last_length n.kind n.units (omega arith), few)

pub returns-then-units-lt1024 : goal.returns-then-units-lt1024
returns-then-units-lt1024 c = let n = c.args in omega (arith, last_length n.kind n.units (omega arith))

pub returns-then-units-le-LONGEST_CHUNK : goal.returns-then-units-le-LONGEST_CHUNK
returns-then-units-le-LONGEST_CHUNK c = let n = c.args in omega (arith, last_length n.kind n.units (omega arith))

pub returns : goal.returns
returns c = let n = c.args in omega (arith, last_none n.kind n.units (omega arith))

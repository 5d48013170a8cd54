-- The table has the entries in the order of the bytes.
use Rattle.scalar.proofs.ChartLaws.{entries}
use Rattle.numbers.proofs.chart.entry.Goals as goal

pub returns : goal.returns
returns c = rw c.from.ensures (entries c.args.b c.ranges.b.fits)

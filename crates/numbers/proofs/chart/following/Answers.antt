-- An entry's last digit is how many bytes follow.
use Rattle.std.proofs.Common.{ℕ, ◌%◌, ap, ◌∙◌}
use Rattle.scalar.proofs.ChartLaws.{entry_parts}
use Rattle.numbers.proofs.chart.following.Goals as goal

pub returns : goal.returns
returns c = c.from.ensures ∙ ap (λ (n : ℕ). n % 10) c.entry.ensures ∙ (entry_parts c.args.b c.ranges.b.fits).1

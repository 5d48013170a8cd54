-- The run is counted as far as the message goes.
use Rattle.std.proofs.Common.{◌≡◌, ◌*◌, ◌/◌, ◌∙◌, ap, ℕ, arith}
use Rattle.texts.specs.Ascii.{ascii_at, run_few, run_room}
use Rattle.texts.proofs.ascii_start.Goals as goal

counted : (c : goal.After-ascii_blocks) → c.ascii_blocks.result ≡ ascii_at c.args.message.now c.args.at c.args.units / 32
counted c = c.ascii_blocks.ensures ∙ ap (λ (n : ℕ). n / 32) (run_room _ _ _ c.min-most.ensures)

pub overflow_mul-result : goal.overflow_mul-result
overflow_mul-result c =
    record { fits = omega (arith, counted c, run_few c.args.message.now c.args.at c.args.units, c.ranges.units.fits) }

pub returns : goal.returns
returns c = ap (λ (n : ℕ). 32 * n) (counted c)

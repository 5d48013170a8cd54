-- Each way out has its law in proofs/LengthLaws.antt.
use Rattle.std.proofs.Common.{sym, ◌∙◌, rules}
use Rattle.numbers.proofs.LengthLaws.{length_whole, not_whole, length_float, length_plain}
use Rattle.numbers.proofs.lengths.double_by_forms.Goals as goal

pub returns-then-whole_pair-value : goal.returns-then-whole_pair-value
returns-then-whole_pair-value c = length_whole _ c.whole_guess-u.ensures.0 c.whole_pair.ensures c.pair_length.ensures
    c.if-whole_pair-value.true

pub returns-then-widened-value : goal.returns-then-widened-value
returns-then-widened-value c = let narrow = c.narrowed in
    length_float _
    (not_whole _ c.whole_guess-u.ensures.0 c.whole_pair.ensures c.if-whole_pair-value.false)
    narrow.result narrow.ensures.1 (sym c.if-widened-value.true ∙ c.widened.ensures)

pub returns-else-widened-value : goal.returns-else-widened-value
returns-else-widened-value c = length_plain _
    (not_whole _ c.whole_guess-u.ensures.0 c.whole_pair.ensures c.if-whole_pair-value.false)
    (search rules) c.narrowed.ensures.0 c.widened.ensures c.if-widened-value.false

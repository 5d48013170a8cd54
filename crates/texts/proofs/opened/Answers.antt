-- Each way out has its law in proofs/Strings.antt.
use Rattle.std.proofs.Common.{◌<◌, arith, rules}
use Rattle.texts.specs.At.{opens_units}
use Rattle.texts.specs.Answers.{CharMet}
use Rattle.texts.proofs.Strings.{raised, char_fault, char_next, char_fits}
use Rattle.texts.proofs.opened.Goals as goal

pub returns-in_err-continued : goal.returns-in_err-continued
returns-in_err-continued c = λ left h.
    let z : 0 < left = omega (arith, (opens_units c.requires.1).0) in
    raised (CharMet left _ _) _ _ c.from_residual.ensures.1
    (char_fault _ _ _ z c.requires.0 _ _ _ _ c.requires.1 h _ c.in_err-continued.ensures)

pub overflow_add-result : goal.overflow_add-result
overflow_add-result c = char_fits _ _ _ _ _ _ c.requires.0 c.in_ok-continued.ensures (search rules)

pub overflow_add-result-2 : goal.overflow_add-result-2
overflow_add-result-2 c = char_fits _ _ _ _ _ _ c.requires.0 c.in_ok-continued.ensures (search rules)

pub returns : goal.returns
returns c = λ left h.
    let z : 0 < left = omega (arith, (opens_units c.requires.1).0) in
    char_next _ _ _ z c.requires.0 _ _ _ _ c.requires.1 h c.in_ok-continued.ensures

-- Each way out has its law in proofs/Strings.antt.
use Rattle.texts.specs.Answers.{CharMet}
use Rattle.texts.proofs.Strings.{raised, pair_cut_1, pair_cut_2, pair_cut_3, pair_cut_4, pair_whole}
use Rattle.texts.proofs.pair.Goals as goal

pub returns-in_err-continued : goal.returns-in_err-continued
returns-in_err-continued c = λ left h.
    raised (CharMet left _ _) _ _ c.from_residual.ensures.1
    (pair_cut_1 _ _ c.requires.0 c.requires.1 _ h _ c.in_err-continued.ensures)

pub returns-in_err-continued-2 : goal.returns-in_err-continued-2
returns-in_err-continued-2 c = λ left h.
    raised (CharMet left _ _) _ _ c.from_residual-in_err-continued-2.ensures.1
    (pair_cut_2 _ _ c.requires.0 c.requires.1 _ h c.in_ok-continued.ensures _ c.in_err-continued-2.ensures)

pub returns-in_err-continued-3 : goal.returns-in_err-continued-3
returns-in_err-continued-3 c = λ left h.
    raised (CharMet left _ _) _ _ c.from_residual-in_err-continued-3.ensures.1
    (pair_cut_3 _ _ c.requires.0 c.requires.1 _ h c.in_ok-continued.ensures c.in_ok-continued-2.ensures _
    c.in_err-continued-3.ensures)

pub returns-in_err-continued-4 : goal.returns-in_err-continued-4
returns-in_err-continued-4 c = λ left h.
    raised (CharMet left _ _) _ _ c.from_residual-in_err-continued-4.ensures.1
    (pair_cut_4 _ _ c.requires.0 c.requires.1 _ h c.in_ok-continued.ensures c.in_ok-continued-2.ensures
    c.in_ok-continued-3.ensures _ c.in_err-continued-4.ensures)

pub returns : goal.returns
returns c = λ left h.
    pair_whole _ _ c.requires.0 c.requires.1 _ h c.in_ok-continued.ensures c.in_ok-continued-2.ensures
    c.in_ok-continued-3.ensures c.in_ok-continued-4.ensures

-- Each form that was tried before is passed over.
use Rattle.std.proofs.Common.{[], ◌∷◌, rules}
use Rattle.scalar.specs.declared.Rule.TheVariants.{Offset, Signed}
use Rattle.scalar.specs.Scalars.{form}
use Rattle.numbers.proofs.Writing.{last_found, tried_after}
use Rattle.numbers.proofs.spell_whole.Goals as goal

pub returns : goal.returns
returns c =
    let a = c.args.codes in
    let one = form a.one a.count 0 (Offset a.zero) in
    let two = form a.two 16 1 (Offset 0x800) in
    let three = form a.three 8 2 (Offset 0x4_0000) in
    let five = form a.five 1 4 Signed in
    let first = last_found one _ c.try_form.ensures in
    let second = tried_after (one ∷ []) two _ _ _ first c.or_else.ensures (λ p. search rules) in
    let third = tried_after (one ∷ two ∷ []) three _ _ _ second c.or_else-2.ensures (λ p. search rules) in
    tried_after (one ∷ two ∷ three ∷ []) five _ _ _ third c.or_else-3.ensures (λ p. search rules)

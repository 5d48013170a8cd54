-- Each form that was tried before is passed over.
use Rattle.std.proofs.Common.{[], ◌∷◌, rules}
use Rattle.scalar.specs.declared.Rule.TheVariants.{Exactly, WholeByte, WholePair, Float}
use Rattle.scalar.specs.Scalars.{form}
use Rattle.scalar.proofs.FormLaws.{forms_double}
use Rattle.numbers.proofs.Writing.{last_found, tried_after, plain_after}
use Rattle.numbers.proofs.spell_double.Goals as goal

pub returns : goal.returns
returns c =
    let zero = form 0x5b 1 0 (Exactly 0) in
    let one = form 0x5c 1 0 (Exactly 0x3ff0_0000_0000_0000) in
    let byte = form 0x5d 1 1 WholeByte in
    let pair = form 0x5e 1 2 WholePair in
    let float = form 0x5f 1 4 Float in
    let first = last_found zero _ c.try_form.ensures in
    let two = tried_after (zero ∷ []) one _ _ _ first c.or_else.ensures (λ p. search rules) in
    let three = tried_after (zero ∷ one ∷ []) byte _ _ _ two c.or_else-2.ensures (λ p. search rules) in
    let four = tried_after (zero ∷ one ∷ byte ∷ []) pair _ _ _ three c.or_else-3.ensures (λ p. search rules) in
    let five = tried_after (zero ∷ one ∷ byte ∷ pair ∷ []) float _ _ _ four c.or_else-4.ensures (λ p. search rules) in
    rw forms_double (plain_after _ _ _ _ _ _ five c.or.ensures c.plain_form.ensures)

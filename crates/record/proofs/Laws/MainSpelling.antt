-- 2026-11: a record that a message has under either rule of 5f, some message has under the main rule: the doubles that
-- were thousandths in eight bytes.
use Rattle.std.specs.Prelude.{Bool, List, ℕ, zero, suc}
use Rattle.flow.specs.Grammar.{Phrase, Many, finished, another, Ended, ended, Preceded, alone, first}
use Rattle.scalar.specs.Scalars.{DoubleRule, Floats}
use Rattle.scalar.proofs.UnderRules.{spelled_main}
use Rattle.record.specs.Model.Items.{Item, Known, start, Limits}
use Rattle.record.specs.Model.Grammar.{PairForm, a_pair, PlainForm, a_leaf, a_few_typed, a_counted_typed}
use Rattle.record.specs.Model.Grammar.{an_open_typed, a_few, a_counted, an_open, a_typed_map, a_map, a_few_object}
use Rattle.record.specs.Model.Grammar.{an_object, a_reference, Nowhere, ValueForm, Message}

-- some bytes have the same items in the phrase G
abbrev Derivable : Phrase Known Item → Known → List Item → Known → Type 0
Derivable G c is c' = (w : List ℕ) × G c w is c'

-- so have all that the phrase F has
abbrev Covers : Phrase Known Item → Phrase Known Item → Type 0
Covers F G = (c : Known) (w : List ℕ) (is : List Item) (c' : Known) → F c w is c' → Derivable G c is c'

module _ {F G : Phrase Known Item} (h : Covers F G) where
  many_main : (n : ℕ) → Covers (Many F n) (Many G n)
  many_main zero c w is c' finished = (_, finished)
  many_main (suc n) c w is c' (another x r) =
      let y = h _ _ _ _ x in
      let z = many_main n _ _ _ _ r in
      (_, another y.1 z.1)

  end_main : {e n : ℕ} → Covers (Ended e F n) (Ended e G n)
  end_main {n = n} c w is c' (ended r) = let y = many_main n _ _ _ _ r in (_, ended y.1)

  pair_main : Covers (PairForm F) (PairForm G)
  pair_main c w is c' (a_pair x y) = let u = h _ _ _ _ x in let v = h _ _ _ _ y in (_, a_pair u.1 v.1)

preceded_main : {e : ℕ} {D F G : Phrase Known Item} → Covers F G → Covers (Preceded e D F) (Preceded e D G)
preceded_main h c w is c' (alone x) = let y = h _ _ _ _ x in (_, alone y.1)
preceded_main h c w is c' (first x r) = let y = preceded_main h _ _ _ _ r in (_, first x y.1)

module _ (ρ : DoubleRule) (ℓ : Limits) where
  plain_main : {room : Bool} {F G : Phrase Known Item} → Covers F G
      → Covers (PlainForm ρ ℓ room F) (PlainForm Floats ℓ room G)
  plain_main h c w is c' (a_leaf x) = let y = spelled_main x in (_, a_leaf y.1)
  plain_main h c w is c' (a_few_typed r l q y) = let z = many_main h _ _ _ _ _ y in (_, a_few_typed r l q z.1)
  plain_main h c w is c' (a_counted_typed r q i l y) = let z = many_main h _ _ _ _ _ y in
      (_, a_counted_typed r q i l z.1)
  plain_main h c w is c' (an_open_typed r q y) = let z = end_main h _ _ _ _ y in (_, an_open_typed r q z.1)
  plain_main h c w is c' (a_few r l y) = let z = many_main h _ _ _ _ _ y in (_, a_few r l z.1)
  plain_main h c w is c' (a_counted r i l y) = let z = many_main h _ _ _ _ _ y in (_, a_counted r i l z.1)
  plain_main h c w is c' (an_open r y) = let z = end_main h _ _ _ _ y in (_, an_open r z.1)
  plain_main h c w is c' (a_typed_map r q y) = let z = end_main (pair_main h) _ _ _ _ y in (_, a_typed_map r q z.1)
  plain_main h c w is c' (a_map r y) = let z = end_main (pair_main h) _ _ _ _ y in (_, a_map r z.1)
  plain_main h c w is c' (a_few_object r l i y) = let z = many_main h _ _ _ _ _ y in (_, a_few_object r l i z.1)
  plain_main h c w is c' (an_object r q i y) = let z = many_main h _ _ _ _ _ y in (_, an_object r q i z.1)
  plain_main h c w is c' (a_reference q l) = (_, a_reference q l)

  nowhere_main : Covers Nowhere Nowhere
  nowhere_main c w is c' x = absurd x

  value_main : (d : ℕ) → Covers (ValueForm ρ ℓ d) (ValueForm Floats ℓ d)
  value_main zero = preceded_main (plain_main nowhere_main)
  value_main (suc d) = preceded_main (plain_main (value_main d))

  pub message_main : (m : List ℕ) (r : List Item) → Message ρ ℓ m r → (w : List ℕ) × Message Floats ℓ w r
  message_main m r x =
      let y = value_main ℓ.containers start m r x.known x.derived in
      (y.0, record { known = x.known; derived = y.1 })

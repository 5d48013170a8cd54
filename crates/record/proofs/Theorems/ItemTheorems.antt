-- The theorems over items, for all limits and every open_from up to 48.
use Rattle.std.specs.Prelude.{◌≡◌, refl, ◌↔◌, List, ℕ, ◌≤◌, length}
use Rattle.std.proofs.Math.Option.{Option, none, some}
use Rattle.std.proofs.Common.{arith}
use Rattle.scalar.specs.Scalars.{DoubleRule, Floats}
use Rattle.record.specs.Model.Items.{Item, Limits}
use Rattle.record.specs.Model.Terms.{Reads}
use Rattle.record.specs.Model.Grammar.{Message}
use Rattle.record.specs.Model.Shortest.{spell}
use Rattle.record.proofs.Laws.Meaning.{reads_derived, derived_reads}
use Rattle.record.proofs.Laws.Short.{message_short}
use Rattle.record.proofs.Laws.Back.{message_back}

-- a message reads as a record exactly when the grammar derives it
pub grammar : (ρ : DoubleRule) (ℓ : Limits) (m : List ℕ) (r : List Item) → Reads ρ ℓ m r ↔ Message ρ ℓ m r
grammar ρ ℓ m r = (reads_derived ρ ℓ m r, derived_reads ρ ℓ m r)

module _ (ℓ : Limits) (open_from : ℕ) (most : open_from ≤ 48) where
  -- no message that reads as the record is shorter than its spelling
  pub no_longer : (m : List ℕ) (r : List Item) → Reads Floats ℓ m r → (w : List ℕ) × (spell ℓ open_from r ≡ some w)
      × (length w ≤ length m)
  no_longer m r x = message_short ℓ open_from most m r (reads_derived Floats ℓ m r x)

  -- the spelling reads back
  pub reads_back : (r : List Item) (w : List ℕ) → spell ℓ open_from r ≡ some w → Reads Floats ℓ w r
  reads_back r w e = derived_reads Floats ℓ w r (message_back ℓ open_from most r w e)

  -- a record has no spelling exactly when no message reads as it
  no_message : (r : List Item) → spell ℓ open_from r ≡ none → (m : List ℕ) → Reads Floats ℓ m r → ⊥
  no_message r e m x = let p = no_longer m r x in let q = p.1 in absurd (let z : ◌≡◌ {A = ℕ} 0 1 = cc in omega arith)

  none_spelled : (r : List Item) → ((m : List ℕ) → Reads Floats ℓ m r → ⊥) → spell ℓ open_from r ≡ none
  none_spelled r h = go (spell ℓ open_from r) refl
    where
      go : (o : Option (List ℕ)) → spell ℓ open_from r ≡ o → o ≡ none
      go none e = refl
      go (some w) e = absurd (h w (reads_back r w e))

  pub no_record : (r : List Item) → (spell ℓ open_from r ≡ none) ↔ ((m : List ℕ) → Reads Floats ℓ m r → ⊥)
  no_record r = (no_message r, none_spelled r)

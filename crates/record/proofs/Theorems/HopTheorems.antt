-- Request 2026-07, for those who use a table: what the fifth numbers of rows that hold a record are good for.
use Rattle.std.specs.Prelude.{◌≡◌, refl, List, ℕ}
use Rattle.std.proofs.Common.{subst}
use Rattle.flow.specs.Flow.{Bytes, Outcome, Done, Fault, One}
use Rattle.scalar.specs.Scalars.{DoubleRule}
use Rattle.record.specs.Model.Items.{Item, Known, start, Limits}
use Rattle.record.specs.Model.Reading.{message}
use Rattle.record.specs.Model.Rows.{Row}
use Rattle.record.specs.Model.Claims.{ClaimAll}
use Rattle.record.specs.Model.Grammar.{Message}
use Rattle.record.specs.Model.Terms.{Accepted}
use Rattle.record.proofs.Laws.Meaning.{derived_reads}
use Rattle.record.proofs.Laws.Forest.{Forest, items_forest}
use Rattle.record.proofs.Laws.Nesting.{message_forest}
use Rattle.record.specs.Model.Hops.{Skippable}
use Rattle.record.proofs.Laws.HopLaws.{claimed_skips, claimed_whole}
use Rattle.record.specs.Model.Claims.{ContentMap}

-- the items of a record are one tree
record_forest : (ρ : DoubleRule) (ℓ : Limits) (m : List ℕ) (is : List Item) → Message ρ ℓ m is → Forest 1 is
record_forest ρ ℓ m is g = let x = derived_reads ρ ℓ m is g in go x.bytes (message ρ ℓ start 0 m) refl x.accepted
  where
    go : Bytes m → (o : Outcome Known Item One) → message ρ ℓ start 0 m ≡ o → Accepted is o → Forest 1 is
    go b (Done n u es c) e a = subst (Forest 1) a (items_forest (message_forest ρ ℓ m b n es c e))
    go b (Fault x o) e a = absurd a

-- rows that claim the record of some message, in any source: every row skips what it opens
pub skippable : (ρ : DoubleRule) (ℓ : Limits) (m : List ℕ) (is : List Item) → Message ρ ℓ m is
    → (contents : ContentMap) (r : List Row) → ClaimAll contents r is → Skippable r is
skippable ρ ℓ m is g contents r c =
    let f = record_forest ρ ℓ m is g in
    record { each = claimed_skips contents c f; whole = claimed_whole contents c f }

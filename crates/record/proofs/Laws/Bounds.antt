-- The count and the place that the reader answers lie within the message, and within the longest one; so does the
-- writer's count.
use Rattle.std.specs.Prelude.{◌≡◌, refl, ℕ, ◌≤◌, ltb, length}
use mathlib.Core.List.{List, [], ◌∷◌}
use Rattle.std.proofs.Math.Option.{Option, none, some}
use native.Mathlib.Omega.{arith}
use Rattle.std.proofs.lemmas.List.{length-map}
use Rattle.std.proofs.Common.{ltb-false}
use Rattle.flow.specs.Flow.{pick, Bytes, Entry, Outcome, Done, Fault, One, items}
use Rattle.flow.specs.Tests.{pick_either}
use Rattle.flow.specs.Refusals.{Told}
use Rattle.scalar.specs.Scalars.{DoubleRule}
use Rattle.record.specs.Model.Items.{Item, Known, start, Limits}
use Rattle.record.specs.Model.Reading.{message}
use Rattle.record.proofs.Laws.Extent.{rows_few}
use Rattle.record.specs.Model.Answers.{ReadResult, judged, read, shortest_of, Layout, lent_rows, rows_of}
use Rattle.record.specs.Model.Answers.{read_numbers, write_numbers, written}
use Rattle.record.specs.Model.Answers.{answered, fitted, WriteResult, Wrote, Refused}
use Rattle.record.proofs.ForReader.ReadMessages.{rows_length}
use Rattle.record.proofs.Laws.Refusals.{Located, located_within, message_within}
use Rattle.record.proofs.Theorems.AnswerTheorems.{read_numbered}
use Rattle.record.specs.Model.Claims.{ContentMap}

-- the count and the place of an answer are at most k
abbrev Most : ℕ → ReadResult → Type 0
Most k a = ((read_numbers a).count ≤ k) × ((read_numbers a).place ≤ k)

module _ (ρ : DoubleRule) (ℓ : Limits) (lent : ℕ) where
  message_most : (k : ℕ) (m : List ℕ) → Bytes m → length m ≤ k → Most k (answered lent (message ρ ℓ start 0 m))
  message_most k m b l = go (message ρ ℓ start 0 m) refl (message_within ρ ℓ m)
    where
      go : (o : Outcome Known Item One) → message ρ ℓ start 0 m ≡ o → Told (Located (length m)) m o
          → Most k (answered lent o)
      go (Fault x o) e t = (omega arith, omega (arith, located_within t))
      go (Done n u es c) e t =
          let i : length es ≤ k = omega (
            arith,
            rows_few ρ ℓ m (items es) (record { bytes = b; accepted = rw e refl }),
            length-map es (λ (e : Entry Item). e.item),
          ) in
          pick_either (Most k) (ltb lent (length es)) (λ q. (i, omega arith))
          (λ q. (omega (arith, rows_length es), omega arith))

  read_most : (k : ℕ) (m : List ℕ) → Bytes m → (length m ≤ ℓ.longest → length m ≤ k) → Most k (read ρ ℓ lent m)
  unfolding judged
  read_most k [] b h = (omega arith, omega arith)
  read_most k (x ∷ m) b h = pick_either (λ o. Most k (answered lent o)) (ltb ℓ.longest (length (x ∷ m)))
      (λ q. (omega arith, omega arith)) (λ q. message_most k (x ∷ m) b (h (ltb-false ℓ.longest (length (x ∷ m)) q)))

  module _ (m : List ℕ) (b : Bytes m) where
    pub read_count : (read_numbers (read ρ ℓ lent m)).count ≤ length m
    read_count = (read_most (length m) m b (λ l. omega arith)).0

    pub read_place : (read_numbers (read ρ ℓ lent m)).place ≤ length m
    read_place = (read_most (length m) m b (λ l. omega arith)).1

    -- so the answer fits three small numbers, whatever the message's length
    pub answer_small : ((read_numbers (read ρ ℓ lent m)).count ≤ ℓ.longest)
        × ((read_numbers (read ρ ℓ lent m)).place ≤ ℓ.longest) × ((read_numbers (read ρ ℓ lent m)).number ≤ 9)
    answer_small = let p = read_most ℓ.longest m b (λ l. l) in (p.0, p.1, read_numbered ρ ℓ lent m b)

-- ---- the count of the writer's answer
module _ (ℓ : Limits) (lent : ℕ) where
  stored_small : (o : Option (List ℕ)) → (write_numbers (fitted ℓ lent o)).count ≤ ℓ.longest
  stored_small none = omega arith
  stored_small (some w) =
      pick_either (λ a. (write_numbers a).count ≤ ℓ.longest) (ltb ℓ.longest (length w)) (λ t. omega arith)
      (λ t. let l : length w ≤ ℓ.longest = ltb-false ℓ.longest (length w) t in
      pick_either (λ a. (write_numbers a).count ≤ ℓ.longest) (ltb lent (length w)) (λ s. l) (λ s. l))

pub written_small : (ℓ : Limits) (open_from : ℕ) (L : Layout) (contents : List ℕ → ContentMap) (source t : List ℕ)
    (n lent : ℕ)
    → (write_numbers (written ℓ open_from L contents source t n lent)).count ≤ ℓ.longest
unfolding written
written_small ℓ open_from L contents source t n lent =
    pick_either (λ a. (write_numbers a).count ≤ ℓ.longest) (ltb ℓ.longest (length source)) (λ e. omega arith)
    (λ e. stored_small ℓ lent (pick (ltb (lent_rows L t) n) none (shortest_of ℓ open_from (contents source)
    (rows_of L n t))))

-- its place is 0
pub written_place : (ℓ : Limits) (open_from : ℕ) (L : Layout) (contents : List ℕ → ContentMap) (source t : List ℕ)
    (n lent : ℕ) → (write_numbers (written ℓ open_from L contents source t n lent)).place ≤ ℓ.longest
written_place ℓ open_from L contents source t n lent = go (written ℓ open_from L contents source t n lent)
  where
    go : (x : WriteResult) → (write_numbers x).place ≤ ℓ.longest
    go (Wrote w) = omega arith
    go (Refused y k) = omega arith

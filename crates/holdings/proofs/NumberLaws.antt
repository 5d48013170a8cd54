-- Laws of the numbers of refusals: a file's are 20 to 25, a record's 1 to 9.
use Rattle.std.specs.Prelude.{◌≡◌, ℕ, ◌+◌, ◌≤◌, eqb, ltb, length, take, drop}
use Rattle.std.proofs.Math.Path.{refl}
use Rattle.std.proofs.Common.{sym, inl}
use Rattle.std.proofs.Math.Logic.{inr}
use mathlib.Core.List.{List, [], ◌∷◌, ◌++◌}
use Rattle.std.proofs.Math.Option.{Option, none, some}
use native.Mathlib.Omega.{arith}
use Rattle.std.proofs.lemmas.Bool.{eqb-false}
use Rattle.flow.specs.RefusalNumbers.{wrong_length, no_room, wrong_mark, unknown_version, cut_entry, refused_entry}
use Rattle.flow.specs.RefusalNumbers.{repeated_entry, beyond_version}
use Rattle.flow.specs.Tests.{pick_either}
use Rattle.flow.specs.Flow.{same_list, Outcome, Done, Fault, One, items}
use Rattle.scalar.specs.Scalars.{Floats}
use Rattle.record.specs.Model.Items.{Item, Known}
use Rattle.record.specs.Model.Answers.{judged}
use Rattle.record.proofs.Laws.Answering.{never}
use Rattle.record.proofs.Laws.Refusals.{message_numbered}
use Rattle.holdings.specs.Files.{Rules, Versions, reads_by, shortest_by, header_size, length_size, entries_in, Listing}
use Rattle.holdings.specs.Files.{Lists, Faulty, is_held, is_message, fault_by, fault_of, mark, mark_size, lists_from}
use Rattle.holdings.specs.Files.{version_in, lists_by, listing_of, listing}
use Rattle.holdings.specs.Answers.{Result, Refuse, Addition, listing_to_extend, appended, added_short, added_read}
use Rattle.holdings.specs.Answers.{added_listed, addition}
use Rattle.holdings.specs.Terms.{ByFile, ByRecord, ByAddition, Messages}
use Rattle.holdings.specs.EntryLaws.{Entries}

-- ---- of a file
-- an entry's fault is 23 to 25
abbrev OfEntry : ℕ → Type 0
OfEntry x = (refused_entry ≤ x) × (x ≤ repeated_entry)

fault_numbered : (R : Rules) (before : Messages) (m : List ℕ) → (fault_of R before m ≡ 0 → ⊥)
    → OfEntry (fault_of R before m)
unfolding fault_of
fault_numbered R before m = go (reads_by R m)
  where
    go : (o : Outcome Known Item One) → (fault_by R before m o ≡ 0 → ⊥) → OfEntry (fault_by R before m o)
    go (Fault x p) = λ h. (omega arith, omega arith)
    go (Done n u es c) =
        pick_either (λ (k : ℕ). (k ≡ 0 → ⊥) → OfEntry k) (is_message m (shortest_by R (items es)))
        (λ t. pick_either (λ (k : ℕ). (k ≡ 0 → ⊥) → OfEntry k) (is_held m before)
        (λ s h. (omega arith, omega arith))
        (λ s h. absurd (h refl)))
        (λ t h. (omega arith, omega arith))

entries_numbered : (R : Rules) (p : ℕ) (before : Messages) (os : Entries) (x q : ℕ)
    → lists_from R p before os ≡ Faulty x q → ByFile x
entries_numbered R p before [] x q = λ e. never cc
entries_numbered R p before (none ∷ os) x q = λ e. let z : cut_entry ≡ x = cc in (omega arith, omega arith)
entries_numbered R p before (some m ∷ os) x q =
    pick_either (λ (l : Listing). l ≡ Faulty x q → ByFile x) (eqb (fault_of R before m) 0)
    (λ t e. entries_numbered R (p + (length_size + length m)) (before ++ (m ∷ [])) os x q e)
    (λ t e.
    let z : fault_of R before m ≡ x = cc in
    let y = fault_numbered R before m (eqb-false (fault_of R before m) 0 t) in
    (omega (arith, y.0), omega (arith, y.1)))

module _ (vs : Versions) (file : List ℕ) (used x p : ℕ) where
  pub listing_numbered : listing vs file used ≡ Faulty x p → ByFile x
  unfolding listing listing_of
  listing_numbered = pick_either (λ (l : Listing). l ≡ Faulty x p → ByFile x) (ltb (length file) used)
      (λ t e. let z : cut_entry ≡ x = cc in (omega arith, omega arith))
      (λ t. pick_either (λ (l : Listing). l ≡ Faulty x p → ByFile x) (same_list (take mark_size (take used file)) mark)
      (λ s. by_version (version_in vs (take used file)))
      (λ s e. let z : wrong_mark ≡ x = cc in (omega arith, omega arith)))
    where
      by_version : (o : Option Rules) → lists_by (take used file) o ≡ Faulty x p → ByFile x
      by_version none e = let z : unknown_version ≡ x = cc in (omega arith, omega arith)
      by_version (some R) e = entries_numbered R header_size [] (entries_in (drop header_size (take used file))) x p e

  pub extend_numbered : listing_to_extend vs file used ≡ Faulty x p → ByFile x
  extend_numbered = pick_either (λ (l : Listing). l ≡ Faulty x p → ByFile x) (eqb used 0)
      (λ t e. never cc)
      (λ t e. listing_numbered e)

-- ---- of a record
pub reads_numbered : (R : Rules) (m : List ℕ) (x p : ℕ) → reads_by R m ≡ Fault x p → ByRecord x
unfolding judged
reads_numbered R [] x p e = let z : wrong_length ≡ x = cc in (omega arith, omega arith)
reads_numbered R (b ∷ m) x p e =
    pick_either (λ (o : Outcome Known Item One). o ≡ Fault x p → ByRecord x)
    (ltb R.limits.longest (length (b ∷ m)))
    (λ t q. let z : wrong_length ≡ x = cc in (omega arith, omega arith))
    (λ t q.
    let y = message_numbered Floats R.limits x p (b ∷ m) q in
    (omega (arith, y.0), omega (arith, y.1)))
    e

-- ---- of an addition
module _ (vs : Versions) (file : List ℕ) (used : ℕ) (x k p : ℕ) where
  short_numbered : (ms : Messages) (o : Option (List ℕ)) → added_short vs file used ms o ≡ Refuse x k p → ByAddition x
  short_numbered ms none = λ h. let q : beyond_version ≡ x = cc in inr (inr (sym q))
  short_numbered ms (some w) = pick_either (λ (z : Result Addition). z ≡ Refuse x k p → ByAddition x)
      (ltb (length file) (used + length (appended vs used ms w)))
      (λ t h. let q : no_room ≡ x = cc in inl (omega arith, omega arith))
      (λ t h. never cc)

  read_numbered : (R : Rules) (ms : Messages) (m : List ℕ) (o : Outcome Known Item One) → reads_by vs.newest m ≡ o
      → added_read vs file used R ms o ≡ Refuse x k p → ByAddition x
  read_numbered R ms m (Fault y o) e = λ h.
      let q : y ≡ x = cc in
      let z = reads_numbered vs.newest m y o e in
      inl (omega (arith, z.0), omega (arith, z.1))
  read_numbered R ms m (Done n u es c) e = short_numbered ms (shortest_by R (items es))

  pub addition_numbered : (m : List ℕ) → addition vs file used m ≡ Refuse x k p → ByAddition x
  unfolding addition
  addition_numbered m = by_file (listing_to_extend vs file used) refl
    where
      by_file : (l : Listing) → listing_to_extend vs file used ≡ l → added_listed vs file used m l ≡ Refuse x k p
          → ByAddition x
      by_file (Faulty y o) e = λ h.
          let q : y ≡ x = cc in
          let z = extend_numbered vs file used y o e in
          inr (inl (omega (arith, z.0), omega (arith, z.1)))
      by_file (Lists R ms) e = read_numbered R ms m (reads_by vs.newest m) refl

-- none of them is 0
pub not_accepted : (x : ℕ) → ByAddition x → x ≡ 0 → ⊥
not_accepted x (inl h) z = omega (arith, h.0)
not_accepted x (inr (inl h)) z = omega (arith, h.0)
not_accepted x (inr (inr h)) z = omega arith

-- What the contract of additions::add_records asks at each way out: the additions left give what is sought.
use mathlib.Core.Path.{◌≡◌, refl, sym, ◌∙◌, ap, subst}
use mathlib.Core.List.{List, [], ◌∷◌}
use mathlib.Core.Option.{none, some}
use Prim.Native.Nat.{ℕ, ◌+◌, ◌≤◌, ◌<◌}
use native.Mathlib.Omega.{arith}
use native.Mathlib.Numerals.{add-one}
use lib.ListN.{length, drop, length-drop}
use Rattle.std.specs.Prelude.{Result, Ok, Err}
use Rattle.flow.specs.RefusalNumbers.{cut_entry}
use Rattle.flow.specs.OverlayLaws.{overlay_none, length_put}
use Rattle.flow.specs.Flow.{stored, put, overlay}
use Rattle.scalar.specs.Refusals.{number_of}
use Rattle.scalar.specs.declared.refusals.Refused.{Refused}
use Rattle.holdings.specs.Files.{versions, entries_in}
use Rattle.holdings.specs.Answers.{Accept, Refuse, answer, Addition, addition, Batch, stopped, took, additions}
use Rattle.holdings.proofs.BatchLaws.{additions_none, additions_cut, additions_refused, additions_taken}
use Rattle.holdings_file.specs.declared.additions.Extent.{Extent}
use Rattle.holdings_file.specs.declared.entries.Entry.{Entry}
use Rattle.holdings_file.specs.declared.index.Index.{Index}
use Rattle.holdings_file.specs.declared.Held.{Held}
use Rattle.holdings_file.specs.declared.HoldingsError.{HoldingsError}
use Rattle.holdings_file.specs.declared.HoldingsError.TheVariants as holdings
use Rattle.holdings_file.specs.declared.Taken.{Taken}
use Rattle.holdings_file.specs.declared.BatchError.{BatchError}
use Rattle.holdings_file.specs.declared.BatchError.TheVariants as batch
use Rattle.holdings_file.specs.Answers.{report_of_batch}
use Rattle.holdings_file.specs.Promises.{EntryAt, CutAt}
use Rattle.holdings_file.specs.Extents.{IsExtent, one, count_after, AddMet, refuse, refusal_in, batch_of, AddAllMet}
use Rattle.holdings_file.proofs.EntryWalks.{entry_sized, entries_next, entries_ended, entries_cut}

-- the batch b₀ is `taken` records, whose numbers are in the list, and then the batch b
pub record Ahead (list₀ : List ℕ) (b₀ : Batch) (list : List ℕ) (taken : ℕ) (b : Batch) : Type 0 where
  pub refusal : b₀.refusal ≡ b.refusal
  pub file : b₀.file ≡ b.file
  pub used : b₀.used ≡ b.used
  pub counted : length b₀.numbers ≡ taken + length b.numbers
  pub numbers : overlay 1 one list₀ 0 b₀.numbers ≡ overlay 1 one list taken b.numbers

module _ (list₀ : List ℕ) (b₀ : Batch) (list : List ℕ) (taken : ℕ) (b : Batch) (x : Ahead list₀ b₀ list taken b) where
  -- nothing is left
  ended : (file₀ file : List ℕ) (used y : ℕ) → b ≡ stopped file used y → (r : Result Taken BatchError)
      → report_of_batch r ≡ answer y taken used → AddAllMet (Accept b₀) file₀ list₀ r file list
  ended file₀ file used y e r q =
      let n : length b₀.numbers ≡ taken =
      x.counted ∙ ap (λ (z : Batch). taken + length z.numbers) e ∙ omega arith in
      let i : b₀.refusal ≡ y = x.refusal ∙ ap (λ (z : Batch). z.refusal) e in
      let u : b₀.used ≡ used = x.used ∙ ap (λ (z : Batch). z.used) e in
      record {
        answer = q ∙ (λ j. answer (sym i j) (sym n j) (sym u j));
        after = sym (x.file ∙ ap (λ (z : Batch). z.file) e);
        numbers = sym (x.numbers ∙ ap (λ (z : Batch). overlay 1 one list taken z.numbers) e
            ∙ overlay_none 1 one list taken);
      }

  -- one record more
  taken_more : (n : ℕ) (b' : Batch) → b ≡ took n b' → (list' : List ℕ) → list' ≡ put 1 one list taken n
      → Ahead list₀ b₀ list' (taken + 1) b'
  unfolding overlay
  taken_more n b' e list' q = record {
    refusal = x.refusal ∙ ap (λ (z : Batch). z.refusal) e;
    file = x.file ∙ ap (λ (z : Batch). z.file) e;
    used = x.used ∙ ap (λ (z : Batch). z.used) e;
    counted = x.counted ∙ ap (λ (z : Batch). taken + length z.numbers) e ∙ omega arith;
    numbers = x.numbers ∙ ap (λ (z : Batch). overlay 1 one list taken z.numbers) e
        ∙ (λ i. overlay 1 one (sym q i) (sym (add-one taken) i) b'.numbers);
  }

-- ---- the loop over records: those before the place p are taken
pub record Batching (file₀ : List ℕ) (used₀ : ℕ) (records list₀ file list : List ℕ) (i : Index)
    (used count p taken : ℕ) : Type 0 where
  pub few : taken ≤ p
  pub extends : IsExtent file (record { used = used; count = count }) i
  pub ahead : Ahead list₀ (additions versions file₀ used₀ (entries_in records)) list taken
      (additions versions file used (entries_in (drop p records)))

pub batching_start : (file : List ℕ) (x : Extent) (records list : List ℕ) (i : Index) → IsExtent file x i
    → Batching file x.used records list file list i x.used x.count 0 0
batching_start file x records list i e = record {
  few = omega arith;
  extends = e;
  ahead = record { refusal = refl; file = refl; used = refl; counted = omega arith; numbers = refl };
}

module _ (file₀ : List ℕ) (used₀ : ℕ) (records list₀ file list : List ℕ) (i : Index) (used count p taken : ℕ)
    (x : Batching file₀ used₀ records list₀ file list i used count p taken) where
  abbrev left : Batch
  left = additions versions file used (entries_in (drop p records))

  abbrev Met : Result Taken BatchError → List ℕ → Type 0
  Met r file' = AddAllMet (batch_of file₀ used₀ records) file₀ list₀ r file' list

  stops : (y : ℕ) → left ≡ stopped file used y → (r : Result Taken BatchError) → report_of_batch r ≡ answer y taken used
      → Met r file
  stops y e r q = ended list₀ (additions versions file₀ used₀ (entries_in records)) list taken left x.ahead
      file₀ file used y e r q

  pub batch_done : length records ≤ p → Met (Ok (record { records = taken; used = used })) file
  batch_done l = stops 0 (ap (additions versions file used) (entries_ended records p l) ∙ additions_none versions file used)
      (Ok (record { records = taken; used = used })) refl

  pub batch_cut : {r : Refused} → CutAt records p r → Met (Err (batch.Stopped r.refusal taken used)) file
  batch_cut {r} y = stops cut_entry
      (ap (additions versions file used) (entries_cut records p y.inside y.cut) ∙ additions_cut versions file used [])
      (Err (batch.Stopped r.refusal taken used))
      (ap (λ (z : Refused). answer (number_of z.refusal) taken used) y.refused)

  module _ (n : Entry) (y : EntryAt records p n) where
    abbrev m : List ℕ
    m = n.message.now

    next : entries_in (drop p records) ≡ some m ∷ entries_in (drop n.end records)
    next = entries_next y

    pub batch_refused : (e : HoldingsError) (file' : List ℕ) (i' : Index)
        → AddMet file (record { used = used; count = count }) (addition versions file used n.message.now) (Err e) file' i'
        → Met (Err (batch.Stopped (refusal_in e) taken used)) file'
    batch_refused e file' i' a =
        let g = numbered e in
        subst (λ (s : List ℕ). AddAllMet (batch_of file₀ used₀ records) file₀ list₀
        (Err (batch.Stopped (refusal_in e) taken used)) s list) (sym a.after)
        (stops (number_of (refusal_in e))
        (ap (additions versions file used) next
        ∙ additions_refused versions file used m (entries_in (drop n.end records)) (number_of (refusal_in e)) g.0 g.1
        (a.refused ∙ g.2))
        (Err (batch.Stopped (refusal_in e) taken used)) refl)
      where
        numbered : (e : HoldingsError) → (k : ℕ) × (o : ℕ) × (refuse {A = Addition} e ≡ Refuse (number_of (refusal_in e)) k o)
        numbered (holdings.Refused r) = (0, r.place, refl)
        numbered (holdings.TooFew needed) = (needed, 0, refl)

    pub batching_next : (h : Held) (file' : List ℕ) (i' : Index)
        → AddMet file (record { used = used; count = count }) (addition versions file used n.message.now) (Ok h) file' i'
        → (list' : List ℕ) → list' ≡ put 1 one list taken h.count → (count' : ℕ) → count' ≡ count_after count h.count
        → {q : ℕ} → q ≡ n.end
        → Batching file₀ used₀ records list₀ file' list' i' h.used count' q (taken + 1)
    batching_next h file' i' a list' k count' c {q} z =
        let b : left ≡ took h.count (additions versions file' h.used (entries_in (drop n.end records))) =
        ap (additions versions file used) next
        ∙ additions_taken versions file used m (entries_in (drop n.end records))
        (record { number = h.count; new = a.new }) a.accepted
        ∙ (λ j. took h.count (additions versions (sym a.after j) (sym a.grown j) (entries_in (drop n.end records)))) in
        subst (λ (j : ℕ). Batching file₀ used₀ records list₀ file' list' i' h.used count' j (taken + 1)) (sym z) (record {
          few = omega (arith, x.few, entry_sized y);
          extends = subst (λ (j : ℕ). IsExtent file' (record { used = h.used; count = j }) i') (sym c) a.extends;
          ahead = taken_more list₀ (additions versions file₀ used₀ (entries_in records)) list taken left x.ahead h.count
              (additions versions file' h.used (entries_in (drop n.end records))) b list' k;
        })

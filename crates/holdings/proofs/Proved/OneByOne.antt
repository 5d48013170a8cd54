-- Many records are added as one after the other.
use Rattle.std.specs.Prelude.{◌≡◌, refl, List, [], ◌∷◌, ◌++◌, ℕ, suc, ◌+◌, ◌^◌, ◌<◌, length}
use Rattle.std.proofs.Common.{sym, ◌∙◌, ap, ⊎_elim, arith}
use Rattle.std.proofs.Math.Option.{some}
use Rattle.flow.specs.RefusalNumbers.{no_room}
use Rattle.flow.specs.Flow.{stored, Report}
use Rattle.holdings.specs.Files.{Rules, Versions, entry_of, entries_in, Listing, Lists, Faulty}
use Rattle.holdings.specs.Answers.{Result, Accept, Refuse, answer, Addition, listing_to_extend, addition, add_report}
use Rattle.holdings.specs.Answers.{file_after, Batch, additions, batch_listed, batch_report, batch_file, AddCall}
use Rattle.holdings.specs.Answers.{AddAllCall}
use Rattle.holdings.specs.Terms.{Messages, SoundVersions, Enough}
use Rattle.holdings.proofs.EntryLaws.{entries_append, entries_one}
use Rattle.holdings.proofs.AdditionLaws.{addition_faulty, addition_accepted, with_new, addition_extends}
use Rattle.holdings.proofs.NumberLaws.{addition_numbered, not_accepted}
use Rattle.holdings.proofs.BatchLaws.{additions_refused, additions_taken}
use Rattle.holdings.specs.Theorems.{OneByOne}
use Rattle.holdings.proofs.Proved.ListCalls.{memory, with_enough, with_little}

module _ (vs : Versions) (sound : SoundVersions vs) (file : List ℕ) (used : ℕ) (m rest work bytes : List ℕ)
    (small : length m < 2 ^ 32) (one : Report) (file₁ : List ℕ) (g : AddCall vs file used m work bytes one file₁)
    (list : List ℕ) (all : Report) (file' list' : List ℕ)
    (h : AddAllCall vs file used (entry_of m ++ rest) work bytes list all file' list') where
  abbrev OfBoth : Type 0
  OfBoth = OneByOne vs file used rest work bytes one all file₁ file'

  first : entries_in (entry_of m ++ rest) ≡ some m ∷ entries_in rest
  first = entries_append (m ∷ []) (entry_of m) rest (entries_one m small)

  -- both are refused, with the same number
  both_refused : (x k p p₂ : ℕ) → (x ≡ 0 → ⊥) → one ≡ answer x k p → all ≡ answer x 0 p₂ → file' ≡ file → OfBoth
  both_refused x k p p₂ z q r f =
      let n : one.number ≡ x = ap (λ (s : Report). s.number) q in
      record {
        refused = λ e. (ap (λ (s : Report). s.number) r ∙ sym n, ap (λ (s : Report). s.count) r, f);
        taken = λ e. absurd (z (sym n ∙ e));
      }

  little : (Enough vs work bytes → ⊥) → OfBoth
  little e =
      let a = with_little vs work bytes (addition vs file used m) e in
      let batch = batch_listed vs file used (entry_of m ++ rest) (listing_to_extend vs file used) in
      let b = with_little vs work bytes batch e in
      both_refused no_room 0 0 0 (λ z. omega arith) (g.report ∙ ap (add_report used) a)
      (h.report ∙ ap batch_report b) (h.after ∙ ap (batch_file file) b)

  module _ (enough : Enough vs work bytes) where
    abbrev batch_of : Listing → Result Batch
    batch_of l = batch_listed vs file used (entry_of m ++ rest) l

    one_is : (z : Result Addition) → addition vs file used m ≡ z → one ≡ add_report used z
    one_is z e = g.report ∙ ap (add_report used) (with_enough vs work bytes (addition vs file used m) enough ∙ e)

    file_is : (z : Result Addition) → addition vs file used m ≡ z → file₁ ≡ file_after file used z
    file_is z e = g.after ∙ ap (file_after file used) (with_enough vs work bytes (addition vs file used m) enough ∙ e)

    faulty : (x p : ℕ) → listing_to_extend vs file used ≡ Faulty x p → OfBoth
    faulty x p e =
        let a = addition_faulty vs file used m x p e in
        let b = with_enough vs work bytes (batch_of (listing_to_extend vs file used)) enough ∙ ap batch_of e in
        both_refused x 0 p p (not_accepted x (addition_numbered vs file used x 0 p m a)) (one_is (Refuse x 0 p) a)
        (h.report ∙ ap batch_report b) (h.after ∙ ap (batch_file file) b)

    module _ (R : Rules) (ms : Messages) (e : listing_to_extend vs file used ≡ Lists R ms) where
      batch_is : (b : Batch) → additions vs file used (some m ∷ entries_in rest) ≡ b
          → (all ≡ batch_report (Accept b)) × (file' ≡ b.file)
      batch_is b q =
          let z = with_enough vs work bytes (batch_of (listing_to_extend vs file used)) enough ∙ ap batch_of e
          ∙ ap {B = Result Batch} Accept (ap (additions vs file used) first ∙ q) in
          (h.report ∙ ap batch_report z, h.after ∙ ap (batch_file file) z)

      go : (z : Result Addition) → addition vs file used m ≡ z → OfBoth
      go (Refuse x k p) q =
          let b = batch_is _ (additions_refused vs file used m (entries_in rest) x k p q) in
          both_refused x k p used (not_accepted x (addition_numbered vs file used x k p m q))
          (one_is (Refuse x k p) q) b.0 b.1
      go (Accept a) q = record {
        refused = λ z. absurd (z (ap (λ (s : Report). s.number) (one_is (Accept a) q)));
        taken = λ z list₂ others file₂ list₂' k.
            let x = addition_accepted vs file used m a R ms e q in
            let used₁ = used + length a.new in
            let f : file₁ ≡ stored file used a.new = file_is (Accept a) q in
            let u : one.place ≡ used₁ = ap (λ (s : Report). s.place) (one_is (Accept a) q) in
            let lists : listing_to_extend vs file₁ one.place ≡ Lists R (with_new ms x.written) =
            rw (f, u) (addition_extends vs sound R ms file used m a x).lists in
            let left = additions vs file₁ one.place (entries_in rest) in
            let c = with_enough vs work bytes
            (batch_listed vs file₁ one.place rest (listing_to_extend vs file₁ one.place)) enough
            ∙ ap (batch_listed vs file₁ one.place rest) lists in
            let b = batch_is _ (additions_taken vs file used m (entries_in rest) a q) in
            let same : additions vs (stored file used a.new) used₁ (entries_in rest) ≡ left =
            (λ i. additions vs (sym f i) (sym u i) (entries_in rest)) in
            let r : others ≡ batch_report (Accept left) = k.report ∙ ap batch_report c in (
              b.0 ∙ ap (λ (s : Batch). answer s.refusal (suc (length s.numbers)) s.used) same
                  ∙ sym (ap (λ (s : Report). answer s.number (suc s.count) s.place) r),
              b.1 ∙ ap (λ (s : Batch). s.file) same ∙ sym (k.after ∙ ap (batch_file file₁) c),
            );
      }

  pub one_by_one : OfBoth
  one_by_one = ⊎_elim (λ enough. by_file enough (listing_to_extend vs file used) refl) little (memory vs work bytes)
    where
      by_file : Enough vs work bytes → (l : Listing) → listing_to_extend vs file used ≡ l → OfBoth
      by_file enough (Faulty x p) e = faulty enough x p e
      by_file enough (Lists R ms) e = go enough R ms e (addition vs file used m) refl

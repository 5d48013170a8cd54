-- With one version, no record is beyond it.
use Rattle.std.specs.Prelude.{◌≡◌, List, [], ℕ, ◌+◌, ltb, length, take, drop}
use Rattle.std.proofs.Math.Path.{refl}
use Rattle.std.proofs.Common.{sym, ◌∙◌, ap, inl, inr, ⊎_elim, arith}
use Rattle.std.proofs.Math.Option.{Option, none, some}
use Rattle.flow.specs.RefusalNumbers.{no_room, beyond_version}
use Rattle.flow.specs.Tests.{pick_either}
use Rattle.flow.specs.Flow.{Bytes, Outcome, Done, Fault, One, items, Report}
use Rattle.wire.specs.BigEndian.{joined}
use Rattle.record.specs.Model.Items.{Item, Known}
use Rattle.record.proofs.Laws.Answering.{never}
use Rattle.holdings.specs.Files.{Rules, Versions, reads_by, shortest_by, mark_size, version_size, Listing, Lists}
use Rattle.holdings.specs.Files.{Faulty}
use Rattle.holdings.specs.Answers.{Result, Accept, Refuse, Addition, listing_to_extend, appended, added_short}
use Rattle.holdings.specs.Answers.{added_read, added_listed, addition, add_result, add_report, file_after, AddCall}
use Rattle.holdings.specs.Answers.{AddAllCall}
use Rattle.holdings.specs.Terms.{Messages, SoundVersions, Enough}
use Rattle.holdings.proofs.EntryLaws.{entries_bytes}
use Rattle.holdings.proofs.FileLaws.{newest_sound, only_version}
use Rattle.holdings.proofs.AdditionLaws.{shortest_some, Extendable, New, Old, extendable}
use Rattle.holdings.proofs.NumberLaws.{extend_numbered, reads_numbered}
use Rattle.holdings.specs.Theorems.{RecordRefused, OfAddAll, OneVersion}
use Rattle.holdings.proofs.Proved.ListCalls.{memory, with_enough, with_little}
use Rattle.holdings.proofs.Proved.AddAllCalls.{of_add_all}

module _ (vs : Versions) (sound : SoundVersions vs) (single : vs.older ≡ []) where
  -- the file's rules are the newest
  only_rules : (file : List ℕ) (used : ℕ) (R : Rules) (ms : Messages) → listing_to_extend vs file used ≡ Lists R ms
      → R ≡ vs.newest
  only_rules file used R ms e = go (extendable vs file used R ms e)
    where
      go : Extendable vs file used R ms → R ≡ vs.newest
      go (New z q n) = q
      go (Old h l x) =
          only_version vs single (joined 0 (take version_size (drop mark_size (take used file)))) R x.version

  module _ (file : List ℕ) (used : ℕ) (m : List ℕ) (b : Bytes m) (k p : ℕ) where
    by_room : (ms : Messages) (o : Option (List ℕ)) (w : List ℕ) → o ≡ some w
        → added_short vs file used ms o ≡ Refuse beyond_version k p → ⊥
    by_room ms none w e = λ h. never cc
    by_room ms (some v) w e = pick_either (λ (z : Result Addition). z ≡ Refuse beyond_version k p → ⊥)
        (ltb (length file) (used + length (appended vs used ms v)))
        (λ t h. let q : no_room ≡ beyond_version = cc in omega arith)
        (λ t h. never cc)

    by_record : (R : Rules) (ms : Messages) → R ≡ vs.newest → (o : Outcome Known Item One)
        → reads_by vs.newest m ≡ o → added_read vs file used R ms o ≡ Refuse beyond_version k p → ⊥
    by_record R ms q (Fault x o) e h =
        let z : x ≡ beyond_version = cc in omega (arith, (reads_numbered vs.newest m x o e).1)
    by_record R ms q (Done n u es c) e h =
        let s = shortest_some vs.newest (newest_sound vs sound) m b n es c e in
        by_room ms (shortest_by R (items es)) s.0 (rw q s.1) h

    never_beyond : addition vs file used m ≡ Refuse beyond_version k p → ⊥
    unfolding addition
    never_beyond = go (listing_to_extend vs file used) refl
      where
        go : (l : Listing) → listing_to_extend vs file used ≡ l
            → added_listed vs file used m l ≡ Refuse beyond_version k p → ⊥
        go (Faulty x o) e h =
            let z : x ≡ beyond_version = cc in omega (arith, (extend_numbered vs file used x o e).1)
        go (Lists R ms) e h = by_record R ms (only_rules file used R ms e) (reads_by vs.newest m) refl h

  add_never : (file : List ℕ) (used : ℕ) (m work bytes : List ℕ) → Bytes m → (r : Report) (file' : List ℕ)
      → AddCall vs file used m work bytes r file' → r.number ≡ beyond_version → ⊥
  add_never file used m work bytes b r file' g n = ⊎_elim
      (λ enough. go (addition vs file used m) refl
      (g.report ∙ ap (add_report used) (with_enough vs work bytes (addition vs file used m) enough)))
      (λ h.
      let q = g.report ∙ ap (add_report used) (with_little vs work bytes (addition vs file used m) h) in
      omega (arith, ap (λ (z : Report). z.number) q))
      (memory vs work bytes)
    where
      go : (z : Result Addition) → addition vs file used m ≡ z → r ≡ add_report used z → ⊥
      go (Accept a) e q = omega (arith, ap (λ (z : Report). z.number) q)
      go (Refuse x k p) e q =
          let z : x ≡ beyond_version = sym (ap (λ (z : Report). z.number) q) ∙ n in
          never_beyond file used m b k p (e ∙ ap (λ (y : ℕ). Refuse y k p) z)

  add_all_never : (file : List ℕ) (used : ℕ) (records work bytes list : List ℕ) → Bytes records
      → (r : Report) (file' list' : List ℕ)
      → AddAllCall vs file used records work bytes list r file' list' → r.number ≡ beyond_version → ⊥
  add_all_never file used records work bytes list b r file' list' g n = ⊎_elim
      (λ enough. go enough (listing_to_extend vs file used) refl)
      (λ h. omega (arith, ap (λ (z : Report). z.number) (of.little_memory h).0))
      (memory vs work bytes)
    where
      of : OfAddAll vs file used records work bytes list r file' list'
      of = of_add_all vs sound file used records list r file' list' work bytes g

      refused : Enough vs work bytes → RecordRefused vs records r.count r.number file' r.place → ⊥
      refused enough (inl h) = omega (arith, h.1)
      refused enough (inr (m, e, h)) =
          let z = add_result vs file' r.place m work bytes in
          let call : AddCall vs file' r.place m work bytes (add_report r.place z) (file_after file' r.place z) =
          record { report = refl; after = refl } in
          add_never file' r.place m work bytes (entries_bytes records b r.count m e)
          (add_report r.place z) (file_after file' r.place z) call
          ((h work bytes enough (add_report r.place z) (file_after file' r.place z) call).0 ∙ n)

      go : Enough vs work bytes → (l : Listing) → listing_to_extend vs file used ≡ l → ⊥
      go enough (Lists R ms) e = refused enough ((of.checked enough R ms e).next (λ z. omega arith))
      go enough (Faulty x p) e = omega (
        arith,
        ap (λ (z : Report). z.number) (of.faulty_file enough x p e).0,
        (extend_numbered vs file used x p e).1,
      )

pub one_version : OneVersion
one_version vs sound single = record {
  adding = add_never vs sound single;
  adding_all = add_all_never vs sound single;
}

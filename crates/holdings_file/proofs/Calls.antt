-- What the contracts of src/lib.rt ask at each way out.
use mathlib.Core.Path.{◌≡◌, refl, sym, ◌∙◌, ap, subst}
use mathlib.Core.Bool.{Bool, true, false, ◌||◌, not}
use mathlib.Core.List.{List, []}
use Prim.Native.Nat.{ℕ, ◌/◌, ◌≤◌, ◌<◌}
use native.Mathlib.Omega.{arith}
use lib.Dec.{eqb, ltb}
use lib.ListN.{length, take}
use lib.Seq.{length-take-le}
use borrow.Author.Tests.{lt-ltb, le-ltb, ne_eqb}
use Rattle.std.specs.Prelude.{Result, Ok, Err}
use Rattle.flow.specs.RefusalNumbers.{no_room, cut_entry}
use Rattle.flow.specs.Tests.{pick_true, pick_false}
use Rattle.flow.specs.Flow.{pick, Report}
use Rattle.record.specs.Model.Answers.{base, as_numbers, lent_rows}
use Rattle.scalar.specs.Refusals.{number_of as number_of_refusal}
use Rattle.scalar.specs.declared.refusals.Refusal.TheVariants as refusal
use Rattle.scalar.specs.declared.refusals.Refused.{Refused}
use Rattle.holdings.specs.Files.{versions, Listing, Lists, Faulty, listing_of, listing}
use Rattle.holdings.specs.Answers as given
use Rattle.holdings.specs.Answers.{Accept, Refuse, answer, with_working, ListLayout, listed_to, list_result, list_report}
use Rattle.holdings.specs.Answers.{list_after, Addition, listing_to_extend, added_listed, addition, add_result, add_report}
use Rattle.holdings.specs.Answers.{file_after, Batch, batch_listed, batch_result, batch_report, batch_file, batch_numbers}
use Rattle.holdings.specs.Answers.{ListCall, AddCall, AddAllCall}
use Rattle.holdings.specs.Terms.{Messages}
use Rattle.holdings_file.specs.declared.additions.Extent.{Extent}
use Rattle.holdings_file.specs.declared.index.Index.{Index}
use Rattle.holdings_file.specs.declared.Held.{Held}
use Rattle.holdings_file.specs.declared.HoldingsError.{HoldingsError}
use Rattle.holdings_file.specs.declared.HoldingsError.TheVariants as holdings
use Rattle.holdings_file.specs.declared.Taken.{Taken}
use Rattle.holdings_file.specs.declared.BatchError.{BatchError}
use Rattle.holdings_file.specs.declared.BatchError.TheVariants as batch
use Rattle.holdings_file.specs.Answers.{report, report_of_batch}
use Rattle.holdings_file.specs.Promises.{held_in, newest_rules, is_lent, UsedMet, listing_opened, filled_by}
use Rattle.holdings_file.specs.Index.{Listed, CheckMet}
use Rattle.holdings_file.specs.Extents.{IsExtent, AddMet, batch_of, AddAllMet}

-- ---- working memory
not_turned : (b : Bool) → not b ≡ false → b ≡ true
not_turned true h = refl
not_turned false h = cc

not_turned_back : (b : Bool) → not b ≡ true → b ≡ false
not_turned_back true h = cc
not_turned_back false h = refl

module _ (rows bytes : List ℕ) {A : Type 0} (a : given.Result A) where
  abbrev few : Bool
  few = ltb (lent_rows as_numbers rows) base.longest || ltb (length bytes) base.longest

  working_few : false ≡ is_lent rows bytes → with_working versions rows bytes a ≡ Refuse no_room 0 0
  working_few h = pick_true _ _ (not_turned few (sym h))

  working_lent : true ≡ is_lent rows bytes → with_working versions rows bytes a ≡ a
  working_lent h = pick_false _ _ (not_turned_back few (sym h))

-- ---- a buffer and its used length
module _ (file : List ℕ) (used : ℕ) where
  listing_beyond : (r : Refused) → UsedMet (length file) used (Err r)
      → listing versions file used ≡ Faulty (number_of_refusal r.refusal) r.place
  unfolding listing
  listing_beyond r u = pick_true _ _ (lt-ltb (length file) used u.0)
      ∙ ap (λ (z : Refused). Faulty (number_of_refusal z.refusal) z.place) (sym u.1)

  listing_within : (k : ℕ) → UsedMet (length file) used (Ok k) → listing versions file used ≡ listing_of versions (take k file)
  unfolding listing
  listing_within k u = pick_false _ _ (le-ltb (length file) used u.1)
      ∙ ap (λ (n : ℕ). listing_of versions (take n file)) (sym u.0)

  extend_beyond : (r : Refused) → UsedMet (length file) used (Err r)
      → listing_to_extend versions file used ≡ Faulty (number_of_refusal r.refusal) r.place
  extend_beyond r u = pick_false _ _ (ne_eqb used 0 (λ z. omega (arith, u.0))) ∙ listing_beyond r u

  extend_within : (k : ℕ) → UsedMet (length file) used (Ok k)
      → listing_to_extend versions file used ≡ listing_opened (take k file)
  extend_within k u =
      let n : used ≡ length (take k file) = omega (arith, u, length-take-le k file (omega (arith, u))) in
      (λ i. pick (eqb (n i) 0) (Lists newest_rules []) (listing versions file used))
      ∙ ap (pick (eqb (length (take k file)) 0) (Lists newest_rules [])) (listing_within k u)

-- ---- listing
module _ (L : ListLayout) (file : List ℕ) (used : ℕ) (rows bytes list : List ℕ) where
  abbrev Called : Report → List ℕ → Type 0
  Called r list' = ListCall versions L file used rows bytes list r list'

  -- by what the result is
  listed_as : (a : given.Result Messages) → list_result versions L file used rows bytes list ≡ a → (r : Report)
      → r ≡ list_report used a → (list' : List ℕ) → list' ≡ list_after L list a → Called r list'
  listed_as a e r q list' s = record {
    report = q ∙ ap (list_report used) (sym e);
    after = s ∙ ap (list_after L list) (sym e);
  }

  pub list_unlent : false ≡ is_lent rows bytes
      → ListCall versions L file used rows bytes list (report (Err (holdings.TooFew 0))) list
  list_unlent h = listed_as (Refuse no_room 0 0)
      (working_few rows bytes (listed_to (length list / L.width) (listing versions file used)) h)
      (answer no_room 0 0) refl list refl

  module _ (h : true ≡ is_lent rows bytes) where
    found : (l : Listing) → listing versions file used ≡ l
        → list_result versions L file used rows bytes list ≡ listed_to (length list / L.width) l
    found l e = working_lent rows bytes (listed_to (length list / L.width) (listing versions file used)) h
        ∙ ap (listed_to (length list / L.width)) e

    list_refused : (r : Refused) → listing versions file used ≡ Faulty (number_of_refusal r.refusal) r.place
        → Called (report (Err (holdings.Refused r))) list
    list_refused r e = listed_as (Refuse (number_of_refusal r.refusal) 0 r.place)
        (found (Faulty (number_of_refusal r.refusal) r.place) e)
        (answer (number_of_refusal r.refusal) 0 r.place) refl list refl

    pub list_beyond : (r : Refused) → UsedMet (length file) used (Err r)
        → ListCall versions L file used rows bytes list (report (Err (holdings.Refused r))) list
    list_beyond r u = list_refused r (listing_beyond file used r u)

    module _ (k : ℕ) (u : UsedMet (length file) used (Ok k)) where
      pub list_faulty : (r : Refused) (x : Index) → CheckMet (listing_of versions (take k file)) (take k file) (Err r) x
          → ListCall versions L file used rows bytes list (report (Err (holdings.Refused r))) list
      list_faulty r x c = list_refused r (listing_within file used k u ∙ c)

      module _ (n : ℕ) (x : Index) (c : Listed (listing_of versions (take k file)) (take k file) n x) where
        abbrev ms : Messages
        ms = held_in (take k file)

        lists : list_result versions L file used rows bytes list
            ≡ listed_to (length list / L.width) (Lists newest_rules ms)
        lists = found (Lists newest_rules ms) (listing_within file used k u ∙ c.lists)

        pub list_few : length list / L.width < n
            → ListCall versions L file used rows bytes list (report (Err (holdings.TooFew n))) list
        list_few l = listed_as (Refuse no_room (length ms) 0)
            (lists ∙ pick_true _ _ (lt-ltb (length list / L.width) (length ms) (omega (arith, c.count))))
            (answer no_room n 0) (ap (λ (j : ℕ). answer no_room j 0) c.count) list refl

        pub list_all : n ≤ length list / L.width → (list' : List ℕ) → list' ≡ filled_by L (take k file) list
            → ListCall versions L file used rows bytes list (report (Ok (record { count = n; used = k }))) list'
        list_all l list' q = listed_as (Accept ms)
            (lists ∙ pick_false _ _ (le-ltb (length list / L.width) (length ms) (omega (arith, c.count))))
            (answer 0 n k) (λ i. answer 0 (c.count i) (u.0 i)) list' q

-- ---- adding
module _ (file : List ℕ) (used : ℕ) (k : ℕ) (u : UsedMet (length file) used (Ok k)) where
  -- a file whose entries are all taken can be added to
  pub extended_file : (n : ℕ) (x : Index) → Listed (listing_opened (take k file)) (take k file) n x
      → IsExtent file (record { used = k; count = n }) x
  extended_file n x c = record {
    within = omega (arith, u);
    lists = ap (listing_to_extend versions file) u.0 ∙ extend_within file used k u ∙ c.lists;
    count = c.count;
    indexing = c.indexing;
  }

module _ (file : List ℕ) (used : ℕ) (m rows bytes : List ℕ) where
  -- by what the result is
  added_as : (a : given.Result Addition) → add_result versions file used m rows bytes ≡ a → (r : Report)
      → r ≡ add_report used a → (file' : List ℕ) → file' ≡ file_after file used a
      → AddCall versions file used m rows bytes r file'
  added_as a e r q file' s = record {
    report = q ∙ ap (add_report used) (sym e);
    after = s ∙ ap (file_after file used) (sym e);
  }

  pub add_unlent : false ≡ is_lent rows bytes
      → AddCall versions file used m rows bytes (report (Err (holdings.TooFew 0))) file
  add_unlent h = added_as (Refuse no_room 0 0) (working_few rows bytes (addition versions file used m) h)
      (answer no_room 0 0) refl file refl

  module _ (h : true ≡ is_lent rows bytes) where
    add_refused : (r : Refused) → listing_to_extend versions file used ≡ Faulty (number_of_refusal r.refusal) r.place
        → AddCall versions file used m rows bytes (report (Err (holdings.Refused r))) file
    unfolding addition
    add_refused r e = added_as (Refuse (number_of_refusal r.refusal) 0 r.place)
        (working_lent rows bytes (addition versions file used m) h ∙ ap (added_listed versions file used m) e)
        (answer (number_of_refusal r.refusal) 0 r.place) refl file refl

    pub add_beyond : (r : Refused) → UsedMet (length file) used (Err r)
        → AddCall versions file used m rows bytes (report (Err (holdings.Refused r))) file
    add_beyond r u = add_refused r (extend_beyond file used r u)

    module _ (k : ℕ) (u : UsedMet (length file) used (Ok k)) where
      pub add_faulty : (r : Refused) (x : Index) → CheckMet (listing_opened (take k file)) (take k file) (Err r) x
          → AddCall versions file used m rows bytes (report (Err (holdings.Refused r))) file
      add_faulty r x c = add_refused r (extend_within file used k u ∙ c)

      pub add_within : (n : ℕ) (r : Result Held HoldingsError) (file' : List ℕ) (x : Index)
          → AddMet file (record { used = k; count = n }) (addition versions file k m) r file' x
          → AddCall versions file used m rows bytes (report r) file'
      add_within n r file' x a = go r (subst (λ (j : ℕ). AddMet file (record { used = j; count = n })
          (addition versions file j m) r file' x) u.0 a)
        where
          is : (b : given.Result Addition) → addition versions file used m ≡ b → add_result versions file used m rows bytes ≡ b
          is b e = working_lent rows bytes (addition versions file used m) h ∙ e

          go : (r : Result Held HoldingsError)
              → AddMet file (record { used = used; count = n }) (addition versions file used m) r file' x
              → AddCall versions file used m rows bytes (report r) file'
          go (Ok o) y = added_as (Accept (record { number = o.count; new = y.new }))
              (is (Accept (record { number = o.count; new = y.new })) y.accepted)
              (answer 0 o.count o.used) (ap (answer 0 o.count) y.grown) file' y.after
          go (Err (holdings.Refused z)) y = added_as (Refuse (number_of_refusal z.refusal) 0 z.place)
              (is (Refuse (number_of_refusal z.refusal) 0 z.place) y.refused)
              (answer (number_of_refusal z.refusal) 0 z.place) refl file' y.after
          go (Err (holdings.TooFew z)) y = added_as (Refuse no_room z 0) (is (Refuse no_room z 0) y.refused)
              (answer no_room z 0) refl file' y.after

-- many records
module _ (file : List ℕ) (used : ℕ) (records rows bytes list : List ℕ) where
  -- by what the result is
  all_added_as : (a : given.Result Batch) → batch_result versions file used records rows bytes ≡ a
      → (r : Result Taken BatchError) (file' list' : List ℕ) → AddAllMet a file list r file' list'
      → AddAllCall versions file used records rows bytes list (report_of_batch r) file' list'
  all_added_as a e r file' list' x = record {
    report = x.answer ∙ ap batch_report (sym e);
    after = x.after ∙ ap (batch_file file) (sym e);
    numbers = x.numbers ∙ ap (batch_numbers list) (sym e);
  }

  pub batch_unlent : false ≡ is_lent rows bytes → AddAllCall versions file used records rows bytes list
      (report_of_batch (Err (batch.Refused (record { refusal = refusal.Room; place = 0 })))) file list
  batch_unlent h = all_added_as (Refuse no_room 0 0)
      (working_few rows bytes (batch_listed versions file used records (listing_to_extend versions file used)) h)
      (Err (batch.Refused (record { refusal = refusal.Room; place = 0 }))) file list
      (record { answer = refl; after = refl; numbers = refl })

  module _ (h : true ≡ is_lent rows bytes) where
    found_all : (l : Listing) → listing_to_extend versions file used ≡ l
        → batch_result versions file used records rows bytes ≡ batch_listed versions file used records l
    found_all l e =
        working_lent rows bytes (batch_listed versions file used records (listing_to_extend versions file used)) h
        ∙ ap (batch_listed versions file used records) e

    batch_refused : (r : Refused) → listing_to_extend versions file used ≡ Faulty (number_of_refusal r.refusal) r.place
        → AddAllCall versions file used records rows bytes list (report_of_batch (Err (batch.Refused r))) file list
    batch_refused r e = all_added_as (Refuse (number_of_refusal r.refusal) 0 r.place)
        (found_all (Faulty (number_of_refusal r.refusal) r.place) e) (Err (batch.Refused r)) file list
        (record { answer = refl; after = refl; numbers = refl })

    pub batch_beyond : (r : Refused) → UsedMet (length file) used (Err r)
        → AddAllCall versions file used records rows bytes list (report_of_batch (Err (batch.Refused r))) file list
    batch_beyond r u = batch_refused r (extend_beyond file used r u)

    module _ (k : ℕ) (u : UsedMet (length file) used (Ok k)) where
      pub batch_faulty : (r : Refused) (x : Index) → CheckMet (listing_opened (take k file)) (take k file) (Err r) x
          → AddAllCall versions file used records rows bytes list (report_of_batch (Err (batch.Refused r))) file list
      batch_faulty r x c = batch_refused r (extend_within file used k u ∙ c)

      pub batch_within : (n : ℕ) (x : Index) → Listed (listing_opened (take k file)) (take k file) n x
          → (r : Result Taken BatchError) (file' list' : List ℕ) → AddAllMet (batch_of file k records) file list r file' list'
          → AddAllCall versions file used records rows bytes list (report_of_batch r) file' list'
      batch_within n x c r file' list' a = all_added_as (batch_of file used records)
          (found_all (Lists newest_rules (held_in (take k file))) (extend_within file used k u ∙ c.lists)) r file' list'
          (subst (λ (j : ℕ). AddAllMet (batch_of file j records) file list r file' list') u.0 a)

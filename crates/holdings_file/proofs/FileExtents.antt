-- What the contracts of src/additions.rt ask where a record is added.
use mathlib.Core.Path.{◌≡◌, refl, sym, ◌∙◌, ap, subst}
use mathlib.Core.List.{List, [], ◌∷◌, ◌++◌}
use Prim.Native.Nat.{ℕ, ◌+◌, ◌-◌, ◌≤◌, ◌<◌}
use native.Mathlib.Omega.{arith}
use lib.ListN.{length, take, drop, length-append}
use lib.Seq.{length-take-le}
use borrow.Author.Tests.{lt-ltb, le-ltb}
use Rattle.std.specs.Prelude.{Result, Ok, Err}
use Rattle.flow.specs.Tests.{pick_true, pick_false}
use Rattle.flow.specs.OverlayLaws.{stored_sets, length_stored}
use Rattle.flow.specs.Flow.{items, stored, Fault}
use Rattle.flow.specs.RefusalNumbers.{no_room}
use Rattle.scalar.specs.Refusals.{number_of as number_of_refusal}
use Rattle.scalar.specs.declared.refusals.Refused.{Refused}
use Rattle.holdings.specs.Files.{versions, header_size, entry_of, reads_by, entries_in, Lists, number_of}
use Rattle.holdings.specs.Answers as given
use Rattle.holdings.specs.Answers.{Accept, Refuse, Addition, begun, listing_to_extend, appended, with_room}
use Rattle.holdings.specs.Answers.{added_short, added_read, addition, file_after}
use Rattle.holdings.specs.Terms.{Messages}
use Rattle.holdings.specs.EntryLaws.{wholes}
use Rattle.holdings.proofs.EntryLaws.{entries_none, no_fault}
use Rattle.holdings.proofs.FileLaws.{versions_sound, newest_sound, Listed, within_listing, stored_front}
use Rattle.holdings.proofs.AdditionLaws.{shortest_faultless, Extendable, New, Old, extendable, extend_listed}
use Rattle.holdings.proofs.AdditionLaws.{extend_more, addition_listed}
use Rattle.holdings_file.specs.declared.additions.Extent.{Extent}
use Rattle.holdings_file.specs.declared.index.Index.{Index}
use Rattle.holdings_file.specs.declared.Held.{Held}
use Rattle.holdings_file.specs.declared.HoldingsError.{HoldingsError}
use Rattle.holdings_file.specs.declared.HoldingsError.TheVariants as holdings
use Rattle.holdings_file.specs.Promises.{held_in, newest_rules, ShortIn, Appended}
use Rattle.holdings_file.specs.Index.{Indexing, Whole, WholeIndexed, Fresh}
use Rattle.holdings_file.specs.Extents.{held_used, IsExtent, ShortMessage, count_after, AddMet, placed}
use Rattle.holdings_file.proofs.EntryWalks.{held_wholes, held_few}
use Rattle.holdings_file.proofs.Stores.{count_old, count_new}

-- ---- a message placed in a file that can be added to
extent_whole : (file : List ℕ) (x : Extent) (i : Index) → IsExtent file x i → Whole (take x.used file)
extent_whole file x i e = go (extendable versions file x.used newest_rules (held_used file x.used) e.lists)
  where
    go : Extendable versions file x.used newest_rules (held_used file x.used) → Whole (take x.used file)
    go (New z q n) =
        let t : entries_in (drop header_size (take x.used file)) ≡ [] =
        ap (λ (k : ℕ). entries_in (drop header_size (take k file))) z ∙ entries_none in
        t ∙ ap wholes (sym n)
    go (Old h l y) = y.entries

module _ (file : List ℕ) (x : Extent) (i : Index) (e : IsExtent file x i) where
  abbrev used : ℕ
  used = x.used

  abbrev ms : Messages
  ms = held_used file x.used

  pub extent_indexed : WholeIndexed (take x.used file) x.count i
  extent_indexed = record { whole = extent_whole file x i e; count = e.count; indexing = e.indexing }

  -- no more entries than bytes
  pub extent_few : x.count ≤ length file - header_size
  extent_few = omega (
    arith,
    e.count,
    held_few (take x.used file),
    length-take-le x.used file
        e.within,
    e.within,
  )

  module _ (w : List ℕ) (s : ShortMessage w) (n : ℕ) (q : n ≡ number_of w ms) where
    abbrev new : List ℕ
    new = begun versions used ++ entry_of w

    pub place_found : n < x.count → AddMet file x (placed file x w) (Ok (record { count = n; used = x.used })) file i
    place_found h =
        let c = e.count in
        let a : appended versions used ms w ≡ [] = pick_true _ _ (lt-ltb (number_of w ms) (length ms) (omega arith)) in
        let same : x.count ≡ count_after x.count n = count_old x.count n h in
        record {
          new = [];
          accepted =
              (λ t. with_room file used (record { number = sym q t; new = a t }))
              ∙ pick_false _ _ (le-ltb (length file) (used + 0) (omega (arith, e.within)));
          grown = omega arith;
          after = sym (stored_sets file used [] (omega (arith, e.within)));
          extends = subst (λ (v : Extent). IsExtent file v i) (λ t. record { used = used; count = same t }) e;
        }

    module _ (h : x.count ≤ n) where
      new_is : appended versions used ms w ≡ new
      new_is = pick_false _ _ (le-ltb (number_of w ms) (length ms) (omega (arith, e.count)))

      pub place_few : (o : HoldingsError) (file' : List ℕ) → Appended file x.used w (Err o) file' → (i' : Index)
          → AddMet file x (placed file x w) (Err o) file' i'
      place_few o file' y i' = subst (λ (z : HoldingsError). AddMet file x (placed file x w) (Err z) file' i') (sym y.needed)
          (record {
            refused =
                ap (λ (v : List ℕ). with_room file used (record { number = number_of w ms; new = v })) new_is
                ∙ pick_true _ _ (lt-ltb (length file) (used + length new) y.short);
            after = y.after;
          })

      module _ (end : ℕ) (file' : List ℕ) (y : Appended file x.used w (Ok end) file') where
        as_long : length file' ≡ length file
        as_long = ap length y.after ∙ length_stored file used new

        end_within : end ≤ length file'
        end_within = omega (arith, y.ends, y.fits, as_long)

        front : take end file' ≡ take used file ++ new
        front = (λ t. take (y.ends t) (y.after t)) ∙ stored_front file used new y.fits

        not_held : length ms ≤ number_of w ms
        not_held = omega (arith, e.count)

        grown : Listed versions (take end file') newest_rules (ms ++ (w ∷ []))
        grown = subst (λ (f : List ℕ). Listed versions f newest_rules (ms ++ (w ∷ []))) (sym front)
            (extend_more versions file used newest_rules ms e.lists versions_sound w (s.faultless ms not_held)
            (omega (arith, s.small)))

        held_grown : held_used file' end ≡ ms ++ (w ∷ [])
        held_grown = held_wholes (take end file') (ms ++ (w ∷ [])) grown.entries

        pub place_fresh : Fresh (take end file') w x.count i
        place_fresh = record {
          before = ms;
          entries = grown.entries;
          long = omega (
            arith,
            y.ends,
            length-append (begun versions used) (entry_of w),
            length-take-le end file' end_within,
          );
          number = e.count;
          new = not_held;
          indexing = e.indexing;
        }

        pub place_new : (i' : Index) → Indexing i' (held_in (take end file'))
            → AddMet file x (placed file x w) (Ok (record { count = n; used = end })) file' i'
        place_new i' idx =
            let c = e.count in
            let lists : listing_to_extend versions file' end ≡ Lists newest_rules (held_used file' end) =
            extend_listed versions file' end newest_rules (ms ++ (w ∷ []))
            (within_listing versions file' end newest_rules (ms ++ (w ∷ [])) end_within grown)
            ∙ ap (Lists newest_rules) (sym held_grown) in
            record {
              new = new;
              accepted =
                  (λ t. with_room file used (record { number = sym q t; new = new_is t }))
                  ∙ pick_false _ _ (le-ltb (length file) (used + length new) y.fits);
              grown = y.ends;
              after = y.after;
              extends = record {
                within = end_within;
                lists = lists;
                count = sym (count_new x.count n h) ∙ omega (arith, ap length held_grown, length-append ms (w ∷ []));
                indexing = idx;
              };
            }

-- ---- a record added
module _ (file : List ℕ) (x : Extent) (i : Index) (e : IsExtent file x i) (m : List ℕ) where
  reading : addition versions file x.used m
      ≡ added_read versions file x.used newest_rules (held_used file x.used) (reads_by newest_rules m)
  reading = addition_listed versions file x.used newest_rules (held_used file x.used) e.lists m

  pub add_refused : (r : Refused) → reads_by newest_rules m ≡ Fault (number_of_refusal r.refusal) r.place → (i' : Index)
      → AddMet file x (addition versions file x.used m) (Err (holdings.Refused r)) file i'
  add_refused r q i' = record {
    refused = reading ∙ ap (added_read versions file x.used newest_rules (held_used file x.used)) q;
    after = refl;
  }

  module _ (n : ℕ) (bytes : List ℕ) (y : ShortIn m n bytes) where
    pub short_message : ShortMessage (take n bytes)
    short_message = record {
      small = omega (arith, y.bounded, length-take-le n bytes y.fits);
      faultless = λ before h. no_fault newest_rules before (take n bytes)
          (shortest_faultless newest_rules (items y.shortens.entries) (take n bytes)
          (newest_sound versions versions_sound) y.shortens.short before h);
    }

    pub add_placed : (r : Result Held HoldingsError) (file' : List ℕ) (i' : Index)
        → AddMet file x (placed file x (take n bytes)) r file' i'
        → AddMet file x (addition versions file x.used m) r file' i'
    add_placed r file' i' z =
        let g : placed file x (take n bytes) ≡ addition versions file x.used m = sym (reading
        ∙ ap (added_read versions file x.used newest_rules (held_used file x.used)) y.shortens.accepted
        ∙ ap (added_short versions file x.used (held_used file x.used)) y.shortens.short) in
        subst (λ (o : given.Result Addition). AddMet file x o r file' i') g z

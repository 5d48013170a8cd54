-- What the contracts of src/pairs.rt and src/additions.rt ask where something is stored.
use mathlib.Core.Path.{◌≡◌, refl, sym, ◌∙◌, ap, subst}
use mathlib.Core.List.{List, [], ◌∷◌, ◌++◌}
use Prim.Native.Nat.{ℕ, suc, ◌+◌, ◌*◌, ◌/◌, ◌≤◌, ◌<◌}
use native.Mathlib.Omega.{arith}
use Rattle.std.proofs.Common.{zero-add}
use lib.ListN.{length, take, drop, set, length-append}
use lib.Seq.{drop-drop}
use borrow.Rule.Slice.PartMut.{put_mid}
use borrow.Author.Tests.{le-leb, lt-ltb, le-ltb, eq-eqb, ne_eqb}
use Rattle.std.specs.Prelude.{Result, Ok, Err}
use Rattle.flow.specs.Tests.{pick_true, pick_false}
use Rattle.flow.specs.OverlayLaws.{stored_sets, stored_out, stored_seam, length_stored}
use Rattle.flow.specs.Flow.{stored, put}
use Rattle.wire.specs.BigEndian.{be}
use Rattle.holdings.specs.Files.{versions, mark, mark_size, version_size, header_size, length_size, header, newest_version}
use Rattle.holdings.specs.Files.{entry_of}
use Rattle.holdings.specs.Answers.{placement, as_pairs, as_pair_bytes, begun}
use Rattle.holdings_file.specs.declared.HoldingsError.{HoldingsError}
use Rattle.holdings_file.specs.declared.HoldingsError.TheVariants as holdings
use Rattle.holdings_file.specs.Promises.{StoredTo, Unstored, Stored, EntryStored, Appended}
use Rattle.holdings_file.specs.Extents.{count_after, one}

-- ---- a part of a slice copied
module _ (l part new : List ℕ) (q : part ≡ new) where
  pub copied : (at k : ℕ) → k ≡ length new → at + k ≤ length l → put_mid at k l part ≡ stored l at new
  unfolding stored
  copied at k e h =
      (λ i. take at l ++ (q i ++ drop-drop k at l i))
      ∙ ap (λ (n : ℕ). take at l ++ (new ++ drop (at + n) l)) e
      ∙ sym (pick_true (take at l ++ (new ++ drop (at + length new) l)) l (le-leb (at + length new) (length l) (omega arith)))

  pub copied_front : (k : ℕ) → k ≡ length new → k ≤ length l → part ++ drop k l ≡ stored l 0 new
  unfolding stored
  copied_front k e h =
      (λ i. q i ++ drop (e i) l)
      ∙ ap (λ (n : ℕ). new ++ drop n l) (sym (zero-add (length new)))
      ∙ sym (pick_true (new ++ drop (0 + length new) l) l (le-leb (0 + length new) (length l) (omega arith)))

-- ---- placements
module _ (t : List ℕ) (k p n : ℕ) where
  pub pair_out : length t / 2 ≤ k → t ≡ put as_pairs.width as_pairs.encode t k (placement p n)
  unfolding put
  pair_out h = sym (stored_out t (k * 2) (p ∷ n ∷ []) (omega arith))

  pub pair_in_law : k < length t / 2
      → set (set t (k * 2) p) (k * 2 + 1) n ≡ put as_pairs.width as_pairs.encode t k (placement p n)
  unfolding put
  pair_in_law h =
      let e : k * 2 + 1 ≡ suc (k * 2) = omega arith in
      rw e (sym (stored_sets t (k * 2) (p ∷ n ∷ []) (omega arith)))

  pub bytes_out : length t / 16 ≤ k → t ≡ put as_pair_bytes.width as_pair_bytes.encode t k (placement p n)
  unfolding put
  bytes_out h = sym (stored_out t (k * 16) (be 8 p ++ be 8 n) (omega arith))

  pub bytes_in : k < length t / 16 → (t₁ t₂ : List ℕ) → t₁ ≡ stored t (k * 16) (be 8 p)
      → t₂ ≡ stored t₁ (k * 16 + 8) (be 8 n) → t₂ ≡ put as_pair_bytes.width as_pair_bytes.encode t k (placement p n)
  unfolding put
  bytes_in h t₁ t₂ e₁ e₂ =
      e₂ ∙ ap (λ (s : List ℕ). stored s (k * 16 + 8) (be 8 n)) e₁
      ∙ stored_seam t (k * 16) (be 8 p) (be 8 n) (omega arith)

-- ---- numbers
module _ (k n : ℕ) where
  pub count_old : n < k → k ≡ count_after k n
  count_old l = sym (pick_true k (k + 1) (lt-ltb n k l))

  pub count_new : k ≤ n → k + 1 ≡ count_after k n
  count_new l = sym (pick_false k (k + 1) (le-ltb n k l))

module _ (t : List ℕ) (k n : ℕ) where
  pub number_out : length t ≤ k → t ≡ put 1 one t k n
  unfolding put
  number_out h = sym (stored_out t (k * 1) (one n) (omega arith))

  pub number_in : k < length t → set t k n ≡ put 1 one t k n
  unfolding put
  number_in h =
      let e : k * 1 ≡ k = omega arith in
      rw e (sym (stored_sets t k (one n) (omega arith)))

-- ---- an entry stored
module _ (l : List ℕ) (at : ℕ) (m : List ℕ) where
  pub entry_out : length l < at + length_size + length m
      → EntryStored l at m (Err (holdings.TooFew (at + length_size + length m))) l
  entry_out h = record {
    needed = ap holdings.TooFew (omega arith);
    short = omega arith;
    after = refl;
  }

  pub entry_in : at + length_size + length m ≤ length l → (l₁ l₂ : List ℕ) → l₁ ≡ stored l at (be length_size (length m))
      → l₂ ≡ stored l₁ (at + length_size) m → EntryStored l at m (Ok (at + length_size + length m)) l₂
  entry_in h l₁ l₂ e f = record {
    ends = omega arith;
    fits = omega arith;
    after =
        f
        ∙ ap (λ (s : List ℕ). stored s (at + length_size) m) e
        ∙ stored_seam l at (be length_size (length m)) m (omega arith);
  }

-- ---- behind the used bytes
module _ (l : List ℕ) (used : ℕ) (m : List ℕ) where
  pub append_old : (used ≡ 0 → ⊥) → (r : Result ℕ HoldingsError) (l' : List ℕ) → EntryStored l used m r l'
      → Appended l used m r l'
  append_old z r l' x = subst (λ (s : List ℕ). Stored l used s r l')
      (ap (λ (s : List ℕ). s ++ entry_of m) (sym (pick_false (header versions) [] (ne_eqb used 0 z)))) x

  module _ (z : used ≡ 0) where
    begun_is : begun versions used ≡ header versions
    begun_is = pick_true (header versions) [] (eq-eqb used 0 z)

    new_size : header_size + length_size + length m ≡ used + length (begun versions used ++ entry_of m)
    new_size = omega (arith, ap (λ (s : List ℕ). length (s ++ entry_of m)) begun_is)

    pub append_out : length l < header_size + length_size + length m
        → Appended l used m (Err (holdings.TooFew (header_size + length_size + length m))) l
    append_out h = record { needed = ap holdings.TooFew new_size; short = omega (arith, new_size); after = refl }

    pub append_new : header_size + length_size + length m ≤ length l → (l₁ l₂ : List ℕ) → l₁ ≡ stored l 0 mark
        → l₂ ≡ stored l₁ mark_size (be version_size (newest_version versions))
        → (r : Result ℕ HoldingsError) (l₃ : List ℕ) → EntryStored l₂ header_size m r l₃ → Appended l used m r l₃
    append_new h l₁ l₂ e₁ e₂ = go
      where
        head : l₂ ≡ stored l 0 (header versions)
        head =
            e₂
            ∙ ap (λ (s : List ℕ). stored s mark_size (be version_size (newest_version versions))) e₁
            ∙ stored_seam l 0 mark (be version_size (newest_version versions)) (omega arith)

        long : length l₂ ≡ length l
        long = ap length head ∙ length_stored l 0 (header versions)

        go : (r : Result ℕ HoldingsError) (l₃ : List ℕ) → EntryStored l₂ header_size m r l₃ → Appended l used m r l₃
        go (Ok end) l₃ x = record {
          ends = omega (arith, x.ends, new_size);
          fits = omega (arith, new_size);
          after =
              x.after
              ∙ ap (λ (s : List ℕ). stored s header_size (entry_of m)) head
              ∙ stored_seam l 0 (header versions) (entry_of m) (omega arith)
              ∙ (λ i. stored l (sym z i) (sym begun_is i ++ entry_of m));
        }
        go (Err e) l₃ x = absurd (omega (arith, x.short, long))

-- the end is behind the message
pub appended_long : (l : List ℕ) (used : ℕ) (m : List ℕ) (end : ℕ) (l' : List ℕ) → Appended l used m (Ok end) l'
    → length m ≤ end
appended_long l used m end l' x = omega (arith, x.ends, length-append (begun versions used) (entry_of m))

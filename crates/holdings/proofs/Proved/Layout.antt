-- Bytes list as messages exactly when they are a file of them.
use Rattle.std.specs.Prelude.{◌≡◌, refl, ◌↔◌, List, [], ◌∷◌, ◌++◌, ℕ, zero, suc, ◌+◌, ◌*◌, ◌/◌, ◌%◌, ◌^◌, ◌≤◌, ◌<◌, length, take, drop, get_or}
use Rattle.std.proofs.Common.{sym, ◌∙◌, ap, subst, ⊎_elim, append_assoc, append-nil, arith, take-append-drop, length-drop, take_all, take-suc, drop-drop, length-take-le}
use Rattle.std.proofs.Math.Option.{Option, some}
use Rattle.std.proofs.Math.ListN.{get_elem?}
use Rattle.flow.specs.Tests.{split, bytes_take, bytes_drop}
use Rattle.flow.specs.Flow.{Bytes, items}
use Rattle.wire.specs.BigEndian.{joined, be}
use Rattle.wire.specs.Laws.{joined_snoc, joined_below}
use Rattle.record.proofs.Laws.Answering.{never}
use Rattle.holdings.specs.Files.{Rules, Versions, rules_of, mark, mark_size, version_size, header_size, length_size}
use Rattle.holdings.specs.Files.{entry_of, message_size, entry_size, entries_in, Lists, number_of, lists_from}
use Rattle.holdings.specs.Files.{listing_of}
use Rattle.holdings.specs.Terms.{Messages, Distinct, ShortensTo, SoundVersions, laid_out, IsFile}
use Rattle.holdings.specs.EntryLaws.{wholes}
use Rattle.holdings.proofs.EntryLaws.{number_found, elem_more, entries_none, entries_empty, entries_first}
use Rattle.holdings.proofs.EntryLaws.{entries_append, entries_one, no_fault, lists_one, lists_accepted}
use Rattle.holdings.proofs.FileLaws.{Listed, listing_listed, listed_listing, listed_distinct}
use Rattle.holdings.proofs.AdditionLaws.{shortest_spelled}

-- ---- bytes are those of the number that they make
byte_at_law : (s : List ℕ) (j : ℕ) → Bytes s → get_or s j 0 < 256
byte_at_law [] j b = omega arith
byte_at_law (x ∷ s) zero b = b.0
byte_at_law (x ∷ s) (suc j) b = byte_at_law s j b.1

be_joined : (k : ℕ) (s : List ℕ) → length s ≡ k → Bytes s → be k (joined 0 s) ≡ s
be_joined zero [] l b = refl
be_joined zero (x ∷ s) l b = absurd (omega arith)
be_joined (suc k) s l b =
    let x = get_or s k 0 in
    let front = take k s in
    let small = byte_at_law s k b in
    let e : s ≡ front ++ (x ∷ []) = sym (take_all (suc k) s (omega arith)) ∙ take-suc s k 0 (omega arith) in
    let j : joined 0 s ≡ 256 * joined 0 front + x = ap (joined 0) e ∙ joined_snoc front 0 x in
    let high : joined 0 s / 256 ≡ joined 0 front = omega arith in
    let low : joined 0 s % 256 ≡ x = omega arith in
    (λ i. be k (high i) ++ (low i ∷ []))
    ∙ ap (λ (t : List ℕ). t ++ (x ∷ [])) (be_joined k front (length-take-le k s (omega arith)) (bytes_take k s b))
    ∙ sym e

-- ---- bytes that consist of whole entries are the entries laid out
whole_laid : (ms : Messages) (s : List ℕ) → Bytes s → entries_in s ≡ wholes ms → s ≡ laid_out ms
whole_laid [] s b e = entries_empty s e
whole_laid (m ∷ ms) s b e =
    let x = entries_first s m (wholes ms) e in
    let n = message_size s in
    let d : drop n (drop length_size s) ≡ drop (entry_size s) s = drop-drop n length_size s in
    let fits = x.fits in
    let head : be length_size (length m) ≡ take length_size s =
    ap (be length_size) x.sized
    ∙ be_joined length_size (take length_size s) (length-take-le length_size s (omega arith))
    (bytes_take length_size s b) in
    let rest = whole_laid ms (drop (entry_size s) s) (bytes_drop (entry_size s) s b) x.rest in
    sym (take-append-drop length_size s)
    ∙ ap (λ (t : List ℕ). take length_size s ++ t) (sym (take-append-drop n (drop length_size s)))
    ∙ (λ i. sym head i ++ (x.message i ++ (d ∙ rest) i))
    ∙ sym (append_assoc (be length_size (length m)) m (laid_out ms))

laid_whole : (ms : Messages) → ((i : ℕ) (m : List ℕ) → get_elem? ms i ≡ some m → length m < 2 ^ 32)
    → entries_in (laid_out ms) ≡ wholes ms
laid_whole [] small = entries_none
laid_whole (m ∷ ms) small =
    entries_append (m ∷ []) (entry_of m) (laid_out ms) (entries_one m (small 0 m refl))
    ∙ ap (λ (l : List (Option (List ℕ))). some m ∷ l) (laid_whole ms (λ i. small (suc i)))

-- ---- different messages, each its record's shortest, list
elem_behind : (ms ns : Messages) (m : List ℕ) → get_elem? (ms ++ (m ∷ ns)) (length ms) ≡ some m
elem_behind [] ns m = refl
elem_behind (x ∷ ms) ns m = elem_behind ms ns m

different_list : (R : Rules) (p : ℕ) (before new : Messages)
    → ((i : ℕ) (m : List ℕ) → get_elem? new i ≡ some m → ShortensTo R R m m)
    → Distinct (before ++ new) → lists_from R p before (wholes new) ≡ Lists R (before ++ new)
different_list R p before [] each d = ap (Lists R) (sym (append-nil before))
different_list R p before (m ∷ new) each d =
    let a = append_assoc before (m ∷ []) new in
    let next = p + (length_size + length m) in
    let unheld : length before ≤ number_of m before = split (number_of m before) (length before)
    (λ l.
    let there = elem_more before (m ∷ new) (number_of m before) m (number_found m before l) in
    absurd (omega (arith, d (number_of m before) (length before) m there (elem_behind before new m))))
    (λ l. l) in
    lists_one R p before m (wholes new) (no_fault R before m (record { own = each 0 m refl; new = unheld }))
    ∙ different_list R next (before ++ (m ∷ [])) new (λ i. each (suc i)) (subst Distinct (sym a) d)
    ∙ ap (Lists R) a

module _ (vs : Versions) (R : Rules) (ms : Messages) where
  -- ---- what lists is a file
  listed_is : (f : List ℕ) → Bytes f → Listed vs f R ms → IsFile vs f R ms
  listed_is f b x =
      let rest = drop mark_size f in
      let v = joined 0 (take version_size rest) in
      let bytes = bytes_drop mark_size f b in
      let long = x.long in
      let n : length (take version_size rest) ≡ version_size =
      length-take-le version_size rest (omega (arith, length-drop mark_size f)) in
      let small = bytes_take version_size rest bytes in
      let laid = whole_laid ms (drop header_size f) (bytes_drop header_size f b) x.entries in
      record {
        version = v;
        version_fits = joined_below (take version_size rest) version_size 0 1 n small (omega arith);
        known_version = x.version;
        bytes =
            sym (take-append-drop mark_size f)
            ∙ ap (λ (t : List ℕ). take mark_size f ++ t) (sym (take-append-drop version_size rest))
            ∙ (λ i. x.marked i ++ (sym (be_joined version_size (take version_size rest) n small) i
            ++ (drop-drop version_size mark_size f ∙ laid) i));
        each = λ i m e. ⊎_elim (λ h. never cc) (λ h. h)
            (lists_accepted R header_size [] (wholes ms) R ms x.lists i m e);
        distinct = listed_distinct vs f R ms x;
      }

  -- ---- a file lists
  is_listed : SoundVersions vs → (f : List ℕ) → IsFile vs f R ms → Listed vs f R ms
  is_listed sound f x = subst (λ (g : List ℕ). Listed vs g R ms) (sym x.bytes) (record {
    long = omega arith;
    marked = refl;
    version =
        let e : joined 0 (take version_size (drop mark_size g)) ≡ x.version = omega (arith, x.version_fits) in
        ap (rules_of vs) e ∙ x.known_version;
    entries = laid_whole ms (λ i m e.
        let s = x.each i m e in
        let l = (shortest_spelled R (items s.entries) m s.short).1 in
        omega (arith, (sound.each x.version R x.known_version).writable));
    lists = different_list R header_size [] ms x.each x.distinct;
  })
    where
      g : List ℕ
      g = mark ++ (be version_size x.version ++ laid_out ms)

  pub files : SoundVersions vs → (f : List ℕ) → Bytes f → (listing_of vs f ≡ Lists R ms) ↔ IsFile vs f R ms
  files sound f b = (
    (λ e. listed_is f b (listing_listed vs f R ms e)),
    (λ x. listed_listing vs f R ms (is_listed sound f x)),
  )

-- What the contracts of src/entries.rt ask at each way out.
use mathlib.Core.Path.{◌≡◌, refl, sym, ◌∙◌, ap, subst}
use mathlib.Core.Bool.{Bool, true, false, ◌&&◌}
use mathlib.Core.List.{List, [], ◌∷◌, ◌++◌}
use mathlib.Core.Option.{none, some}
use Prim.Native.Nat.{ℕ, zero, suc, ◌+◌, ◌-◌, ◌*◌, ◌/◌, ◌≤◌, ◌<◌}
use native.Mathlib.Numerals.{add-one}
use native.Mathlib.Omega.{arith}
use lib.Dec.{eqb, leb}
use lib.ListN.{length, take, drop, set, length-drop, drop_of_length-le}
use lib.Seq.{length-take-le, drop-drop}
use Rattle.std.specs.Prelude.{Some, Result, Ok, Err}
use Rattle.std.specs.Cmp.Lexicographic.{pointwise}
use Rattle.flow.specs.Tests.{pick_true, pick_false, pick_either}
use Rattle.flow.specs.Flow.{same_list, put, overlay}
use Rattle.holdings.specs.Files.{header_size, length_size, message_size, entry_size, entries_up_to, entries_in, number_of}
use Rattle.holdings.specs.Answers.{ListLayout, placement, placements}
use Rattle.holdings.specs.Terms.{Messages}
use Rattle.holdings.specs.EntryLaws as model
use Rattle.holdings.specs.EntryLaws.{wholes}
use Rattle.holdings.proofs.EntryLaws.{entries_whole, entries_short, entries_none}
use Rattle.scalar.specs.declared.refusals.Refused.{Refused}
use Rattle.holdings_file.specs.declared.entries.Entry.{Entry}
use Rattle.holdings_file.specs.declared.entries.Entries.{Entries}
use Rattle.holdings_file.specs.Promises.{messages_of, held_from, held_in, IsCut, EntryAt, CutAt, EntryGives}

-- ---- slices that are equal
same_pointwise : (a b : List ℕ) → pointwise eqb a b ≡ same_list a b
same_pointwise [] [] = refl
same_pointwise [] (b ∷ t) = refl
same_pointwise (a ∷ s) [] = refl
same_pointwise (a ∷ s) (b ∷ t) = ap (λ (r : Bool). eqb a b && r) (same_pointwise s t)

pub same_as : (a b : List ℕ) {r : Bool} → r ≡ pointwise eqb a b → r ≡ same_list a b
same_as a b e = e ∙ same_pointwise a b

-- ---- an entry that is read: its size, and the entries from it on
module _ {f : List ℕ} {p : ℕ} {e : Entry} (x : EntryAt f p e) where
  entry_start : e.end - (p + length_size) ≡ message_size (drop p f)
  entry_start = omega (arith, x.ends.is)

  pub entry_sized : p + (length_size + length e.message.now) ≡ e.end
  entry_sized = omega (
    arith,
    x.ends.is,
    x.ends.within,
    ap length x.message,
    length-drop (p + length_size) f,
    length-take-le (e.end - (p + length_size)) (drop (p + length_size) f) (omega (
      arith,
      x.ends.is,
      x.ends.within,
      length-drop (p + length_size) f,
    )),
  )

  pub entry_message : take (message_size (drop p f)) (drop length_size (drop p f)) ≡ e.message.now
  entry_message = (λ i. take (sym entry_start i) (drop-drop length_size p f i)) ∙ sym x.message

  pub entries_next : entries_in (drop p f) ≡ some e.message.now ∷ entries_in (drop e.end f)
  entries_next =
      entries_whole (drop p f) (omega (arith, x.ends.is, x.ends.within, length-drop p f))
      ∙ (λ i. some (entry_message i) ∷ entries_in (drop-drop (entry_size (drop p f)) p f i))
      ∙ ap (λ (j : ℕ). some e.message.now ∷ entries_in (drop j f)) (sym x.ends.is)

  pub held_next : held_from f p ≡ e.message.now ∷ held_from f e.end
  unfolding held_from
  held_next = ap messages_of entries_next

-- ---- a step of the iterator over a file's bytes
pub record Reads (f : List ℕ) (s : Entries) (x : Entry) (t : Entries) : Type 0 where
  pub entry : EntryAt f s.at x
  pub bytes : t.bytes.now ≡ f
  pub next : t.at ≡ x.end

module _ {f : List ℕ} (s t : Entries) (b : s.bytes.now ≡ f) {r : Result Entry Refused} (g : EntryGives s (Some r) t)
  where
    pub reads : {x : Entry} → r ≡ Ok x → Reads f s x t
    reads {x} q =
        let y = subst (λ (r : Result Entry Refused). EntryGives s (Some r) t) q g in
        record {
          entry = subst (λ (l : List ℕ). EntryAt l s.at x) b y.entry;
          bytes = y.rest ∙ b;
          next = y.next;
        }

    pub is_cut : {y : Refused} → r ≡ Err y → CutAt f s.at y
    is_cut {y} q = subst (λ (l : List ℕ). CutAt l s.at y) b (subst (λ (r : Result Entry Refused). EntryGives s (Some r) t) q g)

-- ---- none where the bytes end, and none whole where one is cut
pub entries_ended : (f : List ℕ) (p : ℕ) → length f ≤ p → entries_in (drop p f) ≡ []
entries_ended f p h = ap entries_in (drop_of_length-le f h) ∙ entries_none

pub entries_cut : (f : List ℕ) (p : ℕ) → p < length f → IsCut f p → entries_in (drop p f) ≡ none ∷ []
entries_cut f p h x = entries_short (drop p f) (omega (arith, length-drop p f)) x

pub held_ended : (f : List ℕ) (p : ℕ) → length f ≤ p → held_from f p ≡ []
unfolding held_from
held_ended f p h = ap messages_of (entries_ended f p h)

pub held_cut : (f : List ℕ) (p : ℕ) → p < length f → IsCut f p → held_from f p ≡ []
unfolding held_from
held_cut f p h x = ap messages_of (entries_cut f p h x)

-- where a file consists of whole entries, it holds their messages
messages_wholes : (ms : Messages) → messages_of (wholes ms) ≡ ms
messages_wholes [] = refl
messages_wholes (m ∷ ms) = ap {B = Messages} (λ l. m ∷ l) (messages_wholes ms)

pub held_wholes : (f : List ℕ) (ms : Messages) → entries_in (drop header_size f) ≡ wholes ms → held_in f ≡ ms
unfolding held_from
held_wholes f ms e = ap messages_of e ∙ messages_wholes ms

-- it holds no more than it has bytes behind the header
up_to_few : (k : ℕ) (s : List ℕ) → length (entries_up_to k s) ≤ k
up_to_few zero s = omega arith
up_to_few (suc k) [] = omega arith
up_to_few (suc k) (b ∷ s) =
    pick_either (λ (l : model.Entries). length l ≤ suc k) (leb (entry_size (b ∷ s)) (length (b ∷ s)))
    (λ t. omega (arith, up_to_few k (drop (entry_size (b ∷ s)) (b ∷ s))))
    (λ t. omega arith)

messages_few : (os : model.Entries) → length (messages_of os) ≤ length os
messages_few [] = omega arith
messages_few (none ∷ os) = omega (arith, messages_few os)
messages_few (some m ∷ os) = omega (arith, messages_few os)

pub held_few : (f : List ℕ) → length (held_in f) ≤ length f - header_size
unfolding held_from entries_in
held_few f = omega (
  arith,
  messages_few (entries_in (drop header_size f)),
  up_to_few (length (drop header_size f)) (drop header_size f),
  length-drop header_size f,
)

-- ---- the number of a message, where n are passed and the others stand from p on
pub record Counting (f m : List ℕ) (n p : ℕ) : Type 0 where
  pub few : n ≤ p
  pub left : number_of m (held_in f) ≡ n + number_of m (held_from f p)

module _ {f m : List ℕ} {n p : ℕ} (x : Counting f m n p) where
  number_none : held_from f p ≡ [] → n ≡ number_of m (held_in f)
  number_none e = sym (x.left ∙ ap (λ (l : Messages). n + number_of m l) e ∙ omega arith)

  pub number_ended : length f ≤ p → n ≡ number_of m (held_in f)
  number_ended h = number_none (held_ended f p h)

  pub number_cut : p < length f → IsCut f p → n ≡ number_of m (held_in f)
  number_cut h y = number_none (held_cut f p h y)

  module _ {e : Entry} (y : EntryAt f p e) {r : Bool} (s : r ≡ pointwise eqb m e.message.now) where
    stepped : number_of m (held_in f) ≡ n + number_of m (e.message.now ∷ held_from f e.end)
    stepped = x.left ∙ ap (λ (l : Messages). n + number_of m l) (held_next y)

    pub number_same : r ≡ true → n ≡ number_of m (held_in f)
    number_same t = sym (stepped ∙ ap (λ (k : ℕ). n + k) (pick_true 0 (suc (number_of m (held_from f e.end))) (sym (same_as m e.message.now s) ∙ t)) ∙ omega arith)

    pub number_more : r ≡ false → {q : ℕ} → q ≡ e.end → Counting f m (n + 1) q
    number_more t {q} z = record {
      few = omega (arith, x.few, entry_sized y);
      left =
          stepped
          ∙ ap (λ (k : ℕ). n + k)
          (pick_false 0 (suc (number_of m (held_from f e.end))) (sym (same_as m e.message.now s) ∙ t))
          ∙ ap (λ (j : ℕ). n + suc (number_of m (held_from f j))) (sym z)
          ∙ omega arith;
    }

-- ---- a list filled, where n placements are stored and the others' messages stand from p on
abbrev pub filled_from : ListLayout → List ℕ → List ℕ → ℕ → ℕ → List ℕ
filled_from L f t n p = overlay L.width L.encode t n (placements p (held_from f p))

pub record Filling (L : ListLayout) (f total t : List ℕ) (n p : ℕ) : Type 0 where
  pub few : n ≤ p
  pub filled : total ≡ filled_from L f t n p

module _ {L : ListLayout} {f total t : List ℕ} {n p : ℕ} (x : Filling L f total t n p) where
  fill_none : held_from f p ≡ [] → t ≡ total
  unfolding overlay
  fill_none e = sym (x.filled ∙ ap (λ (l : Messages). overlay L.width L.encode t n (placements p l)) e)

  pub fill_ended : length f ≤ p → t ≡ total
  fill_ended h = fill_none (held_ended f p h)

  pub fill_cut : p < length f → IsCut f p → t ≡ total
  fill_cut h y = fill_none (held_cut f p h y)

  pub fill_more : {e : Entry} → EntryAt f p e → {t' : List ℕ}
      → t' ≡ put L.width L.encode t n (placement (e.at + length_size) (length e.message.now))
      → {q : ℕ} → q ≡ e.end → Filling L f total t' (n + 1) q
  unfolding overlay
  fill_more {e} y {t'} s {q} z = record {
    few = omega (arith, x.few, entry_sized y);
    filled =
        x.filled
        ∙ ap (λ (l : Messages). overlay L.width L.encode t n (placements p l)) (held_next y)
        ∙ (λ i. overlay L.width L.encode (put L.width L.encode t n (placement (sym y.at i + length_size)
        (length e.message.now))) (sym (add-one n) i) (placements (entry_sized y i) (held_from f e.end)))
        ∙ (λ i. overlay L.width L.encode (sym s i) (n + 1) (placements (sym z i) (held_from f (sym z i))));
  }

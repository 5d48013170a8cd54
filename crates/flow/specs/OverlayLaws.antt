-- Laws of lists stored in lists, and of tables.
use Rattle.std.specs.Prelude.{◌≡◌, take, drop, set}
use Rattle.std.proofs.Math.Path.{refl, sym}
use Rattle.std.proofs.Common.{ap, ◌∙◌, zero-mul, length-take-le, drop_at, drop-set-lt, le-leb}
use mathlib.Core.List.{List, [], ◌∷◌, ◌++◌, append_assoc}
use Prim.Native.Nat.{ℕ, zero, suc, ◌+◌, ◌*◌, ◌≤◌, ◌<◌}
use Rattle.std.proofs.Math.Nat.{suc-mul, mul-le-mul_right}
use native.Mathlib.Omega.{arith}
use Rattle.std.proofs.Math.ListN.{length, length-append}
use Rattle.std.proofs.lemmas.List.Edits.{sets, sets-eq}
use Rattle.std.proofs.Math.Seq.{length-sets, take-append_seam}
use Rattle.std.proofs.lemmas.List.{set_comm, take-set-le}
use Rattle.std.proofs.lemmas.Bool.{lt-leb}
use Rattle.flow.specs.Tests.{pick_true, pick_false, split}
use Rattle.flow.specs.Flow.{stored, put, overlay}

-- the numbers of the entries
unfoldable pub flat : {A : Type 0} → (width : ℕ) → (encode : A → List ℕ) → List A → List ℕ
flat width encode [] = []
flat width encode (x ∷ xs) = encode x ++ flat width encode xs

-- ---- stores one by one
sets_seam : (l : List ℕ) (i : ℕ) (a b : List ℕ) → sets (sets l i a) (i + length a) b ≡ sets l i (a ++ b)
sets_seam l i [] b = let e : i + 0 ≡ i = omega arith in rw e
sets_seam l i (x ∷ a) b =
    let e : i + suc (length a) ≡ suc i + length a = omega arith in rw e (sets_seam (set l i x) (suc i) a b)

sets_set : (l : List ℕ) (i j x : ℕ) (b : List ℕ) → i < j → sets (set l i x) j b ≡ set (sets l j b) i x
sets_set l i j x [] h = refl
sets_set l i j x (y ∷ b) h = rw (set_comm l i j x y (omega arith)) (sets_set (set l j y) i (suc j) x b (omega arith))

sets_apart : (l : List ℕ) (i j : ℕ) (a b : List ℕ) → i + length a ≤ j → sets (sets l i a) j b ≡ sets (sets l j b) i a
sets_apart l i j [] b h = refl
sets_apart l i j (x ∷ a) b h =
    rw (← sets_set l i j x b (omega arith)) (sets_apart (set l i x) (suc i) j a b (omega arith))

sets_before : (l : List ℕ) (i n : ℕ) (a : List ℕ) → n ≤ i → take n (sets l i a) ≡ take n l
sets_before l i n [] h = refl
sets_before l i n (x ∷ a) h = sets_before (set l i x) (suc i) n a (omega arith) ∙ take-set-le n l i x h

sets_behind : (l : List ℕ) (i n : ℕ) (a : List ℕ) → i + length a ≤ n → drop n (sets l i a) ≡ drop n l
sets_behind l i n [] h = refl
sets_behind l i n (x ∷ a) h = sets_behind (set l i x) (suc i) n a (omega arith) ∙ drop-set-lt n l i x (omega arith)

-- ---- a list stored where it fits, and where it does not
pub stored_in : (l : List ℕ) (at : ℕ) (new : List ℕ) → at + length new ≤ length l
    → stored l at new ≡ take at l ++ (new ++ drop (at + length new) l)
unfolding stored
stored_in l at new h = pick_true _ l (le-leb (at + length new) (length l) h)

pub stored_out : (l : List ℕ) (at : ℕ) (new : List ℕ) → length l < at + length new → stored l at new ≡ l
unfolding stored
stored_out l at new h = pick_false _ l (lt-leb (at + length new) (length l) h)

pub stored_sets : (l : List ℕ) (at : ℕ) (new : List ℕ) → at + length new ≤ length l → stored l at new ≡ sets l at new
stored_sets l at new h = rw (stored_in l at new h, sets-eq new l at h, append_assoc)

-- what holds of l, and of l after the stores one by one, holds in either case
either : (l : List ℕ) (at : ℕ) (new : List ℕ) (P : List ℕ → Type 0) → P (sets l at new) → P l → P (stored l at new)
either l at new P f g =
    split (length l) (at + length new) (λ h. rw (stored_out l at new h) g) (λ h. rw (stored_sets l at new h) f)

pub length_stored : (l : List ℕ) (at : ℕ) (new : List ℕ) → length (stored l at new) ≡ length l
length_stored l at new = either l at new (λ s. length s ≡ length l) (length-sets l at new) refl

pub stored_before : (l : List ℕ) (at n : ℕ) (new : List ℕ) → n ≤ at → take n (stored l at new) ≡ take n l
stored_before l at n new h = either l at new (λ s. take n s ≡ take n l) (sets_before l at n new h) refl

pub stored_behind : (l : List ℕ) (at n : ℕ) (new : List ℕ) → at + length new ≤ n → drop n (stored l at new) ≡ drop n l
stored_behind l at n new h = either l at new (λ s. drop n s ≡ drop n l) (sets_behind l at n new h) refl

pub stored_take : (l : List ℕ) (at : ℕ) (new : List ℕ) → at + length new ≤ length l
    → take (length new) (drop at (stored l at new)) ≡ new
stored_take l at new h = rw (
  stored_in l at new h,
  drop_at (take at l) (new ++ drop (at + length new) l) at
      (length-take-le at l (omega arith)),
) (take-append_seam new _)

-- ---- two lists stored, side by side and apart
pub stored_seam : (l : List ℕ) (at : ℕ) (a b : List ℕ) → at + length (a ++ b) ≤ length l
    → stored (stored l at a) (at + length a) b ≡ stored l at (a ++ b)
stored_seam l at a b h =
    let n = length-append a b in
    rw (
      stored_sets l at (a ++ b) h,
      stored_sets (stored l at a) (at + length a) b (rw length_stored (omega arith)),
      stored_sets l at a (omega arith),
    ) (sets_seam l at a b)

pub stored_apart : (l : List ℕ) (i j : ℕ) (a b : List ℕ) → i + length a ≤ j
    → stored (stored l i a) j b ≡ stored (stored l j b) i a
stored_apart l i j a b h =
    let n = length_stored l i a in
    let m = length_stored l j b in
    split (length l) (j + length b)
    (λ k. rw (stored_out (stored l i a) j b (omega arith), stored_out l j b k))
    (λ k. rw (
      stored_sets (stored l i a) j b (omega arith),
      stored_sets (stored l j b) i a (omega arith),
      stored_sets l i a (omega arith),
      stored_sets l j b k,
    ) (sets_apart l i j a b h))

-- ---- tables
-- with no entries laid over, a table is itself
pub overlay_none : {A : Type 0} (width : ℕ) (encode : A → List ℕ) (t : List ℕ) (k : ℕ) → overlay width encode t k [] ≡ t
unfolding overlay
overlay_none width encode t k = refl

module _ {A : Type 0} (width : ℕ) (encode : A → List ℕ) (sized : (x : A) → length (encode x) ≡ width) where
  pub length_flat : (xs : List A) → length (flat width encode xs) ≡ length xs * width
  unfolding flat
  length_flat [] = sym (zero-mul width)
  length_flat (x ∷ xs) = rw (length-append, sized x, length_flat xs, suc-mul (length xs) width) (omega arith)

  pub length_put : (t : List ℕ) (k : ℕ) (x : A) → length (put width encode t k x) ≡ length t
  unfolding put
  length_put t k x = length_stored t (k * width) (encode x)

  pub put_put : (t : List ℕ) (i j : ℕ) (x y : A) → i < j → put width encode (put width encode t i x) j y
      ≡ put width encode (put width encode t j y) i x
  unfolding put
  put_put t i j x y h = stored_apart t (i * width) (j * width) (encode x) (encode y)
      (omega (arith, sized x, suc-mul i width, mul-le-mul_right width h))

  -- an entry before those that are laid over
  pub overlay_put : (t : List ℕ) (i j : ℕ) (x : A) (xs : List A) → i < j
      → overlay width encode (put width encode t i x) j xs ≡ put width encode (overlay width encode t j xs) i x
  unfolding overlay
  overlay_put t i j x [] h = refl
  overlay_put t i j x (y ∷ xs) h =
      rw (put_put t i j x y h) (overlay_put (put width encode t j y) i (suc j) x xs (omega arith))

  pub overlay_cons : (t : List ℕ) (i : ℕ) (x : A) (xs : List A) → put width encode
      (overlay width encode t (i + 1) xs) i x ≡ overlay width encode t i (x ∷ xs)
  unfolding overlay
  overlay_cons t i x xs = let e : i + 1 ≡ suc i = omega arith in rw e (sym (overlay_put t i (suc i) x xs (omega arith)))

  pub overlay_one : (t : List ℕ) (k : ℕ) (x : A) → overlay width encode t k (x ∷ []) ≡ put width encode t k x
  unfolding overlay
  overlay_one t k x = refl

  pub overlay_append : (t : List ℕ) (i : ℕ) (a b : List A) → overlay width encode (overlay width encode t i a)
      (i + length a) b ≡ overlay width encode t i (a ++ b)
  unfolding overlay
  overlay_append t i [] b = let e : i + 0 ≡ i = omega arith in rw e
  overlay_append t i (x ∷ a) b = let e : i + suc (length a) ≡ suc i + length a = omega arith in
      rw e (overlay_append (put width encode t i x) (suc i) a b)

  pub length_overlay : (t : List ℕ) (i : ℕ) (xs : List A) → length (overlay width encode t i xs) ≡ length t
  unfolding overlay
  length_overlay t i [] = refl
  length_overlay t i (x ∷ xs) = length_overlay (put width encode t i x) (suc i) xs ∙ length_put t i x

  -- entries that all fit are one list stored
  overlay_stored : (t : List ℕ) (i : ℕ) (xs : List A) → i * width + length (flat width encode xs) ≤ length t
      → overlay width encode t i xs ≡ stored t (i * width) (flat width encode xs)
  unfolding overlay put flat
  overlay_stored t i [] h = sym (stored_sets t (i * width) [] h)
  overlay_stored t i (x ∷ xs) h =
      let n = length-append (encode x) (flat width encode xs) in
      let s = sized x in
      let m = length_put t i x in
      let e : suc i * width ≡ i * width + length (encode x) = omega (arith, suc-mul i width) in
      overlay_stored (put width encode t i x) (suc i) xs (omega arith)
      ∙ rw e (stored_seam t (i * width) (encode x) (flat width encode xs) h)

  pub overlay_flat : (t : List ℕ) (xs : List A) → length xs * width ≤ length t
      → overlay width encode t 0 xs ≡ flat width encode xs ++ drop (length xs * width) t
  overlay_flat t xs h =
      let n = length_flat xs in
      let z = zero-mul width in
      let e : 0 * width + length (flat width encode xs) ≡ length xs * width = omega arith in
      overlay_stored t 0 xs (omega arith) ∙ stored_in t (0 * width) (flat width encode xs) (omega arith) ∙ rw (e, z)

  -- what lies past them stays
  pub overlay_past : (t : List ℕ) (xs : List A) → length xs * width ≤ length t
      → drop (length xs * width) (overlay width encode t 0 xs) ≡ drop (length xs * width) t
  overlay_past t xs h = ap (drop (length xs * width)) (overlay_flat t xs h)
      ∙ drop_at (flat width encode xs) (drop (length xs * width) t) (length xs * width) (length_flat xs)

-- What src/tables.rt does at each way out: the rows of a table of numbers, or of C's bytes.
use Rattle.std.proofs.Common.{◌≡◌, ℕ, zero, suc, ◌+◌, ◌-◌, ◌*◌, ◌/◌, ◌^◌, ◌<◌, ◌≤◌, List, [], ◌∷◌, ◌++◌, length, take, drop, get_or, set, sym, refl, ap, ◌∙◌, arith, length-append, drop-drop}
use Rattle.std.proofs.Math.Nat.{zero-mul, suc-mul}
use Rattle.std.specs.Int.{w64, to_be_bytes}
use Rattle.std.specs.Simd.{first_chunks}
use borrow.Rule.Slice.PartMut.{put_mid}
use Rattle.flow.specs.Flow.{stored, put}
use Rattle.flow.specs.OverlayLaws.{stored_in, stored_out, stored_sets, length_stored, stored_seam}
use Rattle.wire.specs.BigEndian.{be}
use Rattle.wire.specs.Laws.{be_length}
use Rattle.record.specs.Model.Rows.{Row, row}
use Rattle.record.specs.Model.Answers.{as_numbers, as_bytes, lent_rows}
use Rattle.record.specs.Laws.Layouts.{bytes_sized}

-- ---- one is read: a chunk of the table
chunk_at : (w n k : ℕ) (t d : List ℕ) → k < n → get_or (first_chunks w n t) k d ≡ take w (drop (k * w) t)
chunk_at w zero k t d h = absurd (omega arith)
chunk_at w (suc n) zero t d h = ap (λ (j : ℕ). take w (drop j t)) (sym (zero-mul w))
chunk_at w (suc n) (suc k) t d h =
    let e : w + k * w ≡ suc k * w = omega (arith, suc-mul k w) in
    chunk_at w n k (drop w t) d (omega arith) ∙ ap (take w) (drop-drop (k * w) w t ∙ ap (λ (j : ℕ). drop j t) e)

pub chunk_there : (w : ℕ) (t : List ℕ) (k : ℕ) (cs : List (List ℕ)) (x : List ℕ)
    → cs ≡ first_chunks w (length t / w) t → length cs ≡ length t / w
    → (k < length cs) × ((d : List ℕ) → x ≡ get_or cs k d)
    → (k < length t / w) × (x ≡ take w (drop (k * w) t))
chunk_there w t k cs x e n h =
    let l : k < length t / w = omega (arith, h.0, n) in
    (l, h.1 [] ∙ ap (λ (z : List (List ℕ)). get_or z k []) e ∙ chunk_at w (length t / w) k t [] l)

-- ---- the eight bytes of a number, stored at once
be_of_eight : (n : ℕ) → to_be_bytes w64 n ≡ be 8 n
be_of_eight n =
    let a : n / 256 ^ 2 ≡ n / 256 / 256 = omega arith in
    let b : n / 256 ^ 3 ≡ n / 256 / 256 / 256 = omega arith in
    let c : n / 256 ^ 4 ≡ n / 256 / 256 / 256 / 256 = omega arith in
    let d : n / 256 ^ 5 ≡ n / 256 / 256 / 256 / 256 / 256 = omega arith in
    let e : n / 256 ^ 6 ≡ n / 256 / 256 / 256 / 256 / 256 / 256 = omega arith in
    let f : n / 256 ^ 7 ≡ n / 256 / 256 / 256 / 256 / 256 / 256 / 256 = omega arith in
    rw (a, b, c, d, e, f) refl

pub eight_stored : (l b : List ℕ) (i v : ℕ) → i + 8 ≤ length l → b ≡ to_be_bytes w64 v
    → put_mid i (i + 8 - i) l b ≡ stored l i (be 8 v)
eight_stored l b i v h e =
    let same : b ≡ be 8 v = e ∙ be_of_eight v in
    let eight : i + 8 - i ≡ 8 = omega arith in
    let there : stored l i (be 8 v) ≡ take i l ++ (be 8 v ++ drop (i + 8) l) =
    stored_in l i (be 8 v) (omega (arith, be_length 8 v)) in
    rw (eight, same, drop-drop 8 i l) (sym there)

-- ---- one is stored that does not fit
pub numbers_out : (t : List ℕ) (k : ℕ) (r : Row) → lent_rows as_numbers t ≤ k
    → t ≡ put as_numbers.width as_numbers.encode t k r
unfolding put
numbers_out t k r h = sym (stored_out t (k * 5) (as_numbers.encode r) (omega arith))

pub bytes_out : (t : List ℕ) (k : ℕ) (r : Row) → lent_rows as_bytes t ≤ k
    → t ≡ put as_bytes.width as_bytes.encode t k r
unfolding put
bytes_out t k r h = sym (stored_out t (k * 40) (as_bytes.encode r) (omega (arith, bytes_sized r)))

-- ---- one is stored that fits: its five numbers, one after the other
seam : (l : List ℕ) (i j : ℕ) (a b : List ℕ) → j ≡ i + length a → j + length b ≤ length l
    → stored (stored l i a) j b ≡ stored l i (a ++ b)
seam l i j a b e h = rw e (stored_seam l i a b (omega (arith, length-append a b)))

five : (l : List ℕ) (i : ℕ) (a b c d e : List ℕ) → length a ≡ 8 → length b ≡ 8 → length c ≡ 8 → length d ≡ 8
    → length e ≡ 8 → i + 40 ≤ length l
    → stored (stored (stored (stored (stored l i a) (i + 8) b) (i + 16) c) (i + 24) d) (i + 32) e
    ≡ stored l i (a ++ (b ++ (c ++ (d ++ e))))
five l i a b c d e ha hb hc hd he h =
    let n = length_stored l i a in
    let m = length_stored (stored l i a) (i + 8) b in
    let o = length_stored (stored (stored l i a) (i + 8) b) (i + 16) c in
    let w = length-append d e in
    let x = length-append c (d ++ e) in
    let y = length-append b (c ++ (d ++ e)) in
    seam (stored (stored (stored l i a) (i + 8) b) (i + 16) c) (i + 24) (i + 32) d e (omega arith) (omega arith)
    ∙ seam (stored (stored l i a) (i + 8) b) (i + 16) (i + 24) c (d ++ e) (omega arith) (omega arith)
    ∙ seam (stored l i a) (i + 8) (i + 16) b (c ++ (d ++ e)) (omega arith) (omega arith)
    ∙ seam l i (i + 8) a (b ++ (c ++ (d ++ e))) (omega arith) (omega arith)

module _ (t : List ℕ) (k x y u v z : ℕ) where
  pub numbers_in : k < lent_rows as_numbers t
      → set (set (set (set (set t (k * 5) x) (k * 5 + 1) y) (k * 5 + 2) u) (k * 5 + 3) v) (k * 5 + 4) z
      ≡ put as_numbers.width as_numbers.encode t k (row x y u v z)
  unfolding put
  numbers_in h =
      let a : k * 5 + 1 ≡ suc (k * 5) = omega arith in
      let b : k * 5 + 2 ≡ suc (suc (k * 5)) = omega arith in
      let c : k * 5 + 3 ≡ suc (suc (suc (k * 5))) = omega arith in
      let d : k * 5 + 4 ≡ suc (suc (suc (suc (k * 5)))) = omega arith in
      rw (a, b, c, d) (sym (stored_sets t (k * 5) (x ∷ y ∷ u ∷ v ∷ z ∷ []) (omega arith)))

  pub bytes_in : {t₁ t₂ t₃ t₄ t₅ : List ℕ} → k < lent_rows as_bytes t → t₁ ≡ stored t (k * 40) (be 8 x)
      → t₂ ≡ stored t₁ (k * 40 + 8) (be 8 y) → t₃ ≡ stored t₂ (k * 40 + 16) (be 8 u)
      → t₄ ≡ stored t₃ (k * 40 + 24) (be 8 v) → t₅ ≡ stored t₄ (k * 40 + 32) (be 8 z)
      → t₅ ≡ put as_bytes.width as_bytes.encode t k (row x y u v z)
  unfolding put
  bytes_in h e₁ e₂ e₃ e₄ e₅ =
      e₅
      ∙ ap (λ (l : List ℕ). stored l (k * 40 + 32) (be 8 z)) (e₄ ∙ ap (λ (l : List ℕ). stored l (k * 40 + 24) (be 8 v))
      (e₃ ∙ ap (λ (l : List ℕ). stored l (k * 40 + 16) (be 8 u)) (e₂
      ∙ ap (λ (l : List ℕ). stored l (k * 40 + 8) (be 8 y)) e₁)))
      ∙ five t (k * 40) (be 8 x) (be 8 y) (be 8 u) (be 8 v) (be 8 z)
      (be_length 8 x) (be_length 8 y) (be_length 8 u) (be_length 8 v) (be_length 8 z) (omega arith)

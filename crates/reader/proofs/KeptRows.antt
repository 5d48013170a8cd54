-- Rows kept one after the other.
use Rattle.std.proofs.Common.{◌≡◌, ℕ, suc, ◌+◌, ◌<◌, List, [], ◌∷◌, ◌++◌, length, sym, refl, ap, ◌∙◌, add-one, arith, length-append}
use Rattle.record.specs.Model.Rows.{Row, row}
use Rattle.record.specs.declared.known.Known as code
use Rattle.record.specs.ForReader.ReadingAt.{from, numbered}
use Rattle.record.proofs.ForReader.ReadingAt.{numbered_append, numbered_length}
use Rattle.reader.specs.declared.Spot.{Spot}
use Rattle.reader.specs.Slots.{Keeping, Swaps, keep_all}
use Rattle.reader.specs.Promises.{StoresRows, ReadyAt, ReadsRows}

module _ (K : Keeping) (m : List ℕ) where
  keep_append : (t : List ℕ) (k : ℕ) (rs qs : List Row)
      → keep_all K m (keep_all K m t k rs) (k + length rs) qs ≡ keep_all K m t k (rs ++ qs)
  keep_append t k [] qs = let e : k + 0 ≡ k = omega arith in rw e refl
  keep_append t k (r ∷ rs) qs =
      let e : k + suc (length rs) ≡ suc k + length rs = omega arith in
      rw e (keep_append (K m t k r) (suc k) rs qs)

  -- a row before others
  keep_later : Swaps K → (t : List ℕ) (i j : ℕ) (x : Row) (rs : List Row) → i < j
      → keep_all K m (K m t i x) j rs ≡ K m (keep_all K m t j rs) i x
  keep_later S t i j x [] l = refl
  keep_later S t i j x (y ∷ rs) l =
      rw (S.swap m t i j x y l) (keep_later S (K m t j y) i (suc j) x rs (omega arith))

  pub stores_none : (t : List ℕ) (k : ℕ) → StoresRows K m t k [] t
  stores_none t k = record { kept = refl }

  -- one row, and the same row kept
  pub stores_single : {t t' : List ℕ} {k s p x y n : ℕ} → t' ≡ K m t k (row s p x y (k + n))
      → StoresRows K m t k (row s p x y n ∷ []) t'
  stores_single x = record { kept = x }

  pub stores_on : {t t₁ t₂ : List ℕ} {k j : ℕ} {rs qs : List Row} → StoresRows K m t k rs t₁
      → j ≡ k + length rs → StoresRows K m t₁ j qs t₂ → StoresRows K m t k (rs ++ qs) t₂
  stores_on {t} {k = k} {rs = rs} {qs = qs} x e y =
      let h : k + length rs ≡ k + length (numbered k rs) = omega (arith, numbered_length k rs) in
      record {
        kept =
            y.kept
            ∙ (λ i. keep_all K m (x.kept i) (e i) (numbered (e i) qs))
            ∙ ap (λ (z : ℕ). keep_all K m (keep_all K m t k (numbered k rs)) z (numbered (k + length rs) qs)) h
            ∙ keep_append t k (numbered k rs) (numbered (k + length rs) qs)
            ∙ ap (keep_all K m t k) (sym (numbered_append k rs qs));
      }

  -- the row before the others, kept after them
  pub stores_top : Swaps K → {t t₁ t₂ : List ℕ} {k : ℕ} (r : Row) {rs : List Row} → StoresRows K m t (k + 1) rs t₁
      → t₂ ≡ K m t₁ k (from k r) → StoresRows K m t k (r ∷ rs) t₂
  stores_top S {t} {k = k} r {rs = rs} x y = record {
    kept =
        y
        ∙ ap (λ (z : List ℕ). K m z k (from k r)) x.kept
        ∙ ap (λ (j : ℕ). K m (keep_all K m t j (numbered j rs)) k (from k r)) (add-one k)
        ∙ sym (keep_later S t k (suc k) (from k r) (numbered (suc k) rs) (omega arith));
  }

  -- ---- from one spot to another, and on
  pub reads_none : (t : List ℕ) (ks : code.Known) (s : Spot) → ReadyAt m ks s → ReadsRows K m t s s t ks []
  reads_none t ks s w = record {
    counted = omega arith;
    stores = stores_none t s.row;
    onward = omega arith;
    ready = w;
  }

  pub reads_on : {t t₁ t₂ : List ℕ} {ks₁ ks₂ : code.Known} {s s₁ s₂ : Spot} {xs ys : List Row}
      → ReadsRows K m t s s₁ t₁ ks₁ xs → ReadsRows K m t₁ s₁ s₂ t₂ ks₂ ys
      → ReadsRows K m t s s₂ t₂ ks₂ (xs ++ ys)
  reads_on {xs = xs} {ys = ys} x y = record {
    counted = omega (arith, x.counted, y.counted, length-append xs ys);
    stores = stores_on x.stores x.counted y.stores;
    onward = omega (arith, x.onward, y.onward);
    ready = y.ready;
  }

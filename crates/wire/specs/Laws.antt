-- Laws of numbers as bytes: their length and size, bytes and back, 64 bits of a number, and its bytes stored in a list.
use Rattle.std.specs.Prelude.{◌≡◌, refl, List, [], ◌∷◌, ◌++◌, ℕ, zero, suc, ◌+◌, ◌-◌, ◌*◌, ◌/◌, ◌%◌, ◌^◌, ◌≤◌, ◌<◌, length, take, drop, get_or, set}
use Rattle.std.proofs.Common.{◌∙◌, ap, add-zero, mod-eq_of_lt, add-one, arith, length-append, drop_of_length-le, drop-cons, Fits}
use Rattle.std.proofs.Math.Seq.{take-nil}
use Rattle.std.proofs.lemmas.List.{set_comm}
use Rattle.std.proofs.lemmas.List.Edits.{sets}
use Rattle.std.specs.Int.{w8}
use Rattle.flow.specs.Flow.{Bytes}
use Rattle.flow.specs.Tests.{bytes_append, bytes_drop, bytes_all}
use Rattle.wire.specs.BigEndian.{joined, be, high, wider}

-- ---- the lowest bytes
pub be_length : (k u : ℕ) → length (be k u) ≡ k
be_length zero u = refl
be_length (suc k) u = length-append (be k (u / 256)) ((u % 256) ∷ []) ∙ omega (arith, be_length k (u / 256))

pub be_bytes : (k u : ℕ) → Bytes (be k u)
be_bytes zero u = tt
be_bytes (suc k) u = bytes_append (be k (u / 256)) ((u % 256) ∷ []) (be_bytes k (u / 256)) (omega arith, tt)

-- the four bytes of a number that is made of four
pub be_four : (a b c d : ℕ) → a < 256 → b < 256 → c < 256 → d < 256
    → be 4 (((a * 256 + b) * 256 + c) * 256 + d) ≡ a ∷ b ∷ c ∷ d ∷ []
be_four a b c d h i j k =
    let e₁ : (((a * 256 + b) * 256 + c) * 256 + d) / 256 ≡ (a * 256 + b) * 256 + c = omega arith in
    let e₂ : ((a * 256 + b) * 256 + c) / 256 ≡ a * 256 + b = omega arith in
    let e₃ : (a * 256 + b) / 256 ≡ a = omega arith in
    let f₁ : (((a * 256 + b) * 256 + c) * 256 + d) % 256 ≡ d = omega arith in
    let f₂ : ((a * 256 + b) * 256 + c) % 256 ≡ c = omega arith in
    let f₃ : (a * 256 + b) % 256 ≡ b = omega arith in
    let f₄ : a % 256 ≡ a = omega arith in
    rw (f₁, e₁, f₂, e₂, f₃, e₃, f₄) refl

-- ---- a number by its bytes
pub joined_append : (s t : List ℕ) (a : ℕ) → joined a (s ++ t) ≡ joined (joined a s) t
joined_append [] t a = refl
joined_append (x ∷ s) t a = joined_append s t (256 * a + x)

pub joined_snoc : (s : List ℕ) (a b : ℕ) → joined a (s ++ (b ∷ [])) ≡ 256 * joined a s + b
joined_snoc s a b = joined_append s (b ∷ []) a

-- bytes and back
pub joined_be : (k u : ℕ) → joined (high k u) (be k u) ≡ u
joined_be zero u = refl
joined_be (suc k) u = joined_snoc (be k (u / 256)) (high k (u / 256)) (u % 256) ∙ omega (arith, joined_be k (u / 256))

-- ---- how large a number is, and what stands before its bytes
pub high_below : (k u c : ℕ) → u < wider k c → high k u < c
high_below zero u c h = h
high_below (suc k) u c h = high_below k (u / 256) c (omega arith)

pub wider_more : (k c : ℕ) → wider k (256 * c) ≡ 256 * wider k c
wider_more zero c = refl
wider_more (suc k) c = ap (λ (z : ℕ). 256 * z) (wider_more k c)

pub joined_below : (t : List ℕ) (k a c : ℕ) → length t ≡ k → Bytes t → a < c → joined a t < wider k c
joined_below [] zero a c e b h = h
joined_below [] (suc k) a c e b h = absurd (omega arith)
joined_below (x ∷ t) zero a c e b h = absurd (omega arith)
joined_below (x ∷ t) (suc k) a c e b h =
    rw (wider_more k c) at (joined_below t k (256 * a + x) (256 * c) (omega arith) b.1 (omega arith))

-- ---- in 64 bits: only the lowest 64 of what stands before the bytes count
pub joined_wraps : (s : List ℕ) (a b : ℕ) → a % 2 ^ 64 ≡ b % 2 ^ 64 → joined a s % 2 ^ 64 ≡ joined b s % 2 ^ 64
joined_wraps [] a b e = e
joined_wraps (x ∷ s) a b e = joined_wraps s (256 * a + x) (256 * b + x) (omega arith)

-- ---- up to n bytes from the index i on: none are asked for, none are there, or one and the others
pub joined_none : (s : List ℕ) (i n a : ℕ) → n ≤ 0 → joined a (take n (drop i s)) ≡ a
joined_none s i zero a h = refl
joined_none s i (suc n) a h = absurd (omega arith)

pub joined_past : (s : List ℕ) (i n a : ℕ) → length s ≤ i → joined a (take n (drop i s)) ≡ a
joined_past s i n a h = rw (drop_of_length-le s h, take-nil n)

pub joined_next : (s : List ℕ) (i n a : ℕ) → i < length s → 0 < n
    → joined (256 * a + get_or s i 0) (take (n - 1) (drop (i + 1) s)) ≡ joined a (take n (drop i s))
joined_next s i zero a h p = absurd (omega arith)
joined_next s i (suc n) a h p = let e : suc n - 1 ≡ n = omega arith in rw (drop-cons s i 0 h, add-one, e)

-- ---- up to k bytes are a number of k bytes
wider_up : (k c : ℕ) → c ≤ wider k c
wider_up zero c = omega arith
wider_up (suc k) c = omega (arith, wider_up k c)

joined_few : (k : ℕ) (t : List ℕ) (a c : ℕ) → Bytes t → a < c → joined a (take k t) < wider k c
joined_few zero t a c b h = h
joined_few (suc k) [] a c b h = omega (arith, wider_up k c)
joined_few (suc k) (x ∷ t) a c b h =
    rw (wider_more k c) at (joined_few k t (256 * a + x) (256 * c) b.1 (omega arith))

module _ (s : List ℕ) (i v : ℕ) (bytes : (i : ℕ) → Fits w8 (get_or s i 0)) where
  few : (k : ℕ) → joined 0 (take k (drop i s)) < wider k 1
  few k = joined_few k (drop i s) 0 1 (bytes_drop i s (bytes_all s (λ i. (bytes i).fits))) (omega arith)

  pub four_few : v ≡ joined 0 (take 4 (drop i s)) % 2 ^ 64 → (v ≡ joined 0 (take 4 (drop i s))) × (v < 2 ^ 32)
  four_few e = let b = few 4 in (omega (arith, e), omega (arith, e))

  pub eight_few : v ≡ joined 0 (take 8 (drop i s)) % 2 ^ 64 → v ≡ joined 0 (take 8 (drop i s))
  eight_few e = let b = few 8 in omega (arith, e)

-- ---- one byte more; four, and eight
pub joined_one : (s : List ℕ) (i n a : ℕ) → i < length s
    → joined a (take (suc n) (drop i s)) ≡ joined (256 * a + get_or s i 0) (take n (drop (suc i) s))
joined_one s i n a h = rw (drop-cons s i 0 h) refl

four_more : (m : List ℕ) (i n a : ℕ) → i + 4 ≤ length m
    → joined a (take (suc (suc (suc (suc n)))) (drop i m))
    ≡ joined (256 * (256 * (256 * (256 * a + get_or m i 0) + get_or m (i + 1) 0) + get_or m (i + 2) 0) + get_or m (i + 3) 0)
    (take n (drop (i + 4) m))
four_more m i n a h =
    let e : i + 1 ≡ suc i = omega arith in
    let f : i + 2 ≡ suc (suc i) = omega arith in
    let g : i + 3 ≡ suc (suc (suc i)) = omega arith in
    let k : i + 4 ≡ suc (suc (suc (suc i))) = omega arith in
    rw (e, f, g, k)
    (joined_one m i (suc (suc (suc n))) a (omega arith)
    ∙ joined_one m (suc i) (suc (suc n)) (256 * a + get_or m i 0) (omega arith)
    ∙ joined_one m (suc (suc i)) (suc n) (256 * (256 * a + get_or m i 0) + get_or m (suc i) 0) (omega arith)
    ∙ joined_one m (suc (suc (suc i))) n
    (256 * (256 * (256 * a + get_or m i 0) + get_or m (suc i) 0) + get_or m (suc (suc i)) 0) (omega arith))

pub four_is : (m : List ℕ) (i v : ℕ)
    → v ≡ 256 * (256 * (256 * get_or m i 0 + get_or m (i + 1) 0) + get_or m (i + 2) 0) + get_or m (i + 3) 0
    → i + 4 ≤ length m
    → v ≡ joined 0 (take 4 (drop i m))
four_is m i v e h = omega (arith, e, four_more m i 0 0 h)

pub eight_is : (m : List ℕ) (i a b : ℕ) → i + 8 ≤ length m
    → a ≡ joined 0 (take 4 (drop i m)) → b ≡ joined 0 (take 4 (drop (i + 4) m))
    → a * 0x1_0000_0000 + b ≡ joined 0 (take 8 (drop i m))
eight_is m i a b h ea eb =
    let x = four_more m i 0 0 (omega arith) in
    let y = four_more m (i + 4) 0 0 (omega arith) in
    let w : ℕ = 256 * (256 * (256 * (256 * 0 + get_or m i 0) + get_or m (i + 1) 0) + get_or m (i + 2) 0) + get_or m (i + 3) 0 in
    omega (arith, ea, eb, x, y, four_more m i 4 0 (omega arith), four_more m (i + 4) 0 w (omega arith))

-- ---- bytes stored one by one: the last of a run first
pub sets_snoc : (s l : List ℕ) (i b : ℕ) → sets (set l (i + length s) b) i s ≡ sets l i (s ++ (b ∷ []))
sets_snoc [] l i b = rw add-zero
sets_snoc (x ∷ s) l i b =
    let e : i + suc (length s) ≡ suc i + length s = omega arith in
    rw (e, set_comm l (suc i + length s) i b x (λ q. omega arith)) (sets_snoc s (set l i x) (suc i) b)

-- of a number's bytes: the lowest first, or none
pub sets_be : (l : List ℕ) (at k u : ℕ) → 0 < k
    → sets (set l (at + (k - 1)) (u % 256)) at (be (k - 1) (u / 256)) ≡ sets l at (be k u)
sets_be l at zero u h = absurd (omega arith)
sets_be l at (suc k) u h =
    let e : suc k - 1 ≡ k = omega arith in
    rw e (rw (be_length k (u / 256)) at (sets_snoc (be k (u / 256)) l at (u % 256)))

pub sets_none : (l : List ℕ) (at k u : ℕ) → k ≤ 0 → sets l at (be k u) ≡ l
sets_none l at zero u h = refl
sets_none l at (suc k) u h = absurd (omega arith)

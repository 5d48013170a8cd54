-- The longest chunks first are the shortest spelling. Chunks count units. A content is here the list of its bytes'
-- units, at most two each.
use Rattle.std.specs.Prelude.{◌≡◌, refl, Bool, true, false, cond, List, [], ◌∷◌, ℕ, zero, suc, ◌+◌, ◌-◌, ◌≤◌, ◌<◌, T, ltb, length, take, drop}
use Rattle.std.proofs.Common.{sym, ◌∙◌, ap, arith, length-drop, drop-drop}
use Rattle.flow.specs.Tests.{by_test, by_cases, tests}
use Rattle.scalar.specs.Scalars.{total, fitting}

abbrev pub Chars : List ℕ → Type 0
Chars [] = Unit {0}
Chars (w ∷ ws) = (w ≤ 2) × Chars ws

-- the longest chunk has `cap` units, the last chunk's head has `last` bytes, another chunk's three
module _ (cap : ℕ) (last : ℕ → ℕ) where
  abbrev pub best : ℕ → List ℕ → ℕ
  best zero ws = 0
  best (suc k) ws = cond (ltb cap (total ws)) (3 + best k (drop (fitting cap ws) ws)) (last (total ws))

pub chars_drop : (j : ℕ) (ws : List ℕ) → Chars ws → Chars (drop j ws)
chars_drop zero ws h = h
chars_drop (suc j) [] h = tt
chars_drop (suc j) (w ∷ ws) h = chars_drop j ws h.1

total_drop : (j : ℕ) (ws : List ℕ) → total (drop j ws) ≤ total ws
total_drop zero ws = omega arith
total_drop (suc j) [] = omega arith
total_drop (suc j) (w ∷ ws) = omega (arith, total_drop j ws)

-- what fits is no more than `fitting`
pub span_most : (cap j : ℕ) (ws : List ℕ) → j ≤ length ws → total (take j ws) ≤ cap → j ≤ fitting cap ws
span_most cap zero ws l h = omega arith
span_most cap (suc j) [] l h = absurd (omega arith)
span_most cap (suc j) (w ∷ ws) l h =
    by_test (λ (n : ℕ). suc j ≤ n) (ltb cap w) (λ t. absurd (omega (arith, tests)))
    (λ t. omega (arith, span_most (cap - w) j ws (omega arith) (omega (arith, tests))))

pub span_fits : (cap : ℕ) (ws : List ℕ) → (fitting cap ws ≤ length ws) × (total (take (fitting cap ws) ws) ≤ cap)
span_fits cap [] = (omega arith, omega arith)
span_fits cap (w ∷ ws) =
    by_test (λ (n : ℕ). (n ≤ length (w ∷ ws)) × (total (take n (w ∷ ws)) ≤ cap)) (ltb cap w)
    (λ t. (omega arith, omega arith))
    (λ t. let p = span_fits (cap - w) ws in (omega arith, omega (arith, tests)))

-- where j fit, what fits of the rest
pub span_cut : (cap j : ℕ) (ws : List ℕ) → j ≤ fitting cap ws
    → fitting cap ws ≡ j + fitting (cap - total (take j ws)) (drop j ws)
span_cut cap zero ws l = let e : cap - 0 ≡ cap = omega arith in rw e (omega arith)
span_cut cap (suc j) [] l = absurd (omega arith)
span_cut cap (suc j) (w ∷ ws) l = by_cases (ltb cap w)
    (λ t. absurd (omega (arith, rw t at l)))
    (λ t.
    let e : cap - (w + total (take j ws)) ≡ cap - w - total (take j ws) = omega arith in
    let i : suc j ≤ suc (fitting (cap - w) ws) = rw t at l in
    rw (t, e) (omega (arith, span_cut (cap - w) j ws (omega arith))))

pub total_split : (j : ℕ) (ws : List ℕ) → total (take j ws) + total (drop j ws) ≡ total ws
total_split zero ws = omega arith
total_split (suc j) [] = omega arith
total_split (suc j) (w ∷ ws) = omega (arith, total_split j ws)

-- more room, more characters; and from a later start a chunk reaches as far
span_room : (a b : ℕ) (ws : List ℕ) → a ≤ b → fitting a ws ≤ fitting b ws
span_room a b ws h = let p = span_fits a ws in span_most b (fitting a ws) ws p.0 (omega arith)

span_reach : (cap j : ℕ) (ws : List ℕ) → fitting cap ws ≤ j + fitting cap (drop j ws)
span_reach cap zero ws = omega arith
span_reach cap (suc j) [] = omega arith
span_reach cap (suc j) (w ∷ ws) =
    by_test (λ (n : ℕ). n ≤ suc j + fitting cap (drop j ws)) (ltb cap w) (λ t. omega arith)
    (λ t. omega (arith, span_reach cap j ws, span_room (cap - w) cap ws (omega arith)))

-- two starts, the second no earlier
drop_later : (a b : ℕ) (ws : List ℕ) → a ≤ b → drop b ws ≡ drop (b - a) (drop a ws)
drop_later a b ws h = ap (λ (n : ℕ). drop n ws) (z a b h) ∙ sym (drop-drop (b - a) a ws)
  where
    z : (a b : ℕ) → a ≤ b → b ≡ a + (b - a)
    z a b h = omega arith

same_test : {A : Type 0} (t : Bool) {x x' : A} (y : A) → (T t → x ≡ x') → cond t x y ≡ cond t x' y
same_test true y h = h tt
same_test false y h = refl

module _ (cap : ℕ) (two : 2 ≤ cap) (last : ℕ → ℕ) (grows : (m n : ℕ) → m ≤ n → last m ≤ last n)
    (three : (n : ℕ) → n ≤ cap → last n ≤ 3) where
  pub progress : (ws : List ℕ) → Chars ws → cap < total ws → 0 < fitting cap ws
  progress [] c h = absurd (omega arith)
  progress (w ∷ ws) c h = by_test (λ (n : ℕ). 0 < n) (ltb cap w) (λ t. absurd (omega (arith, tests))) (λ t. omega arith)

  -- what is left is shorter
  pub shorter : (ws : List ℕ) → Chars ws → cap < total ws → (k : ℕ) → length ws < suc k
      → length (drop (fitting cap ws) ws) < k
  shorter ws c h k l = rw length-drop (omega (arith, progress ws c h, (span_fits cap ws).0))

  -- a later start costs no more
  mono : (k : ℕ) (ws : List ℕ) → Chars ws → length ws < k → (j : ℕ) → best cap last k (drop j ws) ≤ best cap last k ws
  mono zero ws c l j = absurd (omega arith)
  mono (suc k) ws c l j =
      by_test (λ (x : ℕ). x ≤ cond (ltb cap (total ws)) (3 + best cap last k (drop (fitting cap ws) ws))
      (last (total ws)))
      (ltb cap (total (drop j ws)))
      (λ t. by_test (λ (y : ℕ). 3 + best cap last k (drop (fitting cap (drop j ws)) (drop j ws)) ≤ y)
      (ltb cap (total ws))
      (λ u.
      main
      (mono k (drop (fitting cap ws) ws) (chars_drop (fitting cap ws) ws c) (shorter ws c (omega (arith, tests)) k l)))
      (λ u. absurd (omega (arith, tests, total_drop j ws))))
      (λ t. by_test (λ (y : ℕ). last (total (drop j ws)) ≤ y) (ltb cap (total ws))
      (λ u. omega (arith, three (total (drop j ws)) (omega (arith, tests))))
      (λ u. grows (total (drop j ws)) (total ws) (total_drop j ws)))
    where
      main : ((i : ℕ) → best cap last k (drop i (drop (fitting cap ws) ws)) ≤ best cap last k
          (drop (fitting cap ws) ws))
          → 3 + best cap last k (drop (fitting cap (drop j ws)) (drop j ws)) ≤ 3 + best cap last k
          (drop (fitting cap ws) ws)
      main ih =
          rw
          (drop-drop (fitting cap (drop j ws)) j ws
          ∙ drop_later (fitting cap ws) (j + fitting cap (drop j ws)) ws (span_reach cap j ws))
          (omega (arith, ih (j + fitting cap (drop j ws) - fitting cap ws)))

  -- more fuel is of no use
  enough : (k : ℕ) (ws : List ℕ) → Chars ws → length ws < k → best cap last (suc k) ws ≡ best cap last k ws
  enough zero ws c l = absurd (omega arith)
  enough (suc k) ws c l = same_test (ltb cap (total ws)) (last (total ws))
      (λ t.
      ap (λ (n : ℕ). 3 + n)
      (enough k (drop (fitting cap ws) ws) (chars_drop (fitting cap ws) ws c)
      (shorter ws c (omega (arith, tests)) k l)))

  -- one chunk more, of any j characters that fit, never beats the longest
  pub chunk_more : (k : ℕ) (ws : List ℕ) → Chars ws → length ws < k → (j : ℕ) → j ≤ length ws → total (take j ws) ≤ cap
      → best cap last k ws ≤ 3 + best cap last k (drop j ws)
  chunk_more zero ws c l j i h = absurd (omega arith)
  chunk_more (suc k) ws c l j i h =
      by_test (λ (x : ℕ). x ≤ 3 + best cap last (suc k) (drop j ws)) (ltb cap (total ws))
      (λ t. big (omega (arith, tests))) (λ t. omega (arith, three (total ws) (omega (arith, tests))))
    where
      big : cap < total ws → 3 + best cap last k (drop (fitting cap ws) ws) ≤ 3 + best cap last (suc k) (drop j ws)
      big u =
          let a = mono (suc k) (drop j ws) (chars_drop j ws c) (rw length-drop (omega arith)) (fitting cap ws - j) in
          let b = rw (← (drop_later j (fitting cap ws) ws (span_most cap j ws i h))) at a in
          let e = enough k (drop (fitting cap ws) ws) (chars_drop (fitting cap ws) ws c) (shorter ws c u k l) in
          omega arith

-- a last chunk's head: 1 byte to 31 units, 2 to 1,023, 3 from there on
-- any chunks: their characters' numbers. What they cost, and whether they are chunks of the text
abbrev pub cost : (ℕ → ℕ) → List ℕ → List ℕ → ℕ
cost last [] ws = last (total ws)
cost last (j ∷ js) ws = 3 + cost last js (drop j ws)

abbrev pub Cut : ℕ → List ℕ → List ℕ → Type 0
Cut cap [] ws = total ws ≤ cap
Cut cap (j ∷ js) ws = (j ≤ length ws) × (total (take j ws) ≤ cap) × Cut cap js (drop j ws)

module _ (cap : ℕ) (two : 2 ≤ cap) (last : ℕ → ℕ) (grows : (m n : ℕ) → m ≤ n → last m ≤ last n)
    (three : (n : ℕ) → n ≤ cap → last n ≤ 3) where
  pub greedy : (js ws : List ℕ) → Chars ws → Cut cap js ws → (k : ℕ) → length ws < k
      → best cap last k ws ≤ cost last js ws
  greedy [] ws c x zero l = absurd (omega arith)
  greedy [] ws c x (suc k) l =
      by_test (λ (n : ℕ). n ≤ last (total ws)) (ltb cap (total ws)) (λ t. absurd (omega (arith, tests)))
      (λ t. omega arith)
  greedy (j ∷ js) ws c x k l =
      omega (
        arith,
        chunk_more cap two last grows three k ws c l j x.0 x.1,
        greedy js (drop j ws) (chars_drop j ws c) x.2 k (rw length-drop (omega arith)),
      )

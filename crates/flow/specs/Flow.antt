-- Choices and bytes; readers, and how they are put together; lists stored in lists; answers.
use mathlib.Core.{Bool.Bool, Bool.true, Bool.false, Bool.cond, Bool.◌&&◌, List.List, List.[], List.◌∷◌, List.◌++◌}
use mathlib.Core.{List.map}
use Rattle.std.proofs.Math.Option.{Option, none, some}
use Rattle.std.specs.Prelude.{ℕ, zero, suc, ◌+◌, ◌*◌, ◌<◌}
use lib.{Dec.eqb, Dec.leb, Dec.ltb, ListN.length, ListN.take, ListN.drop}
use Rattle.flow.specs.RefusalNumbers.{cut}

unfoldable pub pick : {A : Type 0} → Bool → A → A → A  -- a choice by a test
pick true a b = a
pick false a b = b

abbrev pub on_some : {A B : Type 0} → (A → Option B) → Option A → Option B  -- what follows, where there is something
on_some f none = none
on_some f (some a) = f a

abbrev pub within : ℕ → ℕ → ℕ → Bool  -- from lo on and below hi
within lo hi b = leb lo b && ltb b hi

abbrev pub Bytes : List ℕ → Type 0
Bytes [] = Unit {0}
Bytes (b ∷ s) = (b < 256) × Bytes s

abbrev pub same_list : List ℕ → List ℕ → Bool  -- the same numbers in the same order
same_list [] [] = true
same_list [] (b ∷ t) = false
same_list (a ∷ s) [] = false
same_list (a ∷ s) (b ∷ t) = eqb a b && same_list s t

-- ---- readers. C: what is known so far. I: the items read. A: a reader's result
-- an item, the place of its first byte, and how many items it opens, itself the first of them
abbrev pub Entry : Type 0 → Type 0
Entry I = record { place : ℕ; span : ℕ; item : I }

pub data Outcome (C I A : Type 0) : Type 0 where
  -- bytes consumed, the result, the entries, what is known afterwards
  Done : ℕ → A → List (Entry I) → C → Outcome C I A
  Fault : ℕ → ℕ → Outcome C I A  -- a refusal's number and place

-- by what is known, a place, and the rest of the message from there
abbrev pub Read : Type 0 → Type 0 → Type 0 → Type 0
Read C I A = C → ℕ → List ℕ → Outcome C I A

abbrev pub From : Type 0 → Type 0 → Type 0 → Type 0  -- after a first byte that is read already: its place, and the byte
From C I A = ℕ → ℕ → Read C I A

abbrev pub One : Type 0
One = Unit {0}

abbrev pub items : {I : Type 0} → List (Entry I) → List I
items {I} es = map (λ (e : Entry I). e.item) es

module _ {C I : Type 0} where
  module _ {A : Type 0} where
    abbrev pub then : {B : Type 0} → Outcome C I A → (ℕ → A → List (Entry I) → C → Outcome C I B) → Outcome C I B
    then (Done n a es c) k = k n a es c
    then (Fault x o) k = Fault x o

    abbrev pub give : A → Read C I A  -- nothing is read
    give a c at s = Done 0 a [] c

    abbrev pub fail : ℕ → ℕ → Read C I A  -- refusal x at the place o
    fail x o c at s = Fault x o

    abbrev pub byte_at : From C I A → Read C I A  -- the one reader that takes a byte: where the message ends, it is cut
    byte_at g c at [] = Fault cut at
    byte_at g c at (b ∷ s) = then (g at b c (at + 1) s) (λ n a es c'. Done (suc n) a es c')

    abbrev pub changing : (C → C) → Read C I A → Read C I A  -- with what is known changed first
    changing φ f c at s = f (φ c) at s

    abbrev pub asking : (C → Read C I A) → Read C I A  -- by what is known
    asking g c at s = g c c at s

    abbrev pub mapped : {B : Type 0} → (A → B) → Read C I A → Read C I B  -- the result through a function
    mapped φ f c at s = then (f c at s) (λ n a es c'. Done n (φ a) es c')

    abbrev pub headed : ℕ → (A → I) → Read C I A → Read C I One  -- an item that opens the others, by the result
    headed p x f c at s =
        then (f c at s) (λ n a es c'. Done n tt (record { place = p; span = suc (length es); item = x a } ∷ es) c')

  abbrev pub bind : {A B : Type 0} → Read C I A → (A → Read C I B) → Read C I B  -- one after the other
  bind f g c at s =
      then (f c at s) (λ n a es c'. then (g a c' (at + n) (drop n s)) (λ m b fs c''. Done (n + m) b (es ++ fs) c''))

  abbrev pub after : {A : Type 0} → Read C I One → Read C I A → Read C I A
  after f g = bind f (λ u. g)

  abbrev pub many : From C I One → ℕ → Read C I One  -- n of them
  many f zero c at s = give tt c at s
  many f (suc n) c at s = after (byte_at f) (many f n) c at s

  -- up to the end byte e, and how many. The number only bounds the recursion: each takes at least a byte
  abbrev pub until : ℕ → From C I One → ℕ → Read C I ℕ
  until e f zero c at s = Fault cut at
  until e f (suc k) c at s = byte_at (λ p b. cond (eqb b e) (give 0) (after (f p b) (mapped suc (until e f k)))) c at s

  abbrev pub until_end : ℕ → From C I One → Read C I ℕ
  until_end e f c at s = until e f (length s) c at s

  -- any number of things before another, each begun by the byte e. The number only bounds the recursion
  abbrev pub preceded : ℕ → (ℕ → Read C I One) → From C I One → ℕ → From C I One
  preceded e d f zero p b = cond (eqb b e) (after (d p) (λ c at s. Fault cut at)) (f p b)
  preceded e d f (suc k) p b = cond (eqb b e) (after (d p) (byte_at (preceded e d f k))) (f p b)

  abbrev pub preceded_by : ℕ → (ℕ → Read C I One) → From C I One → From C I One
  preceded_by e d f p b c at s = preceded e d f (length s) p b c at s

-- ---- lists stored in lists: the list l with new in it from the index at on, whole or not at all
unfoldable pub stored : List ℕ → ℕ → List ℕ → List ℕ
stored l at new = pick (leb (at + length new) (length l)) (take at l ++ (new ++ drop (at + length new) l)) l

module _ {A : Type 0} (width : ℕ) (encode : A → List ℕ) where
  unfoldable pub put : List ℕ → ℕ → A → List ℕ  -- the table with x as its entry k, where that fits
  put t k x = stored t (k * width) (encode x)

  -- the table with the entries xs from the entry k on, those that fit
  unfoldable pub overlay : List ℕ → ℕ → List A → List ℕ
  overlay t k [] = t
  overlay t k (x ∷ xs) = overlay (put t k x) (suc k) xs

-- ---- an answer: a refusal's number, 0 where accepted; a count; a place
abbrev pub Report : Type 0
Report = record { number : ℕ; count : ℕ; place : ℕ }

-- one with no place
abbrev pub reported : ℕ → ℕ → Report
reported number count = record { number = number; count = count; place = 0 }

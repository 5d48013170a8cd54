-- No message that has a record is shorter than its spelling: of lists, whose counted form is chosen up to the threshold
-- open_from. The rest, and the whole, are in proofs/Laws/Short.antt.
use Rattle.std.specs.Prelude.{◌≡◌, length}
use Rattle.std.proofs.Math.Path.{refl, ap}
use Rattle.std.proofs.Common.{◌∙◌, subst, arith}
use mathlib.Core.List.{List, [], ◌∷◌, ◌++◌, append_assoc, append-nil}
use Rattle.std.proofs.Math.Option.{Option, some}
use Prim.Native.Nat.{ℕ, ◌+◌, ◌≤◌, ◌<◌}
use Rattle.std.proofs.Math.Dec.{ltb}
use Rattle.std.proofs.Math.ListN.{length-append}
use Rattle.flow.specs.Tests.{by_test, tests}
use Rattle.scalar.specs.Scalars.{shortest_int}
use Rattle.scalar.proofs.ScalarLaws.{small_count}
use Rattle.record.specs.Model.Items.{Item}
use Rattle.record.specs.Model.Items.{Known}
use Rattle.record.specs.Model.Items.{Limits}
use Rattle.record.specs.Model.Shortest.{on_spelled, prefixed}
use Rattle.record.specs.Model.Shortest.{Spelling, Spelled, Put, put_then, put_bytes, put_code}
use Rattle.record.specs.Model.Shortest.{put_list, put_open}

-- of these items, whatever follows, g makes at most n bytes
pub record Spells (g : Put) (c : Known) (is : List Item) (n : ℕ) (c' : Known) : Type 0 where
  pub spells : (rest : List Item) → (w : List ℕ) × (g c (is ++ rest) ≡ Spelled w rest c') × (length w ≤ n)

-- some bytes, at most n
abbrev pub Short : Option (List ℕ) → ℕ → Type 0
Short o n = (w : List ℕ) × (o ≡ some w) × (length w ≤ n)

-- ---- one after the other, several
pub at_most : {g : Put} {c c' : Known} {is : List Item} {m n : ℕ} → Spells g c is m c' → m ≤ n → Spells g c is n c'
at_most h l = record { spells = λ rest. let p = h.spells rest in (p.0, p.1, omega arith) }

pub both_put : (g g' : Put) (c c₁ c₂ : Known) (r r₁ r₂ : List Item) (u v : List ℕ) → g c r ≡ Spelled u r₁ c₁
    → g' c₁ r₁ ≡ Spelled v r₂ c₂ → put_then g g' c r ≡ Spelled (u ++ v) r₂ c₂
both_put g g' c c₁ c₂ r r₁ r₂ u v e f =
    ap (λ (o : Spelling). on_spelled o (λ w r' c'. prefixed w (g' c' r'))) e ∙ ap (prefixed u) f

pub then_spells : {g g' : Put} {c c₁ c₂ : Known} {is js : List Item} {m n : ℕ} → Spells g c is m c₁ → Spells g' c₁ js n c₂
    → Spells (put_then g g') c (is ++ js) (m + n) c₂
then_spells {g} {g'} {js = js} h k = record {
  spells = λ rest.
      let p = h.spells (js ++ rest) in
      let q = k.spells rest in
      (p.0 ++ q.0, rw append_assoc (both_put g g' _ _ _ _ _ _ _ _ p.1 q.1), rw length-append (omega arith));
}

-- ---- bytes
pub bytes_spell : (o : Option (List ℕ)) {c : Known} {n : ℕ} → Short o n → Spells (put_bytes o) c [] n c
bytes_spell o h = record { spells = λ rest. (h.0, rw h.1 refl, h.2) }

pub code_spells : (b : ℕ) {c : Known} → Spells (put_code b) c [] 1 c
code_spells b = record { spells = λ rest. (b ∷ [], refl, omega arith) }

-- the end byte stands for no item
ended_spells : {g : Put} {c c' : Known} {is : List Item} {n : ℕ} → Spells g c is n c'
    → Spells (put_then g (put_code 0x5a)) c is (n + 1) c'
ended_spells {g} {c} {c'} {is} {n} h = subst (λ (z : List Item). Spells (put_then g (put_code 0x5a)) c z (n + 1) c')
    (append-nil is) (then_spells h (code_spells 0x5a))

pub map_spells : (b : ℕ) {q body : Put} {c c₁ c₂ : Known} {is js : List Item} {m k : ℕ} → Spells q c is m c₁
    → Spells body c₁ js k c₂ → Spells (put_open b q body) c (is ++ js) (2 + (m + k)) c₂
map_spells b x y = at_most (then_spells (code_spells b) (then_spells x (ended_spells y))) (omega arith)

module _ (ℓ : Limits) (open_from : ℕ) (most : open_from ≤ 48) where
  -- ---- lists: the form chosen is no longer than another
  module _ (b₀ b₁ b₂ n : ℕ) {q body : Put} {c c₁ c₂ : Known} {is js : List Item} {m k : ℕ} (x : Spells q c is m c₁)
      (y : Spells body c₁ js k c₂) where
    one_byte : Spells (put_then (put_code (b₀ + n)) (put_then q body)) c (is ++ js) (1 + (m + k)) c₂
    one_byte = then_spells (code_spells (b₀ + n)) (then_spells x y)

    pub few_spells : n < 8 → Spells (put_list open_from b₀ b₁ b₂ n q body) c (is ++ js) (1 + (m + k)) c₂
    few_spells l = by_test (λ (g : Put). Spells g c (is ++ js) (1 + (m + k)) c₂) (ltb n 8) (λ t. one_byte)
        (λ t. absurd (omega (arith, tests)))

    pub list_spells : Spells (put_list open_from b₀ b₁ b₂ n q body) c (is ++ js) (2 + (m + k)) c₂
    list_spells =
        by_test (λ (g : Put). Spells g c (is ++ js) (2 + (m + k)) c₂) (ltb n 8) (λ t. at_most one_byte (omega arith))
        (λ t. by_test (λ (g : Put). Spells g c (is ++ js) (2 + (m + k)) c₂) (ltb n open_from)
        (λ t₁. let one : Short (shortest_int n) 1 = (
          (0x90 + n) ∷ [],
          small_count n (omega (arith, tests)),
          omega arith,
        ) in
        at_most (then_spells (code_spells b₁) (then_spells x (then_spells (bytes_spell (shortest_int n) one) y)))
        (omega arith))
        (λ t₁. map_spells b₂ x y))

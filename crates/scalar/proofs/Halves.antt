-- How halves are read, for all bytes: 2026-04, sentence by sentence. The rest of the message begins at the place o, and
-- so many units are left in the chunk.
use Rattle.std.proofs.Math.Path.{◌≡◌, refl, ap}
use Rattle.std.specs.Prelude.{true, false, take}
use mathlib.Core.List.{List, [], ◌∷◌, append-nil}
use Prim.Native.Nat.{ℕ, zero, suc, ◌+◌, ◌≤◌, ◌<◌}
use Rattle.std.proofs.Common.{arith}
use Rattle.flow.specs.Tests.{within_yes, within_above}
use Rattle.flow.specs.Flow.{pick, within, Outcome, Done, Fault}
use Rattle.scalar.specs.Scalars.{char_lead, paired, characters}
use Rattle.scalar.specs.Grammar.{IsHigh, IsLow}

-- what the reader's tests say of the second byte of a high half
second_high : (d : ℕ) → 0xa0 ≤ d → d < 0xb0 → (within 0x80 0xa0 d ≡ false) × (within 0xa0 0xb0 d ≡ true)
second_high d h k = (within_above 0x80 0xa0 d h, within_yes 0xa0 0xb0 d h k)

module _ {C I : Type 0} (c : C) (o : ℕ) where
  -- 'A high half followed directly, in the same chunk, by a low half shall be read as the one character, two units'
  pub pair_is_one : {d x y z : ℕ} → IsHigh d x → IsLow y z → (s : List ℕ)
      → characters {I = I} 2 c o (0xed ∷ d ∷ x ∷ 0xed ∷ y ∷ z ∷ s) ≡ Done 6 (paired d x y z) [] c
  unfolding char_lead pick
  pair_is_one {d} {x} {y} {z} h l s =
      let e = second_high d h.0 h.1 in
      let third = within_yes 0x80 0xc0 x h.2 h.3 in
      let fifth = within_yes 0xb0 0xc0 y l.0 l.1 in
      let sixth = within_yes 0x80 0xc0 z l.2 l.3 in
      rw (e.0, e.1, third, fifth, sixth, append-nil (paired d x y z)) refl

  -- 'A lone half stays refusal 4 at its own first byte': a low half that follows no high half, known by its second byte
  pub low_lone : (n d : ℕ) (s : List ℕ) → 0xb0 ≤ d → characters {I = I} (suc n) c o (0xed ∷ d ∷ s) ≡ Fault 4 o
  unfolding char_lead pick
  low_lone zero d s h = rw (within_above 0x80 0xa0 d (omega arith), within_above 0xa0 0xb0 d h) refl
  low_lone (suc n) d s h = rw (within_above 0x80 0xa0 d (omega arith), within_above 0xa0 0xb0 d h) refl

  -- 'a high half with one unit left in its chunk is such a lone half', known by its second byte, whatever follows: no
  -- low half is looked for in the next chunk
  pub one_left : (d : ℕ) (s : List ℕ) → 0xa0 ≤ d → d < 0xb0 → characters {I = I} 1 c o (0xed ∷ d ∷ s) ≡ Fault 4 o
  unfolding char_lead pick
  one_left d s h k = let e = second_high d h k in rw (e.0, e.1) refl

  -- with two units left or more, a high half
  module _ (n : ℕ) {d x : ℕ} (h : IsHigh d x) where
    -- that another byte than ed follows, or ed and another byte than b0..bf: it is lone
    pub other_follows : (e : ℕ) (s : List ℕ) → within 0xed 0xee e ≡ false
        → characters {I = I} (suc (suc n)) c o (0xed ∷ d ∷ x ∷ e ∷ s) ≡ Fault 4 o
    unfolding char_lead pick
    other_follows e s q =
        let t = second_high d h.0 h.1 in rw (t.0, t.1, within_yes 0x80 0xc0 x h.2 h.3, q) refl

    pub no_low_follows : (y : ℕ) (s : List ℕ) → within 0xb0 0xc0 y ≡ false
        → characters {I = I} (suc (suc n)) c o (0xed ∷ d ∷ x ∷ 0xed ∷ y ∷ s) ≡ Fault 4 o
    unfolding char_lead pick
    no_low_follows y s q =
        let t = second_high d h.0 h.1 in rw (t.0, t.1, within_yes 0x80 0xc0 x h.2 h.3, q) refl

    -- that a low half follows whose third byte is none: the pair, which is one character, is ill-formed
    pub low_ill_formed : (y z : ℕ) (s : List ℕ) → 0xb0 ≤ y → y < 0xc0 → within 0x80 0xc0 z ≡ false
        → characters {I = I} (suc (suc n)) c o (0xed ∷ d ∷ x ∷ 0xed ∷ y ∷ z ∷ s) ≡ Fault 4 o
    unfolding char_lead pick
    low_ill_formed y z s i j q =
        let t = second_high d h.0 h.1 in
        rw (t.0, t.1, within_yes 0x80 0xc0 x h.2 h.3, within_yes 0xb0 0xc0 y i j, q) refl

    -- 'where the message ends before the low half is complete, refusal 2': at the end
    pub pair_ends : {y z : ℕ} → IsLow y z → (k : ℕ) → k < 6
        → characters {I = I} (suc (suc n)) c o (take k (0xed ∷ d ∷ x ∷ 0xed ∷ y ∷ z ∷ [])) ≡ Fault 2 (o + k)
    unfolding char_lead pick
    pair_ends {y} {z} l k i = go k i (second_high d h.0 h.1) (within_yes 0x80 0xc0 x h.2 h.3)
      where
        end : {p q : ℕ} → p ≡ q → ◌≡◌ {A = Outcome C I (List ℕ)} (Fault 2 p) (Fault 2 q)
        end e = ap (λ (p : ℕ). Fault 2 p) e

        go : (k : ℕ) → k < 6 → (within 0x80 0xa0 d ≡ false) × (within 0xa0 0xb0 d ≡ true) → within 0x80 0xc0 x ≡ true
            → characters {I = I} (suc (suc n)) c o (take k (0xed ∷ d ∷ x ∷ 0xed ∷ y ∷ z ∷ [])) ≡ Fault 2 (o + k)
        go zero i t e = end (omega arith)
        go (suc zero) i t e = end (omega arith)
        go (suc (suc zero)) i t e = rw (t.0, t.1) (end (omega arith))
        go (suc (suc (suc zero))) i t e = rw (t.0, t.1, e) (end (omega arith))
        go (suc (suc (suc (suc zero)))) i t e = rw (t.0, t.1, e) (end (omega arith))
        go (suc (suc (suc (suc (suc zero))))) i t e =
            rw (t.0, t.1, e, within_yes 0xb0 0xc0 y l.0 l.1) (end (omega arith))
        go (suc (suc (suc (suc (suc (suc k)))))) i t e = absurd (omega arith)

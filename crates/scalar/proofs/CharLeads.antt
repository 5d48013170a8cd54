-- What a character's first byte says: one fact a row of `char_lead`.
use Rattle.std.specs.Prelude.{◌≡◌, refl, false, List, [], ◌∷◌, ℕ, ◌+◌, ◌-◌, ◌*◌, ◌≤◌, ◌<◌}
use Rattle.std.proofs.Common.{arith}
use Rattle.flow.specs.Tests.{pick_either, within_below, within_above, within_is}
use Rattle.flow.specs.Flow.{pick, within}
use Rattle.scalar.specs.declared.CharLead.{CharLead}
use Rattle.scalar.specs.declared.CharLead.TheVariants.{Basic, Supplementary, Halved, NoChar}
use Rattle.scalar.specs.Scalars.{char_lead}
use Rattle.scalar.proofs.Rows.{Row, row, chosen}

-- what follows a first byte lies from 80 to bf, and no first byte does. A supplementary character's first two bytes
-- hold the numbers from 10 to 10f, so that its code point lies from 10000 to 10ffff
abbrev Says : ℕ → CharLead → Type 0
Says b (Basic k lo hi) =
    (within 0x80 0xc0 b ≡ false) × ((b < 0xf0) × (b ≡ 0xed → ⊥) × (0 < k → 0x80 ≤ lo) × (hi ≤ 0xc0))
Says b (Supplementary lo hi) =
    (0xf0 ≤ b) × (b < 0xf5) × (0x80 ≤ lo) × (hi ≤ 0xc0)
    × (0x10 ≤ (b - 0xf0) * 0x40 + (lo - 0x80)) × ((b - 0xf0) * 0x40 + (hi - 0x80) ≤ 0x110)
Says b Halved = b ≡ 0xed
Says b NoChar = Unit {0}

pub says : (b : ℕ) → Says b (char_lead b)
unfolding char_lead
says b =
    row 0x00 0x80 _ _ (λ h k. (within_below 0x80 0xc0 b k, omega arith))
    (row 0xc2 0xe0 _ _ (λ h k. (within_above 0x80 0xc0 b (omega arith), omega arith))
    (row 0xe0 0xe1 _ _ (λ h k. (within_above 0x80 0xc0 b (omega arith), omega arith))
    (row 0xe1 0xed _ _ (λ h k. (within_above 0x80 0xc0 b (omega arith), omega arith))
    (row 0xed 0xee _ _ (λ h k. omega arith)
    (row 0xee 0xf0 _ _ (λ h k. (within_above 0x80 0xc0 b (omega arith), omega arith))
    (row 0xf0 0xf1 _ _ (λ h k. omega arith)
    (row 0xf1 0xf4 _ _ (λ h k. omega arith)
    (row 0xf4 0xf5 _ _ (λ h k. omega arith)
    tt))))))))
  where
    row : (lo hi : ℕ) (x y : CharLead) → (lo ≤ b → b < hi → Says b x) → Says b y → Says b (pick (within lo hi b) x y)
    row lo hi x y f g =
        pick_either (Says b) (within lo hi b) (λ t. let r = within_is lo hi b (rw t tt) in f r.0 r.1) (λ t. g)

-- the rows themselves
abbrev pub lead_rows : List (Row CharLead)
lead_rows =
    row 0x00 0x80 (λ b. Basic 0 0 0)
    ∷ row 0xc2 0xe0 (λ b. Basic 1 0x80 0xc0)
    ∷ row 0xe0 0xe1 (λ b. Basic 2 0xa0 0xc0)
    ∷ row 0xe1 0xed (λ b. Basic 2 0x80 0xc0)
    ∷ row 0xed 0xee (λ b. Halved)
    ∷ row 0xee 0xf0 (λ b. Basic 2 0x80 0xc0)
    ∷ row 0xf0 0xf1 (λ b. Supplementary 0x90 0xc0)
    ∷ row 0xf1 0xf4 (λ b. Supplementary 0x80 0xc0)
    ∷ row 0xf4 0xf5 (λ b. Supplementary 0x80 0x90)
    ∷ []

pub lead_rows_law : (b : ℕ) → char_lead b ≡ chosen NoChar lead_rows b
unfolding char_lead
lead_rows_law b = refl

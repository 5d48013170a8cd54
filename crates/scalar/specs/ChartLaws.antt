-- The chart of first bytes as a table. That it is the chart is proved in proofs/ChartLaws.antt (`entries`).
use Rattle.std.specs.Prelude.{List, [], ◌∷◌, ℕ, zero, suc, ◌+◌, ◌*◌}

-- the table of entries, in the order of the bytes: so many bytes have this kind, and so many bytes follow
abbrev pub entry_runs : List (ℕ × ℕ × ℕ)
entry_runs =
    (32, 7, 0)
    ∷ (16, 8, 0)
    ∷ (4, 7, 1) ∷ (4, 8, 1) ∷ (8, 4, 2)
    ∷ (1, 21, 0) ∷ (2, 8, 2) ∷ (1, 15, 0) ∷ (1, 5, 8) ∷ (1, 21, 0) ∷ (1, 1, 0) ∷ (1, 21, 0) ∷ (1, 11, 0) ∷ (1, 3, 4)
    ∷ (1, 6, 8) ∷ (1, 6, 4) ∷ (1, 4, 8) ∷ (1, 12, 0) ∷ (1, 0, 0) ∷ (1, 13, 0)
    ∷ (1, 21, 0) ∷ (1, 14, 0) ∷ (2, 7, 2) ∷ (1, 2, 0) ∷ (2, 10, 0) ∷ (2, 9, 0) ∷ (1, 4, 4) ∷ (1, 20, 0) ∷ (2, 5, 0)
    ∷ (1, 5, 1) ∷ (1, 5, 2) ∷ (1, 5, 4)
    ∷ (16, 13, 0)
    ∷ (8, 10, 0) ∷ (8, 9, 0)
    ∷ (64, 3, 0)
    ∷ (16, 3, 1)
    ∷ (8, 3, 2) ∷ (24, 4, 0)
    ∷ (16, 4, 1)
    ∷ []

abbrev repeated : ℕ → ℕ → List ℕ → List ℕ
repeated zero v s = s
repeated (suc n) v s = v ∷ repeated n v s

abbrev pub spread : List (ℕ × ℕ × ℕ) → List ℕ
spread [] = []
spread (r ∷ rs) = repeated r.0 (10 * r.1 + r.2) (spread rs)

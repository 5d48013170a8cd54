-- Grammars: what is known before, the bytes, the items, what is known after.
use Rattle.std.specs.Prelude.{List, [], ◌∷◌, ◌++◌, ℕ, suc}

abbrev pub Phrase : Type 0 → Type 0 → Type 1
Phrase C I = C → List ℕ → List I → C → Type 0

pub data Many {C I : Type 0} (G : Phrase C I) : ℕ → C → List ℕ → List I → C → Type 0 where  -- n of them
  finished : {c : C} → Many G 0 c [] [] c
  another : {n : ℕ} {c c₁ c₂ : C} {u v : List ℕ} {is js : List I} → G c u is c₁ → Many G n c₁ v js c₂
      → Many G (suc n) c (u ++ v) (is ++ js) c₂

-- n of them, and the end byte e
pub data Ended {C I : Type 0} (e : ℕ) (G : Phrase C I) : ℕ → C → List ℕ → List I → C → Type 0 where
  ended : {n : ℕ} {c c' : C} {v : List ℕ} {is : List I} → Many G n c v is c' → Ended e G n c (v ++ (e ∷ [])) is c'

-- things before another, each with its first byte e
pub data Preceded {C I : Type 0} (e : ℕ) (D G : Phrase C I) : C → List ℕ → List I → C → Type 0 where
  alone : {c c' : C} {w : List ℕ} {is : List I} → G c w is c' → Preceded e D G c w is c'
  first : {c c₁ c₂ : C} {u v : List ℕ} {is js : List I} → D c u is c₁ → Preceded e D G c₁ v js c₂
      → Preceded e D G c (e ∷ (u ++ v)) (is ++ js) c₂

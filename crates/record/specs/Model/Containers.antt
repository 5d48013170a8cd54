-- Reading what holds values, in any language: generic in what is known (C) and in the items (I).
use mathlib.Core.{Bool.cond, List.List, Option.Option, Option.none, Option.some}
use Rattle.std.specs.Prelude.{ℕ}
use lib.{Dec.ltb, ListN.length, ListN.get_or}
use Rattle.flow.specs.RefusalNumbers.{ungiven, over_ceiling}
use Rattle.flow.specs.Flow.{Read, From, One, fail, byte_at, changing, asking, mapped, after, many}

module _ {C I : Type 0} where
  -- a list, map or object whose opening code stands at p, which changes what is known by `opening`: refusal 7 there
  -- where no more may open, before all else about it
  abbrev pub container_of : (C → C) → Option (From C I One) → ℕ → (From C I One → Read C I One) → Read C I One
  container_of opening below p body = elim below [ none ↦ fail over_ceiling p | some f ↦ changing opening (body f) ]

  -- a key and its value
  abbrev pub pair : From C I One → From C I One
  pair f p b = after (f p b) (byte_at f)

  -- the fields of an object of class k, and how many, where `classes` are the classes known: an ungiven class is
  -- refusal 6 at the object's code, at p
  abbrev pub field_values_of : (C → List ℕ) → From C I One → ℕ → ℕ → Read C I ℕ
  field_values_of classes f p k = asking (λ c. cond (ltb k (length (classes c)))
      (mapped (λ u. get_or (classes c) k 0) (many f (get_or (classes c) k 0)))
      (fail ungiven p))

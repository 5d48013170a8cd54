-- The loops of the reading, at a place of the whole message: what is left of a list, a map, an object's fields or a
-- definition's names after i of them. How each goes on: proofs/ForReader/ReadLoops.antt.
use Rattle.std.specs.Prelude.{eqb, leb, length, get_or}
use mathlib.Core.Bool.{Bool, false, cond}
use mathlib.Core.List.{List}
use Prim.Native.Nat.{ℕ, ◌+◌, ◌-◌, ◌/◌, ◌%◌}
use Rattle.flow.specs.Flow.{pick, One, byte_at, mapped, after, many, until_end}
use Rattle.record.specs.declared.Group.{Group}
use Rattle.record.specs.declared.Group.TheVariants.{Counted, Fields, Open, Pairs}
use Rattle.record.specs.Model.Reading.{Reader, Opening}
use Rattle.record.specs.Model.Containers.{pair}

-- the values left after i of them; the result is how many there are in all, of a map the pairs
unfoldable pub rest : Opening One → Group → ℕ → Reader ℕ
rest f (Counted n) i = mapped (λ u. n) (many f (n - i))
rest f (Fields k n) i = mapped (λ u. n) (many f (n - i))
rest f Open i = mapped (λ k. i + k) (until_end 0x5a f)
rest f Pairs i = cond (eqb (i % 2) 0) (mapped (λ k. i / 2 + k) (until_end 0x5a (pair f)))
    (after (byte_at f) (mapped (λ k. i / 2 + 1 + k) (until_end 0x5a (pair f))))

-- 5a stands at p
abbrev pub closes : List ℕ → ℕ → Bool
closes m p = pick (leb (length m) p) false (eqb (get_or m p 0) 0x5a)

-- whether none is left after i of them, at p; where a map's value is due, 5a is no end
abbrev pub stops : List ℕ → Group → ℕ → ℕ → Bool
stops m (Counted n) i p = eqb i n
stops m (Fields k n) i p = eqb i n
stops m Open i p = closes m p
stops m Pairs i p = pick (eqb (i % 2) 0) (closes m p) false

-- the place after them, where none is left at p
abbrev pub past : Group → ℕ → ℕ
past (Counted n) p = p
past (Fields k n) p = p
past Open p = p + 1
past Pairs p = p + 1

-- how many i values are
abbrev pub parts : Group → ℕ → ℕ
parts (Counted n) i = i
parts (Fields k n) i = i
parts Open i = i
parts Pairs i = i / 2

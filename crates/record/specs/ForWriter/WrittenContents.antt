-- What is written of the values in a list, map or object that are left after j of them. The laws are in
-- proofs/ForWriter/WrittenContents.antt.
use Rattle.std.specs.Prelude.{eqb}
use mathlib.Core.Bool.{Bool, cond, ◌&&◌}
use Prim.Native.Nat.{ℕ, ◌-◌, ◌/◌, ◌%◌}
use Rattle.record.specs.declared.Contents.{Contents}
use Rattle.record.specs.declared.Contents.TheVariants.{Elements, Couples}
use Rattle.record.specs.Model.Shortest.{Put, put_then, put_many}

-- what is left after j values
unfoldable pub left : Put → Contents → ℕ → Put
left g (Elements n) j = put_many g (n - j)
left g (Couples n) j =
    cond (eqb (j % 2) 0) (put_many (put_then g g) (n - j / 2)) (put_then g (put_many (put_then g g) (n - j / 2 - 1)))

-- whether none is left after j values
abbrev pub done : Contents → ℕ → Bool
done (Elements n) j = eqb j n
done (Couples n) j = eqb (j % 2) 0 && eqb (j / 2) n

-- What a contract inside the writer sees of a lent table: the source, and the rows to write, in whichever layout they
-- lie.
use Rattle.std.specs.Prelude.{List, ℕ, suc}
use Rattle.record.specs.Model.Rows.{Row}
use Rattle.record.specs.Model.Answers.{base, Layout, rows_of}

pub record Lent : Type 0 where
  pub source : List ℕ
  pub rows : List Row

-- the first n rows of the table t
abbrev pub lent_of : Layout → (source t : List ℕ) → ℕ → Lent
lent_of L source t n = record { source = source; rows = rows_of L n t }

-- one more than the bytes of the longest message: so far bytes are counted
abbrev pub over_longest : ℕ
over_longest = suc base.longest

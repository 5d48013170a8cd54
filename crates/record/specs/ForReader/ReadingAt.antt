-- A reader at a place of the whole message: the end is a place, the entries are rows. The laws, one for
-- each combinator, are in proofs/ForReader/ReadingAt.antt.
use Rattle.std.specs.Prelude.{length}
use mathlib.Core.List.{List, [], ◌∷◌, ◌++◌}
use Prim.Native.Nat.{ℕ, suc, ◌+◌}
use Rattle.std.proofs.Math.ListN.{drop}
use Rattle.flow.specs.Flow.{Entry, Outcome, Done, Fault, One}
use Rattle.record.specs.Model.Items.{Item, Known}
use Rattle.record.specs.Model.Reading.{Reader}
use Rattle.record.specs.Model.Rows.{Row, row, item_row}

-- rows as a reader knows them: numbered from their own, so that the fifth number is how many rows each opens; and their
-- numbers from k on
abbrev pub marks : List (Entry Item) → List Row
marks [] = []
marks (e ∷ es) = item_row e.place e.span e.item ∷ marks es

abbrev pub from : ℕ → Row → Row
from k x = row x.kind x.place x.first x.second (k + x.after)

abbrev pub numbered : ℕ → List Row → List Row
numbered k [] = []
numbered k (x ∷ r) = from k x ∷ numbered (suc k) r

-- ReadTo: the place of the end, the result, the rows, what is known then. RefusedAt: a refusal's number and place
pub data ReadingAt (A : Type 0) : Type 0 where
  ReadTo : ℕ → A → List Row → Known → ReadingAt A
  RefusedAt : ℕ → ℕ → ReadingAt A

module _ {A : Type 0} where
  abbrev pub reading_of : ℕ → Outcome Known Item A → ReadingAt A
  reading_of p (Done n a es c) = ReadTo (p + n) a (marks es) c
  reading_of p (Fault x o) = RefusedAt x o

  -- f at the place p of the message m, where c is known
  unfoldable pub run : Reader A → Known → List ℕ → ℕ → ReadingAt A
  run f c m p = reading_of p (f c p (drop p m))

  -- these rows before the others
  abbrev pub front : List Row → ReadingAt A → ReadingAt A
  front rs (ReadTo e a qs c) = ReadTo e a (rs ++ qs) c
  front rs (RefusedAt x o) = RefusedAt x o

module _ {A B : Type 0} where
  -- what follows, with the rows so far in front
  abbrev pub on : ReadingAt A → (ℕ → A → Known → ReadingAt B) → ReadingAt B
  on (ReadTo e a rs c) k = front rs (k e a c)
  on (RefusedAt x o) k = RefusedAt x o

  -- the result through a function
  abbrev pub through : (A → B) → ReadingAt A → ReadingAt B
  through φ (ReadTo e a rs c) = ReadTo e (φ a) rs c
  through φ (RefusedAt x o) = RefusedAt x o

-- the row of an item before the others, by the result
abbrev pub topped : {A : Type 0} → ℕ → (A → Item) → ReadingAt A → ReadingAt One
topped p x (ReadTo e a rs c) = ReadTo e tt (item_row p (suc (length rs)) (x a) ∷ rs) c
topped p x (RefusedAt y o) = RefusedAt y o

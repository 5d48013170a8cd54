-- 2026-11, for the reader's code: a table that holds rows by the main rule, row after row in thousandths: the
-- table. The laws are in proofs/ForReader/Retelling.antt.
use Rattle.std.specs.Prelude.{◌≡◌, ℕ, ◌*◌, ◌≤◌}
use mathlib.Core.List.{List}
use Rattle.std.proofs.Math.ListN.{length}
use Rattle.flow.specs.Flow.{overlay}
use Rattle.record.specs.Model.Rows.{Row}
use Rattle.record.specs.Model.Answers.{Layout}
use Rattle.record.specs.Laws.TableLaws.{Sound, All}

-- the table T holds n rows of 64-bit numbers, over another
pub record HeldRows (L : Layout) (T : List ℕ) (n : ℕ) : Type 0 where
  pub under : List ℕ
  pub held : List Row
  pub count : length held ≡ n
  pub fit : All (Sound L) held
  pub room : length held * L.width ≤ length under
  pub is : T ≡ overlay L.width L.encode under 0 held

-- The writer at an index of the rows: the items that rows claim, up to the first row that claims none, and what is
-- written from an item on. The laws, one for each combinator of the spelling, are in proofs/ForWriter/WritingAt.antt.
use Rattle.std.proofs.Math.Path.{◌≡◌}
use Rattle.std.specs.Prelude.{Bool, get_or, eqb}
use Rattle.std.proofs.Math.Bool.{true, false}
use mathlib.Core.List.{List, [], ◌∷◌, ◌++◌}
use Rattle.std.proofs.Math.Option.{Option, none, some}
use Prim.Native.Nat.{ℕ, suc, ◌+◌, ◌-◌}
use Rattle.std.proofs.Math.ListN.{length, drop}
use Rattle.flow.specs.Flow.{pick, within}
use Rattle.record.specs.Model.Kinds.{list_kind, reference_kind, class_kind}
use Rattle.record.specs.Model.Items.{Value, Leaf, UntypedList, TypedList, UntypedMap, TypedMap, Object, Reference}
use Rattle.record.specs.Model.Items.{Item, Known}
use Rattle.record.specs.Model.Rows.{Row, row}
use Rattle.record.specs.Model.Shortest.{Spelling, Spelled, NoRecord, Put}
use Rattle.record.specs.Laws.Claimed.{item_at}
use Rattle.record.specs.Model.Claims.{ContentMap}

-- a list, map or object
abbrev pub holding : Value → Bool
holding (Leaf x) = false
holding (UntypedList n) = true
holding (TypedList n t) = true
holding (UntypedMap n) = true
holding (TypedMap n t) = true
holding (Object j n) = true
holding (Reference j) = false

-- ---- the items that rows claim, up to the first row that claims none
abbrev pub claimed_by : Option Item → List Item → List Item
claimed_by none is = []
claimed_by (some i) is = i ∷ is

-- the fifth number of the row k, where it is not judged by what the row holds: a definition's is past its names, that
-- of a single item past itself
abbrev pub plainly : ℕ → Row → Bool
plainly k x =
    pick (within list_kind reference_kind x.kind) true
    (pick (eqb x.kind class_kind) (eqb x.after (k + 2 + x.first))
    (eqb x.after (k + 1)))

abbrev pub row_at : List Row → ℕ → Row
row_at r k = get_or r k (row 0 0 0 0 0)

module _ (contents : ContentMap) where
  abbrev pub claim_at : ℕ → Row → Option Item
  claim_at k x = pick (plainly k x) (item_at contents x) none

  -- of rows numbered from b
  unfoldable pub claimed_from : ℕ → List Row → List Item
  claimed_from b [] = []
  claimed_from b (x ∷ r) = claimed_by (claim_at b x) (claimed_from (suc b) r)

  unfoldable pub claimed : List Row → List Item
  claimed r = claimed_from 0 r

-- the item i stands at k; none does
abbrev pub At : List Item → ℕ → Item → Type 0
At is k i = drop k is ≡ i ∷ drop (suc k) is

abbrev pub End : List Item → ℕ → Type 0
End is k = drop k is ≡ []

-- ---- what is written from the item k on
-- WrittenTo: the bytes, the index after the items, what is known then. NoMessage: no record
pub data WritingAt : Type 0 where
  WrittenTo : List ℕ → ℕ → Known → WritingAt
  NoMessage : WritingAt

abbrev pub writing_of : List Item → Spelling → WritingAt
writing_of is (Spelled w r c) = WrittenTo w (length is - length r) c
writing_of is NoRecord = NoMessage

unfoldable pub walk : Put → Known → List Item → ℕ → WritingAt
walk f c is k = writing_of is (f c (drop k is))

-- these bytes before; and what follows
abbrev pub behind : List ℕ → WritingAt → WritingAt
behind w (WrittenTo v e c) = WrittenTo (w ++ v) e c
behind w NoMessage = NoMessage

abbrev pub on_written : WritingAt → (ℕ → Known → WritingAt) → WritingAt
on_written (WrittenTo w e c) g = behind w (g e c)
on_written NoMessage g = NoMessage

-- The chart: what each first byte opens, and how many bytes follow before any content. The code tells bytes apart by
-- it; what is read is defined without it (Scalars.antt, and record's Model/Reading.antt), and agrees with it
-- (proofs/ChartLaws.antt, ByChart.antt).
use mathlib.Core.{List.List, List.[], List.◌∷◌}
use Rattle.std.specs.Prelude.{ℕ, suc, ◌+◌, ◌*◌}
use Rattle.flow.specs.Flow.{pick, within}
use Rattle.scalar.specs.declared.Sort.TheVariants.{Null, False, True, Int, Long, Double, Date}
use Rattle.scalar.specs.declared.Lead.{Lead}
use Rattle.scalar.specs.declared.Lead.TheVariants as lead
use Rattle.scalar.specs.Scalars.{sort_kind}

pub record Range : Type 0 where  -- the bytes from one to another
  pub from : ℕ
  pub to : ℕ
  pub opens : Lead
  pub follow : ℕ

abbrev pub range : ℕ → ℕ → Lead → ℕ → Range
range from to opens follow = record { from = from; to = to; opens = opens; follow = follow }

abbrev pub only : ℕ → Lead → ℕ → Range
only b opens follow = range b b opens follow

-- the rows of 01's table of first bytes, in its order; 5a, which only closes, and the reserved bytes at the end
unfoldable pub ranges : List Range
ranges =
    range 0x00 0x1f lead.Text 0 ∷ range 0x30 0x33 lead.Text 1 ∷ only 0x53 lead.Text 2
    ∷ only 0x52 lead.Text 2
    ∷ range 0x20 0x2f lead.Bytes 0 ∷ range 0x34 0x37 lead.Bytes 1 ∷ only 0x42 lead.Bytes 2
    ∷ only 0x41 lead.Bytes 2
    ∷ range 0x80 0xbf (lead.Number Int) 0 ∷ range 0xc0 0xcf (lead.Number Int) 1 ∷ range 0xd0 0xd7 (lead.Number Int) 2
    ∷ only 0x49 (lead.Number Int) 4
    ∷ range 0xd8 0xef (lead.Number Long) 0 ∷ range 0xf0 0xff (lead.Number Long) 1 ∷ range 0x38 0x3f (lead.Number Long) 2
    ∷ only 0x59 (lead.Number Long) 4 ∷ only 0x4c (lead.Number Long) 8
    ∷ only 0x4a (lead.Number Date) 8 ∷ only 0x4b (lead.Number Date) 4
    ∷ range 0x5b 0x5c (lead.Number Double) 0 ∷ only 0x5d (lead.Number Double) 1 ∷ only 0x5e (lead.Number Double) 2
    ∷ only 0x5f (lead.Number Double) 4 ∷ only 0x44 (lead.Number Double) 8
    ∷ only 0x4e (lead.Number Null) 0 ∷ only 0x46 (lead.Number False) 0 ∷ only 0x54 (lead.Number True) 0
    ∷ range 0x70 0x77 lead.TypedList 0 ∷ range 0x55 0x56 lead.TypedList 0
    ∷ range 0x78 0x7f lead.List 0 ∷ range 0x57 0x58 lead.List 0
    ∷ only 0x4d lead.TypedMap 0 ∷ only 0x48 lead.Map 0
    ∷ only 0x43 lead.Definition 0
    ∷ range 0x60 0x6f lead.Object 0 ∷ only 0x4f lead.Object 0
    ∷ only 0x51 lead.Reference 0
    ∷ only 0x5a lead.Close 0
    ∷ only 0x40 lead.Reserved 0 ∷ only 0x45 lead.Reserved 0 ∷ only 0x47 lead.Reserved 0 ∷ only 0x50 lead.Reserved 0 ∷ []

unfoldable pub range_of : List Range → ℕ → Range
range_of [] b = only b lead.Reserved 0
range_of (r ∷ rs) b = pick (within r.from (suc r.to) b) r (range_of rs b)

unfoldable pub lead_of : ℕ → Lead  -- what the byte opens
lead_of b = (range_of ranges b).opens

unfoldable pub kind_of : Lead → ℕ  -- the kind of the row that it opens; 20 only closes, 21 opens nothing
kind_of (lead.Number s) = sort_kind s
kind_of lead.Text = 7
kind_of lead.Bytes = 8
kind_of lead.List = 9
kind_of lead.TypedList = 10
kind_of lead.Map = 11
kind_of lead.TypedMap = 12
kind_of lead.Object = 13
kind_of lead.Reference = 14
kind_of lead.Definition = 15
kind_of lead.Close = 20
kind_of lead.Reserved = 21

-- how many bytes follow a first byte before any content; and its entry in the table: ten times the kind, and the bytes
-- that follow
unfoldable pub follow_of : ℕ → ℕ
follow_of b = (range_of ranges b).follow

unfoldable pub entry : ℕ → ℕ
entry b = 10 * kind_of (lead_of b) + follow_of b

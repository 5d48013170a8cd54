-- Each arm's bytes are a span of what the arm returns.
use Rattle.std.proofs.Common.{◌≡◌, ℕ, suc, ◌<◌, ◌≤◌, sym, refl, ⊎_elim, zero-le, arith}
use Rattle.scalar.specs.declared.Sort.TheVariants.{Null, False, True, Int, Long, Double, Date}
use Rattle.scalar.specs.declared.Lead.{Lead}
use Rattle.scalar.specs.declared.Lead.TheVariants as lead
use Rattle.scalar.specs.Chart.{lead_of}
use Rattle.scalar.proofs.ChartLaws.{spans, span_at, span_lead}
use Rattle.numbers.proofs.chart.classify.Goals as goal

range : (x : Lead) (i : ℕ) {b : ℕ} → (span_at (spans x) i).0 ≤ b → b < suc (span_at (spans x) i).1 → x ≡ lead_of b
range x i h k = sym (span_lead x i h (omega arith))

only : (x : Lead) (i : ℕ) {b : ℕ} → (span_at (spans x) i).0 ≡ (span_at (spans x) i).1 → b ≡ (span_at (spans x) i).0
    → x ≡ lead_of b
only x i e k = sym (span_lead x i (omega arith) (omega arith))

pub returns-in-78 : goal.returns-in-78
returns-in-78 c = only (lead.Number Null) 0 refl c.in-78.is

pub returns-in-70 : goal.returns-in-70
returns-in-70 c = only (lead.Number False) 0 refl c.in-70.is

pub returns-in-84 : goal.returns-in-84
returns-in-84 c = only (lead.Number True) 0 refl c.in-84.is

pub returns-in-77 : goal.returns-in-77
returns-in-77 c = only lead.TypedMap 0 refl c.in-77.is

pub returns-in-72 : goal.returns-in-72
returns-in-72 c = only lead.Map 0 refl c.in-72.is

pub returns-in-67 : goal.returns-in-67
returns-in-67 c = only lead.Definition 0 refl c.in-67.is

pub returns-in-81 : goal.returns-in-81
returns-in-81 c = only lead.Reference 0 refl c.in-81.is

pub returns-in-90 : goal.returns-in-90
returns-in-90 c = only lead.Close 0 refl c.in-90.is

pub returns-in-64 : goal.returns-in-64
returns-in-64 c = ⊎_elim (only lead.Reserved 0 refl)
    (⊎_elim (only lead.Reserved 1 refl) (⊎_elim (only lead.Reserved 2 refl) (only lead.Reserved 3 refl)))
    c.in-64.is

pub returns-in-74 : goal.returns-in-74
returns-in-74 c = range (lead.Number Date) 0
    (grind arith)
    (omega arith)

pub returns-in-120-to-127 : goal.returns-in-120-to-127
returns-in-120-to-127 c = range lead.List 1 (omega arith) (omega arith)

pub returns-in-120-to-127-2 : goal.returns-in-120-to-127-2
returns-in-120-to-127-2 c = range lead.List 0 (omega arith) (omega arith)

pub returns-in-112-to-119 : goal.returns-in-112-to-119
returns-in-112-to-119 c = range lead.TypedList 1 (omega arith) (omega arith)

pub returns-in-112-to-119-2 : goal.returns-in-112-to-119-2
returns-in-112-to-119-2 c = range lead.TypedList 0 (omega arith) (omega arith)

pub returns-in-32-to-47 : goal.returns-in-32-to-47
returns-in-32-to-47 c = range lead.Bytes 0 (omega arith) (omega arith)

pub returns-in-32-to-47-2 : goal.returns-in-32-to-47-2
returns-in-32-to-47-2 c = range lead.Bytes 1 (omega arith) (omega arith)

pub returns-in-32-to-47-3 : goal.returns-in-32-to-47-3
returns-in-32-to-47-3 c = range lead.Bytes 2
    (grind arith)
    (omega arith)

pub returns-in-0-to-31 : goal.returns-in-0-to-31
returns-in-0-to-31 c = range lead.Text 0 zero-le (omega arith)

pub returns-in-0-to-31-2 : goal.returns-in-0-to-31-2
returns-in-0-to-31-2 c = range lead.Text 1 (omega arith) (omega arith)

pub returns-in-0-to-31-3 : goal.returns-in-0-to-31-3
returns-in-0-to-31-3 c = range lead.Text 2
    (grind arith)
    (omega arith)

pub returns-in-96-to-111 : goal.returns-in-96-to-111
returns-in-96-to-111 c = only lead.Object 1 refl (omega arith)

pub returns-in-96-to-111-2 : goal.returns-in-96-to-111-2
returns-in-96-to-111-2 c = range lead.Object 0 (omega arith) (omega arith)

pub returns-in-128-to-215 : goal.returns-in-128-to-215
returns-in-128-to-215 c = only (lead.Number Int) 1 refl (omega arith)

pub returns-in-128-to-215-2 : goal.returns-in-128-to-215-2
returns-in-128-to-215-2 c = range (lead.Number Int) 0 (omega arith) (omega arith)

pub returns-in-91-to-95 : goal.returns-in-91-to-95
returns-in-91-to-95 c = only (lead.Number Double) 1 refl (omega arith)

pub returns-in-91-to-95-2 : goal.returns-in-91-to-95-2
returns-in-91-to-95-2 c = range (lead.Number Double) 0
    (grind arith) (omega arith)

pub returns-in-216-to-255 : goal.returns-in-216-to-255
returns-in-216-to-255 c = ⊎_elim (only (lead.Number Long) 3 refl) (only (lead.Number Long) 2 refl) (grind arith)

pub returns-in-216-to-255-2 : goal.returns-in-216-to-255-2
returns-in-216-to-255-2 c = range (lead.Number Long) 1 (omega arith) (omega arith)

pub returns-in-216-to-255-3 : goal.returns-in-216-to-255-3
returns-in-216-to-255-3 c = range (lead.Number Long) 0 (omega arith)
    c.ranges.b.fits

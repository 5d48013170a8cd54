-- The parts of the answers of `hessian_read` and `hessian_write` are small, and are packed.
use Rattle.std.proofs.Common.{◌≡◌, ℕ, ◌≤◌, List, length, ap, ◌∙◌, arith}
use Rattle.scalar.specs.Scalars.{DoubleRule}
use Rattle.flow.specs.Flow.{Report}
use Rattle.record.specs.Model.Claims.{content_at}
use Rattle.record.specs.Model.Answers.{base, base_open_from, as_bytes, lent_rows}
use Rattle.record.specs.Model.Calls.{ReadCall, WriteCall}
use Rattle.record.proofs.Laws.Bounds.{answer_small, written_small, written_place}
use Rattle.hessian.specs.declared.HessianAnswer.{HessianAnswer}
use Rattle.hessian.specs.Packed.{packed, answer_report, Says, Small, ReadGives, WriteGives}

module _ (a : HessianAnswer) (r : Report) (x : Says a r) where
  small : (s : Report) → r ≡ s → s.count ≤ base.longest → s.place ≤ base.longest → Small a
  small s e c p =
      let f = x.report ∙ e in
      let count = ap (λ (z : Report). z.count) f in
      let place = ap (λ (z : Report). z.place) f in
      record { number = x.small; count = omega (arith, c, count); place = omega (arith, p, place) }

  module _ {ρ : DoubleRule} {m t t' : List ℕ} (g : ReadCall ρ base as_bytes m t r t') where
    pub read_small : Small a
    read_small = let s = answer_small ρ base (lent_rows as_bytes t) m g.bytes in small _ g.report s.0 s.1

    pub read_gives : (v : ℕ) → v ≡ packed (answer_report a) → ReadGives ρ m t v t'
    read_gives v e = record { report = r; call = g; as_one = e ∙ ap packed x.report }

  module _ {s t : List ℕ} {n : ℕ} {o o' : List ℕ} (g : WriteCall base base_open_from as_bytes s t n o r o') where
    pub write_small : Small a
    write_small = small _ g.report (written_small base base_open_from as_bytes content_at s t n (length o))
        (written_place base base_open_from as_bytes content_at s t n (length o))

    pub write_gives : (v : ℕ) → v ≡ packed (answer_report a) → WriteGives s t n o v o'
    write_gives v e = record { report = r; call = g; as_one = e ∙ ap packed x.report }

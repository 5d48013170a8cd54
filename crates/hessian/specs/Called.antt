-- The proofs of the demands: Demands.antt states them.
use Rattle.std.specs.Prelude.{◌≡◌, refl, List, ◌↔◌, ℕ, ◌/◌, ◌%◌, ◌^◌, ◌≤◌, ◌<◌, length}
use Rattle.std.proofs.Common.{sym, ap, subst, ◌∙◌, arith}
use Rattle.scalar.specs.Scalars.{DoubleRule, Floats, Thousandths}
use Rattle.flow.specs.Flow.{Report}
use Rattle.record.specs.Model.Claims.{content_of, content_at}
use Rattle.record.proofs.Laws.NamedContents.{named_content_law}
use Rattle.scalar.proofs.AnswerLaws.{report_stored, output_some}
use Rattle.record.specs.Model.Answers.{base, base_open_from, as_numbers, as_bytes, lent_rows}
use Rattle.record.specs.Model.Calls.{ReadCall, WriteCall}
use Rattle.record.proofs.Laws.Bounds.{answer_small, written_small, written_place}
use Rattle.record.specs.Laws.Layouts.{numbers_keep, bytes_keep}
use Rattle.record.proofs.Theorems.Called.{theorem}
use Rattle.hessian.specs.Packed.{answer, packed, unpacked, ReadGives, WriteGives}
use Rattle.hessian.specs.Demands as demands

pub of_numbers : demands.OfNumbers
of_numbers = theorem base (omega arith) base_open_from (omega arith) as_numbers numbers_keep

pub of_bytes : demands.OfBytes
of_bytes = theorem base (omega arith) base_open_from (omega arith) as_bytes bytes_keep

pub of_reader_read : demands.OfReaderRead
of_reader_read ρ m t r t' g = (of_numbers.reading ρ m t _ t' g.call, of_numbers.measuring ρ m t _ _ t' g)

pub of_writer_write : demands.OfWriterWrite
of_writer_write s t n o r o' g = of_numbers.writing s t n o _ o' g

pub of_reader_read_bytes : demands.OfReaderReadBytes
of_reader_read_bytes ρ m t r t' g = (of_bytes.reading ρ m t _ t' g.call, of_bytes.measuring ρ m t _ _ t' g)

pub of_reader_fill_bytes : demands.OfReaderFillBytes
of_reader_fill_bytes ρ m t r t' g = of_bytes.reading ρ m t _ t' g

pub of_writer_write_bytes : demands.OfWriterWriteBytes
of_writer_write_bytes s t n o r o' g = of_bytes.writing s t n o _ o' g

-- ---- the parts of an answer that crossed to C
-- a report whose count and place are small is its parts again
back : (r : Report) → r.count ≤ base.longest → r.place ≤ base.longest → unpacked (packed r) ≡ r
back r c p =
    let x : packed r / 2 ^ 48 ≡ r.number = omega arith in
    let y : packed r / 2 ^ 24 % 2 ^ 24 ≡ r.count = omega arith in
    let z : packed r % 2 ^ 24 ≡ r.place = omega arith in
    λ i. answer (x i) (y i) (z i)

read_call : (ρ : DoubleRule) (m t : List ℕ) (a : ℕ) (t' : List ℕ) → ReadGives ρ m t a t'
    → ReadCall ρ base as_bytes m t (unpacked a) t'
read_call ρ m t a t' g =
    let s = answer_small ρ base (lent_rows as_bytes t) m g.call.bytes in
    let e = g.call.report in
    let c : g.report.count ≤ base.longest = subst (λ (r : Report). r.count ≤ base.longest) (sym e) s.0 in
    let p : g.report.place ≤ base.longest = subst (λ (r : Report). r.place ≤ base.longest) (sym e) s.1 in
    subst (λ (r : Report). ReadCall ρ base as_bytes m t r t') (sym (ap unpacked g.as_one ∙ back g.report c p))
    g.call

write_call : (s t : List ℕ) (n : ℕ) (o : List ℕ) (a : ℕ) (o' : List ℕ) → WriteGives s t n o a o'
    → WriteCall base base_open_from as_bytes s t n o (unpacked a) o'
write_call s t n o a o' g =
    let e = g.call.report in
    let c : g.report.count ≤ base.longest = subst (λ (r : Report). r.count ≤ base.longest) (sym e)
    (written_small base base_open_from as_bytes content_at s t n (length o)) in
    let p : g.report.place ≤ base.longest = subst (λ (r : Report). r.place ≤ base.longest) (sym e)
    (written_place base base_open_from as_bytes content_at s t n (length o)) in
    subst (λ (r : Report). WriteCall base base_open_from as_bytes s t n o r o')
    (sym (ap unpacked g.as_one ∙ back g.report c p)) g.call

pub of_hessian_read : demands.OfHessianRead
of_hessian_read ρ m t a t' g = of_bytes.reading ρ m t _ t' (read_call ρ m t a t' g)

pub of_hessian_write : demands.OfHessianWrite
of_hessian_write s t n o a o' g = of_bytes.writing s t n o _ o' (write_call s t n o a o' g)

pub hessian_shortest : demands.HessianShortest
hessian_shortest s t n w x =
    let y = of_bytes.shortening s t n w x in
    record {
      written_reads = λ t₂ a₂ t₂' g. y.written_reads t₂ _ t₂' (read_call Floats w t₂ a₂ t₂' g);
      no_shorter = λ m tm am tm' g. y.no_shorter m tm _ tm' (read_call Floats m tm am tm' g);
    }

pub hessian_rewritten : demands.HessianRewritten
hessian_rewritten m t a t' g z o c o' h l =
    of_bytes.rewriting m t _ t' (read_call Floats m t a t' g) z o _ o' (write_call m t' (unpacked a).count o c o' h) l

pub hessian_length : demands.HessianLength
hessian_length ρ m n l t a t' g =
    let call = read_call ρ m t a t' g in
    let alone = of_bytes.lengths ρ m t _ t' call in
    let said = of_bytes.measuring ρ m t _ _ t' (record { call = call; shortest = refl }) in
    let e = l.length in
    record {
      refused = subst (λ (k : ℕ). (k ≡ 0) ↔ (((unpacked a).number ≡ 0 → ⊥) × ((unpacked a).number ≡ 9 → ⊥))) (sym e)
          alone.refused;
      no_longer = λ q. subst (λ (k : ℕ). k ≤ length m) (sym e) (alone.no_longer q);
      written = λ z o c o' h.
          subst (λ (k : ℕ). (k ≤ base.longest → k ≤ length o → unpacked c ≡ answer 0 k 0)
          × (base.longest < k → unpacked c ≡ answer 1 0 0)
          × (k ≤ base.longest → length o < k → unpacked c ≡ answer 9 k 0)) (said.measured z ∙ sym e)
          (said.written z o _ o' (write_call m t' (unpacked a).count o c o' h));
    }

pub hessian_copies : demands.HessianCopies
hessian_copies s₁ t₁ n₁ o₁ a₁ o₁' g₁ z₁ s₂ t₂ n₂ o₂ a₂ o₂' g₂ z₂ =
    of_bytes.copying s₁ t₁ n₁ o₁ _ o₁' (write_call s₁ t₁ n₁ o₁ a₁ o₁' g₁) z₁
    s₂ t₂ n₂ o₂ _ o₂' (write_call s₂ t₂ n₂ o₂ a₂ o₂' g₂) z₂

pub hessian_skips : demands.HessianSkips
hessian_skips = of_bytes.skipping

pub hessian_rewritten_under : demands.HessianRewrittenUnder
hessian_rewritten_under ρ m t a t' g z o c o' h =
    let y = of_bytes.rewriting_under ρ m t _ t' (read_call ρ m t a t' g) z o _ o'
    (write_call m t' (unpacked a).count o c o' h) in
    (y.0, λ d t₂ a₂ t₂' r. y.1 d t₂ _ t₂' (read_call Floats _ t₂ a₂ t₂' r))

pub hessian_told : demands.HessianTold
hessian_told m t a t' g b t'' h =
    of_bytes.telling m t _ t' (read_call Floats m t a t' g) _ t'' (read_call Thousandths m t b t'' h)

pub hessian_contents : demands.HessianContents
hessian_contents s x i claims names o r o' g l =
    let e = named_content_law s x.kind x.place names ∙ claims.content in (
      g.report ∙ rw e (report_stored (length o) 0 (content_of i) (omega arith)),
      g.output ∙ rw e (output_some o 0 (content_of i)),
    )

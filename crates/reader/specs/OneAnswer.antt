-- A call's answer is known by its report and its length: an accepted message has a row, and refusal 9 counts at least
-- one, so that an accepted message or a refusal 9 is never told as another refusal.
use Rattle.std.specs.Prelude.{◌≡◌, ℕ, ◌<◌, ◌≤◌, Bool, cond, List, ◌==◌, refl, Result, Ok, Err}
use Rattle.std.proofs.Common.{ap, ◌∙◌, arith, ne_eqb}
use Rattle.scalar.specs.declared.refusals.Refusal.{Refusal}
use Rattle.flow.specs.RefusalNumbers.{no_room}
use Rattle.flow.specs.Flow.{Report}
use Rattle.scalar.specs.Refusals.{number_of, refusal_of, refusal_back}
use Rattle.scalar.specs.Scalars.{DoubleRule}
use Rattle.record.specs.Model.Items.{Limits}
use Rattle.record.specs.Model.Answers.{Layout}
use Rattle.record.specs.Model.Calls.{ReadCall}
use Rattle.record.proofs.Laws.Refusals.{located_numbered}
use Rattle.record.proofs.ForReader.ReadMessages.{rows_length}
use Rattle.record.proofs.Theorems.AnswerTheorems.{accepted_some}
use Rattle.record.proofs.Theorems.CallCases.{ReadCases, misfit, faulty, few_rows, whole, read_cases, entries_length}
use Rattle.reader.specs.declared.Accepted.{Accepted}
use Rattle.reader.specs.declared.ReadError.{ReadError}
use Rattle.reader.specs.declared.ReadError.TheVariants.{Refused, TooFew}
use Rattle.reader.specs.Answers.{report, shortest}

-- the answer that a report and a length tell
abbrev pub answer_of : Report → ℕ → Result Accepted ReadError
answer_of a w =
    cond (a.number == 0) (Ok (record { rows = a.count; length = a.place; shortest = w }))
    (cond (a.number == no_room) (Err (TooFew a.count))
    (Err (Refused (record { refusal = refusal_of a.number; place = a.place }))))

module _ (ρ : DoubleRule) (ℓ : Limits) (L : Layout) (m t t' : List ℕ) where
  pub one_answer : (r : Result Accepted ReadError) → ReadCall ρ ℓ L m t (report r) t'
      → answer_of (report r) (shortest r) ≡ r
  one_answer (Ok r) g = refl
  one_answer (Err (TooFew n)) g = refl
  one_answer (Err (Refused r)) g = go (read_cases ρ ℓ L m t (report (Err (Refused r))) t' g)
    where
      told : Result Accepted ReadError
      told = answer_of (report (Err (Refused r))) 0

      as_told : Result Accepted ReadError
      as_told = Err (Refused (record { refusal = refusal_of (number_of r.refusal); place = r.place }))

      other : 1 ≤ number_of r.refusal → number_of r.refusal < 9 → told ≡ Err (Refused r)
      other i j =
          ap (λ (b : Bool). cond b (Ok (record { rows = 0; length = r.place; shortest = 0 }))
          (cond (number_of r.refusal == 9) (Err (TooFew 0)) as_told))
          (ne_eqb (number_of r.refusal) 0 (λ (e : number_of r.refusal ≡ 0). omega arith))
          ∙ ap (λ (b : Bool). cond b (Err (TooFew 0)) as_told)
          (ne_eqb (number_of r.refusal) 9 (λ (e : number_of r.refusal ≡ 9). omega arith))
          ∙ ap (λ (x : Refusal). Err (Refused (record { refusal = x; place = r.place }))) (refusal_back r.refusal)

      go : ReadCases ρ ℓ L m t (report (Err (Refused r))) t' g → told ≡ Err (Refused r)
      go (misfit h e u) = let n = ap (λ (a : Report). a.number) e in other (omega arith) (omega arith)
      go (faulty y p h e u) =
          let n = ap (λ (a : Report). a.number) e in
          let i = located_numbered h in
          other (omega (arith, i.0)) (omega (arith, i.1))
      go (few_rows q y h e u) = let n = ap (λ (a : Report). a.count) e in absurd (omega arith)
      go (whole q y h e z) =
          let n = ap (λ (a : Report). a.count) e in
          absurd (omega (arith, rows_length y.entries, entries_length y, accepted_some ρ ℓ m g.bytes q y))

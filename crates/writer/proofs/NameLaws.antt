-- Texts and byte strings at a place of the source, of a row's sizes: put.
use mathlib.Core.Path.{◌≡◌, refl, sym, ap, ◌∙◌}
use mathlib.Core.List.{List}
use mathlib.Core.Option.{none, some}
use Prim.Native.Nat.{ℕ}
use native.Mathlib.Omega.{arith}
use lib.Dec.{eqb}
use lib.ListN.{length}
use borrow.Author.Tests.{eqb-true, eqb-false}
use Rattle.flow.specs.Steps.{Answer}
use Rattle.flow.specs.Flow.{Done, Fault}
use Rattle.flow.specs.Tests.{by_cases}
use Rattle.scalar.specs.declared.Encoding.{Encoding}
use Rattle.scalar.specs.Scalars.{units, string_at, shortest_string}
use Rattle.scalar.specs.Answers.{content_read, sized_form}
use Rattle.scalar.proofs.AnswerLaws.{sized_fault, sized_both, sized_other_units, sized_other_bytes}
use Rattle.std.specs.Prelude.{Result, Ok, Err}
use Rattle.writer.specs.declared.size.Size.{Size}
use Rattle.writer.specs.declared.progress.NoRecord.{NoRecord}
use Rattle.writer.specs.Promises.{PutMet, ContentAt, StringMet}

module _ (k : Encoding) (m : List ℕ) (p u b : ℕ) where
  -- the form of a string of these sizes
  form : (cs : List ℕ) → ContentAt k m p u b cs → sized_form k m p u b ≡ shortest_string k cs
  form cs z = of (string_at k m p) refl z.opens
    where
      of : (o : Answer (List ℕ)) → string_at k m p ≡ o → content_read o ≡ some cs
          → sized_form k m p u b ≡ shortest_string k cs
      of (Done n ds es c) e f =
          let q : ds ≡ cs = cc in
          rw q at (sized_both k m p u b n ds es c e (rw q (sym z.units_are)) (rw q (sym z.bytes_are)))
      of (Fault y o) e f = let q : ◌≡◌ {A = ℕ} 0 1 = cc in absurd (omega arith)

  -- where there is a form, the string has these sizes
  opened : (w : List ℕ) → sized_form k m p u b ≡ some w → (cs : List ℕ) × ContentAt k m p u b cs
  opened w f = of (string_at k m p) refl
    where
      none_there : sized_form k m p u b ≡ none → (cs : List ℕ) × ContentAt k m p u b cs
      none_there e = let z : ◌≡◌ {A = ℕ} 0 1 = cc in absurd (omega arith)

      of : (o : Answer (List ℕ)) → string_at k m p ≡ o → (cs : List ℕ) × ContentAt k m p u b cs
      of (Fault y o) q = none_there (sized_fault k m p u b y o q)
      of (Done n cs es c) q =
          by_cases (eqb (units k cs) u)
          (λ x. by_cases (eqb (length cs) b)
          (λ y. (
            cs,
            record {
              opens = ap content_read q;
              units_are = sym (eqb-true (units k cs) u x);
              bytes_are =
                  sym (eqb-true (length cs) b y);
            },
          ))
          (λ y. none_there (sized_other_bytes k m p u b n cs es c q (eqb-false (length cs) b y))))
          (λ x. none_there (sized_other_units k m p u b n cs es c q (eqb-false (units k cs) u x)))

  pub string_put : (out : List ℕ) (s : ℕ) (r : Result Size NoRecord) (out' : List ℕ)
      → PutMet (sized_form k m p u b) out s r out' → StringMet k m p u b out s r out'
  string_put out s (Ok n) out' y = let z = opened y.says.0 y.says.1 in
      record { says = (z.0, y.says.0, z.1, sym (form z.0 z.1) ∙ y.says.1, y.says.2) }
  string_put out s (Err e) out' y = record { says = λ cs z. sym (form cs z) ∙ y.says }

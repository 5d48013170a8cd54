-- Bytes put behind those so far: none, one, a form, and some after others.
use mathlib.Core.Path.{◌≡◌, refl, sym, ap, ◌∙◌}
use mathlib.Core.List.{List, [], ◌∷◌, ◌++◌}
use mathlib.Core.Option.{Option, none, some}
use Prim.Native.Nat.{ℕ, ◌+◌, ◌≤◌, ◌<◌, min}
use native.Mathlib.Omega.{arith}
use lib.ListN.{length, set, length-append}
use Rattle.flow.specs.Tests.{split}
use Rattle.flow.specs.Flow.{stored, Report, reported}
use Rattle.flow.specs.OverlayLaws.{stored_out, stored_sets, length_stored, stored_seam}
use Rattle.std.specs.Prelude.{Result, Ok, Err}
use Rattle.scalar.specs.declared.Unwritten.{Unwritten}
use Rattle.scalar.specs.declared.Unwritten.TheVariants.{NoRoom, NoSuchForm}
use Rattle.scalar.specs.Answers.{report, report_of, output_of, length_of}
use Rattle.scalar.proofs.AnswerLaws.{report_none, report_stored, report_over, output_some, length_none, length_some}
use Rattle.writer.specs.declared.size.Size.{Size}
use Rattle.writer.specs.declared.progress.NoRecord.{NoRecord}
use Rattle.writer.specs.Lent.{over_longest}
use Rattle.writer.specs.Promises.{Puts, PutBy, PutMet}

pub puts_none : (out : List ℕ) (s : ℕ) → s ≤ over_longest → Puts out s [] out s
puts_none out s h = record { grows = omega arith; same = refl; holds = λ i l. sym (stored_sets out s [] i) }

-- stored, or left out where they do not fit
pub puts_stored : {out w out' : List ℕ} {s r : ℕ} → out' ≡ stored out s w → r ≡ min (s + length w) over_longest
    → Puts out s w out' r
puts_stored {out} {w} {s = s} e g = record { grows = g; same = ap length e ∙ length_stored out s w; holds = λ i l. e }

pub puts_on : {out w o₁ v o₂ : List ℕ} {s s₁ s₂ : ℕ} → Puts out s w o₁ s₁ → Puts o₁ s₁ v o₂ s₂
    → Puts out s (w ++ v) o₂ s₂
puts_on {out} {w} {o₁} {v} {s = s} {s₁ = s₁} x y =
    let n = length-append w v in
    record {
      grows = omega (arith, x.grows, y.grows);
      same = y.same ∙ x.same;
      holds = λ i l.
          let e : s₁ ≡ s + length w = omega (arith, x.grows) in
          y.holds (omega (arith, x.same)) (omega arith)
          ∙ (λ j. stored (x.holds (omega arith) (omega arith) j) (e j) v) ∙ stored_seam out s w v i;
    }

-- ---- one byte
module _ {out out' : List ℕ} {s b r : ℕ} (g : r ≡ min (s + 1) over_longest) where
  pub puts_in : s < length out → out' ≡ set out s b → Puts out s (b ∷ []) out' r
  puts_in h e = puts_stored (e ∙ sym (stored_sets out s (b ∷ []) (omega arith))) g

  pub puts_out : length out ≤ s → out' ≡ out → Puts out s (b ∷ []) out' r
  puts_out h e = puts_stored (e ∙ sym (stored_out out s (b ∷ []) (omega arith))) g

-- ---- a form, by what was reported of it
told : (w : List ℕ) (len at : ℕ) → ((report_of (some w) len at).number ≡ 10 → ⊥)
    × ((report_of (some w) len at).count ≡ length w)
told w len at = split len (at + length w)
    (λ h. rw (report_over len at w h) ((λ z. omega arith), refl))
    (λ h. rw (report_stored len at w h) ((λ z. omega arith), refl))

module _ (out : List ℕ) (s : ℕ) (out' : List ℕ) where
  none_put : (a : Result ℕ Unwritten) (r : Result Size NoRecord) → report a ≡ reported 10 0 → PutBy a s r
      → PutMet none out s r out'
  none_put (Ok n) r t p = let z : ◌≡◌ {A = ℕ} 0 10 = ap (λ (x : Report). x.number) t in absurd (omega arith)
  none_put (Err (NoRoom n)) r t p = let z : ◌≡◌ {A = ℕ} 9 10 = ap (λ (x : Report). x.number) t in absurd (omega arith)
  none_put (Err NoSuchForm) (Ok x) t p = absurd p
  none_put (Err NoSuchForm) (Err e) t p = record { says = refl }

  module _ (w : List ℕ) (f : out' ≡ stored out s w) where
    bytes_put : (n : ℕ) → n ≡ length w → (x : Size) → x.bytes ≡ min (s + n) over_longest
        → PutMet (some w) out s (Ok x) out'
    bytes_put n e x g =
        record { says = (w, refl, puts_stored f (g ∙ ap (λ (n : ℕ). min (s + n) over_longest) e)) }

    some_put : (a : Result ℕ Unwritten) (r : Result Size NoRecord) → report a ≡ report_of (some w) (length out) s
        → PutBy a s r → PutMet (some w) out s r out'
    some_put (Ok n) (Ok x) t p = bytes_put n (ap (λ (x : Report). x.count) t ∙ (told w (length out) s).1) x p
    some_put (Ok n) (Err e) t p = absurd p
    some_put (Err (NoRoom n)) (Ok x) t p =
        bytes_put n (ap (λ (x : Report). x.count) t ∙ (told w (length out) s).1) x p
    some_put (Err (NoRoom n)) (Err e) t p = absurd p
    some_put (Err NoSuchForm) r t p = absurd ((told w (length out) s).0 (ap (λ (x : Report). x.number) (sym t)))

  pub form_put : (o : Option (List ℕ)) (a : Result ℕ Unwritten) (r : Result Size NoRecord)
      → (report a ≡ report_of o (length out) s) × (out' ≡ output_of o out s) → PutBy a s r → PutMet o out s r out'
  form_put none a r t p = none_put a r (t.0 ∙ report_none (length out) s) p
  form_put (some w) a r t p = some_put w (t.1 ∙ output_some out s w) a r t.0 p

-- ---- a form that was said to have n bytes
pub size_put : (o : Option (List ℕ)) (out : List ℕ) (s n : ℕ) (out' : List ℕ) (x : Size)
    → ((0 < n) × (n ≡ length_of o)) × (out' ≡ output_of o out s) → x.bytes ≡ min (s + n) over_longest
    → PutMet o out s (Ok x) out'
size_put none out s n out' x h g = absurd (omega (arith, h.0.0, h.0.1, length_none))
size_put (some w) out s n out' x h g =
    bytes_put out s out' w (h.1 ∙ output_some out s w) n (h.0.1 ∙ length_some w) x g

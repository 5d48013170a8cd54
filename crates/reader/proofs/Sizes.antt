-- What is read of a text or byte string takes at least one byte, and lies within the message.
use Rattle.std.proofs.Common.{◌≡◌, ℕ, ◌+◌, ◌<◌, ◌≤◌, List, [], length, sym, refl, ap, ◌∙◌, subst, arith, w64, Fits}
use Rattle.std.specs.Prelude.{Ok}
use Rattle.flow.specs.Flow.{Bytes, Done, Fault}
use Rattle.flow.specs.Steps.{Answer}
use Rattle.scalar.specs.declared.Encoding.{Encoding}
use Rattle.texts.specs.declared.StringPassed.{StringPassed}
use Rattle.scalar.specs.declared.Encoding.TheVariants.{Binary}
use Rattle.scalar.specs.Scalars.{string_at, units}
use Rattle.scalar.proofs.TextUnits.{singles}
use Rattle.scalar.specs.Answers.{Sizes, sized, sizes, measured_at}
use Rattle.scalar.proofs.AnswerLaws.{measured_fault, measured_done}
use Rattle.texts.specs.Answers.{StringIs, PassedMet, StringHas}
use Rattle.scalar.proofs.TextTheorems.{text_within}

pub measured_within : (k : Encoding) (m : List ℕ) → Bytes m → (p n u b w : ℕ)
    → measured_at k m p ≡ Done n (sized u b w) [] tt → (0 < n) × (p + n ≤ length m)
measured_within k m z p n u b w e = go (string_at k m p) refl
  where
    go : (o : Answer (List ℕ)) → string_at k m p ≡ o → (0 < n) × (p + n ≤ length m)
    go (Done j cs es c) d =
        let f = measured_done k m p j cs es c d in
        let h : j ≡ n = cc in
        let i = text_within k m z p j cs es d in
        (omega arith, omega arith)
    go (Fault x o) d =
        let f = measured_fault k m p x o d in
        let z : ◌≡◌ {A = ℕ} 0 1 = cc in
        absurd (omega arith)

-- the bytes of a byte string are its units
pub binary_has : (m : List ℕ) (p u b n : ℕ) → StringIs Binary m p u b n → StringHas Binary m p b b
binary_has m p u b n s = go (string_at Binary m p) refl
  where
    go : (o : Answer (List ℕ)) → string_at Binary m p ≡ o → StringHas Binary m p b b
    go (Done j cs es c) d =
        let f = sym (measured_done Binary m p j cs es c d) ∙ s.says in
        let h : sizes Binary cs ≡ sized u b s.shortest = cc in
        let v : units Binary cs ≡ u = ap (λ (x : Sizes). x.units) h in
        let w : length cs ≡ b = ap (λ (x : Sizes). x.bytes) h in
        let same : u ≡ b = omega (arith, v, w, singles Binary cs (λ i l. refl)) in
        record { size = n; is = subst (λ (x : ℕ). StringIs Binary m p x b n) same s }
    go (Fault x o) d =
        let f = sym (measured_fault Binary m p x o d) ∙ s.says in
        let z : ◌≡◌ {A = ℕ} 0 1 = cc in
        absurd (omega arith)

-- the same of what the code passed
module _ (k : Encoding) (m : List ℕ) (p : ℕ) {x : StringPassed} (t : PassedMet k m p (Ok x)) where
  pub string_room : Bytes m → (0 < x.size) × (p + x.size ≤ length m)
  string_room z = measured_within k m z p x.size x.units x.bytes t.says.shortest t.says.says

  pub string_fits : Bytes m → Fits w64 (length m) → Fits w64 (p + x.size)
  string_fits z f = let r = string_room z in omega (arith, r.1)

  pub string_has : StringHas k m p x.units x.bytes
  string_has = record { size = x.size; is = t.says }

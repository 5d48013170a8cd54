-- Reading a form by plain loads: the bytes after the first, what each form gives, and that this is what is read at a
-- first byte.
use Rattle.std.proofs.Common.{◌≡◌, ℕ, ◌+◌, ◌-◌, ◌*◌, ◌^◌, ◌<◌, ◌≤◌, leb, Fits, w8, List, [], ◌∷◌, length, get_or, take, drop, take_all, length-take, sym, refl, ap, ◌∙◌, add-one, arith, leb-false, leb-true}
use Rattle.std.specs.Prelude.{Result, Err, Some}
use Rattle.std.specs.Result.{IsErrAnd}
use Rattle.flow.specs.Tests.{pick_either, took_le, left_le, within_yes}
use Rattle.flow.specs.Steps.{Answer}
use Rattle.flow.specs.Flow.{Done}
use Rattle.flow.specs.Flow.{Bytes}
use Rattle.flow.specs.Tests.{bytes_take, bytes_drop, bytes_all}
use Rattle.wire.specs.BigEndian.{joined}
use Rattle.wire.specs.Laws.{joined_snoc}
use Rattle.std.proofs.Math.Seq.{take-suc}
use Rattle.scalar.specs.declared.Sort.{Sort}
use Rattle.scalar.specs.declared.Rule.{Rule}
use Rattle.scalar.specs.declared.Rule.TheVariants.{Exactly, Plain, Offset}
use Rattle.scalar.specs.declared.refusals.Refused.{Refused}
use Rattle.scalar.specs.Refusals.{fault}
use Rattle.scalar.specs.Scalars.{value, Form, form, forms_of, begun, form_at}
use Rattle.scalar.specs.Answers.{number_at}
use Rattle.numbers.specs.declared.NumberPassed.{NumberPassed}
use Rattle.numbers.specs.Answers.{passed, Followed, form_read, single_form}
use Rattle.numbers.proofs.Reading.{refused}
use Rattle.scalar.proofs.RuleLaws.{value_exactly, value_plain}
use Rattle.scalar.proofs.NumberLaws.{form_here}
use Rattle.scalar.proofs.NumberAt.{number_cut, number_there}

-- ---- a form: the message ends in it; its value
module _ (m : List ℕ) (p k u : ℕ) (r : Rule) where
  pub passed_cut : (x : Result NumberPassed Refused) (y : Refused) → IsErrAnd x (λ z. z ≡ y) → Followed m p k (Err y)
      → passed x ≡ form_read m p k u r
  passed_cut x y h c = refused x y h (ap fault c.1 ∙ took_le _ c.0 refl)

  pub formed_is : k < length m - p → (n v : ℕ) → n ≡ joined u (take k (drop (p + 1) m)) → v ≡ value r n
      → Done (k + 1) v [] tt ≡ form_read m p k u r
  formed_is h n v i e = left_le _ h (ap (λ (z : ℕ). Done (k + 1) z [] tt) (e ∙ ap (value r) i))

  -- at a first byte that begins it
  pub formed : (s : Sort) (o : Answer ℕ) → o ≡ form_read m p k u r → p < length m → (b : ℕ) → b ≡ get_or m p 0
      → Some (begun k u r) ≡ form_at (forms_of s) b → o ≡ number_at s m p
  formed s o q l b byte e =
      let starts = ap (form_at (forms_of s)) (sym byte) ∙ sym e in
      q
      ∙ pick_either (λ (o : Answer ℕ). o ≡ number_at s m p) (leb (length m - p) k)
      (λ y. let c = leb-true (length m - p) k y in sym (number_cut s m p l (begun k u r) starts (omega arith)))
      (λ y. let c = leb-false (length m - p) k y in
      rw (add-one p, add-one k) (sym (number_there s m p l (begun k u r) starts (omega arith))))

-- ---- byte by byte: the k bytes w after the first, of which i are read, and the number that they go on with
pub next_joined : (w : List ℕ) (i u : ℕ) {v b : ℕ} → v ≡ joined u (take i w) → i < length w → b ≡ get_or w i 0
    → v * 256 + b ≡ joined u (take (i + 1) w)
next_joined w i u e l f =
    rw (add-one i, take-suc w i 0 l, joined_snoc (take i w) u (get_or w i 0)) (omega arith)

module _ (m : List ℕ) (p k : ℕ) where
  abbrev pub after_first : List ℕ
  after_first = take (p + 1 + k - (p + 1)) (drop (p + 1) m)

  pub few_joined : (i u : ℕ) {v : ℕ} → ((i : ℕ) → Fits w8 (get_or m i 0)) → v ≡ joined u (take i after_first)
      → k ≤ 2 → u < 256 → v < 2 ^ 24
  few_joined i u bytes e h l = rw e (few (take i after_first) u
      (simp (length-take) (omega arith)) (bytes_take i after_first
      (bytes_take (p + 1 + k - (p + 1)) (drop (p + 1) m) (bytes_drop (p + 1) m (bytes_all m (λ i. (bytes i).fits))))) l)
    where
      few : (t : List ℕ) (u : ℕ) → length t ≤ 2 → Bytes t → u < 256 → joined u t < 2 ^ 24
      few [] u h b l = omega arith
      few (x ∷ []) u h b l = omega (arith, b.0)
      few (x ∷ y ∷ []) u h b l = omega (arith, b.0, b.1.0)
      few (x ∷ y ∷ z ∷ t) u h b l = absurd (omega arith)

  pub compact_is : (i u z : ℕ) {n v : ℕ} → k < length m - p → n ≡ joined u (take i after_first)
      → length after_first ≤ i → v ≡ value (Offset z) n → Done (k + 1) v [] tt ≡ form_read m p k u (Offset z)
  compact_is i u z h e l f =
      let all : p + 1 + k - (p + 1) ≡ k = omega arith in
      let whole = take_all i after_first l ∙ ap (λ (n : ℕ). take n (drop (p + 1) m)) all in
      formed_is m p k u (Offset z) h _ _ (e ∙ ap (joined u) whole) f

module _ (m : List ℕ) (p : ℕ) where
  pub nine_is : (n : ℕ) → 8 < length m - p → n ≡ joined 0 (take 8 (drop (p + 1) m))
      → Done 9 n [] tt ≡ form_read m p 8 0 Plain
  nine_is n h i = formed_is m p 8 0 Plain h n n i (sym (value_plain n))

  -- the only form of null, false or true
  pub single_is : (s : Sort) (code : ℕ) → forms_of s ≡ single_form code → p < length m → (b : ℕ) → b ≡ get_or m p 0
      → b ≡ code → Done 1 0 [] tt ≡ number_at s m p
  single_is s code f l b byte e =
      let here = within_yes code (code + 1) b (omega arith) (omega arith) in
      let starts = ap (λ (ws : List Form). form_at ws b) f ∙ form_here (form code 1 0 (Exactly 0)) [] b here in
      ap (λ (z : ℕ). Done 1 z [] tt) (sym (value_exactly _ 0))
      ∙ sym (number_there s m p l (begun 0 (b - code) (Exactly 0))
      (ap (form_at (forms_of s)) (sym byte) ∙ starts) (omega arith))

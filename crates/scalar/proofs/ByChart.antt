-- What is read agrees with the chart of first bytes.
use Rattle.std.specs.Prelude.{◌≡◌, Bool, not, ◌&&◌, List, [], ◌∷◌, ℕ, suc, ◌+◌, ◌≤◌, T, eqb, leb}
use Rattle.std.proofs.Math.Path.{refl, sym, ap}
use Rattle.std.proofs.Common.{◌∙◌, le_trans, eqb→eq, leb→le}
use Rattle.std.proofs.Math.Bool.{true, false}
use Rattle.std.proofs.Math.Dec.{ltb}
use Rattle.flow.specs.Flow.{pick, Read, From, Fault, fail, mapped}
use Rattle.flow.specs.Tests.{split, every, every_at, and_left, and_right, within_above}
use Rattle.scalar.specs.declared.Sort.{Sort}
use Rattle.scalar.specs.declared.Sort.TheVariants.{Null, False, True, Int, Long, Double, Date}
use Rattle.scalar.specs.declared.Encoding.{Encoding}
use Rattle.scalar.specs.declared.Encoding.TheVariants.{Utf8, Binary}
use Rattle.scalar.specs.declared.Lead.{Lead}
use Rattle.scalar.specs.declared.Lead.TheVariants as lead
use Rattle.scalar.specs.Scalars.{DoubleRule, Form, forms_of, number_under, part_head, last_heads, string_from, Scalar}
use Rattle.scalar.specs.Scalars.{Num, Str, begins, is_text, scalar_from}
use Rattle.scalar.specs.Chart.{Range, ranges, range_of, lead_of, kind_of}
use Rattle.scalar.proofs.ChartLaws.{kind_is}

-- a scalar by what its first byte opens
module _ {C I : Type 0} (ρ : DoubleRule) where
  abbrev pub scalar_by : Lead → From C I Scalar
  scalar_by (lead.Number s) p b = mapped (Num s) (number_under ρ (forms_of s) p b)
  scalar_by lead.Text p b = mapped (Str Utf8) (string_from Utf8 p b)
  scalar_by lead.Bytes p b = mapped (Str Binary) (string_from Binary p b)
  scalar_by lead.List p b = fail 3 p
  scalar_by lead.TypedList p b = fail 3 p
  scalar_by lead.Map p b = fail 3 p
  scalar_by lead.TypedMap p b = fail 3 p
  scalar_by lead.Object p b = fail 3 p
  scalar_by lead.Reference p b = fail 3 p
  scalar_by lead.Definition p b = fail 3 p
  scalar_by lead.Close p b = fail 3 p
  scalar_by lead.Reserved p b = fail 3 p

-- what the byte opens, by the forms that it begins
abbrev heads_of : Encoding → List Form
heads_of k = part_head k ∷ last_heads k

abbrev lead_by : ℕ → Lead
lead_by b =
    pick (begins (heads_of Utf8) b) lead.Text (pick (begins (heads_of Binary) b) lead.Bytes
    (pick (begins (forms_of Int) b) (lead.Number Int)
    (pick (begins (forms_of Long) b) (lead.Number Long) (pick (begins (forms_of Date) b) (lead.Number Date)
    (pick (begins (forms_of Double) b) (lead.Number Double) (pick (begins (forms_of Null) b) (lead.Number Null)
    (pick (begins (forms_of False) b) (lead.Number False)
    (pick (begins (forms_of True) b) (lead.Number True) lead.Reserved))))))))

-- kinds from 9 on are no scalar's
abbrev scalar_kind : ℕ → ℕ
scalar_kind k = pick (ltb k 9) k 21

same_kinds : T (every 256 (λ b. eqb (kind_of (lead_by b)) (scalar_kind (kind_of (lead_of b)))))
unfolding part_head last_heads forms_of kind_of lead_of range_of ranges pick
same_kinds = tt

-- no form begins with more than a byte, and no row of the chart has more
abbrev bounded : List Form → Bool
bounded [] = true
bounded (w ∷ ws) = leb (w.head + w.codes) 256 && bounded ws

begins_none : (ws : List Form) → T (bounded ws) → (b : ℕ) → 256 ≤ b → begins ws b ≡ false
begins_none [] t b l = refl
begins_none (w ∷ ws) t b l =
    rw
    (within_above w.head (w.head + w.codes) b
    (le_trans (leb→le (w.head + w.codes) 256 (and_left (leb (w.head + w.codes) 256) (bounded ws) t)) l))
    (begins_none ws (and_right (leb (w.head + w.codes) 256) (bounded ws) t) b l)

abbrev short : List Range → Bool
short [] = true
short (r ∷ rs) = leb (suc r.to) 256 && short rs

opens_none : (rs : List Range) → T (short rs) → (b : ℕ) → 256 ≤ b → (range_of rs b).opens ≡ lead.Reserved
unfolding range_of pick
opens_none [] t b l = refl
opens_none (r ∷ rs) t b l =
    rw
    (within_above r.from (suc r.to) b
    (le_trans (leb→le (suc r.to) 256 (and_left (leb (suc r.to) 256) (short rs) t)) l))
    (opens_none rs (and_right (leb (suc r.to) 256) (short rs) t) b l)

module _ (b : ℕ) (l : 256 ≤ b) where
  lead_none : lead_of b ≡ lead.Reserved
  unfolding lead_of ranges
  lead_none = opens_none ranges tt b l

  sort_none : (s : Sort) → begins (forms_of s) b ≡ false
  unfolding forms_of
  sort_none Null = begins_none (forms_of Null) tt b l
  sort_none False = begins_none (forms_of False) tt b l
  sort_none True = begins_none (forms_of True) tt b l
  sort_none Int = begins_none (forms_of Int) tt b l
  sort_none Long = begins_none (forms_of Long) tt b l
  sort_none Double = begins_none (forms_of Double) tt b l
  sort_none Date = begins_none (forms_of Date) tt b l

  heads_none : (k : Encoding) → begins (heads_of k) b ≡ false
  unfolding part_head last_heads
  heads_none Utf8 = begins_none (heads_of Utf8) tt b l
  heads_none Binary = begins_none (heads_of Binary) tt b l

  lead_by_none : lead_by b ≡ lead.Reserved
  unfolding pick
  lead_by_none =
      rw (
        heads_none Utf8,
        heads_none Binary,
        sort_none Int,
        sort_none Long,
        sort_none Date,
        sort_none Double,
        sort_none Null,
        sort_none False,
        sort_none True,
      ) refl

-- what no scalar opens with reads as none
module _ {C I : Type 0} (ρ : DoubleRule) (p b : ℕ) (c : C) (at : ℕ) (s : List ℕ) where
  pub kind_shut : (x : Lead) → T (not (ltb (kind_of x) 9)) → scalar_by {I = I} ρ x p b c at s ≡ Fault 3 p
  unfolding kind_of
  kind_shut (lead.Number Null) h = absurd h
  kind_shut (lead.Number False) h = absurd h
  kind_shut (lead.Number True) h = absurd h
  kind_shut (lead.Number Int) h = absurd h
  kind_shut (lead.Number Long) h = absurd h
  kind_shut (lead.Number Double) h = absurd h
  kind_shut (lead.Number Date) h = absurd h
  kind_shut lead.Text h = absurd h
  kind_shut lead.Bytes h = absurd h
  kind_shut lead.List h = refl
  kind_shut lead.TypedList h = refl
  kind_shut lead.Map h = refl
  kind_shut lead.TypedMap h = refl
  kind_shut lead.Object h = refl
  kind_shut lead.Reference h = refl
  kind_shut lead.Definition h = refl
  kind_shut lead.Close h = refl
  kind_shut lead.Reserved h = refl

  step : (t : Bool) (u v : Lead) (y : Read C I Scalar) → y ≡ scalar_by ρ v p b
      → pick t (scalar_by ρ u p b) y ≡ scalar_by ρ (pick t u v) p b
  unfolding pick
  step true u v y e = refl
  step false u v y e = e

  scalar_picked : scalar_from {I = I} ρ p b ≡ scalar_by {C = C} {I = I} ρ (lead_by b) p b
  unfolding scalar_from
  scalar_picked = step (begins (heads_of Utf8) b) lead.Text _ _ (step (begins (heads_of Binary) b) lead.Bytes _ _
      (step (begins (forms_of Int) b) (lead.Number Int) _ _
      (step (begins (forms_of Long) b) (lead.Number Long) _ _ (step (begins (forms_of Date) b) (lead.Number Date) _ _
      (step (begins (forms_of Double) b) (lead.Number Double) _ _ (step (begins (forms_of Null) b) (lead.Number Null) _ _
      (step (begins (forms_of False) b) (lead.Number False) _ _
      (step (begins (forms_of True) b) (lead.Number True) lead.Reserved _ refl))))))))

  by_kind : kind_of (lead_by b) ≡ scalar_kind (kind_of (lead_of b))
      → scalar_by {I = I} ρ (lead_by b) p b c at s ≡ scalar_by ρ (lead_of b) p b c at s
  unfolding pick kind_of
  by_kind e = go (ltb (kind_of (lead_of b)) 9) refl
    where
      go : (t : Bool) → ltb (kind_of (lead_of b)) 9 ≡ t
          → scalar_by {I = I} ρ (lead_by b) p b c at s ≡ scalar_by ρ (lead_of b) p b c at s
      go true h = ap (λ (x : Lead). scalar_by ρ x p b c at s) (kind_is (lead_by b) (lead_of b) (rw h at e))
      go false h =
          ap (λ (x : Lead). scalar_by ρ x p b c at s) (kind_is (lead_by b) lead.Reserved (rw h at e))
          ∙ sym (kind_shut (lead_of b) (rw h tt))

  pub scalar_by_law : scalar_from {I = I} ρ p b c at s ≡ scalar_by ρ (lead_of b) p b c at s
  scalar_by_law = ap (λ (f : Read C I Scalar). f c at s) scalar_picked ∙ split b 256
      (λ l.
      by_kind
      (eqb→eq (kind_of (lead_by b)) (scalar_kind (kind_of (lead_of b)))
      (every_at 256 (λ b. eqb (kind_of (lead_by b)) (scalar_kind (kind_of (lead_of b)))) same_kinds b l)))
      (λ l. ap (λ (x : Lead). scalar_by ρ x p b c at s) (lead_by_none b l ∙ sym (lead_none b l)))

-- a text is told by the chart
abbrev same : Bool → Bool → Bool
same true b = b
same false b = not b

same_is : (a b : Bool) → T (same a b) → a ≡ b
same_is true true t = refl
same_is true false t = absurd t
same_is false true t = absurd t
same_is false false t = refl

same_texts : T (every 256 (λ b. same (is_text b) (eqb (kind_of (lead_of b)) 7)))
unfolding part_head last_heads kind_of lead_of range_of ranges pick
same_texts = tt

pub text_told : (b : ℕ) → is_text b ≡ eqb (kind_of (lead_of b)) 7
unfolding kind_of
text_told b = split b 256
    (λ l.
    same_is (is_text b) (eqb (kind_of (lead_of b)) 7)
    (every_at 256 (λ b. same (is_text b) (eqb (kind_of (lead_of b)) 7)) same_texts b l))
    (λ l. heads_none b l Utf8 ∙ ap (λ (x : Lead). eqb (kind_of x) 7) (sym (lead_none b l)))

pub text_there : (b : ℕ) → lead_of b ≡ lead.Text → is_text b ≡ true
unfolding kind_of
text_there b e = text_told b ∙ ap (λ (x : Lead). eqb (kind_of x) 7) e

-- 2026-06: what the contracts of `lengths` ask, and the sum of rows' lengths.
use Rattle.std.proofs.Common.{◌≡◌, ℕ, suc, ◌+◌, ◌%◌, ◌^◌, ◌<◌, Bool, true, false, ◌&&◌, List, [], ◌∷◌, map, length, sym, refl, ap, ◌∙◌, subst, ◌⊎◌, inl, inr, arith, w64, Fits, eqb-true}
use Rattle.flow.specs.Tests.{by_cases, pick_false}
use Rattle.scalar.specs.declared.Encoding.{Encoding}
use Rattle.scalar.specs.declared.Encoding.TheVariants.{Utf8, Binary}
use Rattle.scalar.specs.declared.Sort.TheVariants.{Int}
use Rattle.scalar.specs.Scalars.{DoubleRule, forms_of, shortest, total}
use Rattle.scalar.specs.Answers.{length_of, item_form}
use Rattle.texts.specs.Answers.{StringHas, shortest_of, PassedLength}
use Rattle.record.specs.declared.kinds.Kind.{Kind}
use Rattle.record.specs.declared.kinds.Kind.TheVariants as kind
use Rattle.record.specs.Model.KindNumbers.{kind_number}
use Rattle.record.specs.Model.Rows.{Row, row}
use Rattle.record.specs.Model.Claims.{is_text_kind}
use Rattle.record.specs.Model.Terms.{at_five_f, row_in_thousandths}
use Rattle.record.specs.ForReader.ReadingAt.{numbered}
use Rattle.record.specs.Laws.RowLengths.{row_length, length_under}
use Rattle.record.proofs.Laws.RowLengths.{text_row_length, bytes_row_length, class_name_row_length}
use Rattle.record.proofs.Laws.RowLengths.{field_name_row_length, type_name_row_length}
use Rattle.record.proofs.Laws.RowLengths.{measured_length, under_moved, number_most}
use Rattle.reader.specs.Slots.{RowRead, added, keep_all}

pub int_fits : (x n : ℕ) → n ≡ length_of (shortest (forms_of Int) x) → Fits w64 (1 + n)
int_fits x n e = omega (arith, e, number_most Int x)

-- ---- the length of what a row names
said : (i : Encoding) (m : List ℕ) (p u b n : ℕ) → PassedLength i m p u b n → StringHas i m p u b
    → n ≡ length_of (item_form i m p)
said i m p u b n q s =
    q.is s ∙ ap shortest_of s.is.says ∙ sym (measured_length i m p s.size u b s.is.shortest [] tt s.is.says)

-- the kinds that name texts
abbrev NamesText : Kind → Type 0
NamesText k = (k ≡ kind.Text) ⊎ ((k ≡ kind.ClassName) ⊎ ((k ≡ kind.FieldName) ⊎ (k ≡ kind.TypeName)))

pub record TextKind (m : List ℕ) (k p a b e : ℕ) : Type 0 where
  pub is : is_text_kind k ≡ true
  pub length : row_length m (row k p a b e) ≡ length_of (item_form Utf8 m p)

text_kind : (m : List ℕ) (k : Kind) → NamesText k → (p a b e : ℕ) → TextKind m (kind_number k) p a b e
text_kind m k (inl q) p a b e = rw q (record { is = refl; length = text_row_length m p a b e })
text_kind m k (inr (inl q)) p a b e = rw q (record { is = refl; length = class_name_row_length m p a b e })
text_kind m k (inr (inr (inl q))) p a b e = rw q (record { is = refl; length = field_name_row_length m p a b e })
text_kind m k (inr (inr (inr q))) p a b e = rw q (record { is = refl; length = type_name_row_length m p a b e })

module _ (m : List ℕ) (r : Row) (h : RowRead m r) where
  pub text_length_is : (k : Kind) → kind_number k ≡ r.kind → NamesText k
      → (n : ℕ) → PassedLength Utf8 m r.place r.first r.second n → n ≡ row_length m r
  text_length_is k e t n q =
      let w = subst (λ (k : ℕ). TextKind m k r.place r.first r.second r.after) e
      (text_kind m k t r.place r.first r.second r.after) in
      said Utf8 m r.place r.first r.second n q (h.text w.is) ∙ sym w.length

  pub bytes_length_is : 8 ≡ r.kind → (n : ℕ) → PassedLength Binary m r.place r.first r.first n → n ≡ row_length m r
  bytes_length_is e n q =
      said Binary m r.place r.first r.first n q (h.binary (sym e))
      ∙ sym (bytes_row_length m r.place r.first r.second r.after)
      ∙ ap (λ (k : ℕ). row_length m (row k r.place r.first r.second r.after)) e

-- ---- a row in thousandths names what it named
pub told_read : (m : List ℕ) (r : Row) → RowRead m r → RowRead m (row_in_thousandths m r)
told_read m r h = by_cases (at_five_f m r)
    (λ t. let k : r.kind ≡ 5 = eqb-true r.kind 5 (left_true _ _ t) in record {
      text = λ q. absurd (no_text (rw k at q));
      binary = λ q. absurd (omega arith);
    })
    (λ t. subst (λ (v : ℕ). RowRead m (row r.kind r.place v r.second r.after)) (sym (pick_false _ _ t)) h)
  where
    left_true : (s t : Bool) → s && t ≡ true → s ≡ true
    left_true true t h = refl
    left_true false t h = h

    no_text : is_text_kind 5 ≡ true → ⊥
    no_text e = let z : ◌≡◌ {A = ℕ} 0 1 = cc in omega arith

-- ---- all rows of a message
same_sum : (ρ : DoubleRule) (m : List ℕ) (k : ℕ) (rs : List Row)
    → total (map (length_under ρ m) (numbered k rs)) ≡ total (map (length_under ρ m) rs)
same_sum ρ m k [] = refl
same_sum ρ m k (r ∷ rs) = omega (arith, under_moved ρ m r (k + r.after), same_sum ρ m (suc k) rs)

-- a sum in one number
sum_wraps : (ρ : DoubleRule) (m : List ℕ) (x k : ℕ) (rs : List Row) → x < 2 ^ 64
    → keep_all (added ρ) m (x ∷ []) k rs ≡ (x + total (map (length_under ρ m) rs)) % 2 ^ 64 ∷ []
sum_wraps ρ m x k [] f = let e : (x + 0) % 2 ^ 64 ≡ x = omega arith in rw e refl
sum_wraps ρ m x k (r ∷ rs) f =
    let n = length_under ρ m r in
    sum_wraps ρ m ((x + n) % 2 ^ 64) (suc k) rs (omega arith)
    ∙ ap (λ (z : ℕ). z ∷ []) (wrapped x n (total (map (length_under ρ m) rs)))
  where
    wrapped : (x a b : ℕ) → ((x + a) % 2 ^ 64 + b) % 2 ^ 64 ≡ (x + (a + b)) % 2 ^ 64
    wrapped x a b = omega arith

pub sum_is : (ρ : DoubleRule) (m : List ℕ) (rs : List Row) → total (map (length_under ρ m) rs) < 2 ^ 64
    → keep_all (added ρ) m (0 ∷ []) 0 (numbered 0 rs) ≡ total (map (length_under ρ m) rs) ∷ []
sum_is ρ m rs f =
    sum_wraps ρ m 0 0 (numbered 0 rs) (omega arith)
    ∙ ap (λ (z : ℕ). z ∷ []) (omega (arith, same_sum ρ m 0 rs))

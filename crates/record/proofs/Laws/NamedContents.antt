-- What a row names, by its kind.
use Rattle.std.specs.Prelude.{◌≡◌, false, List, ℕ, ◌≤◌, ◌<◌, ltb}
use Rattle.std.proofs.Math.Path.{refl}
use Rattle.std.proofs.Common.{sym, ◌∙◌, arith}
use Rattle.std.proofs.Math.Bool.{true}
use Rattle.std.proofs.Math.Option.{none}
use Rattle.std.proofs.Math.Dec.{eqb}
use borrow.Author.Tests.{ne_eqb, le-leb}
use Rattle.flow.specs.Flow.{pick}
use Rattle.flow.specs.Tests.{pick_true, pick_false, within_above, within_below}
use Rattle.scalar.specs.declared.Encoding.TheVariants.{Utf8, Binary}
use Rattle.scalar.specs.Scalars.{string_at}
use Rattle.scalar.specs.Answers.{content_read}
use Rattle.record.specs.Model.Kinds.{text_kind, bytes_kind, class_name_kind, type_number_kind}
use Rattle.record.specs.Model.KindNumbers.{kind_number, encoding_of, named_by}
use Rattle.record.specs.Model.Claims.{is_text_kind, content_at, names_content, named_content}
use Rattle.record.specs.declared.kinds.Kind.{Kind}
use Rattle.record.specs.declared.kinds.Kind.TheVariants as kind

-- ---- the kinds that name a text
module _ (k : ℕ) where
  pub text_is : k ≡ text_kind → true ≡ is_text_kind k
  text_is e = rw e refl

  pub below_names : (k ≡ text_kind → ⊥) → k < class_name_kind → false ≡ is_text_kind k
  below_names e h = rw (ne_eqb k text_kind e, within_below class_name_kind type_number_kind k h) refl

  pub from_names : (k ≡ text_kind → ⊥) → class_name_kind ≤ k → ltb k type_number_kind ≡ is_text_kind k
  from_names e h = rw (ne_eqb k text_kind e, le-leb class_name_kind k h) refl

-- ---- what a row of each kind names
module _ (s : List ℕ) (k p : ℕ) where
  pub named_content_law : names_content k ≡ true → named_content s k p ≡ content_at s k p
  unfolding named_content
  named_content_law e = pick_true _ _ e

  pub named_bytes : k ≡ bytes_kind → named_content s k p ≡ content_read (string_at Binary s p)
  unfolding named_content content_at
  named_bytes e =
      let b : eqb k bytes_kind ≡ true = rw e refl in
      pick_true _ _ (rw b refl) ∙ pick_true _ _ b

  module _ (e : k ≡ bytes_kind → ⊥) where
    pub named_text : true ≡ is_text_kind k → named_content s k p ≡ content_read (string_at Utf8 s p)
    unfolding named_content content_at
    named_text f =
        let b = ne_eqb k bytes_kind e in
        pick_true _ _ (rw (b, ← f) refl) ∙ pick_false _ _ b ∙ pick_true _ _ (sym f)

    pub named_other : false ≡ is_text_kind k → named_content s k p ≡ none
    unfolding named_content
    named_other f = pick_false _ _ (rw (ne_eqb k bytes_kind e, ← f) refl)

module _ (s : List ℕ) (p : ℕ) where
  pub named_kind : (k : Kind) → named_content s (kind_number k) p ≡ named_by (encoding_of k) s p
  unfolding named_content content_at pick
  named_kind kind.Null = refl
  named_kind kind.False = refl
  named_kind kind.True = refl
  named_kind kind.Int = refl
  named_kind kind.Long = refl
  named_kind kind.Double = refl
  named_kind kind.Date = refl
  named_kind kind.Text = refl
  named_kind kind.Bytes = refl
  named_kind kind.List = refl
  named_kind kind.TypedList = refl
  named_kind kind.Map = refl
  named_kind kind.TypedMap = refl
  named_kind kind.Object = refl
  named_kind kind.Reference = refl
  named_kind kind.Class = refl
  named_kind kind.ClassName = refl
  named_kind kind.FieldName = refl
  named_kind kind.TypeName = refl
  named_kind kind.TypeNumber = refl

  -- a number past those of the kinds names nothing
  pub named_past : (n : ℕ) → type_number_kind < n → named_content s n p ≡ none
  unfolding named_content
  named_past n h = pick_false _ _ (rw (
    ne_eqb n bytes_kind (λ e. omega arith),
    ne_eqb n text_kind (λ e. omega arith),
    within_above class_name_kind type_number_kind n (omega arith),
  ) refl)

-- What `hessian_content` gives, by what the row names.
use Rattle.std.proofs.Common.{◌≡◌, ℕ, List, length, sym, ◌∙◌}
use Rattle.std.proofs.Math.Option.{Option, none}
use Rattle.flow.specs.Flow.{Report}
use Rattle.scalar.specs.Answers.{report_of, output_of}
use Rattle.scalar.proofs.AnswerLaws.{report_none, output_none}
use Rattle.record.specs.Model.Claims.{named_content}
use Rattle.hessian.specs.declared.HessianAnswer.{HessianAnswer}
use Rattle.hessian.specs.Packed.{answer, Says, ContentGives}

module _ (s : List ℕ) (k p : ℕ) (o : List ℕ) (a : HessianAnswer) (o' : List ℕ) where
  -- what copying it came to
  pub gives_content : (w : Option (List ℕ)) → named_content s k p ≡ w → (r : Report) → Says a r
      → (r ≡ report_of w (length o) 0) × (o' ≡ output_of w o 0) → ContentGives s k p o a o'
  gives_content w e r x g = record { report = rw e (x.report ∙ g.0); output = rw e g.1 }

  pub gives_none : named_content s k p ≡ none → Says a (answer 10 0 0) → o' ≡ o → ContentGives s k p o a o'
  gives_none e x g =
      gives_content none e _ x (sym (report_none (length o) 0), g ∙ sym (output_none o 0))

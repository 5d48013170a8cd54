-- 2026-01: what a call of each C function of the holdings file gives. Its answer is a struct of three numbers; a list
-- crosses as bytes, working memory and the numbers of entries as numbers.
use Rattle.std.specs.Prelude.{List, ℕ}
use Rattle.holdings.specs.Files.{versions}
use Rattle.holdings.specs.Answers.{as_pair_bytes, ListCall, AddCall, AddAllCall}
use Rattle.hessian.specs.declared.HessianAnswer.{HessianAnswer}
use Rattle.hessian.specs.Packed.{answer_report}

-- hessian_holdings_list of the first `used` bytes of a buffer, with working memory and a list, answers r and leaves the
-- list list'
pub record HoldingsListGives (file : List ℕ) (used : ℕ) (rows bytes list : List ℕ) (r : HessianAnswer) (list' : List ℕ)
    : Type 0 where
  pub call : ListCall versions as_pair_bytes file used rows bytes list (answer_report r) list'

-- hessian_holdings_add of a buffer, its used length, the message m and working memory answers r and leaves the buffer
-- file'
pub record HoldingsAddGives (file : List ℕ) (used : ℕ) (m rows bytes : List ℕ) (r : HessianAnswer) (file' : List ℕ)
    : Type 0 where
  pub call : AddCall versions file used m rows bytes (answer_report r) file'

-- hessian_holdings_add_all of a buffer, its used length, records laid out as entries, working memory and a list for the
-- numbers of their entries answers r and leaves the buffer file' and the list list'
pub record HoldingsAddAllGives (file : List ℕ) (used : ℕ) (records rows bytes list : List ℕ) (r : HessianAnswer)
    (file' list' : List ℕ) : Type 0 where
  pub call : AddAllCall versions file used records rows bytes list (answer_report r) file' list'

-- 2026-01's theorems, of each public function of the holdings file: instances of holdings' theorem (Theorems.antt), for
-- the versions of now. A call is what its function promises: ListCall, AddCall and AddAllCall of the answer's report,
-- and for C HoldingsListGives, HoldingsAddGives and HoldingsAddAllGives (Holdings.antt). The proofs are in
-- HoldingsProved.antt.
use Rattle.std.specs.Prelude.{List, ℕ}
use Rattle.holdings.specs.Files.{versions}
use Rattle.holdings.specs.Answers.{as_pair_bytes}
use Rattle.holdings.specs.Theorems.{OfList, OfAdd, OfAddAll, OfCalls, NeverBeyond}
use Rattle.hessian.specs.declared.HessianAnswer.{HessianAnswer}
use Rattle.hessian.specs.Packed.{answer_report}
use Rattle.hessian.specs.Holdings.{HoldingsListGives, HoldingsAddGives, HoldingsAddAllGives}

-- ---- holdings_file::list, list_bytes, add and add_all; and no record is beyond the one version
abbrev pub OfHoldingsFile : Type 0
OfHoldingsFile = OfCalls versions

abbrev pub NeverBeyondNow : Type 0
NeverBeyondNow = NeverBeyond versions

-- ---- hessian_holdings_list, hessian_holdings_add, hessian_holdings_add_all
abbrev pub OfHessianHoldingsList : Type 0
OfHessianHoldingsList = (file : List ℕ) (used : ℕ) (rows bytes list : List ℕ) (r : HessianAnswer) (list' : List ℕ)
    → HoldingsListGives file used rows bytes list r list'
    → OfList versions as_pair_bytes file used rows bytes list (answer_report r) list'

abbrev pub OfHessianHoldingsAdd : Type 0
OfHessianHoldingsAdd = (file : List ℕ) (used : ℕ) (m rows bytes : List ℕ) (r : HessianAnswer) (file' : List ℕ)
    → HoldingsAddGives file used m rows bytes r file' → OfAdd versions file used m rows bytes (answer_report r) file'

abbrev pub OfHessianHoldingsAddAll : Type 0
OfHessianHoldingsAddAll = (file : List ℕ) (used : ℕ) (records rows bytes list : List ℕ) (r : HessianAnswer)
    (file' list' : List ℕ) → HoldingsAddAllGives file used records rows bytes list r file' list'
    → OfAddAll versions file used records rows bytes list (answer_report r) file' list'

-- A call of a C function of the holdings file, by the report of what it came to.
use Rattle.std.proofs.Common.{◌≡◌, ℕ, List, sym, subst}
use Rattle.flow.specs.Flow.{Report}
use Rattle.holdings.specs.Files.{versions}
use Rattle.holdings.specs.Answers.{as_pair_bytes, ListCall, AddCall, AddAllCall}
use Rattle.hessian.specs.declared.HessianAnswer.{HessianAnswer}
use Rattle.hessian.specs.Packed.{Says}
use Rattle.hessian.specs.Holdings.{HoldingsListGives, HoldingsAddGives, HoldingsAddAllGives}

module _ (file : List ℕ) (used : ℕ) (a : HessianAnswer) (r : Report) (x : Says a r) where
  pub list_gives : (rows bytes list list' : List ℕ)
      → ListCall versions as_pair_bytes file used rows bytes list r list'
      → HoldingsListGives file used rows bytes list a list'
  list_gives rows bytes list list' g = record {
    call = subst (λ (z : Report). ListCall versions as_pair_bytes file used rows bytes list z list') (sym x.report) g;
  }

  pub add_gives : (m rows bytes file' : List ℕ) → AddCall versions file used m rows bytes r file'
      → HoldingsAddGives file used m rows bytes a file'
  add_gives m rows bytes file' g = record {
    call = subst (λ (z : Report). AddCall versions file used m rows bytes z file') (sym x.report) g;
  }

  pub add_all_gives : (records rows bytes list file' list' : List ℕ)
      → AddAllCall versions file used records rows bytes list r file' list'
      → HoldingsAddAllGives file used records rows bytes list a file' list'
  add_all_gives records rows bytes list file' list' g = record {
    call = subst (λ (z : Report). AddAllCall versions file used records rows bytes list z file' list') (sym x.report) g;
  }

-- The proofs of the theorems of the holdings file: HoldingsTheorems.antt states them.
use Rattle.holdings.specs.Answers.{as_pair_bytes}
use Rattle.holdings.proofs.FileLaws.{pair_bytes_sound}
use Rattle.holdings.proofs.Proved.{of_versions, never_beyond}
use Rattle.hessian.specs.HoldingsTheorems as theorems

pub of_holdings_file : theorems.OfHoldingsFile
of_holdings_file = of_versions

pub never_beyond_now : theorems.NeverBeyondNow
never_beyond_now = never_beyond

pub of_hessian_holdings_list : theorems.OfHessianHoldingsList
of_hessian_holdings_list file used rows bytes list r list' g =
    of_versions.listed as_pair_bytes pair_bytes_sound file used rows bytes list _ list' g.call

pub of_hessian_holdings_add : theorems.OfHessianHoldingsAdd
of_hessian_holdings_add file used m rows bytes r file' g =
    of_versions.added file used m rows bytes _ file' g.call

pub of_hessian_holdings_add_all : theorems.OfHessianHoldingsAddAll
of_hessian_holdings_add_all file used records rows bytes list r file' list' g =
    of_versions.added_all file used records rows bytes list _ file' list' g.call

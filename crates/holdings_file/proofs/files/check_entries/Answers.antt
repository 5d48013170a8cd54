-- Each way out has its law in proofs/FileChecks.antt.
use mathlib.Core.Path.{◌∙◌, ap}
use native.Mathlib.Omega.{arith}
use lib.ListN.{length}
use Rattle.std.proofs.lemmas.Result.{err_from_is_err_and}
use Rattle.holdings_file.specs.declared.entries.Entries.{Entries}
use Rattle.holdings_file.proofs.EntryWalks.{Reads, reads, is_cut}
use Rattle.holdings_file.proofs.FileChecks.{checking_start, check_all, check_cut, check_fault, check_fresh, checking_next}
use Rattle.holdings_file.proofs.files.check_entries.Goals as goal
use Rattle.holdings_file.proofs.files.check_entries.Goals.{In_ok-entry}

-- the entry that is read
read : (c : In_ok-entry) → Reads c.args.file.now c.loop-entry.entry-iterator c.in_ok-entry.entry c.next.new.self
read c = reads c.loop-entry.entry-iterator c.next.new.self c.loop-entry.invariant.bytes c.in-Some.ensures.steps
    c.in_ok-entry.was

pub loop-entry-init : goal.loop-entry-init
loop-entry-init c = let is = c.into_iter-entry-iterator.ensures.into_iter_gives in
    let of = c.entries_of-entry-items.ensures in
    record {
      bytes = ap (λ (s : Entries). s.bytes.now) is ∙ of.0;
      checking = checking_start c.args.file.now c.args.index.now c.requires.0 c.requires.1
          (ap (λ (s : Entries). s.at) is ∙ of.1);
    }

pub returns-in_err-entry : goal.returns-in_err-entry
returns-in_err-entry c =
    let p = err_from_is_err_and c.from_residual.result c.from_residual.ensures.1 in
    let y = is_cut c.loop-entry.entry-iterator c.next.new.self c.loop-entry.invariant.bytes c.in-Some.ensures.steps
    c.in_err-entry.was in
    rw (p.1, p.2) (check_cut c.args.file.now c.loop-entry.index c.loop-entry.entry-iterator.at c.loop-entry.n
    c.loop-entry.invariant.checking y.inside y.cut _ y.refused c.loop-entry.index)

pub returns-in-Err : goal.returns-in-Err
returns-in-Err c = check_fault c.args.file.now c.loop-entry.index c.loop-entry.entry-iterator.at c.loop-entry.n
    c.loop-entry.invariant.checking c.in_ok-entry.entry (read (goal.at.returns-in-Err c).In_ok-entry).entry
    c.in-Err.refusal c.in-Err.ensures c.loop-entry.index

pub insert-requires : goal.insert-requires
insert-requires c = check_fresh c.args.file.now c.loop-entry.index c.loop-entry.entry-iterator.at c.loop-entry.n
    c.loop-entry.invariant.checking c.in_ok-entry.entry (read (goal.at.insert-requires c).In_ok-entry).entry
    c.in_default.ensures

pub loop-entry-preserved : goal.loop-entry-preserved
loop-entry-preserved c = let y = read (goal.at.loop-entry-preserved c).In_ok-entry in record {
  bytes = y.bytes;
  checking = checking_next c.args.file.now c.loop-entry.index c.loop-entry.entry-iterator.at c.loop-entry.n
      c.loop-entry.invariant.checking c.in_ok-entry.entry y.entry c.in_default.ensures c.insert.new.self
      c.insert.ensures y.next;
}

pub returns : goal.returns
returns c = check_all c.args.file.now c.loop-entry.index c.loop-entry.entry-iterator.at c.loop-entry.n
    c.loop-entry.invariant.checking (omega (arith, ap length c.loop-entry.invariant.bytes, c.in-None.ensures.steps))

-- Each way out has its law in proofs/Batches.antt.
use mathlib.Core.Path.{ap}
use native.Mathlib.Omega.{arith}
use lib.ListN.{length}
use Rattle.holdings_file.proofs.EntryWalks.{reads, is_cut}
use Rattle.holdings_file.proofs.FileExtents.{extent_few}
use Rattle.holdings_file.proofs.Batches.{batch_done, batch_cut, batch_refused, batching_next}
use Rattle.holdings_file.proofs.additions.add_records.Goals as goal

pub returns-in-Err : goal.returns-in-Err
returns-in-Err c = let args = c.args in
    let loop = c.loop-entry in
    batch_cut args.file.now args.extent.used args.records.now args.numbers.now _ _ _ loop.used loop.count
    loop.entry-iterator.at loop.taken loop.invariant.batching
    (is_cut loop.entry-iterator c.next.new.self loop.invariant.bytes c.in-Some.ensures.steps c.in-Err.is)

pub returns-in-Err-add_record : goal.returns-in-Err-add_record
returns-in-Err-add_record c = let args = c.args in
    let loop = c.loop-entry in
    rw c.refusal_in.ensures
    (batch_refused args.file.now args.extent.used args.records.now args.numbers.now _ _ _ loop.used loop.count
    loop.entry-iterator.at loop.taken loop.invariant.batching c.in-Ok.entry
    (reads loop.entry-iterator c.next.new.self loop.invariant.bytes c.in-Some.ensures.steps c.in-Ok.is).entry
    c.in-Err-add_record.error c.add_record.new.file c.add_record.new.index c.in-Err-add_record.ensures)

pub count_after-count-requires : goal.count_after-count-requires
count_after-count-requires c = omega (
  arith,
  extent_few _ _ _ c.loop-entry.invariant.batching.extends,
  c.loop-entry.auto.file,
)

pub loop-entry-preserved : goal.loop-entry-preserved
loop-entry-preserved c = let args = c.args in
    let loop = c.loop-entry in
    let y = reads loop.entry-iterator c.next.new.self loop.invariant.bytes c.in-Some.ensures.steps c.in-Ok.is in
    record {
      bytes = y.bytes;
      batching = batching_next args.file.now args.extent.used args.records.now args.numbers.now _ _ _ loop.used loop.count
          loop.entry-iterator.at loop.taken loop.invariant.batching c.in-Ok.entry y.entry c.in-Ok-add_record.held
          c.add_record.new.file c.add_record.new.index c.in-Ok-add_record.ensures _ c.store_number.ensures _
          c.count_after-count.ensures y.next;
    }

pub returns : goal.returns
returns c = let args = c.args in
    let loop = c.loop-entry in
    batch_done args.file.now args.extent.used args.records.now args.numbers.now _ _ _ loop.used loop.count
    loop.entry-iterator.at loop.taken loop.invariant.batching
    (omega (arith, ap length loop.invariant.bytes, c.in-None.ensures.steps))

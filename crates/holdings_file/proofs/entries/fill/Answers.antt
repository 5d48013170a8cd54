use mathlib.Core.Path.{ap}
use lib.ListN.{length}
use native.Mathlib.Omega.{arith}
use Rattle.holdings_file.proofs.EntryWalks.{reads, is_cut, fill_ended, fill_cut, fill_more}
use Rattle.holdings_file.proofs.entries.fill.Goals as goal

pub returns-in_default : goal.returns-in_default
returns-in_default g c =
    let y = is_cut c.loop-entry.entry-iterator c.next.new.self c.loop-entry.invariant.bytes c.in-Some.ensures.steps
    c.in_default.is in
    fill_cut c.loop-entry.invariant.filling y.inside y.cut

pub loop-entry-preserved : goal.loop-entry-preserved
loop-entry-preserved g c =
    let y = reads c.loop-entry.entry-iterator c.next.new.self c.loop-entry.invariant.bytes c.in-Some.ensures.steps
    c.in-Ok.is in record {
      bytes = y.bytes;
      filling = fill_more c.loop-entry.invariant.filling y.entry c.store_pair.ensures y.next;
    }

pub returns : goal.returns
returns g c = fill_ended c.loop-entry.invariant.filling
    (omega (arith, ap length c.loop-entry.invariant.bytes, c.in-None.ensures.steps))

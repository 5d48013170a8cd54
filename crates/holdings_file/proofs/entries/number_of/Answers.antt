use mathlib.Core.Path.{ap}
use lib.ListN.{length}
use native.Mathlib.Omega.{arith}
use Rattle.holdings_file.proofs.EntryWalks.{reads, is_cut, number_ended, number_cut, number_same, number_more}
use Rattle.holdings_file.proofs.entries.number_of.Goals as goal

pub returns-in_default : goal.returns-in_default
returns-in_default c = let y = is_cut c.loop-entry.entry-iterator c.next.new.self c.loop-entry.invariant.bytes c.in-Some.ensures.steps c.in_default.is in
    number_cut c.loop-entry.invariant.counting y.inside y.cut

pub returns-then-eq : goal.returns-then-eq
returns-then-eq c = let y = reads c.loop-entry.entry-iterator c.next.new.self c.loop-entry.invariant.bytes c.in-Some.ensures.steps c.in-Ok.is in
    number_same c.loop-entry.invariant.counting y.entry c.eq.ensures c.if-eq.true

pub loop-entry-preserved : goal.loop-entry-preserved
loop-entry-preserved c = let y = reads c.loop-entry.entry-iterator c.next.new.self c.loop-entry.invariant.bytes c.in-Some.ensures.steps c.in-Ok.is in record {
  bytes = y.bytes;
  counting = number_more c.loop-entry.invariant.counting y.entry c.eq.ensures c.if-eq.false y.next;
}

pub returns : goal.returns
returns c = number_ended c.loop-entry.invariant.counting
    (omega (arith, ap length c.loop-entry.invariant.bytes, c.in-None.ensures.steps))

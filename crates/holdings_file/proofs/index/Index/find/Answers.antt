-- Each way out has its law in proofs/IndexChains.antt.
use native.Mathlib.Omega.{arith}
use Rattle.holdings_file.proofs.IndexChains.{walking_at, walk_start, walk_end, stands_there, walk_found, walk_next}
use Rattle.holdings_file.proofs.IndexChains.{walk_less}
use Rattle.holdings_file.proofs.index.Index.find.Goals as goal

pub loop-entry-init : goal.loop-entry-init
loop-entry-init c = let args = c.args in
    walk_start args.file.now args.self.now.heads.now args.self.now.chains.now args.message.now c.requires.0.whole
    c.requires.1 _ c.bucket.ensures

pub overflow_add-end-in-Some : goal.overflow_add-end-in-Some
overflow_add-end-in-Some c = let args = c.args in
    omega (
      arith,
      (stands_there args.file.now args.self.now.heads.now args.self.now.chains.now args.message.now c.requires.0.whole
          c.requires.1 c.in-Some.entry (walking_at c.loop-entry.invariant c.in-Some.ensures)).inside,
    )

pub slice_bounds-eq-end : goal.slice_bounds-eq-end
slice_bounds-eq-end c = let args = c.args in
    omega (
      arith,
      (stands_there args.file.now args.self.now.heads.now args.self.now.chains.now args.message.now c.requires.0.whole
          c.requires.1 c.in-Some.entry (walking_at c.loop-entry.invariant c.in-Some.ensures)).inside,
    )

pub returns-then-eq : goal.returns-then-eq
returns-then-eq c = let args = c.args in
    walk_found args.file.now args.self.now.heads.now args.self.now.chains.now args.message.now c.requires.0.whole
    c.requires.1 c.in-Some.entry (walking_at c.loop-entry.invariant c.in-Some.ensures) _ c.eq.ensures c.if-eq.true

pub loop-entry-smaller : goal.loop-entry-smaller
loop-entry-smaller c = let args = c.args in
    omega (
      arith,
      c.in-Some.ensures,
      walk_less args.file.now args.self.now.heads.now args.self.now.chains.now args.message.now c.requires.0.whole
          c.requires.1 c.in-Some.entry (walking_at c.loop-entry.invariant c.in-Some.ensures),
    )

pub loop-entry-preserved : goal.loop-entry-preserved
loop-entry-preserved c = let args = c.args in
    walk_next args.file.now args.self.now.heads.now args.self.now.chains.now args.message.now c.requires.0.whole
    c.requires.1 c.in-Some.entry (walking_at c.loop-entry.invariant c.in-Some.ensures) _ c.eq.ensures c.if-eq.false

pub returns : goal.returns
returns c = let args = c.args in
    let none = c.in_default.ensures in
    walk_end args.file.now args.self.now.heads.now args.self.now.chains.now args.message.now c.requires.0.whole
    c.requires.1 c.loop-entry.next _ c.loop-entry.invariant (omega arith) c.requires.0.count

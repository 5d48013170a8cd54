-- Each way out has its law in proofs/IndexChains.antt.
use mathlib.Core.Path.{refl}
use native.Mathlib.Omega.{arith}
use Rattle.holdings_file.proofs.IndexChains.{insert_none, insert_full, inserted}
use Rattle.holdings_file.proofs.index.Index.insert.Goals as goal
use Rattle.holdings_file.proofs.index.Index.insert.Goals.{then-self-eq0-via-then-self-eq0}
use Rattle.holdings_file.proofs.index.Index.insert.Goals.{then-self-eq0-via-else-self-eq0+then-self-count}

pub returns-then-self-eq0 : goal.returns-then-self-eq0
returns-then-self-eq0 c = let args = c.args in
    elim c.then-self-eq0.branch [
      | then-self-eq0-via-then-self-eq0 w ↦
          insert_none args.file.now args.message.now args.count args.self.now c.requires w.if-self-eq0.true
      | then-self-eq0-via-else-self-eq0+then-self-count w ↦
          insert_full args.file.now args.message.now args.count args.self.now c.requires w.if-self-count.true
    ]

pub returns : goal.returns
returns c = let args = c.args in
    inserted args.file.now args.message.now args.count args.self.now c.requires (omega arith) c.if-self-count.false
    c.bucket-b.result c.bucket-b.ensures _ refl refl

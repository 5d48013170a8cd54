-- The pair and its bytes have their laws in proofs/Pieces.antt.
use mathlib.Core.Path.{sym}
use native.Mathlib.Omega.{arith}
use Rattle.text_writer.proofs.Pieces.{pair_there, four_bytes}
use Rattle.text_writer.proofs.pair.Goals as goal

pub returns-in-237 : goal.returns-in-237
returns-in-237 c =
    let w = c.args.bytes.now in
    record {
      there = pair_there w c.in-Utf8.is (omega arith) (omega arith) (omega arith) (omega arith);
      character = sym (four_bytes w);
    }

use Rattle.hessian.proofs.Packing.{write_small, write_gives}
use Rattle.hessian.proofs.hessian_write.Goals as goal

pub packed-requires : goal.packed-requires
packed-requires c = write_small _ _ c.from.ensures c.write_bytes.ensures

pub returns : goal.returns
returns c = write_gives _ _ c.from.ensures c.write_bytes.ensures _ c.packed.ensures

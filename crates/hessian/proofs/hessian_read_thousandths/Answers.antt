use Rattle.hessian.proofs.Packing.{read_small, read_gives}
use Rattle.hessian.proofs.hessian_read_thousandths.Goals as goal

pub packed-requires : goal.packed-requires
packed-requires c = read_small _ _ c.from.ensures c.fill_bytes_thousandths.ensures

pub returns : goal.returns
returns c = read_gives _ _ c.from.ensures c.fill_bytes_thousandths.ensures _ c.packed.ensures

-- Each way out has its law in proofs/Message.antt.
use Rattle.reader.proofs.Message.{ready_first}
use Rattle.reader.proofs.read_value.Goals as goal

pub read_values-requires : goal.read_values-requires
read_values-requires g c = ready_first _ c.type_inv.message _ c.new-known.ensures.kept c.new-known.ensures.starts

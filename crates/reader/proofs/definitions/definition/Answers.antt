use Rattle.reader.proofs.ClassDefinitions.{definition_done}
use Rattle.reader.proofs.definitions.definition.Goals as goal

pub returns : goal.returns
returns g c = definition_done _ c.in_ok-class.ensures c.requires.1 g.met.S.Slot.swaps c.in_ok-end.ensures
    c.keep.ensures c.keep-2.ensures c.define.ensures

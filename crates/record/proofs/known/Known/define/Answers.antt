-- Both ways through the test have their laws in proofs/Laws/KnownLaws.antt.
use Rattle.std.proofs.Common.{rules}
use Rattle.record.proofs.Laws.KnownLaws.{defined_room, defined_full}
use Rattle.record.proofs.known.Known.define.Goals as goal

pub returns-then-class-lt-CLASSES : goal.returns-then-class-lt-CLASSES
returns-then-class-lt-CLASSES c = search (defined_room, rules)

pub returns-else-class-lt-CLASSES : goal.returns-else-class-lt-CLASSES
returns-else-class-lt-CLASSES c = search (defined_full, rules)

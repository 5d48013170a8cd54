-- The loop's invariant: what is left reads as the whole does, with the rows so far in front.
use Rattle.reader.proofs.ClassDefinitions.{ReadingNames}
use Rattle.reader.proofs.definitions.field_names.Given as goal

abbrev pub invariant-loop-row : goal.invariant-loop-row
invariant-loop-row g l =
    ReadingNames g.S.Slot.kept l.message (g.S.Slot.numbers l.initial.slots) l.from l.count
    (g.S.Slot.numbers l.slots) l.here l.row

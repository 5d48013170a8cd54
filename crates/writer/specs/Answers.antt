-- What the writer's answers say, in 01's terms: number, count and place.
use Rattle.std.specs.Prelude.{ℕ, Result, Ok, Err}
use Rattle.flow.specs.RefusalNumbers.{wrong_length, no_room, no_record}
use Rattle.flow.specs.Flow.{Report, reported}
use Rattle.writer.specs.declared.WriteError.{WriteError}
use Rattle.writer.specs.declared.WriteError.TheVariants.{TooLong, NoRecord, TooFew}

abbrev pub report : Result ℕ WriteError → Report
report (Ok n) = reported 0 n
report (Err TooLong) = reported wrong_length 0
report (Err NoRecord) = reported no_record 0
report (Err (TooFew n)) = reported no_room n

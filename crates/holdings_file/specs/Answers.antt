-- What the answers say: number, count and place.
use Rattle.std.specs.Prelude.{Result, Ok, Err}
use Rattle.flow.specs.RefusalNumbers.{no_room}
use Rattle.flow.specs.Flow.{Report}
use Rattle.scalar.specs.Refusals.{number_of}
use Rattle.holdings.specs.Answers.{answer}
use Rattle.holdings_file.specs.declared.Held.{Held}
use Rattle.holdings_file.specs.declared.HoldingsError.{HoldingsError}
use Rattle.holdings_file.specs.declared.HoldingsError.TheVariants as holdings
use Rattle.holdings_file.specs.declared.Taken.{Taken}
use Rattle.holdings_file.specs.declared.BatchError.{BatchError}
use Rattle.holdings_file.specs.declared.BatchError.TheVariants as batch

-- accepted are 0, the entries listed or the entry's number, and the used length; refusal 9 counts what is needed
abbrev pub report : Result Held HoldingsError → Report
report (Ok h) = answer 0 h.count h.used
report (Err (holdings.Refused r)) = answer (number_of r.refusal) 0 r.place
report (Err (holdings.TooFew needed)) = answer no_room needed 0

-- of many records: 0 or the number of the refusal of one, the records taken, the used length; or a refusal of the file
abbrev pub report_of_batch : Result Taken BatchError → Report
report_of_batch (Ok t) = answer 0 t.records t.used
report_of_batch (Err (batch.Stopped refusal records used)) = answer (number_of refusal) records used
report_of_batch (Err (batch.Refused r)) = answer (number_of r.refusal) 0 r.place

-- What the reader's answer says, in 01's terms: number, count and place; and 2026-06's length.
use Rattle.std.specs.Prelude.{ℕ, Result, Ok, Err}
use Rattle.flow.specs.RefusalNumbers.{no_room}
use Rattle.flow.specs.Flow.{Report}
use Rattle.scalar.specs.Refusals.{number_of}
use Rattle.reader.specs.declared.Filled.{Filled}
use Rattle.reader.specs.declared.Accepted.{Accepted}
use Rattle.reader.specs.declared.ReadError.{ReadError}
use Rattle.reader.specs.declared.ReadError.TheVariants.{Refused, TooFew}

-- accepted are 0, the rows, the message's length; refusal 9 counts the rows needed, other refusals 0
abbrev pub error_report : ReadError → Report
error_report (Refused r) = record { number = number_of r.refusal; count = 0; place = r.place }
error_report (TooFew needed) = record { number = no_room; count = needed; place = 0 }

abbrev pub report : Result Accepted ReadError → Report
report (Ok r) = record { number = 0; count = r.rows; place = r.length }
report (Err e) = error_report e

-- the same of an answer with no length
abbrev pub fill_report : Result Filled ReadError → Report
fill_report (Ok r) = record { number = 0; count = r.rows; place = r.length }
fill_report (Err e) = error_report e

-- the length of the record's shortest message; a refusal has 0
abbrev pub shortest : Result Accepted ReadError → ℕ
shortest (Ok r) = r.shortest
shortest (Err e) = 0

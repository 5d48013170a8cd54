-- An answer as it crosses to C, and what a call of each C function gives.
use Rattle.std.specs.Prelude.{◌≡◌, List, ℕ, ◌+◌, ◌*◌, ◌/◌, ◌%◌, ◌^◌, ◌≤◌, ◌<◌, length}
use Rattle.scalar.specs.Scalars.{DoubleRule}
use Rattle.flow.specs.Flow.{Report}
use Rattle.scalar.specs.Answers.{report_of, output_of}
use Rattle.record.specs.Model.Claims.{named_content}
use Rattle.record.specs.Model.Answers.{base, base_open_from, as_bytes, shortest_length}
use Rattle.record.specs.Model.Calls.{ReadCall, WriteCall}
use Rattle.hessian.specs.declared.HessianAnswer.{HessianAnswer}

abbrev pub answer : ℕ → ℕ → ℕ → Report
answer number count place = record { number = number; count = count; place = place }

-- 01: 'the answer as one number, number × 2^48 + count × 2^24 + place'
abbrev pub packed : Report → ℕ
packed r = r.number * 2 ^ 48 + r.count * 2 ^ 24 + r.place

-- its parts, as the header's macros take them
abbrev pub unpacked : ℕ → Report
unpacked a = answer (a / 2 ^ 48) (a / 2 ^ 24 % 2 ^ 24) (a % 2 ^ 24)

-- ---- an answer as a struct
abbrev pub answer_report : HessianAnswer → Report
answer_report r = answer r.number r.count r.place

-- the struct that the code makes of a report; its number is one byte
pub record Says (a : HessianAnswer) (r : Report) : Type 0 where
  pub report : answer_report a ≡ r
  pub small : a.number < 2 ^ 8

-- its parts are small, so that they are packed in 64 bits
pub record Small (a : HessianAnswer) : Type 0 where
  pub number : a.number < 2 ^ 8
  pub count : a.count ≤ base.longest
  pub place : a.place ≤ base.longest

-- ---- what a call gives
-- hessian_read, and by the other rule of 5f hessian_read_thousandths, of the message m and the table t answers a and
-- leaves the table t'
pub record ReadGives (ρ : DoubleRule) (m t : List ℕ) (a : ℕ) (t' : List ℕ) : Type 0 where
  pub report : Report
  pub call : ReadCall ρ base as_bytes m t report t'
  pub as_one : a ≡ packed report

-- 2026-06: hessian_shortest_length, and by the other rule of 5f hessian_shortest_length_thousandths, of the message m
-- answers n, the length of the record's shortest message; 0 where reading with rows enough is refused
pub record LengthGives (ρ : DoubleRule) (m : List ℕ) (n : ℕ) : Type 0 where
  pub length : n ≡ shortest_length ρ base base_open_from m

-- hessian_write of the source s, the first n rows of the table t and the output o answers a and leaves the output o'
pub record WriteGives (s t : List ℕ) (n : ℕ) (o : List ℕ) (a : ℕ) (o' : List ℕ) : Type 0 where
  pub report : Report
  pub call : WriteCall base base_open_from as_bytes s t n o report o'
  pub as_one : a ≡ packed report

-- hessian_content of the source s, a row's kind k and place p and the output o answers r and leaves the output o':
-- accepted are 0, the bytes of the content, 0; 9 counts the bytes needed; 10 where the row names no content
pub record ContentGives (s : List ℕ) (k p : ℕ) (o : List ℕ) (r : HessianAnswer) (o' : List ℕ) : Type 0 where
  pub report : answer_report r ≡ report_of (named_content s k p) (length o) 0
  pub output : o' ≡ output_of (named_content s k p) o 0

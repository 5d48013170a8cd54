-- What the answers of the code on single values say.
use Rattle.std.specs.Prelude.{◌≡◌, ℕ, ◌+◌, ◌-◌, ◌*◌, ◌%◌, ◌^◌, ◌<◌, ◌≤◌, List, [], ◌∷◌, ◌++◌, length, take, drop, get_or, nat_le}
use Rattle.std.proofs.Math.Option.{Option, none, some}
use Rattle.flow.specs.Flow.{pick, Done, Fault}
use Rattle.flow.specs.Steps.{Answer}
use Rattle.wire.specs.BigEndian.{joined, be, wider}
use Rattle.scalar.specs.declared.Sort.{Sort}
use Rattle.scalar.specs.declared.Rule.{Rule}
use Rattle.scalar.specs.declared.Rule.TheVariants.{Exactly, Plain, Offset, Signed, Minutes}
use Rattle.scalar.specs.declared.Rule.TheVariants.{WholeByte, WholePair, Float}
use Rattle.std.specs.Prelude.{Result, Ok, Err, Some, None}
use Rattle.std.specs.declared.option.Option as code
use Rattle.scalar.specs.declared.refusals.Refused.{Refused}
use Rattle.scalar.specs.declared.refusals.Refusal.TheVariants.{Cut}
use Rattle.scalar.specs.Refusals.{fault}
use Rattle.scalar.specs.declared.Unwritten.{Unwritten}
use Rattle.scalar.specs.declared.Unwritten.TheVariants.{NoRoom}
use Rattle.scalar.specs.Scalars.{value, Form, form, forms_of}
use Rattle.scalar.specs.Answers.{number_at, length_read, number_length_at, report, report_of, output_of}
use Rattle.numbers.specs.declared.NumberPassed.{NumberPassed}
use Rattle.numbers.specs.declared.NumberRead.{NumberRead}
use Rattle.numbers.specs.declared.stores.Codes.{Codes}
use Rattle.numbers.specs.declared.Spelling.{Spelling}

-- a value passed, and the bytes it takes; or a refusal's number and place
abbrev pub passed : Result NumberPassed Refused → Answer ℕ
passed (Ok n) = Done n.size n.value [] tt
passed (Err r) = fault r

-- the same of a value read
abbrev pub told : Result NumberRead Refused → Answer ℕ
told (Ok n) = Done n.size n.value [] tt
told (Err r) = fault r

-- 2026-06: the bytes of its shortest form; a refusal has 0
abbrev pub told_length : Result NumberRead Refused → ℕ
told_length (Ok n) = n.shortest
told_length (Err r) = 0

-- what reading a value of the kind s at the place p of the message m answers
pub record NumberMet (s : Sort) (m : List ℕ) (p : ℕ) (r : Result NumberRead Refused) : Type 0 where
  pub says : told r ≡ number_at s m p
  pub shortest : told_length r ≡ number_length_at s m p

-- a value of the kind s as it was passed, and the length of its shortest form
pub record Measured (s : Sort) (n : Result NumberPassed Refused) (r : Result NumberRead Refused) : Type 0 where
  pub says : told r ≡ passed n
  pub shortest : told_length r ≡ length_read s (passed n)

-- ---- inside the code
-- reading the form with k bytes after the first, which is at p and holds u
abbrev pub form_read : List ℕ → ℕ → ℕ → ℕ → Rule → Answer ℕ
form_read m p k u r =
    pick (nat_le (length m - p) k) (Fault 2 (length m)) (Done (k + 1) (value r (joined u (take k (drop (p + 1) m)))) [] tt)

-- the message of this length ends where a byte is needed
abbrev pub cut_at : ℕ → Refused
cut_at len = record { refusal = Cut; place = len }

-- the byte at the place p of the message m; the end, where there is none
abbrev pub ByteThere : List ℕ → ℕ → Result ℕ Refused → Type 0
ByteThere m p (Ok b) = (p < length m) × (b ≡ get_or m p 0)
ByteThere m p (Err r) = (length m ≤ p) × (r ≡ cut_at (length m))

-- k bytes follow the one at the place p; or the end
abbrev pub Followed : List ℕ → ℕ → ℕ → Result (Unit {0}) Refused → Type 0
Followed m p k (Ok u) = k < length m - p
Followed m p k (Err r) = (length m - p ≤ k) × (r ≡ cut_at (length m))

-- n bytes fit in a slice of len bytes from the index `at` on
abbrev pub HasRoom : ℕ → ℕ → ℕ → Result (Unit {0}) Unwritten → Type 0
HasRoom len at n (Ok u) = at + n ≤ len
HasRoom len at n (Err r) = (len < at + n) × (r ≡ NoRoom n)

-- the number whose two's complement is v is one from −d to d − 1
abbrev pub Within : ℕ → ℕ → Type 0
Within d v = (v + d) % 2 ^ 64 < 2 * d

-- the bytes that a spelling is
abbrev pub spelled : code.Option Spelling → Option (List ℕ)
spelled (Some s) = some (s.code ∷ be s.more s.rest)
spelled None = none

-- the forms that ints and longs share
abbrev pub whole_forms : Codes → List Form
whole_forms c =
    form c.one c.count 0 (Offset c.zero)
    ∷ form c.two 16 1 (Offset 0x800)
    ∷ form c.three 8 2 (Offset 0x4_0000)
    ∷ form c.five 1 4 Signed
    ∷ []

-- the only form of null, false or true
abbrev pub single_form : ℕ → List Form
single_form code = form code 1 0 (Exactly 0) ∷ []

-- the form is stored in l from the index `at` on: what is said of that, and what l then is
pub record Writes (o : Option (List ℕ)) (l : List ℕ) (at : ℕ) (r : Result ℕ Unwritten) (l' : List ℕ) : Type 0 where
  pub says : report r ≡ report_of o (length l) at
  pub holds : l' ≡ output_of o l at

-- these are the codes of its kind, int or long, which may have other forms after these
pub record HasCodes (c : Codes) : Type 0 where
  pub others : List Form
  pub forms : forms_of c.sort ≡ whole_forms c ++ others
  pub one_fits : c.one + c.count ≤ 256
  pub zero_fits : c.zero ≤ 256
  pub two_fits : c.two ≤ 0xf0
  pub three_fits : c.three ≤ 0xf8

-- the numbers that a rule takes
abbrev pub Takes : Rule → ℕ → Type 0
Takes (Exactly v) u = Unit {0}
Takes Plain u = Unit {0}
Takes (Offset k) u = (u < 2 ^ 63) × (k < 2 ^ 63)
Takes Signed u = u < 2 ^ 32
Takes Minutes u = u < 2 ^ 32
Takes WholeByte u = u < 2 ^ 8
Takes WholePair u = u < 2 ^ 16
Takes Float u = u < 2 ^ 32

-- a form of up to five bytes, whose rule takes what it can hold
pub record Good (w : Form) : Type 0 where
  pub codes : w.head + w.codes ≤ 256
  pub few : w.extra ≤ 4
  pub takes : (u : ℕ) → u < wider w.extra w.codes → Takes w.rule u

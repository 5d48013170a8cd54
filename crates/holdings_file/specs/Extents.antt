-- A file that records are added to, as the contracts of src/additions.rt cite it.
use Rattle.std.specs.Prelude.{◌≡◌, List, [], ◌∷◌, ℕ, ◌+◌, ◌≤◌, ltb, length, take}
use Rattle.std.specs.Prelude.{Result, Ok, Err}
use Rattle.std.proofs.Math.Option.{some}
use Rattle.flow.specs.RefusalNumbers.{no_room}
use Rattle.flow.specs.Flow.{pick, stored}
use Rattle.scalar.specs.Refusals.{number_of as number_of_refusal}
use Rattle.scalar.specs.declared.refusals.Refusal.{Refusal}
use Rattle.scalar.specs.declared.refusals.Refusal.TheVariants as refusal
use Rattle.record.specs.Model.Answers.{base}
use Rattle.holdings.specs.Files.{versions, entries_in, number_of, fault_of, Lists}
use Rattle.holdings.specs.Answers as given
use Rattle.holdings.specs.Answers.{Accept, Refuse, Addition, listing_to_extend, added_short}
use Rattle.holdings.specs.Answers.{Batch, additions, batch_report, batch_file, batch_numbers}
use Rattle.holdings.specs.Terms.{Messages}
use Rattle.holdings_file.specs.declared.additions.Extent.{Extent}
use Rattle.holdings_file.specs.declared.index.Index.{Index}
use Rattle.holdings_file.specs.declared.Held.{Held}
use Rattle.holdings_file.specs.declared.HoldingsError.{HoldingsError}
use Rattle.holdings_file.specs.declared.HoldingsError.TheVariants as holdings
use Rattle.holdings_file.specs.declared.Taken.{Taken}
use Rattle.holdings_file.specs.declared.BatchError.{BatchError}
use Rattle.holdings_file.specs.Answers.{report_of_batch}
use Rattle.holdings_file.specs.Promises.{held_in, newest_rules}
use Rattle.holdings_file.specs.Index.{Indexing}

-- the messages of the used bytes
abbrev pub held_used : List ℕ → ℕ → Messages
held_used file used = held_in (take used file)

-- the file lists, or is new; the extent has its used length and its entries; they are in the index
pub record IsExtent (file : List ℕ) (x : Extent) (i : Index) : Type 0 where
  pub within : x.used ≤ length file
  pub lists : listing_to_extend versions file x.used ≡ Lists newest_rules (held_used file x.used)
  pub count : x.count ≡ length (held_used file x.used)
  pub indexing : Indexing i (held_used file x.used)

-- w is a record's shortest message: an entry of it is faultless where no entry before has it
pub record ShortMessage (w : List ℕ) : Type 0 where
  pub small : length w ≤ base.longest
  pub faultless : (before : Messages) → length before ≤ number_of w before → fault_of newest_rules before w ≡ 0

-- the extent after a record got the number n
abbrev pub count_after : ℕ → ℕ → ℕ
count_after k n = pick (ltb n k) k (k + 1)

abbrev pub extended : Extent → Held → Extent
extended x h = record { used = h.used; count = count_after x.count h.count }

-- an addition is accepted with a number and a used length: the file and the index then
pub record Added (file : List ℕ) (x : Extent) (a : given.Result Addition) (h : Held) (file' : List ℕ) (i' : Index) : Type 0
  where
    pub new : List ℕ
    pub accepted : a ≡ Accept (record { number = h.count; new = new })
    pub grown : h.used ≡ x.used + length new
    pub after : file' ≡ stored file x.used new
    pub extends : IsExtent file' (extended x h) i'

-- or it is refused, and the file stays
abbrev pub refuse : {A : Type 0} → HoldingsError → given.Result A
refuse (holdings.Refused r) = Refuse (number_of_refusal r.refusal) 0 r.place
refuse (holdings.TooFew needed) = Refuse no_room needed 0

pub record NotAdded (file : List ℕ) (a : given.Result Addition) (e : HoldingsError) (file' : List ℕ) : Type 0 where
  pub refused : a ≡ refuse e
  pub after : file' ≡ file

abbrev pub AddMet : List ℕ → Extent → given.Result Addition → Result Held HoldingsError → List ℕ → Index → Type 0
AddMet file x a (Ok h) file' i' = Added file x a h file' i'
AddMet file x a (Err e) file' i' = NotAdded file a e file'

-- of a message in the file
abbrev pub placed : List ℕ → Extent → List ℕ → given.Result Addition
placed file x w = added_short versions file x.used (held_used file x.used) (some w)

-- many records
abbrev pub batch_of : List ℕ → ℕ → List ℕ → given.Result Batch
batch_of file used records = Accept (additions versions file used (entries_in records))

pub record AddAllMet (a : given.Result Batch) (file list : List ℕ) (r : Result Taken BatchError) (file' list' : List ℕ)
    : Type 0 where
  pub answer : report_of_batch r ≡ batch_report a
  pub after : file' ≡ batch_file file a
  pub numbers : list' ≡ batch_numbers list a

-- the refusal of one record
abbrev pub refusal_in : HoldingsError → Refusal
refusal_in (holdings.Refused r) = r.refusal
refusal_in (holdings.TooFew needed) = refusal.Room

-- a number in a list
abbrev pub one : ℕ → List ℕ
one n = n ∷ []

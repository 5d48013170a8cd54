-- An index of a file's messages in lent numbers, as the contracts of src/index.rt and src/files.rt cite it.
use Rattle.std.specs.Prelude.{◌≡◌, List, [], ◌∷◌, ◌++◌, ℕ, zero, suc, ◌+◌, ◌*◌, ◌/◌, ◌%◌, ◌≤◌, ◌<◌, eqb, length, take, drop, get_or}
use Rattle.std.specs.Prelude.{Result, Ok, Err}
use Rattle.std.proofs.Math.Option.{some}
use Rattle.std.proofs.Math.ListN.{get_elem?}
use Rattle.flow.specs.Flow.{pick, One}
use Rattle.wire.specs.BigEndian.{joined}
use Rattle.scalar.specs.Refusals.{number_of as number_of_refusal}
use Rattle.scalar.specs.declared.refusals.Refusal.{Refusal}
use Rattle.scalar.specs.declared.refusals.Refused.{Refused}
use Rattle.holdings.specs.Files.{header_size, entries_in, number_of, Listing, Lists, Faulty}
use Rattle.holdings.specs.Answers.{placement, placements}
use Rattle.holdings.specs.Terms.{Messages, Distinct}
use Rattle.holdings.specs.EntryLaws.{wholes}
use Rattle.holdings_file.specs.declared.index.Index.{Index}
use Rattle.holdings_file.specs.Promises.{held_in, newest_rules}

-- ---- the bucket of a message
-- so many bytes at once; a factor; a modulus
abbrev pub hash_block : ℕ
hash_block = 8

abbrev pub hash_factor : ℕ
hash_factor = 65_599

abbrev pub hash_modulus : ℕ
hash_modulus = 4_294_967_291

-- by the next n blocks
abbrev pub hashed : ℕ → ℕ → List ℕ → ℕ
hashed zero h s = h
hashed (suc n) h s = hashed n ((h * hash_factor + joined 0 (take hash_block s) % hash_modulus) % hash_modulus)
    (drop hash_block s)

unfoldable pub bucket_of : ℕ → List ℕ → ℕ
bucket_of H m = hashed (length m / hash_block + 1) 0 m % H

pub record InBucket (H : ℕ) (m : List ℕ) (b : ℕ) : Type 0 where
  pub is : b ≡ bucket_of H m
  pub below : b < H

-- ---- the numbers of an index: the heads of its H buckets, and the chains
-- so many an entry
abbrev pub entry_numbers : ℕ
entry_numbers = 3

-- the newest entry below n in the bucket b, plus 1, or 0
unfoldable pub latest : ℕ → Messages → ℕ → ℕ → ℕ
latest H ms b zero = 0
latest H ms b (suc k) = pick (eqb (bucket_of H (get_or ms k [])) b) (suc k) (latest H ms b k)

-- they have all the messages
pub record Indexed (hs cs : List ℕ) (ms : Messages) : Type 0 where
  pub buckets : 0 < length hs
  pub room : entry_numbers * length ms ≤ length cs
  pub heads : (b : ℕ) → b < length hs → get_or hs b 0 ≡ latest (length hs) ms b (length ms)
  pub places : (k : ℕ) → k < length ms → get_elem? (placements header_size ms) k
      ≡ some (placement (get_or cs (entry_numbers * k) 0) (get_or cs (entry_numbers * k + 1) 0))
  pub nexts : (k : ℕ) → k < length ms → get_or cs (entry_numbers * k + 2) 0
      ≡ latest (length hs) ms (bucket_of (length hs) (get_or ms k [])) k
  pub distinct : Distinct ms

-- they have them where there is room for all; with no buckets they have none
pub record Indexing (x : Index) (ms : Messages) : Type 0 where
  pub complete : 0 < length x.heads.now → entry_numbers * length ms ≤ length x.chains.now
      → Indexed x.heads.now x.chains.now ms

-- ---- a file's entries are whole, and the first n of them are in the index
abbrev pub Whole : List ℕ → Type 0
Whole f = entries_in (drop header_size f) ≡ wholes (held_in f)

pub record WholeIndexed (f : List ℕ) (n : ℕ) (x : Index) : Type 0 where
  pub whole : Whole f
  pub count : n ≡ length (held_in f)
  pub indexing : Indexing x (held_in f)

-- one entry more: the file's last, with the message m
pub record Fresh (f m : List ℕ) (n : ℕ) (x : Index) : Type 0 where
  pub before : Messages
  pub entries : entries_in (drop header_size f) ≡ wholes (before ++ (m ∷ []))
  pub long : length m ≤ length f
  pub number : n ≡ length before
  pub new : length before ≤ number_of m before
  pub indexing : Indexing x before

-- ---- a check: the fault of an entry, by its number
abbrev pub FaultIs : ℕ → Result One Refusal → Type 0
FaultIs x (Ok u) = x ≡ 0
FaultIs x (Err r) = x ≡ number_of_refusal r

-- what the file lists as, where all its n entries are taken; then they are in the index
pub record Listed (l : Listing) (f : List ℕ) (n : ℕ) (x' : Index) : Type 0 where
  pub lists : l ≡ Lists newest_rules (held_in f)
  pub count : n ≡ length (held_in f)
  pub indexing : Indexing x' (held_in f)

abbrev pub CheckMet : Listing → List ℕ → Result ℕ Refused → Index → Type 0
CheckMet l f (Ok n) x' = Listed l f n x'
CheckMet l f (Err r) x' = l ≡ Faulty (number_of_refusal r.refusal) r.place

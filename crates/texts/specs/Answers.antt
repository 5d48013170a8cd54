-- What the answers of the code on texts and byte strings say.
use Rattle.std.specs.Prelude.{◌≡◌, ℕ, ◌+◌, ◌-◌, ◌<◌, ◌≤◌, Bool, true, false, List, [], ◌++◌, length, take, drop, nat_le, slice_index, slice_index_or}
use Rattle.std.specs.Prelude.{Some, None, Result, Ok, Err}
use Rattle.std.specs.declared.option.Option as code
use Rattle.flow.specs.RefusalNumbers.{cut, wrong_byte}
use Rattle.flow.specs.Flow.{Entry, Read, One, Done, Fault, pick}
use Rattle.flow.specs.Steps.{Answer, renamed}
use Rattle.wire.specs.BigEndian.{joined}
use Rattle.scalar.specs.Refusals.{fault}
use Rattle.scalar.specs.declared.refusals.Refused.{Refused}
use Rattle.scalar.specs.declared.Begun.{Begun}
use Rattle.scalar.specs.declared.Encoding.{Encoding}
use Rattle.scalar.specs.declared.Encoding.TheVariants.{Utf8}
use Rattle.texts.specs.declared.Extent.{Extent}
use Rattle.texts.specs.declared.CharRead.{CharRead}
use Rattle.texts.specs.declared.HeadForm.{HeadForm}
use Rattle.texts.specs.declared.Parts as code_parts
use Rattle.texts.specs.declared.HeadRead.{HeadRead}
use Rattle.texts.specs.declared.ChunkRead.{ChunkRead}
use Rattle.texts.specs.declared.StringPassed.{StringPassed}
use Rattle.texts.specs.declared.StringRead.{StringRead}
use Rattle.scalar.specs.Scalars.{form_at, inside, part_head, last_heads, units, characters, body, string_at}
use Rattle.scalar.specs.Answers.{Sizes, sized, measured_at}
use Rattle.scalar.specs.Decoded.{decoded}
use Rattle.scalar.specs.TextUnits.{weights}
use Rattle.scalar.specs.StringLengths.{Parts, parts, parts_after}

-- a text or byte string read: its units, its content's bytes, those it takes and those of its shortest form; or a
-- refusal
abbrev pub told_string : Result StringRead Refused → Answer Sizes
told_string (Ok s) = Done s.size (sized s.units s.bytes s.shortest) [] tt
told_string (Err r) = fault r

-- the text or byte string at the place p of the message m has u units and b bytes of content, and takes n bytes there
pub record StringIs (k : Encoding) (m : List ℕ) (p u b n : ℕ) : Type 0 where
  pub shortest : ℕ
  pub says : measured_at k m p ≡ Done n (sized u b shortest) [] tt

-- one that is passed: the same, but for the length of its shortest form
abbrev pub PassedSays : Encoding → List ℕ → ℕ → Result StringPassed Refused → Type 0
PassedSays k m p (Ok s) = StringIs k m p s.units s.bytes s.size
PassedSays k m p (Err r) = measured_at k m p ≡ fault r

pub record PassedMet (k : Encoding) (m : List ℕ) (p : ℕ) (r : Result StringPassed Refused) : Type 0 where
  pub says : PassedSays k m p r

-- so many units and bytes, whatever it takes
pub record StringHas (k : Encoding) (m : List ℕ) (p u b : ℕ) : Type 0 where
  pub size : ℕ
  pub is : StringIs k m p u b size

-- the bytes of the shortest form; 0 where none is read
abbrev pub shortest_of : Answer Sizes → ℕ
shortest_of (Done n s es c) = s.shortest
shortest_of (Fault x o) = 0

-- n bytes, where it has so many units and bytes
pub record PassedLength (k : Encoding) (m : List ℕ) (p u b n : ℕ) : Type 0 where
  pub is : StringHas k m p u b → n ≡ shortest_of (measured_at k m p)

-- ---- inside the code
-- how many bytes f reads at the place p of the message m, and how many its content has
abbrev pub extent_at : Read One One (List ℕ) → List ℕ → ℕ → Answer ℕ
extent_at f m p = renamed length (f tt p (drop p m))

abbrev pub told_extent : Result Extent Refused → Answer ℕ
told_extent (Ok e) = Done e.size e.bytes [] tt
told_extent (Err r) = fault r

-- n bytes, which are the content
abbrev pub told_bytes : ℕ → Result (Unit {0}) Refused → Answer ℕ
told_bytes n (Ok u) = Done n n [] tt
told_bytes n (Err r) = fault r

-- n bytes before it, of which the content has b
abbrev pub shifted : ℕ → ℕ → Answer ℕ → Answer ℕ
shifted n b (Done m a es c) = Done (n + m) (b + a) es c
shifted n b (Fault x o) = Fault x o

-- so many bytes before it, of which cs are content
abbrev pub prefixed : ℕ → List ℕ → Answer (List ℕ) → Answer (List ℕ)
prefixed n cs (Done m ds es c) = Done (n + m) (cs ++ ds) es c
prefixed n cs (Fault x o) = Fault x o

-- characters of n units at the place p of the message m
abbrev pub text_at : ℕ → List ℕ → ℕ → Answer (List ℕ)
text_at n m p = characters n tt p (drop p m)

-- the first character of n units at p: it takes j bytes there, its content has b, and it counts u units; then what is
-- left
pub record Passes (n : ℕ) (m : List ℕ) (p j b u : ℕ) : Type 0 where
  pub front : List ℕ
  pub says : text_at n m p ≡ prefixed j front (text_at (n - u) m (p + j))
  pub bytes_are : length front ≡ b
  pub units_are : units Utf8 front ≡ u
  pub first_is : slice_index_or (weights Utf8 front) 0 0 ≡ u

abbrev pub CharSays : ℕ → List ℕ → ℕ → Result CharRead Refused → Type 0
CharSays n m p (Ok c) =
    Passes n m p c.size c.bytes c.units × (0 < c.size) × (p + c.size ≤ length m)
    × (0 < c.units) × (c.units ≤ n) × (c.bytes ≤ c.size)
CharSays n m p (Err r) = extent_at (characters n) m p ≡ fault r

pub record CharMet (n : ℕ) (m : List ℕ) (p : ℕ) (r : Result CharRead Refused) : Type 0 where
  pub says : CharSays n m p r

-- of n units from `at` on the characters up to `here` are passed, and `left` units are left: what is left reads as the
-- whole does, but for the content so far
pub record Passing (n : ℕ) (m : List ℕ) (at here left bytes : ℕ) : Type 0 where
  pub front : List ℕ
  pub says : prefixed (here - at) front (text_at left m here) ≡ text_at n m at
  pub units_are : units Utf8 front + left ≡ n
  pub bytes_are : length front ≡ bytes
  pub onward : at + bytes ≤ here
  pub inside : here ≤ length m

-- of n units at p, the first character counts more than `room`, if there are such characters
pub record Over (room n : ℕ) (m : List ℕ) (p : ℕ) : Type 0 where
  pub over : (i : ℕ) (cs : List ℕ) (es : List (Entry One)) → text_at n m p ≡ Done i cs es tt
      → room < slice_index (weights Utf8 cs) 0

-- of n units at p, the characters that fit so many units are passed
abbrev pub WithinSays : ℕ → ℕ → List ℕ → ℕ → Result CharRead Refused → Type 0
WithinSays n room m p (Ok c) =
    Passing n m p (p + c.size) (n - c.units) c.bytes × (c.units ≤ room)
    × Over (room - c.units) (n - c.units) m (p + c.size)
WithinSays n room m p (Err r) = fault r ≡ extent_at (characters n) m p

pub record WithinMet (n room : ℕ) (m : List ℕ) (p : ℕ) (r : Result CharRead Refused) : Type 0 where
  pub says : WithinSays n room m p r

-- the parts y after the content of n units at p, by those before it, x; or the content is refused
abbrev pub PartsSay : Encoding → ℕ → List ℕ → ℕ → code_parts.Parts → Result code_parts.Parts Refused → Type 0
PartsSay k n m p x (Ok y) = (j b : ℕ) → Done j b [] tt ≡ extent_at (body k n) m p
    → parts_after x.cuts x.filled (weights k (decoded k (take j (drop p m)))) ≡ parts y.cuts y.filled
PartsSay k n m p x (Err r) = fault r ≡ extent_at (body k n) m p

pub record PartsMet (k : Encoding) (n : ℕ) (m : List ℕ) (p : ℕ) (x : code_parts.Parts) (r : Result code_parts.Parts Refused) : Type 0 where
  pub says : PartsSay k n m p x r

-- a chunk's head, by its first byte: of a chunk that is not the last, or of the last
abbrev pub starts : ℕ → ℕ → Bool → HeadForm
starts j u l = record { more = j; held = u; last = l }

abbrev pub last_form : code.Option Begun → code.Option HeadForm
last_form (Some x) = Some (starts x.more x.held true)
last_form None = None

unfoldable pub head_form : Encoding → ℕ → code.Option HeadForm
head_form k b = pick (inside (part_head k) b) (Some (starts 2 0 false)) (last_form (form_at (last_heads k) b))

-- a chunk at p, by the bytes of its head and what is read of its content: the last, or one before others
abbrev pub chunked : Encoding → List ℕ → ℕ → ℕ → Bool → Answer (List ℕ) → Answer (List ℕ)
chunked k m p h true (Done n cs es c) = Done (h + n) cs [] tt
chunked k m p h false (Done n cs es c) = prefixed (h + n) cs (string_at k m (p + (h + n)))
chunked k m p h l (Fault x o) = Fault x o

-- the head at p: none, cut off, or how many bytes it takes, the units that it says, and whether the chunk is the last
abbrev pub head_read : ℕ → ℕ → Bool → HeadRead
head_read h u l = record { size = h; units = u; last = l }

abbrev pub head_by : List ℕ → ℕ → code.Option HeadForm → Answer HeadRead
head_by m p (Some f) =
    pick (nat_le (length m - p) f.more) (Fault cut (length m))
    (Done (f.more + 1) (head_read (f.more + 1) (joined f.held (take f.more (drop (p + 1) m))) f.last) [] tt)
head_by m p None = Fault wrong_byte p

unfoldable pub head_at : Encoding → List ℕ → ℕ → Answer HeadRead
head_at k m p = pick (nat_le (length m) p) (Fault cut (length m)) (head_by m p (head_form k (slice_index m p)))

abbrev pub told_head : Result HeadRead Refused → Answer HeadRead
told_head (Ok h) = Done h.size h [] tt
told_head (Err r) = fault r

-- the same by the string that stands there
abbrev pub HeadSays : Encoding → List ℕ → ℕ → Result HeadRead Refused → Type 0
HeadSays k m p (Ok h) =
    (string_at k m p ≡ chunked k m p h.size h.last (body k h.units tt (p + h.size) (drop (p + h.size) m)))
    × (0 < h.size) × (p + h.size ≤ length m) × (h.units ≤ 65535)
HeadSays k m p (Err r) = string_at k m p ≡ fault r

pub record HeadMet (k : Encoding) (m : List ℕ) (p : ℕ) (r : Result HeadRead Refused) : Type 0 where
  pub is : told_head r ≡ head_at k m p
  pub says : HeadSays k m p r

-- the chunk at p: its head, and then its content, of n bytes in the message and b of its own
abbrev pub chunk_read : ℕ → ℕ → ℕ → ℕ → Bool → ChunkRead
chunk_read h n b u l = record { head = h; size = n; bytes = b; units = u; last = l }

abbrev pub with_content : HeadRead → Answer ℕ → Answer ChunkRead
with_content h (Done n b es c) = Done (h.size + n) (chunk_read h.size n b h.units h.last) [] tt
with_content h (Fault x o) = Fault x o

abbrev pub chunk_by : Encoding → List ℕ → ℕ → Answer HeadRead → Answer ChunkRead
chunk_by k m p (Done n h es c) = with_content h (extent_at (body k h.units) m (p + h.size))
chunk_by k m p (Fault x o) = Fault x o

unfoldable pub chunk_at : Encoding → List ℕ → ℕ → Answer ChunkRead
chunk_at k m p = chunk_by k m p (head_at k m p)

abbrev pub told_chunk : Result ChunkRead Refused → Answer ChunkRead
told_chunk (Ok c) = Done (c.head + c.size) c [] tt
told_chunk (Err r) = fault r

-- the same by the string that stands there: the content is what the bytes after the head are decoded to
abbrev pub content_of : Encoding → List ℕ → ℕ → ChunkRead → List ℕ
content_of k m p c = decoded k (take c.size (drop (p + c.head) m))

abbrev pub ChunkSays : Encoding → List ℕ → ℕ → Result ChunkRead Refused → Type 0
ChunkSays k m p (Ok c) =
    (string_at k m p ≡ chunked k m p c.head c.last (Done c.size (content_of k m p c) [] tt))
    × (0 < c.head) × (p + (c.head + c.size) ≤ length m) × (c.units ≤ c.bytes)
    × (units k (content_of k m p c) ≡ c.units) × (length (content_of k m p c) ≡ c.bytes)
    × (c.bytes ≤ c.size) × (c.units ≤ 65535)
ChunkSays k m p (Err r) = string_at k m p ≡ fault r

pub record ChunkMet (k : Encoding) (m : List ℕ) (p : ℕ) (r : Result ChunkRead Refused) : Type 0 where
  pub is : told_chunk r ≡ chunk_at k m p
  pub says : ChunkSays k m p r

-- the chunks before `here` are read: what is left reads as the whole does, but for the content and the bytes so far
pub record Joining (k : Encoding) (m : List ℕ) (at here total bytes : ℕ) : Type 0 where
  pub front : List ℕ
  pub says : prefixed (here - at) front (string_at k m here) ≡ string_at k m at
  pub units_are : units k front ≡ total
  pub bytes_are : length front ≡ bytes
  pub few : total ≤ bytes
  pub onward : at + bytes ≤ here
  pub inside : here ≤ length m

-- and these are the parts of the content so far
pub record Parting (k : Encoding) (m : List ℕ) (at here total bytes : ℕ) (x : Parts) : Type 0 where
  pub joining : Joining k m at here total bytes
  pub parts_are : parts_after 0 0 (weights k joining.front) ≡ x

-- the same, whatever units and bytes they are
pub record Cutting (k : Encoding) (m : List ℕ) (at here : ℕ) (x : Parts) : Type 0 where
  pub total : ℕ
  pub bytes : ℕ
  pub parting : Parting k m at here total bytes x

-- the heads of the shortest form of the text or byte string at p have n bytes; or none is read
abbrev pub HeadsSay : Encoding → List ℕ → ℕ → Result ℕ Refused → Type 0
HeadsSay k m p (Ok n) = (u b i : ℕ) (s : StringIs k m p u b i) → b + n ≡ s.shortest
HeadsSay k m p (Err r) = fault r ≡ measured_at k m p

pub record HeadsMet (k : Encoding) (m : List ℕ) (p : ℕ) (r : Result ℕ Refused) : Type 0 where
  pub says : HeadsSay k m p r

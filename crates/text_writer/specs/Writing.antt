-- What the answers of the code that writes texts and byte strings say.
use Rattle.std.specs.Prelude.{◌≡◌, List, [], ◌∷◌, ◌++◌, ℕ, suc, ◌+◌, ◌^◌, ◌≤◌, ◌<◌, length, take, drop}
use Rattle.std.specs.Prelude.{true, false, cond, eqb, Some, None}
use Rattle.std.specs.declared.option.Option as code
use Rattle.flow.specs.Steps.{Answer}
use Rattle.flow.specs.Flow.{Done, Fault, stored}
use Rattle.scalar.specs.declared.Rule.TheVariants.{Plain}
use Rattle.scalar.specs.declared.Encoding.{Encoding}
use Rattle.scalar.specs.declared.Encoding.TheVariants.{Utf8, Binary}
use Rattle.texts.specs.declared.ChunkRead.{ChunkRead}
use Rattle.text_writer.specs.declared.Cursor.{Cursor}
use Rattle.text_writer.specs.declared.Heads.{Heads}
use Rattle.text_writer.specs.declared.Copied.{Copied}
use Rattle.text_writer.specs.declared.Piece.{Piece}
use Rattle.text_writer.specs.declared.Item.{Item}
use Rattle.scalar.specs.Scalars.{form, part_head, last_heads, units, fitting, string_at, spelled}
use Rattle.scalar.specs.TextUnits.{weights}
use Rattle.scalar.specs.Decoded.{decoded}
use Rattle.texts.specs.Ascii.{ascii_at}

-- ---- inside the code
abbrev pub content_of : Answer (List ℕ) → List ℕ
content_of (Done n cs es c) = cs
content_of (Fault x o) = []

abbrev pub IsDone : Answer (List ℕ) → Type 0
IsDone (Done n cs es c) = Unit {0}
IsDone (Fault x o) = ⊥

-- n bytes from p on
abbrev pub window : List ℕ → ℕ → ℕ → List ℕ
window m p n = take n (drop p m)

-- the bytes left in the cursor's chunk
abbrev pub bytes_left : List ℕ → Cursor → List ℕ
bytes_left m c = window m c.here c.left

-- the content from the cursor on: what the rest of its chunk is decoded to, and the chunks after
unfoldable pub rest : Encoding → List ℕ → Cursor → List ℕ
rest k m c = decoded k (bytes_left m c) ++ cond c.last [] (content_of (string_at k m (c.here + c.left)))

-- the bytes stand in the content as they are
pub record AsIs (k : Encoding) (w : List ℕ) : Type 0 where
  pub same : length (decoded k w) ≡ length w

-- a cursor in a text or byte string
pub record Going (k : Encoding) (m : List ℕ) (c : Cursor) : Type 0 where
  pub inside : c.here + c.left ≤ length m
  pub behind : c.last ≡ false → IsDone (string_at k m (c.here + c.left))
  pub units_are : c.units ≡ units k (decoded k (bytes_left m c))
  pub plainly : c.plain ≡ true → AsIs k (bytes_left m c)

-- the cursor at the start of the content of the chunk at p
abbrev pub opening : ℕ → ChunkRead → Cursor
opening p c = record {
  here = p + c.head;
  left = c.size;
  units = c.units;
  last = c.last;
  plain = eqb c.size c.bytes;
}

-- the cursor r at the start of the content of the string at p
pub record Opens (k : Encoding) (m : List ℕ) (p : ℕ) (r : Cursor) : Type 0 where
  pub opens : IsDone (string_at k m p) → Going k m r × (rest k m r ≡ content_of (string_at k m p)) × (p < r.here)

-- how much of the content cs fits cap units
pub record Spans (k : Encoding) (cs : List ℕ) (cap : ℕ) (r : Copied) : Type 0 where
  pub bytes : r.bytes ≡ fitting cap (weights k cs)
  pub units_are : r.units ≡ units k (take r.bytes cs)

-- how many bytes from p on, up to so many, weigh one each: those of ASCII, or any of a byte string
unfoldable pub singles_at : Encoding → List ℕ → ℕ → ℕ → ℕ
singles_at Utf8 m p most = ascii_at m p most
singles_at Binary m p most = most

-- the first bytes of w, of at most cap units, are passed: what they are decoded to is in the list, where it fits
pub record Passed (k : Encoding) (w : List ℕ) (cap : ℕ) (l : List ℕ) (to : ℕ) (r : Piece) (l' : List ℕ) : Type 0 where
  pub front : List ℕ
  pub decodes : decoded k w ≡ front ++ decoded k (drop r.size w)
  pub bytes_are : length front ≡ r.bytes
  pub units_are : units k front ≡ r.units
  pub fits : r.units ≤ cap
  pub inside : r.size ≤ length w
  pub holds : l' ≡ stored l to front

-- or none are, where nothing of w fits, whatever comes after it, and the list is as it was
pub record Stops (k : Encoding) (w : List ℕ) (cap : ℕ) (l l' : List ℕ) : Type 0 where
  pub kept : l' ≡ l
  pub stops : (v : List ℕ) → fitting cap (weights k (decoded k w ++ v)) ≡ 0

abbrev pub PieceSays : Encoding → List ℕ → ℕ → List ℕ → ℕ → List ℕ → code.Option Piece → Type 0
PieceSays k w cap l to l' (Some r) = (0 < r.size) × Passed k w cap l to r l'
PieceSays k w cap l to l' None = Stops k w cap l l'

pub record PieceMet (k : Encoding) (w : List ℕ) (cap : ℕ) (l : List ℕ) (to : ℕ) (r : code.Option Piece) (l' : List ℕ)
    : Type 0 where
  pub says : PieceSays k w cap l to l' r

-- what comes first of the content from the cursor c on, of at most cap units, is in the list, where it fits
pub record Goes (k : Encoding) (m : List ℕ) (c : Cursor) (cap : ℕ) (l : List ℕ) (to : ℕ) (r : Copied) (l' : List ℕ)
    : Type 0 where
  pub going : Going k m r.next
  pub front : List ℕ
  pub joins : rest k m c ≡ front ++ rest k m r.next
  pub bytes_are : length front ≡ r.bytes
  pub units_are : units k front ≡ r.units
  pub fits : r.units ≤ cap
  pub holds : l' ≡ stored l to front

-- or nothing of it fits, and the list is as it was
pub record Halts (k : Encoding) (m : List ℕ) (c : Cursor) (cap : ℕ) (l l' : List ℕ) : Type 0 where
  pub kept : l' ≡ l
  pub stops : fitting cap (weights k (rest k m c)) ≡ 0

abbrev pub NextSays : Encoding → List ℕ → Cursor → ℕ → List ℕ → ℕ → List ℕ → code.Option Copied → Type 0
NextSays k m c cap l to l' (Some r) = (c.here < r.next.here) × Goes k m c cap l to r l'
NextSays k m c cap l to l' None = Halts k m c cap l l'

pub record NextMet (k : Encoding) (m : List ℕ) (c : Cursor) (cap : ℕ) (l : List ℕ) (to : ℕ) (r : code.Option Copied)
    (l' : List ℕ) : Type 0 where
  pub says : NextSays k m c cap l to l' r

-- as much of the content from the cursor on as fits cap units may be copied to `to`: the place after it is a number
pub record Copyable (k : Encoding) (m : List ℕ) (c : Cursor) (cap to : ℕ) : Type 0 where
  pub going : Going k m c
  pub below : to + fitting cap (weights k (rest k m c)) < 2 ^ 64

-- n bytes of the content from the cursor c on are in the list, where they fit; the cursor r is after them
pub record Copies (k : Encoding) (m : List ℕ) (c : Cursor) (n : ℕ) (l : List ℕ) (to : ℕ) (l' : List ℕ) (r : Cursor)
    : Type 0 where
  pub going : Going k m r
  pub behind : rest k m r ≡ drop n (rest k m c)
  pub same : length l' ≡ length l
  pub holds : to + n ≤ length l → l' ≡ stored l to (take n (rest k m c))

-- as much of it as fits cap units is copied
pub record CopyMet (k : Encoding) (m : List ℕ) (c : Cursor) (cap : ℕ) (l : List ℕ) (to : ℕ) (r : Copied) (l' : List ℕ)
    : Type 0 where
  pub spans : Spans k (rest k m c) cap r
  pub copies : Copies k m c r.bytes l to l' r.next

-- the heads of chunks, by their codes
pub record HeadsOf (k : Encoding) (r : Heads) : Type 0 where
  pub last : last_heads k ≡ form r.one r.few 0 Plain ∷ form r.two 4 1 Plain ∷ form r.three 1 2 Plain ∷ []
  pub part : part_head k ≡ form r.part 1 2 Plain
  pub bytes : (r.one + r.few ≤ 256) × (r.two + 4 ≤ 256) × (r.three < 256) × (r.part < 256)

-- the shortest form of the content from the cursor on
unfoldable pub laid : Encoding → List ℕ → Cursor → List ℕ
laid k m c = spelled k (suc (length (rest k m c))) (rest k m c)

-- the item's units and bytes are those of the content from its cursor on
pub record IsItem (k : Encoding) (m : List ℕ) (x : Item) : Type 0 where
  pub going : Going k m x.first
  pub units_are : x.units ≡ units k (rest k m x.first)
  pub bytes_are : x.bytes ≡ length (rest k m x.first)

-- the item is the string at p
pub record ItemAt (k : Encoding) (m : List ℕ) (p : ℕ) (x : Item) : Type 0 where
  pub done : IsDone (string_at k m p)
  pub whole : IsItem k m x
  pub content_is : rest k m x.first ≡ content_of (string_at k m p)

abbrev pub FoundSays : Encoding → List ℕ → ℕ → code.Option Item → Type 0
FoundSays k m p (Some x) = ItemAt k m p x
FoundSays k m p None = IsDone (string_at k m p) → ⊥

pub record FoundMet (k : Encoding) (m : List ℕ) (p : ℕ) (r : code.Option Item) : Type 0 where
  pub says : FoundSays k m p r

-- the shortest form is in the list, where it fits; r is how long it is
pub record Lays (k : Encoding) (m : List ℕ) (c : Cursor) (l : List ℕ) (to : ℕ) (l' : List ℕ) (r : ℕ) : Type 0 where
  pub long : r ≡ length (laid k m c)
  pub holds : to + r ≤ length l → l' ≡ stored l to (laid k m c)

-- Samples: 01's examples and its points of doubt, computed from the definitions.
use Rattle.std.specs.Prelude.{◌≡◌, refl, List, [], ◌∷◌, ◌++◌, map, ℕ, zero, suc, length, replicate}
use Rattle.std.specs.Int.Count.{count_leading_zeros}
use Rattle.flow.specs.Flow.{pick, Done, Fault}
use Rattle.std.specs.Float.Ieee as ieee
use Rattle.scalar.specs.Scalars.{Floats, Thousandths, thousandth, thousandths, scaled, whole, magnitude, widened}
use Rattle.scalar.specs.Scalars.{value, forms_of, form_at, shortest}
use Rattle.scalar.specs.Scalars.{part_head, last_heads, char_lead, paired, string_from, string_at, longest_chunk, content}
use Rattle.scalar.specs.Scalars.{shortest_string, scalar_from, int_from, text_from, shortest_scalar}
use Rattle.scalar.specs.Answers.{length_of}
use Rattle.scalar.specs.Guesses.{whole_size, whole_guess, narrow_magnitude, narrowed, guess}
use Rattle.record.specs.Model.Items.{Limits}
use Rattle.record.specs.Model.Reading.{type_from, head_of, plain_by, plain_from, definition, value_from, message}
use Rattle.record.specs.Model.Rows.{Row, row, rows, spans, span}
use Rattle.record.specs.Model.Claims.{content_at}
use Rattle.record.specs.Model.Shortest.{object_code, put_type, put_definition, put_plain_by, put_value, spell}
use Rattle.record.specs.Model.Answers.{ReadResult, Accept, Refuse, judged, read, WriteResult, Wrote, Refused}
use Rattle.record.specs.Model.Answers.{shortest_of, base, base_open_from, as_numbers, shortest_length, read_length}
use Rattle.record.specs.Model.Terms.{write}
use Rattle.record.specs.Laws.Claimed.{of_kind, item_at, ended}

-- ---- the base
abbrev pub base_read : (lent : ℕ) → List ℕ → ReadResult
base_read = read Floats base

abbrev pub base_write : (lent : ℕ) → List ℕ → List Row → WriteResult
base_write = write base base_open_from

-- but for the longest message, which has so many bytes
abbrev base_to : ℕ → Limits
base_to n = record {
  longest = n;
  containers = base.containers;
  types = base.types;
  classes = base.classes;
  fields = base.fields;
}

-- ---- what a sample says
-- what becomes of a message: the writer's message for its own rows, or a refusal's number and place
pub data Shortened : Type 0 where
  Becomes : List ℕ → Shortened
  IsRefused : ℕ → ℕ → Shortened

abbrev pub rewritten : WriteResult → Shortened
rewritten (Wrote w) = Becomes w
rewritten (Refused x n) = IsRefused x 0

abbrev pub shortened : List ℕ → Shortened
shortened m = elim (judged Floats base m) [
  | Done n u es c ↦ rewritten (base_write (length m) m (rows es))
  | Fault x o ↦ IsRefused x o
]

-- a sample: what is given, and what comes of it
pub data Sample : Type 0 where
  -- a message, and the reader's answer, 1,600 rows lent
  reads : List ℕ → ReadResult → Sample
  -- a message, and what becomes of it
  rewrites : List ℕ → Shortened → Sample
  -- a source and rows, and the writer's answer, 100 bytes lent
  writes : List ℕ → List Row → WriteResult → Sample

abbrev pub computed : Sample → Sample
computed (reads m a) = reads m (base_read 1_600 m)
computed (rewrites m a) = rewrites m (shortened m)
computed (writes source r a) = writes source r (base_write 100 source r)

-- what comes of all that is given is as said
abbrev pub Hold : List Sample → Type 0
Hold xs = map computed xs ≡ xs

-- n times the same bytes
abbrev times : ℕ → List ℕ → List ℕ
times zero w = []
times (suc n) w = w ++ times n w

-- ---- the marked examples, together
-- 01's twelve
abbrev pub marked : List Sample
marked =
    rewrites (0x49 ∷ 0x00 ∷ 0x00 ∷ 0x01 ∷ 0x2c ∷ []) (Becomes (0xc9 ∷ 0x2c ∷ []))
    ∷ writes [] (row 3 0 47 0 1 ∷ []) (Wrote (0xbf ∷ []))
    ∷ writes [] (row 3 0 48 0 1 ∷ []) (Wrote (0xc8 ∷ 0x30 ∷ []))
    ∷ writes [] (row 3 0 18446744073709551599 0 1 ∷ []) (Wrote (0xc7 ∷ 0xef ∷ []))
    ∷ writes [] (row 3 0 262_144 0 1 ∷ []) (Wrote (0x49 ∷ 0x00 ∷ 0x04 ∷ 0x00 ∷ 0x00 ∷ []))
    ∷ rewrites (0x59 ∷ 0x00 ∷ 0x00 ∷ 0x01 ∷ 0x2c ∷ []) (Becomes (0xf9 ∷ 0x2c ∷ []))
    ∷ rewrites (0x4a ∷ 0x00 ∷ 0x00 ∷ 0x00 ∷ 0xd0 ∷ 0x4b ∷ 0x92 ∷ 0x0b ∷ 0xa0 ∷ [])
    (Becomes (0x4b ∷ 0x00 ∷ 0xe3 ∷ 0x83 ∷ 0x8f ∷ []))
    ∷ rewrites (0x44 ∷ 0x40 ∷ 0x28 ∷ 0x80 ∷ 0x00 ∷ 0x00 ∷ 0x00 ∷ 0x00 ∷ 0x00 ∷ [])
    (Becomes (0x5f ∷ 0x41 ∷ 0x44 ∷ 0x00 ∷ 0x00 ∷ []))
    ∷ rewrites (0x52 ∷ 0x00 ∷ 0x07 ∷ 0x68 ∷ 0x65 ∷ 0x6c ∷ 0x6c ∷ 0x6f ∷ 0x2c ∷ 0x20 ∷ 0x05 ∷ 0x77 ∷ 0x6f ∷ 0x72 ∷ 0x6c
    ∷ 0x64 ∷ []) (Becomes (0x0c ∷ 0x68 ∷ 0x65 ∷ 0x6c ∷ 0x6c ∷ 0x6f ∷ 0x2c ∷ 0x20 ∷ 0x77 ∷ 0x6f ∷ 0x72 ∷ 0x6c ∷ 0x64
    ∷ []))
    ∷ rewrites (0x57 ∷ 0x90 ∷ 0x91 ∷ 0x5a ∷ []) (Becomes (0x7a ∷ 0x90 ∷ 0x91 ∷ []))
    ∷ rewrites (0x79 ∷ 0x51 ∷ 0x90 ∷ []) (Becomes (0x79 ∷ 0x51 ∷ 0x90 ∷ []))
    ∷ rewrites (0x51 ∷ 0x90 ∷ []) (IsRefused 6 0)
    ∷ []

-- ---- rows
-- a class definition and an object of the class, exactly as 01 gives them
abbrev pub car : List Sample
car =
    reads (0x43 ∷ 0x03 ∷ 0x43 ∷ 0x61 ∷ 0x72 ∷ 0x91 ∷ 0x05 ∷ 0x63 ∷ 0x6f ∷ 0x6c ∷ 0x6f ∷ 0x72 ∷ 0x60 ∷ 0x03 ∷ 0x72 ∷ 0x65
    ∷ 0x64 ∷ []) (Accept (row 15 0 1 0 3 ∷ row 16 1 3 3 2 ∷ row 17 6 5 5 3 ∷ row 13 12 0 1 5 ∷ row 7 13 3 3 5
    ∷ []) 17)
    ∷ []

-- two class definitions before an object of the first: numbers in their order
abbrev pub classes : List Sample
classes =
    reads (0x43 ∷ 0x00 ∷ 0x91 ∷ 0x00 ∷ 0x43 ∷ 0x00 ∷ 0x90 ∷ 0x60 ∷ 0x4e ∷ [])
    (Accept (row 15 0 1 0 3 ∷ row 16 1 0 0 2 ∷ row 17 3 0 0 3 ∷ row 15 4 0 0 5 ∷ row 16 5 0 0 5 ∷ row 13 7 0 1 7
    ∷ row 0 8 0 0 7 ∷ []) 9)
    ∷ []

-- rows of lists, maps, references, texts and numbers
abbrev pub accepted : List Sample
accepted =
    reads (0x57 ∷ 0x90 ∷ 0x91 ∷ 0x5a ∷ []) (Accept (row 9 0 2 0 3 ∷ row 3 1 0 0 2 ∷ row 3 2 1 0 3 ∷ []) 4)
    ∷ reads (0x72 ∷ 0x04 ∷ 0x5b ∷ 0x69 ∷ 0x6e ∷ 0x74 ∷ 0x90 ∷ 0x91 ∷ [])
    (Accept (row 10 0 2 0 4 ∷ row 18 1 4 4 2 ∷ row 3 6 0 0 3 ∷ row 3 7 1 0 4 ∷ []) 8)
    ∷ reads (0x7a ∷ 0x4d ∷ 0x01 ∷ 0x61 ∷ 0x5a ∷ 0x4d ∷ 0x90 ∷ 0x5a ∷ [])
    (Accept (row 9 0 2 0 5 ∷ row 12 1 0 0 3 ∷ row 18 2 1 1 3 ∷ row 12 5 0 0 5 ∷ row 19 6 0 0 5 ∷ []) 8)
    ∷ reads (0x48 ∷ 0x91 ∷ 0x4e ∷ 0x5a ∷ []) (Accept (row 11 0 1 0 3 ∷ row 3 1 1 0 2 ∷ row 0 2 0 0 3 ∷ []) 4)
    ∷ reads (0x79 ∷ 0x51 ∷ 0x90 ∷ []) (Accept (row 9 0 1 0 2 ∷ row 14 1 0 0 2 ∷ []) 3)
    ∷ reads (0x02 ∷ 0xf0 ∷ 0x9f ∷ 0x98 ∷ 0x80 ∷ []) (Accept (row 7 0 2 4 1 ∷ []) 5)
    ∷ reads (0x41 ∷ 0x00 ∷ 0x01 ∷ 0xff ∷ 0x21 ∷ 0x00 ∷ []) (Accept (row 8 0 2 0 1 ∷ []) 6)
    ∷ reads (0x49 ∷ 0xff ∷ 0xff ∷ 0xff ∷ 0xff ∷ []) (Accept (row 3 0 18446744073709551615 0 1 ∷ []) 5)
    ∷ reads (0x5e ∷ 0x80 ∷ 0x00 ∷ []) (Accept (row 5 0 13898108450065350656 0 1 ∷ []) 3)
    ∷ reads (0x5f ∷ 0x00 ∷ 0x00 ∷ 0x00 ∷ 0x01 ∷ []) (Accept (row 5 0 3936146074321813504 0 1 ∷ []) 5)
    ∷ reads (0x4b ∷ 0xff ∷ 0xff ∷ 0xff ∷ 0xff ∷ []) (Accept (row 6 0 18446744073709491616 0 1 ∷ []) 5)
    ∷ []

-- ---- refusals, by number
-- an empty message
abbrev pub refused_1 : List Sample
refused_1 =
    reads [] (Refuse 1 0 0)
    ∷ []

-- the message ends where a byte is needed
abbrev pub refused_2 : List Sample
refused_2 =
    reads (0x01 ∷ 0xc3 ∷ []) (Refuse 2 0 2)
    ∷ reads (0x01 ∷ 0xe0 ∷ []) (Refuse 2 0 2)
    ∷ reads (0x43 ∷ 0x00 ∷ 0x90 ∷ []) (Refuse 2 0 3)
    ∷ reads (0x43 ∷ 0x00 ∷ 0xc9 ∷ []) (Refuse 2 0 3)
    ∷ reads (0x58 ∷ 0xc7 ∷ []) (Refuse 2 0 2)
    ∷ reads (0x51 ∷ 0xc7 ∷ []) (Refuse 2 0 2)
    ∷ reads (0x57 ∷ 0x90 ∷ []) (Refuse 2 0 2)
    ∷ []

-- a byte that cannot stand there: what only closes, reserved ones, another kind than is due
abbrev pub refused_3 : List Sample
refused_3 =
    reads (0x5a ∷ []) (Refuse 3 0 0)
    ∷ reads (0x40 ∷ []) (Refuse 3 0 0)
    ∷ reads (0x4f ∷ 0x4e ∷ []) (Refuse 3 0 1)
    ∷ reads (0x58 ∷ 0xe1 ∷ 0x90 ∷ []) (Refuse 3 0 1)
    ∷ reads (0x43 ∷ 0x00 ∷ 0x90 ∷ 0x5a ∷ []) (Refuse 3 0 3)
    ∷ reads (0x41 ∷ 0x00 ∷ 0x00 ∷ 0x00 ∷ []) (Refuse 3 0 3)
    ∷ reads (0x58 ∷ 0x49 ∷ 0x7f ∷ 0xff ∷ 0xff ∷ 0xff ∷ 0x40 ∷ []) (Refuse 3 0 6)
    ∷ []

-- ill-formed UTF-8, at the character's first byte
abbrev pub refused_4 : List Sample
refused_4 =
    reads (0x01 ∷ 0x80 ∷ []) (Refuse 4 0 1)
    ∷ reads (0x01 ∷ 0xc1 ∷ []) (Refuse 4 0 1)
    ∷ reads (0x01 ∷ 0xe0 ∷ 0x80 ∷ []) (Refuse 4 0 1)
    ∷ reads (0x01 ∷ 0xf0 ∷ []) (Refuse 4 0 1)
    ∷ reads (0x01 ∷ 0xf0 ∷ 0x9f ∷ 0x98 ∷ 0x80 ∷ []) (Refuse 4 0 1)
    ∷ reads (0x02 ∷ 0xf4 ∷ 0x90 ∷ []) (Refuse 4 0 1)
    ∷ reads (0x53 ∷ 0xff ∷ 0xff ∷ 0x80 ∷ []) (Refuse 4 0 3)
    ∷ []

-- a negative count, at its first byte
abbrev pub refused_5 : List Sample
refused_5 =
    reads (0x58 ∷ 0xc7 ∷ 0xff ∷ []) (Refuse 5 0 1)
    ∷ reads (0x56 ∷ 0x00 ∷ 0x8f ∷ []) (Refuse 5 0 2)
    ∷ reads (0x43 ∷ 0x00 ∷ 0x8f ∷ []) (Refuse 5 0 2)
    ∷ []

-- a number that is not given: of a reference (a text gets none), a class, a type
abbrev pub refused_6 : List Sample
refused_6 =
    reads (0x51 ∷ 0x90 ∷ []) (Refuse 6 0 0)
    ∷ reads (0x51 ∷ 0x8f ∷ []) (Refuse 6 0 0)
    ∷ reads (0x79 ∷ 0x51 ∷ 0x91 ∷ []) (Refuse 6 0 1)
    ∷ reads (0x7a ∷ 0x01 ∷ 0x61 ∷ 0x51 ∷ 0x91 ∷ []) (Refuse 6 0 3)
    ∷ reads (0x60 ∷ []) (Refuse 6 0 0)
    ∷ reads (0x4f ∷ 0x90 ∷ []) (Refuse 6 0 0)
    ∷ reads (0x70 ∷ 0x91 ∷ []) (Refuse 6 0 1)
    ∷ []

-- past a ceiling: the 33rd open container, the 257th type name and class definition, 257 fields
abbrev pub refused_7 : List Sample
refused_7 =
    reads (replicate 33 0x79 ++ (0x90 ∷ [])) (Refuse 7 0 32)
    ∷ reads (replicate 32 0x79 ++ (0x60 ∷ [])) (Refuse 7 0 32)
    ∷ reads (0x57 ∷ times 257 (0x70 ∷ 0x00 ∷ [])) (Refuse 7 0 514)
    ∷ reads (times 257 (0x43 ∷ 0x00 ∷ 0x90 ∷ []) ++ (0x90 ∷ [])) (Refuse 7 0 768)
    ∷ reads (0x43 ∷ 0x00 ∷ 0xc9 ∷ 0x01 ∷ []) (Refuse 7 0 2)
    ∷ []

-- bytes after the record
abbrev pub refused_8 : List Sample
refused_8 =
    reads (0x90 ∷ 0x90 ∷ []) (Refuse 8 0 1)
    ∷ reads (0x90 ∷ 0x40 ∷ []) (Refuse 8 0 1)
    ∷ reads (0x79 ∷ 0xe0 ∷ 0x90 ∷ []) (Refuse 8 0 2)
    ∷ []

-- ---- the writer
-- shortest forms: numbers, class codes, types written out, 32 open containers
abbrev pub written : List Sample
written =
    rewrites (0x5d ∷ 0x00 ∷ []) (Becomes (0x5b ∷ []))
    ∷ rewrites (0x44 ∷ 0x80 ∷ 0x00 ∷ 0x00 ∷ 0x00 ∷ 0x00 ∷ 0x00 ∷ 0x00 ∷ 0x00 ∷ [])
    (Becomes (0x5f ∷ 0x80 ∷ 0x00 ∷ 0x00 ∷ 0x00 ∷ []))
    ∷ rewrites (0x44 ∷ 0x3f ∷ 0xf0 ∷ 0x00 ∷ 0x00 ∷ 0x00 ∷ 0x00 ∷ 0x00 ∷ 0x00 ∷ []) (Becomes (0x5c ∷ []))
    ∷ rewrites (0x44 ∷ 0xc0 ∷ 0xe0 ∷ 0x00 ∷ 0x00 ∷ 0x00 ∷ 0x00 ∷ 0x00 ∷ 0x00 ∷ []) (Becomes (0x5e ∷ 0x80 ∷ 0x00 ∷ []))
    ∷ rewrites (0x44 ∷ 0x40 ∷ 0xe0 ∷ 0x00 ∷ 0x00 ∷ 0x00 ∷ 0x00 ∷ 0x00 ∷ 0x00 ∷ [])
    (Becomes (0x5f ∷ 0x47 ∷ 0x00 ∷ 0x00 ∷ 0x00 ∷ []))
    ∷ rewrites (0x44 ∷ 0x7f ∷ 0xf0 ∷ 0x00 ∷ 0x00 ∷ 0x00 ∷ 0x00 ∷ 0x00 ∷ 0x01 ∷ [])
    (Becomes (0x44 ∷ 0x7f ∷ 0xf0 ∷ 0x00 ∷ 0x00 ∷ 0x00 ∷ 0x00 ∷ 0x00 ∷ 0x01 ∷ []))
    ∷ rewrites (0x5f ∷ 0x7f ∷ 0x80 ∷ 0x00 ∷ 0x01 ∷ []) (Becomes (0x5f ∷ 0x7f ∷ 0x80 ∷ 0x00 ∷ 0x01 ∷ []))
    ∷ rewrites (0x56 ∷ 0x02 ∷ 0x41 ∷ 0x42 ∷ 0x92 ∷ 0x90 ∷ 0x91 ∷ []) (Becomes (0x72 ∷ 0x02 ∷ 0x41 ∷ 0x42 ∷ 0x90 ∷ 0x91
    ∷ []))
    ∷ rewrites (0x43 ∷ 0x03 ∷ 0x43 ∷ 0x61 ∷ 0x72 ∷ 0x91 ∷ 0x05 ∷ 0x63 ∷ 0x6f ∷ 0x6c ∷ 0x6f ∷ 0x72 ∷ 0x4f ∷ 0x90 ∷ 0x03
    ∷ 0x72 ∷ 0x65 ∷ 0x64 ∷ []) (Becomes (0x43 ∷ 0x03 ∷ 0x43 ∷ 0x61 ∷ 0x72 ∷ 0x91 ∷ 0x05 ∷ 0x63 ∷ 0x6f ∷ 0x6c ∷ 0x6f
    ∷ 0x72 ∷ 0x60 ∷ 0x03 ∷ 0x72 ∷ 0x65 ∷ 0x64 ∷ []))
    ∷ rewrites (replicate 31 0x79 ++ (0x78 ∷ [])) (Becomes (replicate 31 0x79 ++ (0x78 ∷ [])))
    ∷ []

-- lists of 7, 8, 47 and 48 elements
abbrev pub list_forms : List Sample
list_forms =
    rewrites (0x57 ∷ replicate 7 0x90 ++ (0x5a ∷ [])) (Becomes (0x7f ∷ replicate 7 0x90))
    ∷ rewrites (0x57 ∷ replicate 8 0x90 ++ (0x5a ∷ [])) (Becomes (0x58 ∷ 0x98 ∷ replicate 8 0x90))
    ∷ rewrites (0x57 ∷ replicate 47 0x90 ++ (0x5a ∷ [])) (Becomes (0x58 ∷ 0xbf ∷ replicate 47 0x90))
    ∷ rewrites (0x58 ∷ 0xc8 ∷ 0x30 ∷ replicate 48 0x90) (Becomes (0x57 ∷ replicate 48 0x90 ++ (0x5a ∷ [])))
    ∷ []

-- rows that are no record: none at all, an unused number, a place that opens no such text, a wrong size, too few items,
-- an ungiven number
abbrev pub no_records : List Sample
no_records =
    writes [] [] (Refused 10 0)
    ∷ writes [] (row 3 0 5 1 1 ∷ []) (Refused 10 0)
    ∷ writes [] (row 20 0 0 0 1 ∷ []) (Refused 10 0)
    ∷ writes (0x90 ∷ []) (row 7 0 0 0 1 ∷ []) (Refused 10 0)
    ∷ writes (0x01 ∷ 0x61 ∷ []) (row 7 0 2 1 1 ∷ []) (Refused 10 0)
    ∷ writes (0x01 ∷ 0x61 ∷ []) (row 8 0 1 0 1 ∷ []) (Refused 10 0)
    ∷ writes [] (row 9 0 1 0 1 ∷ []) (Refused 10 0)
    ∷ writes [] (row 14 0 0 0 1 ∷ []) (Refused 10 0)
    ∷ writes [] (row 3 0 2147483648 0 1 ∷ []) (Refused 10 0)
    ∷ []

-- a text row serves wherever its place opens a complete text: inside other bytes too
abbrev pub placed : List Sample
placed =
    writes (0x40 ∷ 0x01 ∷ 0x61 ∷ []) (row 7 1 1 1 1 ∷ []) (Wrote (0x01 ∷ 0x61 ∷ []))
    ∷ writes (0x40 ∷ 0x21 ∷ 0x61 ∷ []) (row 8 1 1 0 1 ∷ []) (Wrote (0x21 ∷ 0x61 ∷ []))
    ∷ []

-- ---- 2026-04: pairs of halves
-- U+10000, the first supplementary character: as a pair of halves, and in four bytes
abbrev pair : List ℕ
pair = 0xed ∷ 0xa0 ∷ 0x80 ∷ 0xed ∷ 0xb0 ∷ 0x80 ∷ []

abbrev four : List ℕ
four = 0xf0 ∷ 0x90 ∷ 0x80 ∷ 0x80 ∷ []

-- read as the one character and written in four bytes: the first and the last, and with others around; U+1F600 as the
-- Java library writes it, beside its four bytes. The characters below the halves and byte strings are as before
abbrev pub pairs_read : List Sample
pairs_read =
    reads (0x02 ∷ pair) (Accept (row 7 0 2 4 1 ∷ []) 7)
    ∷ rewrites (0x02 ∷ pair) (Becomes (0x02 ∷ four))
    ∷ rewrites (0x02 ∷ 0xed ∷ 0xaf ∷ 0xbf ∷ 0xed ∷ 0xbf ∷ 0xbf ∷ []) (Becomes (0x02 ∷ 0xf4 ∷ 0x8f ∷ 0xbf ∷ 0xbf ∷ []))
    ∷ rewrites (0x03 ∷ 0x41 ∷ pair) (Becomes (0x03 ∷ 0x41 ∷ four))
    ∷ rewrites (0x03 ∷ pair ++ (0x41 ∷ [])) (Becomes (0x03 ∷ four ++ (0x41 ∷ [])))
    ∷ rewrites (0x02 ∷ 0xed ∷ 0xa0 ∷ 0xbd ∷ 0xed ∷ 0xb8 ∷ 0x80 ∷ []) (Becomes (0x02 ∷ 0xf0 ∷ 0x9f ∷ 0x98 ∷ 0x80 ∷ []))
    ∷ rewrites (0x04 ∷ pair ++ four) (Becomes (0x04 ∷ four ++ four))
    ∷ rewrites (0x01 ∷ 0xed ∷ 0x80 ∷ 0x80 ∷ []) (Becomes (0x01 ∷ 0xed ∷ 0x80 ∷ 0x80 ∷ []))
    ∷ rewrites (0x01 ∷ 0xed ∷ 0x9f ∷ 0xbf ∷ []) (Becomes (0x01 ∷ 0xed ∷ 0x9f ∷ 0xbf ∷ []))
    ∷ rewrites (0x26 ∷ pair) (Becomes (0x26 ∷ pair))
    ∷ []

-- cut off before the low half is complete: 2 at the end
abbrev pub pairs_cut : List Sample
pairs_cut =
    rewrites (0x01 ∷ 0xed ∷ []) (IsRefused 2 2)
    ∷ rewrites (0x02 ∷ 0xed ∷ []) (IsRefused 2 2)
    ∷ rewrites (0x02 ∷ 0xed ∷ 0xa0 ∷ []) (IsRefused 2 3)
    ∷ rewrites (0x02 ∷ 0xed ∷ 0xa0 ∷ 0x80 ∷ []) (IsRefused 2 4)
    ∷ rewrites (0x02 ∷ 0xed ∷ 0xa0 ∷ 0x80 ∷ 0xed ∷ []) (IsRefused 2 5)
    ∷ rewrites (0x02 ∷ 0xed ∷ 0xa0 ∷ 0x80 ∷ 0xed ∷ 0xb0 ∷ []) (IsRefused 2 6)
    ∷ []

-- a lone high half, at its first byte: with one unit left, as soon as its second byte is read; followed by another byte
-- than ed, or by ed and another byte than b0..bf. A fault in a third byte is at the same place
abbrev pub high_halves : List Sample
high_halves =
    rewrites (0x01 ∷ 0xed ∷ 0xa0 ∷ []) (IsRefused 4 1)
    ∷ rewrites (0x01 ∷ 0xed ∷ 0xa0 ∷ 0x41 ∷ []) (IsRefused 4 1)
    ∷ rewrites (0x01 ∷ 0xed ∷ 0xa0 ∷ 0x80 ∷ []) (IsRefused 4 1)
    ∷ rewrites (0x01 ∷ 0xed ∷ 0xa0 ∷ 0x80 ∷ 0xed ∷ 0xb0 ∷ 0x80 ∷ []) (IsRefused 4 1)
    ∷ rewrites (0x02 ∷ 0x41 ∷ 0xed ∷ 0xa0 ∷ 0x80 ∷ 0xed ∷ 0xb0 ∷ 0x80 ∷ []) (IsRefused 4 2)
    ∷ rewrites (0x02 ∷ 0xed ∷ 0xa0 ∷ 0x80 ∷ 0x41 ∷ []) (IsRefused 4 1)
    ∷ rewrites (0x02 ∷ 0xed ∷ 0xa0 ∷ 0x80 ∷ 0x80 ∷ []) (IsRefused 4 1)
    ∷ rewrites (0x02 ∷ 0xed ∷ 0xa0 ∷ 0x80 ∷ 0xff ∷ []) (IsRefused 4 1)
    ∷ rewrites (0x02 ∷ 0xed ∷ 0xa0 ∷ 0x80 ∷ 0xc3 ∷ 0xa9 ∷ []) (IsRefused 4 1)
    ∷ rewrites (0x03 ∷ 0xed ∷ 0xa0 ∷ 0x80 ∷ 0xf0 ∷ 0x9f ∷ 0x98 ∷ 0x80 ∷ []) (IsRefused 4 1)
    ∷ rewrites (0x02 ∷ 0xed ∷ 0xa0 ∷ 0x80 ∷ 0xed ∷ 0x9f ∷ []) (IsRefused 4 1)
    ∷ rewrites (0x02 ∷ 0xed ∷ 0xa0 ∷ 0x80 ∷ 0xed ∷ 0x9f ∷ 0xbf ∷ []) (IsRefused 4 1)
    ∷ rewrites (0x02 ∷ 0xed ∷ 0xa0 ∷ 0x80 ∷ 0xed ∷ 0xa0 ∷ []) (IsRefused 4 1)
    ∷ rewrites (0x04 ∷ 0xed ∷ 0xa0 ∷ 0x80 ∷ 0xed ∷ 0xa0 ∷ 0x80 ∷ 0xed ∷ 0xb0 ∷ 0x80 ∷ []) (IsRefused 4 1)
    ∷ rewrites (0x02 ∷ 0xed ∷ 0xa0 ∷ 0x80 ∷ 0xed ∷ 0xc0 ∷ []) (IsRefused 4 1)
    ∷ rewrites (0x02 ∷ 0xed ∷ 0xa0 ∷ 0x41 ∷ []) (IsRefused 4 1)
    ∷ rewrites (0x02 ∷ 0xed ∷ 0xa0 ∷ 0xc0 ∷ []) (IsRefused 4 1)
    ∷ rewrites (0x02 ∷ 0xed ∷ 0xa0 ∷ 0x80 ∷ 0xed ∷ 0xb0 ∷ 0x41 ∷ []) (IsRefused 4 1)
    ∷ []

-- a lone low half, at its first byte, as soon as its second byte is read; and second bytes that are of no character
abbrev pub low_halves : List Sample
low_halves =
    rewrites (0x01 ∷ 0xed ∷ 0xb0 ∷ []) (IsRefused 4 1)
    ∷ rewrites (0x02 ∷ 0xed ∷ 0xb0 ∷ []) (IsRefused 4 1)
    ∷ rewrites (0x02 ∷ 0x41 ∷ 0xed ∷ 0xb0 ∷ 0x80 ∷ []) (IsRefused 4 2)
    ∷ rewrites (0x02 ∷ 0xed ∷ 0xb0 ∷ 0x80 ∷ 0xed ∷ 0xa0 ∷ 0x80 ∷ []) (IsRefused 4 1)
    ∷ rewrites (0x04 ∷ 0xed ∷ 0xa0 ∷ 0x80 ∷ 0xed ∷ 0xb0 ∷ 0x80 ∷ 0xed ∷ 0xb0 ∷ 0x80 ∷ []) (IsRefused 4 7)
    ∷ rewrites (0x01 ∷ 0xed ∷ 0x7f ∷ []) (IsRefused 4 1)
    ∷ rewrites (0x01 ∷ 0xed ∷ 0xc0 ∷ []) (IsRefused 4 1)
    ∷ []

-- chunks: a pair in one chunk; a high half, and the low half in the next chunk
abbrev pub pairs_in_chunks : List Sample
pairs_in_chunks =
    rewrites (0x52 ∷ 0x00 ∷ 0x02 ∷ pair ++ (0x00 ∷ [])) (Becomes (0x02 ∷ four))
    ∷ rewrites (0x52 ∷ 0x00 ∷ 0x01 ∷ 0xed ∷ 0xa0 ∷ 0x80 ∷ 0x01 ∷ 0xed ∷ 0xb0 ∷ 0x80 ∷ []) (IsRefused 4 3)
    ∷ rewrites (0x52 ∷ 0x00 ∷ 0x02 ∷ 0x41 ∷ 0xed ∷ 0xa0 ∷ 0x80 ∷ 0x01 ∷ 0xed ∷ 0xb0 ∷ 0x80 ∷ []) (IsRefused 4 4)
    ∷ rewrites (0x52 ∷ 0x00 ∷ 0x02 ∷ 0xed ∷ 0xa0 ∷ 0x80 ∷ 0x01 ∷ 0xed ∷ 0xb0 ∷ 0x80 ∷ []) (IsRefused 4 3)
    ∷ []

-- names: of a type; of a class and a field
abbrev pub pairs_in_names : List Sample
pairs_in_names =
    rewrites (0x70 ∷ 0x02 ∷ pair) (Becomes (0x70 ∷ 0x02 ∷ four))
    ∷ rewrites (0x43 ∷ 0x02 ∷ pair ++ (0x91 ∷ 0x02 ∷ pair ++ (0x60 ∷ 0x4e ∷ [])))
    (Becomes (0x43 ∷ 0x02 ∷ four ++ (0x91 ∷ 0x02 ∷ four ++ (0x60 ∷ 0x4e ∷ []))))
    ∷ []

-- the writer compares a row's second number with the length in four-byte UTF-8
abbrev pub pairs_in_rows : List Sample
pairs_in_rows =
    writes (0x02 ∷ pair) (row 7 0 2 4 1 ∷ []) (Wrote (0x02 ∷ four))
    ∷ writes (0x02 ∷ pair) (row 7 0 2 6 1 ∷ []) (Refused 10 0)
    ∷ []

-- ---- 2026-07: the fifth number
-- a definition ends with its names, before the value that it stands before; a list ends after the definitions in it, a
-- typed one after its type and its last value
abbrev pub fifths_read : List Sample
fifths_read =
    reads (0x43 ∷ 0x00 ∷ 0x90 ∷ 0x90 ∷ []) (Accept (row 15 0 0 0 2 ∷ row 16 1 0 0 2 ∷ row 3 3 0 0 3 ∷ []) 4)
    ∷ reads (0x7a ∷ 0x43 ∷ 0x00 ∷ 0x90 ∷ 0x60 ∷ 0x60 ∷ [])
    (Accept (row 9 0 2 0 5 ∷ row 15 1 0 0 3 ∷ row 16 2 0 0 3 ∷ row 13 4 0 0 4 ∷ row 13 5 0 0 5 ∷ []) 6)
    ∷ reads (0x79 ∷ 0x7a ∷ 0x90 ∷ 0x78 ∷ []) (Accept (row 9 0 1 0 4 ∷ row 9 1 2 0 4 ∷ row 3 2 0 0 3 ∷ row 9 3 0 0 4
    ∷ []) 4)
    ∷ reads (0x4d ∷ 0x01 ∷ 0x61 ∷ 0x90 ∷ 0x91 ∷ 0x5a ∷ [])
    (Accept (row 12 0 1 0 4 ∷ row 18 1 1 1 2 ∷ row 3 3 0 0 3 ∷ row 3 4 1 0 4 ∷ []) 6)
    ∷ []

-- another fifth number is no record: of a single item, of an element, of a list, of a definition (that of the value
-- after it), of a name
abbrev pub fifths_judged : List Sample
fifths_judged =
    writes [] (row 3 0 0 0 0 ∷ []) (Refused 10 0)
    ∷ writes [] (row 3 0 0 0 2 ∷ []) (Refused 10 0)
    ∷ writes [] (row 3 0 0 0 18446744073709551615 ∷ []) (Refused 10 0)
    ∷ writes [] (row 9 0 1 0 2 ∷ row 3 0 0 0 2 ∷ []) (Wrote (0x79 ∷ 0x90 ∷ []))
    ∷ writes [] (row 9 0 1 0 1 ∷ row 3 0 0 0 2 ∷ []) (Refused 10 0)
    ∷ writes [] (row 9 0 1 0 3 ∷ row 3 0 0 0 2 ∷ []) (Refused 10 0)
    ∷ writes [] (row 9 0 1 0 2 ∷ row 3 0 0 0 1 ∷ []) (Refused 10 0)
    ∷ writes (0x00 ∷ []) (row 15 0 0 0 2 ∷ row 16 0 0 0 2 ∷ row 0 0 0 0 3 ∷ []) (Wrote (0x43 ∷ 0x00 ∷ 0x90 ∷ 0x4e ∷ []))
    ∷ writes (0x00 ∷ []) (row 15 0 0 0 3 ∷ row 16 0 0 0 2 ∷ row 0 0 0 0 3 ∷ []) (Refused 10 0)
    ∷ writes (0x00 ∷ []) (row 15 0 0 0 2 ∷ row 16 0 0 0 3 ∷ row 0 0 0 0 3 ∷ []) (Refused 10 0)
    ∷ []

-- ---- they hold
pub marked_hold : Hold marked
unfolding judged message value_from plain_from plain_by head_of definition type_from pick scalar_from int_from text_from
    string_from forms_of form_at value whole widened magnitude scaled count_leading_zeros part_head last_heads char_lead
    write shortest_of ended span spans item_at of_kind content_at string_at spell put_value put_plain_by put_definition put_type
    object_code shortest_scalar shortest guess whole_guess whole_size narrowed narrow_magnitude shortest_string content
    longest_chunk
marked_hold = refl

pub samples_hold : Hold
    (car ++ (classes ++ (accepted ++ (refused_1
    ++ (refused_2 ++ (refused_3 ++ (refused_4
    ++ (refused_5 ++ (refused_6 ++ (refused_7
    ++ (refused_8 ++ (written ++ (list_forms ++ (no_records ++ placed))))))))))))))
unfolding judged message value_from plain_from plain_by head_of definition type_from pick scalar_from int_from text_from
    string_from forms_of form_at value whole widened magnitude scaled count_leading_zeros part_head last_heads char_lead
    write shortest_of ended span spans item_at of_kind content_at string_at spell put_value put_plain_by put_definition put_type
    object_code shortest_scalar shortest guess whole_guess whole_size narrowed narrow_magnitude shortest_string content
    longest_chunk
samples_hold = refl

pub pairs_hold : Hold (pairs_read ++ (pairs_cut ++ (high_halves ++ (low_halves
    ++ (pairs_in_chunks ++ (pairs_in_names ++ pairs_in_rows))))))
unfolding judged message value_from plain_from plain_by head_of definition type_from pick scalar_from int_from text_from
    string_from forms_of
    form_at value whole widened magnitude scaled count_leading_zeros part_head last_heads char_lead paired write shortest_of ended
    span spans item_at of_kind content_at string_at spell put_value put_plain_by put_definition put_type object_code
    shortest_scalar shortest guess
    whole_guess whole_size narrowed narrow_magnitude shortest_string content longest_chunk
pairs_hold = refl

pub fifths_hold : Hold (fifths_read ++ fifths_judged)
unfolding judged message value_from plain_from plain_by head_of definition type_from pick scalar_from int_from text_from
    string_from forms_of
    form_at value whole widened magnitude scaled count_leading_zeros part_head last_heads char_lead write shortest_of ended span
    spans
    item_at of_kind content_at string_at spell put_value put_plain_by put_definition put_type object_code shortest_scalar shortest
    guess whole_guess whole_size narrowed narrow_magnitude shortest_string content longest_chunk
fifths_hold = refl

-- lengths: a message too long for the ceiling, fewer rows lent than needed; a source too long, a shortest message too
-- long, fewer bytes lent than needed
pub lengths : (read Floats (base_to 3) 9 (0x7b ∷ 0x90 ∷ 0x90 ∷ 0x90 ∷ []) ≡ Refuse 1 0 0)
    × (base_read 1 (0x79 ∷ 0x90 ∷ []) ≡ Refuse 9 2 0)
    × (write (base_to 1) base_open_from 9 (0x90 ∷ 0x90 ∷ []) [] ≡ Refused 1 0)
    × (write (base_to 1) base_open_from 9 [] (row 3 0 48 0 1 ∷ []) ≡ Refused 1 0)
    × (base_write 1 [] (row 3 0 48 0 1 ∷ []) ≡ Refused 9 2)
unfolding judged message value_from plain_from plain_by head_of definition type_from pick scalar_from int_from text_from
    string_from forms_of form_at value whole widened magnitude scaled count_leading_zeros part_head last_heads char_lead
    write shortest_of ended span spans item_at of_kind content_at string_at spell put_value put_plain_by put_definition put_type
    object_code shortest_scalar shortest guess whole_guess whole_size narrowed narrow_magnitude shortest_string content
    longest_chunk
lengths = (refl, refl, refl, refl, refl)

-- ---- 2026-11, by the rule of thousandths: 1500 of them are 1.5, and -1 is -0.001; 0 is +0.0; beside them a double of
-- another form, and the same message by the main rule
abbrev read_in_thousandths : List ℕ → ReadResult
read_in_thousandths m = read Thousandths base 9 m

pub thousandths_read :
    (read_in_thousandths (0x5f ∷ 0x00 ∷ 0x00 ∷ 0x05 ∷ 0xdc ∷ []) ≡ Accept (row 5 0 0x3ff8_0000_0000_0000 0 1 ∷ []) 5)
    × (read_in_thousandths (0x5f ∷ 0xff ∷ 0xff ∷ 0xff ∷ 0xff ∷ []) ≡ Accept (row 5 0 0xbf50_624d_d2f1_a9fc 0 1 ∷ []) 5)
    × (read_in_thousandths (0x5f ∷ 0x00 ∷ 0x00 ∷ 0x00 ∷ 0x00 ∷ []) ≡ Accept (row 5 0 0 0 1 ∷ []) 5)
    × (read_in_thousandths (0x7a ∷ 0x5d ∷ 0x02 ∷ 0x5f ∷ 0x00 ∷ 0x00 ∷ 0x05 ∷ 0xdc ∷ [])
    ≡ Accept (row 9 0 2 0 3 ∷ row 5 1 0x4000_0000_0000_0000 0 2 ∷ row 5 3 0x3ff8_0000_0000_0000 0 3 ∷ []) 8)
    × (read_in_thousandths (0x5f ∷ 0x00 ∷ 0x00 ∷ 0x05 ∷ []) ≡ Refuse 2 0 4)
    × (base_read 9 (0x5f ∷ 0x41 ∷ 0x44 ∷ 0x00 ∷ 0x00 ∷ []) ≡ Accept (row 5 0 0x4028_8000_0000_0000 0 1 ∷ []) 5)
unfolding judged message value_from plain_from plain_by head_of definition type_from pick scalar_from int_from text_from
    string_from forms_of form_at value whole widened magnitude scaled count_leading_zeros part_head last_heads char_lead
    thousandths thousandth ieee.of_bits ieee.mul ieee.of_int ieee.round ieee.to_bits
thousandths_read = (refl, refl, refl, refl, refl, refl)

-- ---- 2026-06: the length of the shortest message. By the main rule: messages refused; a number, a text and a list in
-- longer forms; a class definition and an object with a wide class code; lists of 47 and 48 elements; a map, a type by
-- number and a reference; the same for another threshold of the open form; and refusal 9, which has 0
abbrev shortest_base : List ℕ → ℕ
shortest_base m = shortest_length Floats base base_open_from m

pub shortest_lengths :
    (shortest_base [] ≡ 0)
    × (shortest_base (0x51 ∷ 0x90 ∷ []) ≡ 0)
    × (shortest_base (0x90 ∷ 0x90 ∷ []) ≡ 0)
    × (shortest_base (0x49 ∷ 0x00 ∷ 0x00 ∷ 0x01 ∷ 0x2c ∷ []) ≡ 2)
    × (shortest_base (0x52 ∷ 0x00 ∷ 0x07 ∷ 0x68 ∷ 0x65 ∷ 0x6c ∷ 0x6c ∷ 0x6f ∷ 0x2c ∷ 0x20 ∷ 0x05 ∷ 0x77 ∷ 0x6f ∷ 0x72
    ∷ 0x6c ∷ 0x64 ∷ []) ≡ 13)
    × (shortest_base (0x57 ∷ 0x90 ∷ 0x91 ∷ 0x5a ∷ []) ≡ 3)
    × (shortest_base (0x43 ∷ 0x03 ∷ 0x43 ∷ 0x61 ∷ 0x72 ∷ 0x91 ∷ 0x05 ∷ 0x63 ∷ 0x6f ∷ 0x6c ∷ 0x6f ∷ 0x72 ∷ 0x4f ∷ 0x90
    ∷ 0x03 ∷ 0x72 ∷ 0x65 ∷ 0x64 ∷ []) ≡ 17)
    × (shortest_base (0x57 ∷ replicate 47 0x90 ++ (0x5a ∷ [])) ≡ 49)
    × (shortest_base (0x58 ∷ 0xc8 ∷ 0x30 ∷ replicate 48 0x90) ≡ 50)
    × (shortest_base (0x7b ∷ 0x4d ∷ 0x01 ∷ 0x61 ∷ 0x5a ∷ 0x4d ∷ 0xc8 ∷ 0x00 ∷ 0x5a ∷ 0x51 ∷ 0xc8 ∷ 0x00 ∷ []) ≡ 10)
    × (shortest_length Floats base 8 (0x57 ∷ replicate 47 0x90 ++ (0x5a ∷ [])) ≡ 49)
    × (read_length Floats base base_open_from as_numbers (0x49 ∷ 0x00 ∷ 0x00 ∷ 0x01 ∷ 0x2c ∷ []) (replicate 5 0) ≡ 2)
    × (read_length Floats base base_open_from as_numbers (0x49 ∷ 0x00 ∷ 0x00 ∷ 0x01 ∷ 0x2c ∷ []) (replicate 4 0) ≡ 0)
unfolding judged message value_from plain_from plain_by head_of definition type_from pick scalar_from int_from text_from
    string_from forms_of form_at value whole widened magnitude scaled count_leading_zeros part_head last_heads char_lead
    shortest_length length_of spell put_value put_plain_by put_definition put_type object_code shortest_scalar shortest guess
    whole_guess whole_size narrowed narrow_magnitude shortest_string content longest_chunk
shortest_lengths = (refl, refl, refl, refl, refl, refl, refl, refl, refl, refl, refl, refl, refl)

-- by the rule of thousandths: 0 and 2 have short forms; 1.5 is a float; -0.001 takes eight bytes after its code, so
-- that the shortest message is longer than the one read; and a message refused
abbrev shortest_in_thousandths : List ℕ → ℕ
shortest_in_thousandths m = shortest_length Thousandths base base_open_from m

pub thousandths_lengths :
    (shortest_in_thousandths (0x5f ∷ 0x00 ∷ 0x00 ∷ 0x00 ∷ 0x00 ∷ []) ≡ 1)
    × (shortest_in_thousandths (0x5f ∷ 0x00 ∷ 0x00 ∷ 0x07 ∷ 0xd0 ∷ []) ≡ 2)
    × (shortest_in_thousandths (0x5f ∷ 0x00 ∷ 0x00 ∷ 0x05 ∷ 0xdc ∷ []) ≡ 5)
    × (shortest_in_thousandths (0x79 ∷ 0x5f ∷ 0xff ∷ 0xff ∷ 0xff ∷ 0xff ∷ []) ≡ 10)
    × (shortest_base (0x79 ∷ 0x5f ∷ 0xff ∷ 0xff ∷ 0xff ∷ 0xff ∷ []) ≡ 6)
    × (shortest_in_thousandths (0x5f ∷ 0x00 ∷ 0x00 ∷ 0x05 ∷ []) ≡ 0)
unfolding judged message value_from plain_from plain_by head_of definition type_from pick scalar_from int_from text_from
    string_from forms_of form_at value whole widened magnitude scaled count_leading_zeros part_head last_heads char_lead
    thousandths thousandth ieee.of_bits ieee.mul ieee.of_int ieee.round ieee.to_bits
    shortest_length length_of spell put_value put_plain_by put_definition put_type object_code shortest_scalar shortest guess
    whole_guess whole_size narrowed narrow_magnitude shortest_string content longest_chunk
thousandths_lengths = (refl, refl, refl, refl, refl, refl)

-- The numbers of the refusals, each once: those of `enum hessian_refusal` in include/hessian.h, and of the code's
-- constants in scalar's src/refusals.rt. An answer's number is 0 where it accepts.
use Rattle.std.specs.Prelude.{ℕ}

abbrev pub wrong_length : ℕ  -- the message is empty or too long; the source or the shortest message is too long
wrong_length = 1

abbrev pub cut : ℕ  -- the message ends where a byte is needed; the place is its length
cut = 2

abbrev pub wrong_byte : ℕ  -- a byte cannot stand here
wrong_byte = 3

abbrev pub not_utf8 : ℕ  -- a character is not UTF-8, is half a pair, or finds no room; the place is its first byte
not_utf8 = 4

abbrev pub negative : ℕ  -- a list or field count is negative
negative = 5

abbrev pub ungiven : ℕ  -- no such class, type or reference number is given yet
ungiven = 6

abbrev pub over_ceiling : ℕ  -- too many containers open, or too many classes, types, or fields of one class
over_ceiling = 7

abbrev pub bytes_after : ℕ  -- bytes after the record
bytes_after = 8

abbrev pub no_room : ℕ  -- fewer rows, or bytes for the writer, are lent than needed; the count says how many
no_room = 9

abbrev pub no_record : ℕ  -- for the writer: the rows are no record, or their fifth numbers are wrong
no_record = 10

-- of the holdings file (2026-01); but for the first two the place is the faulty entry's first byte
abbrev pub wrong_mark : ℕ  -- the file does not begin with the mark
wrong_mark = 20

abbrev pub unknown_version : ℕ  -- its version is cut, or none that is known
unknown_version = 21

abbrev pub cut_entry : ℕ  -- an entry is cut; the used length is beyond the buffer, and then the place is 0
cut_entry = 22

abbrev pub refused_entry : ℕ  -- an entry's message is refused by the reader
refused_entry = 23

abbrev pub not_shortest : ℕ  -- an entry's message is not its record's shortest
not_shortest = 24

abbrev pub repeated_entry : ℕ  -- an entry's message is that of an earlier entry
repeated_entry = 25

abbrev pub beyond_version : ℕ  -- the record's shortest message passes the ceilings of the file's version
beyond_version = 34

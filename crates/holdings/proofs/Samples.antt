-- Samples: the definitions run on the request's points of doubt and on random files, computed by the checker.
use Rattle.std.specs.Prelude.{◌≡◌, refl, List, [], ◌∷◌, ◌++◌, map, ℕ, replicate}
use Rattle.std.specs.Int.Count.{count_leading_zeros}
use Rattle.flow.specs.Flow.{pick, Report, stored, put, overlay}
use Rattle.wire.specs.BigEndian.{be}
use Rattle.scalar.specs.Scalars.{scaled, whole, magnitude, widened, value, forms_of, form_at, shortest, part_head}
use Rattle.scalar.specs.Scalars.{last_heads, char_lead, paired, string_from, string_at, longest_chunk, content}
use Rattle.scalar.specs.Scalars.{shortest_string, scalar_from, int_from, text_from, shortest_scalar}
use Rattle.scalar.specs.Guesses.{whole_size, whole_guess, narrow_magnitude, narrowed, guess}
use Rattle.record.specs.Model.Items.{Limits}
use Rattle.record.specs.Model.Reading.{type_from, head_of, plain_by, plain_from, definition, value_from, message}
use Rattle.record.specs.Model.Claims.{content_at}
use Rattle.record.specs.Model.Shortest.{object_code, put_type, put_definition, put_plain_by, put_value, spell}
use Rattle.record.specs.Model.Answers.{base, base_open_from, judged}
use Rattle.holdings.specs.Files.{Versions, versions, shortest_by, entries_in, fault_of, listing_of, listing}
use Rattle.holdings.specs.Files.{header_size}
use Rattle.holdings.specs.Answers.{Result, Accept, Refuse, answer, Placement, placement, placements, as_pairs}
use Rattle.holdings.specs.Answers.{as_pair_bytes, listed_to, list_result, list_report, list_after, listing_to_extend}
use Rattle.holdings.specs.Answers.{addition, add_result, add_report, file_after, Batch, additions, batch_listed}
use Rattle.holdings.specs.Answers.{batch_result, batch_report, batch_file, batch_numbers}

-- ---- what a sample says, of working memory enough
pub data Sample : Type 0 where
  -- a buffer, its used length, how many placements are lent; the report, and the placements listed
  lists : List ℕ → ℕ → ℕ → Report → List Placement → Sample
  -- a buffer, its used length, a record's message; the report, and the buffer afterwards
  adds : List ℕ → ℕ → List ℕ → Report → List ℕ → Sample
  -- a buffer, its used length, records laid out as entries, a list; the report, the buffer and the list afterwards
  adds_all : List ℕ → ℕ → List ℕ → List ℕ → Report → List ℕ → List ℕ → Sample

abbrev placed : Result (List (List ℕ)) → List Placement
placed (Accept ms) = placements header_size ms
placed (Refuse x k p) = []

abbrev listed : Versions → List ℕ → ℕ → ℕ → Result (List (List ℕ))
listed vs f used lent = listed_to lent (listing vs f used)

abbrev batch : Versions → List ℕ → ℕ → List ℕ → Result Batch
batch vs f used rs = batch_listed vs f used rs (listing_to_extend vs f used)

abbrev pub computed : Versions → Sample → Sample
computed vs (lists f used lent r x) =
    lists f used lent (list_report used (listed vs f used lent)) (placed (listed vs f used lent))
computed vs (adds f used m r g) =
    adds f used m (add_report used (addition vs f used m)) (file_after f used (addition vs f used m))
computed vs (adds_all f used rs l r g k) =
    adds_all f used rs l (batch_report (batch vs f used rs)) (batch_file f (batch vs f used rs))
    (batch_numbers l (batch vs f used rs))

-- what comes of all that is given is as said
abbrev pub Hold : Versions → List Sample → Type 0
Hold vs xs = map (computed vs) xs ≡ xs

-- an addition that leaves the buffer
abbrev pub keeps : List ℕ → ℕ → List ℕ → Report → Sample
keeps f used m r = adds f used m r f

-- ---- listing
-- files of 0 to 5 bytes: 20 up to the mark, 21 up to the version; versions 0, 2, 256 and 65,535
abbrev small_files : List Sample
small_files =
    lists [] 0 100 (answer 20 0 0) []
    ∷ lists (be 1 0x53) 1 100 (answer 20 0 0) []
    ∷ lists (be 2 0x5357) 2 100 (answer 20 0 0) []
    ∷ lists (be 3 0x585750) 3 100 (answer 20 0 0) []
    ∷ lists (be 5 0x5357510001) 5 100 (answer 20 0 0) []
    ∷ lists (be 3 0x535750) 3 100 (answer 21 0 0) []
    ∷ lists (be 4 0x53575000) 4 100 (answer 21 0 0) []
    ∷ lists (be 5 0x5357500000) 5 100 (answer 21 0 0) []
    ∷ lists (be 5 0x5357500002) 5 100 (answer 21 0 0) []
    ∷ lists (be 5 0x5357500100) 5 100 (answer 21 0 0) []
    ∷ lists (be 5 0x535750ffff) 5 100 (answer 21 0 0) []
    ∷ lists (be 5 0x5357500001) 5 100 (answer 0 0 5) []
    ∷ lists (be 5 0x5357500001) 5 0 (answer 0 0 5) []
    ∷ []

-- a used length beyond the buffer is checked first; bytes past the used length are not looked at
abbrev used_lengths : List Sample
used_lengths =
    lists [] 1 100 (answer 22 0 0) []
    ∷ lists (be 3 0x585858) 4 100 (answer 22 0 0) []
    ∷ lists (be 5 0x5357500001) 6 100 (answer 22 0 0) []
    ∷ lists (be 5 0x5357500001) 18_446_744_073_709_551_615 100 (answer 22 0 0) []
    ∷ lists (be 9 0x53575000016a756e6b) 5 100 (answer 0 0 5) []
    ∷ lists (be 10 0x5357500001000000014e) 0 100 (answer 20 0 0) []
    ∷ lists (be 10 0x5357500001000000014e) 2 100 (answer 20 0 0) []
    ∷ lists (be 10 0x5357500001000000014e) 4 100 (answer 21 0 0) []
    ∷ lists (be 10 0x5357500001000000014e) 5 100 (answer 0 0 5) []
    ∷ lists (be 10 0x5357500001000000014e) 6 100 (answer 22 0 5) []
    ∷ lists (be 10 0x5357500001000000014e) 7 100 (answer 22 0 5) []
    ∷ lists (be 10 0x5357500001000000014e) 8 100 (answer 22 0 5) []
    ∷ lists (be 10 0x5357500001000000014e) 9 100 (answer 22 0 5) []
    ∷ lists (be 10 0x5357500001000000014e) 10 100 (answer 0 1 10) (placement 9 1 ∷ [])
    ∷ []

-- 22 to 25, entry by entry: cut at the length, in the message, and where the length is ff ff ff ff; a length of 0; a
-- message that is refused, in a longer form, a second time. 57 4e×8 5a is 24, and so is a pair in six bytes
abbrev faults : List Sample
faults =
    lists (be 8 0x5357500001000000) 8 100 (answer 22 0 5) []
    ∷ lists (be 9 0x535750000100000001) 9 100 (answer 22 0 5) []
    ∷ lists (be 10 0x5357500001ffffffff4e) 10 100 (answer 22 0 5) []
    ∷ lists (be 11 0x5357500001000000014e00) 11 100 (answer 22 0 10) []
    ∷ lists (be 9 0x535750000100000000) 9 100 (answer 23 0 5) []
    ∷ lists (be 10 0x53575000010000000000) 10 100 (answer 23 0 5) []
    ∷ lists (be 15 0x5357500001000000014e000000015a) 15 100 (answer 23 0 10) []
    ∷ lists (be 11 0x535750000100000002784e) 11 100 (answer 23 0 5) []
    ∷ lists (be 14 0x5357500001000000054900000001) 14 100 (answer 24 0 5) []
    ∷ lists (be 19 0x53575000010000000a574e4e4e4e4e4e4e4e5a) 19 100 (answer 24 0 5) []
    ∷ lists (be 19 0x53575000010000000a58984e4e4e4e4e4e4e4e) 19 100 (answer 0 1 19) (placement 9 10 ∷ [])
    ∷ lists (be 16 0x53575000010000000702eda080edb080) 16 100 (answer 24 0 5) []
    ∷ lists (be 14 0x53575000010000000502f0908080) 14 100 (answer 0 1 14) (placement 9 5 ∷ [])
    ∷ lists (be 20 0x5357500001000000014e0000000154000000014e) 20 100 (answer 25 0 15) []
    ∷ []

-- their order: the first entry that has one decides; a message in a longer form twice is 24, a cut entry behind a
-- repeated one 25
abbrev orders : List Sample
orders =
    lists (be 12 0x5357500001000000015a0000) 12 100 (answer 23 0 5) []
    ∷ lists (be 19 0x5357500001000000054900000001000000015a) 19 100 (answer 24 0 5) []
    ∷ lists (be 19 0x5357500001000000015a000000054900000001) 19 100 (answer 23 0 5) []
    ∷ lists (be 23 0x5357500001000000054900000001000000054900000001) 23 100 (answer 24 0 5) []
    ∷ lists (be 16 0x5357500001000000014e000000014e00) 16 100 (answer 25 0 10) []
    ∷ lists (be 20 0x5357500001000000014e000000014e000000015a) 20 100 (answer 25 0 10) []
    ∷ lists (be 24 0x5357500001000000014e000000054900000001000000014e) 24 100 (answer 24 0 10) []
    ∷ []

-- a list too short is 9, last
abbrev short_lists : List Sample
short_lists =
    lists (be 20 0x5357500001000000014e0000000154000000014e) 20 0 (answer 25 0 15) []
    ∷ lists (be 15 0x5357500001000000014e0000000154) 15 0 (answer 9 2 0) []
    ∷ lists (be 15 0x5357500001000000014e0000000154) 15 1 (answer 9 2 0) []
    ∷ lists (be 15 0x5357500001000000014e0000000154) 15 2 (answer 0 2 15) (placement 9 1 ∷ placement 14 1 ∷ [])
    ∷ []

-- ---- adding
-- a new file: its header is written only where the record is taken, and counts in the room
abbrev new_files : List Sample
new_files =
    adds (be 12 0xa5a5a5a5a5a5a5a5a5a5a5a5) 0 (be 1 0x4e) (answer 0 0 10) (be 12 0x5357500001000000014ea5a5)
    ∷ adds (be 10 0) 0 (be 1 0x4e) (answer 0 0 10) (be 10 0x5357500001000000014e)
    ∷ adds (be 10 0x5357500001000000014e) 0 (be 1 0x54) (answer 0 0 10) (be 10 0x53575000010000000154)
    ∷ keeps (be 9 0) 0 (be 1 0x4e) (answer 9 10 0)
    ∷ keeps [] 0 (be 1 0x4e) (answer 9 10 0)
    ∷ keeps (be 20 0) 0 (be 1 0x5a) (answer 3 0 0)
    ∷ keeps [] 0 (be 1 0x5a) (answer 3 0 0)
    ∷ keeps [] 0 [] (answer 1 0 0)
    ∷ []

-- the file is checked first: a used length of 1 to 4, or beyond the buffer
abbrev checked_files : List Sample
checked_files =
    keeps [] 1 [] (answer 22 0 0)
    ∷ keeps (be 20 0) 1 (be 1 0x4e) (answer 20 0 0)
    ∷ keeps (be 20 0x5357500000000000000000000000000000000000) 3 (be 1 0x4e) (answer 21 0 0)
    ∷ keeps (be 5 0x5858585858) 5 [] (answer 20 0 0)
    ∷ keeps (be 5 0x5357500002) 5 (be 1 0x4e) (answer 21 0 0)
    ∷ keeps (be 10 0x5357500001000000014e) 9 (be 1 0x54) (answer 22 0 5)
    ∷ keeps (be 21 0x5357500001000000014e00000002c92c000000014e) 21 (be 1 0x5a) (answer 25 0 16)
    ∷ []

-- found, by its shortest message, and then without room; appended; the record's refusal; no room, with the length
abbrev additions_made : List Sample
additions_made =
    keeps (be 16 0x5357500001000000014e00000002c92c) 16 (be 1 0x4e) (answer 0 0 16)
    ∷ keeps (be 16 0x5357500001000000014e00000002c92c) 16 (be 5 0x490000012c) (answer 0 1 16)
    ∷ keeps (be 16 0x5357500001000000014e00000002c92c) 16 (be 3 0xd4012c) (answer 0 1 16)
    ∷ keeps (be 16 0x5357500001000000014e00000002c92c) 16 (be 1 0x54) (answer 9 21 0)
    ∷ keeps (be 20 0x5357500001000000014e00000002c92c00000000) 16 (be 1 0x54) (answer 9 21 0)
    ∷ adds (be 21 0x5357500001000000014e00000002c92c6162636465) 16 (be 1 0x54) (answer 0 2 21)
    (be 21 0x5357500001000000014e00000002c92c0000000154)
    ∷ adds (be 22 0x5357500001000000014e00000002c92c616263646566) 16 (be 1 0x54) (answer 0 2 21)
    (be 22 0x5357500001000000014e00000002c92c000000015466)
    ∷ keeps (be 22 0x5357500001000000014e00000002c92c616263646566) 16 (be 2 0x7878) (answer 8 0 1)
    ∷ adds (be 26 0x5357500001000000014e00000000000000000000000000000000) 10 (be 7 0x02eda080edb080) (answer 0 1 19)
    (be 26 0x5357500001000000014e0000000502f090808000000000000000)
    ∷ []

-- random files and records of the study
abbrev random : List Sample
random =
    lists (be 10 0x53575000010000000100) 10 0 (answer 9 1 0) []
    ∷ lists (be 10 0x53575000010000000120) 10 1 (answer 0 1 10) (placement 9 1 ∷ [])
    ∷ adds (be 45 0x5357500001a5a5a5a5a5a5a5a5a5a5a5a5a5a5a5a5a5a5a5a5a5a5a5a5a5a5a5a5a5a5a5a5a5a5a5a5a5a5a5a5) 5
    (be 18 0x341010af3177d161e79587a766ec30e40374) (answer 0 0 27)
    (be 45 0x535750000100000012341010af3177d161e79587a766ec30e40374a5a5a5a5a5a5a5a5a5a5a5a5a5a5a5a5a5a5)
    ∷ keeps (be 8 0x5357500001a5a5a5) 5 (be 2 0xf810) (answer 9 11 0)
    ∷ keeps (be 27 0x53575000010000000944602533dc0a68013d00000002485aa5a5a5) 24 (be 2 0x485a) (answer 0 1 24)
    ∷ lists (be 12 0x535750000100000005a5a5a5) 9 4 (answer 22 0 5) []
    ∷ keeps (be 32 0x53575000010000000322a68a00000001540000000322a68a0000000146a5a5a5) 29
    (be 27 0x43530002e7bea2e5baa7c8020139530008525a71252524726fc60d) (answer 25 0 17)
    ∷ lists (be 5 0x5357540001) 18446744073709551615 0 (answer 22 0 0) []
    ∷ keeps (be 18 0x53575000010000000154a5a5a5a5a5a5a5a5) 10 (be 5 0x5f0bbf39d2) (answer 9 19 0)
    ∷ lists (be 41 0x5357500001000000094cfffcf730d494b1cd00000005597fffffff000000023400a5a5a5a5a5a5a5a5) 33 0
    (answer 24 0 27) []
    ∷ keeps (be 1 0x53) 1 (be 3 0xd37fff) (answer 20 0 0)
    ∷ adds (be 39 0x5357500001000000087103352a6a5e08c90000000549010000000000000146a5a5a5a5a5a5a5a5) 31
    (be 5 0x3403a804dc) (answer 0 3 39)
    (be 39 0x5357500001000000087103352a6a5e08c900000005490100000000000001460000000423a804dc)
    ∷ keeps (be 18 0x535750000100000001540000000146a5a5a5) 15 (be 1 0x46) (answer 0 1 15)
    ∷ keeps (be 16 0x53575000010000000443009054a5a5a5) 13 (be 4 0x43009054) (answer 0 0 13)
    ∷ keeps (be 15 0x535750000100000001e80000000189) 15 (be 1 0xe8) (answer 0 0 15)
    ∷ keeps (be 14 0x5357500001000000055f00400000) 13 (be 9 0x4440d2168000800000) (answer 22 0 5)
    ∷ keeps (be 25 0x5357500001000000094a6aa6b38bb95aff9800000003d3334f) 25 (be 3 0xd3334f) (answer 0 1 25)
    ∷ keeps (be 5 0x5357500001) 5 (be 15 0x4cfffffd6ce59a02eda080edb08066) (answer 8 0 9)
    ∷ keeps (be 27 0x5357500001000000094c00001de4411070b600000002485aa5a5a5) 24 (be 2 0x485a) (answer 0 1 24)
    ∷ lists (be 20 0x535750000100000003220028a5a5a5a5a5a5a5a5) 12 100 (answer 0 1 12) (placement 9 3 ∷ [])
    ∷ keeps (be 13 0x5357500009a5a5a5a5a5a5a5a5) 5 (be 19 0x48433002dfa81949000000004fc8005900a54d) (answer 21 0 0)
    ∷ keeps (be 13 0x5357500001a5a5a5a5a5a5a5a5) 5 (be 8 0xedb08049fffffb5a) (answer 8 0 1)
    ∷ keeps (be 15 0x5357500001000000094affff361afb) 15 (be 5 0x59bf0ed9b4) (answer 22 0 5)
    ∷ keeps (be 5 0x5357500001) 5 (be 2 0x575a) (answer 9 10 0)
    ∷ keeps (be 17 0x535750000100000003d38000000000014e) 17 (be 1 0x4e) (answer 0 1 17)
    ∷ keeps (be 8 0xa5a5a5a5a5a5a5a5) 0 (be 2 0xcfff) (answer 9 11 0)
    ∷ keeps (be 34 0x53575000010000000549fff915670000000221ba00000002214ea5a5a5a5a5a5a5a5) 26
    (be 2 0x21ba) (answer 0 1 26)
    ∷ keeps (be 8 0x5357500001a5a5a5) 4 (be 12 0x4c0000000cb4520000653e61) (answer 21 0 0)
    ∷ lists (be 11 0x535750a5a5a5a5a5a5a5a5) 3 0 (answer 21 0 0) []
    ∷ keeps (be 13 0x5357500001a5a5a5a5a5a5a5a5) 5 (be 9 0x4a000043c8aad3fde0) (answer 9 14 0)
    ∷ lists (be 19 0x53575000010000000a0000764300d04b9284b8) 19 0 (answer 23 0 5) []
    ∷ keeps (be 5 0x5357500001) 5 (be 1 0x4e) (answer 9 10 0)
    ∷ keeps (be 44 0x5357500001000000137106e1808041f3bfbfbf5ae282ac5900040001000000035e1e5c000000055f248a3a31) 44
    (be 17 0x10743856326a405451413f2051407e7c45) (answer 9 65 0)
    ∷ keeps (be 10 0x5357500001000000014e) 10 (be 1 0x4e) (answer 0 0 10)
    ∷ lists (be 5 0x5357508001) 5 0 (answer 21 0 0) []
    ∷ lists (be 8 0x5357500001a5a5a5) 5 0 (answer 0 0 5) []
    ∷ lists (be 24 0x53575000010000001b4d024873c7cf441982b92215a5a5a5) 21 5 (answer 22 0 5) []
    ∷ lists (be 28 0x535750000100000020341edf5a22091faf6a9bcca47dd13e89b30548) 28 2 (answer 22 0 5) []
    ∷ keeps (be 15 0x53575000010000000944b59ba5a5a5) 12 [] (answer 22 0 5)
    ∷ lists (be 11 0x535750000100000002f831) 11 100 (answer 0 1 11) (placement 9 2 ∷ [])
    ∷ keeps (be 44 0x53575000010000000e43013091004a4bb11a30865ef12f0000000549ffbb19ce000000067a7801e4a9a5a5a5) 41
    (be 37 0x4330203c3b293529662c324e7e6a61256b43373c34493f45473c4c586b68677d4c434d9060) (answer 22 0 32)
    ∷ keeps (be 9 0x535750000100000000) 9 (be 5 0x4b00e3838f) (answer 23 0 5)
    ∷ keeps (be 31 0x535750000100000003d40800000000094c00000001fd87d77000000002f001) 31
    (be 31 0x1e7c6c7850686e785b565c546d6d4f4b76672c5179356b7a38204363267835) (answer 9 66 0)
    ∷ keeps (be 21 0x535750000100000002c8810000000379c881a5a5a5) 18 (be 1 0x54) (answer 9 23 0)
    ∷ keeps (be 36 0x5357500001000000055f8000000000000002f7f1000000123410dfe911f3f6ce57c20809) 36
    (be 11 0x4a4f90000000d04a9284b8) (answer 22 0 20)
    ∷ lists (be 37 0x535750000100000003d4c7d2000000055902fc9ad7000000094a91f8d1812d6e1e35a5a5a5) 34 100
    (answer 0 3 34) (placement 9 3 ∷ placement 16 5 ∷ placement 25 9 ∷ [])
    ∷ keeps (be 21 0x53575000010000000479d50000a5a5a5a5a5a5a5a5) 13
    (be 23 0x7c5eab324affffffffffffffff49ffab93785f9a6e8aa9) (answer 9 40 0)
    ∷ keeps (be 13 0x5357500001a5a5a5a5a5a5a5a5) 5 (be 9 0x4a00006984c4330ec0) (answer 9 14 0)
    ∷ lists (be 26 0x53575000010000000178000000094a7fffffffffffffffa5a5a5) 23 100
    (answer 0 2 23) (placement 9 1 ∷ placement 14 9 ∷ [])
    ∷ lists (be 10 0x53575000010000000146) 10 100 (answer 0 1 10) (placement 9 1 ∷ [])
    ∷ lists (be 36 0x535750000100000002485a0000000221ac0000000f2ed3b1a69e70fb5c7c62fe4dd96fdd) 36 1 (answer 9 3 0) []
    ∷ lists (be 13 0x5357500001a5a5a5a5a5a5a5a5) 5 0 (answer 0 0 5) []
    ∷ keeps (be 24 0x535750000100000002485a0000000100a5a5a5a5a5a5a5a5) 16 (be 2 0x485a) (answer 0 0 16)
    ∷ keeps (be 5 0x5357500001) 5 (be 9 0x4cffffffff286a7e67) (answer 9 18 0)
    ∷ keeps (be 13 0x5357500001a5a5a5a5a5a5a5a5) 5 (be 5 0x5f00400000) (answer 9 14 0)
    ∷ lists (be 18 0x5357500001000000094c0000275bd7ec7ee5) 18 0 (answer 9 1 0) []
    ∷ adds (be 45 0x5357500001a5a5a5a5a5a5a5a5a5a5a5a5a5a5a5a5a5a5a5a5a5a5a5a5a5a5a5a5a5a5a5a5a5a5a5a5a5a5a5a5) 5
    (be 9 0x4a6cfa5545b242e430) (answer 0 0 18)
    (be 45 0x5357500001000000094a6cfa5545b242e430a5a5a5a5a5a5a5a5a5a5a5a5a5a5a5a5a5a5a5a5a5a5a5a5a5a5a5)
    ∷ adds (be 45 0x5357500001a5a5a5a5a5a5a5a5a5a5a5a5a5a5a5a5a5a5a5a5a5a5a5a5a5a5a5a5a5a5a5a5a5a5a5a5a5a5a5a5) 5
    (be 16 0x2f58dbcc54d17e2fd41f3b6a66b4002a) (answer 0 0 25)
    (be 45 0x5357500001000000102f58dbcc54d17e2fd41f3b6a66b4002aa5a5a5a5a5a5a5a5a5a5a5a5a5a5a5a5a5a5a5a5)
    ∷ keeps (be 5 0x5357a5a5a5) 2 (be 9 0x28b293006610c82a4e) (answer 20 0 0)
    ∷ adds (be 34 0x535750000100000004036d3d49000000094a000092b5b3820ae0a5a5a5a5a5a5a5a5) 26
    (be 2 0xc780) (answer 0 2 32) (be 34 0x535750000100000004036d3d49000000094a000092b5b3820ae000000002c780a5a5)
    ∷ adds (be 41 0x5357500001000000094c02a19796c8f443030000000b7a784cfffffff4b56ae0f6a5a5a5a5a5a5a5a5) 33
    (be 2 0xf7ef) (answer 0 2 39)
    (be 41 0x5357500001000000094c02a19796c8f443030000000b7a784cfffffff4b56ae0f600000002f7efa5a5)
    ∷ lists (be 19 0x535750000100000003d4080000000003d40800) 19 1 (answer 25 0 12) []
    ∷ lists (be 41 0x5357500001000000094cffffffff2534a99b000000035e93eb000000094cffffffff2534a99ba5a5a5) 38 1
    (answer 25 0 25) []
    ∷ lists (be 32 0x53575000010000000559fff4ea1800000006795f36ba2ee9a5a5a5a5a5a5a5a5) 24 100
    (answer 0 2 24) (placement 9 5 ∷ placement 18 6 ∷ [])
    ∷ lists (be 19 0x53575000010000000549fe6ddadb000000014e) 19 100
    (answer 0 2 19) (placement 9 5 ∷ placement 18 1 ∷ [])
    ∷ keeps (be 5 0x5357500001) 5 (be 4 0x59ff0000) (answer 2 0 4)
    ∷ keeps (be 14 0x53575000010000000549005b37c7) 14
    (be 37 0x4d52000e2e2b66424e785d3d6d222628455a1140614f4a303c7841526b2834615a7c434f5a) (answer 9 52 0)
    ∷ keeps (be 43 0x535750000100000002485a000000134d1041382459663d4d235c2c2b4c576455255a00000002c880a5a5a5) 40
    (be 2 0xc880) (answer 0 2 40)
    ∷ keeps (be 15 0x5357500001000000033b7fffa5a5a5) 12 (be 3 0x417fff) (answer 2 0 3)
    ∷ lists (be 13 0x5357500001a5a5a5a5a5a5a5a5) 5 100 (answer 0 0 5) []
    ∷ lists (be 42 0x5357a5a5a5a5a5a5a5a5a5a5a5a5a5a5a5a5a5a5a5a5a5a5a5a5a5a5a5a5a5a5a5a5a5a5a5a5a5a5a5a5) 43 0
    (answer 22 0 0) []
    ∷ lists (be 22 0x53575000010000000549e18e5deaa5a5a5a5a5a5a5a5) 14 1 (answer 0 1 14) (placement 9 5 ∷ [])
    ∷ keeps (be 26 0x53575000010000000154000000094cffffff976889eec6a5a5a5) 23 (be 1 0x54) (answer 0 0 23)
    ∷ lists (be 32 0x53575000010000000146000000054b00000001000000094c000000032c5e1669) 32 2 (answer 9 3 0) []
    ∷ lists (be 32 0x5357500001000000094c00000337da5d0611000000014e00000002f810a5a5a5) 29 2 (answer 9 3 0) []
    ∷ keeps (be 35 0x535750000100000002210d00000002210d0000000549ff00000100000002c000a5a5a5) 32
    (be 7 0x410003769c9720) (answer 25 0 11)
    ∷ lists (be 8 0x5357500001a5a5a5) 5 1 (answer 0 0 5) []
    ∷ keeps (be 9 0x535750000100000001) 9 (be 1 0x4e) (answer 22 0 5)
    ∷ lists (be 42 0x5357a5a5a5a5a5a5a5a5a5a5a5a5a5a5a5a5a5a5a5a5a5a5a5a5a5a5a5a5a5a5a5a5a5a5a5a5a5a5a5a5) 2 0
    (answer 20 0 0) []
    ∷ keeps (be 31 0x535750000100000003d3f61900000002485a000000094a8064227a298583cf) 31
    (be 17 0x435300055af3bfbff3bfbfbfc801015278) (answer 4 0 5)
    ∷ keeps (be 5 0x5357500001) 5 (be 5 0x5f599c3697) (answer 9 14 0)
    ∷ adds (be 33 0x53575000010000000178000000055900040001000000027000a5a5a5a5a5a5a5a5) 25
    (be 3 0xd3ff84) (answer 0 3 31) (be 33 0x5357500001000000017800000005590004000100000002700000000002c784a5a5)
    ∷ lists (be 12 0x53575000a5a5a5a5a5a5a5a5) 4 0 (answer 21 0 0) []
    ∷ keeps (be 11 0x535f50000100000002485a) 11 (be 9 0x4cffffffa4aa8b16c1) (answer 20 0 0)
    ∷ lists (be 5 0x5357500001) 4 0 (answer 21 0 0) []
    ∷ keeps (be 27 0x5357500001000000094a55f81430e8d565bf0000000549ffa42a1a) 27
    (be 9 0x4a55f81430e8d565bf) (answer 0 0 27)
    ∷ []

-- ---- adding many
-- a batch into a new file; with one record twice, and one in a longer form; none: nothing is written
abbrev batches : List Sample
batches =
    adds_all (be 17 0) 0 (be 10 0x000000014e0000000154) (7 ∷ 7 ∷ 7 ∷ []) (answer 0 2 15)
    (be 17 0x5357500001000000014e00000001540000) (0 ∷ 1 ∷ 7 ∷ [])
    ∷ adds_all (be 11 0) 0 (be 10 0x000000014e000000014e) (7 ∷ 7 ∷ []) (answer 0 2 10)
    (be 11 0x5357500001000000014e00) (0 ∷ 0 ∷ [])
    ∷ adds_all (be 16 0x535750000100000002c92c0000000000) 11 (be 14 0x000000014e00000005490000012c) (7 ∷ 7 ∷ [])
    (answer 0 2 16) (be 16 0x535750000100000002c92c000000014e) (1 ∷ 0 ∷ [])
    ∷ adds_all (be 12 0) 0 [] (7 ∷ []) (answer 0 0 0) (be 12 0) (7 ∷ [])
    ∷ adds_all (be 10 0x5357500001000000014e) 10 [] [] (answer 0 0 10) (be 10 0x5357500001000000014e) []
    ∷ []

-- a refusal ends it, and what was taken stays: of the second record, by the reader or for want of room; of the first;
-- a record of length 0; a record that is cut
abbrev ended_batches : List Sample
ended_batches =
    adds_all (be 20 0) 0 (be 15 0x000000014e000000015a0000000154) (7 ∷ 7 ∷ 7 ∷ []) (answer 3 1 10)
    (be 20 0x5357500001000000014e00000000000000000000) (0 ∷ 7 ∷ 7 ∷ [])
    ∷ adds_all (be 14 0) 0 (be 10 0x000000014e0000000154) (7 ∷ 7 ∷ []) (answer 9 1 10)
    (be 14 0x5357500001000000014e00000000) (0 ∷ 7 ∷ [])
    ∷ adds_all (be 20 0) 0 (be 10 0x000000015a000000014e) (7 ∷ 7 ∷ []) (answer 3 0 0) (be 20 0) (7 ∷ 7 ∷ [])
    ∷ adds_all (be 20 0) 0 (be 9 0x000000014e00000000) (7 ∷ 7 ∷ []) (answer 1 1 10)
    (be 20 0x5357500001000000014e00000000000000000000) (0 ∷ 7 ∷ [])
    ∷ adds_all (be 20 0) 0 (be 8 0x000000014e000000) (7 ∷ 7 ∷ []) (answer 22 1 10)
    (be 20 0x5357500001000000014e00000000000000000000) (0 ∷ 7 ∷ [])
    ∷ adds_all (be 20 0) 0 (be 4 0xffffffff) (7 ∷ []) (answer 22 0 0) (be 20 0) (7 ∷ [])
    ∷ []

-- the file is checked first, also where there is no record; the list may be shorter than the batch
abbrev checked_batches : List Sample
checked_batches =
    adds_all (be 5 0x5858585858) 5 [] (7 ∷ []) (answer 20 0 0) (be 5 0x5858585858) (7 ∷ [])
    ∷ adds_all (be 5 0x5357500002) 5 (be 5 0x000000015a) (7 ∷ []) (answer 21 0 0) (be 5 0x5357500002) (7 ∷ [])
    ∷ adds_all (be 5 0x5357500001) 6 (be 5 0x000000014e) (7 ∷ []) (answer 22 0 0) (be 5 0x5357500001) (7 ∷ [])
    ∷ adds_all (be 20 0x5357500001000000014e000000014e0000000000) 15 (be 5 0x0000000154) (7 ∷ []) (answer 25 0 10)
    (be 20 0x5357500001000000014e000000014e0000000000) (7 ∷ [])
    ∷ adds_all (be 15 0) 0 (be 10 0x000000014e0000000154) (7 ∷ []) (answer 0 2 15)
    (be 15 0x5357500001000000014e0000000154) (0 ∷ [])
    ∷ adds_all (be 15 0) 0 (be 10 0x000000014e0000000154) [] (answer 0 2 15)
    (be 15 0x5357500001000000014e0000000154) []
    ∷ []

-- ---- they hold
pub samples_hold : Hold versions (small_files ++ (used_lengths ++ (faults ++ (orders ++ (short_lists
    ++ (new_files ++ (checked_files ++ (additions_made ++ (random
    ++ (batches ++ (ended_batches ++ checked_batches)))))))))))
unfolding judged message value_from plain_from plain_by head_of definition type_from pick scalar_from int_from text_from
    string_from forms_of form_at value whole widened magnitude scaled count_leading_zeros part_head last_heads char_lead paired
    content_at string_at spell put_value put_plain_by put_definition put_type object_code shortest_scalar shortest guess
    whole_guess whole_size narrowed narrow_magnitude shortest_string content longest_chunk stored put overlay
    shortest_by entries_in fault_of listing_of listing addition additions
samples_hold = refl

-- ---- working memory: 9 with count 0 before all else, where it has fewer rows or bytes than the longest message. By a
-- version whose messages have at most 4 bytes, that is 20 numbers and 4 bytes
abbrev four : Limits
four = record {
  longest = 4;
  containers = base.containers;
  types = base.types;
  classes = base.classes;
  fields = base.fields;
}

abbrev shorter : Versions
shorter = record { older = []; newest = record { limits = four; open_from = base_open_from } }

-- the reports of the three calls on a buffer with a used length, with so many numbers and bytes lent
abbrev reports : (file : List ℕ) (used : ℕ) (rows bytes : ℕ) → List Report
reports f used rows bytes =
    list_report used (list_result shorter as_pairs f used (replicate rows 0) (replicate bytes 0) [])
    ∷ add_report used (add_result shorter f used (be 1 0x4e) (replicate rows 0) (replicate bytes 0))
    ∷ batch_report (batch_result shorter f used (be 5 0x000000014e) (replicate rows 0) (replicate bytes 0))
    ∷ []

pub memory_holds :
    (reports (be 5 0x5357500001) 6 19 4 ≡ answer 9 0 0 ∷ answer 9 0 0 ∷ answer 9 0 0 ∷ [])
    × (reports (be 5 0x5357500001) 6 24 3 ≡ answer 9 0 0 ∷ answer 9 0 0 ∷ answer 9 0 0 ∷ [])
    × (reports (be 5 0x5357500001) 6 20 4 ≡ answer 22 0 0 ∷ answer 22 0 0 ∷ answer 22 0 0 ∷ [])
    × (reports (be 5 0x5357500001) 5 20 4 ≡ answer 0 0 5 ∷ answer 9 10 0 ∷ answer 9 0 5 ∷ [])
    × (reports (be 12 0x5357500001000000014e0000) 10 20 4 ≡ answer 9 1 0 ∷ answer 0 0 10 ∷ answer 0 1 10 ∷ [])
unfolding judged message value_from plain_from plain_by head_of definition type_from pick scalar_from int_from text_from
    string_from forms_of form_at value whole widened magnitude scaled count_leading_zeros part_head last_heads char_lead paired
    content_at string_at spell put_value put_plain_by put_definition put_type object_code shortest_scalar shortest guess
    whole_guess whole_size narrowed narrow_magnitude shortest_string content longest_chunk stored put overlay
    shortest_by entries_in fault_of listing_of listing addition additions
memory_holds = (refl, refl, refl, refl, refl)

-- ---- the list: two numbers a placement, or 16 bytes; what lies past them stays, and is unchanged in a refusal
abbrev two_listed : Result (List (List ℕ))
two_listed = Accept (be 1 0x4e ∷ be 2 0xc92c ∷ [])

abbrev none_listed : Result (List (List ℕ))
none_listed = Refuse 9 2 0

pub lists_hold :
    (list_after as_pairs (1 ∷ 2 ∷ 3 ∷ 4 ∷ 5 ∷ []) two_listed ≡ 9 ∷ 1 ∷ 14 ∷ 2 ∷ 5 ∷ [])
    × (list_after as_pairs (1 ∷ 2 ∷ 3 ∷ []) none_listed ≡ 1 ∷ 2 ∷ 3 ∷ [])
    × (list_after as_pair_bytes (replicate 33 0xa5) two_listed
    ≡ be 33 0x0000000000000009_0000000000000001_000000000000000e_0000000000000002_a5)
unfolding judged message value_from plain_from plain_by head_of definition type_from pick scalar_from int_from text_from
    string_from forms_of form_at value whole widened magnitude scaled count_leading_zeros part_head last_heads char_lead paired
    content_at string_at spell put_value put_plain_by put_definition put_type object_code shortest_scalar shortest guess
    whole_guess whole_size narrowed narrow_magnitude shortest_string content longest_chunk stored put overlay
    shortest_by entries_in fault_of listing_of listing addition additions
lists_hold = (refl, refl, refl)

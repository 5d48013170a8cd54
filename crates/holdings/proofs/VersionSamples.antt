-- Samples of tables of more versions, as 2026-09 and 2026-12 will have them, computed by the checker.
use Rattle.std.specs.Prelude.{◌≡◌, refl, List, [], ◌∷◌, ◌++◌, map, ℕ, zero, suc, length, drop, replicate}
use Rattle.std.proofs.Common.{subst, arith}
use Rattle.std.proofs.Math.Option.{some}
use Rattle.std.specs.Int.Count.{count_leading_zeros}
use Rattle.flow.specs.Flow.{pick, stored, put, overlay}
use Rattle.wire.specs.BigEndian.{be}
use Rattle.scalar.specs.Scalars.{scaled, whole, magnitude, widened, value, forms_of, form_at, shortest, part_head}
use Rattle.scalar.specs.Scalars.{last_heads, char_lead, paired, string_from, string_at, longest_chunk, content}
use Rattle.scalar.specs.Scalars.{shortest_string, scalar_from, int_from, text_from, shortest_scalar}
use Rattle.scalar.specs.Guesses.{whole_size, whole_guess, narrow_magnitude, narrowed, guess}
use Rattle.record.specs.Model.Items.{Limits}
use Rattle.record.specs.Model.Reading.{type_from, head_of, plain_by, plain_from, definition, value_from, message}
use Rattle.record.specs.Model.Claims.{content_at}
use Rattle.record.specs.Model.Shortest.{object_code, put_type, put_definition, put_plain_by, put_value, spell}
use Rattle.record.specs.Model.Answers.{base, base_open_from, judged}
use Rattle.record.proofs.Laws.Answering.{never}
use Rattle.holdings.specs.Files.{Rules, Versions, versions, rules_of, shortest_by, mark, length_size, entry_of}
use Rattle.holdings.specs.Files.{entries_in, fault_of, listing_of, listing}
use Rattle.holdings.specs.Answers.{Result, Accept, Refuse, answer, listed_to, list_report, Addition, addition}
use Rattle.holdings.specs.Answers.{add_report, additions}
use Rattle.holdings.specs.Terms.{SoundRules, SoundVersions}
use Rattle.holdings.proofs.Samples.{adds, adds_all, keeps, Hold}

-- ---- tables of versions
-- 01's limits, but for the longest message and the containers open at once
abbrev limits_to : ℕ → ℕ → Limits
limits_to longest containers = record {
  longest = longest;
  containers = containers;
  types = base.types;
  classes = base.classes;
  fields = base.fields;
}

-- after 2026-09
abbrev pub larger : Versions
larger = record {
  older = versions.newest ∷ [];
  newest = record { limits = limits_to 1_048_576 64; open_from = base_open_from };
}

-- after 2026-12
abbrev pub opener : Versions
opener = record {
  older = versions.newest ∷ larger.newest ∷ [];
  newest = record { limits = limits_to 1_048_576 64; open_from = 8 };
}

-- the theorems hold of both
version_1 : SoundRules versions.newest
version_1 = record { most = omega arith; writable = omega arith }

version_2 : SoundRules larger.newest
version_2 = record { most = omega arith; writable = omega arith }

version_3 : SoundRules opener.newest
version_3 = record { most = omega arith; writable = omega arith }

pub larger_sound : SoundVersions larger
larger_sound = record { each = each; few = omega arith }
  where
    each : (v : ℕ) (R : Rules) → rules_of larger v ≡ some R → SoundRules R
    each zero R e = never cc
    each (suc zero) R e = let q : versions.newest ≡ R = cc in subst SoundRules q version_1
    each (suc (suc zero)) R e = let q : larger.newest ≡ R = cc in subst SoundRules q version_2
    each (suc (suc (suc v))) R e = never cc

pub opener_sound : SoundVersions opener
opener_sound = record { each = each; few = omega arith }
  where
    each : (v : ℕ) (R : Rules) → rules_of opener v ≡ some R → SoundRules R
    each zero R e = never cc
    each (suc zero) R e = let q : versions.newest ≡ R = cc in subst SoundRules q version_1
    each (suc (suc zero)) R e = let q : larger.newest ≡ R = cc in subst SoundRules q version_2
    each (suc (suc (suc zero))) R e = let q : opener.newest ≡ R = cc in subst SoundRules q version_3
    each (suc (suc (suc (suc v)))) R e = never cc

-- ---- messages
abbrev nothing : List ℕ
nothing = 0x4e ∷ []

-- k lists, one in the other
abbrev nested : ℕ → List ℕ
nested k = replicate k 0x79 ++ nothing

-- the elements of a list of k nulls; the list in the open form
abbrev nulls : ℕ → List ℕ
nulls k = replicate k 0x4e

abbrev open_list : ℕ → List ℕ
open_list k = 0x57 ∷ (nulls k ++ (0x5a ∷ []))

-- ---- a message in a file of a version
-- the number for listing a file that has it alone; for adding it to a file with no entry; for adding it to one that
-- has null, with five bytes left; and the message that is written where the second accepts
pub data Case : Type 0 where
  case : (version : ℕ) (m : List ℕ) → (listed added tight : ℕ) → (written : List ℕ) → Case

abbrev file_of : ℕ → List (List ℕ) → List ℕ
file_of v [] = mark ++ be 2 v
file_of v (m ∷ ms) = mark ++ (be 2 v ++ entry_of m)

abbrev listed_in : Versions → List ℕ → ℕ
listed_in vs f = (list_report 0 (listed_to 9 (listing vs f (length f)))).number

abbrev added_in : Versions → List ℕ → (room : ℕ) → List ℕ → Result Addition
added_in vs f room m = addition vs (f ++ replicate room 0) (length f) m

abbrev written_in : Result Addition → List ℕ
written_in (Accept a) = drop length_size a.new
written_in (Refuse x k p) = []

abbrev case_computed : Versions → Case → Case
case_computed vs (case v m a b c w) = case v m
    (listed_in vs (file_of v (m ∷ [])))
    (add_report 0 (added_in vs (file_of v []) 80 m)).number
    (add_report 0 (added_in vs (file_of v (nothing ∷ [])) 5 m)).number
    (written_in (added_in vs (file_of v []) 80 m))

abbrev CasesHold : Versions → List Case → Type 0
CasesHold vs xs = map (case_computed vs) xs ≡ xs

-- no version 0, nor one above the newest
abbrev unknown : ℕ → List Case
unknown v =
    case v nothing 21 21 21 []
    ∷ case v (nested 33) 21 21 21 []
    ∷ case v (nested 65) 21 21 21 []
    ∷ case v (0x5a ∷ []) 21 21 21 []
    ∷ []

-- version 1: up to 32 containers. A record with 33 to 64 gets 34, before room; with 65 its own refusal first
abbrev nested_32 : ℕ → List Case
nested_32 v =
    case v nothing 0 0 0 nothing
    ∷ case v (nested 32) 0 0 9 (nested 32)
    ∷ case v (nested 33) 23 34 34 []
    ∷ case v (nested 64) 23 34 34 []
    ∷ case v (nested 65) 23 7 7 []
    ∷ []

-- the later versions: up to 64
abbrev nested_64 : ℕ → List Case
nested_64 v =
    case v nothing 0 0 0 nothing
    ∷ case v (nested 32) 0 0 9 (nested 32)
    ∷ case v (nested 33) 0 0 9 (nested 33)
    ∷ case v (nested 64) 0 0 9 (nested 64)
    ∷ case v (nested 65) 23 7 7 []
    ∷ []

-- lists of up to 7 elements are counted, and of 48 and more open, in every version
abbrev ends : ℕ → List Case
ends v =
    case v (0x7f ∷ nulls 7) 0 0 9 (0x7f ∷ nulls 7)
    ∷ case v (open_list 7) 24 0 9 (0x7f ∷ nulls 7)
    ∷ case v (0x58 ∷ 0xc8 ∷ 0x30 ∷ nulls 48) 24 0 9 (open_list 48)
    ∷ case v (open_list 48) 0 0 9 (open_list 48)
    ∷ []

-- versions 1 and 2 keep the counted form for 8 to 47; what is shortest is judged by the file's own version
abbrev counted_47 : ℕ → List Case
counted_47 v =
    case v (0x58 ∷ 0x98 ∷ nulls 8) 0 0 9 (0x58 ∷ 0x98 ∷ nulls 8)
    ∷ case v (open_list 8) 24 0 9 (0x58 ∷ 0x98 ∷ nulls 8)
    ∷ case v (0x58 ∷ 0xbf ∷ nulls 47) 0 0 9 (0x58 ∷ 0xbf ∷ nulls 47)
    ∷ case v (open_list 47) 24 0 9 (0x58 ∷ 0xbf ∷ nulls 47)
    ∷ []

-- version 3 has the open form
abbrev open_8 : ℕ → List Case
open_8 v =
    case v (0x58 ∷ 0x98 ∷ nulls 8) 24 0 9 (open_list 8)
    ∷ case v (open_list 8) 0 0 9 (open_list 8)
    ∷ case v (0x58 ∷ 0xbf ∷ nulls 47) 24 0 9 (open_list 47)
    ∷ case v (open_list 47) 0 0 9 (open_list 47)
    ∷ []

pub larger_holds : CasesHold larger (unknown 0 ++ (unknown 3
    ++ (nested_32 1 ++ (ends 1 ++ (counted_47 1
    ++ (nested_64 2 ++ (ends 2 ++ counted_47 2)))))))
unfolding judged message value_from plain_from plain_by head_of definition type_from pick scalar_from int_from text_from
    string_from forms_of form_at value whole widened magnitude scaled count_leading_zeros part_head last_heads char_lead paired
    content_at string_at spell put_value put_plain_by put_definition put_type object_code shortest_scalar shortest guess
    whole_guess whole_size narrowed narrow_magnitude shortest_string content longest_chunk stored put overlay
    shortest_by entries_in fault_of listing_of listing addition additions
larger_holds = refl

pub opener_holds : CasesHold opener (unknown 0 ++ (unknown 4
    ++ (nested_32 1 ++ (ends 1 ++ (counted_47 1
    ++ (nested_64 2 ++ (ends 2 ++ (counted_47 2
    ++ (nested_64 3 ++ (ends 3 ++ open_8 3))))))))))
unfolding judged message value_from plain_from plain_by head_of definition type_from pick scalar_from int_from text_from
    string_from forms_of form_at value whole widened magnitude scaled count_leading_zeros part_head last_heads char_lead paired
    content_at string_at spell put_value put_plain_by put_definition put_type object_code shortest_scalar shortest guess
    whole_guess whole_size narrowed narrow_magnitude shortest_string content longest_chunk stored put overlay
    shortest_by entries_in fault_of listing_of listing addition additions
opener_holds = refl

-- ---- a new file is of the newest version; a batch stops at 34
pub new_files_hold :
    Hold larger (
    adds (be 11 0) 0 nothing (answer 0 0 10) (be 11 0x5357500002000000014e00)
    ∷ keeps (be 20 0x5357500001000000000000000000000000000000) 5 (nested 33) (answer 34 0 0)
    ∷ adds_all (be 12 0x535750000100000000000000) 5 (entry_of nothing ++ (entry_of (nested 33) ++ entry_of nothing))
    (7 ∷ 7 ∷ []) (answer 34 1 10) (be 12 0x5357500001000000014e0000) (0 ∷ 7 ∷ [])
    ∷ []
    ) × Hold opener (adds (be 11 0) 0 nothing (answer 0 0 10) (be 11 0x5357500003000000014e00) ∷ [])
unfolding judged message value_from plain_from plain_by head_of definition type_from pick scalar_from int_from text_from
    string_from forms_of form_at value whole widened magnitude scaled count_leading_zeros part_head last_heads char_lead paired
    content_at string_at spell put_value put_plain_by put_definition put_type object_code shortest_scalar shortest guess
    whole_guess whole_size narrowed narrow_magnitude shortest_string content longest_chunk stored put overlay
    shortest_by entries_in fault_of listing_of listing addition additions
new_files_hold = (refl, refl)

-- ---- the length ceilings, by versions whose messages have at most 2 and at most 6 bytes: the record is judged by the
-- newest, its shortest message by the file's
abbrev lengthier : Versions
lengthier = record {
  older = record { limits = limits_to 2 32; open_from = base_open_from } ∷ [];
  newest = record { limits = limits_to 6 32; open_from = base_open_from };
}

pub lengths_hold : CasesHold lengthier (
    case 1 (be 5 0x490000012c) 23 0 9 (be 2 0xc92c)
    ∷ case 1 (be 2 0xc92c) 0 0 9 (be 2 0xc92c)
    ∷ case 1 (be 5 0x4900040000) 23 34 34 []
    ∷ case 1 (be 7 0x4900040000) 23 1 1 []
    ∷ case 2 (be 5 0x490000012c) 24 0 9 (be 2 0xc92c)
    ∷ case 2 (be 5 0x4900040000) 0 0 9 (be 5 0x4900040000)
    ∷ case 2 (be 7 0x4900040000) 23 1 1 []
    ∷ []
    )
unfolding judged message value_from plain_from plain_by head_of definition type_from pick scalar_from int_from text_from
    string_from forms_of form_at value whole widened magnitude scaled count_leading_zeros part_head last_heads char_lead paired
    content_at string_at spell put_value put_plain_by put_definition put_type object_code shortest_scalar shortest guess
    whole_guess whole_size narrowed narrow_magnitude shortest_string content longest_chunk stored put overlay
    shortest_by entries_in fault_of listing_of listing addition additions
lengths_hold = refl

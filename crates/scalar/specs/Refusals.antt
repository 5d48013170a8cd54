-- The numbers of the refusals that the code names.
use Rattle.std.specs.Prelude.{◌≡◌, ℕ, cond, eqb, refl}
use Rattle.flow.specs.RefusalNumbers.{wrong_length, cut, wrong_byte, not_utf8, negative, ungiven, over_ceiling}
use Rattle.flow.specs.RefusalNumbers.{bytes_after, no_room, no_record, wrong_mark, unknown_version, cut_entry}
use Rattle.flow.specs.RefusalNumbers.{refused_entry, not_shortest, repeated_entry}
use Rattle.flow.specs.Steps.{Answer}
use Rattle.flow.specs.Flow.{Fault}
use Rattle.scalar.specs.declared.refusals.Refusal.{Refusal}
use Rattle.scalar.specs.declared.refusals.Refusal.TheVariants as refusal
use Rattle.scalar.specs.declared.refusals.Refused.{Refused}

abbrev pub number_of : Refusal → ℕ
number_of refusal.Length = wrong_length
number_of refusal.Cut = cut
number_of refusal.Byte = wrong_byte
number_of refusal.Utf8 = not_utf8
number_of refusal.Negative = negative
number_of refusal.Ungiven = ungiven
number_of refusal.Ceiling = over_ceiling
number_of refusal.After = bytes_after
number_of refusal.Room = no_room
number_of refusal.NoRecord = no_record
number_of refusal.Mark = wrong_mark
number_of refusal.Version = unknown_version
number_of refusal.CutEntry = cut_entry
number_of refusal.RefusedEntry = refused_entry
number_of refusal.NotShortest = not_shortest
number_of refusal.RepeatedEntry = repeated_entry

-- what a refusal answers
abbrev pub fault : {A : Type 0} → Refused → Answer A
fault r = Fault (number_of r.refusal) r.place

-- the refusal of a number; of a number that no refusal has, the first one
abbrev pub refusal_of : ℕ → Refusal
refusal_of n =
    cond (eqb n cut) refusal.Cut
    (cond (eqb n wrong_byte) refusal.Byte
    (cond (eqb n not_utf8) refusal.Utf8
    (cond (eqb n negative) refusal.Negative
    (cond (eqb n ungiven) refusal.Ungiven
    (cond (eqb n over_ceiling) refusal.Ceiling
    (cond (eqb n bytes_after) refusal.After
    (cond (eqb n no_room) refusal.Room
    (cond (eqb n no_record) refusal.NoRecord
    (cond (eqb n wrong_mark) refusal.Mark
    (cond (eqb n unknown_version) refusal.Version
    (cond (eqb n cut_entry) refusal.CutEntry
    (cond (eqb n refused_entry) refusal.RefusedEntry
    (cond (eqb n not_shortest) refusal.NotShortest
    (cond (eqb n repeated_entry) refusal.RepeatedEntry
    refusal.Length))))))))))))))

pub refusal_back : (r : Refusal) → refusal_of (number_of r) ≡ r
refusal_back refusal.Length = refl
refusal_back refusal.Cut = refl
refusal_back refusal.Byte = refl
refusal_back refusal.Utf8 = refl
refusal_back refusal.Negative = refl
refusal_back refusal.Ungiven = refl
refusal_back refusal.Ceiling = refl
refusal_back refusal.After = refl
refusal_back refusal.Room = refl
refusal_back refusal.NoRecord = refl
refusal_back refusal.Mark = refl
refusal_back refusal.Version = refl
refusal_back refusal.CutEntry = refl
refusal_back refusal.RefusedEntry = refl
refusal_back refusal.NotShortest = refl
refusal_back refusal.RepeatedEntry = refl

-- What write_content's contract asks at each way out.
use mathlib.Core.Path.{◌≡◌, refl, sym}
use mathlib.Core.List.{List}
use mathlib.Core.Option.{some}
use Prim.Native.Nat.{ℕ, ◌^◌, ◌≤◌, ◌<◌}
use native.Mathlib.Omega.{arith}
use lib.ListN.{length}
use Rattle.std.specs.Prelude.{None}
use Rattle.flow.specs.Steps.{Answer}
use Rattle.flow.specs.Flow.{Done, Fault, reported}
use Rattle.flow.specs.OverlayLaws.{stored_out}
use Rattle.scalar.specs.declared.Encoding.{Encoding}
use Rattle.scalar.specs.Scalars.{units, fitting, string_at}
use Rattle.scalar.specs.TextUnits.{weights}
use Rattle.scalar.proofs.TextUnits.{weights_length}
use Rattle.scalar.proofs.Greedy.{span_fits}
use Rattle.scalar.specs.Answers.{content_read, report_of, output_of}
use Rattle.scalar.proofs.AnswerLaws.{report_none, report_stored, report_over, output_none, output_some}
use Rattle.text_writer.specs.declared.Copied.{Copied}
use Rattle.text_writer.specs.declared.Item.{Item}
use Rattle.text_writer.proofs.Laying.{content}
use Rattle.text_writer.specs.Cursor.{all_bytes, all_stored}
use Rattle.text_writer.specs.Writing.{IsDone, rest, Copyable, CopyMet, ItemAt, FoundSays}

module _ (k : Encoding) (m : List ℕ) (p : ℕ) (l : List ℕ) where
  -- no string stands at p
  pub content_none : FoundSays k m p None
      → (reported 10 0 ≡ report_of (content_read (string_at k m p)) (length l) 0)
      × (l ≡ output_of (content_read (string_at k m p)) l 0)
  content_none = go (string_at k m p)
    where
      go : (o : Answer (List ℕ)) → (IsDone o → ⊥)
          → (reported 10 0 ≡ report_of (content_read o) (length l) 0) × (l ≡ output_of (content_read o) l 0)
      go (Done n cs es c) d = absurd (d tt)
      go (Fault y o) d = (rw report_none refl, rw output_none refl)

  module _ (x : Item) (t : ItemAt k m p x) where
    content_some : content_read (string_at k m p) ≡ some (rest k m x.first)
    content_some = rw (content k m p x t).reads refl

    -- it does not fit
    pub content_over : length l < x.bytes
        → (reported 9 x.bytes ≡ report_of (content_read (string_at k m p)) (length l) 0)
        × (l ≡ output_of (content_read (string_at k m p)) l 0)
    content_over h =
        let cs = rest k m x.first in
        let b = t.whole.bytes_are in (
          rw (content_some, report_over (length l) 0 cs (omega (arith, b)), ← b) refl,
          rw (content_some, output_some) (sym (stored_out l 0 cs (omega (arith, b)))),
        )

    -- it fits, and may be copied; it then is all that is copied
    module _ (h : x.bytes ≤ length l) where
      pub content_room : length l < 2 ^ 64 → Copyable k m x.first x.units 0
      content_room f = record { going = t.whole.going; below = omega (arith, few) }
        where
          few : fitting x.units (weights k (rest k m x.first)) ≤ x.bytes
          few =
              let ws = weights k (rest k m x.first) in
              omega (arith, (span_fits x.units ws).0, weights_length k (rest k m x.first), t.whole.bytes_are)

      pub content_whole : (r : Copied) (l' : List ℕ) → CopyMet k m x.first x.units l 0 r l'
          → (reported 0 x.bytes ≡ report_of (content_read (string_at k m p)) (length l) 0)
          × (l' ≡ output_of (content_read (string_at k m p)) l 0)
      content_whole r l' y =
          let cs = rest k m x.first in
          let b = t.whole.bytes_are in
          let u = t.whole.units_are in (
            rw (content_some, report_stored (length l) 0 cs (omega (arith, b)), ← b) refl,
            rw (content_some, output_some) (all_stored y u (omega (arith, all_bytes y u, b))),
          )

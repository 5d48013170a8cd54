-- Tables: the rows that were stored are read again, as numbers and as bytes.
use Rattle.std.specs.Prelude.{◌≡◌, refl, ℕ, List, [], ◌∷◌, ◌++◌, ◌*◌, ◌≤◌, length, drop}
use Rattle.std.proofs.Common.{◌∙◌, ap, append_assoc, take_at, drop_at}
use Rattle.flow.specs.OverlayLaws.{flat, overlay_flat}
use Rattle.flow.specs.Flow.{overlay}
use Rattle.record.specs.Model.Rows.{Row}
use Rattle.record.specs.Model.Answers.{Layout, rows_of}
use Rattle.record.specs.Model.Calls.{Fits, Keeps}
use Rattle.record.specs.Laws.TableLaws.{Sound, All}
pub use Rattle.record.specs.Laws.Layouts.{bytes_sized, numbers_keep, bytes_keep}

rows_flat : (L : Layout) (rs : List Row) → All (Sound L) rs → (tail : List ℕ)
    → rows_of L (length rs) (flat L.width L.encode rs ++ tail) ≡ rs
unfolding rows_of flat
rows_flat L [] h tail = refl
rows_flat L (r ∷ rs) h tail =
    let s = h.0.sized in
    let rest = flat L.width L.encode rs ++ tail in
    rw (
      append_assoc (L.encode r) (flat L.width L.encode rs) tail,
      take_at (L.encode r) rest L.width s,
      drop_at (L.encode r) rest L.width s,
      h.0.back,
      rows_flat L rs h.1 tail,
    ) refl

-- rows that fit are read again from the table that they are laid over
pub rows_again : (L : Layout) → ((r : Row) → length (L.encode r) ≡ L.width) → (rs : List Row) → All (Sound L) rs
    → (t : List ℕ) → length rs * L.width ≤ length t
    → rows_of L (length rs) (overlay L.width L.encode t 0 rs) ≡ rs
rows_again L sized rs h t l = ap (rows_of L (length rs)) (overlay_flat L.width L.encode sized t rs l)
    ∙ rows_flat L rs h (drop (length rs * L.width) t)

pub all_kept : {L : Layout} → Keeps L → (rs : List Row) → All Fits rs → All (Sound L) rs
all_kept k [] h = tt
all_kept k (r ∷ rs) h = (record { sized = k.sized r; back = k.again r h.0 }, all_kept k rs h.1)

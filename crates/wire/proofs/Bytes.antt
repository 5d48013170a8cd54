-- What the contracts ask at each way out of the code.
use Rattle.std.proofs.Common.{◌≡◌, ℕ, ◌+◌, ◌*◌, ◌%◌, ◌^◌, ◌<◌, ◌≤◌, List, length, take, get_or, true, false, leb, sym, ap, ◌∙◌, arith}
use Rattle.std.proofs.lemmas.Bool.{le-leb, lt-leb}
use Rattle.std.proofs.lemmas.List.{take_more}
use Rattle.std.proofs.lemmas.List.Edits.{sets}
use Rattle.flow.specs.Flow.{stored}
use Rattle.flow.specs.OverlayLaws.{stored_out, stored_sets}
use Rattle.wire.specs.BigEndian.{joined, be}
use Rattle.wire.specs.Laws.{be_length, joined_snoc, sets_none}

-- one byte more
pub joined_more : (s : List ℕ) (i u v w b : ℕ) → i < length s → b ≡ get_or s i 0 → b < 256
    → v ≡ joined u (take i s) % 2 ^ 64 → w ≡ v * 256 % 2 ^ 64
    → w + b ≡ joined u (take (i + 1) s) % 2 ^ 64
joined_more s i u v w b h e l f x =
    let more = ap (joined u) (take_more s i 0 h) ∙ joined_snoc (take i s) u (get_or s i 0) in
    omega (arith, e, f, x, more)

-- ---- a number's bytes are stored: they do not fit, or all of them are
pub none_stored : (l : List ℕ) (i n v : ℕ) → length l < i + n
    → (false ≡ leb (i + n) (length l)) × (l ≡ stored l i (be n v))
none_stored l i n v h =
    (sym (lt-leb (i + n) (length l) h), sym (stored_out l i (be n v) (omega (arith, be_length n v))))

pub all_stored : (l l' : List ℕ) (i n v k u : ℕ) → i + n ≤ length l → k ≤ 0
    → sets l' i (be k u) ≡ sets l i (be n v)
    → (true ≡ leb (i + n) (length l)) × (l' ≡ stored l i (be n v))
all_stored l l' i n v k u h z e = (
  sym (le-leb (i + n) (length l) h),
  sym (sets_none l' i k u z) ∙ e ∙ sym (stored_sets l i (be n v) (omega (arith, be_length n v))),
)

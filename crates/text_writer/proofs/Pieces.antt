-- What the contracts ask at each way out of the code that looks for pairs of halves.
use mathlib.Core.Path.{◌≡◌, refl, sym, ap}
use mathlib.Core.Bool.{true, false}
use mathlib.Core.List.{List, [], ◌∷◌, ◌++◌, append_assoc}
use Prim.Native.Nat.{ℕ, ◌+◌, ◌-◌, ◌*◌, ◌/◌, ◌%◌, ◌≤◌, ◌<◌, min}
use native.Mathlib.Omega.{arith}
use lib.ListN.{length, take, drop, get_or}
use lib.Seq.{drop-drop, get_or-drop, take-take, length-take-le}
use borrow.Author.Tests.{eq-eqb, le-leb, lt-ltb}
use borrow.Rule.Slice.PartMut.{put_mid}
use Rattle.std.specs.Prelude.{Some, None}
use Rattle.flow.specs.Flow.{stored}
use Rattle.flow.specs.OverlayLaws.{stored_in}
use Rattle.scalar.specs.declared.Encoding.{Encoding}
use Rattle.scalar.specs.declared.Encoding.TheVariants.{Utf8, Binary}
use Rattle.text_writer.specs.declared.Cursor.{Cursor}
use Rattle.scalar.specs.Scalars.{weight, total}
use Rattle.scalar.specs.TextUnits.{weights}
use Rattle.scalar.proofs.TextUnits.{weights_append}
use Rattle.scalar.specs.Decoded.{decoded, pair_in, four_in}
use Rattle.scalar.proofs.Pairs.{paired_bytes}
use Rattle.scalar.proofs.Decoded.{pair_first, byte_first, four_length, four_weights}
use Rattle.text_writer.specs.Cursor.{window_length, left_of, piece_plain, singles_few, piece_singles}
use Rattle.text_writer.specs.Writing.{bytes_left, Going, singles_at, PieceMet}

-- ---- the bytes w written over a part of l
pub part_stored : (l : List ℕ) (to : ℕ) (w v : List ℕ) → to + length w ≤ length l → v ≡ w
    → put_mid to (to + length w - to) l v ≡ stored l to w
part_stored l to w v h e =
    let d : to + length w - to ≡ length w = omega arith in rw (d, e, stored_in l to w h, drop-drop) refl

-- ---- a pair of halves at the start of some bytes, told by its first two
pub pair_binary : {k : Encoding} (w : List ℕ) → k ≡ Binary → false ≡ pair_in k w
pair_binary [] e = refl
pair_binary (a ∷ s) e = rw e refl

pub pair_there : {k : Encoding} (w : List ℕ) → k ≡ Utf8 → 6 ≤ length w → get_or w 0 0 ≡ 0xed → 0xa0 ≤ get_or w 1 0
    → get_or w 1 0 < 0xb0 → true ≡ pair_in k w
pair_there [] k l e h g = absurd (omega arith)
pair_there (a ∷ s) k l e h g = rw (
  k,
  eq-eqb a 0xed e,
  le-leb 5 (length s) (omega arith),
  le-leb 0xa0 (get_or s 0 0) h,
  lt-ltb (get_or s 0 0) 0xb0 g,
) refl

pub four_bytes : (w : List ℕ) → four_in w
    ≡ (0xf0 + (get_or w 1 0 % 16 + 1) / 4) ∷ (0x80 + (get_or w 1 0 % 16 + 1) % 4 * 16 + get_or w 2 0 % 64 / 4)
    ∷ (0x80 + get_or w 2 0 % 4 * 16 + get_or w 4 0 % 16) ∷ (0x80 + get_or w 5 0 % 64) ∷ []
four_bytes w = simp get_or-drop (paired_bytes (get_or w 1 0) (get_or w 2 0) (get_or w 4 0) (get_or w 5 0))

-- ---- the first character, or none, where its first byte weighs more than cap
module _ (k : Encoding) (w : List ℕ) (cap : ℕ) (front tail : List ℕ) (e : decoded k w ≡ front ++ tail) where
  stops_there : (u : ℕ) (others : List ℕ) → weights k front ≡ u ∷ others → cap < u → (l : List ℕ) (to : ℕ)
      → PieceMet k w cap l to None l
  stops_there u others q h l to = record {
    says = record {
      kept = refl;
      stops = λ v. rw (e, append_assoc front tail v, weights_append k front (tail ++ v), q, lt-ltb cap u h) refl;
    };
  }

first_byte : (w : List ℕ) → 0 < length w → take 1 w ≡ get_or w 0 0 ∷ []
first_byte [] z = absurd (omega arith)
first_byte (a ∷ s) z = refl

module _ (k : Encoding) (w : List ℕ) (cap : ℕ) (out : List ℕ) (to : ℕ) where
  -- a pair of halves
  module _ (t : true ≡ pair_in k w) where
    first : (k ≡ Utf8) × (6 ≤ length w) × (decoded k w ≡ four_in w ++ decoded k (drop 6 w))
    first = pair_first k w (sym t)

    weighs : weights k (four_in w) ≡ 2 ∷ 0 ∷ 0 ∷ 0 ∷ []
    weighs = rw first.0 (four_weights (drop 1 w))

    pub pair_stops : cap < 2 → PieceMet k w cap out to None out
    pair_stops h =
        stops_there k w cap (four_in w) (decoded k (drop 6 w)) first.2 2 (0 ∷ 0 ∷ 0 ∷ []) weighs h out to

    pub piece_pair : 2 ≤ cap → (v out' : List ℕ) → v ≡ four_in w → out' ≡ stored out to v
        → PieceMet k w cap out to (Some (record { size = 6; bytes = 4; units = 2 })) out'
    piece_pair h v out' d e = record {
      says = (
        omega arith,
        record {
          front = four_in w;
          decodes = first.2;
          bytes_are = four_length (drop 1 w);
          units_are = ap total weighs;
          fits = h;
          inside = first.1;
          holds = rw d at e;
        },
      );
    }

  -- another byte
  module _ (t : false ≡ pair_in k w) (z : 0 < length w) (u : ℕ) (e : u ≡ weight k (get_or w 0 0)) where
    pub byte_stops : cap < u → PieceMet k w cap out to None out
    byte_stops h =
        let d = ap {B = List ℕ} (λ i. i ∷ []) (sym e) in
        stops_there k w cap (get_or w 0 0 ∷ []) (decoded k (drop 1 w)) (byte_first k w (sym t) z) u [] d h out to

    pub piece_byte : u ≤ cap → (out' : List ℕ) → out' ≡ stored out to (take 1 w)
        → PieceMet k w cap out to (Some (record { size = 1; bytes = 1; units = u })) out'
    piece_byte h out' d = record {
      says = (
        omega arith,
        record {
          front = get_or w 0 0 ∷ [];
          decodes = byte_first k w (sym t) z;
          bytes_are = refl;
          units_are = omega arith;
          fits = h;
          inside = omega arith;
          holds = rw (first_byte w z) at d;
        },
      );
    }

-- ---- what comes next in the cursor's chunk
module _ {k : Encoding} {m : List ℕ} {c : Cursor} (g : Going k m c) where
  -- its bytes as a part of the message
  abbrev part : List ℕ
  part = take (c.here + c.left - c.here) (drop c.here m)

  part_is : part ≡ bytes_left m c
  part_is = let d : c.here + c.left - c.here ≡ c.left = omega arith in rw d refl

  module _ {cap : ℕ} (l : List ℕ) (to : ℕ) (l' : List ℕ) where
    pub next_plain : 0 < c.left → c.plain ≡ true → c.units ≤ cap → l' ≡ stored l to part
        → PieceMet k (bytes_left m c) cap l to (Some (left_of c)) l'
    next_plain z p h d = record { says = (z, piece_plain g p cap h l to l' (rw part_is at d)) }

  -- n of them
  module _ (n most cap : ℕ) (e : n ≡ singles_at k m c.here most) (d : most ≡ min c.left cap) where
    few : n ≤ c.left
    few = omega (arith, singles_few k m c.here most n e)

    pub part_singles : n ≡ length (take n part)
    part_singles = rw part_is (sym (length-take-le n (bytes_left m c)
        (omega (arith, few, window_length m c.here c.left g.inside))))

    pub next_singles : 0 < n → (l : List ℕ) (to : ℕ) (l' : List ℕ) → l' ≡ stored l to (take n part)
        → PieceMet k (bytes_left m c) cap l to (Some (record { size = n; bytes = n; units = n })) l'
    next_singles y l to l' h =
        let h' = rw (part_is, take-take n c.left (drop c.here m) few) at h in
        record { says = (y, piece_singles g cap e d l to l' h') }

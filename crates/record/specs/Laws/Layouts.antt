-- Both layouts keep rows of 64-bit numbers, as src/tables.rt tells its callers of each.
use Rattle.std.specs.Prelude.{◌≡◌, refl, List, ◌++◌, ℕ, ◌^◌, ◌<◌, length, take, drop}
use Rattle.std.proofs.Common.{sym, ◌∙◌, ap, arith, length-append, take_at, drop_at, take_all, drop-drop}
use Rattle.wire.specs.BigEndian.{joined, be, high}
use Rattle.wire.specs.Laws.{be_length, joined_be}
use Rattle.record.specs.Model.Rows.{Row, row}
use Rattle.record.specs.Model.Answers.{as_numbers, as_bytes}
use Rattle.record.specs.Model.Calls.{Fits, Keeps}
use Rattle.record.specs.Laws.TableLaws.{Sound}

be_back : (n : ℕ) → n < 2 ^ 64 → joined 0 (be 8 n) ≡ n
be_back n l = let e : high 8 n ≡ 0 = omega arith in ap (λ (u : ℕ). joined u (be 8 n)) (sym e) ∙ joined_be 8 n

-- five parts of eight
pub record Parts (a b c d e : List ℕ) : Type 0 where
  pub all : length (a ++ (b ++ (c ++ (d ++ e)))) ≡ 40
  pub one : take 8 (a ++ (b ++ (c ++ (d ++ e)))) ≡ a
  pub two : take 8 (drop 8 (a ++ (b ++ (c ++ (d ++ e))))) ≡ b
  pub three : take 8 (drop 16 (a ++ (b ++ (c ++ (d ++ e))))) ≡ c
  pub four : take 8 (drop 24 (a ++ (b ++ (c ++ (d ++ e))))) ≡ d
  pub five : take 8 (drop 32 (a ++ (b ++ (c ++ (d ++ e))))) ≡ e

parts : (a b c d e : List ℕ) → length a ≡ 8 → length b ≡ 8 → length c ≡ 8 → length d ≡ 8 → length e ≡ 8
    → Parts a b c d e
parts a b c d e ha hb hc hd he =
    let x = a ++ (b ++ (c ++ (d ++ e))) in
    let e8 : drop 8 (a ++ (b ++ (c ++ (d ++ e)))) ≡ b ++ (c ++ (d ++ e)) = drop_at a (b ++ (c ++ (d ++ e))) 8 ha in
    let e16 : drop 16 (a ++ (b ++ (c ++ (d ++ e)))) ≡ c ++ (d ++ e) = sym (drop-drop 8 8 x) ∙ ap (drop 8) e8
    ∙ drop_at b (c ++ (d ++ e)) 8 hb in
    let e24 : drop 24 (a ++ (b ++ (c ++ (d ++ e)))) ≡ d ++ e = sym (drop-drop 8 16 x) ∙ ap (drop 8) e16
    ∙ drop_at c (d ++ e) 8 hc in
    let e32 : drop 32 (a ++ (b ++ (c ++ (d ++ e)))) ≡ e = sym (drop-drop 8 24 x) ∙ ap (drop 8) e24 ∙ drop_at d e 8 hd in
    record {
      all = length-append a (b ++ (c ++ (d ++ e))) ∙ omega (
        arith,
        length-append b (c ++ (d ++ e)),
        length-append c (d ++ e),
        length-append d e,
      );
      one = take_at a (b ++ (c ++ (d ++ e))) 8 ha;
      two = ap (take 8) e8 ∙ take_at b (c ++ (d ++ e)) 8 hb;
      three = ap (take 8) e16 ∙ take_at c (d ++ e) 8 hc;
      four = ap (take 8) e24 ∙ take_at d e 8 hd;
      five = ap (take 8) e32 ∙ take_all 8 e (omega arith);
    }

row_parts : (r : Row) → Parts (be 8 r.kind) (be 8 r.place) (be 8 r.first) (be 8 r.second) (be 8 r.after)
row_parts r =
    parts (be 8 r.kind) (be 8 r.place) (be 8 r.first) (be 8 r.second) (be 8 r.after)
    (be_length 8 r.kind) (be_length 8 r.place) (be_length 8 r.first) (be_length 8 r.second)
    (be_length 8 r.after)

pub bytes_sized : (r : Row) → length (as_bytes.encode r) ≡ as_bytes.width
bytes_sized r = (row_parts r).all

bytes_sound : (r : Row) → Fits r → Sound as_bytes r
bytes_sound r h =
    let p = row_parts r in
    let a = ap (joined 0) p.one ∙ be_back r.kind h.kind in
    let b = ap (joined 0) p.two ∙ be_back r.place h.place in
    let c = ap (joined 0) p.three ∙ be_back r.first h.first in
    let d = ap (joined 0) p.four ∙ be_back r.second h.second in
    let e = ap (joined 0) p.five ∙ be_back r.after h.after in
    record { sized = p.all; back = λ i. row (a i) (b i) (c i) (d i) (e i) }

pub numbers_keep : Keeps as_numbers
numbers_keep = record { sized = λ r. refl; again = λ r h. refl }

pub bytes_keep : Keeps as_bytes
bytes_keep = record { sized = bytes_sized; again = λ r h. (bytes_sound r h).back }

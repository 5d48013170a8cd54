-- A reader at a place of the whole message: the end is a place, the entries are rows. One law for each combinator.
use Rattle.std.specs.Prelude.{◌≡◌, Bool, cond, length}
use Rattle.std.proofs.Math.Path.{refl, ap}
use Rattle.std.proofs.Common.{sym, ap₂, ◌∙◌, add-zero, add_assoc, length-drop, drop_of_length-le, drop-cons, drop-drop}
use Rattle.std.proofs.Math.Bool.{true, false}
use mathlib.Core.List.{List, [], ◌∷◌, ◌++◌, append_assoc}
use Prim.Native.Nat.{ℕ, suc, ◌+◌, ◌-◌, ◌≤◌, ◌<◌}
use native.Mathlib.Omega.{arith}
use Rattle.std.proofs.Math.ListN.{drop, get_or}
use Rattle.flow.specs.Flow.{pick, Entry, Outcome, Done, Fault, then, give, fail, byte_at, changing, asking, mapped}
use Rattle.flow.specs.Flow.{headed, bind}
use Rattle.flow.specs.Steps.{before, stepped, renamed, top}
use Rattle.record.specs.Model.Items.{Item, Known}
use Rattle.record.specs.Model.Reading.{Reader, Opening}
use Rattle.record.specs.Model.Rows.{Row, row, item_row, rows_from}
use Rattle.record.proofs.Laws.RowLaws.{item_moved}
use Rattle.record.specs.ForReader.ReadingAt.{marks, from, numbered, ReadingAt, ReadTo, RefusedAt, reading_of, run, front, on, through, topped}

-- ---- rows, and what follows
marks_append : (es fs : List (Entry Item)) → marks (es ++ fs) ≡ marks es ++ marks fs
marks_append [] fs = refl
marks_append (e ∷ es) fs = ap {B = List Row} (λ l. item_row e.place e.span e.item ∷ l) (marks_append es fs)

pub marks_length : (es : List (Entry Item)) → length (marks es) ≡ length es
marks_length [] = refl
marks_length (e ∷ es) = ap suc (marks_length es)

pub numbered_append : (k : ℕ) (r q : List Row) → numbered k (r ++ q) ≡ numbered k r ++ numbered (k + length r) q
numbered_append k [] q = let e : k + 0 ≡ k = omega arith in ap (λ (j : ℕ). numbered j q) (sym e)
numbered_append k (x ∷ r) q =
    let e : suc k + length r ≡ k + suc (length r) = omega arith in
    ap {B = List Row} (λ l. from k x ∷ l) (numbered_append (suc k) r q
    ∙ ap (λ (j : ℕ). numbered (suc k) r ++ numbered j q) e)

pub numbered_length : (k : ℕ) (r : List Row) → length (numbered k r) ≡ length r
numbered_length k [] = refl
numbered_length k (x ∷ r) = ap suc (numbered_length (suc k) r)

pub from_item : (k p e : ℕ) (i : Item) → from k (item_row p e i) ≡ item_row p (k + e) i
from_item k p e i = let s = item_moved p e p e i in
    ap₂ (λ (q f : ℕ). row (item_row p e i).kind q (item_row p e i).first (item_row p e i).second (k + f))
    (ap (λ (x : Row). x.place) s) (ap (λ (x : Row). x.after) s) ∙ sym (item_moved p e p (k + e) i)

pub numbered_marks : (k : ℕ) (es : List (Entry Item)) → numbered k (marks es) ≡ rows_from k es
numbered_marks k [] = refl
numbered_marks k (e ∷ es) =
    ap₂ (λ (x : Row) (l : List Row). x ∷ l) (from_item k e.place e.span e.item) (numbered_marks (suc k) es)

module _ {A : Type 0} where
  pub front_none : (o : ReadingAt A) → front [] o ≡ o
  front_none (ReadTo e a rs c) = refl
  front_none (RefusedAt x o) = refl

  pub front_front : (qs rs : List Row) (o : ReadingAt A) → front qs (front rs o) ≡ front (qs ++ rs) o
  front_front qs rs (ReadTo e a ts c) = ap (λ (l : List Row). ReadTo e a l c) (sym (append_assoc qs rs ts))
  front_front qs rs (RefusedAt x o) = refl

module _ {A B : Type 0} where
  pub front_on : (rs : List Row) (o : ReadingAt A) (k : ℕ → A → Known → ReadingAt B)
      → front rs (on o k) ≡ on (front rs o) k
  front_on rs (ReadTo e a qs c) k = front_front rs qs (k e a c)
  front_on rs (RefusedAt x o) k = refl

  pub on_same : (o : ReadingAt A) (k h : ℕ → A → Known → ReadingAt B) → ((e : ℕ) (a : A) (c : Known)
      → k e a c ≡ h e a c) → on o k ≡ on o h
  on_same (ReadTo e a rs c) k h s = ap (λ (o : ReadingAt B). front rs o) (s e a c)
  on_same (RefusedAt x o) k h s = refl

  pub topped_through : (p : ℕ) (x : B → Item) (φ : A → B) (o : ReadingAt A)
      → topped p x (through φ o) ≡ topped p (λ a. x (φ a)) o
  topped_through p x φ (ReadTo e a rs c) = refl
  topped_through p x φ (RefusedAt y o) = refl

module _ {A B C : Type 0} where
  pub through_through : (φ : A → B) (ψ : B → C) (o : ReadingAt A) → through ψ (through φ o) ≡ through (λ a. ψ (φ a)) o
  through_through φ ψ (ReadTo e a rs c) = refl
  through_through φ ψ (RefusedAt x o) = refl

  pub through_on : (ψ : B → C) (o : ReadingAt A) (k : ℕ → A → Known → ReadingAt B)
      → through ψ (on o k) ≡ on o (λ e a c. through ψ (k e a c))
  through_on ψ (ReadTo e a rs c) k = go (k e a c)
    where
      go : (o : ReadingAt B) → through ψ (front rs o) ≡ front rs (through ψ o)
      go (ReadTo e b qs c) = refl
      go (RefusedAt x o) = refl
  through_on ψ (RefusedAt x o) k = refl

  pub on_on : (o : ReadingAt A) (k : ℕ → A → Known → ReadingAt B) (h : ℕ → B → Known → ReadingAt C)
      → on (on o k) h ≡ on o (λ e a c. on (k e a c) h)
  on_on (ReadTo e a rs c) k h = sym (front_on rs (k e a c) h)
  on_on (RefusedAt x o) k h = refl

-- ---- one law for each combinator
module _ {A : Type 0} where
  placed_before : (p n : ℕ) (es : List (Entry Item)) (o : Outcome Known Item A)
      → reading_of p (before n es o) ≡ front (marks es) (reading_of (p + n) o)
  placed_before p n es (Done k a fs c) =
      ap₂ (λ (e : ℕ) (l : List Row). ReadTo e a l c) (sym (add_assoc p n k)) (marks_append es fs)
  placed_before p n es (Fault x o) = refl

  placed_stepped : (p : ℕ) (o : Outcome Known Item A) → reading_of p (stepped o) ≡ reading_of (p + 1) o
  placed_stepped p (Done n a es c) = ap (λ (e : ℕ). ReadTo e a (marks es) c) (omega arith)
  placed_stepped p (Fault x o) = refl

  pub run_give : (a : A) (c : Known) (m : List ℕ) (p : ℕ) → run (give a) c m p ≡ ReadTo p a [] c
  unfolding run
  run_give a c m p = ap (λ (e : ℕ). ReadTo e a [] c) (add-zero p)

  pub run_fail : (x o : ℕ) (c : Known) (m : List ℕ) (p : ℕ) → run {A = A} (fail x o) c m p ≡ RefusedAt x o
  unfolding run
  run_fail x o c m p = refl

  module _ (g : Opening A) (c : Known) (m : List ℕ) (p : ℕ) where
    pub run_byte : p < length m → run (byte_at g) c m p ≡ run (g p (get_or m p 0)) c m (p + 1)
    unfolding run
    run_byte l =
        let e : suc p ≡ p + 1 = omega arith in
        ap (λ (s : List ℕ). reading_of p (byte_at g c p s)) (drop-cons m p 0 l
        ∙ ap {B = List ℕ} (λ (k : ℕ). get_or m p 0 ∷ drop k m) e)
        ∙ placed_stepped p (g p (get_or m p 0) c (p + 1) (drop (p + 1) m))

    pub run_end : length m ≤ p → run (byte_at g) c m p ≡ RefusedAt 2 p
    unfolding run
    run_end l = ap (λ (s : List ℕ). reading_of p (byte_at g c p s)) (drop_of_length-le m l)

  pub run_changing : (φ : Known → Known) (f : Reader A) (c : Known) (m : List ℕ) (p : ℕ)
      → run (changing φ f) c m p ≡ run f (φ c) m p
  unfolding run
  run_changing φ f c m p = refl

  pub run_asking : (g : Known → Reader A) (c : Known) (m : List ℕ) (p : ℕ) → run (asking g) c m p ≡ run (g c) c m p
  unfolding run
  run_asking g c m p = refl

  pub run_test : (t : Bool) (f g : Reader A) (c : Known) (m : List ℕ) (p : ℕ)
      → run (cond t f g) c m p ≡ pick t (run f c m p) (run g c m p)
  unfolding pick
  run_test true f g c m p = refl
  run_test false f g c m p = refl

  -- a bound of the recursion that is what is left of the message
  pub run_bounded : (f : ℕ → Reader A) (c : Known) (m : List ℕ) (p : ℕ)
      → run (λ c at s. f (length s) c at s) c m p ≡ run (f (length m - p)) c m p
  unfolding run
  run_bounded f c m p = ap (λ (k : ℕ). reading_of p (f k c p (drop p m))) (length-drop p m)

  pub run_headed : (q : ℕ) (x : A → Item) (f : Reader A) (c : Known) (m : List ℕ) (p : ℕ)
      → run (headed q x f) c m p ≡ topped q x (run f c m p)
  unfolding run
  run_headed q x f c m p = go (f c p (drop p m))
    where
      go : (o : Outcome Known Item A) → reading_of p (top q x o) ≡ topped q x (reading_of p o)
      go (Done n a es c) =
          ap (λ (k : ℕ). ReadTo (p + n) tt (item_row q (suc k) (x a) ∷ marks es) c) (sym (marks_length es))
      go (Fault y o) = refl

module _ {A B : Type 0} where
  pub run_mapped : (φ : A → B) (f : Reader A) (c : Known) (m : List ℕ) (p : ℕ)
      → run (mapped φ f) c m p ≡ through φ (run f c m p)
  unfolding run
  run_mapped φ f c m p = go (f c p (drop p m))
    where
      go : (o : Outcome Known Item A) → reading_of p (renamed φ o) ≡ through φ (reading_of p o)
      go (Done n a es c) = refl
      go (Fault x o) = refl

  pub run_bind : (f : Reader A) (g : A → Reader B) (c : Known) (m : List ℕ) (p : ℕ)
      → run (bind f g) c m p ≡ on (run f c m p) (λ e a c'. run (g a) c' m e)
  unfolding run
  run_bind f g c m p = go (f c p (drop p m))
    where
      go : (o : Outcome Known Item A) → reading_of p
          (then o (λ n a es c'. before n es (g a c' (p + n) (drop n (drop p m)))))
          ≡ on (reading_of p o) (λ e a c'. reading_of e (g a c' e (drop e m)))
      go (Done n a es c') =
          placed_before p n es (g a c' (p + n) (drop n (drop p m)))
          ∙ ap (λ (s : List ℕ). front (marks es) (reading_of (p + n) (g a c' (p + n) s))) (drop-drop n p m)
      go (Fault x o) = refl

  -- what follows starts no earlier
  pub run_same : (f : Reader A) (c : Known) (m : List ℕ) (p : ℕ) (k h : ℕ → A → Known → ReadingAt B)
      → ((e : ℕ) (a : A) (c' : Known) → p ≤ e → k e a c' ≡ h e a c') → on (run f c m p) k ≡ on (run f c m p) h
  unfolding run
  run_same f c m p k h s = go (f c p (drop p m))
    where
      go : (o : Outcome Known Item A) → on (reading_of p o) k ≡ on (reading_of p o) h
      go (Done n a es c') = ap (λ (o : ReadingAt B). front (marks es) o) (s (p + n) a c' (omega arith))
      go (Fault x o) = refl

-- What is written of the values in a list, map or object that are left after j of them: none, or one more and the rest.
use Rattle.std.specs.Prelude.{◌≡◌, refl, List, [], eqb, length}
use Rattle.std.proofs.Common.{sym, ◌∙◌, append-nil}
use Rattle.std.proofs.Math.Path.{ap}
use mathlib.Core.Bool.{Bool, true, false, cond, ◌&&◌}
use Prim.Native.Nat.{ℕ, suc, ◌+◌, ◌-◌, ◌/◌, ◌%◌, ◌≤◌, ◌<◌}
use native.Mathlib.Omega.{arith}
use borrow.Author.Tests.{eqb-true, eqb-false, eq-eqb, ne_eqb}
use Rattle.flow.specs.Tests.{by_cases}
use Rattle.record.specs.declared.Contents.{Contents}
use Rattle.record.specs.declared.Contents.TheVariants.{Elements, Couples}
use Rattle.record.specs.Model.Items.{Item, Known}
use Rattle.record.specs.Model.Shortest.{Put, put_then, put_many}
use Rattle.record.specs.Laws.Takes.{Drops}
use Rattle.record.proofs.Laws.Takes.{then_takes}
use Rattle.record.specs.ForWriter.WritingAt.{WritingAt, WrittenTo, NoMessage, walk, behind, on_written}
use Rattle.record.proofs.ForWriter.WritingAt.{behind_on}
use Rattle.record.proofs.ForWriter.WritingAt.{walk_then, walk_many_none, walk_many_more, walk_same, walk_within}
use Rattle.record.specs.ForWriter.WrittenContents.{left, done}

-- j is not too many
abbrev pub Room : Contents → ℕ → Type 0
Room (Elements n) j = j ≤ n
Room (Couples n) j = j ≤ n + n

pub room_first : (s : Contents) → Room s 0
room_first (Elements n) = omega arith
room_first (Couples n) = omega arith

-- ---- the tests of a map
both : (a b : Bool) → a && b ≡ true → (a ≡ true) × (b ≡ true)
both true b t = (refl, t)
both false b t = absurd (mathlib.Core.Bool.true≢false (sym t))

even_less : (n j : ℕ) → done (Couples n) j ≡ false → j ≤ n + n → eqb (j % 2) 0 ≡ true → j / 2 < n
even_less n j t r h =
    let q : eqb (j / 2) n ≡ false = sym (ap (λ (b : Bool). b && eqb (j / 2) n) h) ∙ t in
    omega (arith, eqb-true (j % 2) 0 h, eqb-false (j / 2) n q)

odd_less : (n j : ℕ) → j ≤ n + n → eqb (j % 2) 0 ≡ false → j / 2 < n
odd_less n j r h = let q : j % 2 ≡ 0 → ⊥ = eqb-false (j % 2) 0 h in omega arith

pub room_next : (s : Contents) (j : ℕ) → done s j ≡ false → Room s j → Room s (j + 1)
room_next (Elements n) j t r = omega (arith, eqb-false j n t)
room_next (Couples n) j t r = by_cases (eqb (j % 2) 0)
    (λ h. let q = even_less n j t r h in omega (arith, eqb-true (j % 2) 0 h))
    (λ h. let q = odd_less n j r h in let z : j % 2 ≡ 0 → ⊥ = eqb-false (j % 2) 0 h in omega arith)

-- ---- the whole
module _ (g : Put) (n : ℕ) where
  pub left_elements : left g (Elements n) 0 ≡ put_many g n
  unfolding left
  left_elements = let q : n - 0 ≡ n = omega arith in ap (put_many g) q

  pub left_couples : left g (Couples n) 0 ≡ put_many (put_then g g) n
  unfolding left
  left_couples = let q : n - 0 ≡ n = omega arith in ap (put_many (put_then g g)) q

  module _ (c : Known) (is : List Item) (k : ℕ) where
    pub walk_elements : walk (put_many g n) c is k ≡ walk (left g (Elements n) 0) c is k
    walk_elements = ap (λ (f : Put). walk f c is k) (sym left_elements)

    pub walk_couples : walk (put_many (put_then g g) n) c is k ≡ walk (left g (Couples n) 0) c is k
    walk_couples = ap (λ (f : Put). walk f c is k) (sym left_couples)

-- ---- after j values
module _ (g : Put) (drops : Drops g) (is : List Item) where
  on_on : (o : WritingAt) (f h : ℕ → Known → WritingAt) → on_written (on_written o f) h
      ≡ on_written o (λ e c. on_written (f e c) h)
  on_on (WrittenTo w e c) f h = sym (behind_on w (f e c) h)
  on_on NoMessage f h = refl

  even_left : (n j : ℕ) → eqb (j % 2) 0 ≡ true → left g (Couples n) j ≡ put_many (put_then g g) (n - j / 2)
  unfolding left
  even_left n j h = ap (λ (b : Bool). cond b (put_many (put_then g g) (n - j / 2))
      (put_then g (put_many (put_then g g) (n - j / 2 - 1)))) h

  odd_left : (n j : ℕ) → eqb (j % 2) 0 ≡ false → left g (Couples n) j ≡ put_then g
      (put_many (put_then g g) (n - j / 2 - 1))
  unfolding left
  odd_left n j h = ap (λ (b : Bool). cond b (put_many (put_then g g) (n - j / 2))
      (put_then g (put_many (put_then g g) (n - j / 2 - 1)))) h

  pub left_stop : (s : Contents) (j : ℕ) → done s j ≡ true → (c : Known) (k : ℕ) → k ≤ length is
      → walk (left g s j) c is k ≡ WrittenTo [] k c
  unfolding left
  left_stop (Elements n) j t c k l =
      let q : n - j ≡ 0 = omega (arith, eqb-true j n t) in
      ap (λ (m : ℕ). walk (put_many g m) c is k) q ∙ walk_many_none c is k g l
  left_stop (Couples n) j t c k l =
      let b = both (eqb (j % 2) 0) (eqb (j / 2) n) t in
      let q : n - j / 2 ≡ 0 = omega (arith, eqb-true (j / 2) n b.1) in
      ap (λ (f : Put). walk f c is k) (even_left n j b.0 ∙ ap (put_many (put_then g g)) q)
      ∙ walk_many_none c is k (put_then g g) l

  pub left_step : (s : Contents) (j : ℕ) → done s j ≡ false → Room s j → (c : Known) (k : ℕ)
      → walk (left g s j) c is k ≡ on_written (walk g c is k) (λ e c'. walk (left g s (j + 1)) c' is e)
  unfolding left
  left_step (Elements n) j t r c k =
      let q : n - j ≡ suc (n - (j + 1)) = omega (arith, eqb-false j n t) in
      ap (λ (m : ℕ). walk (put_many g m) c is k) q ∙ walk_many_more c is k g (n - (j + 1)) drops
  left_step (Couples n) j t r c k = by_cases (eqb (j % 2) 0) key value
    where
      rest : ℕ → Put
      rest m = put_many (put_then g g) m

      -- a key is due, and then its value
      key : eqb (j % 2) 0 ≡ true → walk (left g (Couples n) j) c is k ≡ on_written (walk g c is k)
          (λ e c'. walk (left g (Couples n) (j + 1)) c' is e)
      key h =
          let u = even_less n j t r h in
          let q : n - j / 2 ≡ suc (n - (j + 1) / 2 - 1) = omega (arith, eqb-true (j % 2) 0 h) in
          let h' : eqb ((j + 1) % 2) 0 ≡ false = ne_eqb ((j + 1) % 2) 0 (λ z. omega (arith, eqb-true (j % 2) 0 h)) in
          ap (λ (f : Put). walk f c is k) (even_left n j h ∙ ap (put_many (put_then g g)) q)
          ∙ walk_many_more c is k (put_then g g) (n - (j + 1) / 2 - 1) (then_takes drops drops)
          ∙ ap (λ (o : WritingAt). on_written o (λ e c'. walk (rest (n - (j + 1) / 2 - 1)) c' is e))
          (walk_then c is k g g drops)
          ∙ on_on (walk g c is k) (λ e c'. walk g c' is e) (λ e c'. walk (rest (n - (j + 1) / 2 - 1)) c' is e)
          ∙ walk_same c is k g _ _ (λ e c' l. sym (ap (λ (f : Put). walk f c' is e) (odd_left n (j + 1) h')
          ∙ walk_then c' is e g (rest (n - (j + 1) / 2 - 1)) drops))

      value : eqb (j % 2) 0 ≡ false → walk (left g (Couples n) j) c is k
          ≡ on_written (walk g c is k) (λ e c'. walk (left g (Couples n) (j + 1)) c' is e)
      value h =
          let z : j % 2 ≡ 0 → ⊥ = eqb-false (j % 2) 0 h in
          let q : n - j / 2 - 1 ≡ n - (j + 1) / 2 = omega arith in
          let h' : eqb ((j + 1) % 2) 0 ≡ true = eq-eqb ((j + 1) % 2) 0 (omega arith) in
          ap (λ (f : Put). walk f c is k) (odd_left n j h ∙ ap (λ (m : ℕ). put_then g (rest m)) q)
          ∙ walk_then c is k g (rest (n - (j + 1) / 2)) drops
          ∙ walk_same c is k g _ _ (λ e c' l. ap (λ (f : Put). walk f c' is e) (sym (even_left n (j + 1) h')))

  module _ (s : Contents) (j : ℕ) (t : done s j ≡ false) (r : Room s j) (c : Known) (k : ℕ) where
    pub left_over : (w : List ℕ) (e : ℕ) (c' : Known) → walk g c is k ≡ WrittenTo w e c'
        → walk (left g s j) c is k ≡ behind w (walk (left g s (j + 1)) c' is e)
    left_over w e c' h =
        left_step s j t r c k ∙ ap (λ (o : WritingAt). on_written o (λ e c'. walk (left g s (j + 1)) c' is e)) h

    pub left_stuck : walk g c is k ≡ NoMessage → walk (left g s j) c is k ≡ NoMessage
    left_stuck h =
        left_step s j t r c k ∙ ap (λ (o : WritingAt). on_written o (λ e c'. walk (left g s (j + 1)) c' is e)) h

  -- one value alone
  module _ (c : Known) (k : ℕ) where
    pub one_over : (w : List ℕ) (e : ℕ) (c' : Known) → walk g c is k ≡ WrittenTo w e c'
        → walk (left g (Elements 1) 0) c is k ≡ WrittenTo w e c'
    one_over w e c' h =
        left_over (Elements 1) 0 refl (omega arith) c k w e c' h
        ∙ ap (behind w) (left_stop (Elements 1) 1 refl c' e (walk_within c is k g w e c' h))
        ∙ ap (λ (v : List ℕ). WrittenTo v e c') (append-nil w)

    pub one_value : (o : WritingAt) → walk (left g (Elements 1) 0) c is k ≡ o → walk g c is k ≡ o
    one_value o h = go (walk g c is k) refl
      where
        go : (x : WritingAt) → walk g c is k ≡ x → walk g c is k ≡ o
        go (WrittenTo w e c') q = q ∙ sym (one_over w e c' q) ∙ h
        go NoMessage q = q ∙ sym (left_stuck (Elements 1) 0 refl (omega arith) c k q) ∙ h

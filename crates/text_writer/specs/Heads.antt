-- The shortest head of a chunk is a number of one to three bytes: a code, and the units that it counts.
use Rattle.std.specs.Prelude.{◌≡◌, refl, List, [], ◌∷◌, ℕ, zero, suc, ◌+◌, ◌*◌, ◌/◌, ◌%◌, ◌≤◌, ◌<◌}
use Rattle.std.proofs.Common.{sym, ◌∙◌, ap, mod-eq_of_lt, arith, lt-ltb, le-ltb, eq-eqb}
use Rattle.std.proofs.Math.Option.{Option, some}
use Rattle.wire.specs.BigEndian.{be, high, wider}
use Rattle.scalar.specs.declared.Rule.TheVariants.{Plain}
use Rattle.scalar.specs.declared.Encoding.{Encoding}
use Rattle.text_writer.specs.declared.Heads.{Heads}
use Rattle.scalar.specs.Scalars.{Form, form, shortest, part_head, last_heads, shortest_head}
use Rattle.scalar.proofs.RuleLaws.{value_plain, guess_plain}
use Rattle.scalar.proofs.FormLaws.{shortest_first}
use Rattle.scalar.proofs.TextShort.{or_empty}
use Rattle.text_writer.specs.Writing.{HeadsOf}

-- a number whose highest byte is a and what u has above its k lowest bytes
be_under : (k a u : ℕ) → a + high k u < 256 → be (suc k) (wider k a + u) ≡ (a + high k u) ∷ be k u
be_under zero a u l = ap (λ (b : ℕ). b ∷ []) (mod-eq_of_lt l)
be_under (suc k) a u l =
    let d : (256 * wider k a + u) / 256 ≡ wider k a + u / 256 = omega arith in
    let r : (256 * wider k a + u) % 256 ≡ u % 256 = omega arith in
    rw (d, r, be_under k a (u / 256) l) refl

-- one form: it holds u, or the next do
module _ (a codes k u : ℕ) (ws : List Form) where
  held_here : high k u < codes → a + codes ≤ 256
      → shortest_head (form a codes k Plain ∷ ws) u ≡ be (suc k) (wider k a + u)
  held_here l h = ap or_empty found
    where
      found : shortest (form a codes k Plain ∷ ws) u ≡ some (be (suc k) (wider k a + u))
      found =
          shortest_first u (form a codes k Plain) ws
          ∙ rw (guess_plain u, value_plain u, lt-ltb (high k u) codes l, eq-eqb u u refl)
          (ap {B = Option (List ℕ)} some (sym (be_under k a u (omega arith))))

  held_later : codes ≤ high k u → shortest_head (form a codes k Plain ∷ ws) u ≡ shortest_head ws u
  held_later l = ap or_empty past
    where
      past : shortest (form a codes k Plain ∷ ws) u ≡ shortest ws u
      past = shortest_first u (form a codes k Plain) ws ∙ rw (guess_plain u, le-ltb (high k u) codes l) refl

module _ {k : Encoding} {r : Heads} (h : HeadsOf k r) (u : ℕ) where
  pub last_one : u < r.few → shortest_head (last_heads k) u ≡ be 1 (r.one + u)
  last_one l = rw h.last (held_here r.one r.few 0 u _ l h.bytes.0)

  pub last_two : r.few ≤ u → u < 1024 → shortest_head (last_heads k) u ≡ be 2 (r.two * 256 + u)
  last_two g l =
      let later = held_later r.one r.few 0 u _ g in
      rw h.last (later ∙ held_here r.two 4 1 u _ (omega arith) h.bytes.1 ∙ ap (be 2) (omega arith))

  pub last_three : r.few ≤ u → 1024 ≤ u → u < 65536 → shortest_head (last_heads k) u ≡ be 3 (r.three * 65536 + u)
  last_three g f l =
      rw h.last
      (held_later r.one r.few 0 u _ g
      ∙ held_later r.two 4 1 u _ (omega arith)
      ∙ held_here r.three 1 2 u _ (omega arith) (omega (arith, h.bytes.2))
      ∙ ap (be 3) (omega arith))

  pub part_three : u < 65536 → shortest_head (part_head k ∷ []) u ≡ be 3 (r.part * 65536 + u)
  part_three l =
      rw h.part (held_here r.part 1 2 u _ (omega arith) (omega (arith, h.bytes.3)) ∙ ap (be 3) (omega arith))

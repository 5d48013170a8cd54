-- Bytes that are ASCII: each is read as a character of one unit.
use Rattle.std.proofs.Common.{◌≡◌, ℕ, zero, suc, ◌+◌, ◌-◌, ◌*◌, ◌/◌, ◌<◌, ◌≤◌, true, List, [], length, get_or, sym, refl, ap, ◌∙◌, add-zero, arith, w8, Fits}
use Rattle.flow.specs.Tests.{bytes_all}
use Rattle.flow.specs.Flow.{Done}
use Rattle.scalar.specs.declared.Encoding.{Encoding}
use Rattle.scalar.specs.declared.Encoding.TheVariants.{Utf8}
use Rattle.std.specs.Prelude.{Some, Ok}
use Rattle.scalar.specs.Scalars.{characters}
use Rattle.texts.specs.Answers.{extent_at, Passing, starts, head_form, head_read, chunked, chunk_read, with_content}
use Rattle.texts.specs.Answers.{chunk_by, chunk_at, told_chunk, ChunkMet, PassedMet}
use Rattle.texts.specs.Ascii.{Ascii, ShortText, ascii_at, run_few, run_inside, run_ascii, few_are}
use Rattle.texts.specs.Ascii.{inside_are, ascii_are}
use Rattle.texts.specs.At.{basic, continued_none, characters_next, body_there, string_there}
use Rattle.texts.proofs.Strings.{passing_start, passing_more, passing_end, leads_at, head_at_law, held}
use Rattle.texts.proofs.Strings.{head_there, joining_start, passed, pass_last}

-- ---- a loop over characters: they are passed
pub passing_ascii : {n : ℕ} {m : List ℕ} {at p b : ℕ} (left r : ℕ) → Passing n m at p left b → r ≤ left
    → p + r ≤ length m → Ascii m p r → Passing n m at (p + r) (left - r) (b + r)
passing_ascii {p = p} {b = b} left zero R l h x =
    let e : left - 0 ≡ left = omega arith in rw (e, add-zero p, add-zero b) R
passing_ascii {n} {m} {at} {p} {b = c} left (suc r) R l h x =
    let b : get_or m p 0 < 0x80 = rw (add-zero p) at (x.below 0 (omega arith)) in
    let s =
    characters_next left m p (omega arith) (omega arith) 0 0 0 1 (basic (sym (leads_at 0 tt (omega arith) b refl)))
    (omega arith) 0 (sym (continued_none p 0 0 0 m (p + 1) (omega arith))) in
    let d : left - 1 - r ≡ left - suc r = omega arith in
    let e : p + 1 + r ≡ p + suc r = omega arith in
    let f : c + 1 + r ≡ c + suc r = omega arith in
    rw (d, e, f) at
    (passing_ascii {p = p + 1} (left - 1) r (passing_more R 1 1 1 s (omega arith) (omega arith) (omega arith)) (omega arith)
    (omega arith) rest)
  where
    rest : Ascii m (p + 1) r
    rest =
        record
        { below = λ i k. let e : p + suc i ≡ p + 1 + i = omega arith in rw e at (x.below (suc i) (omega arith)) }

-- a run of them, up to so many units; and whole steps of a run
pub passing_run : {n : ℕ} {m : List ℕ} {at p left b most r : ℕ} → Passing n m at p left b → most ≤ left
    → r ≡ ascii_at m p most → Passing n m at (p + r) (left - r) (b + r)
passing_run {left = left} {r = r} R l e =
    passing_ascii left r R (omega (arith, few_are _ _ _ e)) (inside_are _ _ _ e R.inside) (ascii_are _ _ _ e)

pub within_run : (n room used : ℕ) → room < n → used ≤ room → {m : List ℕ} {at p b : ℕ}
    → Passing n m at p (n - used) b → {r : ℕ} → r ≡ ascii_at m p (room - used)
    → Passing n m at (p + r) (n - (used + r)) (b + r) × (used + r ≤ room)
within_run n room used h few R {r} e =
    let d : n - used - r ≡ n - (used + r) = omega arith in
    (rw d at (passing_run R (omega arith) e), omega (arith, few_are _ _ _ e))

module _ (m : List ℕ) (p n : ℕ) (l : p ≤ length m) {r : ℕ} (e : r ≡ 32 * (ascii_at m p n / 32)) where
  pub steps_few : (r ≤ n) × (p + r ≤ length m)
  steps_few = (omega (arith, run_few m p n), omega (arith, run_inside m p n l))

  pub passing_steps : Passing n m p (p + r) (n - r) r
  passing_steps =
      let z : 0 + r ≡ r = omega arith in
      rw z at
      (passing_ascii n r (passing_start n m p l) steps_few.0 steps_few.1 (run_ascii m p n r (omega arith)))

-- ---- a short text: the byte at p counts the n ASCII bytes after it
module _ (m : List ℕ) (p n : ℕ) (l : p + 1 + n ≤ length m) (x : Ascii m (p + 1) n) where
  ascii_extent : Done n n [] tt ≡ extent_at (characters n) m (p + 1)
  ascii_extent =
      let e : p + 1 + n - (p + 1) ≡ n = omega arith in
      let d : 0 + n ≡ n = omega arith in
      rw (e, d) at
      (passing_end (passing_ascii n n (passing_start n m (p + 1) (omega arith)) (omega arith) l x) (omega arith))

  short_head : n ≡ get_or m p 0 → n < 0x20 → Some (starts 0 n true) ≡ head_form Utf8 (get_or m p 0)
  short_head e h = head_at_law Utf8 refl 1 tt (omega arith) (omega arith) (held (omega arith))

  short_is : ((i : ℕ) → Fits w8 (get_or m i 0)) → n ≡ get_or m p 0 → n < 0x20
      → told_chunk (Ok (chunk_read 1 n n n true)) ≡ chunk_at Utf8 m p
  unfolding chunk_at
  short_is bytes e h =
      ap (with_content (head_read 1 n true)) ascii_extent
      ∙ ap (chunk_by Utf8 m p)
      (head_there Utf8 m p (omega arith) (starts 0 n true) (short_head e h) bytes (omega arith) n refl).is

  short_there : ((i : ℕ) → Fits w8 (get_or m i 0)) → n ≡ get_or m p 0 → n < 0x20
      → ChunkMet Utf8 m p (Ok (chunk_read 1 n n n true))
  short_there bytes e h =
      let z = body_there Utf8 n m (p + 1) (bytes_all m (λ i. (bytes i).fits)) n n (omega arith) ascii_extent in
      record {
        is = short_is bytes e h;
        says = (
          string_there Utf8 m p (omega arith) (starts 0 n true) (sym (short_head e h)) (omega arith) n refl
              ∙ ap (chunked Utf8 m p 1 true) z.0,
          omega arith,
          omega arith,
          z.2,
          z.3,
          z.4,
          z.5,
          omega arith,
        );
      }

module _ (m : List ℕ) (p n : ℕ) (bytes : (i : ℕ) → Fits w8 (get_or m i 0)) (h : ShortText m p n) where
  short_chunk : ChunkMet Utf8 m p (Ok (chunk_read 1 n n n true))
  short_chunk = short_there m p n h.inside h.ascii bytes h.counted h.short

  pub chunk_short : (k : Encoding) → k ≡ Utf8 → ChunkMet k m p (Ok (chunk_read 1 n n n true))
  chunk_short k e = rw e short_chunk

  pub pass_short : PassedMet Utf8 m p (Ok (passed n n (n + 1)))
  pass_short =
      let start = joining_start Utf8 m p (omega (arith, h.inside)) in
      let e : p + (1 + n) - p ≡ n + 1 = omega arith in
      let d : 0 + n ≡ n = omega arith in
      rw (e, d) at (pass_last start (chunk_read 1 n n n true) short_chunk refl)

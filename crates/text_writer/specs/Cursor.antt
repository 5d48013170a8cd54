-- Cursors in the content of a text or byte string: the next chunk is opened, bytes are passed and copied.
use Rattle.std.specs.Prelude.{◌≡◌, Bool, cond, ℕ, ◌+◌, ◌-◌, ◌^◌, ◌≤◌, ◌<◌, min, take, drop, get_or}
use Rattle.std.specs.Prelude.{Result, Ok, Err, Some, None}
use Rattle.std.specs.Result.{result_ok}
use Rattle.std.proofs.Math.Path.{refl, ap, subst}
use Rattle.std.proofs.Common.{sym, ◌∙◌, add-zero, length-take, length-drop, drop_of_length-le, take-append-drop}
use Rattle.std.proofs.Common.{take-add, take_at, take-take, length-take-le, get_or-take, get_or-drop, drop_at, drop-drop, eqb→eq}
use Rattle.std.proofs.Math.Bool.{true, false}
use mathlib.Core.List.{List, [], ◌∷◌, ◌++◌, append_assoc, append-nil}
use native.Mathlib.Omega.{arith}
use Rattle.std.proofs.Math.ListN.{length, length-append}
use Rattle.std.proofs.Math.Seq.{take-length, take-append_seam, drop-append_seam}
use Rattle.flow.specs.Steps.{Answer}
use Rattle.flow.specs.Flow.{Done, Fault, stored}
use Rattle.flow.specs.Tests.{split}
use Rattle.flow.specs.OverlayLaws.{stored_sets, stored_out, stored_seam, length_stored}
use Rattle.scalar.specs.declared.Encoding.{Encoding}
use Rattle.scalar.specs.declared.Encoding.TheVariants.{Utf8, Binary}
use Rattle.scalar.specs.declared.refusals.Refused.{Refused}
use Rattle.texts.specs.declared.ChunkRead.{ChunkRead}
use Rattle.text_writer.specs.declared.Cursor.{Cursor}
use Rattle.text_writer.specs.declared.Piece.{Piece}
use Rattle.text_writer.specs.declared.Copied.{Copied}
use Rattle.scalar.specs.Scalars.{weight, total, units, fitting, string_at}
use Rattle.scalar.specs.TextUnits.{weights}
use Rattle.scalar.proofs.TextUnits.{weights_append, weights_length, singles, single_low, units_append}
use Rattle.scalar.proofs.Greedy.{span_cut, span_most, span_fits}
use Rattle.scalar.specs.Decoded.{decoded}
use Rattle.scalar.proofs.Decoded.{run_decoded, plain_same, plain_drop, plain_run}
use Rattle.texts.specs.Ascii.{few_are, ascii_are}
use Rattle.texts.specs.Answers.{prefixed, ChunkSays, ChunkMet}
use Rattle.text_writer.specs.Writing.{content_of, IsDone, window, bytes_left, rest, Going, opening, Opens, singles_at}
use Rattle.text_writer.specs.Writing.{Passed, Stops, Goes, Halts, Copies, CopyMet}

-- nothing is stored
stored_none : (l : List ℕ) (to : ℕ) → stored l to [] ≡ l
stored_none l to = split (length l) (to + 0) (stored_out l to []) (stored_sets l to [])

no : {A : Type 0} → true ≡ false → A
no e = let z : ◌≡◌ {A = ℕ} 0 1 = cc in absurd (omega arith)

-- ---- windows: how long, what stands in them, and n bytes later
pub window_length : (m : List ℕ) (p n : ℕ) → p + n ≤ length m → length (window m p n) ≡ n
window_length m p n l = length-take-le n (drop p m) (omega (arith, length-drop p m))

pub window_at : (m : List ℕ) (p n i : ℕ) → i < n → get_or (window m p n) i 0 ≡ get_or m (p + i) 0
window_at m p n i l = get_or-take n (drop p m) i 0 l ∙ get_or-drop p m i 0

window_drop : (m : List ℕ) (p j n : ℕ) → p + j ≤ length m → n ≤ j → drop n (window m p j) ≡ window m (p + n) (j - n)
window_drop m p j n g l =
    let e : j ≡ n + (j - n) = omega arith in
    ap (λ (i : ℕ). drop n (window m p i)) e
    ∙ rw (take-add n (j - n) (drop p m), ← drop-drop n p m)
    (drop_at (window m p n) (take (j - n) (drop n (drop p m))) n (window_length m p n (omega arith)))

-- ---- the first chunk is opened
prefixed_content : (n : ℕ) (cs : List ℕ) (o : Answer (List ℕ)) → IsDone (prefixed n cs o)
    → IsDone o × (content_of (prefixed n cs o) ≡ cs ++ content_of o)
prefixed_content n cs (Done m ds es c) d = (tt, refl)
prefixed_content n cs (Fault x o) d = absurd d

-- by what reading it gives
module _ {k : Encoding} {m : List ℕ} {p : ℕ} (r : Result ChunkRead Refused) (t : ChunkMet k m p r) where
  pub chunk_there : (x : ChunkRead) → result_ok r ≡ Some x → ChunkSays k m p (Ok x)
  chunk_there x = go r t.says
    where
      go : (r : Result ChunkRead Refused) → ChunkSays k m p r → result_ok r ≡ Some x → ChunkSays k m p (Ok x)
      go (Ok y) s e = let f : y ≡ x = cc in subst (λ (z : ChunkRead). ChunkSays k m p (Ok z)) f s
      go (Err y) s e = cc

  pub chunk_none : result_ok r ≡ None → IsDone (string_at k m p) → ⊥
  chunk_none = go r t.says
    where
      go : (r : Result ChunkRead Refused) → ChunkSays k m p r → result_ok r ≡ None → IsDone (string_at k m p) → ⊥
      go (Ok y) s e d = cc
      go (Err y) s e d = subst IsDone s d

module _ (k : Encoding) (m : List ℕ) (p : ℕ) (c : ChunkRead) (s : ChunkSays k m p (Ok c)) where
  -- a chunk begins before the message ends, and ends in it
  pub chunk_inside : (p < p + c.head) × (p + c.head + c.size ≤ length m)
  chunk_inside = (omega (arith, s.1), omega (arith, s.2))

  chunk_going : (c.last ≡ false → IsDone (string_at k m (p + c.head + c.size))) → Going k m (opening p c)
  chunk_going o = record {
    inside = omega (arith, s.2);
    behind = o;
    units_are = sym s.4;
    plainly = λ t.
        let e = eqb→eq c.size c.bytes (rw t tt) in
        record { same = omega (arith, s.5, window_length m (p + c.head) c.size (omega (arith, s.2))) };
  }

  -- its content, and what follows it, is that of the string at p
  content_there : IsDone (string_at k m p)
      → Going k m (opening p c) × (rest k m (opening p c) ≡ content_of (string_at k m p))
  unfolding rest
  content_there d = go c.last refl
    where
      e : p + c.head + c.size ≡ p + (c.head + c.size)
      e = omega arith

      front : List ℕ
      front = decoded k (window m (p + c.head) c.size)

      go : (a : Bool) → c.last ≡ a
          → Going k m (opening p c) × (rest k m (opening p c) ≡ content_of (string_at k m p))
      go true f = (chunk_going (λ q. no (sym f ∙ q)), rw (s.0, f) (append-nil _))
      go false f =
          let q = prefixed_content (c.head + c.size) front (string_at k m (p + (c.head + c.size)))
          (subst IsDone (rw f at s.0) d) in
          (chunk_going (λ z. rw e q.0), rw (s.0, f, e) (sym q.1))

  pub opens_chunk : Opens k m p (opening p c)
  opens_chunk = record { opens = λ d. let o = content_there d in (o.0, o.1, chunk_inside.0) }

pub opens_none : (k : Encoding) (m : List ℕ) (p : ℕ) (x : Refused) (r : Cursor) → ChunkSays k m p (Err x)
    → Opens k m p r
opens_none k m p x r s = record { opens = λ d. absurd (subst IsDone s d) }

-- ---- the content from the cursor c on
abbrev pub moved : Cursor → Piece → Cursor
moved c r = record {
  here = c.here + r.size;
  left = c.left - r.size;
  units = c.units - r.units;
  last = c.last;
  plain = c.plain;
}

module _ (k : Encoding) (m : List ℕ) (c : Cursor) where
  rest_end : c.left ≡ 0 → c.last ≡ true → rest k m c ≡ []
  unfolding rest
  rest_end z f = rw (z, f) refl

  rest_open : c.left ≡ 0 → c.last ≡ false → rest k m c ≡ content_of (string_at k m c.here)
  unfolding rest
  rest_open z f = let e : c.here + c.left ≡ c.here = omega arith in rw (e, z, f) refl

  pub rest_stops : {cap : ℕ} {l l' : List ℕ} → Stops k (bytes_left m c) cap l l' → Halts k m c cap l l'
  unfolding rest
  rest_stops x = record {
    kept = x.kept;
    stops = x.stops (cond c.last [] (content_of (string_at k m (c.here + c.left))));
  }

  pub rest_ends : c.left ≡ 0 → c.last ≡ true → (cap : ℕ) (l : List ℕ) → Halts k m c cap l l
  rest_ends z f cap l = record { kept = refl; stops = rw (rest_end z f) refl }

  -- the next chunk
  module _ (z : c.left ≡ 0) (f : c.last ≡ false) (g : Going k m c) where
    at_end : c.here + c.left ≡ c.here
    at_end = omega arith

    pub next_done : IsDone (string_at k m c.here)
    next_done = rw at_end at (g.behind f)

    pub next_opens : (r : Cursor) → Opens k m c.here r → (cap : ℕ) (l : List ℕ) (to : ℕ)
        → (c.here < r.here) × Goes k m c cap l to (record { next = r; bytes = 0; units = 0 }) l
    next_opens r x cap l to =
        let o = x.opens next_done in (
          o.2,
          record {
            going = o.0;
            front = [];
            joins = rest_open z f ∙ sym o.1;
            bytes_are = refl;
            units_are = refl;
            fits = omega arith;
            holds = sym (stored_none l to);
          },
        )

-- ---- a piece is passed
module _
    {k : Encoding} {m : List ℕ} {c : Cursor} (g : Going k m c)
    {cap : ℕ} {l : List ℕ} {to : ℕ} {r : Piece} {l' : List ℕ} (x : Passed k (bytes_left m c) cap l to r l') where
  pub piece_inside : r.size ≤ c.left
  piece_inside = omega (arith, x.inside, window_length m c.here c.left g.inside)

  end : c.here + r.size + (c.left - r.size) ≡ c.here + c.left
  end = omega (arith, piece_inside)

  behind : drop r.size (bytes_left m c) ≡ bytes_left m (moved c r)
  behind = window_drop m c.here c.left r.size g.inside piece_inside

  both_units : c.units ≡ r.units + units k (decoded k (bytes_left m (moved c r)))
  both_units =
      g.units_are ∙ ap (units k) x.decodes ∙ units_append k x.front (decoded k (drop r.size (bytes_left m c)))
      ∙ rw behind (omega (arith, x.units_are))

  pub piece_units : r.units ≤ c.units
  piece_units = omega (arith, both_units)

  pub piece_rest : rest k m c ≡ x.front ++ rest k m (moved c r)
  unfolding rest
  piece_rest =
      rw (end, x.decodes, behind)
      (append_assoc x.front (decoded k (bytes_left m (moved c r)))
      (cond c.last [] (content_of (string_at k m (c.here + c.left)))))

  piece_going : Going k m (moved c r)
  piece_going = record {
    inside = omega (arith, g.inside, piece_inside);
    behind = λ f. rw end (g.behind f);
    units_are = omega (arith, both_units);
    plainly = λ f. record { same = rw behind at (plain_drop k r.size (bytes_left m c) (g.plainly f).same) };
  }

  pub piece_goes : Goes k m c cap l to (record { next = moved c r; bytes = r.bytes; units = r.units }) l'
  piece_goes = record {
    going = piece_going;
    front = x.front;
    joins = piece_rest;
    bytes_are = x.bytes_are;
    units_are = x.units_are;
    fits = x.fits;
    holds = x.holds;
  }

-- ---- from the cursor a on `front` is passed, and is in the list, where it fits. What fits cap units is that, and what
-- fits of the rest
pub record Copying
    (k : Encoding) (m : List ℕ) (a : Cursor) (cap : ℕ) (l : List ℕ) (to : ℕ)
    (c : Cursor) (bytes done : ℕ) (l' : List ℕ)
    : Type 0 where
  pub front : List ℕ
  pub going : Going k m c
  pub joins : front ++ rest k m c ≡ rest k m a
  pub bytes_are : length front ≡ bytes
  pub units_are : units k front ≡ done
  pub within : done ≤ cap
  pub spans : fitting cap (weights k (rest k m a)) ≡ bytes + fitting (cap - done) (weights k (rest k m c))
  pub same : length l' ≡ length l
  pub holds : to + bytes ≤ length l → l' ≡ stored l to front

pub copying_start : (k : Encoding) (m : List ℕ) (a : Cursor) (cap : ℕ) (l : List ℕ) (to : ℕ) → Going k m a
    → Copying k m a cap l to a 0 0 l
copying_start k m a cap l to g =
    let e : cap - 0 ≡ cap = omega arith in
    record {
      front = [];
      going = g;
      joins = refl;
      bytes_are = refl;
      units_are = refl;
      within = omega arith;
      spans = rw e (omega arith);
      same = refl;
      holds = λ h. sym (stored_none l to);
    }

module _
    {k : Encoding} {m : List ℕ} {a : Cursor} {cap : ℕ} {l : List ℕ} {to : ℕ} {c : Cursor} {bytes done : ℕ} {l' : List ℕ}
    (R : Copying k m a cap l to c bytes done l') where
  -- the place after what is passed is a number
  pub copying_below : to + fitting cap (weights k (rest k m a)) < 2 ^ 64 → to + bytes < 2 ^ 64
  copying_below h = omega (arith, R.spans)

  -- nothing more fits
  abbrev answer : Copied
  answer = record { next = c; bytes = bytes; units = done }

  pub copying_stop : (l'' : List ℕ) → Halts k m c (cap - done) l' l'' → CopyMet k m a cap l to answer l''
  copying_stop l'' x = rw x.kept (record {
    spans = record {
      bytes = omega (arith, R.spans, x.stops);
      units_are = rw (← R.joins, ← R.bytes_are, take-append_seam R.front (rest k m c)) (sym R.units_are);
    };
    copies = record {
      going = R.going;
      behind = rw (← R.joins, ← R.bytes_are) (sym (drop-append_seam R.front (rest k m c)));
      same = R.same;
      holds = λ h. rw (← R.joins, ← R.bytes_are, take-append_seam R.front (rest k m c)) (R.holds h);
    };
  })

  pub copying_end : c.left ≡ 0 → c.last ≡ true → CopyMet k m a cap l to answer l'
  copying_end z f = copying_stop l' (rest_ends k m c z f (cap - done) l')

  -- more is passed
  module _ (r : Copied) (l'' : List ℕ) (x : Goes k m c (cap - done) l' (to + bytes) r l'') where
    -- what fits is that, and what fits of the rest
    passed_spans : fitting (cap - done) (weights k (rest k m c))
        ≡ r.bytes + fitting (cap - done - r.units) (weights k (rest k m r.next))
    passed_spans =
        let ws = weights k x.front in
        let vs = weights k (rest k m r.next) in
        let d : length (weights k x.front) ≡ r.bytes = weights_length k x.front ∙ x.bytes_are in
        let j : total (take r.bytes (ws ++ vs)) ≡ r.units = ap total (take_at ws vs r.bytes d) ∙ x.units_are in
        let o = span_most (cap - done) r.bytes (ws ++ vs) (omega (arith, d, length-append ws vs))
        (omega (arith, j, x.fits)) in
        rw (x.joins, weights_append k x.front (rest k m r.next))
        (span_cut (cap - done) r.bytes (ws ++ vs) o ∙ rw (j, drop_at ws vs r.bytes d) refl)

    pub copying_on : Copying k m a cap l to r.next (bytes + r.bytes) (done + r.units) l''
    copying_on =
        let d : cap - done - r.units ≡ cap - (done + r.units) = omega arith in
        let f = length-append R.front x.front in
        let b = R.bytes_are in
        record {
          front = R.front ++ x.front;
          going = x.going;
          joins = append_assoc R.front x.front (rest k m r.next) ∙ rw x.joins at R.joins;
          bytes_are = omega (arith, x.bytes_are);
          units_are = omega (arith, R.units_are, x.units_are, units_append k R.front x.front);
          within = omega (arith, R.within, x.fits);
          spans = R.spans ∙ rw (passed_spans, d) (omega arith);
          same = ap length x.holds ∙ length_stored l' (to + bytes) x.front ∙ R.same;
          holds = λ h.
              let o = stored_seam l to R.front x.front (omega (arith, x.bytes_are)) in
              x.holds ∙ rw (R.holds (omega arith), ← R.bytes_are) o;
        }

  -- the next chunk
  module _ (r : Cursor) (z : c.left ≡ 0) (f : c.last ≡ false) (o : Opens k m c.here r) where
    pub copying_open : Copying k m a cap l to r bytes done l'
    copying_open =
        let x = next_opens k m c z f R.going r o (cap - done) l' (to + bytes) in
        rw (add-zero bytes, add-zero done) at (copying_on _ l' x.1)

    pub open_further : (c.here < r.here) × (r.here ≤ length m)
    open_further =
        let x = o.opens (next_done k m c z f R.going) in (x.2, omega (arith, x.0.inside))

  -- a piece
  pub copying_piece : (r : Piece) (l'' : List ℕ) → Passed k (bytes_left m c) (cap - done) l' (to + bytes) r l''
      → Copying k m a cap l to (moved c r) (bytes + r.bytes) (done + r.units) l''
  copying_piece r l'' x = copying_on _ l'' (piece_goes R.going x)

-- where cap is the content's units, all of it is copied
module _
    {k : Encoding} {m : List ℕ} {c : Cursor} {u : ℕ} {l : List ℕ} {to : ℕ} {r : Copied} {l' : List ℕ}
    (y : CopyMet k m c u l to r l') (e : u ≡ units k (rest k m c)) where
  pub all_bytes : r.bytes ≡ length (rest k m c)
  all_bytes =
      let ws = weights k (rest k m c) in
      let a = span_most u (length ws) ws (omega arith) (rw (take-length ws) (omega arith)) in
      omega (arith, y.spans.bytes, (span_fits u ws).0, weights_length k (rest k m c))

  pub all_stored : to + r.bytes ≤ length l → l' ≡ stored l to (rest k m c)
  all_stored h =
      y.copies.holds h ∙ ap (λ (n : ℕ). stored l to (take n (rest k m c))) all_bytes
      ∙ rw (take-length (rest k m c))

pub all_copied : {k : Encoding} {m : List ℕ} {c : Cursor} {u : ℕ} {l : List ℕ} {to : ℕ} {r : Copied} {l' : List ℕ}
    → CopyMet k m c u l to r l' → u ≡ units k (rest k m c) → (n : ℕ) → n ≡ length (rest k m c)
    → Copies k m c n l to l' r.next
all_copied y e n d = rw (all_bytes y e ∙ sym d) at y.copies

-- ---- the rest of a chunk whose bytes stand in the content as they are
abbrev pub left_of : Cursor → Piece
left_of c = record { size = c.left; bytes = c.left; units = c.units }

module _ {k : Encoding} {m : List ℕ} {c : Cursor} (g : Going k m c) (p : c.plain ≡ true) where
  pub piece_plain : (cap : ℕ) → c.units ≤ cap → (l : List ℕ) (to : ℕ) (l' : List ℕ) → l' ≡ stored l to (bytes_left m c)
      → Passed k (bytes_left m c) cap l to (left_of c) l'
  piece_plain cap h l to l' d =
      let n = window_length m c.here c.left g.inside in
      let e = plain_same k (bytes_left m c) (g.plainly p).same in
      let o : length (bytes_left m c) ≤ c.left = omega arith in
      record {
        front = bytes_left m c;
        decodes = e ∙ rw (drop_of_length-le (bytes_left m c) o) (sym (append-nil (bytes_left m c)));
        bytes_are = n;
        units_are = sym (g.units_are ∙ ap (units k) e);
        fits = h;
        inside = omega arith;
        holds = d;
      }

  -- of the last chunk: the rest of the content, of n bytes
  module _ (f : c.last ≡ true) (n : ℕ) (e : n ≡ length (rest k m c)) where
    left_none : (moved c (left_of c)).left ≡ 0
    left_none = omega arith

    plain_left : n ≡ c.left
    unfolding piece_plain
    plain_left =
        let x = piece_plain c.units (omega arith) [] 0 (stored [] 0 (bytes_left m c)) refl in
        let z = rest_end k m (moved c (left_of c)) left_none f in
        let a : rest k m c ≡ bytes_left m c ++ [] = rw z at (piece_rest g x) in
        omega (arith, ap length a, x.bytes_are, length-append (bytes_left m c) [])

    pub plain_inside : c.here + n ≤ length m
    plain_inside = omega (arith, plain_left, g.inside)

    pub copies_plain : (l : List ℕ) (to : ℕ) (l' : List ℕ) → l' ≡ stored l to (window m c.here n)
        → Copies k m c n l to l' (moved c (left_of c))
    copies_plain l to l' d =
        let z : to + 0 ≡ to = omega arith in
        let b : 0 + c.left ≡ n = omega (arith, plain_left) in
        let x = piece_plain (c.units - 0) (omega arith) l (to + 0) l' (rw (z, ← plain_left) d) in
        let R = copying_piece (copying_start k m c c.units l to g) (left_of c) l' x in
        rw b at (copying_end R left_none f).copies

-- ---- bytes that weigh one each
pub singles_few : (k : Encoding) (m : List ℕ) (p most n : ℕ) → n ≡ singles_at k m p most → n ≤ most
unfolding singles_at
singles_few Utf8 m p most n e = few_are m p most e
singles_few Binary m p most n e = omega arith

singles_units : (k : Encoding) (m : List ℕ) (p most n : ℕ) → p + n ≤ length m → n ≡ singles_at k m p most
    → units k (window m p n) ≡ n
unfolding singles_at
singles_units k m p most n l e = singles k (window m p n) (single k e) ∙ window_length m p n l
  where
    single : (k : Encoding) → n ≡ singles_at k m p most → (i : ℕ) → i < length (window m p n)
        → weight k (get_or (window m p n) i 0) ≡ 1
    single Utf8 e i j =
        let g : i < n = omega (arith, length-take n (drop p m)) in
        rw (window_at m p n i g) (single_low (get_or m (p + i) 0) ((ascii_are m p most e).below i g))
    single Binary e i j = refl

bytes_same : (w : List ℕ) → length (decoded Binary w) ≡ length w
bytes_same [] = refl
bytes_same (b ∷ w) = omega (arith, bytes_same w)

singles_decoded : (k : Encoding) (m : List ℕ) (p left most n : ℕ) → n ≤ left → n ≡ singles_at k m p most
    → decoded k (window m p left) ≡ window m p n ++ decoded k (drop n (window m p left))
unfolding singles_at
singles_decoded Binary m p left most n h e =
    rw (← take-take n left (drop p m) h) (plain_run Binary (window m p left) n (bytes_same (window m p left)))
singles_decoded Utf8 m p left most n h e =
    let w = window m p left in
    rw (← take-take n left (drop p m) h)
    (ap (decoded Utf8) (sym (take-append-drop n w)) ∙ run_decoded Utf8 (take n w) (drop n w) other)
  where
    other : (i : ℕ) → i < length (take n (window m p left)) → get_or (take n (window m p left)) i 0 ≡ 0xed → ⊥
    other i j x =
        let g : i < n = omega (arith, length-take n (window m p left)) in
        let y = rw (get_or-take n (window m p left) i 0 g, window_at m p left i (omega arith)) at x in
        omega (arith, (ascii_are m p most e).below i g)

module _
    {k : Encoding} {m : List ℕ} {c : Cursor} (g : Going k m c)
    {most n : ℕ} (cap : ℕ) (e : n ≡ singles_at k m c.here most) (d : most ≡ min c.left cap) where
  pub singles_inside : c.here + n ≤ length m
  singles_inside = omega (arith, g.inside, singles_few k m c.here most n e)

  pub piece_singles : (l : List ℕ) (to : ℕ) (l' : List ℕ) → l' ≡ stored l to (window m c.here n)
      → Passed k (bytes_left m c) cap l to (record { size = n; bytes = n; units = n }) l'
  piece_singles l to l' h =
      let f = singles_few k m c.here most n e in
      let i = singles_inside in
      record {
        front = window m c.here n;
        decodes = singles_decoded k m c.here c.left most n (omega arith) e;
        bytes_are = window_length m c.here n i;
        units_are = singles_units k m c.here most n i e;
        fits = omega arith;
        inside = omega (arith, window_length m c.here c.left g.inside);
        holds = h;
      }

-- The shortest form of a text or byte string, chunk by chunk: what is stored so far, and the form of the rest.
use Rattle.std.specs.Prelude.{◌≡◌, refl, true, take, drop}
use Rattle.std.proofs.Math.Path.{sym, ap}
use Rattle.std.proofs.Common.{◌∙◌, arith, length-drop, take-append-drop, length-take-le, Fits, lt-ltb, le-ltb}
use mathlib.Core.List.{List, [], ◌∷◌, ◌++◌, append_assoc, append-nil}
use Prim.Native.Nat.{ℕ, zero, suc, ◌+◌, ◌-◌, ◌^◌, ◌≤◌, ◌<◌}
use Rattle.std.proofs.Math.ListN.{length, length-append}
use Rattle.std.proofs.Math.Seq.{take-length}
use Rattle.std.specs.Int.{w64}
use Rattle.flow.specs.Flow.{stored}
use Rattle.flow.specs.OverlayLaws.{stored_sets, stored_seam, length_stored}
use Rattle.scalar.specs.declared.Encoding.{Encoding}
use Rattle.text_writer.specs.declared.Cursor.{Cursor}
use Rattle.text_writer.specs.declared.Copied.{Copied}
use Rattle.text_writer.specs.declared.Item.{Item}
use Rattle.scalar.specs.Scalars.{part_head, last_heads, units, fitting, shortest_head, spelled}
use Rattle.scalar.specs.TextUnits.{weights}
use Rattle.scalar.proofs.TextUnits.{weights_length, units_append}
use Rattle.scalar.proofs.TextShort.{longest_is, front_fits, rest_shorter}
use Rattle.scalar.proofs.Greedy.{span_fits}
use Rattle.text_writer.specs.Cursor.{moved, left_of, all_bytes, all_copied, plain_inside, copies_plain}
use Rattle.text_writer.specs.Writing.{rest, Going, Spans, Copyable, Copies, CopyMet, laid, IsItem, Lays}

-- ---- the form of a content: of one that is longer than a chunk, and of another
module _ (k : Encoding) (cs : List ℕ) where
  pub spelled_long : 65535 < units k cs → (f : ℕ) → length cs < f → (n : ℕ) → n ≡ fitting 65535 (weights k cs)
      → (g : ℕ) × (f ≡ suc g)
      × (spelled k f cs
      ≡ shortest_head (part_head k ∷ []) (units k (take n cs)) ++ (take n cs ++ spelled k g (drop n cs)))
      × (length (drop n cs) < length cs) × (units k (take n cs) ≤ 65535)
  spelled_long h zero l n e = absurd (omega arith)
  spelled_long h (suc g) l n e = (
    g,
    refl,
    rw (e, longest_is, lt-ltb 65535 (units k cs) h) refl,
    rw e (rw longest_is at (rest_shorter k cs h (length cs) (omega arith))),
    rw e (rw longest_is at (front_fits k cs h)),
  )

  pub spelled_last : units k cs ≤ 65535 → (f : ℕ) → length cs < f
      → spelled k f cs ≡ shortest_head (last_heads k) (units k cs) ++ cs
  spelled_last h zero l = absurd (omega arith)
  spelled_last h (suc f) l = rw (longest_is, le-ltb 65535 (units k cs) h) refl

-- ---- from `to` on: `front` is stored, and with the form of the rest after it is the form of the content from the
-- cursor a on. The rest has u units
pub record Laying
    (k : Encoding) (m : List ℕ) (a : Cursor) (l : List ℕ) (to : ℕ)
    (c : Cursor) (u place : ℕ) (l' : List ℕ)
    : Type 0 where
  pub going : Going k m c
  pub units_are : u ≡ units k (rest k m c)
  pub fuel : ℕ
  pub enough : length (rest k m c) < fuel
  pub front : List ℕ
  pub joins : front ++ spelled k fuel (rest k m c) ≡ laid k m a
  pub placed : place ≡ to + length front
  pub same : length l' ≡ length l
  pub holds : to + length (laid k m a) ≤ length l → l' ≡ stored l to front

module _ (k : Encoding) (m : List ℕ) (x : Item) (i : IsItem k m x) where
  pub laying_start : (to : ℕ) (l : List ℕ) → Laying k m x.first l to x.first x.units to l
  unfolding laid
  laying_start to l = record {
    going = i.going;
    units_are = i.units_are;
    fuel = suc (length (rest k m x.first));
    enough = omega arith;
    front = [];
    joins = refl;
    placed = omega arith;
    same = refl;
    holds = λ h. sym (stored_sets l to [] (omega arith));
  }

  -- a form of one chunk: its head, of j bytes, and the content
  pub laid_one : x.units ≤ 65535 → (j : ℕ) → j ≡ length (shortest_head (last_heads k) x.units)
      → j + x.bytes ≡ length (laid k m x.first)
  unfolding laid
  laid_one h j e =
      let cs = rest k m x.first in
      let s = spelled_last k cs (omega (arith, i.units_are)) (suc (length cs)) (omega arith) in
      let a = length-append (shortest_head (last_heads k) (units k cs)) cs in
      omega (arith, ap length s, i.bytes_are, e ∙ ap (λ (n : ℕ). length (shortest_head (last_heads k) n)) i.units_are)

  pub laid_fits : x.units ≤ 65535 → (j : ℕ) → j ≡ length (shortest_head (last_heads k) x.units)
      → length (laid k m x.first) < 2 ^ 64 → Fits w64 (j + x.bytes)
  laid_fits h j e f = record { fits = omega (arith, laid_one h j e) }

-- a head and a content stored after what is stored
stored_both : (l : List ℕ) (to : ℕ) (front h s tail l₁ l₂ : List ℕ)
    → to + length (front ++ (h ++ (s ++ tail))) ≤ length l → l₁ ≡ stored (stored l to front) (to + length front) h
    → l₂ ≡ stored l₁ (to + length front + length h) s → l₂ ≡ stored l to (front ++ (h ++ s))
stored_both l to front h s tail l₁ l₂ r e d =
    let a = length-append front (h ++ (s ++ tail)) in
    let b = length-append h (s ++ tail) in
    let x = length-append s tail in
    let y = length-append h s in
    let z = stored_seam (stored l to front) (to + length front) h s (rw length_stored (omega arith)) in
    d ∙ rw e (z ∙ stored_seam l to front (h ++ s) (omega (arith, length-append front (h ++ s))))

module _
    {k : Encoding} {m : List ℕ} {a : Cursor} {l : List ℕ} {to : ℕ} {c : Cursor} {u place : ℕ} {l' : List ℕ}
    (R : Laying k m a l to c u place l') where
  span_few : (cap : ℕ) → fitting cap (weights k (rest k m c)) ≤ length (rest k m c)
  span_few cap = omega (arith, (span_fits cap (weights k (rest k m c))).0, weights_length k (rest k m c))

  -- ---- a head of i bytes, and a content of j
  module _
      (head chunk tail : List ℕ) (whole : R.front ++ (head ++ (chunk ++ tail)) ≡ laid k m a)
      (i j : ℕ) (d : i ≡ length head) (e : j ≡ length chunk) where
    room : place + i + j + length tail ≡ to + length (laid k m a)
    room =
        let b = length-append R.front (head ++ (chunk ++ tail)) in
        let c = length-append head (chunk ++ tail) in
        omega (arith, R.placed, ap length whole, length-append chunk tail)

    both : (l₁ l₂ : List ℕ) → l₁ ≡ stored l' place head
        → (place + i + j ≤ length l₁ → l₂ ≡ stored l₁ (place + i) chunk)
        → to + length (laid k m a) ≤ length l → l₂ ≡ stored l to (R.front ++ (head ++ chunk))
    both l₁ l₂ b q t =
        let z : place + i ≡ to + length R.front + length head = omega (arith, R.placed) in
        stored_both l to R.front head chunk tail l₁ l₂ (rw whole t) (rw (R.holds t, R.placed) at b)
        (rw z at (q (omega (arith, room, ap length b, length_stored l' place head, R.same))))

  -- ---- a chunk that is not the last: s is what is copied of it
  module _ (h : 65535 < u) (s : Copied) (x : Spans k (rest k m c) 65535 s) where
    abbrev chunk : List ℕ
    chunk = take s.bytes (rest k m c)

    abbrev behind : List ℕ
    behind = drop s.bytes (rest k m c)

    abbrev head : List ℕ
    head = shortest_head (part_head k ∷ []) s.units

    long : (g : ℕ) × (R.fuel ≡ suc g) × (spelled k R.fuel (rest k m c) ≡ head ++ (chunk ++ spelled k g behind))
        × (length behind < length (rest k m c)) × (s.units ≤ 65535)
    long =
        let z : 65535 < units k (rest k m c) = omega (arith, R.units_are) in
        rw x.units_are (spelled_long k (rest k m c) z R.fuel R.enough s.bytes x.bytes)

    pub part_few : s.units < 65536
    part_few = omega (arith, long.4)

    pub part_inside : s.bytes ≤ length (rest k m c)
    part_inside = omega (arith, x.bytes, span_few 65535)

    pub part_within : {n : ℕ} → n ≡ length (rest k m c) → s.bytes ≤ n
    part_within e = omega (arith, part_inside)

    pub part_shrinks : {n : ℕ} → n ≡ length (rest k m c) → n - s.bytes < n
    part_shrinks e = omega (arith, part_inside, long.3, length-drop s.bytes (rest k m c))

    chunk_length : s.bytes ≡ length chunk
    chunk_length = sym (length-take-le s.bytes (rest k m c) part_inside)

    chunk_units : s.units + units k behind ≡ u
    chunk_units =
        let e = ap (units k) (take-append-drop s.bytes (rest k m c)) in
        omega (arith, x.units_are, units_append k chunk behind, e, R.units_are)

    pub part_less : s.units ≤ u
    part_less = omega (arith, chunk_units)

    whole : R.front ++ (head ++ (chunk ++ spelled k long.0 behind)) ≡ laid k m a
    whole = ap (λ (v : List ℕ). R.front ++ v) (sym long.2) ∙ R.joins

    -- q: a cursor after it
    pub rest_falls : (q : Cursor) → rest k m q ≡ behind → length (rest k m q) < length (rest k m c)
    rest_falls q o = rw o long.3

    module _ (j : 3 ≡ length head) where
      module _ (few : to + length (laid k m a) < 2 ^ 64) where
        pub part_below : place + 3 + s.bytes < 2 ^ 64
        part_below = omega (arith, room head chunk _ whole 3 s.bytes j chunk_length)

        pub part_room : Copyable k m c 65535 (place + 3)
        part_room = record { going = R.going; below = omega (arith, part_below, x.bytes) }

        pub part_start : Fits w64 (place + 3)
        part_start = record { fits = omega (arith, part_below) }

        pub part_end : Fits w64 (place + 3 + s.bytes)
        part_end = record { fits = part_below }

      module _
          (l₁ : List ℕ) (e : l₁ ≡ stored l' place head)
          (l₂ : List ℕ) (r : Copied) (z : CopyMet k m c 65535 l₁ (place + 3) r l₂) where
        copied : Copies k m c s.bytes l₁ (place + 3) l₂ r.next
        copied = rw (z.spans.bytes, ← x.bytes) at z.copies

        -- q: a cursor after it
        pub laying_on : {q : Cursor} → Going k m q → rest k m q ≡ behind
            → Laying k m a l to q (u - s.units) (place + 3 + s.bytes) l₂
        laying_on g o =
            let b = length-append R.front (head ++ chunk) in
            let v = append_assoc R.front (head ++ chunk) (spelled k long.0 behind) in
            record {
              going = g;
              units_are = rw o (omega (arith, chunk_units));
              fuel = long.0;
              enough = rw o (omega (arith, R.enough, long.1, long.3));
              front = R.front ++ (head ++ chunk);
              joins = rw o (v ∙ ap (λ (v : List ℕ). R.front ++ v) (append_assoc head chunk _) ∙ whole);
              placed = omega (arith, R.placed, j, chunk_length, length-append head chunk);
              same = copied.same ∙ ap length e ∙ length_stored l' place head ∙ R.same;
              holds = both head chunk _ whole 3 s.bytes j chunk_length l₁ l₂ e copied.holds;
            }

      pub laying_part : (l₁ : List ℕ) → l₁ ≡ stored l' place head → (l₂ : List ℕ) (r : Copied)
          → CopyMet k m c 65535 l₁ (place + 3) r l₂
          → Laying k m a l to r.next (u - s.units) (place + 3 + s.bytes) l₂
      laying_part l₁ e l₂ r z = let y = copied l₁ e l₂ r z in laying_on l₁ e l₂ r z y.going y.behind

  -- how much it takes is found before it is stored
  pub part_first : 65535 < u → to + length (laid k m a) < 2 ^ 64 → Copyable k m c 65535 0
  part_first h few =
      let b = fitting 65535 (weights k (rest k m c)) in
      let s : Copied = record { next = c; bytes = b; units = units k (take b (rest k m c)) } in
      let x : Spans k (rest k m c) 65535 s = record { bytes = refl; units_are = refl } in
      let z = room (head h s x) (chunk h s x) _ (whole h s x) (length (head h s x)) b refl (chunk_length h s x) in
      record { going = R.going; below = omega (arith, z) }

  -- ---- the last chunk: all that is left
  module _ (h : u ≤ 65535) (i : ℕ) (j : i ≡ length (shortest_head (last_heads k) u)) where
    ends : R.front ++ (shortest_head (last_heads k) u ++ (rest k m c ++ [])) ≡ laid k m a
    ends =
        let z = spelled_last k (rest k m c) (omega (arith, R.units_are)) R.fuel R.enough in
        ap (λ (v : List ℕ). R.front ++ v) (rw (append-nil (rest k m c), R.units_are) (sym z)) ∙ R.joins

    last_ends : place + i + length (rest k m c) ≡ to + length (laid k m a)
    last_ends = omega (arith, room (shortest_head (last_heads k) u) (rest k m c) [] ends i _ j refl)

    -- n: how many bytes are left
    module _ {n : ℕ} (d : n ≡ length (rest k m c)) where
      pub last_behind : to ≤ place + i + n
      last_behind = omega (arith, last_ends)

      module _ (few : to + length (laid k m a) < 2 ^ 64) where
        pub last_below : place + i + n < 2 ^ 64
        last_below = omega (arith, last_ends)

        pub last_end : Fits w64 (place + i + n)
        last_end = record { fits = last_below }

      pub laying_last : (l₁ : List ℕ) → l₁ ≡ stored l' place (shortest_head (last_heads k) u)
          → (l₂ : List ℕ) (r : Cursor) → Copies k m c n l₁ (place + i) l₂ r → Lays k m a l to l₂ (place + i + n - to)
      laying_last l₁ e l₂ r y = record {
        long = omega (arith, last_ends);
        holds = λ t.
            both (shortest_head (last_heads k) u) (rest k m c) [] ends i n j d l₁ l₂ e
            (λ q. rw all at (y.holds q)) (omega (arith, last_ends))
            ∙ ap (stored l to) (rw (append-nil (rest k m c)) at ends);
      }
        where
          all : take n (rest k m c) ≡ rest k m c
          all = ap (λ (z : ℕ). take z (rest k m c)) d ∙ take-length (rest k m c)

    module _ (few : to + length (laid k m a) < 2 ^ 64) where
      pub last_room : Copyable k m c u (place + i)
      last_room = record { going = R.going; below = omega (arith, last_ends, span_few u) }

      pub last_start : Fits w64 (place + i)
      last_start = record { fits = omega (arith, last_ends) }

    -- all that fits is copied
    module _ (l₁ : List ℕ) (r : Copied) (l₂ : List ℕ) (y : CopyMet k m c u l₁ (place + i) r l₂) where
      copied_all : r.bytes ≡ length (rest k m c)
      copied_all = all_bytes y R.units_are

      pub last_copied : place + i + r.bytes ≡ to + length (laid k m a)
      last_copied = omega (arith, last_ends, copied_all)

      pub laying_copied : l₁ ≡ stored l' place (shortest_head (last_heads k) u)
          → Lays k m a l to l₂ (place + i + r.bytes - to)
      laying_copied e = laying_last copied_all l₁ e l₂ r.next y.copies

-- ---- a form of one chunk: a head of i bytes, and the content
module _
    {k : Encoding} {m : List ℕ} {x : Item} (t : IsItem k m x) (h : x.units ≤ 65535)
    (i : ℕ) (j : i ≡ length (shortest_head (last_heads k) x.units)) (to : ℕ) where
  module _ (few : to + length (laid k m x.first) < 2 ^ 64) where
    pub one_start : Fits w64 (to + i)
    one_start = last_start (laying_start k m x t to []) h i j few

    pub one_room : Copyable k m x.first x.units (to + i)
    one_room = last_room (laying_start k m x t to []) h i j few

    pub one_fits : Fits w64 (i + x.bytes)
    one_fits = record { fits = omega (arith, last_below (laying_start k m x t to []) h i j t.bytes_are few) }

  copied_one : (l l₁ : List ℕ) → l₁ ≡ stored l to (shortest_head (last_heads k) x.units) → (l₂ : List ℕ) (r : Cursor)
      → Copies k m x.first x.bytes l₁ (to + i) l₂ r → Lays k m x.first l to l₂ (i + x.bytes)
  copied_one l l₁ e l₂ r y =
      let z : to + i + x.bytes - to ≡ i + x.bytes = omega arith in
      rw z at (laying_last (laying_start k m x t to l) h i j t.bytes_are l₁ e l₂ r y)

  pub laying_one : (l l₁ : List ℕ) → l₁ ≡ stored l to (shortest_head (last_heads k) x.units)
      → (l₂ : List ℕ) (r : Copied) → CopyMet k m x.first x.units l₁ (to + i) r l₂
      → Lays k m x.first l to l₂ (i + x.bytes)
  laying_one l l₁ e l₂ r y = copied_one l l₁ e l₂ r.next (all_copied y t.units_are x.bytes t.bytes_are)

  -- whose bytes stand in the content as they are
  module _ (f : x.first.last ≡ true) (q : x.first.plain ≡ true) where
    pub plain_room : x.first.here + x.bytes ≤ length m
    plain_room = plain_inside t.going q f x.bytes t.bytes_are

    pub laying_plain : (l l₁ : List ℕ) → l₁ ≡ stored l to (shortest_head (last_heads k) x.units) → (l₂ : List ℕ)
        → l₂ ≡ stored l₁ (to + i) (take x.bytes (drop x.first.here m)) → Lays k m x.first l to l₂ (i + x.bytes)
    laying_plain l l₁ e l₂ d =
        copied_one l l₁ e l₂ (moved x.first (left_of x.first))
        (copies_plain t.going q f x.bytes t.bytes_are l₁ (to + i) l₂ d)

-- What the contracts on texts and byte strings ask at each way out of the code.
use Rattle.std.proofs.Common.{◌≡◌, ℕ, suc, ◌+◌, ◌-◌, ◌*◌, ◌%◌, ◌^◌, ◌<◌, ◌≤◌, Bool, true, false, T, List, [], ◌∷◌, ◌++◌, map, length, get_or, take, drop, sym, refl, ap, ◌∙◌, subst, append_assoc, arith, length-append, length-drop, take-append-drop, length-take-le, w8, w64, Fits, le-leb}
use lib.ListN.{get_or-eq_default}
use Rattle.std.specs.Prelude.{Some, None, Result, Ok, Err}
use Rattle.std.specs.declared.option.Option as code
use Rattle.std.specs.Result.{IsErrAnd, result_unwrap_or}
use Rattle.std.proofs.lemmas.Result.{err_from_is_err_and}
use Rattle.flow.specs.Flow.{pick, Entry, One, Done, Fault}
use Rattle.flow.specs.Steps.{Answer, renamed}
use borrow.Author.Tests.{lt-leb}
use Rattle.flow.specs.Tests.{split, pick_true, pick_false, bytes_drop, bytes_take, bytes_all}
use Rattle.wire.specs.BigEndian.{joined, wider}
use Rattle.wire.specs.Laws.{joined_below}
use Rattle.scalar.specs.declared.Begun.{Begun}
use Rattle.scalar.specs.declared.refusals.Refusal.{Refusal}
use Rattle.scalar.specs.declared.refusals.Refusal.TheVariants.{Cut, Byte, Utf8 as IllFormed}
use Rattle.scalar.specs.declared.refusals.Refused.{Refused}
use Rattle.scalar.specs.Refusals.{fault}
use Rattle.scalar.specs.declared.Encoding.{Encoding}
use Rattle.scalar.specs.declared.Encoding.TheVariants.{Utf8, Binary}
use Rattle.scalar.specs.declared.CharLead.{CharLead}
use Rattle.scalar.specs.declared.CharLead.TheVariants.{Basic, Supplementary, Halved, NoChar}
use Rattle.texts.specs.declared.Extent.{Extent}
use Rattle.texts.specs.declared.CharRead.{CharRead}
use Rattle.texts.specs.declared.HeadForm.{HeadForm}
use Rattle.texts.specs.declared.HeadRead.{HeadRead}
use Rattle.texts.specs.declared.StringPassed.{StringPassed}
use Rattle.texts.specs.declared.ChunkRead.{ChunkRead}
use Rattle.texts.specs.declared.Parts as code_parts
use Rattle.scalar.specs.Scalars.{Form, form_at, inside, last_heads, char_lead, units, continued, characters}
use Rattle.scalar.specs.Scalars.{body, string_at, shortest_head, shortest_string}
use Rattle.scalar.proofs.Rows.{Row, row, chosen, nth, apart, Outside, chosen_at, chosen_none}
use Rattle.scalar.proofs.CharLeads.{lead_rows, lead_rows_law}
use Rattle.scalar.proofs.FormLaws.{part_form, last_forms, part_head_law, last_heads_law, form_none, form_either}
use Rattle.scalar.proofs.TextAt.{string_ends}
use Rattle.scalar.proofs.AnswerLaws.{length_some, measured_as, measured_done, measured_fault}
use Rattle.scalar.specs.TextUnits.{weights}
use Rattle.scalar.proofs.TextUnits.{weights_chars, weights_append, units_append, content_units, singles}
use Rattle.scalar.specs.Decoded.{decoded}
use Rattle.scalar.specs.StringLengths.{Parts, parts, parts_after}
use Rattle.scalar.proofs.StringLengths.{parts_within, parts_few, cuts_few, parts_on}
use Rattle.scalar.proofs.StringLengths.{parts_split, content_first, form_length, shortest_length_law}
use Rattle.scalar.proofs.TextTheorems.{text_no_shorter, text_within}
use Rattle.scalar.specs.Answers.{Sizes, sized, sizes, measured_at, length_of}
use Rattle.texts.specs.Answers.{extent_at, told_extent, shifted, text_at, Passes, CharSays, CharMet}
use Rattle.texts.specs.Answers.{Passing, Over, WithinSays, WithinMet, PartsMet, starts, last_form}
use Rattle.texts.specs.Answers.{head_form, prefixed, chunked, head_read, head_by, head_at, told_head, HeadSays, HeadMet}
use Rattle.texts.specs.Answers.{chunk_read, with_content, chunk_by, chunk_at, told_chunk, content_of, ChunkSays}
use Rattle.texts.specs.Answers.{ChunkMet, Joining, Parting, Cutting, HeadsMet}
use Rattle.texts.specs.Answers.{StringIs, PassedSays, PassedMet, StringHas, shortest_of, PassedLength}
use Rattle.texts.specs.At.{Opens, basic, below_half, supplementary, opens_units, Halves, HighHalf}
use Rattle.texts.specs.At.{continued_size, characters_none, characters_ends, characters_other, characters_half}
use Rattle.texts.specs.At.{characters_low, characters_alone, characters_fault, characters_next}
use Rattle.texts.specs.At.{Good, Bad, pair_there, pair_bad, pair_bad_2, pair_bad_3, pair_bad_4, pair_good}
use Rattle.texts.specs.At.{pair_one_more, pair_two_more, pair_three_more, pair_fault, pair_next}
use Rattle.texts.specs.At.{octets_done, octets_fault, body_there, body_holds, body_quiet, body_fault}
use Rattle.texts.specs.At.{head_small, string_none, string_cut, string_there}

-- ---- a loop over what is read: what is left reads as the whole does, but for the bytes so far
pub record Along (whole rest : Answer ℕ) (m : List ℕ) (at here bytes : ℕ) : Type 0 where
  pub says : shifted (here - at) bytes rest ≡ whole
  pub onward : at + bytes ≤ here
  pub inside : here ≤ length m

shifted_none : (r : Answer ℕ) → shifted 0 0 r ≡ r
shifted_none (Done n a es c) = let e : 0 + n ≡ n = omega arith in let d : 0 + a ≡ a = omega arith in rw (e, d) refl
shifted_none (Fault x o) = refl

shifted_twice : (i b j d : ℕ) (r : Answer ℕ) → shifted i b (shifted j d r) ≡ shifted (i + j) (b + d) r
shifted_twice i b j d (Done n a es c) =
    let e : i + (j + n) ≡ i + j + n = omega arith in
    let f : b + (d + a) ≡ b + d + a = omega arith in
    rw (e, f) refl
shifted_twice i b j d (Fault x o) = refl

pub along_start : (whole : Answer ℕ) (m : List ℕ) (at : ℕ) → at ≤ length m → Along whole whole m at at 0
along_start whole m at l =
    let e : at - at ≡ 0 = omega arith in record { says = rw e (shifted_none whole); onward = omega arith; inside = l }

module _ {whole rest : Answer ℕ} {m : List ℕ} {at here bytes : ℕ} (R : Along whole rest m at here bytes) where
  pub along_end : rest ≡ Done 0 0 [] tt → Done (here - at) bytes [] tt ≡ whole
  along_end e =
      let d : here - at + 0 ≡ here - at = omega arith in
      let f : bytes + 0 ≡ bytes = omega arith in
      rw (e, d, f) at R.says

  pub along_fault : (x o : ℕ) → rest ≡ Fault x o → Fault x o ≡ whole
  along_fault x o e = rw e at R.says

  pub along_more : (j b : ℕ) (left : Answer ℕ) → rest ≡ shifted j b left → b ≤ j → here + j ≤ length m
      → Along whole left m at (here + j) (bytes + b)
  along_more j b left e k l =
      let d : here + j - at ≡ here - at + j = omega (arith, R.onward) in
      record {
        says = rw d
            (sym (shifted_twice (here - at) bytes j b left) ∙ ap (shifted (here - at) bytes) (sym e)
            ∙ R.says);
        onward = omega
            (arith, R.onward);
        inside = l;
      }

-- where the content is the bytes: k of them so far
pub bytes_start : (whole : Answer ℕ) (m : List ℕ) (at : ℕ) → at ≤ length m → Along whole whole m at (at + 0) 0
bytes_start whole m at l = let e : at + 0 ≡ at = omega arith in rw e (along_start whole m at l)

module _ {whole rest : Answer ℕ} {m : List ℕ} {at k : ℕ} (R : Along whole rest m at (at + k) k) where
  pub bytes_end : rest ≡ Done 0 0 [] tt → Done k k [] tt ≡ whole
  bytes_end e = let d : at + k - at ≡ k = omega arith in rw d at (along_end R e)

  pub bytes_more : (left : Answer ℕ) → rest ≡ shifted 1 1 left → at + k + 1 ≤ length m
      → Along whole left m at (at + (k + 1)) (k + 1)
  bytes_more left e l = let d : at + k + 1 ≡ at + (k + 1) = omega arith in rw d at (along_more R 1 1 left e (omega arith) l)

-- ---- a loop over contents: what is left reads as the whole does, but for the content so far
prefixed_none : (r : Answer (List ℕ)) → prefixed 0 [] r ≡ r
prefixed_none (Done n cs es c) = let e : 0 + n ≡ n = omega arith in rw e refl
prefixed_none (Fault x o) = refl

prefixed_twice : (i j : ℕ) (bs cs : List ℕ) (r : Answer (List ℕ))
    → prefixed i bs (prefixed j cs r) ≡ prefixed (i + j) (bs ++ cs) r
prefixed_twice i j bs cs (Done n ds es c) =
    let e : i + (j + n) ≡ i + j + n = omega arith in rw (e, append_assoc bs cs ds) refl
prefixed_twice i j bs cs (Fault x o) = refl

prefixed_extent : (i : ℕ) (cs : List ℕ) (r : Answer (List ℕ))
    → renamed length (prefixed i cs r) ≡ shifted i (length cs) (renamed length r)
prefixed_extent i cs (Done n ds es c) = rw (length-append cs ds) refl
prefixed_extent i cs (Fault x o) = refl

pub passing_start : (n : ℕ) (m : List ℕ) (at : ℕ) → at ≤ length m → Passing n m at at n 0
passing_start n m at l =
    let e : at - at ≡ 0 = omega arith in
    record {
      front = [];
      says = rw e (prefixed_none (text_at n m at));
      units_are = omega arith;
      bytes_are = refl;
      onward = omega arith;
      inside = l;
    }

module _ {n : ℕ} {m : List ℕ} {at here left bytes : ℕ} (R : Passing n m at here left bytes) where
  passing_along : Along (extent_at (characters n) m at) (extent_at (characters left) m here) m at here bytes
  passing_along = record {
    says =
        ap (λ (b : ℕ). shifted (here - at) b (extent_at (characters left) m here)) (sym R.bytes_are)
        ∙ sym (prefixed_extent (here - at) R.front (text_at left m here))
        ∙ ap (renamed length) R.says;
    onward = R.onward;
    inside = R.inside;
  }

  pub passing_end : left ≤ 0 → Done (here - at) bytes [] tt ≡ extent_at (characters n) m at
  passing_end z = along_end passing_along (characters_none left m here z)

  pub passing_fault : (x o : ℕ) → extent_at (characters left) m here ≡ Fault x o
      → Fault x o ≡ extent_at (characters n) m at
  passing_fault x o e = along_fault passing_along x o e

  pub passing_more : (j b u : ℕ) → Passes left m here j b u → u ≤ left → b ≤ j → here + j ≤ length m
      → Passing n m at (here + j) (left - u) (bytes + b)
  passing_more j b u p h k l =
      let d : here + j - at ≡ here - at + j = omega (arith, R.onward) in
      let rest = text_at (left - u) m (here + j) in
      record {
        front = R.front ++ p.front;
        says =
            rw d
            (sym (prefixed_twice (here - at) j R.front p.front rest)
            ∙ ap (prefixed (here - at) R.front) (sym p.says)
            ∙ R.says);
        units_are = omega (arith, units_append Utf8 R.front p.front, R.units_are, p.units_are);
        bytes_are = omega (arith, length-append R.front p.front, R.bytes_are, p.bytes_are);
        onward = omega (arith, R.onward);
        inside = l;
      }

-- ---- a character's first byte: the table of scalar's specs/Scalars.antt
pub leads_at : (i : ℕ) → T (apart NoChar lead_rows i) → {b : ℕ} {x : CharLead} → (nth NoChar lead_rows i).from ≤ b
    → b < (nth NoChar lead_rows i).below
    → x ≡ (nth NoChar lead_rows i).says b → x ≡ char_lead b
leads_at i t {b} h k s = s ∙ chosen_at NoChar lead_rows i t h k ∙ sym (lead_rows_law b)

pub leads_none : (b : ℕ) → Outside NoChar lead_rows b → NoChar ≡ char_lead b
leads_none b h = chosen_none NoChar lead_rows b h ∙ sym (lead_rows_law b)

-- ---- a character
-- a refusal, and what is read, as the code has them
abbrev pub refused : Refusal → ℕ → Refused
refused x o = record { refusal = x; place = o }

abbrev pub char_read : ℕ → ℕ → ℕ → CharRead
char_read j b u = record { size = j; bytes = b; units = u }

-- what `?` hands on
pub raised : {A : Type 0} (P : Result A Refused → Type 0) (y : Result A Refused) (r : Refused) → IsErrAnd y (λ z. z ≡ r)
    → P (Err r) → P y
raised P y r h e =
    let p = err_from_is_err_and y h in
    subst P (sym (p.1 ∙ ap (λ (z : Refused). Err z) p.2)) e

-- the bytes after the first lie in the message
module _ (o k lo hi : ℕ) (m : List ℕ) (p : ℕ) (l : p < length m)
    (t : Done k k [] tt ≡ extent_at (continued o k lo hi) m (p + 1)) where
  char_room : p + (k + 1) ≤ length m
  char_room = omega (arith, (continued_size o k lo hi m (p + 1) k k (omega arith) t).0)

  pub char_fits : Fits w64 (length m) → Fits w64 (k + 1)
  char_fits f = let r = char_room in omega arith

module _ {m : List ℕ} {p : ℕ} (x : CharLead) (is : x ≡ char_lead (get_or m p 0)) where
  pub opens_one : (k lo hi : ℕ) → x ≡ Basic k lo hi → Opens m p k lo hi 1
  opens_one k lo hi e = basic (sym is ∙ e)

  pub opens_two : (lo hi : ℕ) → x ≡ Supplementary lo hi → Opens m p 3 lo hi 2
  opens_two lo hi e = supplementary (sym is ∙ e)

  pub opens_half : x ≡ Halved → Halves m p
  opens_half e = record { led = sym is ∙ e }

-- the second byte after ed is below a0, or the message ends before it
module _ (m : List ℕ) (p : ℕ) (e : Halves m p) where
  pub below_low : get_or m (p + 1) 0 < 0xa0 → Opens m p 2 0x80 0xa0 1
  below_low h = below_half e.led h

  pub below_end : length m ≤ p + 1 → Opens m p 2 0x80 0xa0 1
  below_end h = below_half e.led (rw (get_or-eq_default m 0 h) (omega arith))

module _ (n : ℕ) (m : List ℕ) (p : ℕ) (z : 0 < n) where
  pub char_ends : length m ≤ p → p ≤ length m → CharMet n m p (Err (refused Cut (length m)))
  char_ends l r = record { says = characters_ends n m p z l r }

  module _ (l : p < length m) where
    module _ (x : CharLead) (is : x ≡ char_lead (get_or m p 0)) where
      pub char_other : x ≡ NoChar → CharMet n m p (Err (refused IllFormed p))
      char_other e = record { says = characters_other n m p z l (sym is ∙ e) }

      pub char_half : (lo hi : ℕ) → x ≡ Supplementary lo hi → n ≡ 1 → CharMet n m p (Err (refused IllFormed p))
      char_half lo hi e u = record { says = characters_half n m p z l lo hi (sym is ∙ e) u }

    -- a half that is alone
    module _ (e : Halves m p) (k : p + 1 < length m) where
      pub lone_low : 0xb0 ≤ get_or m (p + 1) 0 → CharMet n m p (Err (refused IllFormed p))
      lone_low h = record { says = characters_low n m p z l e k h }

      pub lone_high : 0xa0 ≤ get_or m (p + 1) 0 → n < 2 → CharMet n m p (Err (refused IllFormed p))
      lone_high h u =
          split (get_or m (p + 1) 0) 0xb0 (λ i. record { says = characters_alone n m p z l e k h i (omega arith) })
          (λ i. lone_low i)

    -- by what is read of the bytes after the first
    module _ (k lo hi u : ℕ) (o : Opens m p k lo hi u) (h : u ≤ n) where
      pub char_fault : (r : Refused) → fault r ≡ extent_at (continued p k lo hi) m (p + 1) → CharMet n m p (Err r)
      char_fault r t = record { says = characters_fault n m p z l k lo hi u o h _ _ t }

      pub char_next : Done k k [] tt ≡ extent_at (continued p k lo hi) m (p + 1)
          → CharMet n m p (Ok (char_read (k + 1) (k + 1) u))
      char_next t = record {
        says = (
          characters_next n m p z l k lo hi u o h k t,
          omega arith,
          char_room p k lo hi m p l t,
          omega (arith, (opens_units o).0),
          h,
          omega arith,
        );
      }

-- ---- a pair of halves, by what is read of each of its last four bytes
module _ (m : List ℕ) (p : ℕ) (k : p + 1 < length m) (e : HighHalf m p) (n : ℕ) (u : 2 ≤ n) where
  ends : (r : Refused) → pair_there m p (get_or m (p + 1) 0) ≡ fault r → CharMet n m p (Err r)
  ends r d = record { says = pair_fault n m p (omega arith) (omega arith) e.ed k e.from e.below u _ _ d }

  pub pair_cut_1 : (r : Refused) → Bad m p (p + 2) 0x80 0xc0 r → CharMet n m p (Err r)
  pair_cut_1 r t = ends r (pair_bad m p _ (omega arith) r t)

  module _ (t₁ : Good m p (p + 2) 0x80 0xc0) where
    pub pair_cut_2 : (r : Refused) → Bad m p (p + 3) 0xed 0xee r → CharMet n m p (Err r)
    pair_cut_2 r t = ends r (pair_bad_2 m p _ (omega arith) t₁ r t)

    module _ (t₂ : Good m p (p + 3) 0xed 0xee) where
      pub pair_cut_3 : (r : Refused) → Bad m p (p + 4) 0xb0 0xc0 r → CharMet n m p (Err r)
      pair_cut_3 r t = ends r (pair_bad_3 m p _ (omega arith) t₁ t₂ r t)

      module _ (t₃ : Good m p (p + 4) 0xb0 0xc0) where
        pub pair_cut_4 : (r : Refused) → Bad m p (p + 5) 0x80 0xc0 r → CharMet n m p (Err r)
        pair_cut_4 r t = ends r (pair_bad_4 m p _ (omega arith) t₁ t₂ t₃ r t)

        pub pair_whole : Good m p (p + 5) 0x80 0xc0 → CharMet n m p (Ok (char_read 6 4 2))
        pair_whole t =
            let w = pair_good m p (get_or m (p + 1) 0) (omega arith) t₁ t₂ t₃ t in
            record {
              says = (
                pair_next n m p (omega arith) (omega arith) e.ed k e.from e.below u _ _ _ w.1,
                omega arith,
                w.0,
                omega arith,
                u,
                omega arith,
              );
            }

-- ---- characters that fit so many units
first_weight : (ws vs : List ℕ) (r : ℕ) → r < get_or ws 0 0 → r < get_or (ws ++ vs) 0 0
first_weight [] vs r h = absurd (omega arith)
first_weight (w ∷ ws) vs r h = h

-- the next counts more
over_next : (n : ℕ) (m : List ℕ) (p j b u r : ℕ) → Passes n m p j b u → r < u → Over r n m p
over_next n m p j b u r x h =
    record { over = λ i cs es e. go i cs es (text_at (n - u) m (p + j)) (sym x.says ∙ e) }
  where
    go : (i : ℕ) (cs : List ℕ) (es : List (Entry One)) (o : Answer (List ℕ))
        → prefixed j x.front o ≡ Done i cs es tt → r < get_or (weights Utf8 cs) 0 0
    go i cs es (Done a ds fs c) e =
        let d : x.front ++ ds ≡ cs = cc in
        rw (← d, weights_append Utf8 x.front ds)
        (first_weight (weights Utf8 x.front) (weights Utf8 ds) r (omega (arith, x.first_is)))
    go i cs es (Fault y o) e = let z : ◌≡◌ {A = ℕ} 0 1 = cc in absurd (omega arith)

-- so many units are used of the room
module _ (n room used : ℕ) (h : room < n) (few : used ≤ room) {m : List ℕ} {at here bytes : ℕ}
    (R : Passing n m at here (n - used) bytes) where
  pub within_fault : (r : Refused) → CharMet (n - used) m here (Err r) → WithinMet n room m at (Err r)
  within_fault r t = record { says = passing_fault R _ _ t.says }

  within_met : Over (room - used) (n - used) m here → WithinMet n room m at (Ok (char_read (here - at) bytes used))
  within_met x =
      let a : here ≡ at + (here - at) = omega (arith, R.onward) in
      record { says = (rw (← a) R, few, rw (← a) x) }

  module _ (c : CharRead) (t : CharMet (n - used) m here (Ok c)) where
    pub within_more : c.units ≤ room - used
        → Passing n m at (here + c.size) (n - (used + c.units)) (bytes + c.bytes) × (used + c.units ≤ room)
    within_more l =
        let s = t.says in
        let d : n - used - c.units ≡ n - (used + c.units) = omega arith in
        (rw d at (passing_more R c.size c.bytes c.units s.0 s.4 s.5 s.2), omega arith)

    pub within_over : room - used < c.units → WithinMet n room m at (Ok (char_read (here - at) bytes used))
    within_over l =
        within_met (over_next (n - used) m here c.size c.bytes c.units (room - used) t.says.0 l)

  pub within_all : ((i : ℕ) → Fits w8 (get_or m i 0)) → room ≤ used
      → WithinMet n room m at (Ok (char_read (here - at) bytes used))
  within_all fit z =
      within_met
      record {
        over = λ i cs es q.
            let x = body_holds Utf8 (n - used) m here (bytes_all m (λ i. (fit i).fits)) i cs es q in
            omega (arith, content_first x (omega arith));
      }

-- ---- a chunk's first byte: the head of a chunk that is not the last, and those of the last
abbrev Head : Type 0
Head = code.Option HeadForm

abbrev head_row : Form → (ℕ → Head) → Row Head
head_row w f = row w.head (w.head + w.codes) f

abbrev last_row : Form → Row Head
last_row w = head_row w (λ b. Some (starts w.extra (b - w.head) true))

abbrev pub head_rows : Encoding → List (Row Head)
head_rows k = head_row (part_form k) (λ b. Some (starts 2 0 false)) ∷ map last_row (last_forms k)

head_rows_law : (k : Encoding) (b : ℕ) → head_form k b ≡ chosen None (head_rows k) b
unfolding head_form
head_rows_law k b =
    ap (λ (w : Form). by_forms w (last_heads k)) (part_head_law k)
    ∙ ap (by_forms (part_form k)) (last_heads_law k)
    ∙ ap (pick (inside (part_form k) b) (Some (starts 2 0 false))) (go (last_forms k))
  where
    by_forms : Form → List Form → Head
    by_forms w ws = pick (inside w b) (Some (starts 2 0 false)) (last_form (form_at ws b))

    go : (ws : List Form) → last_form (form_at ws b) ≡ chosen None (map last_row ws) b
    go [] = ap last_form (form_none b)
    go (w ∷ ws) = form_either (λ (x : code.Option Begun). last_form x ≡ chosen None (map last_row (w ∷ ws)) b) w ws b
        (λ t. sym (pick_true _ _ t)) (λ t. go ws ∙ sym (pick_false _ _ t))

-- of the kind j
module _ {k : Encoding} (j : Encoding) (e : k ≡ j) where
  pub head_at_law : (i : ℕ) → T (apart None (head_rows j) i) → {b : ℕ} {x : Head}
      → (nth None (head_rows j) i).from ≤ b → b < (nth None (head_rows j) i).below
      → x ≡ (nth None (head_rows j) i).says b → x ≡ head_form k b
  head_at_law i t {b} h l s = rw e (s ∙ chosen_at None (head_rows j) i t h l ∙ sym (head_rows_law j b))

  pub head_none : (b : ℕ) → Outside None (head_rows j) b → None ≡ head_form k b
  head_none b h = rw e (chosen_none None (head_rows j) b h ∙ sym (head_rows_law j b))

pub held : {j u v : ℕ} {l : Bool} → u ≡ v → ◌≡◌ {A = Head} (Some (starts j u l)) (Some (starts j v l))
held {j} {l = l} e = ap (λ (n : ℕ). Some (starts j n l)) e

-- ---- a chunk's content
module _ (k : Encoding) (n : ℕ) (m : List ℕ) (p : ℕ) where
  pub content_text : (x : Result Extent Refused) → k ≡ Utf8 → told_extent x ≡ extent_at (characters n) m p
      → told_extent x ≡ extent_at (body k n) m p
  content_text x e t = rw e t

  pub content_there : k ≡ Binary → p ≤ length m → n ≤ length m - p → Done n n [] tt ≡ extent_at (body k n) m p
  content_there e l h = rw e (sym (octets_done n m p l h))

  pub content_cut : k ≡ Binary → p ≤ length m → length m - p < n → Fault 2 (length m) ≡ extent_at (body k n) m p
  content_cut e l h = rw e (sym (octets_fault n m p l h))

-- ---- a chunk's head
module _ (k : Encoding) (m : List ℕ) (p : ℕ) where
  pub head_ends : length m ≤ p → HeadMet k m p (Err (refused Cut (length m)))
  unfolding head_at
  head_ends l = record { is = sym (pick_true _ _ (le-leb (length m) p l)); says = string_ends k m p l }

  module _ (l : p < length m) where
    head_by_law : (x : Head) → x ≡ head_form k (get_or m p 0) → head_by m p x ≡ head_at k m p
    unfolding head_at
    head_by_law x e = ap (head_by m p) e ∙ sym (pick_false _ _ (lt-leb (length m) p l))

    pub head_other : None ≡ head_form k (get_or m p 0) → HeadMet k m p (Err (refused Byte p))
    head_other e = record { is = head_by_law None e; says = string_none k m p l (sym e) }

    module _ (f : HeadForm) (e : Some f ≡ head_form k (get_or m p 0)) where
      pub head_cut : length m - p ≤ f.more → HeadMet k m p (Err (refused Cut (length m)))
      head_cut h = record {
        is = sym (pick_true _ _ (le-leb (length m - p) f.more h)) ∙ head_by_law (Some f) e;
        says = string_cut k m p l f (sym e) h;
      }

      small : (f.more ≤ 2) × (f.held ≤ get_or m p 0) × (wider f.more (suc f.held) ≤ 65536)
      small = head_small k (get_or m p 0) f (sym e)

      pub head_few : f.more ≤ 2
      head_few = small.0

      -- n: the number that the head holds
      pub head_there : ((i : ℕ) → Fits w8 (get_or m i 0)) → f.more < length m - p → (n : ℕ)
          → n ≡ joined f.held (take f.more (drop (p + 1) m)) → HeadMet k m p (Ok (head_read (f.more + 1) n f.last))
      head_there bytes h n at = record {
        is =
            ap (λ (v : ℕ). Done (f.more + 1) (head_read (f.more + 1) v f.last) [] tt) at
            ∙ sym (pick_false _ _ (lt-leb (length m - p) f.more h))
            ∙ head_by_law (Some f) e;
        says = (
          string_there k m p l f (sym e) h n at,
          omega arith,
          omega arith,
          omega (arith, below, small.2),
        );
      }
        where
          below : joined f.held (take f.more (drop (p + 1) m)) < wider f.more (suc f.held)
          below =
              joined_below (take f.more (drop (p + 1) m)) f.more f.held (suc f.held)
              (length-take-le f.more (drop (p + 1) m) (omega (arith, length-drop (p + 1) m)))
              (bytes_take f.more (drop (p + 1) m) (bytes_drop (p + 1) m (bytes_all m (λ i. (bytes i).fits))))
              (omega arith)

-- ---- a chunk
module _ (k : Encoding) (m : List ℕ) (p : ℕ) where
  chunk_by_law : (x : Result HeadRead Refused) → HeadMet k m p x → chunk_by k m p (told_head x) ≡ chunk_at k m p
  unfolding chunk_at
  chunk_by_law x t = ap (chunk_by k m p) t.is

  pub chunk_headless : (r : Refused) → HeadMet k m p (Err r) → ChunkMet k m p (Err r)
  chunk_headless r t = record { is = chunk_by_law (Err r) t; says = t.says }

  module _ (h : HeadRead) (t : HeadMet k m p (Ok h)) where
    pub chunk_cut : (r : Refused) → fault r ≡ extent_at (body k h.units) m (p + h.size) → ChunkMet k m p (Err r)
    chunk_cut r s = record {
      is = ap (with_content h) s ∙ chunk_by_law (Ok h) t;
      says =
          t.says.0
          ∙ ap (chunked k m p h.size h.last) (body_fault k h.units m (p + h.size) _ _ s)
          ∙ go h.last;
    }
      where
        go : (a : Bool) → chunked k m p h.size a (fault r) ≡ fault r
        go true = refl
        go false = refl

    pub chunk_there : ((i : ℕ) → Fits w8 (get_or m i 0)) → (n b : ℕ)
        → Done n b [] tt ≡ extent_at (body k h.units) m (p + h.size)
        → ChunkMet k m p (Ok (chunk_read h.size n b h.units h.last))
    chunk_there bytes n b s =
        let w = t.says in
        let z = body_there k h.units m (p + h.size) (bytes_all m (λ i. (bytes i).fits)) n b w.2 s in
        record {
          is = ap (with_content h) s ∙ chunk_by_law (Ok h) t;
          says = (w.0 ∙ ap (chunked k m p h.size h.last) z.0, w.1, omega (arith, z.1), z.2, z.3, z.4, z.5, w.3);
        }

-- what is read of its content
chunk_content : {k : Encoding} {m : List ℕ} {p : ℕ} (c : ChunkRead) → ChunkMet k m p (Ok c)
    → Done c.size c.bytes [] tt ≡ extent_at (body k c.units) m (p + c.head)
unfolding chunk_at
chunk_content {k} {m} {p} c t = by_head (head_at k m p) t.is
  where
    by_content : (h : HeadRead) (o : Answer ℕ) → extent_at (body k h.units) m (p + h.size) ≡ o
        → Done (c.head + c.size) c [] tt ≡ with_content h o
        → Done c.size c.bytes [] tt ≡ extent_at (body k c.units) m (p + c.head)
    by_content h (Done n b es y) d f =
        let q = body_quiet k h.units m (p + h.size) n b es d in
        let i : c ≡ chunk_read h.size n b h.units h.last = cc in
        rw (i, d, q) refl
    by_content h (Fault y o) d f = let z : ◌≡◌ {A = ℕ} 0 1 = cc in absurd (omega arith)

    by_head : (x : Answer HeadRead) → Done (c.head + c.size) c [] tt ≡ chunk_by k m p x
        → Done c.size c.bytes [] tt ≡ extent_at (body k c.units) m (p + c.head)
    by_head (Done n h es y) f = by_content h (extent_at (body k h.units) m (p + h.size)) refl f
    by_head (Fault y o) f = let z : ◌≡◌ {A = ℕ} 0 1 = cc in absurd (omega arith)

-- ---- the loop over the chunks
pub joining_start : (k : Encoding) (m : List ℕ) (at : ℕ) → at < length m → Joining k m at at 0 0
joining_start k m at l = let e : at - at ≡ 0 = omega arith in
    record {
      front = [];
      says = rw e
          (prefixed_none
          (string_at k m at));
      units_are = refl;
      bytes_are = refl;
      few = omega arith;
      onward = omega arith;
      inside = omega arith;
    }

module _ {k : Encoding} {m : List ℕ} {at here total bytes : ℕ} (R : Joining k m at here total bytes) where
  pub joining_fault : (r : Refused) → ChunkMet k m here (Err r) → fault r ≡ measured_at k m at
  joining_fault r t = sym (measured_as k m at (rw t.says at (sym R.says)))

  module _ (c : ChunkRead) (t : ChunkMet k m here (Ok c)) where
    abbrev joint : List ℕ
    joint = R.front ++ content_of k m here c

    joint_units : units k joint ≡ total + c.units
    joint_units = omega (arith, units_append k R.front (content_of k m here c), R.units_are, t.says.4)

    joint_length : length joint ≡ bytes + c.bytes
    joint_length = omega (arith, length-append R.front (content_of k m here c), R.bytes_are, t.says.5)

    size : here + (c.head + c.size) - at ≡ here - at + (c.head + c.size)
    size = omega (arith, R.onward)

    pub joining_whole : c.last ≡ true → string_at k m at ≡ Done (here - at + (c.head + c.size)) joint [] tt
    joining_whole d = rw (t.says.0, d) at (sym R.says)

    pub joining_last : c.last ≡ true
        → Done (here + (c.head + c.size) - at)
        (sized (total + c.units) (bytes + c.bytes) (length_of (shortest_string k joint))) [] tt
        ≡ measured_at k m at
    joining_last d = rw (size, ← joint_units, ← joint_length) (sym (measured_as k m at (joining_whole d)))

    pub joining_more : c.last ≡ false
        → Joining k m at (here + (c.head + c.size)) (total + c.units) (bytes + c.bytes)
    joining_more d =
        let s = t.says in
        record {
          front = joint;
          says =
              rw size
              (sym
              (prefixed_twice (here - at) (c.head + c.size) R.front (content_of k m here c)
              (string_at k m (here + (c.head + c.size))))
              ∙ rw (s.0, d) at R.says);
          units_are = joint_units;
          bytes_are = joint_length;
          few = omega (arith, R.few, s.3);
          onward = omega (arith, R.onward, s.6);
          inside = s.2;
        }

-- ---- passing the chunks one by one
abbrev pub passed : ℕ → ℕ → ℕ → StringPassed
passed u b n = record { units = u; bytes = b; size = n }

pub pass_none : (k : Encoding) (m : List ℕ) (at : ℕ) → length m ≤ at → PassedMet k m at (Err (refused Cut (length m)))
pass_none k m at l = record { says = measured_as k m at (string_ends k m at l) }

module _ {k : Encoding} {m : List ℕ} {at here total bytes : ℕ} (R : Joining k m at here total bytes) where
  pub pass_fault : (r : Refused) → ChunkMet k m here (Err r) → PassedMet k m at (Err r)
  pass_fault r t = record { says = sym (joining_fault R r t) }

  module _ (c : ChunkRead) (t : ChunkMet k m here (Ok c)) where
    pub pass_size : Fits w64 (length m) → Fits w64 (c.head + c.size)
    pass_size f = record { fits = omega (arith, f.fits, t.says.2) }

    pub pass_end : Fits w64 (length m) → Fits w64 (here + (c.head + c.size))
    pass_end f = record { fits = omega (arith, f.fits, t.says.2) }

    pub pass_bytes : Fits w64 (length m) → Fits w64 (bytes + c.bytes)
    pass_bytes f = record { fits = omega (arith, f.fits, t.says.2, t.says.6, R.onward) }

    pub pass_units : Fits w64 (length m) → Fits w64 (total + c.units)
    pass_units f = record { fits = omega (arith, (pass_bytes f).fits, t.says.3, R.few) }

    pub pass_behind : at ≤ here + (c.head + c.size)
    pass_behind = omega (arith, R.onward)

    pub pass_shrinks : length m - (here + (c.head + c.size)) < length m - here
    pass_shrinks = omega (arith, t.says.1, t.says.2)

    pub pass_last : c.last ≡ true
        → PassedMet k m at (Ok (passed (total + c.units) (bytes + c.bytes) (here + (c.head + c.size) - at)))
    pass_last d = record { says = record { shortest = _; says = sym (joining_last R c t d) } }

    pub pass_more : c.last ≡ false → Joining k m at (here + (c.head + c.size)) (total + c.units) (bytes + c.bytes)
    pass_more d = joining_more R c t d

-- what is passed, with its length: w is that of the shortest form
module _ {k : Encoding} {m : List ℕ} {p u b n : ℕ} (s : StringIs k m p u b n) where
  pub string_has : StringHas k m p u b
  string_has = record { size = n; is = s }

  pub told_content : (w : ℕ) → PassedLength k m p u b w → Done n (sized u b w) [] tt ≡ measured_at k m p
  told_content w h =
      let j : w ≡ s.shortest = h.is string_has ∙ ap shortest_of s.says in
      rw j (sym s.says)

-- ---- the length, of a content that fits a chunk, whose head has i bytes; and of others, whose heads have i
module _ {k : Encoding} {m : List ℕ} {p u b : ℕ} (s : StringHas k m p u b) (fit : (i : ℕ) → Fits w8 (get_or m i 0)) where
  record Holds : Type 0 where
    content : List ℕ
    read : string_at k m p ≡ Done s.size content [] tt
    same : sizes k content ≡ sized u b s.is.shortest

  holds : Holds
  holds = go (string_at k m p) refl
    where
      go : (o : Answer (List ℕ)) → string_at k m p ≡ o → Holds
      go (Done n cs es c) q =
          let d = sym (measured_done k m p n cs es c q) ∙ s.is.says in
          let i : n ≡ s.size = cc in
          let j : es ≡ [] = cc in
          record { content = cs; read = q ∙ rw (i, j) refl; same = cc }
      go (Fault x o) q =
          let d = sym (measured_fault k m p x o q) ∙ s.is.says in
          let z : ◌≡◌ {A = ℕ} 0 1 = cc in
          absurd (omega arith)

  -- the shortest form is no longer than what is read
  is_short : (s.is.shortest ≤ s.size) × (p + s.size ≤ length m)
  is_short =
      let x = holds in
      let bytes = bytes_all m (λ i. (fit i).fits) in
      let z = text_no_shorter k m bytes p s.size x.content [] x.read in
      let y = text_within k m bytes p s.size x.content [] x.read in
      let w = ap length_of z.1 ∙ length_some z.0 in
      let v : length_of (shortest_string k x.content) ≡ s.is.shortest = ap (λ (c : Sizes). c.shortest) x.same in
      (omega (arith, z.2), y.1)

  abbrev said : ℕ
  said = shortest_of (measured_at k m p)

  said_is : said ≡ s.is.shortest
  said_is = ap shortest_of s.is.says

  module _ (i : ℕ) where
    module _ (l : u ≤ 65535) (h : i ≡ length (shortest_head (last_heads k) u)) where
      one_part : b + i ≡ said
      one_part =
          let x = holds in
          let cs = x.content in
          let z = text_no_shorter k m (bytes_all m (λ i. (fit i).fits)) p s.size cs [] x.read in
          let v : units k cs ≡ u = ap (λ (c : Sizes). c.units) x.same in
          let d : length cs ≡ b = ap (λ (c : Sizes). c.bytes) x.same in
          let w : length_of (shortest_string k cs) ≡ s.is.shortest = ap (λ (c : Sizes). c.shortest) x.same in
          let q = parts_within 0 0 (weights k cs) (omega arith) in
          let n : 0 + units k cs ≡ u = omega arith in
          let f : form_length k (length cs) (parts 0 (0 + units k cs)) ≡ b + i = rw (n, d, ← h) (omega arith) in
          omega (arith, said_is, shortest_length_law k cs z.0 z.1 ∙ ap (form_length k (length cs)) q ∙ f, w)

      one_part_wraps : Fits w64 (length m) → (b + i) % 2 ^ 64 ≡ said
      one_part_wraps f = omega (arith, f.fits, one_part, said_is, is_short.0, is_short.1)

    module _ (h : HeadsMet k m p (Ok i)) where
      more_parts : b + i ≡ said
      more_parts = h.says u b s.size s.is ∙ sym said_is

      more_parts_wrap : Fits w64 (length m) → (b + i) % 2 ^ 64 ≡ said
      more_parts_wrap f = omega (arith, f.fits, more_parts, said_is, is_short.0, is_short.1)

module _ (k : Encoding) (m : List ℕ) (p u b : ℕ) (fit : (i : ℕ) → Fits w8 (get_or m i 0)) (f : Fits w64 (length m))
    (i n : ℕ) (e : n ≡ (b + i) % 2 ^ 64) where
  pub length_in_one : u ≤ 65535 → i ≡ length (shortest_head (last_heads k) u) → PassedLength k m p u b n
  length_in_one l h = record { is = λ s. e ∙ one_part_wraps s fit i l h f }

  pub length_in_more : (x : Result ℕ Refused) → HeadsMet k m p x → i ≡ result_unwrap_or x 0 → PassedLength k m p u b n
  length_in_more (Ok j) h q = record { is = λ s. e ∙ more_parts_wrap s fit i (rw q h) f }
  length_in_more (Err r) h q = record {
    is = λ s.
        let d = h.says ∙ s.is.says in
        let z : ◌≡◌ {A = ℕ} 0 1 = cc in
        absurd (omega arith);
  }

-- ---- a content that does not fit the open part
-- each byte of a byte string is one unit
byte_units : (cs : List ℕ) → units Binary cs ≡ length cs
byte_units cs = singles Binary cs (λ i l. refl)

byte_first : (cs : List ℕ) → 0 < length cs → get_or (weights Binary cs) 0 0 ≡ 1
byte_first [] l = absurd (omega arith)
byte_first (b ∷ cs) l = refl

bytes_parted : (cs : List ℕ) (n c u : ℕ) → units Binary cs ≡ n → u ≤ 65535 → n ≤ 65535 → 65535 - u < n
    → parts_after c u (weights Binary cs) ≡ parts (c + 1) (n - (65535 - u))
bytes_parted cs n c u e h l i =
    let room = 65535 - u in
    let front = take room cs in
    let back = drop room cs in
    let j = byte_units cs in
    let a = length-take-le room cs (omega arith) in
    let b = length-drop room cs in
    let one = byte_first back (omega arith) in
    let y : units Binary back ≡ n - room = omega (arith, byte_units back) in
    let z : suc c ≡ c + 1 = omega arith in
    ap (λ (v : List ℕ). parts_after c u (weights Binary v)) (sym (take-append-drop room cs))
    ∙ parts_split Binary front back c u (omega (arith, byte_units front)) (omega (arith, byte_units front))
    (omega arith)
    ∙ rw (y, z) refl

-- the parts y after the content of n units at p, by those before it, x
abbrev pub parts_of : ℕ → ℕ → code_parts.Parts
parts_of i j = record { cuts = i; filled = j }

module _ (k : Encoding) (n : ℕ) (m : List ℕ) (p : ℕ) (x : code_parts.Parts) (fit : (i : ℕ) → Fits w8 (get_or m i 0))
    (in-m : p ≤ length m) (small : x.filled ≤ 65535) where
  content_is : (j b : ℕ) → Done j b [] tt ≡ extent_at (body k n) m p
      → (◌≡◌ {A = Answer (List ℕ)} (body k n tt p (drop p m)) (Done j (decoded k (take j (drop p m))) [] tt))
      × (units k (decoded k (take j (drop p m))) ≡ n)
  content_is j b e =
      let z = body_there k n m p (bytes_all m (λ i. (fit i).fits)) j b in-m e in (z.0, z.3)

  -- it fits the open part
  pub parts_filled : n ≤ 65535 - x.filled → PartsMet k n m p x (Ok (parts_of x.cuts (x.filled + n)))
  parts_filled l = record {
    says = λ j b d.
        let z = (content_is j b d).1 in
        parts_within x.cuts x.filled (weights k (decoded k (take j (drop p m)))) (omega arith) ∙ rw z refl;
  }

  -- it does not: f units of it do
  module _ (h : 65535 - x.filled < n) (few : n ≤ 65535) where
    -- a byte string
    pub cut_bytes : k ≡ Binary → {f : ℕ} → f ≡ 65535 - x.filled
        → PartsMet k n m p x (Ok (parts_of (x.cuts + 1) (n - f)))
    cut_bytes e i = record {
      says = λ j b d.
          let z = rw e at (content_is j b d).1 in
          rw (e, i) (bytes_parted (decoded Binary (take j (drop p m))) n x.cuts x.filled z small few h);
    }

    -- a text, by the characters that fit
    module _ (e : k ≡ Utf8) (y : CharRead) (t : WithinMet n (65535 - x.filled) m p (Ok y)) where
      -- the rest, of a content that is read as a whole
      rest : (i : ℕ) (cs : List ℕ) → text_at n m p ≡ Done i cs [] tt
          → parts_after x.cuts x.filled (weights Utf8 cs) ≡ parts (x.cuts + 1) (n - y.units)
      rest i cs g = go (text_at (n - y.units) m (p + y.size)) refl
        where
          R : Passing n m p (p + y.size) (n - y.units) y.bytes
          R = t.says.0

          go : (o : Answer (List ℕ)) → text_at (n - y.units) m (p + y.size) ≡ o
              → parts_after x.cuts x.filled (weights Utf8 cs) ≡ parts (x.cuts + 1) (n - y.units)
          go (Done a ds es b) q =
              let s : prefixed (p + y.size - p) R.front (Done a ds es b) ≡ Done i cs [] tt =
              ap (prefixed (p + y.size - p) R.front) (sym q) ∙ R.says ∙ g in
              let same : R.front ++ ds ≡ cs = cc in
              let over = t.says.2.over a ds es q in
              let w = content_units
              (body_holds Utf8 (n - y.units) m (p + y.size) (bytes_all m (λ i. (fit i).fits)) a ds es q) in
              let one : suc x.cuts ≡ x.cuts + 1 = omega arith in
              rw (← same)
              (parts_split Utf8 R.front ds x.cuts x.filled (omega (arith, R.units_are, t.says.1))
              (omega (arith, R.units_are, t.says.1)) (omega arith)
              ∙ rw (w, one) refl)
          go (Fault b o) q =
              let s : prefixed (p + y.size - p) R.front (Fault b o) ≡ Done i cs [] tt =
              ap (prefixed (p + y.size - p) R.front) (sym q) ∙ R.says ∙ g in
              let z : ◌≡◌ {A = ℕ} 0 1 = cc in
              absurd (omega arith)

      pub cut_there : {f : ℕ} → f ≡ y.units → PartsMet k n m p x (Ok (parts_of (x.cuts + 1) (n - f)))
      cut_there d = record {
        says = λ i a g.
            let w : text_at n m p ≡ Done i (decoded Utf8 (take i (drop p m))) [] tt = rw e at (content_is i a g).0 in
            rw (e, d) (rest i (decoded Utf8 (take i (drop p m))) w);
      }

-- ---- the loop over the chunks, with the parts of the shortest form
pub on_none : (k : Encoding) (m : List ℕ) (at : ℕ) → length m ≤ at → HeadsMet k m at (Err (refused Cut (length m)))
on_none k m at l = record { says = sym (measured_as k m at (string_ends k m at l)) }

pub parting_start : (k : Encoding) (m : List ℕ) (at : ℕ) → at < length m → Parting k m at at 0 0 (parts 0 0)
unfolding joining_start
parting_start k m at l = record { joining = joining_start k m at l; parts_are = refl }

pub cutting_start : (k : Encoding) (m : List ℕ) (at : ℕ) → at < length m → Cutting k m at at (parts 0 0)
cutting_start k m at l = record { total = 0; bytes = 0; parting = parting_start k m at l }

module _ {k : Encoding} {m : List ℕ} {at here total bytes : ℕ} {x : Parts} (R : Parting k m at here total bytes x) where
  pub parting_filled : x.filled ≤ 65535
  parting_filled =
      let ws = weights k R.joining.front in
      rw R.parts_are at (parts_few 0 0 ws (weights_chars k R.joining.front) (omega arith))

  parting_cuts : x.cuts ≤ total
  parting_cuts =
      let ws = weights k R.joining.front in
      let l = rw R.parts_are at (cuts_few 0 0 ws (weights_chars k R.joining.front) (omega arith)) in
      omega (arith, R.joining.units_are)

  -- a chunk at `here`, and the parts y after it
  module _ (fit : (i : ℕ) → Fits w8 (get_or m i 0)) (c : ChunkRead) (t : ChunkMet k m here (Ok c)) (y : Parts)
      (q : parts_after x.cuts x.filled (weights k (content_of k m here c)) ≡ y) where
    parts_joint : parts_after 0 0 (weights k (joint R.joining c t)) ≡ y
    parts_joint = parts_on k R.joining.front (content_of k m here c) 0 0 x R.parts_are ∙ q

    pub parting_more : c.last ≡ false
        → Parting k m at (here + (c.head + c.size)) (total + c.units) (bytes + c.bytes) y
    unfolding joining_more
    parting_more d = record { joining = joining_more R.joining c t d; parts_are = parts_joint }

    -- the last. i: the bytes of its head
    module _ (d : c.last ≡ true) (i : ℕ) (l : i ≡ length (shortest_head (last_heads k) y.filled)) where
      shortest_is : (length_of (shortest_string k (joint R.joining c t)) ≡ bytes + c.bytes + 3 * y.cuts + i)
          × (bytes + c.bytes + 3 * y.cuts + i ≤ here - at + (c.head + c.size))
      shortest_is =
          let cs = joint R.joining c t in
          let z =
          text_no_shorter k m (bytes_all m (λ i. (fit i).fits)) at (here - at + (c.head + c.size)) cs []
          (joining_whole R.joining c t d) in
          let j = shortest_length_law k cs z.0 z.1 ∙ ap (form_length k (length cs)) parts_joint in
          let v = joint_length R.joining c t in
          let w = ap length_of z.1 ∙ length_some z.0 in
          (omega arith, omega (arith, z.2))

      pub parting_last : Done (here + (c.head + c.size) - at)
          (sized (total + c.units) (bytes + c.bytes) (bytes + c.bytes + 3 * y.cuts + i)) [] tt
          ≡ measured_at k m at
      parting_last = rw (← shortest_is.0) (joining_last R.joining c t d)

      pub parting_short : bytes + c.bytes + 3 * y.cuts + i ≤ length m
      parting_short = omega (arith, shortest_is.1, t.says.2, R.joining.onward)

-- the chunk at `here`, after these parts
module _ {k : Encoding} {m : List ℕ} {at here total bytes cuts filled : ℕ}
    (R : Parting k m at here total bytes (parts cuts filled)) (fit : (i : ℕ) → Fits w8 (get_or m i 0)) where
  pub on_fault : (r : Refused) → ChunkMet k m here (Err r) → HeadsMet k m at (Err r)
  on_fault r t = record { says = joining_fault R.joining r t }

  module _ (c : ChunkRead) (t : ChunkMet k m here (Ok c)) where
    says : ChunkSays k m here (Ok c)
    says = t.says

    -- its content begins in the message, and is no longer than a part
    pub on_inside : here + c.head ≤ length m
    on_inside = omega (arith, says.2)

    pub on_few : c.units ≤ 65535
    on_few = says.7

    pub on_open : cuts < length m
    on_open = omega (arith, says.1, says.2, parting_cuts R, R.joining.few, R.joining.onward)

    -- the parts after it
    pub on_never : (r : Refused) → PartsMet k c.units m (here + c.head) (parts_of cuts filled) (Err r)
        → HeadsMet k m at (Err r)
    on_never r q =
        let v : Done c.size c.bytes [] tt ≡ fault r = chunk_content c t ∙ sym q.says in
        let z : ◌≡◌ {A = ℕ} 0 1 = cc in
        absurd (omega arith)

    module _ (y : code_parts.Parts) (q : PartsMet k c.units m (here + c.head) (parts_of cuts filled) (Ok y)) where
      after : parts_after cuts filled (weights k (content_of k m here c)) ≡ parts y.cuts y.filled
      after = q.says c.size c.bytes (chunk_content c t)

      pub on_more : c.last ≡ false → Cutting k m at (here + (c.head + c.size)) (parts y.cuts y.filled)
      on_more f = record {
        total = total + c.units;
        bytes = bytes + c.bytes;
        parting = parting_more R fit c t (parts y.cuts y.filled) after f;
      }

      -- the last. n: the bytes of its head
      module _ (f : c.last ≡ true) (n : ℕ) (l : n ≡ length (shortest_head (last_heads k) y.filled)) where
        pub on_heads_met : HeadsMet k m at (Ok (3 * y.cuts + n))
        on_heads_met = record {
          says = λ v d z r.
              let whole = bytes + c.bytes + 3 * y.cuts + n in
              let x : Done (here + (c.head + c.size) - at) (sized (total + c.units) (bytes + c.bytes) whole) [] tt
              ≡ Done z (sized v d r.shortest) [] tt =
              parting_last R fit c t (parts y.cuts y.filled) after f n l ∙ r.says in
              let s : sized (total + c.units) (bytes + c.bytes) whole ≡ sized v d r.shortest = cc in
              let y : bytes + c.bytes ≡ d = ap (λ (s : Sizes). s.bytes) s in
              let w : whole ≡ r.shortest = ap (λ (s : Sizes). s.shortest) s in
              omega arith;
        }

        pub on_both : Fits w64 (length m) → Fits w64 (3 * y.cuts + n)
        on_both v = record {
          fits = omega (arith, v.fits, parting_short R fit c t (parts y.cuts y.filled) after f n l);
        }

      pub on_heads : c.last ≡ true → Fits w64 (length m) → Fits w64 (3 * y.cuts)
      on_heads f v = record { fits = omega (arith, (on_both f _ refl v).fits) }

-- Texts and byte strings at a place of a whole message, by what stands there: how many bytes are read, or which
-- refusal.
use Rattle.std.specs.Prelude.{◌≡◌, ℕ, zero, suc, ◌+◌, ◌-◌, ◌<◌, ◌≤◌, Bool, true, false, cond, List, [], ◌∷◌, ◌++◌, length, take, drop, slice_index, slice_index_or, refl}
use Rattle.std.proofs.Common.{sym, ◌∙◌, ap, subst, add-zero, add-one, arith, length-take, length-drop, drop_of_length-le, drop-cons, drop-drop, get_or-drop}
use Rattle.std.proofs.Math.Option.{Option, none, some}
use Rattle.std.specs.Prelude.{Some, None}
use Rattle.std.specs.declared.option.Option as code
use Rattle.flow.specs.Tests.{by_test, by_cases, split, pick_true, pick_false, pick_either, within_yes}
use Rattle.flow.specs.Tests.{within_below, within_above, within_is, bytes_drop}
use Rattle.flow.specs.Flow.{pick, within, Bytes, Entry, Read, From, One, Done, Fault, then, give, fail}
use Rattle.flow.specs.Flow.{byte_at, mapped, bind}
use Rattle.flow.specs.Steps.{Answer, before, stepped, renamed}
use Rattle.flow.specs.Laws.{Parsed, quiet}
use Rattle.flow.specs.Refusals.{Told}
use Rattle.flow.specs.Lifts.{lifted}
use Rattle.wire.specs.BigEndian.{joined, wider}
use Rattle.scalar.specs.declared.Rule.TheVariants.{Plain}
use Rattle.scalar.specs.declared.Begun.{Begun}
use Rattle.scalar.specs.declared.Encoding.{Encoding}
use Rattle.scalar.specs.declared.Encoding.TheVariants.{Utf8, Binary}
use Rattle.scalar.specs.declared.CharLead.TheVariants.{Basic, Supplementary, Halved, NoChar}
use Rattle.texts.specs.declared.HeadForm.{HeadForm}
use Rattle.scalar.specs.declared.refusals.Refused.{Refused}
use Rattle.scalar.specs.Refusals.{fault}
use Rattle.scalar.specs.Scalars.{value, begun, Form, form_at, inside, bytes_of, number_from, part_head, last_heads}
use Rattle.scalar.specs.Scalars.{char_lead, paired, total, units, ranged, continued, pair_of, character}
use Rattle.scalar.specs.Scalars.{characters, octets, body, chunk, chunks, string_at, by_second}
use Rattle.scalar.proofs.RuleLaws.{value_plain}
use Rattle.scalar.proofs.FormLaws.{head_codes, part_form, last_forms, part_head_law, last_heads_law, form_none, form_either}
use Rattle.scalar.proofs.NumberLaws.{number_by, form_here}
use Rattle.scalar.proofs.TextAt.{string_at_law}
use Rattle.scalar.proofs.NumberAt.{bytes_there, bytes_cut}
use Rattle.scalar.specs.Grammar.{Continued, no_more, follows, Char, one_unit, below_halves, two_units, Body}
use Rattle.scalar.proofs.TextUnits.{char_weighs, char_units, Content, body_content, body_units, body_length}
use Rattle.scalar.proofs.Pairs.{paired_length}
use Rattle.scalar.specs.Decoded.{decoded}
use Rattle.scalar.proofs.Decoded.{body_decoded, four_weights}
use Rattle.scalar.proofs.Bits.{content_few}
use Rattle.scalar.proofs.RefusalLaws.{body_tells}
use Rattle.scalar.proofs.TextLaws.{body_read, Whole, body_lifts}
use Rattle.texts.specs.Answers.{extent_at, shifted, prefixed, text_at, Passes, starts, last_form, head_form, chunked}

-- ---- what is read: the bytes consumed are the content, of which P holds, and there are no items
abbrev Takes : (List ℕ → Type 0) → List ℕ → Answer (List ℕ) → Type 0
Takes P s (Done j cs es c) = (j ≤ length s) × (j ≡ length cs) × (es ≡ []) × P cs
Takes P s (Fault x o) = Unit {0}

takes_weaker : (P Q : List ℕ → Type 0) (s : List ℕ) → ((cs : List ℕ) → P cs → Q cs) → (o : Answer (List ℕ))
    → Takes P s o → Takes Q s o
takes_weaker P Q s f (Done j cs es c) h = (h.0, h.1, h.2, f cs h.3)
takes_weaker P Q s f (Fault x o) h = tt

-- a byte, and what is read after it
byte_takes : (P : List ℕ → Type 0) (b : ℕ) (s : List ℕ) (o : Answer (List ℕ)) → Takes (λ cs. P (b ∷ cs)) s o
    → Takes P (b ∷ s) (stepped (renamed (λ cs. b ∷ cs) o))
byte_takes P b s (Done j cs es c) h = (omega (arith, h.0), ap suc h.1, h.2, h.3)
byte_takes P b s (Fault x o) h = tt

-- ---- of the bytes after a character's first
continued_takes : (o n lo hi at : ℕ) (s : List ℕ) → Takes (Continued n lo hi) s (continued o n lo hi tt at s)
continued_takes o zero lo hi at s = (omega arith, refl, refl, no_more)
continued_takes o (suc n) lo hi at [] = tt
continued_takes o (suc n) lo hi at (b ∷ s) =
    by_test (λ (f : Read One One (List ℕ)). Takes (Continued (suc n) lo hi) (b ∷ s) (stepped (f tt (at + 1) s)))
    (within lo hi b)
    (λ t. let r = within_is lo hi b t in
    byte_takes (Continued (suc n) lo hi) b s (continued o n 0x80 0xc0 tt (at + 1) s)
    (takes_weaker (Continued n 0x80 0xc0) (λ cs. Continued (suc n) lo hi (b ∷ cs)) s (λ cs x. follows r.0 r.1 x)
    (continued o n 0x80 0xc0 tt (at + 1) s) (continued_takes o n 0x80 0xc0 (at + 1) s)))
    (λ t. tt)

-- bytes: all there, or the message ends
octets_there : (n at : ℕ) (s : List ℕ) → n ≤ length s
    → ◌≡◌ {A = Answer (List ℕ)} (octets n tt at s) (Done n (take n s) [] tt)
octets_there zero at s l = refl
octets_there (suc n) at [] l = absurd (omega arith)
octets_there (suc n) at (b ∷ s) l = rw (octets_there n (at + 1) s (omega arith)) refl

octets_cut : (n at : ℕ) (s : List ℕ) → length s < n
    → ◌≡◌ {A = Answer (List ℕ)} (octets n tt at s) (Fault 2 (at + length s))
octets_cut zero at s l = absurd (omega arith)
octets_cut (suc n) at [] l = ap (λ (o : ℕ). Fault 2 o) (sym (add-zero at))
octets_cut (suc n) at (b ∷ s) l = rw (octets_cut n (at + 1) s (omega arith)) (ap (λ (o : ℕ). Fault 2 o) (omega arith))

take_all : (n : ℕ) (s : List ℕ) → n ≤ length s → length (take n s) ≡ n
take_all n s l = simp length-take (omega arith)

continued_length : {n lo hi : ℕ} {cs : List ℕ} → Continued n lo hi cs → length cs ≡ n
continued_length no_more = refl
continued_length (follows l h x) = ap suc (continued_length x)

-- what is read of a body lies in the message, and there are no items
abbrev Stays : List ℕ → Answer (List ℕ) → Type 0
Stays s (Done j cs es c) = (j ≤ length s) × (es ≡ [])
Stays s (Fault x o) = Unit {0}

body_stays : (k : Encoding) (n at : ℕ) (s : List ℕ) → Stays s (body k n tt at s)
body_stays k n at s = go (body k n tt at s)
    ((body_tells {P = λ x o. Unit {0}} {end = at + length s} tt (λ o l. tt) (λ o l. tt) {bound = length s} k n
    ).tells tt at s refl (omega arith))
    ((body_lifts (tt {0}) k n).lifts at s)
  where
    go : (o : Answer (List ℕ)) → Told (λ x o. Unit {0}) s o → o ≡ lifted tt o → Stays s o
    go (Done j cs es c) t e = (t, cc)
    go (Fault x o) t e = tt

-- ---- the byte at a place, and the end
module _ {A : Type 0} (g : From One One A) (m : List ℕ) (p : ℕ) where
  byte_at_law : p < length m → byte_at g tt p (drop p m) ≡ stepped (g p (slice_index m p) tt (p + 1) (drop (p + 1) m))
  byte_at_law l = rw (drop-cons m p 0 l, add-one p)

  no_byte : length m ≤ p → p ≤ length m → byte_at g tt p (drop p m) ≡ Fault 2 (length m)
  no_byte l r = let e : p ≡ length m = omega arith in rw (drop_of_length-le m l) (ap (λ (o : ℕ). Fault 2 o) e)

-- none are left to read, or one and the others
none_left : (P : ℕ → Type 0) (n : ℕ) → n ≤ 0 → P 0 → P n
none_left P zero l h = h
none_left P (suc n) l h = absurd (omega arith)

some_left : (P : ℕ → ℕ → Type 0) (n : ℕ) → 0 < n → ((i : ℕ) → P (suc i) i) → P n (n - 1)
some_left P zero l h = absurd (omega arith)
some_left P (suc n) l h = let e : suc n - 1 ≡ n = omega arith in rw e (h n)

-- ---- how many bytes are read, where that is known
apart : {A B : Type 0} {n x o : ℕ} {a : A} {es : List (Entry One)} {c : One}
    → ◌≡◌ {A = Answer A} (Done n a es c) (Fault x o) → B
apart e = let z : ◌≡◌ {A = ℕ} 0 1 = cc in absurd (omega arith)

-- after a byte b, what f reads and then what g reads: as f is refused; or j bytes are read, and g from there
module _ (f g : Read One One (List ℕ)) (b : ℕ) (m : List ℕ) (p : ℕ) where
  abbrev both : Answer (List ℕ)
  both = stepped (bind f (λ cs. mapped (λ ds. b ∷ (cs ++ ds)) g) tt (p + 1) (drop (p + 1) m))

  abbrev behind : Answer (List ℕ) → Answer (List ℕ)
  behind o =
      stepped
      (then o (λ n cs es c. before n es (mapped (λ ds. b ∷ (cs ++ ds)) g c (p + 1 + n) (drop n (drop (p + 1) m)))))

  both_fault : (x o : ℕ) → Fault x o ≡ extent_at f m (p + 1) → renamed length both ≡ Fault x o
  both_fault x o = go (f tt (p + 1) (drop (p + 1) m))
    where
      go : (r : Answer (List ℕ)) → Fault x o ≡ renamed length r → renamed length (behind r) ≡ Fault x o
      go (Done i cs es c) e = apart (sym e)
      go (Fault y q) e = sym e

  both_next : (P : List ℕ → Type 0) → ((at : ℕ) (s : List ℕ) → Takes P s (f tt at s)) → (j : ℕ)
      → Done j j [] tt ≡ extent_at f m (p + 1)
      → (cs : List ℕ) × P cs × (length cs ≡ j)
      × (both ≡ prefixed (j + 1) (b ∷ cs) (g tt (p + (j + 1)) (drop (p + (j + 1)) m)))
  both_next P h j = go (f tt (p + 1) (drop (p + 1) m)) (h (p + 1) (drop (p + 1) m))
    where
      end : (cs : List ℕ) (r : Answer (List ℕ))
          → stepped (before j [] (renamed (λ ds. b ∷ (cs ++ ds)) r)) ≡ prefixed (j + 1) (b ∷ cs) r
      end cs (Done i ds fs c) = let q : suc (j + i) ≡ j + 1 + i = omega arith in rw q refl
      end cs (Fault x o) = refl

      go : (r : Answer (List ℕ)) → Takes P (drop (p + 1) m) r → Done j j [] tt ≡ renamed length r
          → (cs : List ℕ) × P cs × (length cs ≡ j)
          × (behind r ≡ prefixed (j + 1) (b ∷ cs) (g tt (p + (j + 1)) (drop (p + (j + 1)) m)))
      go (Done i cs es c) t e =
          let q : i ≡ j = cc in
          let r : p + 1 + j ≡ p + (j + 1) = omega arith in (
            cs,
            t.3,
            omega (arith, t.1),
            rw (q, t.2, drop-drop j (p + 1) m, r) (end cs (g tt (p + (j + 1)) (drop (p + (j + 1)) m))),
          )
      go (Fault y q) t e = apart e

-- ---- the bytes after a character's first, at a place: none are left, the message ends, another byte, one byte and the
-- others
module _ (o n lo hi : ℕ) (m : List ℕ) (p : ℕ) where
  pub continued_none : n ≤ 0 → extent_at (continued o n lo hi) m p ≡ Done 0 0 [] tt
  continued_none z = none_left (λ i. extent_at (continued o i lo hi) m p ≡ Done 0 0 [] tt) n z refl

  abbrev one : ℕ → From One One (List ℕ)
  one i q b = cond (within lo hi b) (mapped (λ cs. b ∷ cs) (continued o i 0x80 0xc0)) (fail 4 o)

  pub continued_ends : 0 < n → length m ≤ p → p ≤ length m → extent_at (continued o n lo hi) m p ≡ Fault 2 (length m)
  continued_ends z l r =
      some_left (λ i j. extent_at (continued o i lo hi) m p ≡ Fault 2 (length m)) n z
      (λ i. ap (renamed length) (no_byte (one i) m p l r))

  module _ (z : 0 < n) (l : p < length m) where
    first : extent_at (continued o n lo hi) m p
        ≡ renamed length (stepped (one (n - 1) p (slice_index m p) tt (p + 1) (drop (p + 1) m)))
    first =
        some_left
        (λ i j.
        extent_at (continued o i lo hi) m p
        ≡ renamed length (stepped (one j p (slice_index m p) tt (p + 1) (drop (p + 1) m)))) n z
        (λ i. ap (renamed length) (byte_at_law (one i) m p l))

    pub continued_out : within lo hi (slice_index m p) ≡ false → extent_at (continued o n lo hi) m p ≡ Fault 4 o
    continued_out e = first ∙ rw e refl

    pub continued_next : lo ≤ slice_index m p → slice_index m p < hi
        → extent_at (continued o n lo hi) m p ≡ shifted 1 1 (extent_at (continued o (n - 1) 0x80 0xc0) m (p + 1))
    continued_next h k =
        first ∙ rw (within_yes lo hi (slice_index m p) h k) (go (continued o (n - 1) 0x80 0xc0 tt (p + 1) (drop (p + 1) m)))
      where
        go : (r : Answer (List ℕ))
            → renamed length (stepped (renamed (λ cs. slice_index m p ∷ cs) r)) ≡ shifted 1 1 (renamed length r)
        go (Done i cs es c) =
            let e : suc i ≡ 1 + i = omega arith in
            let d : suc (length cs) ≡ 1 + length cs = omega arith in
            rw (e, d) refl
        go (Fault x q) = refl

-- n bytes there are just n
pub continued_size : (o n lo hi : ℕ) (m : List ℕ) (p j b : ℕ) → p ≤ length m
    → Done j b [] tt ≡ extent_at (continued o n lo hi) m p
    → (p + j ≤ length m) × (j ≡ n) × (Done j j [] tt ≡ extent_at (continued o n lo hi) m p)
continued_size o n lo hi m p j b l = go (continued o n lo hi tt p (drop p m)) (continued_takes o n lo hi p (drop p m))
  where
    go : (r : Answer (List ℕ)) → Takes (Continued n lo hi) (drop p m) r → Done j b [] tt ≡ renamed length r
        → (p + j ≤ length m) × (j ≡ n) × (Done j j [] tt ≡ renamed length r)
    go (Done i cs es c) t e =
        let q : i ≡ j = cc in
        let f : length cs ≡ j = omega (arith, t.1) in
        (omega (arith, t.0, length-drop p m), sym f ∙ continued_length t.3, rw (q, f, t.2) refl)
    go (Fault x o) t e = apart e

-- ---- a byte in a range, at a place, by what is read of it alone; and then f
module _ {A : Type 0} (f : ℕ → Read One One A) (o lo hi : ℕ) (m : List ℕ) (q : ℕ) (l : q ≤ length m) where
  abbrev after_byte : ℕ → Answer A
  after_byte b = stepped (f b tt (q + 1) (drop (q + 1) m))

  in_range_law : q < length m → within lo hi (slice_index m q) ≡ true
      → (extent_at (continued o 1 lo hi) m q ≡ Done 1 1 [] tt)
      × (ranged o lo hi f tt q (drop q m) ≡ after_byte (slice_index m q))
  in_range_law k e =
      let r = within_is lo hi (slice_index m q) (rw e tt) in (
        continued_next o 1 lo hi m q (omega arith) k r.0 r.1,
        byte_at_law (λ p b. cond (within lo hi b) (f b) (fail 4 o)) m q k ∙ rw e refl,
      )

  out_of_range : q < length m → within lo hi (slice_index m q) ≡ false
      → (extent_at (continued o 1 lo hi) m q ≡ Fault 4 o) × (ranged o lo hi f tt q (drop q m) ≡ Fault 4 o)
  out_of_range k e = (
    continued_out o 1 lo hi m q (omega arith) k e,
    byte_at_law (λ p b. cond (within lo hi b) (f b) (fail 4 o)) m q k ∙ rw e refl,
  )

  at_end : length m ≤ q
      → (extent_at (continued o 1 lo hi) m q ≡ Fault 2 (length m))
      × (ranged o lo hi f tt q (drop q m) ≡ Fault 2 (length m))
  at_end k =
      (continued_ends o 1 lo hi m q (omega arith) k l, no_byte (λ p b. cond (within lo hi b) (f b) (fail 4 o)) m q k l)

  refused_as : {u : Answer ℕ} {r : Answer A} (y x : ℕ) → Fault y x ≡ u → (z w : ℕ) → u ≡ Fault z w → r ≡ Fault z w
      → r ≡ Fault y x
  refused_as y x e z w d h =
      let i : ◌≡◌ {A = Answer ℕ} (Fault y x) (Fault z w) = e ∙ d in
      let j : y ≡ z = cc in
      let k : x ≡ w = cc in
      rw (j, k) h

  pub ranged_fault : (y x : ℕ) → Fault y x ≡ extent_at (continued o 1 lo hi) m q
      → ranged o lo hi f tt q (drop q m) ≡ Fault y x
  ranged_fault y x e = split q (length m)
      (λ k. by_cases (within lo hi (slice_index m q))
      (λ t. apart (sym (e ∙ (in_range_law k t).0)))
      (λ t. let r = out_of_range k t in refused_as y x e 4 o r.0 r.1))
      (λ k. let r = at_end k in refused_as y x e 2 (length m) r.0 r.1)

  pub ranged_next : {j b : ℕ} → Done j b [] tt ≡ extent_at (continued o 1 lo hi) m q
      → (q < length m) × (lo ≤ slice_index m q) × (slice_index m q < hi)
      × (ranged o lo hi f tt q (drop q m) ≡ after_byte (slice_index m q))
  ranged_next e = split q (length m)
      (λ k. by_cases (within lo hi (slice_index m q))
      (λ t. let r = within_is lo hi (slice_index m q) (rw t tt) in (k, r.0, r.1, (in_range_law k t).1))
      (λ t. apart (e ∙ (out_of_range k t).0)))
      (λ k. apart (e ∙ (at_end k).0))

-- ---- a pair of halves at p, whose second byte is d: the four bytes after that, each as it is read alone
module _ (m : List ℕ) (p : ℕ) where
  abbrev pub Good : ℕ → ℕ → ℕ → Type 0
  Good q lo hi = Done 1 1 [] tt ≡ extent_at (continued p 1 lo hi) m q

  abbrev pub Bad : ℕ → ℕ → ℕ → Refused → Type 0
  Bad q lo hi r = fault r ≡ extent_at (continued p 1 lo hi) m q

module _ (m : List ℕ) (p d : ℕ) where
  abbrev fourth : ℕ → ℕ → ℕ → Read One One (List ℕ)
  fourth x y z = give (paired d x y z)

  abbrev third : ℕ → ℕ → Read One One (List ℕ)
  third x y = ranged p 0x80 0xc0 (fourth x y)

  abbrev second : ℕ → Read One One (List ℕ)
  second x = ranged p 0xb0 0xc0 (third x)

  abbrev first_of : ℕ → Read One One (List ℕ)
  first_of x = ranged p 0xed 0xee (λ e. second x)

  abbrev pub pair_there : Answer (List ℕ)
  pair_there = pair_of p d tt (p + 2) (drop (p + 2) m)

  next_place : {A : Type 0} (f : ℕ → Read One One A) (lo hi q r : ℕ) → q ≤ length m → q + 1 ≡ r → Good m p q lo hi
      → (r ≤ length m) × (ranged p lo hi f tt q (drop q m) ≡ stepped (f (slice_index m q) tt r (drop r m)))
  next_place f lo hi q r l e g =
      let w = ranged_next f p lo hi m q l g in (omega (arith, w.0), rw e at w.3)

  module _ (l : p + 2 ≤ length m) where
    pub pair_bad : (r : Refused) → Bad m p (p + 2) 0x80 0xc0 r → pair_there ≡ fault r
    pair_bad r e = ranged_fault first_of p 0x80 0xc0 m (p + 2) l _ _ e

    module _ (g : Good m p (p + 2) 0x80 0xc0) where
      step_one : (p + 3 ≤ length m) × (pair_there ≡ stepped (first_of (slice_index m (p + 2)) tt (p + 3) (drop (p + 3) m)))
      step_one = next_place first_of 0x80 0xc0 (p + 2) (p + 3) l (omega arith) g

      pub pair_one_more : p + 3 ≤ length m
      pair_one_more = step_one.0

      pub pair_bad_2 : (r : Refused) → Bad m p (p + 3) 0xed 0xee r → pair_there ≡ fault r
      pair_bad_2 r e =
          step_one.1
          ∙ ap stepped (ranged_fault (λ e. second (slice_index m (p + 2))) p 0xed 0xee m (p + 3) step_one.0 _ _ e)

      module _ (h : Good m p (p + 3) 0xed 0xee) where
        step_two : (p + 4 ≤ length m)
            × (first_of (slice_index m (p + 2)) tt (p + 3) (drop (p + 3) m)
            ≡ stepped (second (slice_index m (p + 2)) tt (p + 4) (drop (p + 4) m)))
        step_two = next_place (λ e. second (slice_index m (p + 2))) 0xed 0xee (p + 3) (p + 4) step_one.0 (omega arith) h

        pub pair_two_more : p + 4 ≤ length m
        pair_two_more = step_two.0

        pub pair_bad_3 : (r : Refused) → Bad m p (p + 4) 0xb0 0xc0 r → pair_there ≡ fault r
        pair_bad_3 r e =
            step_one.1
            ∙ ap stepped
            (step_two.1
            ∙ ap stepped (ranged_fault (third (slice_index m (p + 2))) p 0xb0 0xc0 m (p + 4) step_two.0 _ _ e))

        module _ (i : Good m p (p + 4) 0xb0 0xc0) where
          step_three : (p + 5 ≤ length m)
              × (second (slice_index m (p + 2)) tt (p + 4) (drop (p + 4) m)
              ≡ stepped (third (slice_index m (p + 2)) (slice_index m (p + 4)) tt (p + 5) (drop (p + 5) m)))
          step_three = next_place (third (slice_index m (p + 2))) 0xb0 0xc0 (p + 4) (p + 5) step_two.0 (omega arith) i

          pub pair_three_more : p + 5 ≤ length m
          pair_three_more = step_three.0

          pub pair_bad_4 : (r : Refused) → Bad m p (p + 5) 0x80 0xc0 r → pair_there ≡ fault r
          pair_bad_4 r e =
              step_one.1
              ∙ ap stepped
              (step_two.1
              ∙ ap stepped
              (step_three.1
              ∙ ap stepped
              (ranged_fault (fourth (slice_index m (p + 2)) (slice_index m (p + 4))) p 0x80 0xc0 m (p + 5)
              step_three.0 _ _ e)))

          pub pair_good : Good m p (p + 5) 0x80 0xc0
              → (p + 6 ≤ length m)
              × (pair_there ≡ Done 4 (paired d (slice_index m (p + 2)) (slice_index m (p + 4)) (slice_index m (p + 5))) [] tt)
          pair_good j =
              let w =
              next_place (fourth (slice_index m (p + 2)) (slice_index m (p + 4))) 0x80 0xc0 (p + 5) (p + 6) step_three.0
              (omega arith) j in
              (w.0, step_one.1 ∙ ap stepped (step_two.1 ∙ ap stepped (step_three.1 ∙ ap stepped w.1)))

-- ---- characters, at a place
-- what may stand after a character of two units, where n more than one are left with it
abbrev behind_two : ℕ → Option (Read One One (List ℕ))
behind_two zero = none
behind_two (suc n) = some (characters n)

characters_first : (n at : ℕ) (s : List ℕ)
    → characters (suc n) tt at s ≡ byte_at (λ p b. character (char_lead b) (characters n) (behind_two n) p b) tt at s
characters_first zero at s = refl
characters_first (suc n) at s = refl

-- ed stands at p; and there a high half begins
pub record Halves (m : List ℕ) (p : ℕ) : Type 0 where
  pub led : char_lead (slice_index m p) ≡ Halved

pub record HighHalf (m : List ℕ) (p : ℕ) : Type 0 where
  pub ed : Halves m p
  pub from : 0xa0 ≤ slice_index m (p + 1)
  pub below : slice_index_or m (p + 1) 0 < 0xb0

-- the byte at p opens a character of u units, with k bytes after it
pub data Opens (m : List ℕ) (p : ℕ) : ℕ → ℕ → ℕ → ℕ → Type 0 where
  basic : {k lo hi : ℕ} → char_lead (slice_index m p) ≡ Basic k lo hi → Opens m p k lo hi 1
  below_half : char_lead (slice_index m p) ≡ Halved → slice_index m (p + 1) < 0xa0 → Opens m p 2 0x80 0xa0 1
  supplementary : {lo hi : ℕ} → char_lead (slice_index m p) ≡ Supplementary lo hi → Opens m p 3 lo hi 2

pub opens_units : {m : List ℕ} {p k lo hi u : ℕ} → Opens m p k lo hi u → (0 < u) × (u ≤ suc k)
opens_units (basic e) = (omega arith, omega arith)
opens_units (below_half e h) = (omega arith, omega arith)
opens_units (supplementary e) = (omega arith, omega arith)

opens_char : {m : List ℕ} {p k lo hi u : ℕ} {cs : List ℕ} → Opens m p k lo hi u → Continued k lo hi cs
    → Char Utf8 u (slice_index m p ∷ cs)
opens_char (basic e) x = one_unit e x
opens_char (below_half e h) x = below_halves e x
opens_char (supplementary e) x = two_units e x

-- below a0 it goes on as in any other character
below_is : (f : Read One One (List ℕ)) (g : Option (Read One One (List ℕ))) (p b at : ℕ) (s : List ℕ)
    → slice_index s 0 < 0xa0
    → character Halved f g p b tt at s ≡ bind (continued p 2 0x80 0xa0) (λ cs. mapped (λ ds. b ∷ (cs ++ ds)) f) tt at s
below_is f g p b at [] h = refl
below_is f g p b at (d ∷ s) h = by_cases (within 0x80 0xa0 d)
    (λ e. rw e (go (continued p 1 0x80 0xc0 tt (at + 1) s)))
    (λ e. rw (e, within_below 0xa0 0xb0 d h) refl)
  where
    end : (n : ℕ) (cs : List ℕ) (es : List (Entry One)) (o : Answer (List ℕ))
        → stepped (before n es (renamed (λ ds. b ∷ (d ∷ (cs ++ ds))) o))
        ≡ before (suc n) es (renamed (λ ds. b ∷ (d ∷ (cs ++ ds))) o)
    end n cs es (Done i ds fs c) = let e : suc (n + i) ≡ suc n + i = omega arith in rw e refl
    end n cs es (Fault x o) = refl

    go : (o : Answer (List ℕ))
        → stepped (then o (λ n cs es c. before n es (mapped (λ ds. b ∷ (d ∷ (cs ++ ds))) f c (at + 1 + n) (drop n s))))
        ≡ then (stepped (renamed (λ cs. d ∷ cs) o))
        (λ n cs es c. before n es (mapped (λ ds. b ∷ (cs ++ ds)) f c (at + n) (drop n (d ∷ s))))
    go (Done n cs es c) =
        let e : at + suc n ≡ at + 1 + n = omega arith in rw e (end n cs es (f c (at + 1 + n) (drop n s)))
    go (Fault x o) = refl

module _ (n : ℕ) (m : List ℕ) (p : ℕ) where
  pub characters_none : n ≤ 0 → extent_at (characters n) m p ≡ Done 0 0 [] tt
  characters_none z = none_left (λ i. extent_at (characters i) m p ≡ Done 0 0 [] tt) n z refl

  abbrev one_char : ℕ → From One One (List ℕ)
  one_char i q b = character (char_lead b) (characters i) (behind_two i) q b

  module _ (z : 0 < n) where
    pub characters_ends : length m ≤ p → p ≤ length m → extent_at (characters n) m p ≡ Fault 2 (length m)
    characters_ends l r =
        some_left (λ i j. extent_at (characters i) m p ≡ Fault 2 (length m)) n z
        (λ i. ap (renamed length) (characters_first i p (drop p m) ∙ no_byte (one_char i) m p l r))

    module _ (l : p < length m) where
      opened : characters n tt p (drop p m) ≡ stepped (one_char (n - 1) p (slice_index m p) tt (p + 1) (drop (p + 1) m))
      opened =
          some_left
          (λ i j. characters i tt p (drop p m) ≡ stepped (one_char j p (slice_index m p) tt (p + 1) (drop (p + 1) m))) n z
          (λ i. characters_first i p (drop p m) ∙ byte_at_law (one_char i) m p l)

      pub characters_other : char_lead (slice_index m p) ≡ NoChar → extent_at (characters n) m p ≡ Fault 4 p
      characters_other e = ap (renamed length) opened ∙ rw e refl

      pub characters_half : (lo hi : ℕ) → char_lead (slice_index m p) ≡ Supplementary lo hi → n ≡ 1
          → extent_at (characters n) m p ≡ Fault 4 p
      characters_half lo hi e u = ap (renamed length) opened ∙ rw (e, u) refl

      -- a half: its second byte is d
      module _ (e : Halves m p) (k : p + 1 < length m) where
        halved_at : characters n tt p (drop p m)
            ≡ stepped
            (stepped
            (by_second (characters (n - 1)) (behind_two (n - 1)) p (slice_index m p) (p + 1) (slice_index m (p + 1)) tt (p + 2)
            (drop (p + 2) m)))
        halved_at =
            let two : p + 1 + 1 ≡ p + 2 = omega arith in
            opened
            ∙ rw e.led
            (ap stepped
            (rw two at (byte_at_law (by_second (characters (n - 1)) (behind_two (n - 1)) p (slice_index m p)) m (p + 1) k)))

        pub characters_low : 0xb0 ≤ slice_index m (p + 1) → extent_at (characters n) m p ≡ Fault 4 p
        characters_low h =
            ap (renamed length) halved_at
            ∙ rw
            (within_above 0x80 0xa0 (slice_index m (p + 1)) (omega arith), within_above 0xa0 0xb0 (slice_index m (p + 1)) h) refl

        pub characters_alone : 0xa0 ≤ slice_index m (p + 1) → slice_index m (p + 1) < 0xb0 → n ≡ 1
            → extent_at (characters n) m p ≡ Fault 4 p
        characters_alone h i u =
            ap (renamed length) halved_at
            ∙ rw (within_above 0x80 0xa0 (slice_index m (p + 1)) h, within_yes 0xa0 0xb0 (slice_index m (p + 1)) h i, u) refl

        module _ (h : 0xa0 ≤ slice_index m (p + 1)) (i : slice_index_or m (p + 1) 0 < 0xb0) (u : 2 ≤ n) where
          as_pair : ◌≡◌ {A = Answer (List ℕ)} (characters n tt p (drop p m))
              (stepped
              (stepped
              (bind (pair_of p (slice_index m (p + 1))) (λ cs. mapped (λ ds. cs ++ ds) (characters (n - 2))) tt (p + 2)
              (drop (p + 2) m))))
          as_pair =
              let d : n - 1 - 1 ≡ n - 2 = omega arith in
              halved_at
              ∙ rw (
                within_above 0x80 0xa0 (slice_index m (p + 1)) h,
                within_yes 0xa0 0xb0 (slice_index m (p + 1)) h i,
                two (n - 1) (omega arith),
                d,
              ) refl
            where
              two : (i : ℕ) → 0 < i → behind_two i ≡ some (characters (i - 1))
              two i w = some_left (λ i j. behind_two i ≡ some (characters j)) i w (λ i. refl)

          pub pair_fault : (y o : ℕ) → pair_there m p (slice_index m (p + 1)) ≡ Fault y o
              → extent_at (characters n) m p ≡ Fault y o
          pair_fault y o e = ap (renamed length) as_pair ∙ rw e refl

          -- x, y, z: its other bytes but for the second ed
          pub pair_next : (x y z : ℕ)
              → pair_there m p (slice_index m (p + 1)) ≡ Done 4 (paired (slice_index m (p + 1)) x y z) [] tt → Passes n m p 6 4 2
          pair_next x y z e =
              let d = slice_index_or m (p + 1) 0 in
              let w = four_weights (d ∷ x ∷ 0xed ∷ y ∷ z ∷ []) in
              let six : p + 2 + 4 ≡ p + 6 = omega arith in
              record {
                front = paired d x y z;
                says =
                    as_pair
                    ∙ rw (e, drop-drop 4 (p + 2) m, six) (go (paired d x y z) (text_at (n - 2) m (p + 6)));
                bytes_are = paired_length d x y z;
                units_are = ap total w;
                first_is = ap (λ (ws : List ℕ). slice_index ws 0) w;
              }
            where
              go : (cs : List ℕ) (r : Answer (List ℕ))
                  → stepped (stepped (before 4 [] (renamed (λ ds. cs ++ ds) r))) ≡ prefixed 6 cs r
              go cs (Done j ds es c) = let a : suc (suc (4 + j)) ≡ 6 + j = omega arith in rw a refl
              go cs (Fault y o) = refl

      module _ (k lo hi u : ℕ) (x : Opens m p k lo hi u) (h : u ≤ n) where
        as_both : characters n tt p (drop p m) ≡ both (continued p k lo hi) (characters (n - u)) (slice_index m p) m p
        as_both = opened ∙ go x h
          where
            two : (i : ℕ) → 0 < i → behind_two i ≡ some (characters (i - 1))
            two i w = some_left (λ i j. behind_two i ≡ some (characters j)) i w (λ i. refl)

            go : {k lo hi u : ℕ} → Opens m p k lo hi u → u ≤ n
                → stepped (one_char (n - 1) p (slice_index m p) tt (p + 1) (drop (p + 1) m))
                ≡ both (continued p k lo hi) (characters (n - u)) (slice_index m p) m p
            go (basic e) w = rw e refl
            go (below_half e v) w =
                rw e
                (ap stepped
                (below_is (characters (n - 1)) (behind_two (n - 1)) p (slice_index m p) (p + 1) (drop (p + 1) m)
                (rw (get_or-drop, add-zero) v)))
            go (supplementary e) w =
                let d : n - 1 - 1 ≡ n - 2 = omega arith in rw (e, two (n - 1) (omega arith), d) refl

        pub characters_fault : (y o : ℕ) → Fault y o ≡ extent_at (continued p k lo hi) m (p + 1)
            → extent_at (characters n) m p ≡ Fault y o
        characters_fault y o e =
            ap (renamed length) as_both ∙ both_fault (continued p k lo hi) (characters (n - u)) (slice_index m p) m p y o e

        pub characters_next : (j : ℕ) → Done j j [] tt ≡ extent_at (continued p k lo hi) m (p + 1)
            → Passes n m p (j + 1) (j + 1) u
        characters_next j e =
            let z =
            both_next (continued p k lo hi) (characters (n - u)) (slice_index m p) m p (Continued k lo hi)
            (continued_takes p k lo hi) j e in
            let y = opens_char x z.1 in
            let w = char_weighs y in
            record {
              front = slice_index m p ∷ z.0;
              says = as_both ∙ z.3;
              bytes_are = omega (arith, z.2);
              units_are = char_units y;
              first_is = ap (λ (ws : List ℕ). slice_index ws 0) w.weighs;
            }

-- ---- bytes, at a place
module _ (n : ℕ) (m : List ℕ) (p : ℕ) (l : p ≤ length m) where
  pub octets_done : n ≤ length m - p → extent_at (octets n) m p ≡ Done n n [] tt
  octets_done h =
      let r : n ≤ length (drop p m) = omega (arith, length-drop p m) in
      rw (octets_there n p (drop p m) r, take_all n (drop p m) r) refl

  pub octets_fault : length m - p < n → extent_at (octets n) m p ≡ Fault 2 (length m)
  octets_fault h =
      rw (octets_cut n p (drop p m) (omega (arith, length-drop p m)))
      (ap (λ (o : ℕ). Fault 2 o) (omega (arith, length-drop p m)))

-- a content of which the extent is known: what the bytes there are decoded to; or the refusal
module _ (k : Encoding) (n : ℕ) (m : List ℕ) (p : ℕ) where
  pub body_there : Bytes m → (j b : ℕ) → p ≤ length m → Done j b [] tt ≡ extent_at (body k n) m p
      → (◌≡◌ {A = Answer (List ℕ)} (body k n tt p (drop p m)) (Done j (decoded k (take j (drop p m))) [] tt))
      × (p + j ≤ length m) × (n ≤ b) × (units k (decoded k (take j (drop p m))) ≡ n)
      × (length (decoded k (take j (drop p m))) ≡ b) × (b ≤ j)
  body_there y j b l =
      go (body k n tt p (drop p m)) (body_stays k n p (drop p m))
      (body_read One k n (tt {0}) p (drop p m) (bytes_drop p m y))
    where
      is_body : {w cs : List ℕ} {is : List One} {c : One} → Whole One k n (tt {0}) w cs is c → Body k n w cs
      is_body (quiet x) = x

      go : (r : Answer (List ℕ)) → Stays (drop p m) r → Parsed {I = One} (Whole One k n (tt {0})) (drop p m) r
          → Done j b [] tt ≡ renamed length r
          → (r ≡ Done j (decoded k (take j (drop p m))) [] tt) × (p + j ≤ length m) × (n ≤ b)
          × (units k (decoded k (take j (drop p m))) ≡ n) × (length (decoded k (take j (drop p m))) ≡ b) × (b ≤ j)
      go (Done i cs es c) t q e =
          let d : i ≡ j = cc in
          let x = is_body q.1 in
          let g : length cs ≡ b = cc in
          let f : cs ≡ decoded k (take j (drop p m)) =
          sym (body_decoded x) ∙ ap (λ (z : ℕ). decoded k (take z (drop p m))) d in (
            rw (d, f, t.1) refl,
            omega (arith, t.0, length-drop p m),
            omega (arith, content_few (body_content x)),
            rw f at (body_units x),
            rw f at g,
            omega (arith, body_length x, take_all i (drop p m) t.0),
          )
      go (Fault x o) t q e = apart e

  -- what is read is a content of so many units
  pub body_holds : Bytes m → (j : ℕ) (cs : List ℕ) (es : List (Entry One))
      → ◌≡◌ {A = Answer (List ℕ)} (body k n tt p (drop p m)) (Done j cs es tt) → Content k n cs
  body_holds y j cs es e =
      go (subst (λ (o : Answer (List ℕ)). Parsed {I = One} (Whole One k n (tt {0})) (drop p m) o) e
      (body_read One k n (tt {0}) p (drop p m) (bytes_drop p m y))).1
    where
      go : {w ds : List ℕ} {is : List One} {c : One} → Whole One k n (tt {0}) w ds is c → Content k n ds
      go (quiet x) = body_content x

  -- and nothing else
  pub body_quiet : (j b : ℕ) (es : List (Entry One)) → extent_at (body k n) m p ≡ Done j b es tt → es ≡ []
  body_quiet j b es = go (body k n tt p (drop p m)) (body_stays k n p (drop p m))
    where
      go : (r : Answer (List ℕ)) → Stays (drop p m) r → renamed length r ≡ Done j b es tt → es ≡ []
      go (Done i cs fs c) t e = let d : fs ≡ es = cc in sym d ∙ t.1
      go (Fault x o) t e = apart (sym e)

  pub body_fault : (x o : ℕ) → Fault x o ≡ extent_at (body k n) m p
      → ◌≡◌ {A = Answer (List ℕ)} (body k n tt p (drop p m)) (Fault x o)
  body_fault x o = go (body k n tt p (drop p m))
    where
      go : (r : Answer (List ℕ)) → Fault x o ≡ renamed length r → r ≡ Fault x o
      go (Done i cs es c) e = apart (sym e)
      go (Fault y q) e = cc

-- ---- chunks: a bound of the recursion that is no less than the bytes left does not matter
-- f and g read the same where no more than n bytes are left
abbrev Same : ℕ → Read One One (List ℕ) → Read One One (List ℕ) → Type 0
Same n f g = (at : ℕ) (s : List ℕ) → length s ≤ n → f tt at s ≡ g tt at s

bind_same : {A : Type 0} (n : ℕ) (f : Read One One A) (g h : A → Read One One (List ℕ)) → ((a : A) → Same n (g a) (h a))
    → Same n (bind f g) (bind f h)
bind_same {A} n f g h e at s l = go (f tt at s)
  where
    go : (r : Answer A)
        → then r (λ i a es c. before i es (g a c (at + i) (drop i s)))
        ≡ then r (λ i a es c. before i es (h a c (at + i) (drop i s)))
    go (Done i a es c) = ap (before i es) (e a (at + i) (drop i s) (omega (arith, length-drop i s)))
    go (Fault x o) = refl

-- a chunk's content of n units; of one that is not the last, with what next reads after it
abbrev contents : Encoding → Read One One (List ℕ) → Bool → ℕ → Read One One (List ℕ)
contents k next true n = body k n
contents k next false n = bind (body k n) (λ cs. mapped (λ ds. cs ++ ds) next)

abbrev partly : Encoding → ℕ → ℕ → Read One One (List ℕ) → Read One One (List ℕ)
partly k p b next = bind (number_from (part_head k ∷ []) p b) (contents k next false)

abbrev lastly : Encoding → ℕ → ℕ → Read One One (List ℕ)
lastly k p b = bind (number_from (last_heads k) p b) (body k)

chunk_same : (k : Encoding) (n : ℕ) (f g : Read One One (List ℕ)) → Same n f g → (p b : ℕ)
    → Same n (chunk k f p b) (chunk k g p b)
chunk_same k n f g e p b at s l = go (inside (part_head k) b)
  where
    go : (t : Bool) → cond t (partly k p b f) (lastly k p b) tt at s ≡ cond t (partly k p b g) (lastly k p b) tt at s
    go true = bind_same n (number_from (part_head k ∷ []) p b) (contents k f false) (contents k g false)
        (λ i.
        bind_same n (body k i) (λ cs. mapped (λ ds. cs ++ ds) f) (λ cs. mapped (λ ds. cs ++ ds) g)
        (λ cs at s l. ap (renamed (λ ds. cs ++ ds)) (e at s l))) at s l
    go false = refl

no_chunks : (k : Encoding) (j at : ℕ) → ◌≡◌ {A = Answer (List ℕ)} (chunks k j tt at []) (Fault 2 at)
no_chunks k zero at = refl
no_chunks k (suc j) at = refl

chunks_same : (k : Encoding) (i j at : ℕ) (s : List ℕ) → length s ≤ i → length s ≤ j
    → ◌≡◌ {A = Answer (List ℕ)} (chunks k i tt at s) (chunks k j tt at s)
chunks_same k zero j at [] l h = sym (no_chunks k j at)
chunks_same k zero j at (b ∷ s) l h = absurd (omega arith)
chunks_same k (suc i) j at [] l h = sym (no_chunks k j at)
chunks_same k (suc i) zero at (b ∷ s) l h = absurd (omega arith)
chunks_same k (suc i) (suc j) at (b ∷ s) l h =
    ap stepped
    (chunk_same k (length s) (chunks k i) (chunks k j)
    (λ at t r. chunks_same k i j at t (omega arith) (omega arith)) at b (at + 1) s (omega arith))

string_chunks : (k : Encoding) (m : List ℕ) (p j : ℕ) → p ≤ length m → length m - p ≤ j
    → string_at k m p ≡ chunks k j tt p (drop p m)
string_chunks k m p j l h =
    string_at_law k m p l ∙ chunks_same k (length (drop p m)) j p (drop p m) (omega arith) (omega (arith, length-drop p m))

-- ---- a chunk by its head
-- the forms of heads: the number itself, in up to two bytes after the first, below 65,536
abbrev Heads : List Form → Type 0
Heads [] = Unit {0}
Heads (w ∷ ws) = (w.rule ≡ Plain) × (w.extra ≤ 2) × (wider w.extra w.codes ≤ 65536) × Heads ws

wider_grows : (j a b : ℕ) → a ≤ b → wider j a ≤ wider j b
wider_grows zero a b l = l
wider_grows (suc j) a b l = omega (arith, wider_grows j a b l)

abbrev AsHead : ℕ → code.Option Begun → Type 0
AsHead b (Some x) = (x.rule ≡ Plain) × (x.more ≤ 2) × (x.held ≤ b) × (wider x.more (suc x.held) ≤ 65536)
AsHead b None = Unit {0}

as_head : (ws : List Form) (b : ℕ) → Heads ws → AsHead b (form_at ws b)
as_head [] b h = rw (form_none b) tt
as_head (w ∷ ws) b h = form_either (AsHead b) w ws b
    (λ t.
    let r = within_is w.head (w.head + w.codes) b (rw t tt) in
    (h.0, h.1, omega arith, omega (arith, wider_grows w.extra (suc (b - w.head)) w.codes (omega arith), h.2)))
    (λ t. as_head ws b h.3)

are_heads : (k : Encoding) → Heads (last_forms k)
are_heads Utf8 =
    (refl, omega arith, omega arith, (refl, omega arith, omega arith, (refl, omega arith, omega arith, tt)))
are_heads Binary =
    (refl, omega arith, omega arith, (refl, omega arith, omega arith, (refl, omega arith, omega arith, tt)))

last_head : (k : Encoding) (b : ℕ) → AsHead b (form_at (last_heads k) b)
last_head k b = rw (last_heads_law k) (as_head (last_forms k) b (are_heads k))

abbrev Small : ℕ → code.Option HeadForm → Type 0
Small b (Some f) = (f.more ≤ 2) × (f.held ≤ b) × (wider f.more (suc f.held) ≤ 65536)
Small b None = Unit {0}

-- what a head holds is small
pub head_small : (k : Encoding) (b : ℕ) (f : HeadForm) → head_form k b ≡ Some f
    → (f.more ≤ 2) × (f.held ≤ b) × (wider f.more (suc f.held) ≤ 65536)
unfolding head_form
head_small k b f e = subst (Small b) e small
  where
    last : (x : code.Option Begun) → AsHead b x → Small b (last_form x)
    last (Some x) h = (h.1, h.2, h.3)
    last None h = tt

    small : Small b (head_form k b)
    small =
        pick_either (Small b) (inside (part_head k) b) (λ t. (omega arith, omega arith, omega arith))
        (λ t. last (form_at (last_heads k) b) (last_head k b))

abbrev by_form : Encoding → Read One One (List ℕ) → code.Option HeadForm → ℕ → Read One One (List ℕ)
by_form k next (Some f) p = bind (bytes_of f.more f.held) (contents k next f.last)
by_form k next None p = fail 3 p

chunk_form : (k : Encoding) (next : Read One One (List ℕ)) (p b at : ℕ) (s : List ℕ)
    → chunk k next p b tt at s ≡ by_form k next (head_form k b) p tt at s
unfolding head_form
chunk_form k next p b at s = go (inside (part_head k) b) refl
  where
    plain : (j u : ℕ) (g : ℕ → Read One One (List ℕ))
        → bind (mapped (value Plain) (bytes_of j u)) g tt at s ≡ bind (bytes_of j u) g tt at s
    plain j u g = step (bytes_of j u tt at s)
      where
        step : (r : Answer ℕ)
            → then (renamed (value Plain) r) (λ n a es c. before n es (g a c (at + n) (drop n s)))
            ≡ then r (λ n a es c. before n es (g a c (at + n) (drop n s)))
        step (Done n a es c) = rw (value_plain a) refl
        step (Fault x o) = refl

    part_form_law : inside (part_head k) b ≡ true → form_at (part_head k ∷ []) b ≡ Some (begun 2 0 Plain)
    part_form_law = rw (part_head_law k) (λ e.
        let code = (head_codes k).part in
        let r = within_is code (code + 1) b (rw e tt) in
        form_here (part_form k) [] b e ∙ ap (λ (u : ℕ). Some (begun 2 u Plain)) (omega arith))

    last : (x : code.Option Begun) → AsHead b x
        → bind (number_by x p) (body k) tt at s ≡ by_form k next (last_form x) p tt at s
    last (Some x) h = rw h.0 (plain x.more x.held (body k))
    last None h = refl

    go : (t : Bool) → inside (part_head k) b ≡ t
        → cond t (partly k p b next) (lastly k p b) tt at s
        ≡ by_form k next (pick t (Some (starts 2 0 false)) (last_form (form_at (last_heads k) b))) p tt at s
    go true e =
        ap (λ (x : code.Option Begun). bind (number_by x p) (contents k next false) tt at s) (part_form_law e)
        ∙ plain 2 0 (contents k next false)
        ∙ ap (λ (x : code.Option HeadForm). by_form k next x p tt at s) (sym (pick_true _ _ refl))
    go false e =
        last (form_at (last_heads k) b) (last_head k b)
        ∙ ap (λ (x : code.Option HeadForm). by_form k next x p tt at s) (sym (pick_false _ _ refl))

-- ---- a text or byte string, at a place
-- a head of j + 1 bytes at p, and from q on a content of n units: the last chunk, or one before others
module _ (k : Encoding) (m : List ℕ) (p j n q : ℕ) (at : q ≡ p + (j + 1)) (within : q ≤ length m) where
  last_ends : (r : Answer (List ℕ)) → Stays (drop q m) r → stepped (before j [] r) ≡ chunked k m p (j + 1) true r
  last_ends (Done i cs es c) t = let d : suc (j + i) ≡ j + 1 + i = omega arith in rw (d, t.1) refl
  last_ends (Fault x o) t = refl

  goes_on : (i : ℕ) (cs : List ℕ) (r : Answer (List ℕ))
      → stepped (before j [] (before i [] (renamed (λ ds. cs ++ ds) r))) ≡ prefixed (j + 1 + i) cs r
  goes_on i cs (Done x ds fs c) = let d : suc (j + (i + x)) ≡ j + 1 + i + x = omega arith in rw d refl
  goes_on i cs (Fault x o) = refl

  part_ends : (r : Answer (List ℕ)) → Stays (drop q m) r
      → stepped
      (before j []
      (then r
      (λ i cs es c. before i es (mapped (λ ds. cs ++ ds) (chunks k (length m)) c (q + i) (drop i (drop q m))))))
      ≡ chunked k m p (j + 1) false r
  part_ends (Done i cs es c) t =
      let z = p + (j + 1 + i) in
      let d : q + i ≡ p + (j + 1 + i) = omega arith in
      rw (t.1, drop-drop i q m, d)
      (goes_on i cs (chunks k (length m) tt z (drop z m))
      ∙ ap (prefixed (j + 1 + i) cs)
      (sym (string_chunks k m z (length m) (omega (arith, t.0, length-drop q m)) (omega arith))))
  part_ends (Fault x o) t = refl

  chunk_ends : (a : Bool)
      → stepped (before j [] (contents k (chunks k (length m)) a n tt q (drop q m)))
      ≡ chunked k m p (j + 1) a (body k n tt q (drop q m))
  chunk_ends true = last_ends (body k n tt q (drop q m)) (body_stays k n q (drop q m))
  chunk_ends false = part_ends (body k n tt q (drop q m)) (body_stays k n q (drop q m))

module _ (k : Encoding) (m : List ℕ) (p : ℕ) where
  module _ (l : p < length m) where
    string_first : string_at k m p
        ≡ stepped (by_form k (chunks k (length m)) (head_form k (slice_index m p)) p tt (p + 1) (drop (p + 1) m))
    string_first =
        string_chunks k m p (suc (length m)) (omega arith) (omega arith)
        ∙ byte_at_law (chunk k (chunks k (length m))) m p l
        ∙ ap stepped (chunk_form k (chunks k (length m)) p (slice_index m p) (p + 1) (drop (p + 1) m))

    pub string_none : head_form k (slice_index m p) ≡ None → string_at k m p ≡ Fault 3 p
    string_none e = string_first ∙ rw e refl

    module _ (f : HeadForm) (e : head_form k (slice_index m p) ≡ Some f) where
      pub string_cut : length m - p ≤ f.more → string_at k m p ≡ Fault 2 (length m)
      string_cut h =
          string_first
          ∙ rw (e, bytes_cut {I = One} f.more f.held (tt {0}) (p + 1) (drop (p + 1) m) (omega (arith, length-drop (p + 1) m)))
          (ap (λ (o : ℕ). Fault 2 o) (omega (arith, length-drop (p + 1) m)))

      pub string_there : f.more < length m - p → (n : ℕ) → n ≡ joined f.held (take f.more (drop (p + 1) m))
          → string_at k m p ≡ chunked k m p (f.more + 1) f.last (body k n tt (p + (f.more + 1)) (drop (p + (f.more + 1)) m))
      string_there h n is =
          let d : p + 1 + f.more ≡ p + (f.more + 1) = omega arith in
          string_first
          ∙ rw (
            e,
            bytes_there {I = One} f.more f.held (tt {0}) (p + 1) (drop (p + 1) m) (omega (arith, length-drop (p + 1) m)),
            sym is,
            drop-drop f.more (p + 1) m,
            d,
          )
          (chunk_ends k m p f.more n (p + (f.more + 1)) refl (omega arith) f.last)

-- What the contracts of the code that writes texts and byte strings ask at each way out.
use mathlib.Core.Path.{◌≡◌, refl, sym, ◌∙◌, ap, subst}
use mathlib.Core.Bool.{true, false}
use mathlib.Core.List.{List, [], ◌++◌}
use mathlib.Core.Logic.{◌⊎◌, inl, inr}
use mathlib.Core.Option.{Option, none, some}
use Prim.Native.Nat.{ℕ, ◌+◌, ◌^◌, ◌≤◌, ◌<◌}
use native.Mathlib.Omega.{arith}
use lib.ListN.{length, take, drop, get_or, length-append, length-drop}
use lib.Seq.{length-take-le}
use mir.Syntax.{w8, w64}
use mir.Val.{Fits}
use Rattle.std.specs.Prelude.{Result, Ok, Err, Some, None}
use Rattle.std.specs.Result.{result_ok}
use Rattle.flow.specs.Tests.{bytes_all}
use Rattle.flow.specs.Steps.{Answer, renamed}
use Rattle.flow.specs.Flow.{Entry, One, Done, Fault, stored, Report, reported}
use Rattle.flow.specs.OverlayLaws.{stored_out}
use Rattle.wire.specs.BigEndian.{be}
use Rattle.wire.specs.Laws.{be_length}
use Rattle.scalar.specs.declared.Encoding.{Encoding}
use Rattle.scalar.specs.declared.refusals.Refused.{Refused}
use Rattle.texts.specs.declared.StringRead.{StringRead}
use Rattle.texts.specs.declared.ChunkRead.{ChunkRead}
use Rattle.text_writer.specs.declared.Item.{Item}
use Rattle.scalar.specs.Answers.{report_of, output_of, length_of, item_form, sized_form}
use Rattle.scalar.specs.Answers.{Sizes, sized, sizes, measured_at}
use Rattle.scalar.specs.Scalars.{units, string_at}
use Rattle.scalar.specs.Decoded.{decoded}
use Rattle.scalar.proofs.TextTheorems.{string_parsed, text_no_shorter, text_within}
use Rattle.scalar.proofs.TextUnits.{units_append}
use Rattle.scalar.proofs.Bits.{content_length, string_few}
use Rattle.scalar.proofs.AnswerLaws.{report_none, report_stored, report_over, output_none, output_some}
use Rattle.scalar.proofs.AnswerLaws.{length_none, length_some, measured_as, item_fault, item_done}
use Rattle.scalar.proofs.AnswerLaws.{sized_fault, sized_both, sized_other_units, sized_other_bytes}
use Rattle.scalar.proofs.TextShort.{shortest_spelled}
use Rattle.texts.specs.Answers.{told_string, prefixed, ChunkSays}
use Rattle.text_writer.specs.Cursor.{opens_chunk}
use Rattle.text_writer.specs.Writing.{IsDone, content_of, rest, opening, laid, IsItem, ItemAt, FoundSays, FoundMet}

-- ---- a head: w is a number of j bytes
pub head_bytes : (w : List ℕ) (j x : ℕ) → w ≡ be j x → j ≡ length w
head_bytes w j x e = rw e (sym (be_length j x))

pub head_stored : (l : List ℕ) (at : ℕ) (w : List ℕ) (j x : ℕ) → w ≡ be j x → {l' : List ℕ} → l' ≡ stored l at (be j x)
    → (j ≡ length w) × (l' ≡ stored l at w)
head_stored l at w j x e s = (head_bytes w j x e, rw e s)

-- ---- a form w: its length is r, and it is stored whole or not at all
module _ (w : List ℕ) (r : ℕ) (d : r ≡ length w) (l : List ℕ) (to : ℕ) where
  pub form_not : length l < to + r → (reported 9 r ≡ report_of (some w) (length l) to) × (l ≡ stored l to w)
  form_not h = (rw (report_over (length l) to w (omega arith), ← d) refl, sym (stored_out l to w (omega arith)))

  pub form_whole : to + r ≤ length l → (l' : List ℕ) → l' ≡ stored l to w
      → (reported 0 r ≡ report_of (some w) (length l) to) × (l' ≡ stored l to w)
  form_whole h l' e = (rw (report_stored (length l) to w (omega arith), ← d) refl, e)

-- ---- no form is written
none_written : (o : Option (List ℕ)) → o ≡ none → (l : List ℕ) (to : ℕ)
    → (reported 10 0 ≡ report_of o (length l) to) × (l ≡ output_of o l to)
none_written o e l to = (rw (e, report_none) refl, rw (e, output_none) refl)

-- ---- a string that stands at p
module _ (k : Encoding) (m : List ℕ) (p : ℕ) (x : Item) (t : ItemAt k m p x) where
  -- its content is all that comes from the cursor on
  pub record Content : Type 0 where
    pub size : ℕ
    pub items : List (Entry One)
    pub reads : string_at k m p ≡ Done size (rest k m x.first) items tt

  pub content : Content
  content = go (string_at k m p) refl t.done t.content_is
    where
      go : (o : Answer (List ℕ)) → string_at k m p ≡ o → IsDone o → rest k m x.first ≡ content_of o → Content
      go (Done n cs es c) e d f = record { size = n; items = es; reads = rw f e }
      go (Fault y o) e d f = absurd d

  module _ (bytes : (i : ℕ) → Fits w8 (get_or m i 0)) where
    -- its units and bytes are no more than the message has
    pub item_few : (x.units ≤ length m) × (x.bytes ≤ length m)
    item_few =
        let y = string_parsed k m (bytes_all m (λ i. (bytes i).fits)) p content.size _ _ content.reads in
        let n = length-take-le content.size (drop p m) y.0 in
        let b : x.bytes ≤ length m =
        omega (arith, t.whole.bytes_are, content_length y.1, n, y.0, length-drop p m) in
        (omega (arith, b, t.whole.units_are, t.whole.bytes_are, string_few y.1), b)

    -- its shortest form is no longer than the message
    pub form_law : (item_form k m p ≡ some (laid k m x.first)) × (length (laid k m x.first) ≤ length m)
    unfolding laid
    form_law =
        let b = bytes_all m (λ i. (bytes i).fits) in
        let z = text_no_shorter k m b p content.size _ _ content.reads in
        let y = text_within k m b p content.size _ _ content.reads in
        let s = shortest_spelled k (rest k m x.first) z.0 z.1 in (
          item_done k m p _ _ _ _ content.reads ∙ z.1 ∙ ap (λ (v : List ℕ). some v) s,
          omega (arith, y.1, z.2, ap length s),
        )

    pub item_counted : Fits w64 (length m) → IsItem k m x × (length (laid k m x.first) < 2 ^ 64)
    item_counted f = (t.whole, omega (arith, f.fits, form_law.1))

    pub item_length : (r : ℕ) → r ≡ length (laid k m x.first) → r ≡ length_of (item_form k m p)
    item_length r d = rw (form_law.0, length_some) d

    -- what is written of the form is written of the string
    module _ (l : List ℕ) (to : ℕ) (r : Report) (l' : List ℕ)
        (y : (r ≡ report_of (some (laid k m x.first)) (length l) to) × (l' ≡ stored l to (laid k m x.first))) where
      pub item_written : (r ≡ report_of (item_form k m p) (length l) to) × (l' ≡ output_of (item_form k m p) l to)
      item_written = rw (form_law.0, output_some) y

      pub sized_written : (v d : ℕ) → x.units ≡ v → x.bytes ≡ d
          → (r ≡ report_of (sized_form k m p v d) (length l) to) × (l' ≡ output_of (sized_form k m p v d) l to)
      sized_written v d e f = rw same item_written
        where
          same : sized_form k m p v d ≡ item_form k m p
          same =
              sized_both k m p v d _ _ _ _ content.reads (sym t.whole.units_are ∙ e) (sym t.whole.bytes_are ∙ f)
              ∙ sym (item_done k m p _ _ _ _ content.reads)

  -- of other sizes
  pub other_sizes : (v d : ℕ) (l : List ℕ) (to : ℕ)
      → (x.units ≡ v → ⊥) ⊎ (x.units ≡ v × (x.bytes ≡ d → ⊥))
      → (reported 10 0 ≡ report_of (sized_form k m p v d) (length l) to) × (l ≡ output_of (sized_form k m p v d) l to)
  other_sizes v d l to (inl f) =
      none_written _ (sized_other_units k m p v d _ _ _ _ content.reads (λ q. f (t.whole.units_are ∙ q))) l to
  other_sizes v d l to (inr f) =
      none_written _ (sized_other_bytes k m p v d _ _ _ _ content.reads (λ q. f.1 (t.whole.bytes_are ∙ q))) l to

-- ---- no string stands at p
module _ (k : Encoding) (m : List ℕ) (p : ℕ) (t : FoundSays k m p None) where
  nothing : (item_form k m p ≡ none) × ((v d : ℕ) → sized_form k m p v d ≡ none)
  nothing = go (string_at k m p) refl t
    where
      go : (o : Answer (List ℕ)) → string_at k m p ≡ o → (IsDone o → ⊥)
          → (item_form k m p ≡ none) × ((v d : ℕ) → sized_form k m p v d ≡ none)
      go (Done n cs es x) q d = absurd (d tt)
      go (Fault y o) q d = (item_fault k m p y o q, λ v d. sized_fault k m p v d y o q)

  pub nothing_length : 0 ≡ length_of (item_form k m p)
  nothing_length = rw (nothing.0, length_none) refl

  module _ (l : List ℕ) (to : ℕ) where
    pub nothing_written : (reported 10 0 ≡ report_of (item_form k m p) (length l) to)
        × (l ≡ output_of (item_form k m p) l to)
    nothing_written = none_written _ nothing.0 l to

    pub nothing_sized : (v d : ℕ)
        → (reported 10 0 ≡ report_of (sized_form k m p v d) (length l) to) × (l ≡ output_of (sized_form k m p v d) l to)
    nothing_sized v d = none_written _ (nothing.1 v d) l to

-- ---- what `ok` says
was_ok : {A E : Type 0} (r : Result A E) (x : A) → result_ok r ≡ Some x → r ≡ Ok x
was_ok (Ok y) x e = cc
was_ok (Err y) x e = cc

-- ---- finding it: by its first chunk c, and where that is not the last, by what is read on
module _ (k : Encoding) (m : List ℕ) (p : ℕ) where
  module _ (c : ChunkRead) (s : ChunkSays k m p (Ok c)) where
    abbrev first : List ℕ
    first = decoded k (take c.size (drop (p + c.head) m))

    pub find_last : c.last ≡ true
        → FoundMet k m p (Some (record { first = opening p c; units = c.units; bytes = c.bytes }))
    find_last d =
        let e : string_at k m p ≡ Done (c.head + c.size) first [] tt = rw d at s.0 in
        let o = (opens_chunk k m p c s).opens (rw e tt) in
        record {
          says = record {
            done = rw e tt;
            whole = record {
              going = o.0;
              units_are = rw (o.1, e) (sym s.4);
              bytes_are = rw (o.1, e) (sym s.5);
            };
            content_is = o.1;
          };
        }

    -- more chunks follow, from q on
    module _ (d : c.last ≡ false) (q : ℕ) (g : q ≡ p + c.head + c.size) where
      whole : string_at k m p ≡ prefixed (c.head + c.size) first (string_at k m q)
      whole = let e : p + (c.head + c.size) ≡ q = omega arith in rw (d, e) at s.0

      -- by what reading them gives
      module _ (r : Result StringRead Refused) (f : told_string r ≡ measured_at k m q) where
        pub find_broken : result_ok r ≡ None → FoundMet k m p None
        find_broken e = go (string_at k m q) refl r e (f ∙ measured_as k m q refl)
          where
            go : (x : Answer (List ℕ)) → string_at k m q ≡ x → (r : Result StringRead Refused) → result_ok r ≡ None
                → told_string r ≡ renamed (sizes k) x → FoundMet k m p None
            go (Done i cs es x) h (Err y) e g = let z : ◌≡◌ {A = ℕ} 0 1 = cc in absurd (omega arith)
            go (Fault z o) h r e g = record { says = λ d. subst IsDone (whole ∙ ap (prefixed _ first) h) d }
            go x h (Ok y) e g = cc

        abbrev found : StringRead → Item
        found y = record { first = opening p c; units = c.units + y.units; bytes = c.bytes + y.bytes }

        pub find_on : (y : StringRead) → result_ok r ≡ Some y → FoundMet k m p (Some (found y))
        find_on y e = go (string_at k m q) refl (ap told_string (sym (was_ok r y e)) ∙ f ∙ measured_as k m q refl)
          where
            go : (x : Answer (List ℕ)) → string_at k m q ≡ x → told_string (Ok y) ≡ renamed (sizes k) x
                → FoundMet k m p (Some (found y))
            go (Done i cs es x) h f =
                let g : sized y.units y.bytes y.shortest ≡ sizes k cs = cc in
                let e : string_at k m p ≡ Done (c.head + c.size + i) (first ++ cs) es tt =
                whole ∙ ap (prefixed _ first) h in
                let o = (opens_chunk k m p c s).opens (rw e tt) in
                record {
                  says = record {
                    done = rw e tt;
                    whole = record {
                      going = o.0;
                      units_are = rw (o.1, e)
                          (omega (arith, units_append k first cs, s.4, ap (λ (z : Sizes). z.units) g));
                      bytes_are = rw (o.1, e)
                          (omega (arith, length-append first cs, s.5, ap (λ (z : Sizes). z.bytes) g));
                    };
                    content_is = o.1;
                  };
                }
            go (Fault z o) h f = let z : ◌≡◌ {A = ℕ} 0 1 = cc in absurd (omega arith)

-- the sizes of what is found fit
pub find_few : (k : Encoding) (m : List ℕ) (p : ℕ) (x : Item) → FoundMet k m p (Some x)
    → (bytes : (i : ℕ) → Fits w8 (get_or m i 0)) → Fits w64 (length m) → Fits w64 x.units × Fits w64 x.bytes
find_few k m p x t bytes f =
    let g = item_few k m p x t.says bytes in
    (record { fits = omega (arith, f.fits, g.0) }, record { fits = omega (arith, f.fits, g.1) })

-- Working memory, and calls that list.
use Rattle.std.specs.Prelude.{◌≡◌, refl, Bool, true, false, ◌||◌, ◌⊎◌, ltb, length, take, drop}
use Rattle.std.proofs.Common.{sym, ◌∙◌, inl, inr, ⊎_elim, zero-mul, le-div_iff_mul-le, arith, take_at, drop_at, drop-drop, ltb-true, ltb-false, le-ltb}
use Rattle.std.proofs.Math.Path.{ap}
use mathlib.Core.List.{List, [], ◌∷◌, ◌++◌, append_assoc}
use Rattle.std.proofs.Math.Option.{some}
use Prim.Native.Nat.{ℕ, zero, suc, ◌+◌, ◌*◌, ◌/◌, ◌≤◌, ◌<◌}
use Rattle.std.proofs.Math.Nat.{suc-mul}
use Rattle.std.proofs.Math.ListN.{get_elem?}
use Rattle.flow.specs.RefusalNumbers.{no_room}
use Rattle.flow.specs.Tests.{by_cases, pick_true, pick_false, pick_either}
use Rattle.flow.specs.OverlayLaws.{flat, overlay_flat, overlay_past, length_overlay}
use Rattle.flow.specs.Flow.{Report, overlay}
use Rattle.record.specs.Model.Answers.{as_numbers, lent_rows}
use Rattle.record.proofs.Laws.Answering.{never}
use Rattle.holdings.specs.Files.{Rules, Versions, header_size, Listing, Lists, Faulty, listing}
use Rattle.holdings.specs.Answers.{Result, Accept, Refuse, answer, with_working, placements, ListLayout, listed_to}
use Rattle.holdings.specs.Answers.{list_result, list_report, list_after, ListCall}
use Rattle.holdings.specs.Terms.{Messages, ByFile, Enough, SoundLayout}
use Rattle.holdings.specs.EntryLaws.{wholes}
use Rattle.holdings.proofs.EntryLaws.{lists_accepted}
use Rattle.holdings.proofs.FileLaws.{listed_distinct, listing_within, stands, length_placements}
use Rattle.holdings.proofs.NumberLaws.{listing_numbered}
use Rattle.holdings.specs.Theorems.{AllListed, OfList}

-- ---- working memory
module _ (vs : Versions) (work bytes : List ℕ) where
  abbrev longest : ℕ
  longest = vs.newest.limits.longest

  abbrev too_little : Bool
  too_little = ltb (lent_rows as_numbers work) longest || ltb (length bytes) longest

  enough_passes : Enough vs work bytes → too_little ≡ false
  enough_passes x =
      ap (λ (t : Bool). t || ltb (length bytes) longest) (le-ltb (lent_rows as_numbers work) longest x.rows_lent)
      ∙ le-ltb (length bytes) longest x.bytes_lent

  passes_enough : (s t : Bool) → ltb (lent_rows as_numbers work) longest ≡ s → ltb (length bytes) longest ≡ t
      → s || t ≡ false → Enough vs work bytes
  passes_enough true t p q e = never cc
  passes_enough false t p q e = record {
    rows_lent = ltb-false (lent_rows as_numbers work) longest p;
    bytes_lent = ltb-false (length bytes) longest (q ∙ e);
  }

  pub memory : Enough vs work bytes ⊎ (Enough vs work bytes → ⊥)
  memory = by_cases too_little
      (λ t. inr (λ x. let f = enough_passes x in never cc))
      (λ t. inl (passes_enough (ltb (lent_rows as_numbers work) longest) (ltb (length bytes) longest) refl refl t))

  module _ {A : Type 0} (a : Result A) where
    pub with_enough : Enough vs work bytes → with_working vs work bytes a ≡ a
    with_enough x = pick_false _ _ (enough_passes x)

    pub with_little : (Enough vs work bytes → ⊥) → with_working vs work bytes a ≡ Refuse no_room 0 0
    with_little h = by_cases too_little
        (λ t. pick_true _ _ t)
        (λ t. absurd (h (passes_enough (ltb (lent_rows as_numbers work) longest) (ltb (length bytes) longest)
        refl refl t)))

-- ---- an entry of a table that all fit in
module _ {A : Type 0} (width : ℕ) (encode : A → List ℕ) (sized : (x : A) → length (encode x) ≡ width) where
  flat_at : (xs : List A) (t : List ℕ) (i : ℕ) (x : A) → get_elem? xs i ≡ some x
      → take width (drop (i * width) (flat width encode xs ++ t)) ≡ encode x
  unfolding flat
  flat_at [] t i x e = never cc
  flat_at (y ∷ xs) t zero x e =
      let q : y ≡ x = cc in
      rw (zero-mul width, append_assoc) (take_at (encode y) (flat width encode xs ++ t) width (sized y) ∙ ap encode q)
  flat_at (y ∷ xs) t (suc i) x e =
      let n : suc i * width ≡ width + i * width = omega (arith, suc-mul i width) in
      rw (n, append_assoc) (
      ap (take width) (sym (drop-drop (i * width) width (encode y ++ (flat width encode xs ++ t)))
      ∙ ap (drop (i * width)) (drop_at (encode y) (flat width encode xs ++ t) width (sized y)))
      ∙ flat_at xs t i x e
      )

  overlay_at : (t : List ℕ) (xs : List A) → length xs * width ≤ length t → (i : ℕ) (x : A) → get_elem? xs i ≡ some x
      → take width (drop (i * width) (overlay width encode t 0 xs)) ≡ encode x
  overlay_at t xs h i x e = rw (overlay_flat width encode sized t xs h)
      (flat_at xs (drop (length xs * width) t) i x e)

-- ---- what a call that lists gives
-- whatever lists is accepted, given memory and list
module _ (vs : Versions) (L : ListLayout) (file : List ℕ) (used : ℕ) (work bytes list : List ℕ) where
  pub list_accepts : Enough vs work bytes → (R : Rules) (ms : Messages) → listing vs file used ≡ Lists R ms
      → length ms ≤ length list / L.width → list_result vs L file used work bytes list ≡ Accept ms
  list_accepts enough R ms e l =
      with_enough vs work bytes (listed_to (length list / L.width) (listing vs file used)) enough
      ∙ ap (listed_to (length list / L.width)) e
      ∙ pick_false _ _ (le-ltb (length list / L.width) (length ms) l)

module _ (vs : Versions) (L : ListLayout) (file : List ℕ) (used : ℕ) (work bytes list : List ℕ) where
  -- what is accepted lists, and fits
  pub accepted_lists : (ms : Messages) → listed_to (length list / L.width) (listing vs file used) ≡ Accept ms
      → (R : Rules) × (listing vs file used ≡ Lists R ms) × (length ms ≤ length list / L.width)
  accepted_lists ms = go (listing vs file used) refl
    where
      go : (l : Listing) → listing vs file used ≡ l → listed_to (length list / L.width) l ≡ Accept ms
          → (R : Rules) × (listing vs file used ≡ Lists R ms) × (length ms ≤ length list / L.width)
      go (Faulty x p) e = λ h. never cc
      go (Lists R ns) e = pick_either
          (λ (z : Result Messages). z ≡ Accept ms
          → (R : Rules) × (listing vs file used ≡ Lists R ms) × (length ms ≤ length list / L.width))
          (ltb (length list / L.width) (length ns))
          (λ t h. never cc)
          (λ t h.
          let q : ns ≡ ms = cc in
          let l = ltb-false (length list / L.width) (length ns) t in
          (R, e ∙ ap (Lists R) q, omega (arith, ap length q)))

  -- what is refused with a count lists, and does not fit
  refused_lists : (x k p : ℕ) → listed_to (length list / L.width) (listing vs file used) ≡ Refuse x k p → (k ≡ 0 → ⊥)
      → (R : Rules) × (ms : Messages) × (listing vs file used ≡ Lists R ms) × (k ≡ length ms)
      × (length list / L.width < k)
  refused_lists x k p = go (listing vs file used) refl
    where
      go : (l : Listing) → listing vs file used ≡ l → listed_to (length list / L.width) l ≡ Refuse x k p → (k ≡ 0 → ⊥)
          → (R : Rules) × (ms : Messages) × (listing vs file used ≡ Lists R ms) × (k ≡ length ms)
          × (length list / L.width < k)
      go (Faulty y q) e = λ h z. absurd (z (cc))
      go (Lists R ms) e = pick_either
          (λ (a : Result Messages). a ≡ Refuse x k p → (k ≡ 0 → ⊥)
          → (R : Rules) × (ms : Messages) × (listing vs file used ≡ Lists R ms) × (k ≡ length ms)
          × (length list / L.width < k))
          (ltb (length list / L.width) (length ms))
          (λ t h z.
          let q : k ≡ length ms = cc in
          (R, ms, e, q, omega (arith, ltb-true (length list / L.width) (length ms) t)))
          (λ t h z. never cc)

  listed_numbered : (x k p : ℕ) → listed_to (length list / L.width) (listing vs file used) ≡ Refuse x k p
      → (x ≡ no_room) ⊎ ByFile x
  listed_numbered x k p = go (listing vs file used) refl
    where
      go : (l : Listing) → listing vs file used ≡ l → listed_to (length list / L.width) l ≡ Refuse x k p
          → (x ≡ no_room) ⊎ ByFile x
      go (Faulty y q) e = λ h.
          let z : y ≡ x = cc in
          let b = listing_numbered vs file used y q e in
          inr (omega (arith, b.0), omega (arith, b.1))
      go (Lists R ms) e = pick_either (λ (z : Result Messages). z ≡ Refuse x k p → (x ≡ no_room) ⊎ ByFile x)
          (ltb (length list / L.width) (length ms))
          (λ t h. inl (cc))
          (λ t h. never cc)

  module _ (sound : SoundLayout L) (r : Report) (list' : List ℕ) where
    all_listed : (ms : Messages) → listed_to (length list / L.width) (listing vs file used) ≡ Accept ms
        → r ≡ list_report used (Accept ms) → list' ≡ list_after L list (Accept ms)
        → AllListed vs L file used list r list'
    all_listed ms h q f =
        let y = accepted_lists ms h in
        let R = y.0 in
        let x = (listing_within vs file used R ms y.1).1 in
        let n = length_placements header_size ms in
        let fits : length (placements header_size ms) * L.width ≤ length list =
        rw n ((le-div_iff_mul-le sound.wide).0 y.2) in
        record {
          rules = R;
          messages = ms;
          lists = y.1;
          counted = ap (λ (z : Report). z.count) q;
          used_length = ap (λ (z : Report). z.place) q;
          distinct = listed_distinct vs (take used file) R ms x;
          each = λ i m e.
              let s = stands (take used file) header_size ms x.entries i m e in
              record {
                own = ⊎_elim (λ b. never cc) (λ b. b)
                    (lists_accepted R header_size [] (wholes ms) R ms x.lists i m e);
                placed = s.0;
                place = s.1;
                stands = s.2;
                in_list = rw f (overlay_at L.width L.encode sound.sized list (placements header_size ms) fits i
                    s.0 s.1);
              };
          past = rw (f, ← n) (overlay_past L.width L.encode sound.sized list (placements header_size ms) fits);
          as_long = rw f (length_overlay L.width L.encode sound.sized list 0 (placements header_size ms));
        }

    -- with list enough it is accepted
    more_list : (x k p : ℕ) → r.count ≡ k → (r.count ≡ 0 → ⊥)
        → Enough vs work bytes × (listed_to (length list / L.width) (listing vs file used) ≡ Refuse x k p)
        → (length list / L.width < r.count)
        × ((list₂ : List ℕ) → r.count ≤ length list₂ / L.width
        → (r₂ : Report) (list₂' : List ℕ) → ListCall vs L file used work bytes list₂ r₂ list₂'
        → r₂ ≡ answer 0 r.count used)
    more_list x k p n c (enough, h) =
        let y = refused_lists x k p h (λ z. c (n ∙ z)) in
        let R = y.0 in
        let ms = y.1 in
        let lists = y.2 in
        let is = y.3 in (
          omega (arith, y.4),
          λ list₂ l r₂ list₂' g.
              let a = list_accepts vs L file used work bytes list₂ enough R ms lists (omega arith) in
              g.report ∙ ap (list_report used) a ∙ ap (λ (z : ℕ). answer 0 z used) (sym (n ∙ is)),
        )

    of_list_by : (z : Result Messages) → list_result vs L file used work bytes list ≡ z
        → r ≡ list_report used z → list' ≡ list_after L list z
        → ((ms : Messages) → z ≡ Accept ms → listed_to (length list / L.width) (listing vs file used) ≡ Accept ms)
        → ((x k p : ℕ) → z ≡ Refuse x k p → (x ≡ no_room) ⊎ ByFile x)
        → ((x k p : ℕ) → z ≡ Refuse x k p → (k ≡ 0 → ⊥) → Enough vs work bytes
        × (listed_to (length list / L.width) (listing vs file used) ≡ Refuse x k p))
        → OfList vs L file used work bytes list r list'
    of_list_by (Accept ms) e q f accepts refuses counts = record {
      numbered = inl (ap (λ (z : Report). z.number) q);
      refused = λ h. absurd (h (ap (λ (z : Report). z.number) q));
      accepted = λ h. all_listed ms (accepts ms refl) q f;
      complete = λ enough R ns g l. ap (λ (z : Report). z.number) q;
      needed = λ h. absurd (omega (arith, ap (λ (z : Report). z.number) q));
    }
    of_list_by (Refuse x k p) e q f accepts refuses counts =
        let number : r.number ≡ x = ap (λ (z : Report). z.number) q in
        record {
          numbered = inr (⊎_elim (λ b. inl (number ∙ b))
              (λ b. inr (omega (arith, b.0), omega (arith, b.1))) (refuses x k p refl));
          refused = λ h. f;
          accepted = λ h. absurd (⊎_elim (λ b. omega arith) (λ b. omega (arith, b.0)) (refuses x k p refl));
          complete = λ enough R ns g l. let z = list_accepts vs L file used work bytes list enough R ns g l in never cc;
          needed = λ h c. more_list x k p (ap (λ (z : Report). z.count) q) c
              (counts x k p refl (λ z. c (ap (λ (z : Report). z.count) q ∙ z)));
        }

    pub of_list : ListCall vs L file used work bytes list r list' → OfList vs L file used work bytes list r list'
    of_list g = ⊎_elim lent little (memory vs work bytes)
      where
        z : Result Messages
        z = listed_to (length list / L.width) (listing vs file used)

        lent : Enough vs work bytes → OfList vs L file used work bytes list r list'
        lent enough =
            let e : list_result vs L file used work bytes list ≡ z = with_enough vs work bytes z enough in
            of_list_by z e (g.report ∙ ap (list_report used) e) (g.after ∙ ap (list_after L list) e)
            (λ ms h. h) (λ x k p h. listed_numbered x k p h) (λ x k p h c. (enough, h))

        little : (Enough vs work bytes → ⊥) → OfList vs L file used work bytes list r list'
        little h =
            let e : list_result vs L file used work bytes list ≡ Refuse no_room 0 0 =
            with_little vs work bytes z h in
            of_list_by (Refuse no_room 0 0) e (g.report ∙ ap (list_report used) e) (g.after ∙ ap (list_after L list) e)
            (λ ms q. never cc) (λ x k p q. inl (cc)) (λ x k p q c. absurd (c (cc)))

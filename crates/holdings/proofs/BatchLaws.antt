-- Laws of additions of many records: each step, how far it came, and what it leaves.
use Rattle.std.specs.Prelude.{◌≡◌, ◌⊎◌, List, [], ◌∷◌, ◌++◌, ℕ, zero, suc, ◌+◌, ◌-◌, ◌≤◌, length, take, drop}
use Rattle.std.proofs.Math.Path.{refl, ap}
use Rattle.std.proofs.Common.{sym, ◌∙◌, subst, inl, inr, ⊎_elim, append_assoc, append-nil, arith, length-append, take-take, drop-drop}
use Rattle.std.proofs.Math.Option.{none, some}
use Rattle.std.proofs.Math.ListN.{get_elem?}
use Rattle.flow.specs.RefusalNumbers.{cut_entry}
use Rattle.flow.specs.Flow.{stored}
use Rattle.record.proofs.Laws.Answering.{never}
use Rattle.holdings.specs.Files.{Rules, Versions, Lists}
use Rattle.holdings.specs.Answers.{Result, Accept, Refuse, Addition, listing_to_extend, addition, Batch, stopped}
use Rattle.holdings.specs.Answers.{took, additions}
use Rattle.holdings.specs.Terms.{Messages, Contains, SoundVersions, ShortensTo, ShortestOfOne, Extends}
use Rattle.holdings.specs.EntryLaws.{Entries}
use Rattle.holdings.proofs.EntryLaws.{elem_more}
use Rattle.holdings.proofs.AdditionLaws.{extend_within, AcceptedAddition, addition_accepted, new_to, with_new}
use Rattle.holdings.proofs.AdditionLaws.{at_most_one, addition_extends, addition_found}

-- ---- each step
module _ (vs : Versions) (file : List ℕ) (used : ℕ) where
  -- by what the addition of the first record gives
  abbrev additions_by : Entries → Result Addition → Batch
  additions_by os z = elim z [
    | Refuse x k p ↦ stopped file used x
    | Accept a ↦ took a.number (additions vs (stored file used a.new) (used + length a.new) os)
  ]

  pub additions_none : additions vs file used [] ≡ stopped file used 0
  unfolding additions
  additions_none = refl

  pub additions_cut : (os : Entries) → additions vs file used (none ∷ os) ≡ stopped file used cut_entry
  unfolding additions
  additions_cut os = refl

  pub additions_refused : (m : List ℕ) (os : Entries) (x k p : ℕ) → addition vs file used m ≡ Refuse x k p
      → additions vs file used (some m ∷ os) ≡ stopped file used x
  unfolding additions
  additions_refused m os x k p e = ap (additions_by os) e

  pub additions_taken : (m : List ℕ) (os : Entries) (a : Addition) → addition vs file used m ≡ Accept a
      → additions vs file used (some m ∷ os)
      ≡ took a.number (additions vs (stored file used a.new) (used + length a.new) os)
  unfolding additions
  additions_taken m os a e = ap (additions_by os) e

-- ---- the same after records taken before, by the numbers of their entries
abbrev pub took_all : List ℕ → Batch → Batch
took_all ns b = record { numbers = ns ++ b.numbers; file = b.file; used = b.used; refusal = b.refusal }

abbrev pub ended_with : (numbers file : List ℕ) (used : ℕ) → (refusal : ℕ) → Batch
ended_with ns file used x = record { numbers = ns; file = file; used = used; refusal = x }

took_one : (ns : List ℕ) (n : ℕ) (b : Batch) → took_all ns (took n b) ≡ took_all (ns ++ (n ∷ [])) b
took_one ns n b = ap (λ (l : List ℕ). record { numbers = l; file = b.file; used = b.used; refusal = b.refusal })
    (sym (append_assoc ns (n ∷ []) b.numbers))

took_stopped : (ns file : List ℕ) (used x : ℕ) → took_all ns (stopped file used x) ≡ ended_with ns file used x
took_stopped ns file used x = ap (λ (l : List ℕ). ended_with l file used x) (append-nil ns)

module _ (vs : Versions) (ns : List ℕ) (file : List ℕ) (used : ℕ) where
  pub batch_all : took_all ns (additions vs file used []) ≡ ended_with ns file used 0
  batch_all = ap (took_all ns) (additions_none vs file used) ∙ took_stopped ns file used 0

  pub batch_cut : (os : Entries) → took_all ns (additions vs file used (none ∷ os)) ≡ ended_with ns file used cut_entry
  batch_cut os = ap (took_all ns) (additions_cut vs file used os) ∙ took_stopped ns file used cut_entry

  pub batch_refused : (m : List ℕ) (os : Entries) (x k p : ℕ) → addition vs file used m ≡ Refuse x k p
      → took_all ns (additions vs file used (some m ∷ os)) ≡ ended_with ns file used x
  batch_refused m os x k p e =
      ap (took_all ns) (additions_refused vs file used m os x k p e) ∙ took_stopped ns file used x

  pub batch_taken : (m : List ℕ) (os : Entries) (a : Addition) → addition vs file used m ≡ Accept a
      → took_all ns (additions vs file used (some m ∷ os))
      ≡ took_all (ns ++ (a.number ∷ [])) (additions vs (stored file used a.new) (used + length a.new) os)
  batch_taken m os a e =
      ap (took_all ns) (additions_taken vs file used m os a e)
      ∙ took_one ns a.number (additions vs (stored file used a.new) (used + length a.new) os)

-- ---- files that grow by messages
module _ (vs : Versions) (R : Rules) where
  pub extends_self : (ms : Messages) (file : List ℕ) (used : ℕ) → listing_to_extend vs file used ≡ Lists R ms
      → Extends vs R ms [] file used file used
  extends_self ms file used e = record {
    was = e;
    lists = e ∙ ap (Lists R) (sym (append-nil ms));
    grown = omega arith;
    within = extend_within vs file used R ms e;
    front = refl;
    behind = refl;
    as_long = refl;
  }

  pub extends_twice : (ms ns ks : Messages) (file : List ℕ) (used : ℕ) (file₁ : List ℕ) (used₁ : ℕ) (file₂ : List ℕ)
      (used₂ : ℕ) → Extends vs R ms ns file used file₁ used₁ → Extends vs R (ms ++ ns) ks file₁ used₁ file₂ used₂
      → Extends vs R ms (ns ++ ks) file used file₂ used₂
  extends_twice ms ns ks file used file₁ used₁ file₂ used₂ x y = record {
    was = x.was;
    lists = y.lists ∙ ap (Lists R) (append_assoc ms ns ks);
    grown = omega (arith, x.grown, y.grown);
    within = y.within;
    front = sym (take-take used used₁ file₂ x.grown) ∙ ap (take used) y.front
        ∙ take-take used used₁ file₁ x.grown ∙ x.front;
    behind = y.behind ∙ past (used₂ - used₁) (omega (arith, y.grown));
    as_long = y.as_long ∙ x.as_long;
  }
    where
      past : (k : ℕ) → used₂ ≡ used₁ + k → drop used₂ file₁ ≡ drop used₂ file
      past k e = ap (λ (n : ℕ). drop n file₁) e ∙ sym (drop-drop k used₁ file₁) ∙ ap (drop k) x.behind
          ∙ drop-drop k used₁ file ∙ ap (λ (n : ℕ). drop n file) (sym e)

-- ---- what additions leave
-- the record of index i of the records os is taken: its shortest message has the number n
pub record TakenAs (vs : Versions) (R : Rules) (after : Messages) (os : Entries) (i n : ℕ) : Type 0 where
  pub message : List ℕ
  pub entry : get_elem? os i ≡ some (some message)
  pub written : List ℕ
  pub shortens : ShortensTo vs.newest R message written
  pub found : get_elem? after n ≡ some written

-- why they ended
pub data Ended (vs : Versions) (os : Entries) (b : Batch) : Type 0 where
  All : b.refusal ≡ 0 → length b.numbers ≡ length os → Ended vs os b
  AtCut : get_elem? os (length b.numbers) ≡ some none → b.refusal ≡ cut_entry → Ended vs os b
  AtRefused : (m : List ℕ) → get_elem? os (length b.numbers) ≡ some (some m) → (k p : ℕ)
      → addition vs b.file b.used m ≡ Refuse b.refusal k p → Ended vs os b

pub record Added (vs : Versions) (R : Rules) (before : Messages) (file : List ℕ) (used : ℕ) (os : Entries) (b : Batch)
    : Type 0 where
  pub more : Messages
  pub extends : Extends vs R before more file used b.file b.used
  -- where none is taken, nothing changes
  pub none_changes : length b.numbers ≡ 0 → (b.file ≡ file) × (b.used ≡ used)
  -- at most one message more for each record
  pub few : length more ≤ length b.numbers
  pub taken : (i n : ℕ) → get_elem? b.numbers i ≡ some n → TakenAs vs R (before ++ more) os i n
  -- each of them is the shortest message of one of the records taken
  pub origin : (w : List ℕ) → Contains more w → ShortestOfOne vs R os (length b.numbers) w
  pub ended : Ended vs os b

module _ (vs : Versions) (R : Rules) where
  none_taken : (ms : Messages) (file : List ℕ) (used : ℕ) (os : Entries) (x : ℕ)
      → listing_to_extend vs file used ≡ Lists R ms → Ended vs os (stopped file used x)
      → Added vs R ms file used os (stopped file used x)
  none_taken ms file used os x e end = record {
    more = [];
    extends = extends_self vs R ms file used e;
    none_changes = λ h. (refl, refl);
    few = omega arith;
    taken = λ i n q. never cc;
    origin = λ w h. let q = h.1 in never cc;
    ended = end;
  }

  -- one record was taken before
  later : (ms ns : Messages) (m : List ℕ) (os : Entries) (i n : ℕ) → TakenAs vs R ms os i n → ms ≡ ns
      → TakenAs vs R ns (some m ∷ os) (suc i) n
  later ms ns m os i n x e = record {
    message = x.message;
    entry = x.entry;
    written = x.written;
    shortens = x.shortens;
    found = ap (λ (l : Messages). get_elem? l n) (sym e) ∙ x.found;
  }

  ended_later : (m : List ℕ) (os : Entries) (n : ℕ) (b : Batch) → Ended vs os b → Ended vs (some m ∷ os) (took n b)
  ended_later m os n b (All z l) = All z (ap suc l)
  ended_later m os n b (AtCut e x) = AtCut e x
  ended_later m os n b (AtRefused w e k p x) = AtRefused w e k p x

  module _ (sound : SoundVersions vs) where
    module _ (ms : Messages) (file : List ℕ) (used : ℕ) (m : List ℕ) (os : Entries) (a : Addition)
        (x : AcceptedAddition vs R ms file used m a) (b : Batch)
        (y : Added vs R (with_new ms x.written) (stored file used a.new) (used + length a.new) os b) where
      abbrev new : Messages
      new = new_to ms x.written

      abbrev all : Messages
      all = ms ++ (new ++ y.more)

      new_short : length new ≤ 1
      new_short = ⊎_elim
          (λ e. omega (arith, ap length e))
          (λ e. omega (arith, ap length e))
          (at_most_one ms x.written)

      all_taken : (i n : ℕ) → get_elem? (a.number ∷ b.numbers) i ≡ some n → TakenAs vs R all (some m ∷ os) i n
      all_taken zero n q = record {
        message = m;
        entry = refl;
        written = x.written;
        shortens = x.shortens;
        found =
            let z : a.number ≡ n = cc in
            let f = addition_found vs sound R ms file used m a x in
            (λ i. get_elem? (sym (append_assoc ms new y.more) i) (sym z i))
            ∙ elem_more (with_new ms x.written) y.more a.number x.written f;
      }
      all_taken (suc i) n q =
          later (with_new ms x.written ++ y.more) all m os i n (y.taken i n q) (append_assoc ms new y.more)

      of_later : (v : List ℕ) → Contains y.more v
          → ShortestOfOne vs R (some m ∷ os) (suc (length b.numbers)) v
      of_later v h =
          let z = y.origin v h in
          record {
            index = suc z.index;
            below = omega (arith, z.below);
            message = z.message;
            entry = z.entry;
            shortens = z.shortens;
          }

      of_one : (new ≡ []) ⊎ (new ≡ x.written ∷ []) → (v : List ℕ) → Contains (new ++ y.more) v
          → ShortestOfOne vs R (some m ∷ os) (suc (length b.numbers)) v
      of_one (inl e) v (i, q) = of_later v (i, ap (λ (l : Messages). get_elem? (l ++ y.more) i) (sym e) ∙ q)
      of_one (inr e) v (zero, q) =
          let f = ap (λ (l : Messages). get_elem? (l ++ y.more) 0) e in
          let z : x.written ≡ v = cc in
          record {
            index = 0;
            below = omega arith;
            message = m;
            entry = refl;
            shortens = subst (ShortensTo vs.newest R m) z x.shortens;
          }
      of_one (inr e) v (suc i, q) = of_later v (i, ap (λ (l : Messages). get_elem? (l ++ y.more) (suc i)) (sym e) ∙ q)

      one_taken : Added vs R ms file used (some m ∷ os) (took a.number b)
      one_taken = record {
        more = new ++ y.more;
        extends = extends_twice vs R ms new y.more file used
            (stored file used a.new) (used + length a.new) b.file b.used
            (addition_extends vs sound R ms file used m a x) y.extends;
        none_changes = λ h. absurd (omega arith);
        few = omega (arith, y.few, length-append new y.more, new_short);
        taken = all_taken;
        origin = of_one (at_most_one ms x.written);
        ended = ended_later m os a.number b y.ended;
      }

    pub additions_added : (os : Entries) (ms : Messages) (file : List ℕ) (used : ℕ)
        → listing_to_extend vs file used ≡ Lists R ms → Added vs R ms file used os (additions vs file used os)
    additions_added [] ms file used e =
        subst (Added vs R ms file used []) (sym (additions_none vs file used))
        (none_taken ms file used [] 0 e (All refl refl))
    additions_added (none ∷ os) ms file used e =
        subst (Added vs R ms file used (none ∷ os)) (sym (additions_cut vs file used os))
        (none_taken ms file used (none ∷ os) cut_entry e (AtCut refl refl))
    additions_added (some m ∷ os) ms file used e = go (addition vs file used m) refl
        (λ ns f u q. additions_added os ns f u q)
      where
        go : (z : Result Addition) → addition vs file used m ≡ z
            → ((ns : Messages) (f : List ℕ) (u : ℕ) → listing_to_extend vs f u ≡ Lists R ns
            → Added vs R ns f u os (additions vs f u os))
            → Added vs R ms file used (some m ∷ os) (additions vs file used (some m ∷ os))
        go (Refuse x k p) q rest =
            subst (Added vs R ms file used (some m ∷ os)) (sym (additions_refused vs file used m os x k p q))
            (none_taken ms file used (some m ∷ os) x e (AtRefused m refl k p q))
        go (Accept a) q rest =
            let x = addition_accepted vs file used m a R ms e q in
            let file₁ = stored file used a.new in
            let used₁ = used + length a.new in
            let now = addition_extends vs sound R ms file used m a x in
            subst (Added vs R ms file used (some m ∷ os)) (sym (additions_taken vs file used m os a q))
            (one_taken ms file used m os a x (additions vs file₁ used₁ os)
            (rest (with_new ms x.written) file₁ used₁ now.lists))

-- Records added in any order.
use Rattle.std.specs.Prelude.{◌≡◌, refl, ◌↔◌, List, [], ◌∷◌, ◌++◌, ℕ, zero, suc, ◌+◌, ◌≤◌, length, take, drop}
use Rattle.std.proofs.Common.{sym, ◌∙◌, ap, subst, inl, inr, ⊎_elim, arith, length-drop, length-take-le}
use Rattle.std.proofs.Math.Option.{Option, some}
use Rattle.std.proofs.Math.ListN.{get_elem?}
use Rattle.flow.specs.Tests.{split}
use Rattle.flow.specs.Flow.{Report}
use Rattle.record.proofs.Laws.Answering.{never}
use Rattle.holdings.specs.Files.{Rules, Versions, header_size, length_size, entries_in, Listing, Lists, Faulty}
use Rattle.holdings.specs.Answers.{listing_to_extend, AddAllCall}
use Rattle.holdings.specs.Terms.{Messages, Contains, Distinct, ShortestOfOne, SoundVersions, Enough}
use Rattle.holdings.proofs.EntryLaws.{elem_inside}
use Rattle.holdings.proofs.FileLaws.{size_of, entries_size}
use Rattle.holdings.proofs.AdditionLaws.{Extendable, New, Old, extendable}
use Rattle.holdings.proofs.NumberLaws.{extend_numbered}
use Rattle.holdings.specs.Theorems.{AfterAll, OfAddAll, OneOf, AnyOrder}
use Rattle.holdings.proofs.Proved.ListCalls.{memory}
use Rattle.holdings.proofs.Proved.AddAllCalls.{of_add_all}

-- ---- different messages that are all among others take up no more bytes
abbrev without : Messages → ℕ → Messages
without [] j = []
without (x ∷ ns) zero = ns
without (x ∷ ns) (suc j) = x ∷ without ns j

size_without : (ns : Messages) (j : ℕ) (m : List ℕ) → get_elem? ns j ≡ some m
    → size_of ns ≡ length_size + length m + size_of (without ns j)
size_without [] j m e = never cc
size_without (x ∷ ns) zero m e = let q : x ≡ m = cc in ap (λ (z : List ℕ). length_size + length z + size_of ns) q
size_without (x ∷ ns) (suc j) m e = omega (arith, size_without ns j m e)

contains_without : (ns : Messages) (j k : ℕ) (m w : List ℕ) → get_elem? ns j ≡ some m → get_elem? ns k ≡ some w
    → (w ≡ m → ⊥) → Contains (without ns j) w
contains_without [] j k m w e f h = never cc
contains_without (x ∷ ns) zero zero m w e f h = absurd (h (cc))
contains_without (x ∷ ns) zero (suc k) m w e f h = (k, f)
contains_without (x ∷ ns) (suc j) zero m w e f h = (0, f)
contains_without (x ∷ ns) (suc j) (suc k) m w e f h =
    let z = contains_without ns j k m w e f h in (suc z.0, z.1)

size_within : (ms ns : Messages) → Distinct ms → ((w : List ℕ) → Contains ms w → Contains ns w)
    → size_of ms ≤ size_of ns
size_within [] ns d c = omega arith
size_within (m ∷ ms) ns d c =
    let j = c m (0, refl) in
    omega (arith, size_without ns j.0 m j.1, size_within ms (without ns j.0) fewer others)
  where
    fewer : Distinct ms
    fewer i k w e f = let z = d (suc i) (suc k) w e f in omega arith

    others : (w : List ℕ) → Contains ms w → Contains (without ns (c m (0, refl)).0) w
    others w (i, e) =
        let j = c m (0, refl) in
        let k = c w (suc i, e) in
        contains_without ns j.0 k.0 m w j.1 k.1
        (λ q. omega (arith, d 0 (suc i) m refl (e ∙ ap {B = Option (List ℕ)} some q)))

-- ---- a call that takes all its records
record TookAll (vs : Versions) (file : List ℕ) (used : ℕ) : Type 0 where
  records : List ℕ
  list : List ℕ
  report : Report
  file' : List ℕ
  list' : List ℕ
  left : AfterAll vs file used records list report file' list'
  all : report.number ≡ 0

-- it checked the file
module _ (vs : Versions) (sound : SoundVersions vs) (file : List ℕ) (used : ℕ) (records work bytes list : List ℕ)
    (r : Report) (file' list' : List ℕ) (g : AddAllCall vs file used records work bytes list r file' list')
    (all : r.number ≡ 0) where
  took_all_law : AfterAll vs file used records list r file' list'
  took_all_law = ⊎_elim
      (λ enough. go enough (listing_to_extend vs file used) refl)
      (λ h. let z = ap (λ (s : Report). s.number) (of.little_memory h).0 in absurd (omega arith))
      (memory vs work bytes)
    where
      of : OfAddAll vs file used records work bytes list r file' list'
      of = of_add_all vs sound file used records list r file' list' work bytes g

      go : Enough vs work bytes → (l : Listing) → listing_to_extend vs file used ≡ l
          → AfterAll vs file used records list r file' list'
      go enough (Lists R ms) e = of.checked enough R ms e
      go enough (Faulty x p) e =
          let z = ap (λ (s : Report). s.number) (of.faulty_file enough x p e).0 in
          absurd (omega (arith, (extend_numbered vs file used x p e).0))

module _ {vs : Versions} {file : List ℕ} {used : ℕ} (x : TookAll vs file used) where
  abbrev place : ℕ
  place = x.report.place

  abbrev rules : Rules
  rules = x.left.rules

  abbrev before : Messages
  before = x.left.before

  abbrev after : Messages
  after = x.left.before ++ x.left.more

  lists : listing_to_extend vs x.file' x.report.place ≡ Lists rules after
  lists = x.left.grown.extends.lists

  -- the used length is that of the header and the entries, or 0
  used_size : (place ≡ 0 → ⊥) → place ≡ header_size + size_of after
  used_size z = go (extendable vs x.file' place rules after lists)
    where
      go : Extendable vs x.file' place rules after → place ≡ header_size + size_of after
      go (New u q n) = absurd (z u)
      go (Old h l y) = omega (
        arith,
        entries_size (drop header_size (take place x.file')) after y.entries,
        length-drop header_size (take place x.file'),
        length-take-le place x.file' l,
      )

-- ---- two such calls, of which the second has all records of the first
module _ {vs : Versions} {file : List ℕ} {used : ℕ} (x y : TookAll vs file used) where
  same_rules : rules x ≡ rules y
  same_rules = let a = x.left.grown.extends.was in let b = y.left.grown.extends.was in cc

  same_before : before x ≡ before y
  same_before = let a = x.left.grown.extends.was in let b = y.left.grown.extends.was in cc

  module _ (same : (m : List ℕ) → OneOf x.records m → OneOf y.records m) where
    shortest_among : (w : List ℕ) → ShortestOfOne vs (rules x) (entries_in x.records) x.report.count w
        → ShortestOfOne vs (rules y) (entries_in y.records) y.report.count w
    shortest_among w s =
        let o = same s.message (s.index, s.entry) in
        let l = elem_inside (entries_in y.records) o.0 (some s.message) o.1 in
        record {
          index = o.0;
          below = omega (arith, y.left.all y.all);
          message = s.message;
          entry = o.1;
          shortens = rw same_rules at s.shortens;
        }

    held_then : (w : List ℕ) → Contains (after x) w → Contains (after y) w
    held_then w c = (y.left.holds y.all w).1 (⊎_elim
        (λ d. inl (subst (λ (l : Messages). Contains l w) same_before d))
        (λ d. inr (shortest_among w d))
        ((x.left.holds x.all w).0 c))

    held_size : size_of (after x) ≤ size_of (after y)
    held_size = size_within (after x) (after y) x.left.grown.distinct held_then

    -- where the second leaves a used length of 0, so does the first
    used_none : place y ≡ 0 → place x ≡ 0
    used_none z = split 0 x.report.count
        (λ h.
        let t = x.left.taken 0 h in
        go (extendable vs y.file' (place y) (rules y) (after y) (lists y))
        t.written (held_then t.written (t.number, t.found.found)))
        (λ h. omega (arith, (x.left.none_taken (omega arith)).1, y.left.grown.extends.grown))
      where
        go : Extendable vs y.file' (place y) (rules y) (after y) → (w : List ℕ) → Contains (after y) w
            → place x ≡ 0
        go (New u q n) w (i, e) = let f = ap (λ (l : Messages). get_elem? l i) n in never cc
        go (Old u l s) w c = absurd (omega arith)

-- ---- two calls with the same records
module _ {vs : Versions} {file : List ℕ} {used : ℕ} (x y : TookAll vs file used)
    (same : (m : List ℕ) → OneOf x.records m ↔ OneOf y.records m) where
  same_used : place x ≡ place y
  same_used = split 0 (place x)
      (λ h. split 0 (place y)
      (λ k. omega (
        arith,
        used_size x (λ z. omega arith),
        used_size y (λ z. omega arith),
        held_size x y (λ m. (same m).0),
        held_size y x (λ m. (same m).1),
      ))
      (λ k. omega (arith, used_none x y (λ m. (same m).0) (omega arith))))
      (λ h. omega (arith, used_none y x (λ m. (same m).1) (omega arith)))

  same_messages : (ms ns : Messages) → after x ≡ ms → after y ≡ ns → (w : List ℕ) → Contains ms w ↔ Contains ns w
  same_messages ms ns e f w = (
    (λ c. subst (λ (l : Messages). Contains l w) f
        (held_then x y (λ m. (same m).0) w (subst (λ (l : Messages). Contains l w) (sym e) c))),
    (λ c. subst (λ (l : Messages). Contains l w) e
        (held_then y x (λ m. (same m).1) w (subst (λ (l : Messages). Contains l w) (sym f) c))),
  )

pub any_order : (vs : Versions) → SoundVersions vs → AnyOrder vs
any_order vs sound file used records₁ work₁ bytes₁ list₁ r₁ file₁ list₁' g₁ all₁
    records₂ work₂ bytes₂ list₂ r₂ file₂ list₂' g₂ all₂ same R₁ R₂ ms₁ ms₂ e₁ e₂ =
    let x : TookAll vs file used = record {
      records = records₁;
      list = list₁;
      report = r₁;
      file' = file₁;
      list' = list₁';
      left = took_all_law vs sound file used records₁ work₁ bytes₁ list₁ r₁ file₁ list₁' g₁ all₁;
      all = all₁;
    } in
    let y : TookAll vs file used = record {
      records = records₂;
      list = list₂;
      report = r₂;
      file' = file₂;
      list' = list₂';
      left = took_all_law vs sound file used records₂ work₂ bytes₂ list₂ r₂ file₂ list₂' g₂ all₂;
      all = all₂;
    } in
    let a = lists x in
    let b = lists y in
    let q = same_rules x y in
    let is₁ : after x ≡ ms₁ = cc in
    let is₂ : after y ≡ ms₂ = cc in
    (cc, same_messages x y same ms₁ ms₂ is₁ is₂, same_used x y same)

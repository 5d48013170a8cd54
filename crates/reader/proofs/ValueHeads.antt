-- A value's head by its first byte: what the contracts of `opening`, `usual_leaf` and `head_at` ask at each way out, one
-- law for each.
use Rattle.std.proofs.Common.{◌≡◌, ℕ, ◌+◌, ◌<◌, ◌≤◌, false, T, eqb, List, [], ◌∷◌, length, get_or, sym, refl, ap, ◌∙◌, subst, arith, ne_eqb}
use Rattle.std.specs.Prelude.{Result, Ok, Err}
use types.Run.{OneOf, miss}
use denote.Enum.Declared.{tag_of}
use Rattle.flow.specs.Tests.{pick_either}
use Rattle.scalar.specs.declared.Sort.{Sort}
use Rattle.scalar.specs.declared.Sort.TheVariants.{Int, Long}
use Rattle.scalar.specs.declared.Lead.{Lead}
use Rattle.scalar.specs.declared.Lead.TheVariants as lead
use Rattle.scalar.specs.declared.refusals.Refused.{Refused}
use Rattle.scalar.specs.declared.refusals.Refusal.TheVariants as refusal
use Rattle.scalar.specs.Chart.{lead_of}
use Rattle.scalar.proofs.ChartLaws.{int_lead, long_lead, text_lead, definition_lead}
use Rattle.scalar.proofs.ScalarLaws.{is_scalar, close_shut, reserved_shut}
use Rattle.scalar.specs.contracts.Lead.{the_type}
use Rattle.record.specs.declared.Group.TheVariants.{Pairs}
use Rattle.record.specs.Model.Items.{Known}
use Rattle.record.specs.Model.Reading.{ValueHead, leaf}
use Rattle.record.specs.Model.Answers.{base}
use Rattle.record.proofs.ForReader.ReadingAt.{run_end}
use Rattle.record.proofs.ForReader.ChartHeads.{form_by}
use Rattle.record.proofs.ForReader.ReadValues.{holds, form_full, leaf_none}
use Rattle.record.specs.ForReader.ReadDefinitions.{below, plain}
use Rattle.record.proofs.ForReader.ReadDefinitions.{below_none}
use Rattle.reader.specs.declared.heads.TypeItem.TheVariants.{Untyped}
use Rattle.reader.specs.declared.heads.Leaf.{Leaf}
use Rattle.reader.specs.declared.heads.Head.{Head}
use Rattle.reader.specs.declared.heads.Head.TheVariants as head
use Rattle.reader.specs.Promises.{leaf_of, refused, PlaceIn, LeadAt, IsListOrMap, HeadIs, NoDefinition}
use Rattle.reader.specs.Promises.{HeadAtMet, LeafHeadMet, PlainHeadMet, HolderHeadMet, UsualLeaf}
use Rattle.reader.proofs.Leaves.{byte_small, lead_at_form, lead_at_lost, number_head_is, text_head_is, bytes_head_is}
use Rattle.numbers.specs.declared.NumberPassed.{NumberPassed}
use Rattle.numbers.specs.Answers.{passed}
use Rattle.texts.specs.declared.StringPassed.{StringPassed}
use Rattle.texts.specs.Answers.{PassedMet}
use Rattle.scalar.specs.declared.Encoding.TheVariants.{Utf8, Binary}
use Rattle.scalar.specs.Scalars.{sort_kind}
use Rattle.scalar.specs.Answers.{number_at}
use Rattle.record.specs.declared.kinds.Kind.{Kind}
use Rattle.record.specs.declared.kinds.Kind.TheVariants as kind
use Rattle.record.specs.Model.KindNumbers.{kind_number}
use Rattle.reader.proofs.Holders.{map_is}

-- ---- by the variant that a `match` passed
pub lead_at_as : (m : List ℕ) (p : ℕ) (l : Lead) → LeadAt m p l → (x : Lead) → l ≡ x → LeadAt m p x
lead_at_as m p l h x e = subst (LeadAt m p) e h

pub lead_at_by : (m : List ℕ) (p : ℕ) → PlaceIn m p → p < length m → (l : Lead) → l ≡ lead_of (get_or m p 0) → (x : Lead)
    → l ≡ x → LeadAt m p x
lead_at_by m p a i l is x e = record { bytes = a.bytes; inside = i; lead = sym is ∙ e }

-- ---- by the numbers of variants: lists and maps; those but for the three with arms of their own; those that open
-- nothing
abbrev holders : List ℕ
holders = 3 ∷ 4 ∷ 5 ∷ 6 ∷ []

abbrev others : List ℕ
others = 0 ∷ 1 ∷ 2 ∷ 6 ∷ 7 ∷ 8 ∷ 9 ∷ 10 ∷ 11 ∷ []

abbrev valueless : List ℕ
valueless = 10 ∷ 11 ∷ []

pub held_left : (l : Lead) → OneOf holders (tag_of the_type l) → IsListOrMap l
held_left (lead.Number s) t = miss holders 0 tt t
held_left lead.Text t = miss holders 1 tt t
held_left lead.Bytes t = miss holders 2 tt t
held_left lead.List t = tt
held_left lead.TypedList t = tt
held_left lead.Map t = tt
held_left lead.TypedMap t = tt
held_left lead.Object t = miss holders 7 tt t
held_left lead.Reference t = miss holders 8 tt t
held_left lead.Definition t = miss holders 9 tt t
held_left lead.Close t = miss holders 10 tt t
held_left lead.Reserved t = miss holders 11 tt t

pub map_left : (m : List ℕ) (p : ℕ) (l : Lead) → LeadAt m p l → IsListOrMap l → OneOf others (tag_of the_type l)
    → LeadAt m p lead.TypedMap
map_left m p lead.List h i t = absurd (miss others 3 tt t)
map_left m p lead.TypedList h i t = absurd (miss others 4 tt t)
map_left m p lead.Map h i t = absurd (miss others 5 tt t)
map_left m p lead.TypedMap h i t = h
map_left m p lead.Object h i t = absurd i
map_left m p (lead.Number s) h i t = absurd i
map_left m p lead.Text h i t = absurd i
map_left m p lead.Bytes h i t = absurd i
map_left m p lead.Reference h i t = absurd i
map_left m p lead.Definition h i t = absurd i
map_left m p lead.Close h i t = absurd i
map_left m p lead.Reserved h i t = absurd i

-- ---- a list, map or object
holding_form : (l : Lead) (b : ℕ) → IsListOrMap l → T (holds (form_by l b))
holding_form (lead.Number s) b i = absurd i
holding_form lead.Text b i = absurd i
holding_form lead.Bytes b i = absurd i
holding_form lead.List b i =
    pick_either (λ (f : ValueHead). T (holds f)) (eqb b 0x57) (λ y. tt)
    (λ y. pick_either (λ (f : ValueHead). T (holds f)) (eqb b 0x58) (λ z. tt) (λ z. tt))
holding_form lead.TypedList b i =
    pick_either (λ (f : ValueHead). T (holds f)) (eqb b 0x55) (λ y. tt)
    (λ y. pick_either (λ (f : ValueHead). T (holds f)) (eqb b 0x56) (λ z. tt) (λ z. tt))
holding_form lead.Map b i = tt
holding_form lead.TypedMap b i = tt
holding_form lead.Object b i = absurd i
holding_form lead.Reference b i = absurd i
holding_form lead.Definition b i = absurd i
holding_form lead.Close b i = absurd i
holding_form lead.Reserved b i = absurd i

-- ---- whatever opens a value is not 43
abbrev Plain : Lead → Type 0
Plain (lead.Number s) = Unit {0}
Plain lead.Text = Unit {0}
Plain lead.Bytes = Unit {0}
Plain lead.List = Unit {0}
Plain lead.TypedList = Unit {0}
Plain lead.Map = Unit {0}
Plain lead.TypedMap = Unit {0}
Plain lead.Object = Unit {0}
Plain lead.Reference = Unit {0}
Plain lead.Definition = ⊥
Plain lead.Close = Unit {0}
Plain lead.Reserved = Unit {0}

no_definition : (m : List ℕ) (p : ℕ) (x : Lead) → LeadAt m p x → Plain x → NoDefinition m p
no_definition m p x h i l =
    ne_eqb (get_or m p 0) 0x43 (λ e. subst Plain (sym h.lead ∙ ap lead_of e ∙ definition_lead) i)

module _ (d : ℕ) (m : List ℕ) (c : Known) (p : ℕ) where
  full : (l : Lead) → LeadAt m p l → T (holds (form_by l (get_or m p 0))) → d ≡ 0 → HeadIs m c p d (Err (refused refusal.Ceiling p))
  full l h i e =
      lead_at_lost m p l h d c (refused refusal.Ceiling p) (form_full base (below base d) c m p h.inside (form_by l (get_or m p 0))
      (lead_at_form m p l h) i (below_none base d e))

  pub opens_none : (l : Lead) → LeadAt m p l → IsListOrMap l → d ≡ 0 → HeadIs m c p d (Err (refused refusal.Ceiling p))
  opens_none l h i e = full l h (holding_form l (get_or m p 0) i) e

  pub opens_one : (r : Result Head Refused) → HolderHeadMet m c p r → (d ≡ 0 → ⊥) → HeadIs m c p d r
  opens_one r h z = h.heads d (omega arith)

  pub opens_map : (l : Lead) → LeadAt m p l → l ≡ lead.Map → (d ≡ 0 → ⊥)
      → HeadIs m c p d (Ok (head.Holder Pairs (p + 1) Untyped))
  opens_map l h e z =
      opens_one (Ok (head.Holder Pairs (p + 1) Untyped)) (map_is m c p (lead_at_as m p l h lead.Map e)) z

  -- ---- whatever stands at p
  value : (r : Result Head Refused) → HeadIs m c p d r → NoDefinition m p → HeadAtMet m c p d r
  value (Ok (head.Leaf l)) h u = record { says = (h, u) }
  value (Ok (head.Holder g q of)) h u = record { says = (h, u) }
  value (Ok head.Definition) h u = absurd h.goes
  value (Err r) h u = record { says = (h, u) }

  pub head_off : length m ≤ p → HeadAtMet m c p d (Err (refused refusal.Cut p))
  head_off l = record {
    says = (record { says = run_end (plain base d) c m p l; goes = tt; named = tt }, λ i. absurd (omega arith));
  }

  module _ (a : PlaceIn m p) (i : p < length m) (l : Lead) (is : l ≡ lead_of (get_or m p 0)) where
    lead_here : (x : Lead) → l ≡ x → LeadAt m p x
    lead_here x e = lead_at_by m p a i l is x e

    leaf_at : (x : Lead) → Plain x → l ≡ x → (r : Result Head Refused) → LeafHeadMet m p r → HeadAtMet m c p d r
    leaf_at x t e r h = value r (h.heads d c) (no_definition m p x (lead_here x e) t)

    pub head_number : (s : Sort) → l ≡ lead.Number s → (r : Result Head Refused) → LeafHeadMet m p r → HeadAtMet m c p d r
    head_number s = leaf_at (lead.Number s) tt

    pub head_text : l ≡ lead.Text → (r : Result Head Refused) → LeafHeadMet m p r → HeadAtMet m c p d r
    head_text = leaf_at lead.Text tt

    pub head_bytes : l ≡ lead.Bytes → (r : Result Head Refused) → LeafHeadMet m p r → HeadAtMet m c p d r
    head_bytes = leaf_at lead.Bytes tt

    pub head_reference : l ≡ lead.Reference → (r : Result Head Refused) → PlainHeadMet m c p r → HeadAtMet m c p d r
    head_reference e r h = value r (h.heads d) (no_definition m p lead.Reference (lead_here lead.Reference e) tt)

    pub head_full : l ≡ lead.Object → d ≡ 0 → HeadAtMet m c p d (Err (refused refusal.Ceiling p))
    head_full e z =
        let h = lead_here lead.Object e in
        let t : T (holds (form_by lead.Object (get_or m p 0))) =
        pick_either (λ (f : ValueHead). T (holds f)) (eqb (get_or m p 0) 0x4f) (λ y. tt) (λ y. tt) in
        value (Err (refused refusal.Ceiling p)) (full lead.Object h t z) (no_definition m p lead.Object h tt)

    pub head_object : l ≡ lead.Object → (d ≡ 0 → ⊥) → (r : Result Head Refused) → HolderHeadMet m c p r → HeadAtMet m c p d r
    head_object e z r h = value r (opens_one r h z) (no_definition m p lead.Object (lead_here lead.Object e) tt)

    pub head_opening : OneOf holders (tag_of the_type l) → (r : Result Head Refused) → HeadIs m c p d r → HeadAtMet m c p d r
    head_opening t r h = value r h (no_definition m p l (lead_here l refl) (go l t))
      where
        go : (l : Lead) → OneOf holders (tag_of the_type l) → Plain l
        go (lead.Number s) t = tt
        go lead.Text t = tt
        go lead.Bytes t = tt
        go lead.List t = tt
        go lead.TypedList t = tt
        go lead.Map t = tt
        go lead.TypedMap t = tt
        go lead.Object t = tt
        go lead.Reference t = tt
        go lead.Definition t = miss holders 9 tt t
        go lead.Close t = tt
        go lead.Reserved t = tt

    -- a byte that opens nothing
    pub head_none : OneOf valueless (tag_of the_type l) → HeadAtMet m c p d (Err (refused refusal.Byte p))
    head_none t = go l (lead_here l refl) t
      where
        none : (l : Lead) (h : LeadAt m p l) → Plain l → form_by l (get_or m p 0) ≡ leaf → is_scalar (get_or m p 0) ≡ false
            → HeadAtMet m c p d (Err (refused refusal.Byte p))
        none l h u f s =
            value (Err (refused refusal.Byte p)) (lead_at_lost m p l h d c (refused refusal.Byte p) (leaf_none base (below base d) c m p i
            (lead_at_form m p l h ∙ f) s)) (no_definition m p l h u)

        go : (l : Lead) → LeadAt m p l → OneOf valueless (tag_of the_type l) → HeadAtMet m c p d (Err (refused refusal.Byte p))
        go (lead.Number s) h t = absurd (miss valueless 0 tt t)
        go lead.Text h t = absurd (miss valueless 1 tt t)
        go lead.Bytes h t = absurd (miss valueless 2 tt t)
        go lead.List h t = absurd (miss valueless 3 tt t)
        go lead.TypedList h t = absurd (miss valueless 4 tt t)
        go lead.Map h t = absurd (miss valueless 5 tt t)
        go lead.TypedMap h t = absurd (miss valueless 6 tt t)
        go lead.Object h t = absurd (miss valueless 7 tt t)
        go lead.Reference h t = absurd (miss valueless 8 tt t)
        go lead.Definition h t = absurd (miss valueless 9 tt t)
        go lead.Close h t = none lead.Close h tt refl (close_shut (get_or m p 0) h.lead)
        go lead.Reserved h t = none lead.Reserved h tt refl (reserved_shut (get_or m p 0) h.lead)

-- ---- a usual leaf: where it stands, by its first byte; its head
module _ (m : List ℕ) (p : ℕ) (a : PlaceIn m p) (i : p < length m) (b : ℕ) (is : b ≡ get_or m p 0) where
  pub usual_long : 0xd8 ≤ b → LeadAt m p (lead.Number Long)
  usual_long l = record {
    bytes = a.bytes;
    inside = i;
    lead = long_lead (get_or m p 0) (omega (arith, is)) (byte_small m p a.bytes);
  }

  pub usual_int : 0x80 ≤ b → b < 0xd8 → LeadAt m p (lead.Number Int)
  usual_int u l = record {
    bytes = a.bytes;
    inside = i;
    lead = int_lead (get_or m p 0) (omega (arith, is, u)) (omega (arith, is));
  }

  pub usual_text : b < 0x20 → LeadAt m p lead.Text
  usual_text l = record { bytes = a.bytes; inside = i; lead = text_lead (get_or m p 0) (omega (arith, is)) }

module _ (m : List ℕ) (p : ℕ) where
  usual : (x : Leaf) (l : Lead) → LeadAt m p l → Plain l → LeafHeadMet m p (Ok (head.Leaf x)) → UsualLeaf m p x
  usual x l h t z = record {
    heads = λ c d. value d m c p (Ok (head.Leaf x)) (z.heads d c) (no_definition m p l h t);
  }

  pub number_is_usual : (s : Sort) → LeadAt m p (lead.Number s) → (k : Kind) → kind_number k ≡ sort_kind s
      → (n : NumberPassed) → passed (Ok n) ≡ number_at s m p → UsualLeaf m p (leaf_of k n.value 0 (p + n.size))
  number_is_usual s h k e n t =
      usual (leaf_of k n.value 0 (p + n.size)) (lead.Number s) h tt (number_head_is s m p h k e n t)

  pub text_is_usual : LeadAt m p lead.Text → (x : StringPassed) → PassedMet Utf8 m p (Ok x)
      → UsualLeaf m p (leaf_of kind.Text x.units x.bytes (p + x.size))
  text_is_usual h x t =
      usual (leaf_of kind.Text x.units x.bytes (p + x.size)) lead.Text h tt (text_head_is m p h x t)

  pub bytes_are_usual : LeadAt m p lead.Bytes → (x : StringPassed) → PassedMet Binary m p (Ok x)
      → UsualLeaf m p (leaf_of kind.Bytes x.bytes 0 (p + x.size))
  bytes_are_usual h x t =
      usual (leaf_of kind.Bytes x.bytes 0 (p + x.size)) lead.Bytes h tt (bytes_head_is m p h x t)

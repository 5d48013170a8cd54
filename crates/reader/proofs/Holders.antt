-- The heads of lists, maps and objects: what the contracts ask at each way out, one law for each.
use Rattle.std.proofs.Common.{◌≡◌, ℕ, ◌+◌, ◌-◌, ◌^◌, ◌<◌, ◌≤◌, T, eqb, zero, suc, List, [], ◌∷◌, length, get_or, sym, refl, ap, ◌∙◌, inl, inr, arith, eq-eqb, ne_eqb, eqb-true}
use Rattle.std.specs.Prelude.{Result, Ok, Err, Some, None, slice_get}
use Rattle.std.specs.declared.option.Option as code-option
use mathlib.Core.Option.{Option, none, some}
use borrow.Author.Tests.{eqb-false}
use Rattle.scalar.specs.Scalars.{Floats}
use Rattle.flow.specs.Flow.{pick, Done, One, byte_at}
use Rattle.flow.specs.Tests.{pick_true, pick_false, pick_either, by_cases}
use Rattle.scalar.specs.declared.Sort.TheVariants.{Int}
use Rattle.scalar.specs.declared.refusals.Refused.{Refused}
use Rattle.scalar.specs.declared.refusals.Refusal.TheVariants as refusal
use Rattle.scalar.specs.Refusals.{number_of, fault}
use Rattle.numbers.specs.declared.NumberPassed.{NumberPassed}
use Rattle.scalar.specs.declared.Lead.{Lead}
use Rattle.scalar.specs.declared.Lead.TheVariants as lead
use Rattle.scalar.proofs.ChartLaws.{list_byte, typed_list_byte, object_byte}
use Rattle.scalar.specs.Answers.{number_at}
use Rattle.numbers.specs.Answers.{passed}
use Rattle.record.specs.declared.Group.{Group}
use Rattle.record.specs.declared.Group.TheVariants.{Counted, Fields, Open, Pairs}
use Rattle.record.specs.Model.Items.{Known, opened}
use Rattle.record.specs.Model.Reading.{Opening, type_from, plain_from, value_from}
use Rattle.record.specs.Model.Reading.{ValueHead, few, few_of_type, few_fields, counted, counted_typed_head, open_list_head}
use Rattle.record.specs.Model.Reading.{open_typed_head, object}
use Rattle.record.specs.Model.Reading.{head_of}
use Rattle.record.specs.Model.Answers.{base}
use Rattle.record.specs.ForReader.ReadingAt.{ReadingAt, ReadTo, RefusedAt, run, front, topped}
use Rattle.record.proofs.ForReader.ReadingAt.{front_none}
use Rattle.record.specs.ForReader.ReadLoops.{rest}
use Rattle.record.proofs.ForReader.ChartHeads.{form_by}
use Rattle.record.specs.ForReader.ReadValues.{heading}
use Rattle.record.proofs.ForReader.ReadValues.{has_type, form_few, form_open, form_map, form_counted}
use Rattle.record.proofs.ForReader.ReadValues.{form_counted_negative}
use Rattle.record.proofs.ForReader.ReadValues.{form_counted_lost, form_few_object, form_few_object_ungiven, form_object}
use Rattle.record.proofs.ForReader.ReadValues.{form_object_ungiven, form_object_lost, form_type_lost, form_few_typed}
use Rattle.record.proofs.ForReader.ReadValues.{form_open_typed}
use Rattle.record.proofs.ForReader.ReadValues.{form_typed_map, form_counted_typed, form_counted_typed_negative}
use Rattle.record.proofs.ForReader.ReadValues.{form_counted_typed_lost}
use Rattle.record.specs.ForReader.ReadDefinitions.{below}
use Rattle.record.proofs.ForReader.ReadDefinitions.{below_some}
use Rattle.reader.specs.declared.heads.TypeItem.{TypeItem}
use Rattle.reader.specs.declared.heads.TypeItem.TheVariants.{Untyped}
use Rattle.reader.specs.declared.heads.Head.{Head}
use Rattle.reader.specs.declared.heads.Head.TheVariants as head
use Rattle.reader.specs.declared.heads.TypeRead.{TypeRead}
use Rattle.reader.specs.Promises.{refused, lost, LeadAt, CountSays, type_rows, typed_by, TypeIs}
use Rattle.reader.specs.Promises.{TypeReadMet, HolderHeadMet, holder_of, as_option, ListAt, ListMet, instance_by}
use Rattle.reader.specs.Promises.{instance_of}
use Rattle.reader.proofs.Leaves.{byte_small, number_room, lead_at_form, lead_at_run, lead_at_lost}

-- ---- a list by its first byte
module _ (m : List ℕ) (b code least : ℕ) (of : TypeItem) (p : ℕ) where
  pub list_opens : b ≡ code → ListMet m p of b code least (Ok (head.Holder Open p of))
  list_opens e = record { opens = λ q. refl; counts = λ q. absurd (omega arith); fews = λ q. absurd (q e) }

  pub list_few : ListAt m p b code least → (b ≡ code → ⊥) → (b ≡ code + 1 → ⊥) → least ≤ b
  list_few h y z = h.among y z

-- ---- the bytes that open a list or an object
module _ (m : List ℕ) (p : ℕ) where
  pub list_at : LeadAt m p lead.List → ListAt m (p + 1) (get_or m p 0) 0x57 0x78
  list_at h = record {
    at = record { bytes = h.bytes; within = omega (arith, h.inside) };
    code = omega arith;
    among = list_byte (get_or m p 0) (byte_small m p h.bytes) h.lead;
  }

  pub object_few : LeadAt m p lead.Object → (get_or m p 0 ≡ 0x4f → ⊥) → 0x60 ≤ get_or m p 0
  object_few h y = object_byte (get_or m p 0) (byte_small m p h.bytes) h.lead y

  pub typed_list_at : LeadAt m p lead.TypedList → (given : ℕ) (t : TypeRead) → TypeReadMet m given (p + 1) (Ok t)
      → ListAt m t.next (get_or m p 0) 0x55 0x70
  typed_list_at h given t x = record {
    at = record { bytes = h.bytes; within = x.says.within };
    code = omega arith;
    among = typed_list_byte (get_or m p 0) (byte_small m p h.bytes) h.lead;
  }

-- ---- a value that holds others, where one more may open
-- what is read of it, where u reads the values in it
abbrev Here : List ℕ → Known → ℕ → Option (Opening One) → ReadingAt One
Here m c p u = run (plain_from Floats base u p (get_or m p 0)) c m (p + 1)

module _ (m : List ℕ) (c : Known) (p : ℕ) (x : Lead) (h : LeadAt m p x) where
  fails : (r : Refused) → ((u : Option (Opening One)) (f : Opening One) → u ≡ some f → Here m c p u ≡ lost r)
      → HolderHeadMet m c p (Err r)
  fails r s = record {
    heads = λ d l. lead_at_lost m p x h d c r (s (below base d) (value_from Floats base (d - 1))
        (below_some base d l));
  }

  untyped : (g : Group) (q : ℕ) → p + 1 ≤ q → q ≤ length m
      → ((u : Option (Opening One)) (f : Opening One) → u ≡ some f → Here m c p u
      ≡ topped p (heading g none) (run (rest f g 0) (opened c) m q))
      → HolderHeadMet m c p (Ok (head.Holder g q Untyped))
  untyped g q i w s = record {
    heads = λ d l. record {
      says =
          lead_at_run m p x h d c
          ∙ s (below base d) (value_from Floats base (d - 1)) (below_some base d l)
          ∙ ap (topped p (heading g none)) (sym (front_none (run (rest (value_from Floats base (d - 1)) g 0) (opened c) m q)));
      goes = (l, tt, omega arith, w);
      named = tt;
    };
  }

  -- after a type
  typed_by_law : (g : Group) (t : TypeRead) (q : ℕ) → (i : TypeIs m c.types (p + 1) t) → t.next ≤ q → q ≤ length m
      → ((u : Option (Opening One)) (f : Opening One) → u ≡ some f → Here m c p u
      ≡ topped p (heading g (some i.number)) (front (type_rows (p + 1) t.of)
      (run (rest f g 0) (typed_by t.of (opened c)) m q)))
      → HolderHeadMet m c p (Ok (head.Holder g q t.of))
  typed_by_law g t q i e w s = record {
    heads = λ d l. record {
      says =
          lead_at_run m p x h d c
          ∙ s (below base d) (value_from Floats base (d - 1)) (below_some base d l)
          ∙ ap (λ (n : code-option.Option ℕ). topped p (heading g (as_option n)) (front (type_rows (p + 1) t.of)
          (run (rest (value_from Floats base (d - 1)) g 0) (typed_by t.of (opened c)) m q))) (sym i.numbered);
      goes = (l, i.room, omega (arith, i.longer), w);
      named = i.named;
    };
  }

-- ---- lists: by their code, and by the count
module _ (m : List ℕ) (c : Known) (p : ℕ) (of : TypeItem) (q : ℕ) where
  by_count : ((n : NumberPassed) → number_at Int m q ≡ Done n.size n.value [] tt → n.value < 2 ^ 63 → q + n.size ≤ length m
      → HolderHeadMet m c p (Ok (head.Holder (Counted n.value) (q + n.size) of)))
      → ((r : Refused) → number_at Int m q ≡ fault r → HolderHeadMet m c p (Err r))
      → ((v k : ℕ) → number_at Int m q ≡ Done k v [] tt → 2 ^ 63 ≤ v
      → HolderHeadMet m c p (Err (refused refusal.Negative q)))
      → (n : Result NumberPassed Refused) → CountSays m q n → HolderHeadMet m c p (holder_of of q n)
  by_count f g z (Ok n) s = f n s.is s.few s.within
  by_count f g z (Err r) (inl e) = g r e
  by_count f g z (Err r) (inr e) = rw e.refusal (z e.value e.size e.is e.below)

  by_code : (code least : ℕ) (a b : ValueHead) (f : ℕ → ValueHead)
      → head_of (get_or m p 0) ≡ pick (eqb (get_or m p 0) code) a (pick (eqb (get_or m p 0) (code + 1)) b
      (f (get_or m p 0 - least)))
      → (head_of (get_or m p 0) ≡ a → HolderHeadMet m c p (Ok (head.Holder Open q of)))
      → (head_of (get_or m p 0) ≡ b → (n : Result NumberPassed Refused) → CountSays m q n
      → HolderHeadMet m c p (holder_of of q n))
      → ((n : ℕ) → head_of (get_or m p 0) ≡ f n → HolderHeadMet m c p (Ok (head.Holder (Counted n) q of)))
      → (r : Result Head Refused) → ListMet m q of (get_or m p 0) code least r → HolderHeadMet m c p r
  by_code code least a b f e u v w r t = by_cases (eqb (get_or m p 0) code)
      (λ y. rw (t.opens (eqb-true (get_or m p 0) code y)) (u (e ∙ pick_true _ _ y)))
      (λ y. by_cases (eqb (get_or m p 0) (code + 1))
      (λ z. let n = t.counts (eqb-true (get_or m p 0) (code + 1) z) in rw n.2
      (v (e ∙ pick_false _ _ y ∙ pick_true _ _ z) n.0 n.1.says))
      (λ z. rw (t.fews (eqb-false (get_or m p 0) code y) (eqb-false (get_or m p 0) (code + 1) z))
      (w (get_or m p 0 - least) (e ∙ pick_false _ _ y ∙ pick_false _ _ z))))

-- ---- with no type
module _ (m : List ℕ) (c : Known) (p : ℕ) where
  pub list_is : LeadAt m p lead.List → (r : Result Head Refused)
      → ListMet m (p + 1) Untyped (get_or m p 0) 0x57 0x78 r → HolderHeadMet m c p r
  list_is h = by_code m c p Untyped (p + 1) 0x57 0x78 open_list_head counted few (lead_at_form m p lead.List h)
      (λ e. untyped m c p lead.List h Open (p + 1) (omega arith) (omega (arith, h.inside))
      (λ u f w. form_open base u c m p h.inside f w e))
      (λ e. by_count m c p Untyped (p + 1)
      (λ n s i l. untyped m c p lead.List h (Counted n.value) (p + 1 + n.size) (omega arith) l
      (λ u f w. form_counted base u c m p h.inside f w e n.size n.value s i))
      (λ r s. fails m c p lead.List h r (λ u f w. form_counted_lost base u c m p h.inside f w e
      (number_of r.refusal) r.place s))
      (λ v k s i. fails m c p lead.List h (refused refusal.Negative (p + 1)) (λ u f w. form_counted_negative base u c m p
      h.inside f w e k v s i)))
      (λ n e. untyped m c p lead.List h (Counted n) (p + 1) (omega arith) (omega (arith, h.inside))
      (λ u f w. form_few base u c m p h.inside f w n e))

  pub map_is : LeadAt m p lead.Map → HolderHeadMet m c p (Ok (head.Holder Pairs (p + 1) Untyped))
  map_is h =
      untyped m c p lead.Map h Pairs (p + 1) (omega arith) (omega (arith, h.inside))
      (λ u f w. form_map base u c m p h.inside f w (lead_at_form m p lead.Map h))

-- ---- with a type
module _ (m : List ℕ) (c : Known) (p : ℕ) where
  type_lost : (x : Lead) → LeadAt m p x → T (has_type (form_by x (get_or m p 0)))
      → (r : Refused) → TypeReadMet m c.types (p + 1) (Err r) → HolderHeadMet m c p (Err r)
  type_lost x h i r t =
      fails m c p x h r (λ u f w. form_type_lost base u c m p h.inside f w (form_by x (get_or m p 0))
      (lead_at_form m p x h) i (number_of r.refusal) r.place (t.says (opened c) refl))

  pub typed_map_bad : LeadAt m p lead.TypedMap → (r : Refused) → TypeReadMet m c.types (p + 1) (Err r)
      → HolderHeadMet m c p (Err r)
  typed_map_bad h = type_lost lead.TypedMap h tt

  pub typed_list_bad : LeadAt m p lead.TypedList → (r : Refused) → TypeReadMet m c.types (p + 1) (Err r)
      → HolderHeadMet m c p (Err r)
  typed_list_bad h = type_lost lead.TypedList h
      (pick_either (λ (f : ValueHead). T (has_type f)) (eqb (get_or m p 0) 0x55) (λ y. tt)
      (λ y. pick_either (λ (f : ValueHead). T (has_type f)) (eqb (get_or m p 0) 0x56) (λ z. tt) (λ z. tt)))

  module _ (t : TypeRead) (x : TypeReadMet m c.types (p + 1) (Ok t)) where
    reads : run (byte_at (type_from base)) (opened c) m (p + 1)
        ≡ ReadTo t.next x.says.number (type_rows (p + 1) t.of) (typed_by t.of (opened c))
    reads = x.says.says (opened c) refl

    pub typed_map_is : LeadAt m p lead.TypedMap → HolderHeadMet m c p (Ok (head.Holder Pairs t.next t.of))
    typed_map_is h = typed_by_law m c p lead.TypedMap h Pairs t t.next x.says (omega arith) x.says.within
        (λ u f w. form_typed_map base u c m p h.inside f w t.next x.says.number (type_rows (p + 1) t.of)
        (typed_by t.of (opened c)) reads (lead_at_form m p lead.TypedMap h))

    pub typed_list_is : LeadAt m p lead.TypedList → (i : Result Head Refused)
        → ListMet m t.next t.of (get_or m p 0) 0x55 0x70 i → HolderHeadMet m c p i
    typed_list_is h =
        let k = x.says.number in
        let ys = type_rows (p + 1) t.of in
        let c' = typed_by t.of (opened c) in
        let to = x.says.within in
        by_code m c p t.of t.next 0x55 0x70 open_typed_head counted_typed_head few_of_type
        (lead_at_form m p lead.TypedList h)
        (λ e. typed_by_law m c p lead.TypedList h Open t t.next x.says (omega arith) to
        (λ u f w. form_open_typed base u c m p h.inside f w t.next k ys c' reads e))
        (λ e. by_count m c p t.of t.next
        (λ n s i l. typed_by_law m c p lead.TypedList h (Counted n.value) t (t.next + n.size) x.says (omega arith) l
        (λ u f w. form_counted_typed base u c m p h.inside f w t.next k ys c' reads e to n.size n.value s i))
        (λ r s. fails m c p lead.TypedList h r
        (λ u f w. form_counted_typed_lost base u c m p h.inside f w t.next k ys c' reads e to
        (number_of r.refusal) r.place s))
        (λ v n s i. fails m c p lead.TypedList h (refused refusal.Negative t.next)
        (λ u f w. form_counted_typed_negative base u c m p h.inside f w t.next k ys c' reads e to n v s i)))
        (λ n e. typed_by_law m c p lead.TypedList h (Counted n) t t.next x.says (omega arith) to
        (λ u f w. form_few_typed base u c m p h.inside f w t.next k ys c' reads n e))

-- ---- objects
-- a class that is given, and one that is not
given_by : (P : code-option.Option ℕ → Type 0) (ns : List ℕ) (k : ℕ)
    → (k < length ns → P (Some (get_or ns k 0))) → (length ns ≤ k → P None) → P (slice_get ns k)
given_by P [] k s t = t (omega arith)
given_by P (n ∷ ns) zero s t = s (omega arith)
given_by P (n ∷ ns) (suc k) s t = given_by P ns k (λ l. s (omega arith)) (λ l. t (omega arith))

module _ (m : List ℕ) (c : Known) (p : ℕ) (h : LeadAt m p lead.Object) where
  by_class : (k q : ℕ) → p + 1 ≤ q → q ≤ length m
      → ((u : Option (Opening One)) (f : Opening One) → u ≡ some f → (n : ℕ) → n ≡ get_or c.classes k 0
      → k < length c.classes
      → Here m c p u ≡ topped p (heading (Fields k n) none) (run (rest f (Fields k n) 0) (opened c) m q))
      → ((u : Option (Opening One)) (f : Opening One) → u ≡ some f → length c.classes ≤ k
      → Here m c p u ≡ RefusedAt 6 p)
      → (i : Result Head Refused) → i ≡ instance_of c p k q → HolderHeadMet m c p i
  by_class k q a b s t i e = rw e (given_by (λ n. HolderHeadMet m c p (instance_by p k q n)) c.classes k
      (λ l. untyped m c p lead.Object h (Fields k (get_or c.classes k 0)) q a b
      (λ u f w. s u f w (get_or c.classes k 0) refl l))
      (λ l. fails m c p lead.Object h (refused refusal.Ungiven p) (λ u f w. t u f w l)))

  pub object_short : (get_or m p 0 ≡ 0x4f → ⊥) → (k : ℕ) → k ≡ get_or m p 0 - 0x60 → (i : Result Head Refused)
      → i ≡ instance_of c p k (p + 1) → HolderHeadMet m c p i
  object_short y k s =
      let e : head_of (get_or m p 0) ≡ few_fields k =
      lead_at_form m p lead.Object h ∙ pick_false _ _ (ne_eqb (get_or m p 0) 0x4f y) ∙ ap few_fields (sym s) in
      by_class k (p + 1) (omega arith) (omega (arith, h.inside))
      (λ u f w n c' l. form_few_object base u c m p h.inside f w k e n c' l)
      (λ u f w l. form_few_object_ungiven base u c m p h.inside f w k e l)

  module _ (y : get_or m p 0 ≡ 0x4f) where
    form : head_of (get_or m p 0) ≡ object
    form = lead_at_form m p lead.Object h ∙ pick_true _ _ (eq-eqb (get_or m p 0) 0x4f y)

    pub object_bad : (r : Refused) → passed (Err r) ≡ number_at Int m (p + 1) → HolderHeadMet m c p (Err r)
    object_bad r t =
        fails m c p lead.Object h r (λ u f w. form_object_lost base u c m p h.inside f w form
        (number_of r.refusal) r.place (sym t))

    pub object_is : (n : NumberPassed) → passed (Ok n) ≡ number_at Int m (p + 1) → (i : Result Head Refused)
        → i ≡ instance_of c p n.value (p + 1 + n.size) → HolderHeadMet m c p i
    object_is n t = by_class n.value (p + 1 + n.size) (omega arith) (number_room Int m (p + 1) t h.bytes).1
        (λ u f w k c' l. form_object base u c m p h.inside f w form n.size n.value k (sym t) c' l)
        (λ u f w l. form_object_ungiven base u c m p h.inside f w form n.size n.value (sym t) l)

-- Counts, and the heads of values with none inside: what the contracts ask at each way out, one law for each.
use Rattle.std.proofs.Common.{◌≡◌, ℕ, zero, suc, ◌+◌, ◌^◌, ◌<◌, ◌≤◌, true, false, List, [], ◌∷◌, length, get_or, sym, refl, ap, ◌∙◌, subst, arith, w64, Fits}
use Rattle.std.specs.Prelude.{Ok, Err}
use Rattle.scalar.specs.Scalars.{Floats}
use Rattle.flow.specs.Flow.{Bytes, byte_at}
use Rattle.scalar.specs.declared.Sort.{Sort}
use Rattle.scalar.specs.declared.Sort.TheVariants.{Null, False, True, Int, Long, Double, Date}
use Rattle.scalar.specs.declared.refusals.Refused.{Refused}
use Rattle.scalar.specs.declared.refusals.Refusal.TheVariants as refusal
use Rattle.scalar.specs.Refusals.{number_of}
use Rattle.numbers.specs.declared.NumberPassed.{NumberPassed}
use Rattle.scalar.specs.declared.Encoding.TheVariants.{Utf8, Binary}
use Rattle.texts.specs.declared.StringPassed.{StringPassed}
use Rattle.scalar.specs.declared.Lead.{Lead}
use Rattle.scalar.specs.declared.Lead.TheVariants as lead
use Rattle.scalar.specs.Answers.{number_at}
use Rattle.numbers.specs.Answers.{passed}
use Rattle.scalar.specs.Scalars.{sort_kind}
use Rattle.scalar.proofs.NumberTheorems.{within_message}
use Rattle.texts.specs.Answers.{PassedMet, StringHas}
use Rattle.record.specs.declared.kinds.Kind.{Kind}
use Rattle.record.specs.declared.kinds.Kind.TheVariants as kind
use Rattle.record.specs.Model.KindNumbers.{kind_number}
use Rattle.record.specs.Model.Items.{Known}
use Rattle.record.specs.Model.Reading.{plain_from, head_of}
use Rattle.record.specs.Model.Rows.{Row, row}
use Rattle.record.specs.Model.Claims.{is_text_kind}
use Rattle.record.specs.Model.Answers.{base}
use Rattle.record.specs.ForReader.ReadingAt.{ReadTo, run}
use Rattle.record.proofs.ForReader.ReadingAt.{run_byte}
use Rattle.record.proofs.ForReader.ChartHeads.{form_by, form_lead}
use Rattle.record.proofs.ForReader.ReadValues.{leaf_number, leaf_number_lost, leaf_text, leaf_bytes, leaf_string_lost}
use Rattle.record.proofs.ForReader.ReadValues.{reference_got, reference_ungiven, reference_lost}
use Rattle.record.specs.ForReader.ReadDefinitions.{below, plain}
use Rattle.reader.specs.declared.heads.Head.TheVariants as head
use Rattle.reader.specs.Slots.{RowRead}
use Rattle.reader.specs.Promises.{leaf_of, refused, lost, PlaceIn, LeadAt, CountMet, HeadIs, LeafHeadMet, PlainHeadMet}
use Rattle.reader.proofs.Sizes.{binary_has, string_room, string_has}

pub byte_small : (m : List ℕ) (p : ℕ) → Bytes m → get_or m p 0 < 256
byte_small [] p b = omega arith
byte_small (x ∷ m) zero b = b.0
byte_small (x ∷ m) (suc p) b = byte_small m p b.1

-- ---- a number that was passed
module _ (s : Sort) (m : List ℕ) (p : ℕ) {n : NumberPassed} (t : passed (Ok n) ≡ number_at s m p) where
  pub number_room : Bytes m → (0 < n.size) × (p + n.size ≤ length m)
  number_room b = within_message s m b p n.size n.value [] (sym t)

  pub number_fits : Bytes m → Fits w64 (length m) → Fits w64 (p + n.size)
  number_fits b f = let r = number_room b in omega (arith, r.1)

-- ---- rows that name no text or byte string, and those that name a text
pub plain_row : (m : List ℕ) (r : Row) → is_text_kind r.kind ≡ false → (r.kind ≡ 8 → ⊥) → RowRead m r
plain_row m r e h = record { text = λ f. absurd (other (sym e ∙ f)); binary = λ f. absurd (h f) }
  where
    other : false ≡ true → ⊥
    other e = let z : ◌≡◌ {A = ℕ} 0 1 = cc in omega arith

pub text_row : (m : List ℕ) (r : Row) → (r.kind ≡ 8 → ⊥) → StringHas Utf8 m r.place r.first r.second → RowRead m r
text_row m r h s = record { text = λ e. s; binary = λ e. absurd (h e) }

number_row : (m : List ℕ) (s : Sort) (p x y e : ℕ) → RowRead m (row (sort_kind s) p x y e)
number_row m Null p x y e = plain_row m (row 0 p x y e) refl (λ z. omega arith)
number_row m False p x y e = plain_row m (row 1 p x y e) refl (λ z. omega arith)
number_row m True p x y e = plain_row m (row 2 p x y e) refl (λ z. omega arith)
number_row m Int p x y e = plain_row m (row 3 p x y e) refl (λ z. omega arith)
number_row m Long p x y e = plain_row m (row 4 p x y e) refl (λ z. omega arith)
number_row m Double p x y e = plain_row m (row 5 p x y e) refl (λ z. omega arith)
number_row m Date p x y e = plain_row m (row 6 p x y e) refl (λ z. omega arith)

-- ---- counts
module _ (m : List ℕ) (p : ℕ) (a : PlaceIn m p) {n : NumberPassed} (t : passed (Ok n) ≡ number_at Int m p) where
  pub count_is : n.value < 2 ^ 63 → CountMet m p (Ok n)
  count_is l =
      let w = number_room Int m p t a.bytes in
      record { says = record { is = sym t; few = l; some = w.0; within = w.1 } }

-- ---- a value, by what its first byte opens
module _ (m : List ℕ) (p : ℕ) (x : Lead) (h : LeadAt m p x) where
  pub lead_at_form : head_of (get_or m p 0) ≡ form_by x (get_or m p 0)
  lead_at_form = form_lead (get_or m p 0) (byte_small m p h.bytes) x h.lead

  pub lead_at_run : (d : ℕ) (c : Known)
      → run (byte_at (plain base d)) c m p ≡ run (plain_from Floats base (below base d) p (get_or m p 0)) c m (p + 1)
  lead_at_run d c = run_byte (plain base d) c m p h.inside

  -- refused; a row
  pub lead_at_lost : (d : ℕ) (c : Known) (r : Refused)
      → run (plain_from Floats base (below base d) p (get_or m p 0)) c m (p + 1) ≡ lost r
      → HeadIs m c p d (Err r)
  lead_at_lost d c r e = record { says = lead_at_run d c ∙ e; goes = tt; named = tt }

  pub lead_at_got : (d : ℕ) (c : Known) (k : Kind) (z v w n : ℕ) → kind_number k ≡ z → (0 < n) × (p + n ≤ length m)
      → run (plain_from Floats base (below base d) p (get_or m p 0)) c m (p + 1) ≡ ReadTo (p + n) tt (row z p v w 1 ∷ []) c
      → ((e : ℕ) → RowRead m (row z p v w e)) → HeadIs m c p d (Ok (head.Leaf (leaf_of k v w (p + n))))
  lead_at_got d c k z v w n q i e r = record {
    says = lead_at_run d c ∙ e ∙ ap (λ (z : ℕ). ReadTo (p + n) tt (row z p v w 1 ∷ []) c) (sym q);
    goes = (omega (arith, i.0), i.1);
    named = λ e. subst (λ (z : ℕ). RowRead m (row z p v w e)) (sym q) (r e);
  }

-- ---- a number, a text, a byte string
module _ (s : Sort) (m : List ℕ) (p : ℕ) (h : LeadAt m p (lead.Number s)) where
  pub number_head_bad : (r : Refused) → passed (Err r) ≡ number_at s m p → LeafHeadMet m p (Err r)
  number_head_bad r t = record {
    heads = λ d c. lead_at_lost m p _ h d c r (leaf_number_lost base (below base d) c m p h.inside
        (lead_at_form m p _ h) s h.lead (number_of r.refusal) r.place (sym t));
  }

  pub number_head_is : (k : Kind) → kind_number k ≡ sort_kind s → (n : NumberPassed) → passed (Ok n) ≡ number_at s m p
      → LeafHeadMet m p (Ok (head.Leaf (leaf_of k n.value 0 (p + n.size))))
  number_head_is k q n t = record {
    heads = λ d c. lead_at_got m p _ h d c k (sort_kind s) n.value 0 n.size q (number_room s m p t h.bytes)
        (leaf_number base (below base d) c m p h.inside (lead_at_form m p _ h) s h.lead n.size n.value (sym t))
        (number_row m s p n.value 0);
  }

module _ (m : List ℕ) (p : ℕ) where
  module _ (h : LeadAt m p lead.Text) where
    pub text_head_bad : (r : Refused) → PassedMet Utf8 m p (Err r) → LeafHeadMet m p (Err r)
    text_head_bad r t = record {
      heads = λ d c. lead_at_lost m p _ h d c r (leaf_string_lost base (below base d) c m p h.inside
          (lead_at_form m p _ h) Utf8 h.lead (number_of r.refusal) r.place t.says);
    }

    pub text_head_is : (x : StringPassed) → PassedMet Utf8 m p (Ok x)
        → LeafHeadMet m p (Ok (head.Leaf (leaf_of kind.Text x.units x.bytes (p + x.size))))
    text_head_is x t = record {
      heads = λ d c. lead_at_got m p _ h d c kind.Text 7 x.units x.bytes x.size refl (string_room Utf8 m p t h.bytes)
          (leaf_text base (below base d) c m p h.inside (lead_at_form m p _ h) h.lead x.size x.units x.bytes _
          t.says.says)
          (λ e. text_row m (row 7 p x.units x.bytes e) (λ z. omega arith) (string_has Utf8 m p t));
    }

  module _ (h : LeadAt m p lead.Bytes) where
    pub bytes_head_bad : (r : Refused) → PassedMet Binary m p (Err r) → LeafHeadMet m p (Err r)
    bytes_head_bad r t = record {
      heads = λ d c. lead_at_lost m p _ h d c r (leaf_string_lost base (below base d) c m p h.inside
          (lead_at_form m p _ h) Binary h.lead (number_of r.refusal) r.place t.says);
    }

    pub bytes_head_is : (x : StringPassed) → PassedMet Binary m p (Ok x)
        → LeafHeadMet m p (Ok (head.Leaf (leaf_of kind.Bytes x.bytes 0 (p + x.size))))
    bytes_head_is x t = record {
      heads = λ d c. lead_at_got m p _ h d c kind.Bytes 8 x.bytes 0 x.size refl (string_room Binary m p t h.bytes)
          (leaf_bytes base (below base d) c m p h.inside (lead_at_form m p _ h) h.lead x.size x.units x.bytes _
          t.says.says)
          (λ e. record {
            text = λ z. absurd (no_text z);
            binary = λ z. binary_has m p x.units x.bytes x.size t.says;
          });
    }
      where
        no_text : is_text_kind 8 ≡ true → ⊥
        no_text e = let z : ◌≡◌ {A = ℕ} 0 1 = cc in omega arith

-- ---- a reference
module _ (m : List ℕ) (c : Known) (p : ℕ) (h : LeadAt m p lead.Reference) where
  pub reference_bad : (r : Refused) → passed (Err r) ≡ number_at Int m (p + 1) → PlainHeadMet m c p (Err r)
  reference_bad r t = record {
    heads = λ d. lead_at_lost m p _ h d c r (reference_lost base (below base d) c m p h.inside
        (lead_at_form m p _ h) (number_of r.refusal) r.place (sym t));
  }

  module _ (n : NumberPassed) (t : passed (Ok n) ≡ number_at Int m (p + 1)) where
    pub reference_is : n.value < c.references
        → PlainHeadMet m c p (Ok (head.Leaf (leaf_of kind.Reference n.value 0 (p + 1 + n.size))))
    reference_is l =
        let w = number_room Int m (p + 1) t h.bytes in
        record {
          heads = λ d. record {
            says =
                lead_at_run m p _ h d c
                ∙ reference_got base (below base d) c m p h.inside (lead_at_form m p _ h) n.size n.value (sym t) l;
            goes = (omega arith, w.1);
            named = λ e. plain_row m (row 14 p n.value 0 e) refl (λ z. omega arith);
          };
        }

    pub reference_none : c.references ≤ n.value → PlainHeadMet m c p (Err (refused refusal.Ungiven p))
    reference_none l = record {
      heads = λ d. lead_at_lost m p _ h d c (refused refusal.Ungiven p) (reference_ungiven base (below base d) c m p
          h.inside (lead_at_form m p _ h) n.size n.value (sym t) l);
    }

-- The type of a list or map: what the contracts ask at each way out, one law for each.
use Rattle.std.proofs.Common.{◌≡◌, ℕ, ◌+◌, ◌/◌, ◌<◌, ◌≤◌, true, List, [], ◌∷◌, length, get_or, sym, refl, ap, ◌∙◌, arith, ne_eqb}
use Rattle.std.specs.Prelude.{Ok, Err}
use Rattle.scalar.specs.declared.Sort.TheVariants.{Int}
use Rattle.scalar.specs.declared.refusals.Refused.{Refused}
use Rattle.scalar.specs.declared.refusals.Refusal.TheVariants as refusal
use Rattle.scalar.specs.Refusals.{number_of}
use Rattle.numbers.specs.declared.NumberPassed.{NumberPassed}
use Rattle.scalar.specs.declared.Encoding.TheVariants.{Utf8}
use Rattle.texts.specs.declared.StringPassed.{StringPassed}
use Rattle.scalar.specs.declared.Lead.TheVariants as lead
use Rattle.scalar.specs.Scalars.{is_text}
use Rattle.scalar.specs.Chart.{lead_of, kind_of}
use Rattle.scalar.specs.Answers.{number_at}
use Rattle.scalar.specs.Chart.{entry}
use Rattle.numbers.specs.Answers.{passed}
use Rattle.scalar.proofs.ChartLaws.{kind_is, kind_of_text, entry_parts}
use Rattle.scalar.proofs.ByChart.{text_told, text_there}
use Rattle.texts.specs.Answers.{PassedMet}
use Rattle.record.specs.Model.Items.{typed}
use Rattle.record.specs.Model.Rows.{row}
use Rattle.record.specs.Model.Answers.{base}
use Rattle.record.specs.ForReader.ReadingAt.{ReadTo}
use Rattle.record.proofs.ForReader.ReadParts.{type_end, type_full, type_spelled, type_name_lost, type_numbered, type_ungiven}
use Rattle.record.proofs.ForReader.ReadParts.{type_number_lost}
use Rattle.reader.specs.declared.heads.TypeItem.TheVariants.{Named, Numbered}
use Rattle.reader.specs.Promises.{refused, PlaceIn, LeadAt, NoName, TypeReadMet}
use Rattle.reader.proofs.Leaves.{byte_small, number_room}
use Rattle.reader.proofs.Sizes.{string_room, string_has}

-- ---- a name, where so many types are given
module _ (m : List ℕ) (given p : ℕ) (h : LeadAt m p lead.Text) where
  is_text_law : is_text (get_or m p 0) ≡ true
  is_text_law = text_there (get_or m p 0) h.lead

  pub named_full : base.types ≤ given → TypeReadMet m given p (Err (refused refusal.Ceiling p))
  named_full l = record { says = λ c e. type_full base c m p h.inside is_text_law (omega arith) }

  module _ (l : given < base.types) where
    pub named_bad : (r : Refused) → PassedMet Utf8 m p (Err r) → TypeReadMet m given p (Err r)
    named_bad r t = record {
      says = λ c e. type_name_lost base c m p h.inside is_text_law (omega arith) (number_of r.refusal) r.place t.says;
    }

    pub named_is : (x : StringPassed) → PassedMet Utf8 m p (Ok x)
        → TypeReadMet m given p (Ok (record { of = Named x.units x.bytes; next = p + x.size }))
    named_is x t =
        let w = string_room Utf8 m p t h.bytes in
        record {
          says = record {
            number = given;
            numbered = refl;
            says = λ c e.
                type_spelled base c m p h.inside is_text_law (omega arith) x.size x.units x.bytes _ t.says.says
                ∙ ap (λ (k : ℕ). ReadTo (p + x.size) k (row 18 p x.units x.bytes 1 ∷ []) (typed c)) e;
            room = l;
            longer = omega (arith, w.0);
            within = w.1;
            named = string_has Utf8 m p t;
          };
        }

-- ---- a number
module _ (m : List ℕ) (given p : ℕ) (h : NoName m p) where
  pub numbered_bad : (r : Refused) → passed (Err r) ≡ number_at Int m p → TypeReadMet m given p (Err r)
  numbered_bad r t =
      record { says = λ c e. type_number_lost base c m p h.inside h.lead (number_of r.refusal) r.place (sym t) }

  module _ (n : NumberPassed) (t : passed (Ok n) ≡ number_at Int m p) where
    pub numbered_is : n.value < given
        → TypeReadMet m given p (Ok (record { of = Numbered n.value; next = p + n.size }))
    numbered_is l =
        let w = number_room Int m p t h.bytes in
        record {
          says = record {
            number = n.value;
            numbered = refl;
            says = λ c e. type_numbered base c m p h.inside h.lead n.size n.value (sym t) (omega arith);
            room = tt;
            longer = omega (arith, w.0);
            within = w.1;
            named = tt;
          };
        }

    pub numbered_none : given ≤ n.value → TypeReadMet m given p (Err (refused refusal.Ungiven p))
    numbered_none l = record {
      says = λ c e. type_ungiven base c m p h.inside h.lead n.size n.value (sym t) (omega arith);
    }

-- ---- which of them
pub type_off : (m : List ℕ) (given p : ℕ) → length m ≤ p → TypeReadMet m given p (Err (refused refusal.Cut p))
type_off m given p l = record { says = λ c e. type_end base c m p l }

module _ (m : List ℕ) (p : ℕ) (a : PlaceIn m p) (l : p < length m) (n : ℕ) (e : n ≡ entry (get_or m p 0)) where
  kind_there : n / 10 ≡ kind_of (lead_of (get_or m p 0))
  kind_there = ap (λ (n : ℕ). n / 10) e ∙ (entry_parts (get_or m p 0) (byte_small m p a.bytes)).0

  pub lead_at_text : n / 10 ≡ 7 → LeadAt m p lead.Text
  lead_at_text q = record {
    bytes = a.bytes;
    inside = l;
    lead = kind_is (lead_of (get_or m p 0)) lead.Text (sym kind_there ∙ q ∙ sym kind_of_text);
  }

  pub no_name : (n / 10 ≡ 7 → ⊥) → NoName m p
  no_name q = record {
    bytes = a.bytes;
    inside = l;
    lead = text_told (get_or m p 0)
        ∙ ne_eqb (kind_of (lead_of (get_or m p 0))) 7 (λ z. q (kind_there ∙ z));
  }

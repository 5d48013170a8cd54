-- A row of a text: the item that it claims, by what was put of it.
use mathlib.Core.Path.{◌≡◌, refl}
use mathlib.Core.List.{List}
use mathlib.Core.Option.{Option, none, some}
use Prim.Native.Nat.{ℕ}
use lib.Dec.{eqb}
use lib.ListN.{length}
use borrow.Author.Tests.{eqb-true, eqb-false}
use Rattle.flow.specs.Tests.{by_cases}
use Rattle.scalar.specs.declared.Encoding.TheVariants.{Utf8}
use Rattle.scalar.specs.Scalars.{units, string_at, shortest_text}
use Rattle.record.specs.Model.Items.{Item}
use Rattle.scalar.specs.Answers.{content_read}
use Rattle.record.specs.Laws.Claimed.{item_at}
use Rattle.record.proofs.ForWriter.RowItems.{OfText, text_lost, text_item, text_other_units, text_other_length}
use Rattle.record.specs.declared.Row as code
use Rattle.std.specs.Prelude.{Ok, Err}
use Rattle.writer.specs.declared.size.Size.{Size}
use Rattle.writer.specs.declared.progress.NoRecord.{NoRecord}
use Rattle.record.specs.Laws.RowLaws.{row_of}
use Rattle.record.specs.Model.Claims.{content_at}
use Rattle.writer.specs.Promises.{Puts, ContentAt, StringMet}

-- the row claims the item f of a content, whose shortest form is put
pub record TextPut (f : List ℕ → Item) (source : List ℕ) (r : code.Row) (out : List ℕ) (s : ℕ) (out' : List ℕ)
    (s' : Size) : Type 0 where
  pub content : List ℕ
  pub written : List ℕ
  pub item : item_at (content_at source) (row_of r) ≡ some (f content)
  pub form : shortest_text content ≡ some written
  pub puts : Puts out s written out' s'.bytes

module _ {kind : ℕ} {f : List ℕ → Item} (t : OfText kind f) (source : List ℕ) (r : code.Row) (h : r.kind ≡ kind) where
  abbrev TextHere : List ℕ → Type 0
  TextHere cs = ContentAt Utf8 source r.place r.first r.second cs

  opened_item : (cs : List ℕ) → TextHere cs → item_at (content_at source) (row_of r) ≡ some (f cs)
  opened_item cs z = text_item source t (row_of r) h cs z.opens z.units_are z.bytes_are

  -- it claims none, or its place opens a text of its sizes
  opened_or_none : {P : Type 0} → (item_at (content_at source) (row_of r) ≡ none → P) → ((cs : List ℕ) → TextHere cs → P)
      → P
  opened_or_none {P} g k = go (content_read (string_at Utf8 source r.place)) refl
    where
      go : (o : Option (List ℕ)) → content_read (string_at Utf8 source r.place) ≡ o → P
      go none e = g (text_lost source t (row_of r) h e)
      go (some cs) e = by_cases (eqb r.first (units Utf8 cs))
          (λ u. by_cases (eqb r.second (length cs))
          (λ b. k cs
          (record {
            opens = e;
            units_are = eqb-true r.first (units Utf8 cs) u;
            bytes_are =
                eqb-true r.second (length cs) b;
          }))
          (λ b. g (text_other_length source t (row_of r) h cs e (eqb-false r.second (length cs) b))))
          (λ u. g (text_other_units source t (row_of r) h cs e (eqb-false r.first (units Utf8 cs) u)))

  pub text_either : {P : Type 0} → (item_at (content_at source) (row_of r) ≡ none → P)
      → ((cs : List ℕ) → item_at (content_at source) (row_of r) ≡ some (f cs) → P) → P
  text_either g k = opened_or_none g (λ cs z. k cs (opened_item cs z))

  module _ {out : List ℕ} {s : ℕ} {out' : List ℕ} where
    pub text_put : {s' : Size} → StringMet Utf8 source r.place r.first r.second out s (Ok s') out'
        → TextPut f source r out s out' s'
    text_put y = let z = y.says in
        record { content = z.0; written = z.1; item = opened_item z.0 z.2; form = z.3; puts = z.4 }

    -- none is put: the row claims no item, or one whose content has no form
    pub text_not : {n : NoRecord} → StringMet Utf8 source r.place r.first r.second out s (Err n) out'
        → {P : Type 0} → (item_at (content_at source) (row_of r) ≡ none → P)
        → ((cs : List ℕ) → item_at (content_at source) (row_of r) ≡ some (f cs) → shortest_text cs ≡ none → P) → P
    text_not y g k = opened_or_none g (λ cs z. k cs (opened_item cs z) (y.says cs z))

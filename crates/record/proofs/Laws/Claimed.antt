-- The record that rows claim, computed; and that it is exactly the one claimed.
use Rattle.std.specs.Prelude.{◌≡◌, ◌&&◌, ◌↔◌, List, [], ◌∷◌, ℕ, T, eqb}
use Rattle.std.proofs.Math.Path.{refl, ap, subst}
use Rattle.std.proofs.Common.{sym, ◌∙◌, eqb→eq}
use Rattle.std.proofs.Math.Option.{Option, none, some}
use Rattle.std.proofs.Math.Dec.{eqb_refl}
use Rattle.flow.specs.Tests.{by_test, pass, and_left, and_right, and_both, same_refl, same_eq}
use Rattle.flow.specs.Flow.{pick, on_some, same_list}
use Rattle.scalar.specs.declared.Sort.TheVariants as sort
use Rattle.scalar.specs.declared.Encoding.TheVariants.{Utf8, Binary}
use Rattle.scalar.specs.Scalars.{Num, Str}
use Rattle.record.proofs.Laws.RowLaws.{item_moved}
use Rattle.record.specs.Model.Items.{Leaf, UntypedList, TypedList, UntypedMap, TypedMap, Object, Reference, Item}
use Rattle.record.specs.Model.Items.{Val, Definition, ClassName, FieldName, TypeName, TypeNumber}
use Rattle.record.specs.Model.Rows.{Row, item_row, ends}
use Rattle.record.specs.Model.Claims.{content_of, ContentMap, Claims, ClaimItems, no_rows, a_row, afters, ClaimAll}
use Rattle.record.specs.Laws.Claimed.{of_kind, same_row, checked, item_at, items_of, ended, record_of}

-- ---- it is the one claimed
pub row_refl : (x : Row) → T (same_row x x)
row_refl x = and_both (eqb x.kind x.kind) _ (eqb_refl x.kind)
    (and_both (eqb x.place x.place) _ (eqb_refl x.place)
    (and_both (eqb x.first x.first) _ (eqb_refl x.first) (eqb_refl x.second)))

pub row_eq : (x y : Row) → x.after ≡ y.after → T (same_row x y) → x ≡ y
row_eq x y f h =
    let h₁ = and_right (eqb x.kind y.kind) (eqb x.place y.place
    && (eqb x.first y.first && eqb x.second y.second)) h in
    let h₂ = and_right (eqb x.place y.place) (eqb x.first y.first && eqb x.second y.second) h₁ in
    let a = eqb→eq x.kind y.kind (and_left (eqb x.kind y.kind)
    (eqb x.place y.place && (eqb x.first y.first && eqb x.second y.second)) h) in
    let b = eqb→eq x.place y.place (and_left (eqb x.place y.place)
    (eqb x.first y.first && eqb x.second y.second) h₁) in
    let c = eqb→eq x.first y.first (and_left (eqb x.first y.first) (eqb x.second y.second) h₂) in
    let d = eqb→eq x.second y.second (and_right (eqb x.first y.first) (eqb x.second y.second) h₂) in
    λ i. record { kind = a i; place = b i; first = c i; second = d i; after = f i }

pub kind_back : (p e : ℕ) (i : Item) → of_kind (item_row p e i) (content_of i) ≡ i
unfolding of_kind pick
kind_back p e (Val (Leaf (Num sort.Null v))) = refl
kind_back p e (Val (Leaf (Num sort.False v))) = refl
kind_back p e (Val (Leaf (Num sort.True v))) = refl
kind_back p e (Val (Leaf (Num sort.Int v))) = refl
kind_back p e (Val (Leaf (Num sort.Long v))) = refl
kind_back p e (Val (Leaf (Num sort.Double v))) = refl
kind_back p e (Val (Leaf (Num sort.Date v))) = refl
kind_back p e (Val (Leaf (Str Utf8 cs))) = refl
kind_back p e (Val (Leaf (Str Binary cs))) = refl
kind_back p e (Val (UntypedList n)) = refl
kind_back p e (Val (TypedList n t)) = refl
kind_back p e (Val (UntypedMap n)) = refl
kind_back p e (Val (TypedMap n t)) = refl
kind_back p e (Val (Object k n)) = refl
kind_back p e (Val (Reference k)) = refl
kind_back p e (Definition n) = refl
kind_back p e (ClassName cs) = refl
kind_back p e (FieldName cs) = refl
kind_back p e (TypeName cs) = refl
kind_back p e (TypeNumber k) = refl

pub item_after : (p e : ℕ) (i : Item) → (item_row p e i).after ≡ e
item_after p e i = ap (λ (x : Row). x.after) (item_moved p e p e i)

module _ (contents : ContentMap) where
  pub item_claimed : (x : Row) (i : Item) → Claims contents x i → item_at contents x ≡ some i
  unfolding item_at
  item_claimed x i h =
      let back : of_kind x (content_of i) ≡ i = subst (λ (y : Row). of_kind y (content_of i) ≡ i) h.agrees
      (kind_back x.place x.after i) in
      rw (h.content, back) (pass (same_row (item_row x.place x.after i) x && same_list (content_of i) (content_of i))
      _ _
      (and_both (same_row (item_row x.place x.after i) x) _ (rw h.agrees (row_refl x)) (same_refl (content_of i)))
      refl)

  abbrev ClaimedBy : Row → Option Item → Type 0
  ClaimedBy x none = Unit {0}
  ClaimedBy x (some i) = Claims contents x i

  claims_item : (x : Row) → ClaimedBy x (item_at contents x)
  unfolding item_at
  claims_item x = go (contents x.kind x.place) refl
    where
      go : (o : Option (List ℕ)) → contents x.kind x.place ≡ o → ClaimedBy x
          (on_some (λ cs. checked x cs (of_kind x cs)) o)
      go none e = tt
      go (some cs) e = let i = of_kind x cs in
          by_test (ClaimedBy x) (same_row (item_row x.place x.after i) x && same_list (content_of i) cs)
          (λ t. record {
            agrees = row_eq (item_row x.place x.after i) x (item_after x.place x.after i)
                (and_left (same_row (item_row x.place x.after i) x) (same_list (content_of i) cs) t);
            content = e ∙ ap {B = Option (List ℕ)} some
                (sym (same_eq (content_of i) cs (and_right (same_row (item_row x.place x.after i) x)
                (same_list (content_of i) cs) t)));
          }) (λ t. tt)

  pub claims_back : (x : Row) (i : Item) → item_at contents x ≡ some i → Claims contents x i
  claims_back x i e = subst (ClaimedBy x) e (claims_item x)

  items_claimed : {r : List Row} {is : List Item} → ClaimItems contents r is → items_of contents r ≡ some is
  items_claimed no_rows = refl
  items_claimed (a_row {x = x} {i = i} h k) = rw (item_claimed x i h, items_claimed k) refl

  abbrev ItemsClaimedBy : List Row → Option (List Item) → Type 0
  ItemsClaimedBy r none = Unit {0}
  ItemsClaimedBy r (some is) = ClaimItems contents r is

  claims_items : (r : List Row) → ItemsClaimedBy r (items_of contents r)
  claims_items [] = no_rows
  claims_items (x ∷ r) = go (item_at contents x) (claims_item x) (items_of contents r) (claims_items r)
    where
      go : (o : Option Item) → ClaimedBy x o → (q : Option (List Item)) → ItemsClaimedBy r q
          → ItemsClaimedBy (x ∷ r) (on_some (λ i. on_some (λ is. some (i ∷ is)) q) o)
      go none h q k = tt
      go (some i) h none k = tt
      go (some i) h (some is) k = a_row h k

  -- where the fifth numbers are those of the items
  pub ended_right : (r : List Row) (is : List Item) → afters r ≡ ends 0 is → ended r is ≡ some is
  unfolding ended
  ended_right r is e = pass (same_list (afters r) (ends 0 is)) _ _ (rw e (same_refl (ends 0 is))) refl

  pub all_claimed : {r : List Row} {is : List Item} → ClaimAll contents r is → record_of contents r ≡ some is
  all_claimed {r} {is} h = ap (on_some (ended r)) (items_claimed h.each) ∙ ended_right r is h.fifths

  abbrev AllClaimedBy : List Row → Option (List Item) → Type 0
  AllClaimedBy r none = Unit {0}
  AllClaimedBy r (some is) = ClaimAll contents r is

  claims_all : (r : List Row) → AllClaimedBy r (record_of contents r)
  unfolding ended
  claims_all r = go (items_of contents r) (claims_items r)
    where
      go : (o : Option (List Item)) → ItemsClaimedBy r o → AllClaimedBy r (on_some (ended r) o)
      go none h = tt
      go (some is) h = by_test (AllClaimedBy r) (same_list (afters r) (ends 0 is))
          (λ t. record { each = h; fifths = same_eq (afters r) (ends 0 is) t }) (λ t. tt)

  -- the rows claim a record exactly when it is the one computed
  pub claims_exactly : (r : List Row) (is : List Item) → ClaimAll contents r is ↔ (record_of contents r ≡ some is)
  claims_exactly r is = (all_claimed, λ e. subst (AllClaimedBy r) e (claims_all r))

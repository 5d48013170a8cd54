-- The reader's and the writer's answers, by cases, in the order of their refusals.
use Rattle.std.specs.Prelude.{◌≡◌, ◌⊎◌, ℕ, ◌≤◌, ◌<◌, ltb}
use Rattle.std.proofs.Math.Path.{refl}
use Rattle.std.proofs.Common.{sym, ◌∙◌, ap, subst, arith, le-ltb, lt-ltb, ltb-true, ltb-false}
use Rattle.std.proofs.Math.Logic.{inl, inr}
use mathlib.Core.List.{List, [], ◌∷◌}
use Rattle.std.proofs.Math.Option.{Option, none, some}
use Rattle.std.proofs.Math.ListN.{length}
use Rattle.flow.specs.Tests.{pick_true, pick_false, pick_either}
use Rattle.flow.specs.Flow.{Bytes, Outcome, Done, Fault, One, items}
use Rattle.scalar.specs.Scalars.{DoubleRule}
use Rattle.record.specs.Model.Items.{Item, Known, start, Limits}
use Rattle.record.specs.Model.Reading.{message}
use Rattle.record.specs.Model.Rows.{Row, rows}
use Rattle.record.proofs.Laws.Meaning.{message_all}
use Rattle.record.specs.Model.Answers.{ReadResult, Accept, Refuse, judged, read, WriteResult, Wrote, Refused}
use Rattle.record.specs.Model.Answers.{shortest_of}
use Rattle.record.specs.Model.Answers.{answered, fitted}
use Rattle.record.specs.Model.Terms.{write, Accepts, Accepted, Reads}
use Rattle.record.proofs.Laws.Refusals.{Located, message_located}
use Rattle.record.proofs.Theorems.RowTheorems.{judged_done, done_judged}
use Rattle.record.specs.Model.Claims.{content_at}

pub never : {A : Type 0} → ◌≡◌ {A = ℕ} 0 1 → A
never z = absurd (omega arith)

-- the message is empty or too long
abbrev pub Misfit : Limits → List ℕ → Type 0
Misfit ℓ m = (length m ≡ 0) ⊎ (ℓ.longest < length m)

module _ (ρ : DoubleRule) (ℓ : Limits) where
  -- ---- the reader
  pub reads_accepts : (m : List ℕ) (r : List Item) → length m ≤ ℓ.longest → Reads ρ ℓ m r → Accepts ρ ℓ m r
  reads_accepts m r l x = go (message ρ ℓ start 0 m) refl x.accepted
    where
      go : (o : Outcome Known Item One) → message ρ ℓ start 0 m ≡ o → Accepted r o → Accepts ρ ℓ m r
      go (Done n u es c) e a =
          let all = message_all ρ ℓ m x.bytes n u es c e in
          record {
            entries = es;
            known = c;
            done = done_judged ρ ℓ m (length m) es c l (e
                ∙ ap (λ (k : ℕ). Done k tt es c) all);
            reads_record = a;
          }
      go (Fault y o) e a = absurd a

  module _ (m : List ℕ) where
    -- why refusal x is given, at o
    abbrev Why : ℕ → ℕ → Type 0
    Why x o = (Misfit ℓ m × (◌≡◌ {A = Outcome Known Item One} (Fault 1 0) (Fault x o))) ⊎ Located (length m) x o

    faulted : (x o : ℕ) → judged ρ ℓ m ≡ Fault x o → Why x o
    unfolding judged
    faulted x o = go m refl
      where
        go : (n : List ℕ) → m ≡ n → judged ρ ℓ n ≡ Fault x o → Why x o
        go [] q = λ e. inl (inl (ap length q), e)
        go (b ∷ n) q = pick_either (λ z. z ≡ Fault x o → Why x o) (ltb ℓ.longest (length (b ∷ n)))
            (λ t e. inl (
              inr (subst (λ (k : List ℕ). ℓ.longest < length k) (sym q)
                  (ltb-true ℓ.longest (length (b ∷ n)) t)),
              e,
            ))
            (λ t e. inr (subst (λ (k : List ℕ). Located (length k) x o) (sym q) (message_located ρ ℓ x o (b ∷ n) e)))

    pub misfit_judged : Misfit ℓ m → judged ρ ℓ m ≡ Fault 1 0
    unfolding judged
    misfit_judged = go m
      where
        go : (n : List ℕ) → (length n ≡ 0) ⊎ (ℓ.longest < length n) → judged ρ ℓ n ≡ Fault 1 0
        go [] h = refl
        go (b ∷ n) (inl h) = absurd (omega arith)
        go (b ∷ n) (inr h) = pick_true _ _ (lt-ltb ℓ.longest (length (b ∷ n)) h)

  module _ (lent : ℕ) (m : List ℕ) where
    pub by_read : Bytes m → (P : ReadResult → Type 0)
        → (Misfit ℓ m → P (Refuse 1 0 0))
        → ((x o : ℕ) → Located (length m) x o → P (Refuse x 0 o))
        → ((r : List Item) (x : Accepts ρ ℓ m r) → lent < length x.entries → P (Refuse 9 (length x.entries) 0))
        → ((r : List Item) (x : Accepts ρ ℓ m r) → length x.entries ≤ lent
        → P (Accept (rows x.entries) (length m)))
        → P (read ρ ℓ lent m)
    by_read b P misfit fault few enough = go (judged ρ ℓ m) refl
      where
        refused : (x o : ℕ) → Why m x o → P (answered lent (Fault x o))
        refused x o (inl h) = subst (λ z. P (answered lent z)) h.1 (misfit h.0)
        refused x o (inr h) = fault x o h

        go : (o : Outcome Known Item One) → judged ρ ℓ m ≡ o → P (answered lent o)
        go (Fault x o) e = refused x o (faulted m x o e)
        go (Done k u es c) e =
            let p = judged_done ρ ℓ m k es c e in
            let all = message_all ρ ℓ m b k u es c p.1 in
            let x : Accepts ρ ℓ m (items es) = record {
              entries = es;
              known = c;
              done = e
                  ∙ ap (λ (j : ℕ). Done j tt es c) all;
              reads_record = refl;
            } in
            pick_either P (ltb lent (length es)) (λ t. few (items es) x (ltb-true lent (length es) t))
            (λ t. subst (λ (j : ℕ). P (Accept (rows es) j)) (sym all)
            (enough (items es) x (ltb-false lent (length es) t)))

module _ (ℓ : Limits) where
  -- ---- the writer
  module _ (open_from : ℕ) (source : List ℕ) (r : List Row) where
    pub by_answer : (lent : ℕ) (P : WriteResult → Type 0)
        → (ℓ.longest < length source → P (Refused 1 0))
        → (length source ≤ ℓ.longest → shortest_of ℓ open_from (content_at source) r ≡ none → P (Refused 10 0))
        → (length source ≤ ℓ.longest → (w : List ℕ) → shortest_of ℓ open_from (content_at source) r ≡ some w
        → ℓ.longest < length w → P (Refused 1 0))
        → (length source ≤ ℓ.longest → (w : List ℕ) → shortest_of ℓ open_from (content_at source) r ≡ some w
        → length w ≤ ℓ.longest → lent < length w → P (Refused 9 (length w)))
        → (length source ≤ ℓ.longest → (w : List ℕ) → shortest_of ℓ open_from (content_at source) r ≡ some w
        → length w ≤ ℓ.longest → length w ≤ lent → P (Wrote w))
        → P (write ℓ open_from lent source r)
    unfolding write
    by_answer lent P a b c e f = pick_either P (ltb ℓ.longest (length source))
        (λ t. a (ltb-true ℓ.longest (length source) t)) (λ t. go (ltb-false ℓ.longest (length source) t)
        (shortest_of ℓ open_from (content_at source) r) refl)
      where
        go : length source ≤ ℓ.longest → (o : Option (List ℕ)) → shortest_of ℓ open_from (content_at source) r ≡ o
            → P (fitted ℓ lent o)
        go l none q = b l q
        go l (some w) q = pick_either P (ltb ℓ.longest (length w)) (λ t. c l w q
            (ltb-true ℓ.longest (length w) t)) (λ t. pick_either P (ltb lent (length w))
            (λ s. e l w q (ltb-false ℓ.longest (length w) t) (ltb-true lent (length w) s))
            (λ s. f l w q (ltb-false ℓ.longest (length w) t) (ltb-false lent (length w) s)))

    pub wrote_when : (lent : ℕ) (w : List ℕ) → length source ≤ ℓ.longest
        → shortest_of ℓ open_from (content_at source) r ≡ some w → length w ≤ ℓ.longest → length w ≤ lent
        → write ℓ open_from lent source r ≡ Wrote w
    unfolding write
    wrote_when lent w l q i j = pick_false _ _ (le-ltb ℓ.longest (length source) l)
        ∙ rw q (pick_false _ _ (le-ltb ℓ.longest (length w) i) ∙ pick_false _ _ (le-ltb lent (length w) j))

    pub needed_when : (k : ℕ) (w : List ℕ) → length source ≤ ℓ.longest
        → shortest_of ℓ open_from (content_at source) r ≡ some w → length w ≤ ℓ.longest → k < length w
        → write ℓ open_from k source r ≡ Refused 9 (length w)
    unfolding write
    needed_when k w l q i j = pick_false _ _ (le-ltb ℓ.longest (length source) l)
        ∙ rw q (pick_false _ _ (le-ltb ℓ.longest (length w) i) ∙ pick_true _ _ (lt-ltb k (length w) j))

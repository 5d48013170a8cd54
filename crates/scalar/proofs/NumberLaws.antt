-- Single values: what is read is a form of the grammar, and a form of the grammar is read; the shortest form.
use Rattle.std.specs.Prelude.{◌≡◌, refl, Bool, true, false, cond, ◌&&◌, ℕ, zero, suc, ◌+◌, ◌*◌, ◌-◌, ◌≤◌, ◌<◌, length}
use Rattle.std.proofs.Common.{sym, ◌∙◌, ap, subst, arith}
use Rattle.std.specs.Prelude.{Some, None}
use Rattle.std.specs.declared.option.Option as code
use mathlib.Core.List.{List, [], ◌∷◌}
use Rattle.std.proofs.Math.Option.{Option, none, some}
use lib.Dec.{T, ltb, leb, leb→le, eqb, eqb→eq, eqb_refl, ltb→lt}
use Rattle.flow.specs.Tests.{by_test, pass, and_left, and_right, and_both, pick_true, pick_false, pick_either}
use Rattle.flow.specs.Tests.{within_yes, within_below, within_above, within_is, First}
use Rattle.flow.specs.Flow.{Bytes, Read, fail, mapped}
use Rattle.flow.specs.Laws.{Goal, Parsed, gives, takes, maps, Makes, byte_makes, map_makes, Quiet, quiet}
use Rattle.wire.specs.BigEndian.{joined, be, high, wider}
use Rattle.wire.specs.Laws.{be_length, be_bytes, joined_be, high_below, joined_below}
use Rattle.scalar.specs.declared.Begun.{Begun}
use Rattle.scalar.specs.Scalars.{value, DoubleRule, Floats, value_under, Form, inside, begun, form_at, bytes_of}
use Rattle.scalar.specs.Scalars.{number_under, spelling, fits, shortest}
use Rattle.scalar.specs.Grammar.{HeldUnder, NumberUnder, Held, held, Number, here, later}
use Rattle.scalar.specs.Guesses.{guess}

-- reading by what the first byte, at p, began: for proofs
abbrev pub begun_under : {C I : Type 0} → DoubleRule → code.Option Begun → ℕ → Read C I ℕ
begun_under ρ x p = elim x [ None ↦ fail 3 p | Some z ↦ mapped (value_under ρ z.rule) (bytes_of z.more z.held) ]

abbrev pub number_by : {C I : Type 0} → code.Option Begun → ℕ → Read C I ℕ
number_by = begun_under Floats

-- how many numbers a form holds
abbrev pub size : Form → ℕ
size w = wider w.extra w.codes

-- ---- the first byte
pub form_here : (w : Form) (ws : List Form) (b : ℕ) → inside w b ≡ true
    → form_at (w ∷ ws) b ≡ Some (begun w.extra (b - w.head) w.rule)
unfolding form_at
form_here w ws b h = pick_true _ _ h

pub form_skip : (w : Form) (ws : List Form) (b : ℕ) → inside w b ≡ false → form_at (w ∷ ws) b ≡ form_at ws b
unfolding form_at
form_skip w ws b h = pick_false _ _ h

inside_self : (w : Form) (q : ℕ) → q < w.codes → inside w (w.head + q) ≡ true
inside_self w q l = within_yes w.head (w.head + w.codes) (w.head + q) (omega arith) (omega arith)

-- no first byte is of two forms, and all are bytes: by computation
abbrev pub apart : Form → Form → Bool
apart w x = cond (leb (w.head + w.codes) x.head) true (leb (x.head + x.codes) w.head)

abbrev pub clear : Form → List Form → Bool
clear w [] = true
clear w (x ∷ xs) = apart w x && clear w xs

abbrev pub proper : List Form → Bool
proper [] = true
proper (w ∷ ws) = clear w ws && (leb (w.head + w.codes) 256 && proper ws)

apart_by : (w x : Form) (q : ℕ) → T (apart w x) → q < x.codes → inside w (x.head + q) ≡ false
apart_by w x q h l = go (leb (w.head + w.codes) x.head) refl h
  where
    go : (t : Bool) → leb (w.head + w.codes) x.head ≡ t → T (cond t true (leb (x.head + x.codes) w.head))
        → inside w (x.head + q) ≡ false
    go true e h =
        within_above w.head (w.head + w.codes) (x.head + q)
        (omega (arith, leb→le (w.head + w.codes) x.head (rw e tt)))
    go false e h =
        within_below w.head (w.head + w.codes) (x.head + q)
        (omega (arith, leb→le (x.head + x.codes) w.head h))

pub number_apart : {ρ : DoubleRule} (w : Form) {ws : List Form} {t : List ℕ} {v : ℕ} → NumberUnder ρ ws t v
    → T (clear w ws)
    → First (λ b. inside w b ≡ false) t
number_apart w (here {w = x} {ws = ws} (held q t l e i)) h = apart_by w x q (and_left (apart w x) (clear w ws) h) l
number_apart w (later {w = x} {ws = ws} n) h = number_apart w n (and_right (apart w x) (clear w ws) h)

-- ---- reading: what is read is one of the forms
module _ {C I : Type 0} where
  bytes_read : (k u : ℕ) (H : Goal C I ℕ) (c : C) (at : ℕ) (s : List ℕ) → Bytes s
      → ((t : List ℕ) → length t ≡ k → Bytes t → H t (joined u t) [] c) → Parsed H s (bytes_of k u c at s)
  bytes_read zero u H c at s l h = gives H u c at s (h [] refl tt)
  bytes_read (suc k) u H c at s l h =
      takes H (λ p b. bytes_of k (256 * u + b)) c at s l
      (λ b t m n.
      bytes_read k (256 * u + b) (λ w a is c'. H (b ∷ w) a is c') c (at + 1) t n
      (λ r e i. h (b ∷ r) (ap suc e) (m, i)))

  pub number_reads : (ρ : DoubleRule) (ws : List Form) (H : ℕ
      → Goal C I ℕ) (p b : ℕ) (c : C) (at : ℕ) (s : List ℕ) → Bytes s
      → ((t : List ℕ) (v : ℕ) → NumberUnder ρ ws (b ∷ t) v → H b t v [] c)
      → Parsed (H b) s (number_under ρ ws p b c at s)
  unfolding form_at
  number_reads ρ [] H p b c at s l h = tt
  number_reads ρ (w ∷ ws) H p b c at s l h =
      pick_either (λ (x : code.Option Begun). Parsed (H b) s (begun_under ρ x p c at s)) (inside w b)
      (λ x. let r = within_is w.head (w.head + w.codes) b (rw x tt) in
      maps (H b) (value_under ρ w.rule) s (bytes_of w.extra (b - w.head) c at s)
      (bytes_read w.extra (b - w.head) (λ u a is c'. H b u (value_under ρ w.rule a) is c') c at s l
      (λ t e i. h t (value_under ρ w.rule (joined (b - w.head) t))
      (here
      (subst (λ (z : ℕ). HeldUnder ρ w (z ∷ t) (value_under ρ w.rule (joined (b - w.head) t))) (omega (arith, r.0))
      (held (b - w.head) t (omega (arith, r.0, r.1)) e i))))))
      (λ x. number_reads ρ ws H p b c at s l (λ t v n. h t v (later n)))

-- ---- and the forms are read
abbrev pub LedUnder : {C : Type 0} (I : Type 0) → DoubleRule → List Form → List ℕ → ℕ → C → Type 0
LedUnder I ρ ws [] v c = ⊥
LedUnder I ρ ws (b ∷ t) v c = (p : ℕ) → Makes {I = I} (number_under ρ ws p b) c t v [] c

abbrev pub NumberLed : {C : Type 0} (I : Type 0) → List Form → List ℕ → ℕ → C → Type 0
NumberLed I = LedUnder I Floats

module _ {C : Type 0} (I : Type 0) where
  bytes_make : (k u : ℕ) (t : List ℕ) → length t ≡ k → (c : C) → Makes {I = I} (bytes_of k u) c t (joined u t) [] c
  bytes_make zero u [] e c = record { makes = λ at tail. ([], refl, refl) }
  bytes_make zero u (b ∷ t) e c = absurd (omega arith)
  bytes_make (suc k) u [] e c = absurd (omega arith)
  bytes_make (suc k) u (b ∷ t) e c =
      byte_makes {I = I} (λ p b. bytes_of k (256 * u + b)) b (λ p. bytes_make k (256 * u + b) t (omega arith) c)

  skip_form : (ρ : DoubleRule) (w : Form) (ws : List Form) (c : C) (t : List ℕ) (v : ℕ)
      → First (λ b. inside w b ≡ false) t
      → LedUnder I ρ ws t v c → LedUnder I ρ (w ∷ ws) t v c
  skip_form ρ w ws c [] v x h = h
  skip_form ρ w ws c (b ∷ t) v x h =
      λ p. subst (λ (z : code.Option Begun). Makes {I = I} (begun_under ρ z p) c t v [] c) (sym (form_skip w ws b x)) (h p)

  pub number_makes : {ρ : DoubleRule} {ws : List Form} {t : List ℕ} {v : ℕ} → NumberUnder ρ ws t v → T (proper ws)
      → (c : C) → LedUnder I ρ ws t v c
  number_makes {ρ} (here {w = w} {ws = ws} (held q t l e i)) x c = λ p.
      let d : begun w.extra (w.head + q - w.head) w.rule ≡ begun w.extra q w.rule =
      ap (λ (z : ℕ). begun w.extra z w.rule) (omega arith) in
      subst (λ (z : code.Option Begun). Makes {I = I} (begun_under ρ z p) c t (value_under ρ w.rule (joined q t)) [] c)
      (sym (form_here w ws (w.head + q) (inside_self w q l) ∙ ap Some d))
      (map_makes (value_under ρ w.rule) (bytes_of w.extra q) (bytes_make w.extra q t e c))
  number_makes {ρ} (later {w = w} {ws = ws} {t = t} {v = v} n) x c =
      skip_form ρ w ws c t v (number_apart w n (and_left (clear w ws) (leb (w.head + w.codes) 256 && proper ws) x))
      (number_makes n
      (and_right (leb (w.head + w.codes) 256) (proper ws)
      (and_right (clear w ws) (leb (w.head + w.codes) 256 && proper ws) x)) c)

  pub number_scans : (ρ : DoubleRule) (ws : List Form) (p b : ℕ) (c : C) (at : ℕ) (s : List ℕ) → Bytes s
      → Parsed {I = I} (Quiet (λ t v. NumberUnder ρ ws (b ∷ t) v) c) s (number_under ρ ws p b c at s)
  number_scans ρ ws p b c at s l =
      number_reads ρ ws (λ b. Quiet (λ t v. NumberUnder ρ ws (b ∷ t) v) c) p b c at s l (λ t v n. quiet n)

-- ---- a form's bytes
pub number_bytes : {ρ : DoubleRule} {ws : List Form} {t : List ℕ} {v : ℕ} → NumberUnder ρ ws t v → T (proper ws)
    → Bytes t
number_bytes (here {w = w} {ws = ws} (held q t l e i)) x = (
  omega (
    arith,
    leb→le (w.head + w.codes) 256
        (and_left (leb (w.head + w.codes) 256) (proper ws)
        (and_right (clear w ws) (leb (w.head + w.codes) 256 && proper ws) x)),
  ),
  i,
)
number_bytes (later {w = w} {ws = ws} n) x =
    number_bytes n
    (and_right (leb (w.head + w.codes) 256) (proper ws)
    (and_right (clear w ws) (leb (w.head + w.codes) 256 && proper ws) x))

pub number_some : {ρ : DoubleRule} {ws : List Form} {t : List ℕ} {v : ℕ} → NumberUnder ρ ws t v → 0 < length t
number_some (here (held q t l e i)) = omega arith
number_some (later n) = number_some n

-- a form holds each number below its size
pub held_by : (w : Form) (u : ℕ) → high w.extra u < w.codes → Held w (spelling w u) (value w.rule u)
held_by w u l =
    subst (λ (z : ℕ). Held w (spelling w u) (value w.rule z)) (joined_be w.extra u)
    (held (high w.extra u) (be w.extra u) l (be_length w.extra u) (be_bytes w.extra u))

pub spelling_length : (w : Form) (u : ℕ) → length (spelling w u) ≡ suc w.extra
spelling_length w u = ap suc (be_length w.extra u)

-- ---- what is spelled is a form
abbrev pub IsNumber : List Form → ℕ → Option (List ℕ) → Type 0
IsNumber ws v none = Unit {0}
IsNumber ws v (some b) = Number ws b v

further : (w : Form) (ws : List Form) (v : ℕ) (o : Option (List ℕ)) → IsNumber ws v o → IsNumber (w ∷ ws) v o
further w ws v none h = tt
further w ws v (some b) h = later h

pub shortest_is : (ws : List Form) (v : ℕ) → IsNumber ws v (shortest ws v)
unfolding shortest
shortest_is [] v = tt
shortest_is (w ∷ ws) v =
    let g = guess w.rule v in
    by_test (IsNumber (w ∷ ws) v) (fits w v)
    (λ x.
    here
    (subst (λ (z : ℕ). Held w (spelling w g) z)
    (eqb→eq (value w.rule g) v (and_right (ltb (high w.extra g) w.codes) (eqb (value w.rule g) v) x))
    (held_by w g
    (ltb→lt (high w.extra g) w.codes
    (and_left (ltb (high w.extra g) w.codes) (eqb (value w.rule g) v) x)))))
    (λ x. further w ws v (shortest ws v) (shortest_is ws v))

-- ---- and no form is shorter: a value that a form holds is found again, and a later form is no shorter
abbrev pub Sane : Form → Type 0
Sane w = (u : ℕ) → u < size w → guess w.rule (value w.rule u) ≡ u

abbrev pub Sanes : ℕ → List Form → Type 0
Sanes k [] = Unit {0}
Sanes k (w ∷ ws) = (k ≤ w.extra) × Sane w × Sanes w.extra ws

abbrev pub Shorter : List Form → ℕ → ℕ → Type 0
Shorter ws v n = (b : List ℕ) × (shortest ws v ≡ some b) × (length b ≤ n)

long_enough : (k : ℕ) {ws : List Form} {t : List ℕ} {v : ℕ} → Number ws t v → Sanes k ws → suc k ≤ length t
long_enough k (here (held q t l e i)) s = omega arith
long_enough k (later {w = w} n) s = omega (arith, long_enough w.extra n s.2)

pub fits_held : (w : Form) (u : ℕ) → Sane w → u < size w → T (fits w (value w.rule u))
fits_held w u s l =
    let e = s u l in
    let v = value w.rule u in
    and_both (ltb (high w.extra (guess w.rule v)) w.codes) (eqb (value w.rule (guess w.rule v)) v)
    (rw e (lib.Dec.lt→ltb _ _ (high_below w.extra u w.codes l))) (rw e (eqb_refl v))

pub number_short : (k : ℕ) {ws : List Form} {t : List ℕ} {v : ℕ} → Number ws t v → Sanes k ws → Shorter ws v (length t)
unfolding shortest
number_short k (here {w = w} {ws = ws} (held q t l e i)) s =
    let v = value w.rule (joined q t) in (
      spelling w (guess w.rule v),
      pass (fits w v) _ _ (fits_held w (joined q t) s.1 (joined_below t w.extra q w.codes e i l)) refl,
      omega (arith, be_length w.extra (guess w.rule v)),
    )
number_short k (later {w = w} {ws = ws} {t = t} {v = v} n) s =
    by_test (λ (o : Option (List ℕ)). (b : List ℕ) × (o ≡ some b) × (length b ≤ length t)) (fits w v)
    (λ x. (
      spelling w (guess w.rule v),
      refl,
      omega (arith, be_length w.extra (guess w.rule v), long_enough w.extra n s.2),
    ))
    (λ x. number_short w.extra n s.2)

-- ---- a fact of every form is a fact of every number
abbrev pub EachUnder : DoubleRule → (ℕ → ℕ → Type 0) → List Form → Type 0
EachUnder ρ P [] = Unit {0}
EachUnder ρ P (w ∷ ws) = ((u : ℕ) → u < size w → P (suc w.extra) (value_under ρ w.rule u)) × EachUnder ρ P ws

abbrev pub EachForm : (ℕ → ℕ → Type 0) → List Form → Type 0
EachForm = EachUnder Floats

pub number_fact : {ρ : DoubleRule} (P : ℕ → ℕ → Type 0) {ws : List Form} {t : List ℕ} {v : ℕ} → NumberUnder ρ ws t v
    → EachUnder ρ P ws → P (length t) v
number_fact {ρ} P (here {w = w} (held q t l e i)) h =
    subst (λ (z : ℕ). P (suc z) (value_under ρ w.rule (joined q t))) (sym e)
    (h.0 (joined q t) (joined_below t w.extra q w.codes e i l))
number_fact P (later n) h = number_fact P n h.1

-- Consecutive spans: how far some reach, and where a loop along spans stands.
-- Assumes nothing.
use mathlib.Core.Path.{◌≡◌, refl, sym, ap, ◌∙◌}
use mathlib.Core.List.{List, [], ◌∷◌, ◌++◌, append-nil, append_assoc}
use mathlib.Core.Bool.{Bool}
use Prim.Native.Nat.{ℕ, zero, suc, ◌+◌, ◌-◌, ◌<◌}
use lib.Dec.{eqb}
use Rattle.std.specs.Option.{option_eq}
use Rattle.rules.specs.declared.Span.{Span}
use Rattle.rules.specs.declared.Item.{Item}
use Rattle.rules.specs.Syntax.{flat}
use Rattle.rules.specs.View.{each}
use Rattle.rules.specs.WellFormed.{consecutive, operand_spans, attribute_spans}
use Rattle.std.specs.Prelude.{Option, Some, None}
use Rattle.wellformed.specs.Reached.{goes_on, Reaches}
use Rattle.wellformed.proofs.Along.{each_more}

module _ {at : ℕ} {s : List Span} {r : Option ℕ} (h : Reaches at s r) where
  -- the spans, or the answer, told otherwise
  pub spans_as : {t : List Span} → s ≡ t → Reaches at t r
  spans_as e = record { behind = λ past l. ap (λ (x : List Span). consecutive at past (x ++ l)) (sym e) ∙ h.behind past l }

  pub answer_as : {q : Option ℕ} → r ≡ q → Reaches at s q
  answer_as e = record { behind = λ past l. h.behind past l ∙ ap (λ (x : Option ℕ). goes_on x past l) e }

  -- with no spans behind them
  pub reaches_all : (past : ℕ) → consecutive at past s ≡ goes_on r past []
  reaches_all past = ap (consecutive at past) (sym (append-nil s)) ∙ h.behind past []

-- with others behind them
pub reaches_on : {at next : ℕ} {s t : List Span} {r : Option ℕ} → Reaches at s (Some next) → Reaches next t r → Reaches at (s ++ t) r
reaches_on {at} {next} {s} {t} h k = record { behind = λ past l. ap (consecutive at past) (append_assoc s t l) ∙ h.behind past (t ++ l) ∙ k.behind past l }

pub reaches_no_more : {at : ℕ} {s : List Span} (t : List Span) → Reaches at s None → Reaches at (s ++ t) None
reaches_no_more {at} {s} t h = record { behind = λ past l. ap (consecutive at past) (append_assoc s t l) ∙ h.behind past (t ++ l) }

-- L has the spans from each row on. A loop along them has come from row first, where rows were owned up to at, to row i, and rows are owned up to reached
pub record Following (L : ℕ → List Span) (first at i reached : ℕ) : Type 0 where
  pub rest : (past : ℕ) (l : List Span) → consecutive at past (L first ++ l) ≡ consecutive reached past (L i ++ l)

-- and what a step from row i on answers
pub record Step (L : ℕ → List Span) (i reached : ℕ) (r : Option ℕ) : Type 0 where
  pub on : (past : ℕ) (l : List Span) → consecutive reached past (L i ++ l) ≡ goes_on r past (L (i + 1) ++ l)

-- a step along one span for each row, or some for each
pub span_step : (f : ℕ → Span) {i end reached : ℕ} {r : Option ℕ} → i < end → Reaches reached (f i ∷ []) r → Step (λ k. each f k (end - k)) i reached r
span_step f {i} {end} {reached} h k =
    record { on = λ past l. ap (λ (x : List Span). consecutive reached past (x ++ l)) (each_more f i end h) ∙ k.behind past (each f (i + 1) (end - (i + 1)) ++ l) }

pub spans_step : {A : Type 0} (g : A → List Span) (f : ℕ → A) {i end reached : ℕ} {r : Option ℕ} → i < end → Reaches reached (g (f i)) r → Step (λ k. flat g (each f k (end - k))) i reached r
spans_step {A} g f {i} {end} {reached} h k =
    record {
      on =
          λ past l.
          ap (λ (x : List A). consecutive reached past (flat g x ++ l)) (each_more f i end h)
          ∙ ap (consecutive reached past) (append_assoc (g (f i)) (flat g (each f (i + 1) (end - (i + 1)))) l)
          ∙ k.behind past (flat g (each f (i + 1) (end - (i + 1))) ++ l);
    }

module _ {L : ℕ → List Span} {first at : ℕ} where
  pub following_begin : Following L first at first at
  following_begin = record { rest = λ past l. refl }

  module _ {i reached : ℕ} (p : Following L first at i reached) where
    pub following_more : {r : Option ℕ} {next : ℕ} → Step L i reached r → r ≡ Some next → Following L first at (i + 1) next
    following_more s e = record { rest = λ past l. p.rest past l ∙ s.on past l ∙ ap (λ (x : Option ℕ). goes_on x past (L (i + 1) ++ l)) e }

    pub following_stop : {r : Option ℕ} → Step L i reached r → r ≡ None → Reaches at (L first) None
    following_stop s e = record { behind = λ past l. p.rest past l ∙ s.on past l ∙ ap (λ (x : Option ℕ). goes_on x past (L (i + 1) ++ l)) e }

    pub following_end : L i ≡ [] → Reaches at (L first) (Some reached)
    following_end e = record { behind = λ past l. p.rest past l ∙ ap (λ (x : List Span). consecutive reached past (x ++ l)) e }

-- rows by their numbers: a span of each, or those of each
pub flat_single : (f : ℕ → Span) (first n : ℕ) → flat (λ i. f i ∷ []) (each (λ i. i) first n) ≡ each f first n
flat_single f first zero = refl
flat_single f first (suc n) = ap (λ (l : List Span). f first ∷ l) (flat_single f (first + 1) n)

pub flat_rows : {A : Type 0} (g : A → List Span) (f : ℕ → A) (first n : ℕ) → flat (λ i. g (f i)) (each (λ i. i) first n) ≡ flat g (each f first n)
flat_rows g f first zero = refl
flat_rows g f first (suc n) = ap (λ (l : List Span). g (f first) ++ l) (flat_rows g f (first + 1) n)

-- the row, or its item, told otherwise
pub span_as : {at : ℕ} {s t : Span} {r : Option ℕ} → Reaches at (s ∷ []) r → s ≡ t → Reaches at (t ∷ []) r
span_as h e = spans_as h (ap (λ (x : Span). x ∷ []) e)

pub statements_as : {at : ℕ} {x y : Item} {r : Option ℕ} → Reaches at (x.statements ∷ []) r → x ≡ y → Reaches at (y.statements ∷ []) r
statements_as h e = spans_as h (ap (λ (x : Item). x.statements ∷ []) e)

pub operands_as : (S : List ℕ) {at : ℕ} {x y : Item} {r : Option ℕ} → Reaches at (operand_spans S x) r → x ≡ y → Reaches at (operand_spans S y) r
operands_as S h e = spans_as h (ap (operand_spans S) e)

pub attributes_as : (S : List ℕ) {at : ℕ} {x y : Item} {r : Option ℕ} → Reaches at (attribute_spans S x) r → x ≡ y → Reaches at (attribute_spans S y) r
attributes_as S h e = spans_as h (ap (attribute_spans S) e)

told : (r : Option ℕ) (past : ℕ) → goes_on r past [] ≡ option_eq eqb r (Some past)
told (Some at) past = refl
told None past = refl

-- the spans of all items reach so far; whether that is up to a count
pub owned_to : {s whole : List Span} {r : Option ℕ} {b : Bool} (past : ℕ) → Reaches 0 s r → s ≡ whole → b ≡ option_eq eqb r (Some past) → b ≡ consecutive 0 past whole
owned_to {r = r} past h w e = e ∙ sym (reaches_all (spans_as h w) past ∙ told r past)

-- Operands with or without a comma before the first, one after another.
-- Assumes nothing.
use Rattle.std.proofs.Common.{ℕ, suc, ◌+◌, ◌-◌, ◌<◌, ◌≤◌, arith, ◌≡◌, refl, ◌∙◌, Bool, true, false, Result, Ok, Err, ap}
use borrow.Author.Tests.{lt-ltb}
use Rattle.rules.specs.Tokens as kind
use Rattle.rules.specs.Reading as R
use Rattle.rules.specs.World.{World, Res, go, stop, P, bind, ◌>>=◌, give}
use Rattle.reading.proofs.Steady.{Steady, given, after, expect_steady}
use Rattle.parser.specs.declared.Parser.{Parser}
use Rattle.parser.specs.declared.fault.Fault.{Fault}
use Rattle.parser.specs.Stands.{Runs, world, Ready}
use Rattle.parser.proofs.Chains.{kept, both_kept}
use Rattle.reader.specs.Commas.{comma_if, operands_behind, wanted}

bind-bind : {A B C : Type 0} (r : Res A) (f : A → P B) (g : B → P C) → bind (bind r f) g ≡ bind r (λ a. f a >>= g)
bind-bind (go a w) f g = refl
bind-bind (stop n t) f g = refl

bind-give : (r : Res (Unit {0})) → bind r (λ _. give tt) ≡ r
bind-give (go a w) = refl
bind-give (stop n t) = refl

-- an operand and all that follow it
abbrev further : ℕ → P (Unit {0})
further n = R.operand >>= λ u. operands_behind true n

first-behind : (comma : Bool) (n : ℕ) (w : World) → bind (comma_if comma w) (λ u. further n) ≡ operands_behind comma (suc n) w
unfolding comma_if operands_behind R.further_operands R.operands
first-behind true n w = bind-bind (R.expect 5 w) (λ t. give tt) (λ u. further n)
first-behind false n w = refl

none_behind : (comma : Bool) (w : World) → go tt w ≡ operands_behind comma 0 w
unfolding operands_behind R.further_operands R.operands
none_behind true w = refl
none_behind false w = refl

pub all_behind : (n : ℕ) (p q : Parser) (b : Result (Unit {0}) Fault) → Runs (operands_behind true n) p b q → Runs (R.further_operands n) p b q
unfolding operands_behind
all_behind n p q b x = x

pub all_between : (n : ℕ) (p q : Parser) (b : Result (Unit {0}) Fault) → Runs (operands_behind false n) p b q → Runs (R.operands n) p b q
unfolding operands_behind
all_between n p q b x = x

-- one operand, and no comma
pub one_operand : (p q : Parser) (b : Result (Unit {0}) Fault) → Runs (operands_behind false 1) p b q → Runs R.operand p b q
unfolding operands_behind R.operands R.further_operands
one_operand p q b x = record { tells = x.tells ∙ bind-give (R.operand (world p)); keeps = x.keeps; ready = x.ready }

-- a comma, where one is wanted, leaves the scope and the statements as they are
pub comma_steady : (comma : Bool) → Steady (comma_if comma)
unfolding comma_if
comma_steady true = after (expect_steady kind.comma) (λ t. given tt)
comma_steady false = given tt

-- behind some operands of n: what is left to read is what the rule reads, and an index that held rows of the item still does
pub record Behind (comma : Bool) (n : ℕ) (p : Parser) (behind : Bool) (left : ℕ) (q : Parser) : Type 0 where
  pub rest : (b : Result (Unit {0}) Fault) (r : Parser) → Runs (operands_behind behind left) q b r → Runs (operands_behind comma n) p b r
  pub ready : Ready p → Ready q

pub none_yet : (comma : Bool) (n : ℕ) (p : Parser) → Behind comma n p comma n p
none_yet comma n p = record { rest = λ b r x. x; ready = λ h. h }

module _ (comma : Bool) (n : ℕ) (p : Parser) (behind : Bool) (k left : ℕ) (q q1 : Parser) (more : k ≡ suc left) (s : Behind comma n p behind k q) where
  abbrev here : Res (Unit {0}) → Type 0
  here m = bind m (λ u. further left) ≡ operands_behind behind k (world q)

  after_comma : (m : Res (Unit {0})) → m ≡ comma_if behind (world q) → here m
  after_comma m e = rw more (rw e (first-behind behind left (world q)))

  pub turn : (q2 : Parser) → Runs (comma_if behind) q (Ok tt) q1 → Runs R.operand q1 (Ok tt) q2 → Behind comma n p true left q2
  turn q2 x y =
      record {
        rest = λ b r z. s.rest b r
            (record {
              tells = z.tells ∙ ap (λ (m : Res (Unit {0})). bind m (λ u. operands_behind true left)) y.tells ∙ after_comma (go tt (world q1)) x.tells;
              keeps = both_kept x.keeps (both_kept y.keeps z.keeps);
              ready = λ h. z.ready (y.ready (x.ready h));
            });
        ready = λ h. y.ready (x.ready (s.ready h));
      }

  pub no_comma : (e : Fault) (b : Result (Unit {0}) Fault) → b ≡ Err e → Runs (comma_if behind) q (Err e) q1 → Runs (operands_behind comma n) p b q1
  no_comma e b i x = rw i (s.rest (Err e) q1 (record { tells = after_comma _ x.tells; keeps = x.keeps; ready = λ h. tt }))

  pub no_operand : (q2 : Parser) (e : Fault) (b : Result (Unit {0}) Fault) → b ≡ Err e → Runs (comma_if behind) q (Ok tt) q1 → Runs R.operand q1 (Err e) q2 → Runs (operands_behind comma n) p b q2
  no_operand q2 e b i x y =
      rw i
      (s.rest (Err e) q2
      (record {
        tells = ap (λ (m : Res (Unit {0})). bind m (λ u. operands_behind true left)) y.tells ∙ after_comma (go tt (world q1)) x.tells;
        keeps = both_kept x.keeps y.keeps;
        ready = λ h. tt;
      }))

pub over : (comma : Bool) (n : ℕ) (p : Parser) (behind : Bool) (left : ℕ) (q : Parser) → left ≡ 0 → Behind comma n p behind left q → Runs (operands_behind comma n) p (Ok tt) q
over comma n p behind left q e s = s.rest (Ok tt) q (record { tells = rw e (none_behind behind (world q)); keeps = kept q; ready = λ h. h })

-- the same, by how many operands are read
first_wanted : (comma : Bool) → wanted comma 0 ≡ comma
first_wanted true = refl
first_wanted false = refl

next_wanted : (comma : Bool) (i : ℕ) → wanted comma (i + 1) ≡ true
next_wanted true i = refl
next_wanted false i = lt-ltb 0 (i + 1) (omega arith)

module _ (comma : Bool) (n : ℕ) (p : Parser) where
  pub start : Behind comma n p (wanted comma 0) (n - 0) p
  start = let e : n - 0 ≡ n = omega arith in rw (e, first_wanted comma) (none_yet comma n p)

  module _ (i : ℕ) (q q1 : Parser) (low : i < n) (t : Bool) (h : t ≡ wanted comma i) (s : Behind comma n p (wanted comma i) (n - i) q) where
    pub next : (q2 : Parser) → Runs (comma_if t) q (Ok tt) q1 → Runs R.operand q1 (Ok tt) q2 → Behind comma n p (wanted comma (i + 1)) (n - (i + 1)) q2
    next q2 x y = rw (next_wanted comma i) (turn comma n p (wanted comma i) (n - i) (n - (i + 1)) q q1 (omega arith) s q2 (rw h at x) y)

    pub comma-fails : (e : Fault) (b : Result (Unit {0}) Fault) → b ≡ Err e → Runs (comma_if t) q (Err e) q1 → Runs (operands_behind comma n) p b q1
    comma-fails e b j x = no_comma comma n p (wanted comma i) (n - i) (n - (i + 1)) q q1 (omega arith) s e b j (rw h at x)

    pub operand-fails : (q2 : Parser) (e : Fault) (b : Result (Unit {0}) Fault) → b ≡ Err e → Runs (comma_if t) q (Ok tt) q1 → Runs R.operand q1 (Err e) q2 → Runs (operands_behind comma n) p b q2
    operand-fails q2 e b j x y = no_operand comma n p (wanted comma i) (n - i) (n - (i + 1)) q q1 (omega arith) s q2 e b j (rw h at x) y

  pub finish : (i : ℕ) (q : Parser) → n ≤ i → Behind comma n p (wanted comma i) (n - i) q → Runs (operands_behind comma n) p (Ok tt) q
  finish i q h s = over comma n p (wanted comma i) (n - i) q (omega arith) s

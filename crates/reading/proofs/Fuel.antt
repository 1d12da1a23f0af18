-- The definition's fuel is enough: no reading stops for want of it, so every refusal has a number from 1 to 7.
-- Assumes nothing.
use Prim.Native.Nat.{ℕ, suc, ◌≤◌}
use mathlib.Core.Path.{◌≡◌}
use mathlib.Core.Bool.{cond}
use mathlib.Core.List.{List}
use native.Mathlib.Omega.{arith}
use borrow.Author.Tests.{eqb-false}
use lib.Dec.{eqb, ltb}
use lib.ListN.{length}
use Rattle.std.specs.Prelude.{Ok, Err}
use Rattle.rules.specs.declared.Entry.{Entry}
use Rattle.rules.specs.declared.Spot.{Spot}
use Rattle.rules.specs.declared.Lexed.{Lexed}
use Rattle.rules.specs.declared.Lexed.TheVariants.{Found, End, Refused}
use Rattle.rules.specs.Faults as fault
use Rattle.rules.specs.Tokens.{token_at}
use Rattle.rules.specs.Utf8.{checked, Checked}
use Rattle.rules.specs.World.{Res, go, stop, asks}
use Rattle.rules.specs.Reading as R
use Rattle.rules.specs.Answers.{Lent, start, fault_number, Outcome, accepted, refusal, outcome, read_checked, reading}
use Rattle.laws.proofs.Cases.{by_cases}
use Rattle.reading.proofs.Ends.{Ends, goes, stops, seq, arms, either, stopped, claim_item-ends, claim_statement-ends, claim_operand-ends, claim_attribute-ends}
use Rattle.reading.proofs.Many.{Stops, many_stops}
use Rattle.reading.proofs.Rules.{empty, Closed, items_good}

-- the faults that have a number
abbrev pub Numbered : ℕ → Spot → Type 0
Numbered n t = (1 ≤ n) × (n ≤ 8)

seen_stops : (l : Lexed) → Stops Numbered (R.seen l)
unfolding R.seen
seen_stops (Found t) = record { by = λ w. goes _ _ tt }
seen_stops End = record { by = λ w. goes _ w tt }
seen_stops (Refused p) = record { by = λ w. stops fault.lexer (record { kind = 0; first = p; past = p }) (omega arith) }

lookahead_stops : Stops Numbered R.lookahead
unfolding R.lookahead
lookahead_stops = record { by = λ w. arms (eqb w.stand.ahead.kind 0) ((seen_stops (token_at w.text w.stand.at)).by w) (goes _ w tt) }

token_stops : Stops Numbered R.token
unfolding R.token
token_stops = record { by = λ w. seq _ (lookahead_stops.by w) (λ t v h. either (eqb t.kind 0) _ _ v (stops fault.end (R.last_byte v.text) (omega arith)) (goes t _ tt)) }

numbering : Closed (λ j k A p. Stops Numbered p)
unfolding asks
numbering =
    record {
      given = λ j a. record { by = λ w. goes a w tt };
      asked = λ j f h. record { by = λ w. goes (f w) w tt };
      scoping = λ j n. record { by = λ w. goes tt _ tt };
      halted = λ j k n t h. record { by = λ w. stops n t (omega arith) };
      then = λ j k l p f x y. record { by = λ w. seq f (x.by w) (λ a v h. (y a).by v) };
      choose = λ j k t p q x y. record { by = λ w. either t p q w (x.by w) (y.by w) };
      less = λ j k p x. x;
      lose = λ j k p x. x;
      look = λ j. lookahead_stops;
      take = λ j. token_stops;
      item = λ j r. record { by = λ w. claim_item-ends r w (λ h. tt) (λ h. omega arith) };
      statement = λ j r. record { by = λ w. claim_statement-ends r w (λ h. tt) (λ h. omega arith) };
      operand = λ j r. record { by = λ w. claim_operand-ends r w (λ h. tt) (λ h. omega arith) };
      attribute = λ j r. record { by = λ w. claim_attribute-ends r w (λ h. tt) (λ h. omega arith) };
      again = λ x y f g j. many_stops x y (f j) (g j);
    }

-- From whatever world, a list of items stops only with such a fault.
pub items-stop : (e : Entry) → Stops Numbered (R.items e)
items-stop e = items_good numbering e empty

-- No reading stops for want of fuel.
pub never_fuel : (e : Entry) (text : List ℕ) (l : Lent) (t : Spot) → R.items e (start text l) ≡ stop fault.fuel t → ⊥
never_fuel e text l t h = let n : Numbered fault.fuel t = stopped (rw h at ((items-stop e).by (start text l))) in omega arith

-- what holds of an outcome that is a refusal
abbrev pub Refuses : (ℕ → ℕ → Type 0) → Outcome → Type 0
Refuses G (accepted t) = Unit {0}
Refuses G (refusal n p) = G n p

abbrev OneToSeven : ℕ → Type 0
OneToSeven n = (1 ≤ n) × (n ≤ 7)

-- a fault from k on has the number x, or is past k
past : (f k : ℕ) {x y : ℕ} → k ≤ f → OneToSeven x → (suc k ≤ f → OneToSeven y) → OneToSeven (cond (eqb f k) x y)
past f k h a b =
    by_cases (eqb f k)
    (λ e. rw e a)
    (λ e. rw e (b (let n : f ≡ k → ⊥ = eqb-false f k e in omega arith)))

number-within : (f : ℕ) → 1 ≤ f → f ≤ 8 → OneToSeven (fault_number f)
unfolding fault_number
number-within f h top =
    past f 1 h (omega arith) (λ h₁.
    past f 2 h₁ (omega arith) (λ h₂.
    past f 3 h₂ (omega arith) (λ h₃.
    past f 4 h₃ (omega arith) (λ h₄.
    past f 5 h₄ (omega arith) (λ h₅.
    past f 6 h₅ (omega arith) (λ h₆.
    past f 7 h₆ (omega arith) (λ h₇.
    past f 8 h₇ (omega arith) (λ h₈. omega arith))))))))

outcome-within : (m : Res (Unit {0})) → Ends (λ a v. Unit {0}) Numbered m → Refuses (λ n p. OneToSeven n) (outcome m)
unfolding outcome
outcome-within (go u w) h = tt
outcome-within (stop f t) h = let n : Numbered f t = stopped h in number-within f n.0 n.1

checked-within : (c : Checked) (e : Entry) (text : List ℕ) (l : Lent) → Refuses (λ n p. OneToSeven n) (read_checked c e text l)
unfolding read_checked
checked-within (Ok u) e text l = outcome-within (R.items e (start text l)) ((items-stop e).by (start text l))
checked-within (Err p) e text l = omega arith

-- The refusals of a reading are numbered 1 to 7.
pub refusals : (e : Entry) (text : List ℕ) (l : Lent) → Refuses (λ n p. (1 ≤ n) × (n ≤ 7)) (reading e text l)
unfolding reading
refusals e text l =
    by_cases (ltb 65536 (length text))
    (λ h. rw h (omega arith))
    (λ h. rw h (checked-within (checked text) e text l))

pub refused-number : (e : Entry) (text : List ℕ) (l : Lent) (n p : ℕ) → reading e text l ≡ refusal n p → (1 ≤ n) × (n ≤ 7)
refused-number e text l n p h = rw h at (refusals e text l)

pub never_zero : (e : Entry) (text : List ℕ) (l : Lent) (p : ℕ) → reading e text l ≡ refusal 0 p → ⊥
never_zero e text l p h = omega (arith, refused-number e text l 0 p h)

-- So are those of what reads the tokens.
pub items-number : (e : Entry) (text : List ℕ) (l : Lent) (n p : ℕ) → outcome (R.items e (start text l)) ≡ refusal n p → (1 ≤ n) × (n ≤ 7)
items-number e text l n p h = rw h at (outcome-within (R.items e (start text l)) ((items-stop e).by (start text l)))

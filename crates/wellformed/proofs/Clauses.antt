-- What closes a `returns` whose clause goes by tests: `search clauses`; or step by step, where a test decides a conjunction or a choice.
-- Assumes nothing.
use mathlib.Core.Path.{◌≡◌}
use mathlib.Core.Bool.{Bool, true, false, cond, not, ◌&&◌}
use Rattle.laws.proofs.Tests.{tests, conds, said_not, said_not_not}

pub ruleset clauses = (tests, conds)

-- a clause fails; or it holds, and the others decide
pub stops : (a b : Bool) → a ≡ false → false ≡ (a && b)
stops a b e = rw e

pub goes : (a b : Bool) {x : Bool} → a ≡ true → x ≡ b → x ≡ (a && b)
goes a b e h = rw e h

-- the same where a call answered whether the clause holds
pub failed : {r a : Bool} (b : Bool) → r ≡ a → not r ≡ true → false ≡ (a && b)
failed b e t = stops _ b (said_not e t)

pub passed : {r a b x : Bool} → r ≡ a → not r ≡ false → x ≡ b → x ≡ (a && b)
passed e t h = goes _ _ (said_not_not e t) h

-- a choice's test says yes, or no
pub picks : {A : Type 0} (t : Bool) (x y : A) {z : A} → t ≡ true → z ≡ x → z ≡ cond t x y
picks t x y e h = rw e h

pub leaves : {A : Type 0} (t : Bool) (x y : A) {z : A} → t ≡ false → z ≡ y → z ≡ cond t x y
leaves t x y e h = rw e h

-- What closes a `returns` whose clause goes by tests: `search nums`, `search tests`. The facts of the tests are found in what the need is handed.
-- Assumes nothing.
use Prim.Native.Nat.{ℕ, ◌≤◌}
use native.Mathlib.Omega.{arith}
use mathlib.Core.Path.{◌≡◌, refl, sym, ◌∙◌}
use mathlib.Core.Bool.{Bool, true, false, cond, false≢true, not, ◌&&◌, ◌||◌}
use borrow.Author.Tests.{le-leb, lt-leb, le-ltb, lt-ltb, eq-eqb, ne_eqb, not-true, not-false}

-- what a call's result is, and what a test says of that result
pub said : {r a t : Bool} → r ≡ a → r ≡ t → a ≡ t
said p q = sym p ∙ q

pub said_not : {r a : Bool} → r ≡ a → not r ≡ true → a ≡ false
said_not {r} p q = sym p ∙ not-true r q

pub said_not_not : {r a : Bool} → r ≡ a → not r ≡ false → a ≡ true
said_not_not {r} p q = sym p ∙ not-false r q

pub or_true : (a b : Bool) → a ≡ true → (a || b) ≡ true
or_true a b h = rw h

pub or_false : (a b : Bool) → a ≡ false → (a || b) ≡ b
or_false a b h = rw h

pub and_true : (a b : Bool) → a ≡ true → (a && b) ≡ b
and_true a b h = rw h

pub and_false : (a b : Bool) → a ≡ false → (a && b) ≡ false
and_false a b h = rw h

pub ruleset nums = (le-leb, lt-leb, le-ltb, lt-ltb, eq-eqb, ne_eqb)

pub cond-true : {A : Type 0} (t : Bool) (x y : A) → t ≡ true → cond t x y ≡ x
cond-true t x y h = rw h

pub cond-false : {A : Type 0} (t : Bool) (x y : A) → t ≡ false → cond t x y ≡ y
cond-false t x y h = rw h

pub ruleset conds = (nums, said, said_not, said_not_not, cond-true, cond-false)

pub ruleset tests = (le-leb, lt-leb, le-ltb, lt-ltb, eq-eqb, ne_eqb, not-true, not-false, said, said_not, said_not_not, or_true, or_false, and_true, and_false)

pub and_left : (a b : Bool) → (a && b) ≡ true → a ≡ true
and_left true b e = refl
and_left false b e = e

pub and_right : (a b : Bool) → (a && b) ≡ true → b ≡ true
and_right true b e = e
and_right false b e = absurd (false≢true e)

-- a number under a test is within a bound, where the test says so
pub cond-le : (t : Bool) {n l : ℕ} → (t ≡ true → n ≤ l) → cond t n 0 ≤ l
cond-le true h = h refl
cond-le false h = omega arith

pub either_le : (t : Bool) {m n l : ℕ} → m ≤ l → n ≤ l → cond t m n ≤ l
either_le true h k = h
either_le false h k = k

-- A code is an instruction's where it is its place and 1.
-- Assumes nothing.
use mathlib.Core.Path.{◌≡◌, refl}
use mathlib.Core.Bool.{false}
use native.Mathlib.Omega.{arith}
use Prim.Native.Nat.{ℕ, ◌-◌, ◌<◌, ◌≤◌}
use borrow.Author.Tests.{le-leb, lt-leb}
use Rattle.std.specs.Prelude.{Option, Some, None, MatchOption}
use Rattle.rules.specs.Bytes.{inside}
use Rattle.rules.specs.Rows.{instruction_code}
use Rattle.rules.specs.WellFormed.{is_instruction}
use Rattle.instructions.specs.declared.table.Instruction.{Instruction}
use Rattle.instructions.proofs.table.Instruction.of_code.Goals as goal

none_below : (code : ℕ) → code < 1 → is_instruction code ≡ false
unfolding is_instruction inside
none_below code h = rw (lt-leb 1 code h) refl

none_past : (code : ℕ) → 1 ≤ code → 59 ≤ code - 1 → is_instruction code ≡ false
unfolding is_instruction inside
none_past code l h = rw (le-leb 1 code l, lt-leb code 59 (omega (arith, l, h))) refl

decoded : (r : Option Instruction) (code place : ℕ) → 1 ≤ code → place ≡ code - 1 → MatchOption r (59 ≤ place) (λ i. i.place ≡ place)
    → MatchOption r (is_instruction code ≡ false) (λ i. code ≡ instruction_code i.place)
decoded None code place l e h = none_past code l (omega (arith, e, h))
decoded (Some i) code place l e h = omega (arith, l, e, h)

pub returns-in_err-place : goal.returns-in_err-place
returns-in_err-place c = rw c.from_residual.ensures (none_below c.args.code (omega (arith, c.in_err-place.ensures)))

pub returns : goal.returns
returns c = decoded c.at.result c.args.code c.in_ok-place.place c.in_ok-place.ensures.0 c.in_ok-place.ensures.1 c.at.ensures

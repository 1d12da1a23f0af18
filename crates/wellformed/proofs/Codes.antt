-- Which codes are instructions.
-- Assumes nothing.
use mathlib.Core.Path.{◌≡◌, refl}
use mathlib.Core.Bool.{true}
use native.Mathlib.Omega.{arith}
use Prim.Native.Nat.{ℕ, ◌<◌}
use borrow.Author.Tests.{le-leb}
use Rattle.rules.specs.Bytes.{inside}
use Rattle.rules.specs.Rows.{instruction_code}
use Rattle.rules.specs.WellFormed.{is_instruction}

pub instruction-said : (c k : ℕ) → k < 59 → c ≡ instruction_code k → is_instruction c ≡ true
unfolding is_instruction inside
instruction-said c k h e = rw (le-leb 1 c (omega (arith, e)), le-leb c 59 (omega (arith, h, e))) refl

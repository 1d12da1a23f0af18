-- The two's complement of minus a number, and what is left to a whole of which a number is half or more.
-- Assumes nothing.
use Prim.Native.Nat.{ℕ, ◌+◌, ◌-◌, ◌^◌, ◌≤◌, ◌<◌}
use mathlib.Core.Path.{◌≡◌}
use native.Mathlib.Omega.{arith}
use borrow.Author.Tests.{ne_eqb}
use Rattle.rules.specs.Integers.{opposite}

not_zero : (b : ℕ) → 0 < b → b ≡ 0 → ⊥
not_zero b h k = omega arith

pub opposite_is : (b : ℕ) → 0 < b → opposite b ≡ 2 ^ 128 - b
opposite_is b h = rw (ne_eqb b 0 (not_zero b h))

-- what is left to M, where T is its half
pub record Left (M T b : ℕ) : Type 0 where
  pub half : M - b ≤ T
  pub less : M - b < M
  pub some : 0 < M - b
  pub twice : M - (M - b) ≡ b
  pub there : 0 < b

pub left : (M T b : ℕ) → M ≡ T + T → 0 < T → T ≤ b → b < M → Left M T b
left M T b e z h k = record { half = omega arith; less = omega arith; some = omega arith; twice = omega arith; there = omega arith }

-- A function of what is left to count, k - i, as a loop that counts i up to k starts, goes on and stops.
-- Assumes nothing.
use mathlib.Core.Path.{◌≡◌, ap}
use Prim.Native.Nat.{ℕ, suc, ◌+◌, ◌-◌, ◌≤◌, ◌<◌}
use native.Mathlib.Omega.{arith}

pub start : {A : Type 0} (f : ℕ → A) (k : ℕ) → f k ≡ f (k - 0)
start f k = let e : k ≡ k - 0 = omega arith in ap f e

pub next : {A : Type 0} (f : ℕ → A) (i k : ℕ) → i < k → f (k - i) ≡ f (suc (k - (i + 1)))
next f i k h = let e : k - i ≡ suc (k - (i + 1)) = omega arith in ap f e

pub stop : {A : Type 0} (f : ℕ → A) (i k : ℕ) → k ≤ i → f (k - i) ≡ f 0
stop f i k h = let e : k - i ≡ 0 = omega arith in ap f e

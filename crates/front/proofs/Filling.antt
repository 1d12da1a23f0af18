-- What a text is after a read into the rest of it.
-- Assumes nothing.
use Prim.Native.Nat.{ℕ, ◌+◌, ◌-◌, ◌≤◌}
use mathlib.Core.Path.{◌≡◌, sym}
use mathlib.Core.List.{List}
use native.Mathlib.Omega.{arith}
use lib.ListN.{length, length-drop}
use lib.Seq.{length-take-le}
use borrow.Rule.Slice.PartMut.{mid_of, put_mid, same_len_mid}
use Rattle.input.specs.Counts.{IsPrefixLen}

-- what is left of a text behind so many bytes
rest-length : (at : ℕ) (x : List ℕ) → length (mid_of at (length x - at) x) ≡ length x - at
rest-length at x = length-take-le (length x - at) _ (rw length-drop (omega arith))

-- n more bytes at the front of the rest
pub record Filled (x last : List ℕ) (at n : ℕ) : Type 0 where
  pub long : length (put_mid at (length x - at) x last) ≡ length x
  pub low : at + n ≤ length x

pub filled : (x last : List ℕ) (at n : ℕ) → at ≤ length x → length last ≡ length (mid_of at (length x - at) x) → n ≤ length last → Filled x last at n
filled x last at n h e k = record { long = same_len_mid at (length x - at) x last e; low = let r = rest-length at x in omega arith }

-- the bytes before the rest are counted as before
pub counted : (x last : List ℕ) (at n : ℕ) → at ≤ length x → Filled x last at n → IsPrefixLen at (put_mid at (length x - at) x last)
counted x last at n h f = let k : at ≤ length (put_mid at (length x - at) x last) = omega (arith, f.long) in (k, sym (length-take-le at _ k))

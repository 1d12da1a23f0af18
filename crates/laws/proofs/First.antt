-- A text that has a byte is its first byte and what follows it.
-- Assumes nothing.
use mathlib.Core.Path.{◌≡◌, ap}
use mathlib.Core.List.{List, ◌∷◌}
use Prim.Native.Nat.{ℕ, suc, ◌+◌, ◌≤◌}
use native.Mathlib.Numerals.{one-add}
use lib.ListN.{length, get_or, drop, take}
use lib.Seq.{drop-cons}

pub first : (s : List ℕ) → 1 ≤ length s → s ≡ get_or s 0 0 ∷ drop 1 s
first s h = drop-cons s 0 0 h

pub take-first : (s : List ℕ) (n : ℕ) → 1 ≤ length s → take (1 + n) s ≡ get_or s 0 0 ∷ take n (drop 1 s)
take-first s n h = rw one-add (ap (take (suc n)) (first s h))

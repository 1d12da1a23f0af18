-- Letters, one at a time.
-- Assumes nothing.
use Prim.Native.Nat.{ℕ, ◌+◌, ◌≤◌, ◌<◌}
use mathlib.Core.Path.{◌≡◌}
use mathlib.Core.Bool.{true, ◌&&◌}
use mathlib.Core.List.{List}
use lib.ListN.{length, get_or, drop, drop_of_length-le}
use native.Mathlib.Numerals.{add-one}
use lib.Seq.{drop-cons}
use Rattle.rules.specs.Reading.{all_bits}
use Rattle.rules.specs.Bytes.{bit}

pub bits_more : (l : List ℕ) (i : ℕ) → i < length l → all_bits (drop i l) ≡ (bit (get_or l i 0) && all_bits (drop (i + 1) l))
bits_more l i h = rw (add-one, drop-cons l i 0)

pub bits-end : (l : List ℕ) (i : ℕ) → length l ≤ i → all_bits (drop i l) ≡ true
bits-end l i h = rw drop_of_length-le

-- A number against a range; and the first range of table 3-7: a byte up to 7F is a sequence by itself.
-- Assumes nothing.
use Prim.Native.Nat.{ℕ, ◌≤◌, ◌<◌}
use native.Mathlib.Omega.{arith}
use mathlib.Core.Path.{◌≡◌, refl}
use mathlib.Core.Bool.{Bool, true, false, ◌&&◌}
use mathlib.Core.List.{List, ◌∷◌}
use lib.Dec.{leb}
use borrow.Author.Tests.{le-leb, lt-leb}
use Rattle.rules.specs.Bytes.{inside}
use Rattle.rules.specs.Utf8.{seq_len}

second_no : (t : Bool) {u : Bool} → u ≡ false → (t && u) ≡ false
second_no true e = e
second_no false e = refl

module _ (lo hi b : ℕ) where
  pub inside_yes : lo ≤ b → b ≤ hi → inside lo hi b ≡ true
  unfolding inside
  inside_yes h k = rw (le-leb lo b h, le-leb b hi k)

  pub inside_under : b < lo → inside lo hi b ≡ false
  unfolding inside
  inside_under h = rw (lt-leb lo b h)

  pub inside_over : hi < b → inside lo hi b ≡ false
  unfolding inside
  inside_over h = second_no (leb lo b) (lt-leb b hi h)

pub seq_len-ascii : (b : ℕ) (s : List ℕ) → b ≤ 0x7F → seq_len (b ∷ s) ≡ 1
unfolding seq_len
seq_len-ascii b s h = rw (inside_yes 0x00 0x7F b (omega arith) h)

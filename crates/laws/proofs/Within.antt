-- What a definition counts at the front of a text lies within the text.
-- Assumes nothing.
use Prim.Native.Nat.{ℕ, ◌≤◌, zero-le}
use native.Mathlib.Omega.{arith}
use mathlib.Core.Path.{◌≡◌, refl}
use mathlib.Core.Bool.{Bool, true, false, cond, false≢true}
use mathlib.Core.List.{List, [], ◌∷◌}
use lib.ListN.{length}
use Rattle.rules.specs.declared.Range.{Range}
use Rattle.rules.specs.Bytes.{inside}
use Rattle.rules.specs.Utf8.{sequences, lies, longest, seq_len}
use Rattle.laws.proofs.Tests.{and_right}

-- bytes that lie in a row are as many as the row has
pub lies-le : (rs : List Range) (s : List ℕ) → lies rs s ≡ true → length rs ≤ length s
lies-le [] s e = zero-le
lies-le (r ∷ rs) [] e = absurd (false≢true e)
lies-le (r ∷ rs) (b ∷ s) e = omega (arith, lies-le rs s (and_right (inside r.lo r.hi b) (lies rs s) e))

choice_le : (t : Bool) {m n l : ℕ} → (t ≡ true → m ≤ l) → n ≤ l → cond t m n ≤ l
choice_le true h k = h refl
choice_le false h k = k

pub longest-le : (rows : List (List Range)) (s : List ℕ) → longest rows s ≤ length s
longest-le [] s = zero-le
longest-le (r ∷ rows) s = choice_le (lies r s) (lies-le r s) (longest-le rows s)

-- the sequence at the front of a text
pub seq_len-le : (s : List ℕ) → seq_len s ≤ length s
unfolding seq_len
seq_len-le s = longest-le sequences s

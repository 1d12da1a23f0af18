-- White space and comments: what is skipped lies within the text, and what the definition says where the first byte is ASCII, and where it is not.
-- Assumes nothing.
use mathlib.Core.Path.{◌≡◌, refl, sym, ap, ◌∙◌}
use mathlib.Core.Bool.{Bool, true, false, cond, ◌&&◌, ◌||◌, or-false}
use mathlib.Core.List.{List, [], ◌∷◌}
use Prim.Native.Nat.{ℕ, zero, suc, ◌+◌, ◌-◌, ◌≤◌, ◌<◌}
use native.Mathlib.Numerals.{one-add}
use native.Mathlib.Omega.{arith}
use borrow.Author.Tests.{leb-true, leb-false, le-leb, lt-leb, eq-eqb, ne_eqb}
use lib.Dec.{eqb, leb}
use lib.ListN.{length, get_or, drop, take, length-drop}
use Rattle.rules.specs.Bytes.{byte, inside, count, far, line_byte}
use Rattle.rules.specs.Utf8.{seq_len, code_point}
use Rattle.rules.specs.Space.{white, space_len, comment_len, skip_len, gap}
use Rattle.laws.proofs.Tests.{cond-le, either_le}
use Rattle.laws.proofs.Runs.{count-le, rest}
use Rattle.laws.proofs.First.{first}
use Rattle.laws.proofs.Within.{seq_len-le}

far_le_if : (t : Bool) {m n : ℕ} → m ≤ n → cond t 0 (suc m) ≤ suc n
far_le_if true h = omega arith
far_le_if false h = omega arith

pub far-le : (f : List ℕ → ℕ) (k : ℕ) (s : List ℕ) → far f k s ≤ length s
far-le f k [] = omega arith
far-le f (suc k) (x ∷ s) = omega (arith, far-le f k s)
far-le f zero (x ∷ s) = far_le_if (eqb (f (x ∷ s)) 0) (far-le f (f (x ∷ s) - 1) s)

pub gap-le : (s : List ℕ) → gap s ≤ length s
gap-le s = far-le skip_len 0 s

space_len-le : (s : List ℕ) → space_len s ≤ length s
unfolding space_len
space_len-le s = cond-le (leb 1 (seq_len s) && white (code_point (seq_len s) s)) (λ e. seq_len-le s)

comment_len-le : (s : List ℕ) → comment_len s ≤ length s
unfolding comment_len
comment_len-le [] = omega arith
comment_len-le (b ∷ s) = cond-le (eqb b (byte ";")) (λ e. omega (arith, count-le line_byte s))

pub skip_len-le : (s : List ℕ) → skip_len s ≤ length s
unfolding skip_len
skip_len-le s = either_le (leb 1 (space_len s)) (space_len-le s) (comment_len-le s)

one_if : (n b : ℕ) (t u : Bool) → leb n b ≡ t → leb b n ≡ u → (t && u) ≡ eqb b n
one_if n b true true p q = let h = leb-true n b p in let k = leb-true b n q in sym (eq-eqb b n (omega arith))
one_if n b true false p q = let k = leb-false b n q in sym (ne_eqb b n (λ e. omega arith))
one_if n b false u p q = let h = leb-false n b p in sym (ne_eqb b n (λ e. omega arith))

-- a range of one number
pub inside_one : (n b : ℕ) → inside n n b ≡ eqb b n
unfolding inside
inside_one n b = one_if n b (leb n b) (leb b n) refl refl

-- a range above a number
pub inside_above : (lo hi b : ℕ) → b < lo → inside lo hi b ≡ false
unfolding inside
inside_above lo hi b h = rw (lt-leb lo b h)

module _ (b : ℕ) (h : b ≤ 127) where
  above : (lo hi : ℕ) → 127 < lo → inside lo hi b ≡ false
  above lo hi k = inside_above lo hi b (omega arith)

  -- among the ASCII bytes five and the space are white
  pub white-ascii : white b ≡ (inside 9 13 b || eqb b (byte " "))
  unfolding white
  white-ascii =
      rw (
        inside_one 32 b,
        above 0x0085 0x0085 (omega arith),
        above 0x00A0 0x00A0 (omega arith),
        above 0x1680 0x1680 (omega arith),
        above 0x2000 0x200A (omega arith),
        above 0x2028 0x2029 (omega arith),
        above 0x202F 0x202F (omega arith),
        above 0x205F 0x205F (omega arith),
        above 0x3000 0x3000 (omega arith),
        or-false (eqb b 32),
      )

  seq_len-ascii : (s : List ℕ) → seq_len (b ∷ s) ≡ 1
  unfolding seq_len inside
  seq_len-ascii s = rw (le-leb 0 b (omega arith), le-leb b 127 h)

  space_len-ascii : (s : List ℕ) → space_len (b ∷ s) ≡ cond (white b) 1 0
  unfolding space_len code_point
  space_len-ascii s = rw (seq_len-ascii s)

space_len_if : (t : Bool) (n : ℕ) → cond (leb 1 (cond t 1 0)) (cond t 1 0) n ≡ cond t 1 n
space_len_if true n = refl
space_len_if false n = refl

some_or_none : (n : ℕ) → cond (leb 1 n) n 0 ≡ n
some_or_none zero = refl
some_or_none (suc n) = rw (le-leb 1 (suc n) (omega arith))

module _ (s : List ℕ) (h : 1 ≤ length s) where
  -- an ASCII byte is white space by itself, or starts a comment, or is not skipped
  pub skip_len-ascii : get_or s 0 0 ≤ 127 → skip_len s ≡ cond (white (get_or s 0 0)) 1 (cond (eqb (get_or s 0 0) (byte ";")) (1 + count line_byte (drop 1 s)) 0)
  unfolding skip_len comment_len
  skip_len-ascii k =
      ap skip_len (first s h)
      ∙ rw (space_len-ascii (get_or s 0 0) k (drop 1 s), one-add) (space_len_if (white (get_or s 0 0)) (comment_len (get_or s 0 0 ∷ drop 1 s)))

  -- any other byte starts no comment
  pub skip_len-beyond : 127 < get_or s 0 0 → skip_len s ≡ space_len s
  unfolding skip_len comment_len
  skip_len-beyond k =
      let e : comment_len s ≡ 0 = ap comment_len (first s h) ∙ rw (ne_eqb (get_or s 0 0) (byte ";") (λ e. omega arith)) in
      rw e (some_or_none (space_len s))

-- n is the gap of the rest that was lent
module _ (s : List ℕ) (i : ℕ) {n : ℕ} (e : n ≡ gap (take (length s - i) (drop i s))) where
  pub rest-gap : n ≡ gap (drop i s)
  rest-gap = e ∙ ap gap (rest s i)

  pub rest-gap-fits : n ≤ length s - i
  rest-gap-fits = rw (rest-gap, ← length-drop i s) (gap-le (drop i s))

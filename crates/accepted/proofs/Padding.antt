-- A table as a read leaves it, each by itself: so many rows as there is room for, words of 32 bits, and zeros behind the rows.
-- Assumes nothing.
use Prim.Native.Nat.{ℕ, zero, suc, ◌-◌, ◌*◌, ◌/◌, ◌^◌, ◌≤◌, ◌<◌}
use mathlib.Core.Path.{◌≡◌, refl, ap, ◌∙◌}
use mathlib.Core.Bool.{Bool, true, cond, ◌&&◌}
use mathlib.Core.List.{List, [], ◌∷◌, ◌++◌}
use native.Mathlib.Nat.{div-mul-le_self, mul-le-mul_right, le_trans}
use native.Mathlib.Omega.{arith}
use borrow.Author.Tests.{eq-eqb, lt-ltb, le-leb}
use lib.ListN.{length, drop, replicate, length-append, length-replicate}
use Rattle.rules.specs.Bytes.{count}
use Rattle.rules.specs.Rows.{capacity}
use Rattle.rules.specs.Answers.{padded}
use Rattle.rules.specs.WellFormed.{only, is_zero, word_fits, rest_unused, count_fits, table_ok}

-- both of two tests
pub and_both : {a b : Bool} → a ≡ true → b ≡ true → (a && b) ≡ true
and_both p q = rw p q

-- words of 32 bits
abbrev pub Fit : List ℕ → Type 0
Fit [] = Unit {0}
Fit (x ∷ l) = (x < 2 ^ 32) × Fit l

pub fit_append : (a b : List ℕ) → Fit a → Fit b → Fit (a ++ b)
fit_append [] b h k = k
fit_append (x ∷ a) b h k = (h.0, fit_append a b h.1 k)

fit_zeros : (n : ℕ) → Fit (replicate n 0)
fit_zeros zero = tt
fit_zeros (suc n) = (omega arith, fit_zeros n)

fit_count : (l : List ℕ) → Fit l → count word_fits l ≡ length l
unfolding word_fits
fit_count [] h = refl
fit_count (x ∷ l) h = ap (λ (t : Bool). cond t (suc (count word_fits l)) 0) (lt-ltb x (2 ^ 32) h.0) ∙ ap suc (fit_count l h.1)

-- zeros alone
zeros_count : (n : ℕ) → count is_zero (replicate n 0) ≡ length (replicate {A = ℕ} n 0)
unfolding is_zero
zeros_count zero = refl
zeros_count (suc n) = ap suc (zeros_count n)

drop-front : (a b : List ℕ) → drop (length a) (a ++ b) ≡ b
drop-front [] b = refl
drop-front (x ∷ a) b = drop-front a b

pub padded-long : (n : ℕ) (ws : List ℕ) → length ws ≤ n → length (padded n ws) ≡ n
unfolding padded
padded-long n ws h = simp (length-append, length-replicate) (omega arith)

-- n rows of a size, with room for them
module _ (size n words : ℕ) (ws : List ℕ) (sized : length ws ≡ n * size) (room : n ≤ capacity size words) where
  rows-within : length ws ≤ words
  rows-within =
      let m : n ≤ words / size = omega arith in
      let k : n * size ≤ words = le_trans (mul-le-mul_right size m) (div-mul-le_self words size) in
      omega arith

  pub padded-counts : count_fits size (padded words ws) n ≡ true
  unfolding count_fits
  padded-counts =
      let e : length (padded words ws) ≡ words = padded-long words ws rows-within in
      rw e (le-leb n (capacity size words) room)

  pub padded_unused : rest_unused size (padded words ws) n ≡ true
  unfolding rest_unused padded
  padded_unused =
      let e : drop (n * size) (ws ++ replicate (words - length ws) 0) ≡ replicate (words - length ws) 0 = rw (← sized) (drop-front ws _) in
      rw e (eq-eqb _ _ (zeros_count (words - length ws)))

  pub padded-fit : Fit ws → only word_fits (padded words ws) ≡ true
  unfolding padded
  padded-fit h =
      let z : List ℕ = replicate (words - length ws) 0 in
      eq-eqb _ _ (fit_count (ws ++ z) (fit_append ws z h (fit_zeros (words - length ws))))

  pub padded-ok : Fit ws → table_ok size (padded words ws) n ≡ true
  unfolding table_ok
  padded-ok h = and_both padded-counts (and_both (padded-fit h) padded_unused)

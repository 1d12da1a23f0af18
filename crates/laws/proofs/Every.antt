-- A rule of a list, proved of all its elements by one test that antt computes, one element after the other.
-- Assumes nothing.
use mathlib.Core.Path.{◌≡◌, ◌∙◌, subst, sym}
use mathlib.Core.Bool.{Bool, true, ◌&&◌}
use mathlib.Core.List.{List, [], ◌∷◌}
use Prim.Native.Nat.{ℕ, zero, suc, ◌+◌, ◌<◌}
use native.Mathlib.Nat.{add-zero, zero-add, add-suc, suc-add, le_of_suc-le-suc, not-suc-le-zero}
use lib.ListN.{length, get_or}
use Rattle.laws.proofs.Tests.{and_left, and_right}

-- the test f passes at each element of a list and its place, counted from i
abbrev pub every : {A : Type 0} → (ℕ → A → Bool) → ℕ → List A → Bool
every f i [] = true
every f i (x ∷ l) = f i x && every f (suc i) l

module _ {A : Type 0} (f : ℕ → A → Bool) (d : A) where
  from : (l : List A) (i : ℕ) → every f i l ≡ true → (k : ℕ) → k < length l → f (i + k) (get_or l k d) ≡ true
  from [] i t k h = absurd (not-suc-le-zero h)
  from (x ∷ l) i t zero h = subst (λ (m : ℕ). f m x ≡ true) (sym (add-zero i)) (and_left (f i x) (every f (suc i) l) t)
  from (x ∷ l) i t (suc k) h =
      subst (λ (m : ℕ). f m (get_or l k d) ≡ true) (suc-add i k ∙ sym (add-suc i k))
      (from l (suc i) (and_right (f i x) (every f (suc i) l) t) k (le_of_suc-le-suc h))

  pub every_at : (l : List A) → every f 0 l ≡ true → (k : ℕ) → k < length l → f k (get_or l k d) ≡ true
  every_at l t k h = subst (λ (m : ℕ). f m (get_or l k d) ≡ true) (zero-add k) (from l 0 t k h)

-- How many rows first occurrences can have: as many as have no mark.
-- Assumes nothing.
use mathlib.Core.Path.{◌≡◌, refl, sym, ap, ◌∙◌}
use mathlib.Core.Bool.{Bool, true, false, cond}
use mathlib.Core.List.{List, [], ◌∷◌}
use Prim.Native.Nat.{ℕ, zero, suc, ◌+◌, ◌≤◌, ◌<◌}
use native.Mathlib.Decide.{ℕ_discrete}
use native.Mathlib.Omega.{arith}
use lib.ListN.{length}
use Rattle.rules.specs.Meaning.{All}
use Rattle.laws.proofs.Cases.{by_cases}
use Rattle.laws.proofs.Tests.{either_le}
use Rattle.listing.specs.Listing.{Marks, mark, firsts}
use Rattle.listing.proofs.Marking.{mark_same, mark-other, firsts_old, firsts_new}

-- of n rows from a on, how many have no mark
abbrev pub free : Marks → ℕ → ℕ → ℕ
free m a zero = 0
free m a (suc n) = free m a n + cond (m (a + n)) 0 1

pub free_most : (m : Marks) (a n : ℕ) → free m a n ≤ n
free_most m a zero = omega arith
free_most m a (suc n) = omega (arith, free_most m a n, either_le (m (a + n)) {m = 0} {n = 1} {l = 1} (omega arith) (omega arith))

-- a mark elsewhere changes nothing, and one among them takes one
free_past : (m : Marks) (i a n : ℕ) → a + n ≤ i → free (mark m i) a n ≡ free m a n
free_past m i a zero h = refl
free_past m i a (suc n) h =
    ap (λ (b : Bool). free (mark m i) a n + cond b 0 1) (mark-other m i (a + n) (λ e. omega arith))
    ∙ ap (λ (x : ℕ). x + cond (m (a + n)) 0 1) (free_past m i a n (omega arith))

free_mark : (m : Marks) (i a n : ℕ) → a ≤ i → i < a + n → m i ≡ false → free m a n ≡ suc (free (mark m i) a n)
free_mark m i a zero h l e = absurd (omega arith)
free_mark m i a (suc n) h l e = at (λ q. free_mark m i a n h q e) (ℕ_discrete i (a + n))
  where
    at : (i < a + n → free m a n ≡ suc (free (mark m i) a n)) → Dec (i ≡ a + n) → free m a (suc n) ≡ suc (free (mark m i) a (suc n))
    at less (yes q) =
        let new : m (a + n) ≡ false = ap m (sym q) ∙ e in
        let old : mark m i (a + n) ≡ true = ap (mark m i) (sym q) ∙ mark_same m i in
        let same : free (mark m i) a n ≡ free m a n = free_past m i a n (omega arith) in
        ap (λ (b : Bool). free m a n + cond b 0 1) new
        ∙ (let z : free m a n + 1 ≡ suc (free (mark m i) a n + 0) = omega arith in z)
        ∙ ap (λ (b : Bool). suc (free (mark m i) a n + cond b 0 1)) (sym old)
    at less (no q) =
        let one = less (omega (arith, q)) in
        (let z : free m a n + cond (m (a + n)) 0 1 ≡ suc (free (mark m i) a n + cond (m (a + n)) 0 1) = omega arith in z)
        ∙ ap (λ (b : Bool). suc (free (mark m i) a n + cond b 0 1)) (sym (mark-other m i (a + n) (λ z. q (sym z))))

-- the first occurrences among n rows from a on
pub firsts-few : (l : List ℕ) (m : Marks) (a n : ℕ) → All (λ j. (a ≤ j) × (j < a + n)) l → length (firsts m l) ≤ free m a n
firsts-few [] m a n h = omega arith
firsts-few (x ∷ l) m a n h =
    by_cases (m x)
    (λ e. omega (arith, ap length (firsts_old m x l e), firsts-few l m a n h.1))
    (λ e. omega (arith, ap length (firsts_new m x l e), firsts-few l (mark m x) a n h.1, free_mark m x a n h.0.0 h.0.1 e))

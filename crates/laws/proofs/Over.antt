-- The laws of writing over the front of an output.
-- Assumes nothing.
use mathlib.Core.Path.{◌≡◌, refl, ap, subst⁻¹}
use mathlib.Core.List.{List, [], ◌∷◌, ◌++◌}
use Prim.Native.Nat.{ℕ, zero, suc, ◌+◌, ◌-◌, ◌<◌}
use native.Mathlib.Omega.{arith}
use lib.ListN.{length, take, drop, get_or, set}
use Rattle.rules.specs.Bytes.{part}
use Rattle.rules.specs.Out.{Wrote}
use Rattle.laws.proofs.Runs.{empty}

-- one byte more
pub over_byte : (s o : List ℕ) (i : ℕ) → i < length s → i < length o → set (take i s ++ drop i o) i (get_or s i 0) ≡ take (suc i) s ++ drop (suc i) o
over_byte [] o i h k = absurd (omega arith)
over_byte (b ∷ s) [] i h k = absurd (omega arith)
over_byte (b ∷ s) (x ∷ o) zero h k = refl
over_byte (b ∷ s) (x ∷ o) (suc i) h k = ap (λ (l : List ℕ). b ∷ l) (over_byte s o i (omega arith) (omega arith))

-- nothing was written
pub nothing : {o : List ℕ} → Wrote [] o o 0
nothing = record { count = refl; bytes = λ h. refl; long = refl }

-- what was written, said of an equal list
pub written : {s t before after : List ℕ} {r : ℕ} → t ≡ s → Wrote s before after r → Wrote t before after r
written {before = b} {after = a} {r = r} e w = subst⁻¹ (λ (l : List ℕ). Wrote l b a r) e w

-- a writer that is lent no output measures, and what it was lent is as it was
pub measured : {s after : List ℕ} (out : List ℕ) {r : ℕ} → Wrote s [] after r → after ++ out ≡ out
measured {after = a} out w = ap (λ (l : List ℕ). l ++ out) (empty a (omega (arith, w.long)))

-- a part by its length
pub part_is : (l : List ℕ) (a n : ℕ) → part l a (a + n) ≡ take n (drop a l)
part_is l a n = let h : a + n - a ≡ n = omega arith in ap (λ (k : ℕ). take k (drop a l)) h

-- What is below a bound, and what fits a field of so many bits: each fact once, over the bound or over the width.
-- Assumes nothing.
use mathlib.Core.Path.{◌≡◌, refl, sym, ap, ◌∙◌}
use Prim.Native.Nat.{ℕ, ◌^◌, ◌≤◌, ◌<◌}
use native.Mathlib.Nat.{le_trans}
use native.Mathlib.Omega.{arith}
use lib.Dec.{ltb}
use lib.Pow.{pow_mono}
use borrow.Author.Tests.{lt-ltb, le-ltb, ltb-true, ltb-false, eq-eqb, ne_eqb}
use Rattle.rules.specs.Integers.{Read, number, refused, below, fits, positive}
use Rattle.laws.proofs.Cases.{by_cases}

pub apart : {v : ℕ} → number v ≡ refused → ⊥
apart e = let w : ◌≡◌ {A = ℕ} 0 1 = cc in omega arith

pub in_below : (n u : ℕ) {v : ℕ} → v ≡ u → v < n → number v ≡ below n (number u)
in_below n u {v} e h = sym (rw (lt-ltb v n h)) ∙ ap (λ (x : ℕ). below n (number x)) e

pub out_below : (n u : ℕ) → n ≤ u → refused ≡ below n (number u)
out_below n u h = sym (rw (le-ltb u n h))

pub below_in : (n v : ℕ) (r : Read) → number v ≡ below n r → (r ≡ number v) × (v < n)
below_in n v (number u) e =
    by_cases (ltb u n)
    (λ t. let w : u ≡ v = (let z : number v ≡ number u = e ∙ rw t in cc) in (ap number w, rw (← w) (ltb-true u n t)))
    (λ t. let z : number v ≡ refused = e ∙ rw t in absurd (apart z))
below_in n v refused e = absurd (apart e)

pub below_out : (n u : ℕ) → refused ≡ below n (number u) → n ≤ u
below_out n u e =
    by_cases (ltb u n)
    (λ t. let z : refused ≡ number u = e ∙ rw t in absurd (apart (sym z)))
    (λ t. ltb-false u n t)

-- a smaller bound, after a larger one
pub below-below : (m n : ℕ) (r : Read) → m ≤ n → below m (below n r) ≡ below m r
below-below m n (number u) h =
    by_cases (ltb u n) (λ t. rw t) (λ t. rw t (sym (rw (le-ltb u m (le_trans h (ltb-false u n t))))))
below-below m n refused h = refl

-- what is refused under a bound is refused under a smaller one
pub below_less : (m n : ℕ) (r : Read) → m ≤ n → refused ≡ below n r → refused ≡ below m r
below_less m n r h e = ap (below m) e ∙ below-below m n r h

-- a number that was read into a field, put into a narrower one
pub fits-fits : (v w : ℕ) (r : Read) → v ≤ w → fits v (fits w r) ≡ fits v r
fits-fits v w r h = below-below (2 ^ v) (2 ^ w) r (pow_mono h)

-- a number that fits a field has no more bits than the field
pub fits_in : (w v : ℕ) (r : Read) → number v ≡ fits w r → v < 2 ^ w
fits_in w v r e = (below_in (2 ^ w) v r e).1

pub positive_some : (v : ℕ) → (v ≡ 0 → ⊥) → number v ≡ positive (number v)
positive_some v h = sym (rw (ne_eqb v 0 h))

pub positive_none : (v : ℕ) → v ≡ 0 → refused ≡ positive (number v)
positive_none v h = sym (rw (eq-eqb v 0 h))

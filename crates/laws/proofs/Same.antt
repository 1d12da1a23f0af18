-- `same` tells whether two lists of numbers are equal; and what a choice by a test inherits.
-- Assumes nothing.
use mathlib.Core.Path.{◌≡◌, refl, sym, ap, ◌∙◌, subst}
use mathlib.Core.Bool.{Bool, true, false, cond, false≢true}
use mathlib.Core.List.{List, [], ◌∷◌}
use Prim.Native.Nat.{ℕ}
use lib.Dec.{eqb}
use borrow.Author.Tests.{eq-eqb, eqb-true}
use Rattle.rules.specs.Bytes.{same}
use Rattle.laws.proofs.Tests.{and_left, and_right}

pub not_both : {b : Bool} → b ≡ true → b ≡ false → ⊥
not_both p q = false≢true (sym q ∙ p)

-- what holds of both holds of the one that is chosen
pub by_cond : {A : Type 0} (P : A → Type 0) (b : Bool) (x y : A) → (b ≡ true → P x) → (b ≡ false → P y) → P (cond b x y)
by_cond P true x y f g = f refl
by_cond P false x y f g = g refl

pub same_true : (x y : List ℕ) → same x y ≡ true → x ≡ y
unfolding same
same_true [] [] e = refl
same_true [] (b ∷ y) e = absurd (false≢true e)
same_true (a ∷ x) [] e = absurd (false≢true e)
same_true (a ∷ x) (b ∷ y) e =
    ap (λ (n : ℕ). n ∷ x) (eqb-true a b (and_left (eqb a b) (same x y) e)) ∙ ap (λ (l : List ℕ). b ∷ l) (same_true x y (and_right (eqb a b) (same x y) e))

pub same_refl : (x : List ℕ) → same x x ≡ true
unfolding same
same_refl [] = refl
same_refl (a ∷ x) = rw (eq-eqb a a refl) (same_refl x)

pub eq_same : (x y : List ℕ) → x ≡ y → same x y ≡ true
eq_same x y e = subst (λ (z : List ℕ). same x z ≡ true) e (same_refl x)

pub ne_same : (x y : List ℕ) → (x ≡ y → ⊥) → same x y ≡ false
ne_same x y n = by (same x y) refl
  where
    by : (b : Bool) → same x y ≡ b → b ≡ false
    by true e = absurd (n (same_true x y e))
    by false e = refl

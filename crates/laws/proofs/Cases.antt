-- A proof by the two cases of a test, and two tests on numbers that say the same.
-- Assumes nothing.
use mathlib.Core.Path.{◌≡◌, refl, sym, ◌∙◌}
use mathlib.Core.Bool.{Bool, true, false, false≢true}
use Prim.Native.Nat.{ℕ, ◌≤◌}
use lib.Dec.{eqb, leb}
use borrow.Author.Tests.{le-leb, eq-eqb, ne_eqb, leb-true, eqb-true, eqb-false}

pub by_cases : (t : Bool) {A : Type 0} → (t ≡ true → A) → (t ≡ false → A) → A
by_cases true f g = f refl
by_cases false f g = g refl

pub leb_iff : (a b c d : ℕ) → (a ≤ b → c ≤ d) → (c ≤ d → a ≤ b) → leb a b ≡ leb c d
leb_iff a b c d f g =
    by_cases (leb a b)
    (λ e. e ∙ sym (le-leb c d (f (leb-true a b e))))
    (λ e. e ∙ sym (by_cases (leb c d) (λ k. absurd (false≢true (sym e ∙ le-leb a b (g (leb-true c d k))))) (λ k. k)))

pub eqb_iff : (a b c d : ℕ) → (a ≡ b → c ≡ d) → (c ≡ d → a ≡ b) → eqb a b ≡ eqb c d
eqb_iff a b c d f g =
    by_cases (eqb a b)
    (λ e. e ∙ sym (eq-eqb c d (f (eqb-true a b e))))
    (λ e. e ∙ sym (ne_eqb c d (λ k. eqb-false a b e (g k))))

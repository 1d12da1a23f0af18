-- Letters of names and patterns: what the tokens of a text are is what well-formedness tests.
-- Assumes nothing.
use Prim.Native.Nat.{ℕ, suc}
use mathlib.Core.Path.{◌≡◌, refl, ap, ◌∙◌}
use mathlib.Core.Bool.{Bool, true, cond}
use mathlib.Core.List.{List, [], ◌∷◌}
use native.Mathlib.Omega.{arith}
use borrow.Author.Tests.{eq-eqb, le-leb}
use lib.ListN.{length}
use Rattle.rules.specs.Bytes.{name_byte, count, bit}
use Rattle.rules.specs.WellFormed.{is_name, is_pattern}
use Rattle.rules.specs.Reading.{all_bits}
use Rattle.laws.proofs.Tests.{and_left, and_right}
use Rattle.bynames.proofs.WellFormed.{IsName, IsPattern}
use Rattle.bynames.proofs.BackAttributes.{each-count}
use Rattle.accepted.proofs.Padding.{and_both}

-- the letters of a pattern, of a name, and of a demandedBits pattern
pub pattern_is : (p : ℕ → Bool) (l : List ℕ) → IsPattern p l → is_pattern p l ≡ true
unfolding is_pattern
pattern_is p l h =
    let e = h.spelt in
    rw e (and_both (le-leb 1 (suc (length h.rest)) (omega arith)) (eq-eqb _ _ (each-count p (h.first ∷ h.rest) h.each)))

pub name_is : (l : List ℕ) → IsName l → is_name l ≡ true
unfolding is_name
name_is l h =
    let e = h.spelt in
    rw e (and_both (le-leb 2 (suc (suc (length h.rest))) (omega arith)) (and_both refl (eq-eqb _ _ (each-count name_byte (h.first ∷ h.rest) h.each))))

pub all_bits_lem : (l : List ℕ) → all_bits l ≡ true → count bit l ≡ length l
all_bits_lem [] h = refl
all_bits_lem (b ∷ l) h = ap (λ (t : Bool). cond t (suc (count bit l)) 0) (and_left (bit b) (all_bits l) h) ∙ ap suc (all_bits_lem l (and_right (bit b) (all_bits l) h))

-- Laws of `place_of`, the place of a word in a list of words: as a chain of comparisons goes on, and what stands there.
-- Assumes nothing.
use mathlib.Core.Path.{◌≡◌, refl, sym, ap, ◌∙◌}
use mathlib.Core.Bool.{Bool, true, false, cond, false≢true}
use mathlib.Core.List.{List, [], ◌∷◌}
use Prim.Native.Nat.{ℕ, suc, ◌+◌, ◌<◌}
use native.Mathlib.Nat.{zero-add, add-zero, suc-add, add-suc, le_of_suc-le-suc, not-suc-le-zero}
use lib.Dec.{eqb}
use lib.ListN.{length, get_or}
use borrow.Author.Tests.{eqb-true}
use Rattle.rules.specs.Bytes.{same}
use Rattle.rules.specs.Instructions.{place_of}
use Rattle.laws.proofs.Tests.{said, and_left, and_right}

-- lists that are the same are equal
pub same_eq : (a b : List ℕ) → same a b ≡ true → a ≡ b
unfolding same
same_eq [] [] e = refl
same_eq [] (y ∷ b) e = absurd (false≢true e)
same_eq (x ∷ a) [] e = absurd (false≢true e)
same_eq (x ∷ a) (y ∷ b) e =
    ap (λ (h : ℕ). h ∷ a) (eqb-true x y (and_left (eqb x y) (same a b) e))
    ∙ ap (λ (l : List ℕ). y ∷ l) (same_eq a b (and_right (eqb x y) (same a b) e))

-- a chain of comparisons has passed n words of a list, and these are left
pub record Past (w : List ℕ) (all : List (List ℕ)) (n : ℕ) (rest : List (List ℕ)) : Type 0 where
  pub place : place_of w all ≡ n + place_of w rest

pub none_past : {w : List ℕ} {all : List (List ℕ)} → Past w all 0 all
none_past = record { place = sym (zero-add _) }

module _ {w x : List ℕ} {all rest : List (List ℕ)} {n : ℕ} {r : Bool} (p : Past w all n (x ∷ rest)) (e : r ≡ same w x) where
  pub one_past : r ≡ false → Past w all (suc n) rest
  one_past f = record { place = p.place ∙ rw (said e f, suc-add, add-suc) }

  pub found : r ≡ true → n ≡ place_of w all
  found t = sym (p.place ∙ rw (said e t, add-zero))

-- what stands at a word's place is the word
pub place-holds : (w : List ℕ) (l : List (List ℕ)) → place_of w l < length l → get_or l (place_of w l) [] ≡ w
place-holds w [] h = absurd (not-suc-le-zero h)
place-holds w (x ∷ l) h = step (same w x) refl (place-holds w l) h
  where
    step : (t : Bool) → same w x ≡ t → (place_of w l < length l → get_or l (place_of w l) [] ≡ w)
        → cond t 0 (suc (place_of w l)) < suc (length l) → get_or (x ∷ l) (cond t 0 (suc (place_of w l))) [] ≡ w
    step true e rest k = sym (same_eq w x e)
    step false e rest k = rest (le_of_suc-le-suc k)

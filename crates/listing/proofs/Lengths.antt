-- A listing has no more rows than are counted: they are distinct, and below the count.
-- Assumes nothing.
use Prim.Native.Nat.{ℕ, zero, suc, ◌≤◌, ◌<◌}
use mathlib.Core.Path.{◌≡◌, refl, sym, ap, ◌∙◌, subst}
use mathlib.Core.Logic.{inl, inr, ◌≢◌}
use mathlib.Core.Bool.{Bool, true, false, cond}
use mathlib.Core.List.{List, [], ◌∷◌}
use native.Mathlib.Nat.{not-suc-le-zero}
use native.Mathlib.Omega.{arith}
use lib.Dec.{eqb}
use lib.ListN.{length}
use borrow.Author.Tests.{eqb-true, eqb-false}
use Rattle.rules.specs.Meaning.{Mem, All}
use Rattle.laws.proofs.Same.{by_cond}
use Rattle.laws.proofs.Members.{all_at, all_of}
use Rattle.listing.specs.Listing.{Marks, listing}
use Rattle.listing.proofs.Marking.{Distinct}
use Rattle.listing.proofs.Listings.{listing_once, listing-below}

-- a list without a number
abbrev without : ℕ → List ℕ → List ℕ
without x [] = []
without x (y ∷ l) = cond (eqb y x) (without x l) (y ∷ without x l)

without_only : (x y : ℕ) (l : List ℕ) → Mem y (without x l) → Mem y l × (y ≢ x)
without_only x y [] h = absurd h
without_only x y (z ∷ l) h = at (eqb z x) (λ e. eqb-false z x e) (without_only x y l) h
  where
    at : (b : Bool) → (b ≡ false → z ≢ x) → (Mem y (without x l) → Mem y l × (y ≢ x)) → Mem y (cond b (without x l) (z ∷ without x l)) → Mem y (z ∷ l) × (y ≢ x)
    at true n f q = (inr (f q).0, (f q).1)
    at false n f (inl p) = (inl p, λ e. n refl (sym p ∙ e))
    at false n f (inr q) = (inr (f q).0, (f q).1)

without_distinct : (x : ℕ) (l : List ℕ) → Distinct l → Distinct (without x l)
without_distinct x [] d = tt
without_distinct x (y ∷ l) d =
    by_cond Distinct (eqb y x) (without x l) (y ∷ without x l) (λ e. without_distinct x l d.1) (λ e. (λ m. d.0 (without_only x y l m).0, without_distinct x l d.1))

without_absent : (x : ℕ) (l : List ℕ) → (Mem x l → ⊥) → without x l ≡ l
without_absent x [] n = refl
without_absent x (y ∷ l) n =
    by_cond (λ (t : List ℕ). t ≡ y ∷ l) (eqb y x) (without x l) (y ∷ without x l)
    (λ e. absurd (n (inl (sym (eqb-true y x e))))) (λ e. ap (λ (t : List ℕ). y ∷ t) (without_absent x l (λ h. n (inr h))))

-- of distinct numbers it lacks one at most
without_length : (x : ℕ) (l : List ℕ) → Distinct l → length l ≤ suc (length (without x l))
without_length x [] d = omega arith
without_length x (y ∷ l) d =
    by_cond (λ (t : List ℕ). suc (length l) ≤ suc (length t)) (eqb y x) (without x l) (y ∷ without x l)
    (λ e. let q : length (without x l) ≡ length l = ap length (without_absent x l (λ h. d.0 (subst (λ (n : ℕ). Mem n l) (sym (eqb-true y x e)) h))) in omega arith)
    (λ e. omega (arith, without_length x l d.1))

distinct_length : (s : ℕ) (l : List ℕ) → Distinct l → All (λ x. x < s) l → length l ≤ s
distinct_length zero [] d a = omega arith
distinct_length zero (x ∷ l) d a = absurd (not-suc-le-zero a.0)
distinct_length (suc s) l d a =
    omega (
      arith,
      without_length s l d,
      distinct_length s (without s l) (without_distinct s l d)
          (all_of (λ x. x < s) (without s l) (λ x h. let g = without_only s x l h in less x g.1 (all_at (λ x. x < suc s) l a x g.0))),
    )
  where
    less : (x : ℕ) → (x ≡ s → ⊥) → x < suc s → x < s
    less x n h = omega arith

pub listing-length : (r : ℕ → List ℕ) (down : (i : ℕ) → All (λ j. j < i) (r i)) (s : ℕ) (m : Marks) (roots : List ℕ) → All (λ j. j < s) roots → length (listing r s m roots) ≤ s
listing-length r down s m roots a = distinct_length s (listing r s m roots) (listing_once r down s m roots) (listing-below r down s m roots a)

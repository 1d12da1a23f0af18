-- What a root reaches, and lists in which each row stands after all it refers to.
-- Assumes nothing.
use mathlib.Core.Path.{◌≡◌, sym, ap, ◌∙◌, subst}
use mathlib.Core.Logic.{◌⊎◌, inl, inr, ⊎_elim, ⊎_map}
use mathlib.Core.Bool.{true}
use mathlib.Core.List.{List, [], ◌∷◌, ◌++◌}
use Prim.Native.Nat.{ℕ, zero, suc, ◌<◌}
use native.Mathlib.Nat.{not-suc-le-zero}
use native.Mathlib.Omega.{arith}
use Rattle.rules.specs.Meaning.{Mem, All}
use Rattle.rules.specs.Syntax.{flat}
use Rattle.laws.proofs.Same.{by_cond}
use Rattle.laws.proofs.Members.{all_of, mem_flat}
use Rattle.listing.specs.Listing.{Marks, mark, unfolded, firsts}
use Rattle.listing.proofs.Marking.{mark-keeps, mark_same, mark-only}
use Rattle.listing.proofs.Unfolding.{unfolded_self, unfolded_cases, unfolded_under, below}

-- row y can be reached from row x
pub data Reach (r : ℕ → List ℕ) : ℕ → ℕ → Type 0 where
  here : {x : ℕ} → Reach r x x
  there : {x j y : ℕ} → Mem j (r x) → Reach r j y → Reach r x y

-- what each row of a list refers to stands before it, or is in P
abbrev pub Ordered : (ℕ → List ℕ) → (ℕ → Type 0) → List ℕ → Type 0
Ordered r P [] = Unit {0}
Ordered r P (x ∷ xs) = ((j : ℕ) → Mem j (r x) → P j) × Ordered r (λ y. P y ⊎ (y ≡ x)) xs

module _ (r : ℕ → List ℕ) where
  pub ordered_weaker : (xs : List ℕ) (P Q : ℕ → Type 0) → ((y : ℕ) → P y → Q y) → Ordered r P xs → Ordered r Q xs
  ordered_weaker [] P Q f h = tt
  ordered_weaker (x ∷ xs) P Q f h =
      (λ j q. f j (h.0 j q), ordered_weaker xs (λ y. P y ⊎ (y ≡ x)) (λ y. Q y ⊎ (y ≡ x)) (λ y. ⊎_map (f y) (λ (e : y ≡ x). e)) h.1)

  pub ordered_append : (xs ys : List ℕ) (P : ℕ → Type 0) → Ordered r P xs → Ordered r (λ y. P y ⊎ Mem y xs) ys → Ordered r P (xs ++ ys)
  ordered_append [] ys P h g = ordered_weaker ys (λ y. P y ⊎ ⊥) P (λ y. ⊎_elim (λ (p : P y). p) (λ (n : ⊥). absurd n)) g
  ordered_append (x ∷ xs) ys P h g = (
    h.0,
    ordered_append xs ys (λ y. P y ⊎ (y ≡ x)) h.1
        (ordered_weaker ys (λ y. P y ⊎ Mem y (x ∷ xs)) (λ y. (P y ⊎ (y ≡ x)) ⊎ Mem y xs) (λ y. ⊎_elim (λ (p : P y). inl (inl p)) (λ (q : Mem y (x ∷ xs)). case y q)) g),
  )
    where
      case : (y : ℕ) → Mem y (x ∷ xs) → (P y ⊎ (y ≡ x)) ⊎ Mem y xs
      case y (inl e) = inl (inr e)
      case y (inr q) = inr q

  -- at a place of such a list: what that row refers to stands before it, or is in P
  pub ordered_at : (xs : List ℕ) (x : ℕ) (ys : List ℕ) (P : ℕ → Type 0) → Ordered r P (xs ++ x ∷ ys) → (j : ℕ) → Mem j (r x) → P j ⊎ Mem j xs
  ordered_at [] x ys P h j q = inl (h.0 j q)
  ordered_at (z ∷ zs) x ys P h j q =
      ⊎_elim (λ (p : P j ⊎ (j ≡ z)). ⊎_map (λ v. v) (λ e. inl e) p) (λ (m : Mem j zs). inr (inr m)) (ordered_at zs x ys (λ y. P y ⊎ (y ≡ z)) h.1 j q)

  -- the first occurrences are in order too
  pub ordered_firsts : (l : List ℕ) (m : Marks) (P : ℕ → Type 0) → ((y : ℕ) → P y → m y ≡ true) → Ordered r P l → Ordered r (λ y. m y ≡ true) (firsts m l)
  ordered_firsts [] m P f h = tt
  ordered_firsts (x ∷ l) m P f h =
      by_cond (Ordered r (λ y. m y ≡ true)) (m x) (firsts m l) (x ∷ firsts (mark m x) l)
      (λ e. ordered_firsts l m (λ y. P y ⊎ (y ≡ x)) (λ y. ⊎_elim (λ (p : P y). f y p) (λ (q : y ≡ x). ap m q ∙ e)) h.1)
      (λ e. (
        λ j q. f j (h.0 j q),
        ordered_weaker (firsts (mark m x) l) (λ y. mark m x y ≡ true) (λ y. (m y ≡ true) ⊎ (y ≡ x)) (λ y q. mark-only m x y q)
            (ordered_firsts l (mark m x) (λ y. P y ⊎ (y ≡ x)) (λ y. ⊎_elim (λ (p : P y). mark-keeps m x y (f y p)) (λ (q : y ≡ x). ap (mark m x) q ∙ mark_same m x)) h.1),
      ))

module _ (r : ℕ → List ℕ) (down : (i : ℕ) → All (λ j. j < i) (r i)) where
  -- the unfolding has what can be reached, and no other
  pub unfolded_reach : (d x y : ℕ) → Mem y (unfolded r d x) → Reach r x y
  unfolded_reach zero x y h = absurd h
  unfolded_reach (suc d) x y h =
      ⊎_elim (λ (u : (j : ℕ) × Mem j (r x) × Mem y (unfolded r d j)). there u.1 (unfolded_reach d u.0 y u.2)) (λ (e : y ≡ x). subst (λ (n : ℕ). Reach r x n) (sym e) here)
      (unfolded_cases r down d x y h)

  pub reach_unfolded : {x y : ℕ} → Reach r x y → (d : ℕ) → x < d → Mem y (unfolded r d x)
  reach_unfolded (here {x = a}) d l = unfolded_self r down d a l
  reach_unfolded (there {x = a} {j = b} {y = c} q h) zero l = absurd (not-suc-le-zero l)
  reach_unfolded (there {x = a} {j = b} {y = c} q h) (suc d) l =
      unfolded_under r down d a c b q (reach_unfolded h d (omega (arith, below r down a b q)))

  pub flat_ordered : (d : ℕ) → ((x : ℕ) (P : ℕ → Type 0) → x < d → Ordered r P (unfolded r d x)) → (xs : List ℕ) → All (λ j. j < d) xs → (P : ℕ → Type 0)
      → Ordered r P (flat (unfolded r d) xs)
  flat_ordered d H [] a P = tt
  flat_ordered d H (x ∷ xs) a P =
      ordered_append r (unfolded r d x) (flat (unfolded r d) xs) P (H x P a.0) (flat_ordered d H xs a.1 (λ y. P y ⊎ Mem y (unfolded r d x)))

  pub unfolded_ordered : (d x : ℕ) (P : ℕ → Type 0) → x < d → Ordered r P (unfolded r d x)
  unfolded_ordered zero x P l = tt
  unfolded_ordered (suc d) x P l =
      ordered_append r (flat (unfolded r d) (r x)) (x ∷ []) P
      (flat_ordered d (unfolded_ordered d) (r x) (all_of (λ j. j < d) (r x) (λ j q. omega (arith, below r down x j q))) P)
      (λ j q. inr (mem_flat (unfolded r d) j j (r x) q (unfolded_self r down d j (omega (arith, below r down x j q)))), tt)

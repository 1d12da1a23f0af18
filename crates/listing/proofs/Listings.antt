-- The listing: each row that the roots reach and that has no mark, once, after all that it refers to, and no other. It is what a stack of the roots has to come.
-- Assumes nothing.
use mathlib.Core.Path.{◌≡◌, refl, sym, ap, ◌∙◌, subst}
use mathlib.Core.Logic.{⊎_elim}
use mathlib.Core.Bool.{Bool, true, false, cond}
use mathlib.Core.List.{List, [], ◌∷◌, ◌++◌}
use Prim.Native.Nat.{ℕ, ◌<◌}
use native.Mathlib.Omega.{arith}
use Rattle.rules.specs.Meaning.{Mem, All}
use Rattle.rules.specs.Syntax.{flat}
use Rattle.laws.proofs.Cases.{by_cases}
use Rattle.laws.proofs.Members.{all_at, all_of, mem_flat, flat_mem, flat_append}
use Rattle.listing.specs.Listing.{Marks, none, mark, marked, unfolded, firsts, listing}
use Rattle.listing.specs.Machine.{emit, lists, ended, traces, run}
use Rattle.listing.specs.Work.{Closed}
use Rattle.listing.proofs.Marking.{marked-keeps, marked_has, marked-only, marked-firsts, firsts_old, firsts_new, firsts-append, firsts-only, firsts_has, firsts_once, Distinct}
use Rattle.listing.proofs.Searches.{run-traces}
use Rattle.listing.proofs.Unfolding.{sift, unfolded-below, unfolded-closed, threads_sift, search_sift}
use Rattle.listing.proofs.Orders.{Reach, Ordered, ordered_firsts, unfolded_reach, reach_unfolded, flat_ordered, unfolded_ordered}

-- ---- what sift lists, and the marks after it
sift_lists : (l : List ℕ) (m : Marks) → sift m l ended ≡ lists m (firsts m l)
sift_lists [] m = refl
sift_lists (x ∷ l) m =
    by_cases (m x)
    (λ e. ap (λ (b : Bool). cond b (sift m l ended) (emit x (sift (mark m x) l ended))) e ∙ sift_lists l m ∙ ap (lists m) (sym (firsts_old m x l e)))
    (λ e.
    ap (λ (b : Bool). cond b (sift m l ended) (emit x (sift (mark m x) l ended))) e
    ∙ ap (emit x) (sift_lists l (mark m x)) ∙ ap (lists m) (sym (firsts_new m x l e)))

module _ (r : ℕ → List ℕ) (down : (i : ℕ) → All (λ j. j < i) (r i)) (s : ℕ) where
  -- ---- each that the roots reach and that has no mark, once, after all that it refers to, and no other
  pub listing_has : (m : Marks) (roots : List ℕ) → All (λ j. j < s) roots → (x y : ℕ) → Mem x roots → Reach r x y → m y ≡ false → Mem y (listing r s m roots)
  listing_has m roots a x y h q n =
      firsts_has (flat (unfolded r s) roots) m y (mem_flat (unfolded r s) y x roots h (reach_unfolded r down q s (all_at (λ j. j < s) roots a x h))) n

  pub listing-only : (m : Marks) (roots : List ℕ) (y : ℕ) → Mem y (listing r s m roots) → (m y ≡ false) × ((x : ℕ) × Mem x roots × Reach r x y)
  listing-only m roots y h =
      let p = firsts-only (flat (unfolded r s) roots) m y h in
      let g : (j : ℕ) × Mem j roots × Mem y (unfolded r s j) = flat_mem (unfolded r s) y roots p.0 in
      (p.1, (g.0, g.1, unfolded_reach r down s g.0 y g.2))

  pub listing_once : (m : Marks) (roots : List ℕ) → Distinct (listing r s m roots)
  listing_once m roots = firsts_once (flat (unfolded r s) roots) m

  pub listing_ordered : (m : Marks) (roots : List ℕ) → All (λ j. j < s) roots → Ordered r (λ y. m y ≡ true) (listing r s m roots)
  listing_ordered m roots a =
      ordered_firsts r (flat (unfolded r s) roots) m (λ y. ⊥) (λ y n. absurd n) (flat_ordered r down s (unfolded_ordered r down s) roots a (λ y. ⊥))

  -- ---- one root after the other
  pub listing-append : (m : Marks) (xs ys : List ℕ) → listing r s m (xs ++ ys) ≡ listing r s m xs ++ listing r s (marked m (listing r s m xs)) ys
  listing-append m xs ys =
      ap (firsts m) (flat_append (unfolded r s) xs ys)
      ∙ firsts-append (flat (unfolded r s) xs) (flat (unfolded r s) ys) m
      ∙ ap (λ (n : Marks). listing r s m xs ++ firsts n (flat (unfolded r s) ys)) (sym (marked-firsts (flat (unfolded r s) xs) m))

  pub listing-below : (m : Marks) (roots : List ℕ) → All (λ j. j < s) roots → All (λ j. j < s) (listing r s m roots)
  listing-below m roots a =
      all_of (λ j. j < s) (listing r s m roots)
      (λ y h.
      let g : (j : ℕ) × Mem j roots × Mem y (unfolded r s j) = flat_mem (unfolded r s) y roots (firsts-only (flat (unfolded r s) roots) m y h).0 in
      omega (arith, unfolded-below r down s g.0 y g.2, all_at (λ j. j < s) roots a g.0 g.1))

  -- ---- marks are closed between roots
  pub closed-listing : (m : Marks) (roots : List ℕ) → All (λ j. j < s) roots → Closed r m → Closed r (marked m (listing r s m roots))
  closed-listing m roots a c = subst (Closed r) (sym (marked-firsts (flat (unfolded r s) roots) m)) whole
    where
      whole : Closed r (marked m (flat (unfolded r s) roots))
      whole i e =
          all_of (λ j. marked m (flat (unfolded r s) roots) j ≡ true) (r i)
          (λ j q.
          ⊎_elim
          (λ (f : m i ≡ true). marked-keeps (flat (unfolded r s) roots) m j (all_at (λ n. m n ≡ true) (r i) (c i f) j q))
          (λ (f : Mem i (flat (unfolded r s) roots)).
          let g : (x : ℕ) × Mem x roots × Mem i (unfolded r s x) = flat_mem (unfolded r s) i roots f in
          marked_has (flat (unfolded r s) roots) m j
          (mem_flat (unfolded r s) j g.0 roots g.1 (unfolded-closed r down s g.0 i (all_at (λ n. n < s) roots a g.0 g.1) g.2 j q)))
          (marked-only (flat (unfolded r s) roots) m i e))

  -- ---- what a stack of the roots has to come
  pub run-listing : (m : Marks) (roots : List ℕ) → All (λ j. j < s) roots → Closed r m → run r s m (traces roots []) ≡ lists m (listing r s m roots)
  run-listing m roots a c =
      run-traces r down s m roots []
      ∙ threads_sift r down s (search_sift r down s) s (omega arith) roots a m ended (λ x h e j q. all_at (λ n. m n ≡ true) (r x) (c x e) j q)
      ∙ sift_lists (flat (unfolded r s) roots) m

  pub closed_none : Closed r none
  closed_none i e = let z : ◌≡◌ {A = ℕ} 0 1 = cc in absurd (let n : ⊥ = omega arith in n)

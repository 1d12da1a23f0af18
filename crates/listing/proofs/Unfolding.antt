-- A search with marks lists the first occurrences in the unfolding, where the marks hold with each row all that it refers to.
-- Assumes nothing.
use mathlib.Core.Path.{◌≡◌, refl, sym, ap, ◌∙◌, subst}
use mathlib.Core.Logic.{◌⊎◌, inl, ⊎_elim, ⊎_map, ◌≢◌}
use mathlib.Core.Bool.{Bool, true, false, cond}
use mathlib.Core.List.{List, [], ◌∷◌, ◌++◌}
use Prim.Native.Nat.{ℕ, zero, suc, ◌≤◌, ◌<◌}
use native.Mathlib.Nat.{not-suc-le-zero, le_of_suc-le-suc}
use native.Mathlib.Omega.{arith}
use Rattle.rules.specs.Meaning.{Mem, All}
use Rattle.rules.specs.Syntax.{flat}
use Rattle.laws.proofs.Members.{all_at, all_of, mem_left, mem_right, mem_split, mem_one, mem_flat, flat_mem}
use Rattle.listing.specs.Listing.{Marks, mark, marked, unfolded}
use Rattle.listing.specs.Machine.{Run, emit, thread, depth_first}
use Rattle.listing.proofs.Marking.{mark-other, mark-keeps, mark_swap, mark-again, marked-keeps, marked_has, marked-only}

-- ---- the first occurrences of those with no mark are listed, then k
abbrev pub sift : Marks → List ℕ → (Marks → Run) → Run
sift m [] k = k m
sift m (x ∷ xs) k = cond (m x) (sift m xs k) (emit x (sift (mark m x) xs k))

pub sift_append : (xs ys : List ℕ) (m : Marks) (k : Marks → Run) → sift m (xs ++ ys) k ≡ sift m xs (λ m'. sift m' ys k)
sift_append [] ys m k = refl
sift_append (x ∷ xs) ys m k =
    ap (λ (t : Run). cond (m x) t (emit x (sift (mark m x) (xs ++ ys) k))) (sift_append xs ys m k)
    ∙ ap (λ (t : Run). cond (m x) (sift m xs (λ m'. sift m' ys k)) (emit x t)) (sift_append xs ys (mark m x) k)

-- what has a mark is left out
pub sift_old : (xs : List ℕ) (m : Marks) (k : Marks → Run) → All (λ x. m x ≡ true) xs → sift m xs k ≡ k m
sift_old [] m k a = refl
sift_old (x ∷ xs) m k a =
    ap (λ (b : Bool). cond b (sift m xs k) (emit x (sift (mark m x) xs k))) a.0 ∙ sift_old xs m k a.1

pub sift_cong : (xs : List ℕ) (m : Marks) (k k' : Marks → Run) → k (marked m xs) ≡ k' (marked m xs) → sift m xs k ≡ sift m xs k'
sift_cong [] m k k' h = h
sift_cong (x ∷ xs) m k k' h =
    go (m x) refl (λ q. sift_cong xs m k k' q) (sift_cong xs (mark m x) k k' h)
  where
    go : (b : Bool) → m x ≡ b → (k (marked m xs) ≡ k' (marked m xs) → sift m xs k ≡ sift m xs k') → sift (mark m x) xs k ≡ sift (mark m x) xs k'
        → cond b (sift m xs k) (emit x (sift (mark m x) xs k)) ≡ cond b (sift m xs k') (emit x (sift (mark m x) xs k'))
    go true e f g = f (rw (mark-again m x e) at h)
    go false e f g = ap (emit x) g

-- a row that is in none of a list may get its mark before the list, and be listed after it
pub sift_defer : (xs : List ℕ) (m : Marks) (i : ℕ) (k : Marks → Run) → m i ≡ false → All (λ x. x ≢ i) xs
    → sift m xs (λ m'. sift m' (i ∷ []) k) ≡ sift (mark m i) xs (λ m'. emit i (k m'))
sift_defer [] m i k e a = ap (λ (b : Bool). cond b (k m) (emit i (k (mark m i)))) e
sift_defer (x ∷ xs) m i k e a =
    ap (λ (t : Run). cond (m x) (sift m xs K) (emit x t))
    (sift_defer xs (mark m x) i k (mark-other m x i (λ q. a.0 (sym q)) ∙ e) a.1
    ∙ ap (λ (l : Marks). sift l xs K') (mark_swap m x i))
    ∙ ap (λ (t : Run). cond (m x) t (emit x (sift (mark (mark m i) x) xs K'))) (sift_defer xs m i k e a.1)
    ∙ ap (λ (b : Bool). cond b (sift (mark m i) xs K') (emit x (sift (mark (mark m i) x) xs K'))) (sym (mark-other m i x a.0))
  where
    K : Marks → Run
    K = λ m'. sift m' (i ∷ []) k

    K' : Marks → Run
    K' = λ m'. emit i (k m')

-- ---- the unfolding
module _ (r : ℕ → List ℕ) (down : (i : ℕ) → All (λ j. j < i) (r i)) where
  pub unfolded_self : (d x : ℕ) → x < d → Mem x (unfolded r d x)
  unfolded_self zero x h = absurd (not-suc-le-zero h)
  unfolded_self (suc d) x h = mem_right x (flat (unfolded r d) (r x)) (x ∷ []) (inl refl)

  abbrev Under : ℕ → ℕ → ℕ → Type 0
  Under d x y = (j : ℕ) × Mem j (r x) × Mem y (unfolded r d j)

  pub unfolded_cases : (d x y : ℕ) → Mem y (unfolded r (suc d) x) → Under d x y ⊎ (y ≡ x)
  unfolded_cases d x y h = ⊎_map (λ q. flat_mem (unfolded r d) y (r x) q) (mem_one y x) (mem_split y (flat (unfolded r d) (r x)) (x ∷ []) h)

  pub unfolded_under : (d x y j : ℕ) → Mem j (r x) → Mem y (unfolded r d j) → Mem y (unfolded r (suc d) x)
  unfolded_under d x y j h q = mem_left y (flat (unfolded r d) (r x)) (x ∷ []) (mem_flat (unfolded r d) y j (r x) h q)

  pub below : (x j : ℕ) → Mem j (r x) → j < x
  below x j h = all_at (λ n. n < x) (r x) (down x) j h

  pub unfolded-below : (d x y : ℕ) → Mem y (unfolded r d x) → y ≤ x
  unfolded-below zero x y h = absurd h
  unfolded-below (suc d) x y h =
      ⊎_elim (λ (u : Under d x y). omega (arith, unfolded-below d u.0 y u.2, below x u.0 u.1)) (λ (e : y ≡ x). omega arith) (unfolded_cases d x y h)

  -- with each row that is in it, all that the row refers to
  pub unfolded-closed : (d x y : ℕ) → x < d → Mem y (unfolded r d x) → (j : ℕ) → Mem j (r y) → Mem j (unfolded r d x)
  unfolded-closed zero x y l h j q = absurd h
  unfolded-closed (suc d) x y l h j q =
      ⊎_elim
      (λ (u : Under d x y). unfolded_under d x j u.0 u.1 (unfolded-closed d u.0 y (omega (arith, below x u.0 u.1)) u.2 j q))
      (λ (e : y ≡ x).
      let p : Mem j (r x) = subst (λ (n : ℕ). Mem j (r n)) e q in
      unfolded_under d x j j p (unfolded_self d j (omega (arith, below x j p))))
      (unfolded_cases d x y h)

  -- ---- marks that are closed below b: with a row that has one, all that it refers to
  abbrev pub ClosedTo : ℕ → Marks → Type 0
  ClosedTo b m = (x : ℕ) → x < b → m x ≡ true → (j : ℕ) → Mem j (r x) → m j ≡ true

  closed-less : (b b' : ℕ) (m : Marks) → b' ≤ b → ClosedTo b m → ClosedTo b' m
  closed-less b b' m l c x h e j q = c x (omega arith) e j q

  closed-mark : (b i : ℕ) (m : Marks) → b ≤ i → ClosedTo b m → ClosedTo b (mark m i)
  closed-mark b i m l c x h e j q =
      mark-keeps m i j (c x h (sym (mark-other m i x (λ p. omega arith)) ∙ e) j q)

  pub closed-marked : (d b x : ℕ) (m : Marks) → x < d → ClosedTo b m → ClosedTo b (marked m (unfolded r d x))
  closed-marked d b x m l c y h e j q =
      ⊎_elim
      (λ (f : m y ≡ true). marked-keeps (unfolded r d x) m j (c y h f j q))
      (λ (f : Mem y (unfolded r d x)). marked_has (unfolded r d x) m j (unfolded-closed d x y l f j q))
      (marked-only (unfolded r d x) m y e)

  -- where row i has a mark, and the marks are closed up to it, all of its unfolding has one
  closed-unfolded : (d i : ℕ) (m : Marks) → ClosedTo (suc i) m → m i ≡ true → (y : ℕ) → Mem y (unfolded r d i) → m y ≡ true
  closed-unfolded zero i m c e y h = absurd h
  closed-unfolded (suc d) i m c e y h =
      ⊎_elim
      (λ (u : Under d i y).
      closed-unfolded d u.0 m (closed-less (suc i) (suc u.0) m (omega (arith, below i u.0 u.1)) c) (c i (omega arith) e u.0 u.1) y u.2)
      (λ (p : y ≡ i). ap m p ∙ e)
      (unfolded_cases d i y h)

  -- ---- the search lists what sift keeps of the unfolding
  pub threads_sift : (d : ℕ) → ((m : Marks) (i : ℕ) (k : Marks → Run) → i < d → ClosedTo (suc i) m → depth_first r d m i k ≡ sift m (unfolded r d i) k)
      → (b : ℕ) → b ≤ d → (xs : List ℕ) → All (λ j. j < b) xs → (m : Marks) (k : Marks → Run) → ClosedTo b m
      → thread (depth_first r d) m xs k ≡ sift m (flat (unfolded r d) xs) k
  threads_sift d H b l [] a m k c = refl
  threads_sift d H b l (x ∷ xs) a m k c =
      H m x (λ m'. thread (depth_first r d) m' xs k) (omega (arith, a.0)) (closed-less b (suc x) m a.0 c)
      ∙ sift_cong (unfolded r d x) m (λ m'. thread (depth_first r d) m' xs k) (λ m'. sift m' (flat (unfolded r d) xs) k)
      (threads_sift d H b l xs a.1 (marked m (unfolded r d x)) k (closed-marked d b x m (omega (arith, a.0)) c))
      ∙ sym (sift_append (unfolded r d x) (flat (unfolded r d) xs) m k)

  pub search_sift : (d : ℕ) (m : Marks) (i : ℕ) (k : Marks → Run) → i < d → ClosedTo (suc i) m → depth_first r d m i k ≡ sift m (unfolded r d i) k
  search_sift zero m i k l c = absurd (not-suc-le-zero l)
  search_sift (suc d) m i k l c =
      go (m i) refl
      (threads_sift d (search_sift d) i (le_of_suc-le-suc l) (r i) (down i) (mark m i) (λ m'. emit i (k m'))
      (closed-mark i i m (omega arith) (closed-less (suc i) i m (omega arith) c)))
    where
      U : List ℕ
      U = flat (unfolded r d) (r i)

      differ : All (λ x. x ≢ i) U
      differ =
          all_of (λ x. x ≢ i) U
          (λ x h e. let g : Under d i x = flat_mem (unfolded r d) x (r i) h in omega (arith, e, unfolded-below d g.0 x g.2, below i g.0 g.1))

      go : (b : Bool) → m i ≡ b → thread (depth_first r d) (mark m i) (r i) (λ m'. emit i (k m')) ≡ sift (mark m i) U (λ m'. emit i (k m'))
          → cond b (k m) (thread (depth_first r d) (mark m i) (r i) (λ m'. emit i (k m'))) ≡ sift m (U ++ (i ∷ [])) k
      go false e h = h ∙ sym (sift_defer U m i k e differ) ∙ sym (sift_append U (i ∷ []) m k)
      go true e h = sym (sift_old (U ++ (i ∷ [])) m k (all_of (λ x. m x ≡ true) (U ++ (i ∷ [])) (closed-unfolded (suc d) i m c e)))

-- One step of a stack's run: a row that is traced for the first time, one that has a mark, and depth that is enough.
-- Assumes nothing.
use mathlib.Core.Path.{◌≡◌, refl, sym, ap, ◌∙◌, fun_ext}
use mathlib.Core.Bool.{Bool, true, false, cond}
use mathlib.Core.List.{List, [], ◌∷◌, ◌++◌}
use Prim.Native.Nat.{ℕ, zero, suc, ◌<◌}
use native.Mathlib.Nat.{not-suc-le-zero, le_of_suc-le-suc}
use Rattle.rules.specs.Meaning.{All}
use Rattle.laws.proofs.Members.{all_below}
use Rattle.listing.specs.Listing.{Marks, mark}
use Rattle.listing.specs.Machine.{Run, emit, Entry, trace, finished, traces, thread, depth_first, run}

pub traces-append : (xs ys : List ℕ) (st : List Entry) → traces (xs ++ ys) st ≡ traces xs (traces ys st)
traces-append [] ys st = refl
traces-append (x ∷ xs) ys st = ap (λ (l : List Entry). trace x ∷ l) (traces-append xs ys st)

module _ (r : ℕ → List ℕ) (down : (i : ℕ) → All (λ j. j < i) (r i)) where
  threads_deeper : (d : ℕ) → ((m : Marks) (i : ℕ) (k : Marks → Run) → i < d → depth_first r (suc d) m i k ≡ depth_first r d m i k)
      → (xs : List ℕ) → All (λ j. j < d) xs → (m : Marks) (k : Marks → Run) → thread (depth_first r (suc d)) m xs k ≡ thread (depth_first r d) m xs k
  threads_deeper d h [] a m k = refl
  threads_deeper d h (x ∷ xs) a m k =
      h m x (λ m'. thread (depth_first r (suc d)) m' xs k) a.0 ∙ ap (depth_first r d m x) (fun_ext (λ m'. threads_deeper d h xs a.1 m' k))

  pub search_deeper : (d : ℕ) (m : Marks) (i : ℕ) (k : Marks → Run) → i < d → depth_first r (suc d) m i k ≡ depth_first r d m i k
  search_deeper zero m i k h = absurd (not-suc-le-zero h)
  search_deeper (suc d) m i k h =
      ap (cond (m i) (k m))
      (threads_deeper d (search_deeper d) (r i) (all_below i d (le_of_suc-le-suc h) (r i) (down i)) (mark m i) (λ m'. emit i (k m')))

  search_new : (s : ℕ) (m : Marks) (i : ℕ) (k : Marks → Run) → i < s → m i ≡ false
      → depth_first r s m i k ≡ thread (depth_first r s) (mark m i) (r i) (λ m'. emit i (k m'))
  search_new zero m i k h e = absurd (not-suc-le-zero h)
  search_new (suc d) m i k h e =
      ap (λ (b : Bool). cond b (k m) (thread (depth_first r d) (mark m i) (r i) (λ m'. emit i (k m')))) e
      ∙ sym (threads_deeper d (search_deeper d) (r i) (all_below i d (le_of_suc-le-suc h) (r i) (down i)) (mark m i) (λ m'. emit i (k m')))

  search_old : (s : ℕ) (m : Marks) (i : ℕ) (k : Marks → Run) → m i ≡ true → depth_first r s m i k ≡ k m
  search_old zero m i k e = refl
  search_old (suc d) m i k e = ap (λ (b : Bool). cond b (k m) (thread (depth_first r d) (mark m i) (r i) (λ m'. emit i (k m')))) e

  pub run-traces : (s : ℕ) (m : Marks) (xs : List ℕ) (st : List Entry) → run r s m (traces xs st) ≡ thread (depth_first r s) m xs (λ m'. run r s m' st)
  run-traces s m [] st = refl
  run-traces s m (x ∷ xs) st = ap (depth_first r s m x) (fun_ext (λ m'. run-traces s m' xs st))

  -- ---- a row with a mark is passed over; one without gets it, and stands under all it refers to
  pub run_old : (s : ℕ) (m : Marks) (i : ℕ) (st : List Entry) → m i ≡ true → run r s m (trace i ∷ st) ≡ run r s m st
  run_old s m i st e = search_old s m i (λ m'. run r s m' st) e

  pub run_new : (s : ℕ) (m : Marks) (i : ℕ) (st : List Entry) → i < s → m i ≡ false → run r s m (trace i ∷ st) ≡ run r s (mark m i) (traces (r i) (finished i ∷ st))
  run_new s m i st h e = search_new s m i (λ m'. run r s m' st) h e ∙ sym (run-traces s (mark m i) (r i) (finished i ∷ st))

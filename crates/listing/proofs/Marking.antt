-- Marks, and the first occurrences that they leave over.
-- Assumes nothing.
use mathlib.Core.Path.{◌≡◌, refl, sym, ap, ◌∙◌, fun_ext}
use mathlib.Core.Logic.{◌⊎◌, inl, inr, ⊎_elim, ◌≢◌}
use mathlib.Core.Bool.{Bool, true, false, cond, ◌||◌}
use mathlib.Core.List.{List, [], ◌∷◌, ◌++◌}
use Prim.Native.Nat.{ℕ}
use native.Mathlib.Decide.{ℕ_discrete}
use lib.Dec.{eqb}
use borrow.Author.Tests.{eq-eqb, ne_eqb}
use Rattle.rules.specs.Meaning.{Mem, All}
use Rattle.laws.proofs.Cases.{by_cases}
use Rattle.laws.proofs.Same.{by_cond, not_both}
use Rattle.listing.specs.Listing.{Marks, mark, marked, firsts}

-- ---- one mark
or_swap : (a b c : Bool) → (a || (b || c)) ≡ (b || (a || c))
or_swap true true c = refl
or_swap true false c = refl
or_swap false b c = refl

pub or_true : (a : Bool) {b : Bool} → b ≡ true → (a || b) ≡ true
or_true true e = refl
or_true false e = e

module _ (m : Marks) where
  pub mark_same : (i : ℕ) → mark m i i ≡ true
  mark_same i = ap (λ (b : Bool). b || m i) (eq-eqb i i refl)

  pub mark-other : (i x : ℕ) → x ≢ i → mark m i x ≡ m x
  mark-other i x h = ap (λ (b : Bool). b || m x) (ne_eqb x i h)

  pub mark-keeps : (i x : ℕ) → m x ≡ true → mark m i x ≡ true
  mark-keeps i x e = or_true (eqb x i) e

  pub mark-only : (i x : ℕ) → mark m i x ≡ true → (m x ≡ true) ⊎ (x ≡ i)
  mark-only i x e = at (ℕ_discrete x i)
    where
      at : Dec (x ≡ i) → (m x ≡ true) ⊎ (x ≡ i)
      at (yes q) = inr q
      at (no n) = inl (sym (mark-other i x n) ∙ e)

  -- the order of two marks does not matter, and a mark that is there adds nothing
  pub mark_swap : (i j : ℕ) → mark (mark m i) j ≡ mark (mark m j) i
  mark_swap i j = fun_ext (λ x. or_swap (eqb x j) (eqb x i) (m x))

  pub mark-again : (i : ℕ) → m i ≡ true → mark m i ≡ m
  mark-again i e = fun_ext (λ x. at x (ℕ_discrete x i))
    where
      at : (x : ℕ) → Dec (x ≡ i) → mark m i x ≡ m x
      at x (yes q) = mark-keeps i x (ap m q ∙ e) ∙ sym (ap m q ∙ e)
      at x (no n) = mark-other i x n

-- ---- marks at the rows of a list
pub marked_append : (xs ys : List ℕ) (m : Marks) → marked m (xs ++ ys) ≡ marked (marked m xs) ys
marked_append [] ys m = refl
marked_append (x ∷ xs) ys m = marked_append xs ys (mark m x)

pub marked-keeps : (xs : List ℕ) (m : Marks) (x : ℕ) → m x ≡ true → marked m xs x ≡ true
marked-keeps [] m x e = e
marked-keeps (y ∷ ys) m x e = marked-keeps ys (mark m y) x (mark-keeps m y x e)

pub marked_has : (xs : List ℕ) (m : Marks) (x : ℕ) → Mem x xs → marked m xs x ≡ true
marked_has [] m x h = absurd h
marked_has (y ∷ ys) m x (inl e) = marked-keeps ys (mark m y) x (ap (mark m y) e ∙ mark_same m y)
marked_has (y ∷ ys) m x (inr h) = marked_has ys (mark m y) x h

pub marked-only : (xs : List ℕ) (m : Marks) (x : ℕ) → marked m xs x ≡ true → (m x ≡ true) ⊎ Mem x xs
marked-only [] m x e = inl e
marked-only (y ∷ ys) m x e =
    ⊎_elim (λ (f : mark m y x ≡ true). at (mark-only m y x f)) (λ (h : Mem x ys). inr (inr h)) (marked-only ys (mark m y) x e)
  where
    at : (m x ≡ true) ⊎ (x ≡ y) → (m x ≡ true) ⊎ Mem x (y ∷ ys)
    at (inl f) = inl f
    at (inr q) = inr (inl q)

-- ---- first occurrences
module _ (m : Marks) (i : ℕ) (l : List ℕ) where
  pub firsts_old : m i ≡ true → firsts m (i ∷ l) ≡ firsts m l
  firsts_old e = ap (λ (b : Bool). cond b (firsts m l) (i ∷ firsts (mark m i) l)) e

  pub firsts_new : m i ≡ false → firsts m (i ∷ l) ≡ i ∷ firsts (mark m i) l
  firsts_new e = ap (λ (b : Bool). cond b (firsts m l) (i ∷ firsts (mark m i) l)) e

-- a list that is joined of two: of the second, what the first has not
pub firsts-append : (xs ys : List ℕ) (m : Marks) → firsts m (xs ++ ys) ≡ firsts m xs ++ firsts (marked m xs) ys
firsts-append [] ys m = refl
firsts-append (x ∷ xs) ys m =
    by_cases (m x)
    (λ e.
    firsts_old m x (xs ++ ys) e
    ∙ firsts-append xs ys m
    ∙ ap (λ (n : Marks). firsts m xs ++ firsts (marked n xs) ys) (sym (mark-again m x e))
    ∙ ap (λ (l : List ℕ). l ++ firsts (marked (mark m x) xs) ys) (sym (firsts_old m x xs e)))
    (λ e.
    firsts_new m x (xs ++ ys) e
    ∙ ap (λ (l : List ℕ). x ∷ l) (firsts-append xs ys (mark m x))
    ∙ ap (λ (l : List ℕ). l ++ firsts (marked (mark m x) xs) ys) (sym (firsts_new m x xs e)))

-- the first occurrences leave the same marks as the whole list
pub marked-firsts : (l : List ℕ) (m : Marks) → marked m (firsts m l) ≡ marked m l
marked-firsts [] m = refl
marked-firsts (x ∷ l) m =
    by_cases (m x)
    (λ e. ap (marked m) (firsts_old m x l e) ∙ marked-firsts l m ∙ ap (λ (n : Marks). marked n l) (sym (mark-again m x e)))
    (λ e. ap (marked m) (firsts_new m x l e) ∙ marked-firsts l (mark m x))

-- each of the list that has no mark is among them, and no other
mark-less : (m : Marks) (i x : ℕ) → mark m i x ≡ false → m x ≡ false
mark-less m i x e = by_cases (m x) (λ q. absurd (not_both (mark-keeps m i x q) e)) (λ q. q)

pub firsts-only : (l : List ℕ) (m : Marks) (y : ℕ) → Mem y (firsts m l) → Mem y l × (m y ≡ false)
firsts-only [] m y h = absurd h
firsts-only (x ∷ l) m y h = at (m x) refl (firsts-only l m y) (firsts-only l (mark m x) y) h
  where
    at : (b : Bool) → m x ≡ b → (Mem y (firsts m l) → Mem y l × (m y ≡ false)) → (Mem y (firsts (mark m x) l) → Mem y l × (mark m x y ≡ false))
        → Mem y (cond b (firsts m l) (x ∷ firsts (mark m x) l)) → Mem y (x ∷ l) × (m y ≡ false)
    at true e f g q = (inr (f q).0, (f q).1)
    at false e f g (inl p) = (inl p, ap m p ∙ e)
    at false e f g (inr q) = (inr (g q).0, mark-less m x y (g q).1)

pub firsts_has : (l : List ℕ) (m : Marks) (y : ℕ) → Mem y l → m y ≡ false → Mem y (firsts m l)
firsts_has [] m y h n = absurd h
firsts_has (x ∷ l) m y (inl p) n =
    by_cond (Mem y) (m x) (firsts m l) (x ∷ firsts (mark m x) l) (λ e. absurd (not_both (ap m p ∙ e) n)) (λ e. inl p)
firsts_has (x ∷ l) m y (inr q) n =
    by_cond (Mem y) (m x) (firsts m l) (x ∷ firsts (mark m x) l) (λ e. firsts_has l m y q n) (λ e. at (ℕ_discrete y x) (firsts_has l (mark m x) y q))
  where
    at : Dec (y ≡ x) → (mark m x y ≡ false → Mem y (firsts (mark m x) l)) → Mem y (x ∷ firsts (mark m x) l)
    at (yes p) f = inl p
    at (no d) f = inr (f (mark-other m x y d ∙ n))

-- each once
abbrev pub Distinct : List ℕ → Type 0
Distinct [] = Unit {0}
Distinct (x ∷ xs) = (Mem x xs → ⊥) × Distinct xs

pub firsts_once : (l : List ℕ) (m : Marks) → Distinct (firsts m l)
firsts_once [] m = tt
firsts_once (x ∷ l) m =
    by_cond Distinct (m x) (firsts m l) (x ∷ firsts (mark m x) l) (λ e. firsts_once l m)
    (λ e. (λ h. not_both (mark_same m x) (firsts-only l (mark m x) x h).1, firsts_once l (mark m x)))

-- marks that agree on a list leave the same first occurrences
pub firsts_agree : (l : List ℕ) (m n : Marks) → All (λ x. m x ≡ n x) l → firsts m l ≡ firsts n l
firsts_agree [] m n a = refl
firsts_agree (x ∷ l) m n a =
    ap (λ (b : Bool). cond b (firsts m l) (x ∷ firsts (mark m x) l)) a.0
    ∙ ap (λ (t : List ℕ). cond (n x) t (x ∷ firsts (mark m x) l)) (firsts_agree l m n a.1)
    ∙ ap (λ (t : List ℕ). cond (n x) (firsts n l) (x ∷ t)) (firsts_agree l (mark m x) (mark n x) (both l a.1))
  where
    both : (l : List ℕ) → All (λ y. m y ≡ n y) l → All (λ y. mark m x y ≡ mark n x y) l
    both [] a = tt
    both (y ∷ l) a = (ap (λ (b : Bool). eqb y x || b) a.0, both l a.1)

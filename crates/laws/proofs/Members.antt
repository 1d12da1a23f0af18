-- Members of lists, and what holds of all of them.
-- Assumes nothing.
use mathlib.Core.Path.{◌≡◌, refl, sym, ap, ◌∙◌, subst}
use mathlib.Core.Logic.{◌⊎◌, inl, inr, ⊎_elim}
use mathlib.Core.List.{List, [], ◌∷◌, ◌++◌, append_assoc}
use Prim.Native.Nat.{ℕ, ◌≤◌, ◌<◌}
use native.Mathlib.Omega.{arith}
use Rattle.rules.specs.Meaning.{Mem, All}
use Rattle.rules.specs.Syntax.{flat}

module _ {A : Type 0} where
  pub all_at : (P : A → Type 0) (xs : List A) → All P xs → (x : A) → Mem x xs → P x
  all_at P [] a x h = absurd h
  all_at P (y ∷ ys) a x (inl e) = subst P (sym e) a.0
  all_at P (y ∷ ys) a x (inr h) = all_at P ys a.1 x h

  pub all_of : (P : A → Type 0) (xs : List A) → ((x : A) → Mem x xs → P x) → All P xs
  all_of P [] f = tt
  all_of P (y ∷ ys) f = (f y (inl refl), all_of P ys (λ x h. f x (inr h)))

  pub all_map : (P Q : A → Type 0) → ((x : A) → P x → Q x) → (xs : List A) → All P xs → All Q xs
  all_map P Q f [] a = tt
  all_map P Q f (y ∷ ys) a = (f y a.0, all_map P Q f ys a.1)

  pub all_append : (P : A → Type 0) (xs ys : List A) → All P xs → All P ys → All P (xs ++ ys)
  all_append P [] ys a b = b
  all_append P (x ∷ xs) ys a b = (a.0, all_append P xs ys a.1 b)

  pub all_left : (P : A → Type 0) (xs ys : List A) → All P (xs ++ ys) → All P xs
  all_left P [] ys a = tt
  all_left P (x ∷ xs) ys a = (a.0, all_left P xs ys a.1)

  pub all_right : (P : A → Type 0) (xs ys : List A) → All P (xs ++ ys) → All P ys
  all_right P [] ys a = a
  all_right P (x ∷ xs) ys a = all_right P xs ys a.1

  pub mem_left : (y : A) (xs ys : List A) → Mem y xs → Mem y (xs ++ ys)
  mem_left y [] ys h = absurd h
  mem_left y (x ∷ xs) ys (inl e) = inl e
  mem_left y (x ∷ xs) ys (inr h) = inr (mem_left y xs ys h)

  pub mem_right : (y : A) (xs ys : List A) → Mem y ys → Mem y (xs ++ ys)
  mem_right y [] ys h = h
  mem_right y (x ∷ xs) ys h = inr (mem_right y xs ys h)

  pub mem_split : (y : A) (xs ys : List A) → Mem y (xs ++ ys) → Mem y xs ⊎ Mem y ys
  mem_split y [] ys h = inr h
  mem_split y (x ∷ xs) ys (inl e) = inl (inl e)
  mem_split y (x ∷ xs) ys (inr h) = ⊎_elim (λ (l : Mem y xs). inl (inr l)) (λ (q : Mem y ys). inr q) (mem_split y xs ys h)

  pub mem_one : (y x : A) → Mem y (x ∷ []) → y ≡ x
  mem_one y x (inl e) = e
  mem_one y x (inr n) = absurd n

-- numbers below one bound are below a higher one
pub all_below : (i d : ℕ) → i ≤ d → (xs : List ℕ) → All (λ j. j < i) xs → All (λ j. j < d) xs
all_below i d h [] a = tt
all_below i d h (x ∷ xs) a = (omega (arith, a.0), all_below i d h xs a.1)

module _ {A B : Type 0} (f : A → List B) where
  pub mem_flat : (y : B) (j : A) (xs : List A) → Mem j xs → Mem y (f j) → Mem y (flat f xs)
  mem_flat y j [] h q = absurd h
  mem_flat y j (x ∷ xs) (inl e) q = mem_left y (f x) (flat f xs) (subst (λ (n : A). Mem y (f n)) e q)
  mem_flat y j (x ∷ xs) (inr h) q = mem_right y (f x) (flat f xs) (mem_flat y j xs h q)

  pub flat_mem : (y : B) (xs : List A) → Mem y (flat f xs) → (j : A) × Mem j xs × Mem y (f j)
  flat_mem y [] h = absurd h
  flat_mem y (x ∷ xs) h =
      ⊎_elim (λ (l : Mem y (f x)). (x, inl refl, l))
      (λ (q : Mem y (flat f xs)). let g : (j : A) × Mem j xs × Mem y (f j) = flat_mem y xs q in (g.0, inr g.1, g.2))
      (mem_split y (f x) (flat f xs) h)

  pub flat_append : (xs ys : List A) → flat f (xs ++ ys) ≡ flat f xs ++ flat f ys
  flat_append [] ys = refl
  flat_append (x ∷ xs) ys = ap (λ (l : List B). f x ++ l) (flat_append xs ys) ∙ sym (append_assoc (f x) (flat f xs) (flat f ys))

  pub flat_cong : (g : A → List B) (xs : List A) → ((j : A) → Mem j xs → f j ≡ g j) → flat f xs ≡ flat g xs
  flat_cong g [] h = refl
  flat_cong g (x ∷ xs) h = ap (λ (l : List B). l ++ flat f xs) (h x (inl refl)) ∙ ap (λ (l : List B). g x ++ l) (flat_cong g xs (λ j q. h j (inr q)))

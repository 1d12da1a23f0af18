-- A function along a list, beside `flat` and `onto`.
-- Assumes nothing.
use mathlib.Core.Path.{◌≡◌, refl, ap, ◌∙◌}
use mathlib.Core.List.{List, [], ◌∷◌, ◌++◌, map}
use Rattle.rules.specs.Syntax.{flat}

module _ {A B : Type 0} (f : A → B) where
  pub map_join : (xs ys : List A) → map f (xs ++ ys) ≡ map f xs ++ map f ys
  map_join [] ys = refl
  map_join (x ∷ xs) ys = ap (λ (l : List B). f x ∷ l) (map_join xs ys)

module _ {A B C : Type 0} where
  -- along a list that is joined, and along one that f made
  pub map-flat : (f : B → C) (g : A → List B) (xs : List A) → map f (flat g xs) ≡ flat (λ x. map f (g x)) xs
  map-flat f g [] = refl
  map-flat f g (x ∷ xs) = map_join f (g x) (flat g xs) ∙ ap (λ (l : List C). map f (g x) ++ l) (map-flat f g xs)

  pub flat_map : (f : A → B) (g : B → List C) (xs : List A) → flat g (map f xs) ≡ flat (λ x. g (f x)) xs
  flat_map f g [] = refl
  flat_map f g (x ∷ xs) = ap (λ (l : List C). g (f x) ++ l) (flat_map f g xs)
